use Rattle.std.proofs.Common.{◌≡◌, ◌++◌, ◌∷◌, [], List, ap, drop, ◌∙◌}
use Rattle.journal_core.specs.{Entries.next_entry, declared.entries.Entry.Entry, declared.outcome.Effect.Effect}
use Rattle.kept_journal.proofs.{Keepings.put_behind, Keepings.widths_behind, StepBytes.step_put, StepBytes.step_tells}
use Rattle.kept_journal.specs.{Keeping.Keeping, Keeping.asked_of, Keeping.replied_of, declared.kept_steps.Kept.Kept}
use Rattle.kept_journal.proofs.kept_entries.KeptEntries.append_small.Goals as goal

pub invariant_of-self : goal.invariant_of-self
invariant_of-self c =
    let old = c.self.inside.coder.bytes.items in
    let new = c.append_bytes.new.coder.bytes.items in
    let asked = asked_of c.args.act.now in
    let replied = replied_of c.args.reply.now in
    let told = c.split_at.result.1.now in
    let is : told ≡ drop c.in-Ok.at new = c.split_at.ensures.back ∙ ap (drop c.in-Ok.at) c.as_slice.ensures.value in
    widths_behind c.self.inside.kept.items c.push_reserved.new.self.items (Kept.Step c.in-Some.step) old (asked ++ (replied ++ told)) new
    c.push_reserved.ensures.items (step_put old new asked replied told c.args.effects.now c.in-Ok.at c.in-Ok.ensures.put is) c.self.invariant c.in-Some.ensures.width

pub returns-in-Some-clause-put : goal.returns-in-Some-clause-put
returns-in-Some-clause-put c =
    let entries = c.args.self.now.entries in
    let old = c.self.inside.coder.bytes.items in
    let new = c.append_bytes.new.coder.bytes.items in
    let asked = asked_of c.args.act.now in
    let replied = replied_of c.args.reply.now in
    let told = c.split_at.result.1.now in
    let is : told ≡ drop c.in-Ok.at new = c.split_at.ensures.back ∙ ap (drop c.in-Ok.at) c.as_slice.ensures.value in
    put_behind c.self.inside.kept.items c.push_reserved.new.self.items (Kept.Step c.in-Some.step) old (asked ++ (replied ++ told)) new entries
    c.push_reserved.ensures.items (step_put old new asked replied told c.args.effects.now c.in-Ok.at c.in-Ok.ensures.put is)
    (ap (λ (v : Keeping). v.entries) c.self.view_is) c.self.invariant c.in-Some.ensures.width
    ∙ ap (λ (e : Entry). entries ++ e ∷ []) (c.in-Some.ensures.entry entries
    ∙ ap (λ (es : List Effect). next_entry entries c.args.pass c.args.line c.args.actor c.args.act.now (c.args.reply.now, es)) (step_tells old new asked replied told c.args.effects.now c.in-Ok.at c.in-Ok.ensures.put is))
