use Rattle.std.proofs.Common.{◌∷◌, ◌++◌, [], List, sym, subst, ap, refl, ◌∙◌}
use Rattle.journal_core.specs.{declared.acts.Act.Act, declared.entries.Entry.Entry, Merging.merged}
use Rattle.region_config.specs.Configurations.{Configuration}
use Rattle.control_core.specs.{Deciding.IsShort, Steps.MayStep, Steps.journal_entry}
use Rattle.device_plain.{specs.Accesses.AreZeroed, specs.Devices.Plain, specs.Keeping.KeepsBoth, proofs.Merged.both_command, proofs.Merged.grown_command}
use Rattle.device_plain.proofs.device.Device.answered.Goals as goal

pub invariant_of-self-2 : goal.invariant_of-self-2
invariant_of-self-2 c =
    let in_it = c.self.inside in
    let before = in_it.control.entries in
    let may = subst (λ (a : Act). MayStep in_it.control.config c.args.actor a) (sym c.in_ok-act.ensures)
    (subst (λ (d : Plain). MayStep d.config c.args.actor c.args.act.now) (sym c.self.view_is) c.requires) in
    let next : Entry = journal_entry in_it.control.config before c.args.pass c.args.line c.args.actor c.in_ok-act.act in
    let is = c.in_ok-plan.ensures.entry in
    let entries = c.apply.ensures.entered ∙ (λ i. c.in_ok-plan.ensures.entries i ++ is i ∷ []) in
    let short = subst (λ (e : Entry). IsShort e.reply) is c.in_ok-plan.ensures.short in
    let zeroed = subst (AreZeroed in_it.words c.zero_all.new.words) (c.as_slice.ensures ∙ c.effects.ensures ∙ ap (λ (e : Entry). e.effects) is) c.zero_all.ensures.words in
    subst (λ (cfg : Configuration). KeepsBoth cfg c.apply.new.self.entries in_it.accesses.items c.zero_all.new.words 0) (sym (c.apply.ensures.config ∙ c.in_ok-plan.ensures.config))
    (subst (λ (es : List Entry). KeepsBoth in_it.control.config es in_it.accesses.items c.zero_all.new.words 0) (sym entries)
    (both_command in_it.control.config before in_it.accesses.items in_it.words in_it.since c.self.invariant c.args.pass c.args.line c.args.actor c.in_ok-act.act may
    short c.zero_all.new.words zeroed c.zero_all.ensures.granules))

pub returns-clause-entered : goal.returns-clause-entered
returns-clause-entered c =
    let in_it = c.self.inside in
    let before = in_it.control.entries in
    let may = subst (λ (a : Act). MayStep in_it.control.config c.args.actor a) (sym c.in_ok-act.ensures)
    (subst (λ (d : Plain). MayStep d.config c.args.actor c.args.act.now) (sym c.self.view_is) c.requires) in
    let next : Entry = journal_entry in_it.control.config before c.args.pass c.args.line c.args.actor c.in_ok-act.act in
    let is = c.in_ok-plan.ensures.entry in
    let entries = c.apply.ensures.entered ∙ (λ i. c.in_ok-plan.ensures.entries i ++ is i ∷ []) in
    record {
      entry = next;
      pass = refl;
      line = refl;
      actor = refl;
      act = c.in_ok-act.ensures;
      reply = sym (c.in_ok-reply.ensures ∙ ap (λ (e : Entry). e.reply) (c.entry.ensures ∙ is));
      config = c.apply.ensures.config ∙ c.in_ok-plan.ensures.config ∙ ap (λ (d : Plain). d.config) c.self.view_is;
      journal = ap (λ (es : List Entry). merged es (in_it.accesses.items ∷ [])) entries
          ∙ grown_command in_it.control.config before in_it.accesses.items in_it.words in_it.since c.self.invariant c.args.pass c.args.line c.args.actor c.in_ok-act.act may
          ∙ ap (λ (es : List Entry). es ++ next ∷ []) (ap (λ (d : Plain). d.journal) c.self.view_is);
    }
