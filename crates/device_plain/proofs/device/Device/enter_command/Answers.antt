use Rattle.std.proofs.Common.{◌∷◌, ◌++◌, [], List, sym, subst, ap, refl, ◌∙◌}
use Rattle.journal_core.specs.{declared.entries.Entry.Entry, Merging.merged}
use Rattle.region_config.specs.Configurations.{Configuration}
use Rattle.control_core.specs.Steps.{MayStep, journal_entry}
use Rattle.device_plain.{specs.Accesses.AreZeroed, specs.Devices.Plain, specs.Keeping.KeepsBoth, proofs.Merged.both_command, proofs.Merged.grown_command}
use Rattle.device_plain.proofs.device.Device.enter_command.Goals as goal

pub invariant_of-self-2 : goal.invariant_of-self-2
invariant_of-self-2 c =
    let in_it = c.self.inside in
    let before = in_it.control.entries in
    let may = subst (λ (d : Plain). MayStep d.config c.args.actor c.args.act.now) (sym c.self.view_is) c.requires in
    let next : Entry = journal_entry in_it.control.config before c.args.pass c.args.line c.args.actor c.args.act.now in
    let kept = both_command in_it.control.config before in_it.accesses.items in_it.words in_it.since c.self.invariant c.args.pass c.args.line c.args.actor c.args.act.now may
    c.in_ok-effects.ensures.short c.zero_all.new.words
    (subst (AreZeroed in_it.words c.zero_all.new.words) (c.as_slice.ensures ∙ c.in_ok-effects.ensures.effects) c.zero_all.ensures.words) c.zero_all.ensures.granules in
    subst (λ (cfg : Configuration). KeepsBoth cfg c.step.new.self.entries in_it.accesses.items c.zero_all.new.words 0) (sym c.step.ensures.config)
    (subst (λ (es : List Entry). KeepsBoth in_it.control.config es in_it.accesses.items c.zero_all.new.words 0) (sym c.in_ok-effects.ensures.entered) kept)

pub returns-clause-entered : goal.returns-clause-entered
returns-clause-entered c =
    let in_it = c.self.inside in
    let before = in_it.control.entries in
    let may = subst (λ (d : Plain). MayStep d.config c.args.actor c.args.act.now) (sym c.self.view_is) c.requires in
    let next : Entry = journal_entry in_it.control.config before c.args.pass c.args.line c.args.actor c.args.act.now in (
      next.reply,
      record {
        entry = next;
        pass = refl;
        line = refl;
        actor = refl;
        act = refl;
        reply = refl;
        config = c.step.ensures.config ∙ ap (λ (d : Plain). d.config) c.self.view_is;
        journal = ap (λ (es : List Entry). merged es (in_it.accesses.items ∷ [])) c.in_ok-effects.ensures.entered
            ∙ grown_command in_it.control.config before in_it.accesses.items in_it.words in_it.since c.self.invariant c.args.pass c.args.line c.args.actor c.args.act.now may
            ∙ ap (λ (es : List Entry). es ++ next ∷ []) (ap (λ (d : Plain). d.journal) c.self.view_is);
      },
    )
