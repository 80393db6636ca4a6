use Rattle.std.{proofs.Common.not, proofs.Common.sym, proofs.Common.ap, proofs.Common.true, proofs.Common.◌∙◌, specs.Prelude.if◌then◌else◌, specs.Prelude.[], specs.Prelude.◌∷◌}
use Rattle.extent_list.specs.dcd_codes.specs.{Rules.◌breaks◌, declared.rules.Rule.Rule}
use Rattle.journal_core.specs.declared.outcome.Effect.{Effect}
use Rattle.manager_commands.proofs.{Drafting.changes_alone, TagReadings.tags_open, TagReadings.tags_referenced}
use Rattle.manager_commands.proofs.dynamic_capacity_add_reference.add_reference.Goals as goal

pub returns-then-not-is_live : goal.returns-then-not-is_live
returns-then-not-is_live c journal legal kept =
    ap (λ b. not b breaks Rule.NoSuchTag) (tags_open c.args.config.now journal c.args.state.now.tags.entries c.requires.reached.sound legal kept.tags_are c.args.tag.now ∙ sym c.is_live.ensures ∙ c.if-not-is_live.true)

pub returns : goal.returns
returns c journal legal kept = (
  ap (λ b. not b breaks Rule.NoSuchTag) (tags_open c.args.config.now journal c.args.state.now.tags.entries c.requires.reached.sound legal kept.tags_are c.args.tag.now ∙ sym c.is_live.ensures ∙ c.if-not-is_live.false),
  changes_alone _ _ c.changing.result c.changing.ensures
      (c.in_ok-changes.ensures
      ∙ ap (λ b. if b then [] else Effect.Ref c.args.tag.now true ∷ []) (sym (tags_referenced c.args.config.now journal c.args.state.now.tags.entries c.requires.reached.sound legal kept.tags_are c.args.tag.now))),
)
