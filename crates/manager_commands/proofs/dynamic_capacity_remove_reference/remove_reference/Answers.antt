use Rattle.std.proofs.Common.{not, refl, sym, ap, false, List, [], ◌∷◌, ◌++◌, ◌∙◌}
use Rattle.event_records.specs.dcd_base.specs.declared.capacity.Tag.{Tag}
use Rattle.extent_list.specs.dcd_codes.specs.{Rules.◌breaks◌, declared.rules.Rule.Rule}
use Rattle.journal_core.specs.declared.outcome.Effect.{Effect}
use Rattle.manager_commands.proofs.TagReadings.{tags_referenced}
use Rattle.manager_commands.proofs.dynamic_capacity_remove_reference.remove_reference.Goals as goal

pub returns-then-not-is_referenced : goal.returns-then-not-is_referenced
returns-then-not-is_referenced c journal legal kept =
    ap (λ b. not b breaks Rule.NoReference) (tags_referenced c.args.config.now journal c.args.state.now.tags.entries c.requires.reached.sound legal kept.tags_are c.args.tag.now ∙ sym c.is_referenced.ensures ∙ c.if-not-is_referenced.true)

pub returns : goal.returns
returns c journal legal kept = (
  ap (λ b. not b breaks Rule.NoReference) (tags_referenced c.args.config.now journal c.args.state.now.tags.entries c.requires.reached.sound legal kept.tags_are c.args.tag.now ∙ sym c.is_referenced.ensures ∙ c.if-not-is_referenced.false),
  record {
    payload = c.new.ensures;
    changes = c.in_ok-push.ensures.pushed ∙ ap (λ (changes : List Effect). changes ++ Effect.Ref c.args.tag.now false ∷ []) c.new-changes.ensures;
    tags = c.in_ok-push-2.ensures.pushed ∙ ap (λ (tags : List Tag). tags ++ c.args.tag.now ∷ []) c.new-tags.ensures;
    log_records = c.new-2.ensures;
    untold = refl;
  },
)
