use Rattle.std.{proofs.Common.List, proofs.Common.◌++◌, proofs.Common.ap, proofs.Common.append-nil, proofs.Common.◌∙◌, specs.Prelude.filter_map}
use Rattle.kept_journal.{specs.Slots.no_slots, specs.Tokens.effect_alone, specs.Tokens.without_extents, specs.declared.tokens.Token.Token, proofs.CoderSteps.nothing_told}
use Rattle.kept_journal.proofs.without_extents.WithoutExtents.among.Goals as goal

pub returns : goal.returns
returns c =
    ap (λ (tokens : List Token). without_extents c.args.effects.now ++ filter_map effect_alone tokens) (c.new.ensures ∙ nothing_told no_slots)
    ∙ append-nil (without_extents c.args.effects.now)
