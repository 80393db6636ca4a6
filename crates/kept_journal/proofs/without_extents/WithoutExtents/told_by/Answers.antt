use Rattle.std.{proofs.Common.[], proofs.Common.None, proofs.Common.ap, proofs.Common.sym, proofs.Common.◌∙◌, specs.Prelude.filter_map}
use Rattle.kept_journal.{specs.Slots.no_slots, specs.Tokens.effect_alone, specs.Tokens.tokens_in, proofs.Gathered.alone_back}
use Rattle.kept_journal.proofs.without_extents.WithoutExtents.told_by.Goals as goal

pub returns : goal.returns
returns c = ap (filter_map effect_alone) c.new.ensures ∙ sym (alone_back [] (tokens_in no_slots None c.args.bytes.now))
