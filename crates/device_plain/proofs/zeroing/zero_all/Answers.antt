use Rattle.std.proofs.Common.{rules, ◌∙◌, subst}
use Rattle.device_plain.{specs.Accesses.IsZeroedBy, proofs.ZeroedWords.zeroed_more}
use Rattle.device_plain.proofs.zeroing.zero_all.Goals as goal

pub loop-i-preserved : goal.loop-i-preserved
loop-i-preserved c = record {
  zeroed = zeroed_more c.args.words.now c.loop-i.words c.zero_by.new.words c.args.effects.now c.loop-i.i _ (search rules) c.loop-i.invariant.zeroed
      (subst (IsZeroedBy c.loop-i.words c.zero_by.new.words) c.index-effects-i.is c.zero_by.ensures.words);
  granules = c.zero_by.ensures.granules ∙ c.loop-i.invariant.granules;
}
