use Rattle.std.{proofs.Common.◌≡◌, proofs.Common.take, specs.Prelude.All, specs.Prelude.fold}
use Rattle.device_state.specs.{Entered.holders_by, Entered.present_by, Granules.CellsOver, Granules.IsLastRegion, Stages.PartsOver, Updates.IsOfDevice}
use Rattle.device_state.proofs.state.State.change_all.Given as goal

abbrev pub invariant-loop-effect : goal.invariant-loop-effect
invariant-loop-effect l = record {
  last : IsLastRegion l.config l.last;
  cells : CellsOver l.config (take l.effect-index l.effects) l.fn.self l.self.granules;
  present : l.self.present ≡ fold present_by l.fn.self.present (take l.effect-index l.effects);
  holders : l.self.holders ≡ fold holders_by l.fn.self.holders (take l.effect-index l.effects);
  parts : PartsOver (take l.effect-index l.effects) l.fn.self l.self;
  tags : l.self.tags ≡ l.fn.self.tags;
  of_present : All (IsOfDevice l.self.present) l.effects;
}
