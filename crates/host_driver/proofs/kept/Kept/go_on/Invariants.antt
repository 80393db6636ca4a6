use Rattle.std.proofs.Common.{◌≡◌, ◌-◌, length}
use Rattle.host_driver.specs.{Driving.gone_on, Keeping.HasSpare, Keeping.kept_in}
use Rattle.host_driver.proofs.kept.Kept.go_on.Given as goal

-- What is left to do of the page is what there was to do.
abbrev pub invariant-loop-self : goal.invariant-loop-self
invariant-loop-self l = record {
  room : HasSpare (length (kept_in l.self).records) l.self;
  ahead : gone_on (kept_in l.self) ≡ gone_on (kept_in l.fn.self);
}

abbrev pub decreases-loop-self : goal.decreases-loop-self
decreases-loop-self l = length l.self.page - l.self.at
