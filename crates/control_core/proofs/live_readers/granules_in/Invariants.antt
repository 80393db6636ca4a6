use Rattle.std.{proofs.Common.◌≡◌, proofs.Common.◌≤◌, proofs.Common.◌*◌, proofs.Common.take, specs.Prelude.sum_by}
use Rattle.extent_list.specs.media_map.specs.Places.{run_of}
use Rattle.control_core.proofs.live_readers.granules_in.Given as goal

abbrev pub invariant-loop-i : goal.invariant-loop-i
invariant-loop-i l = record {
  sum : l.granules ≡ sum_by (λ x. (run_of l.config l.host x).count) (take l.i l.extents);
  few : l.granules ≤ l.i * 4096;
}
