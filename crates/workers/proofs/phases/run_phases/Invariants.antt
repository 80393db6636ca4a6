use Rattle.std.{proofs.Common.◌≡◌, proofs.Common.◌+◌, proofs.Common.◌*◌, proofs.Common.length, proofs.Common.IsTrue, specs.List.list_all}
use Rattle.script_codec.specs.Scripts.{is_sound_line}
use Rattle.workers.{specs.Serving.EachPair, proofs.Phasing.HasServedTo}
use Rattle.workers.proofs.phases.run_phases.Given as goal

abbrev pub invariant-loop-rest : goal.invariant-loop-rest
invariant-loop-rest g l = record {
  served :
      EachPair (HasServedTo g.H.Handler.reads l.fn.handler (g.H.Handler.reads.hosts l.fn.handler) l.fn.lanes l.fn.first_line l.fn.lines l.number l.rest) 0 l.fn.passes l.passes;
  sound : IsTrue (list_all (is_sound_line (g.H.Handler.reads.hosts l.fn.handler) l.fn.lanes) l.rest);
  count : length l.passes ≡ g.H.Handler.reads.hosts l.fn.handler * l.fn.lanes + 2;
  numbers : l.number + length l.rest ≡ l.fn.first_line + length l.fn.lines;
}

abbrev pub decreases-loop-rest : goal.decreases-loop-rest
decreases-loop-rest g l = length l.rest
