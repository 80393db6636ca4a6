use Rattle.workers.specs.Worklists.{ArePartedFrom}
use Rattle.workers.proofs.worklists.link_all.Given as goal

abbrev pub invariant-loop-place : goal.invariant-loop-place
invariant-loop-place l = ArePartedFrom l.hosts l.lanes l.lines l.place l.heads l.next
