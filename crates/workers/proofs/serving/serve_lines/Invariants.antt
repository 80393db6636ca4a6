use Rattle.workers.proofs.Standing.{StandsAt}
use Rattle.workers.proofs.serving.serve_lines.Given as goal

abbrev pub invariant-loop-place : goal.invariant-loop-place
invariant-loop-place g l = StandsAt g.H.Handler.reads l.fn.handler l.fn.of.hosts l.fn.of.lanes l.fn.of.first l.fn.of.lines.now l.fn.k l.place l.fn.pass l.pass
