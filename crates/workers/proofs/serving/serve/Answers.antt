use Rattle.std.proofs.Common.{[], ◌∷◌, ◌+◌, subst, sym}
use Rattle.workers.{specs.Phases.Grown, specs.Phases.tasks, specs.Worklists.IsNextOf, proofs.Standing.begins, proofs.Standing.goes_on, proofs.Standing.next_there}
use Rattle.workers.proofs.serving.serve.Goals as goal

pub loop-place-init : goal.loop-place-init
loop-place-init g c =
    let phase = c.args.work.now.phase in
    let next = subst (λ n. IsNextOf phase.hosts phase.lanes phase.lines.now c.args.k 0 n) (sym c.head_of-place.ensures) (c.requires.work.parted.head c.args.k c.requires.pass) in
    record {
      there = next.there;
      stands = begins g.H.Handler.reads c.args.handler.now phase.hosts phase.lanes phase.first phase.lines.now c.args.k c.head_of-place.result c.args.pass.now next c.requires.ready;
    }

pub loop-place-preserved : goal.loop-place-preserved
loop-place-preserved g c =
    let phase = c.args.work.now.phase in
    let grown =
    subst (λ line. Grown (tasks phase.hosts phase.lanes c.args.k (phase.first + c.loop-place.place) (line ∷ [])) (g.H.Handler.reads.calls c.loop-place.pass) (g.H.Handler.reads.calls c.serve_line.new.pass))
    (sym c.index-of-place.is) c.in_ok-serve_line.ensures.grown in
    record {
      there =
          next_there g.H.Handler.reads c.args.handler.now phase.hosts phase.lanes phase.first phase.lines.now c.args.k c.loop-place.place c.next_after-place.result
          c.index-of-place.result c.args.work.now.next.items c.next_after-place.ensures c.loop-place.invariant.there c.loop-place-test.true c.requires.work.parted.link;
      stands =
          goes_on g.H.Handler.reads c.args.handler.now phase.hosts phase.lanes phase.first phase.lines.now c.args.k c.loop-place.place c.next_after-place.result c.args.pass.now
          c.loop-place.pass c.serve_line.new.pass c.index-of-place.result c.args.work.now.next.items c.next_after-place.ensures c.loop-place.invariant.there c.loop-place.invariant.stands
          c.loop-place-test.true c.index-of-place.is c.requires.work.parted.link c.serve_line.ensures.same grown;
    }
