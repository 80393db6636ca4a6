use Rattle.std.proofs.Common.{⊎_elim, inl, inr, ◌≡◌, ◌<◌, length}
use Rattle.ruled_cells.proofs.ClosingSteps.{in_front, at_end, in_either, gathered_itself, still_of, still_none, each_gathered}
use Rattle.ruled_cells.proofs.closing.gather.Goals as goal

pub loop-other-init : goal.loop-other-init
loop-other-init g c =
    let all = c.args.seats.items in
    let front = c.pop.new.self.items in
    let main = c.in-Some.main in
    let is = c.in-Some.ensures.items in
    let at = at_end all front main is in record {
      of = (c.requires.all.of (length front) main at, c.requires.all.no_turns (length front) main at);
      front = in_front all front main is;
      each = λ k s e. ⊎_elim (λ (lt : k < length front). inl lt) (λ (q : main ≡ s). inr (gathered_itself main s q)) (in_either all front main is k s e);
    }

pub merge-requires-clause-of : goal.merge-requires-clause-of
merge-requires-clause-of g c =
    let i = c.loop-other.invariant in
    let front = c.pop-in-loop-other.new.self.items in
    let other = c.in-Some-pop.other in
    (i.of.0, c.requires.all.of (length front) other (i.front (length front) other (at_end c.loop-other.seats.items front other c.in-Some-pop.ensures.items)))

pub merge-requires-clause-no_turns : goal.merge-requires-clause-no_turns
merge-requires-clause-no_turns g c =
    let i = c.loop-other.invariant in
    let front = c.pop-in-loop-other.new.self.items in
    let other = c.in-Some-pop.other in
    c.requires.all.no_turns (length front) other (i.front (length front) other (at_end c.loop-other.seats.items front other c.in-Some-pop.ensures.items))

pub loop-other-preserved : goal.loop-other-preserved
loop-other-preserved g c =
    let i = c.loop-other.invariant in
    let seats = c.loop-other.seats.items in
    let front = c.pop-in-loop-other.new.self.items in
    let other = c.in-Some-pop.other in
    let is = c.in-Some-pop.ensures.items in
    let main = c.loop-other.main in
    let joins = c.merge.ensures.joint in record {
      of = (still_of c.args.cells.now main c.merge.new.seat c.merge.ensures.seat i.of.0, still_none main.token.me other.token.me c.merge.new.seat.token.me joins i.of.1);
      front = λ k s e. i.front k s (in_front seats front other is k s e);
      each = each_gathered c.args.seats.items seats front other main.token.me c.merge.new.seat.token.me is i.front i.each joins;
    }
