use Rattle.std.specs.{Prelude.◌≡◌, Prelude.◌++◌, Prelude.map, Prelude.vec_capacity, Vec.Iter.into_iter_items}
use Rattle.shared_device.proofs.close.seats_in.Given as goal

abbrev pub invariant-loop-pass : goal.invariant-loop-pass
invariant-loop-pass l = record {
  seats : l.seats.items ≡ map (λ p. p.seat) l.yielded;
  passes : l.fn.passes.items ≡ l.yielded ++ into_iter_items l.pass-iterator;
  room : vec_capacity l.seats ≡ vec_capacity l.fn.seats;
}
