-- What was read from a source, piece by piece.
use Rattle.std.proofs.Common.{◌≡◌, ℕ, ◌+◌, take, ◌<◌, ◌≤◌, List, ◌++◌, Option, Some, None, length, sym, ap, ◌∙◌, arith}
use Rattle.std.{specs.Option.IfSome, proofs.lemmas.List.append-nil, proofs.lemmas.List.length-append, proofs.lemmas.List.length-take, proofs.lemmas.List.take_at}
use Rattle.edge_io.specs.ReadEnds.{TakesAtMost, TakesAll, TakesMore}
use Rattle.dcd_base.{specs.Streams.with_front, proofs.Passing.with_front_twice}

never : {A : Type 0} (x : A) → Some x ≡ None → ⊥
never x e = cc

inner : {A : Type 0} (x y : A) → Some x ≡ Some y → x ≡ y
inner x y e = cc

-- A piece that was read behind others is taken from what was left.
pub taken_too : (old now new : Option (List ℕ)) (bytes buf : List ℕ) (n room most : ℕ) → old ≡ with_front bytes now → now ≡ with_front (take n buf) new
    → n ≤ room → length bytes + room ≤ most → TakesAtMost most old new
taken_too old now new bytes buf n room most given read few within = record {
  bytes = bytes ++ take n buf;
  few = omega (arith, length-append bytes (take n buf), length-take n buf, few, within);
  taken = given ∙ ap (with_front bytes) read ∙ with_front_twice new bytes (take n buf);
}

-- ---- for those who read

-- All that was left is these bytes.
pub all_is : (most : ℕ) (old new : Option (List ℕ)) (bytes : List ℕ) → TakesAll most old new bytes → IfSome old (λ all. bytes ≡ all)
all_is most None new bytes t = tt
all_is most (Some all) None bytes t = absurd (never all t.taken)
all_is most (Some all) (Some rest) bytes t = sym (inner all (bytes ++ rest) t.taken ∙ ap (λ xs. bytes ++ xs) t.end ∙ append-nil bytes)

-- More was left than was asked for.
pub more_left : (most : ℕ) (old new : Option (List ℕ)) → TakesMore most old new → IfSome old (λ all. most < length all)
more_left most None new t = tt
more_left most (Some all) None t = absurd (never all t.taken)
more_left most (Some all) (Some rest) t =
    omega (arith, ap length (inner all (t.bytes ++ rest) t.taken), length-append t.bytes rest, t.one_more)

-- What was taken is the front of it.
pub front_is : (most : ℕ) (old new : Option (List ℕ)) (t : TakesMore most old new) → IfSome old (λ all. t.bytes ≡ take (most + 1) all)
front_is most None new t = tt
front_is most (Some all) None t = absurd (never all t.taken)
front_is most (Some all) (Some rest) t =
    sym (ap (take (most + 1)) (inner all (t.bytes ++ rest) t.taken) ∙ take_at t.bytes rest (most + 1) t.one_more)
