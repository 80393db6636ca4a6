-- How writing in pieces composes, and that a count that rose stays risen.
use Rattle.std.proofs.Common.{◌≡◌, ℕ, ◌≤◌, List, [], ◌++◌, Option, Some, None, refl, sym, ap, ◌∙◌, inl, inr, arith, take, drop, length, ◌+◌, subst}
use Rattle.std.proofs.lemmas.List.{append_assoc, append-nil, take-append-drop, drop-drop, drop_all}
use Rattle.dcd_base.specs.Streams.{HasRisen, taken_after, with_front, Passes}

-- nothing after what was taken is what was taken
pub taken_after_nothing : (taken : Option (List ℕ)) → taken ≡ taken_after [] taken
taken_after_nothing None = refl
taken_after_nothing (Some before) = ap (λ xs. Some xs) (sym (append-nil before))

-- first these bytes, then those
pub taken_after_twice : (taken : Option (List ℕ)) (first next : List ℕ) → taken_after next (taken_after first taken) ≡ taken_after (first ++ next) taken
taken_after_twice None first next = refl
taken_after_twice (Some before) first next = ap (λ xs. Some xs) (append_assoc before first next)

-- at the start all is left
pub passes_start : (taken : Option (List ℕ)) (whole : List ℕ) → Passes taken taken whole whole
passes_start taken whole = record { sent = []; took = taken_after_nothing taken; parts = refl }

-- a write took the front of what was left
pub passes_then : {old new next : Option (List ℕ)} {whole : List ℕ} → (front rest : List ℕ) → Passes old new (front ++ rest) whole
    → next ≡ taken_after front new → Passes old next rest whole
passes_then {old} {new} {next} {whole} front rest p e = record {
  sent = p.sent ++ front;
  took = e ∙ ap (λ t. taken_after front t) p.took ∙ taken_after_twice old p.sent front;
  parts = p.parts ∙ sym (append_assoc p.sent front rest);
}

-- more comes behind what is left
pub passes_more : {old new : Option (List ℕ)} {rest whole : List ℕ} → (more : List ℕ) → Passes old new rest whole
    → Passes old new (rest ++ more) (whole ++ more)
passes_more {old} {new} {rest} {whole} more p = record {
  sent = p.sent;
  took = p.took;
  parts = ap (λ xs. xs ++ more) p.parts ∙ append_assoc p.sent rest more;
}

-- a front of the bytes is on its way, whatever comes after
pub passes_front : {old new : Option (List ℕ)} {rest whole : List ℕ} → (more : List ℕ) → Passes old new rest whole
    → (left : List ℕ) × Passes old new left (whole ++ more)
passes_front {old} {new} {rest} {whole} more p = (rest ++ more, passes_more more p)

-- one whole after another
pub passes_both : {old new next : Option (List ℕ)} {first rest second : List ℕ} → Passes old new [] first → Passes new next rest second
    → Passes old next rest (first ++ second)
passes_both {old} {new} {next} {first} {rest} {second} p q = record {
  sent = p.sent ++ q.sent;
  took = q.took ∙ ap (λ t. taken_after q.sent t) p.took ∙ taken_after_twice old p.sent q.sent;
  parts = ap (λ xs. xs ++ second) (p.parts ∙ append-nil p.sent) ∙ ap (λ ys. p.sent ++ ys) q.parts ∙ sym (append_assoc p.sent q.sent rest);
}

-- what was read first stands in front of what was read next
pub with_front_twice : (left : Option (List ℕ)) (first next : List ℕ) → with_front first (with_front next left) ≡ with_front (first ++ next) left
with_front_twice None first next = refl
with_front_twice (Some rest) first next = ap (λ xs. Some xs) (sym (append_assoc first next rest))

-- a count that did not fall and then rose has risen
pub risen_before : {a b c : ℕ} → a ≤ b → HasRisen b c → HasRisen a c
risen_before le (inl less) = inl (omega (arith, less, le))
risen_before le (inr last) = inr last

-- a write took so many bytes of what was left of a piece
pub passes_write : {old new next : Option (List ℕ)} {whole : List ℕ} → (piece : List ℕ) (at n : ℕ) → Passes old new (drop at piece) whole
    → next ≡ taken_after (take n (drop at piece)) new → Passes old next (drop (at + n) piece) whole
passes_write {old} {new} {next} {whole} piece at n p e =
    let split : drop at piece ≡ take n (drop at piece) ++ drop (at + n) piece =
    sym (take-append-drop n (drop at piece)) ∙ ap (λ ys. take n (drop at piece) ++ ys) (drop-drop n at piece)
    in passes_then (take n (drop at piece)) (drop (at + n) piece) (subst (λ r. Passes old new r whole) split p) e

-- nothing is left past the end
pub passes_end : {old new : Option (List ℕ)} {whole : List ℕ} → (piece : List ℕ) (at : ℕ) → length piece ≤ at → Passes old new (drop at piece) whole
    → Passes old new [] whole
passes_end {old} {new} {whole} piece at past p = subst (λ r. Passes old new r whole) (drop_all at piece past) p
