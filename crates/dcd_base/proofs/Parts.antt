-- What a source in memory gives and what it has left are what was left before.
use Rattle.std.proofs.Common.{◌≡◌, ℕ, ◌+◌, List, ◌++◌, take, drop, sym, ap, ◌∙◌}
use Rattle.std.proofs.lemmas.List.{take-append-drop, drop-drop}

pub parts : (bytes buf : List ℕ) (at n : ℕ) → take n buf ≡ take n (drop at bytes)
    → drop at bytes ≡ take n buf ++ drop (at + n) bytes
parts bytes buf at n e =
    sym (take-append-drop n (drop at bytes))
    ∙ ap (λ xs. xs ++ drop n (drop at bytes)) (sym e)
    ∙ ap (λ ys. take n buf ++ ys) (drop-drop n at bytes)
