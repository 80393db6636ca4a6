-- Items entry by entry, and what effects bring a host effect by effect.
use Rattle.std.proofs.Common.{◌≡◌, ℕ, ◌+◌, ◌<◌, List, [], ◌∷◌, ◌++◌, length, take, get_or, Option, sym, ap, ◌∙◌, append_assoc}
use Rattle.std.{specs.Prelude.filter_map, proofs.lemmas.List.take_more, proofs.lemmas.List.Elements.filter_map-append}

-- one more element
pub filtered_more : {X Y : Type 0} (f : X → Option Y) (xs : List X) (i : ℕ) (x : X) (before old new : List Y) → i < length xs → x ≡ get_or xs i x →
    old ≡ before ++ filter_map f (take i xs) → new ≡ old ++ filter_map f (x ∷ []) → new ≡ before ++ filter_map f (take (i + 1) xs)
filtered_more f xs i x before old new below is so_far added =
    added ∙ ap (λ ys. ys ++ filter_map f (x ∷ [])) so_far ∙ append_assoc before (filter_map f (take i xs)) (filter_map f (x ∷ []))
    ∙ ap (λ ys. before ++ ys) (sym (filter_map-append f (take i xs) (x ∷ [])) ∙ ap (filter_map f) (sym more))
  where
    more : take (i + 1) xs ≡ take i xs ++ x ∷ []
    more = take_more xs i x below ∙ ap (λ y. take i xs ++ y ∷ []) (sym is)
