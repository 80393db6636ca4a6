-- Flags that are kept as numbers.
use Rattle.std.proofs.Common.{◌≡◌, ℕ, zero, suc, ◌+◌, ◌<◌, Bool, true, false, cond, List, ◌∷◌, ◌++◌, eqb, length, map, get_or, take, drop, replicate, refl, ap, sym, ◌∙◌}
use Rattle.std.proofs.lemmas.List.{drop-map, get_or-map, length-map, map-append, take-map}
use Rattle.dcd_base.specs.declared.media.Run.{Run}
use Rattle.granule_map.specs.Parts.{flags_in, with_part}

pub flags_long : (bytes : List ℕ) → length (flags_in bytes) ≡ length bytes
unfolding flags_in
flags_long bytes = length-map bytes (λ n. eqb n 1)

pub flag_at : (bytes : List ℕ) (k : ℕ) → k < length bytes → get_or (flags_in bytes) k true ≡ eqb (get_or bytes k 0) 1
unfolding flags_in
flag_at bytes k below = get_or-map (λ n. eqb n 1) bytes k 0 true below

one_flag : (n b : ℕ) → map (λ m. eqb m 1) (replicate n b) ≡ replicate n (eqb b 1)
one_flag zero b = refl
one_flag (suc n) b = ap (λ (fs : List Bool). eqb b 1 ∷ fs) (one_flag n b)

pub no_flags : (n : ℕ) → flags_in (replicate n 0) ≡ replicate n false
unfolding flags_in
no_flags n = one_flag n 0

-- the flags once the bytes of a run are another one
flags_of_part : (run : Run) (b : ℕ) (bytes : List ℕ) → flags_in (with_part run b bytes) ≡ with_part run (eqb b 1) (flags_in bytes)
unfolding flags_in
flags_of_part run b bytes =
    let front = take run.first bytes in
    let middle = replicate run.count b in
    let behind = drop (run.first + run.count) bytes in
    let f : ℕ → Bool = λ n. eqb n 1 in
    map-append f (take run.first bytes ++ replicate run.count b) (drop (run.first + run.count) bytes)
    ∙ ap (λ (fs : List Bool). fs ++ map f behind) (map-append f (take run.first bytes) (replicate run.count b)
    ∙ ap (λ (fs : List Bool). fs ++ map f middle) (sym (take-map f run.first bytes))
    ∙ ap (λ (fs : List Bool). take run.first (map f bytes) ++ fs) (one_flag run.count b))
    ∙ ap (λ (fs : List Bool). take run.first (map f bytes) ++ replicate run.count (eqb b 1) ++ fs) (sym (drop-map f (run.first + run.count) bytes))

pub flags_with_part : (run : Run) (u : Bool) (b : ℕ) (bytes : List ℕ) → b ≡ cond u 1 0 → flags_in (with_part run b bytes) ≡ with_part run u (flags_in bytes)
flags_with_part run true b bytes is = ap (λ n. flags_in (with_part run n bytes)) is ∙ flags_of_part run 1 bytes
flags_with_part run false b bytes is = ap (λ n. flags_in (with_part run n bytes)) is ∙ flags_of_part run 0 bytes
