-- Runs that begin behind the last granule, and what effects tell, one after another.
use Rattle.std.proofs.Common.{◌≡◌, ℕ, suc, zero, ◌+◌, ◌≤◌, ◌<◌, Bool, false, List, [], ◌∷◌, ◌++◌, refl, sym, ap, ◌∙◌, append-nil, arith, drop, flat_map, get_or, length, take}
use Rattle.std.proofs.lemmas.{Bool.le-ltb, Grind.flat_map-append, List.length-append, List.take-append-drop, List.take_more}
use Rattle.std.specs.{List.find, List.range_with_len, Prelude.nat_lt, Prelude.None, Prelude.unwrap_or}
use Rattle.region_config.{proofs.Faultless.granules_rise, specs.Configurations.Configuration, specs.Granules.first_granule, specs.Granules.granule_total, specs.Granules.region_of}
use Rattle.journal_core.specs.declared.outcome.Effect.{Effect}
use Rattle.dcd_c.specs.Changes.{runs_told, told_by}

none_from : (p : ℕ → Bool) (s n : ℕ) → ((r : ℕ) → s ≤ r → r < s + n → p r ≡ false) → find p (range_with_len s n) ≡ None
none_from p s zero passes = refl
none_from p s (suc n) passes = rw (passes s (omega arith) (omega arith)) (none_from p (s + 1) n (λ r from to. passes r (omega (arith, from)) (omega (arith, to))))

-- a granule behind the last is told as of region 0
pub behind_last : (c : Configuration) (g : ℕ) → granule_total c ≤ g → region_of c g ≡ 0
behind_last c g past =
    ap (λ o. unwrap_or o 0) (none_from (λ r. nat_lt g (first_granule c (suc r))) 0 (length c.regions)
    (λ r from to. le-ltb _ _ (omega (arith, past, granules_rise c (suc r) (length c.regions) (omega (arith, to))))))

-- no effect
pub runs_none : (c : Configuration) → runs_told c [] ≡ []
unfolding runs_told
runs_none c = refl

-- one more effect
pub runs_push : (c : Configuration) (es : List Effect) (e : Effect) → runs_told c (es ++ e ∷ []) ≡ runs_told c es ++ told_by c e
unfolding runs_told
runs_push c es e = flat_map-append (told_by c) es (e ∷ []) ∙ ap (λ xs. flat_map (told_by c) es ++ xs) (append-nil (told_by c e))

-- the first i + 1 of them
pub runs_more : (c : Configuration) (es : List Effect) (i : ℕ) (d : Effect) → i < length es → runs_told c (take (i + 1) es) ≡ runs_told c (take i es) ++ told_by c (get_or es i d)
runs_more c es i d below = ap (runs_told c) (take_more es i d below) ∙ runs_push c (take i es) (get_or es i d)

runs_cut : (c : Configuration) (es later : List Effect) → runs_told c (es ++ later) ≡ runs_told c es ++ runs_told c later
unfolding runs_told
runs_cut c es later = flat_map-append (told_by c) es later

-- there is room for what the next one tells
pub runs_room : (c : Configuration) (es : List Effect) (i : ℕ) (d : Effect) → i < length es → length (runs_told c (take i es)) + length (told_by c (get_or es i d)) ≤ length (runs_told c es)
runs_room c es i d below =
    let parts = ap (runs_told c) (sym (take-append-drop (i + 1) es)) ∙ runs_cut c (take (i + 1) es) (drop (i + 1) es) ∙ ap (λ xs. xs ++ runs_told c (drop (i + 1) es)) (runs_more c es i d below) in
    omega (arith, ap length parts, length-append (runs_told c (take i es) ++ told_by c (get_or es i d)) (runs_told c (drop (i + 1) es)), length-append (runs_told c (take i es)) (told_by c (get_or es i d)))

pub runs_fit : (c : Configuration) (es : List Effect) (i : ℕ) (d e : Effect) (at room : ℕ) → e ≡ get_or es i d → i < length es → at ≡ length (runs_told c (take i es))
    → length (runs_told c es) ≤ room → at + length (told_by c e) ≤ room
runs_fit c es i d e at room is below place all =
    omega (arith, place, ap (λ x. length (told_by c x)) is, runs_room c es i d below, all)
