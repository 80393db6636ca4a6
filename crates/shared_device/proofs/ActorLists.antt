-- Lists of actors: the lanes of one host after another.
use Rattle.std.proofs.Common.{◌≡◌, ℕ, zero, suc, ◌+◌, ◌*◌, List, [], ◌∷◌, ◌++◌, length, ap, ◌∙◌, append-nil, arith}
use Rattle.std.proofs.{Math.Nat.suc-mul, lemmas.Grind.flat_map-append, lemmas.List.length-append, lemmas.List.length-replicate, lemmas.List.Concat.flat_map-cons}
use Rattle.std.{proofs.lemmas.List.FromFn.length-range_with_len, specs.List.range_with_len, specs.Prelude.flat_map, specs.Prelude.replicate}
use Rattle.dcd_base.specs.declared.steps.Actor.{Actor}

range_more : (a n : ℕ) → range_with_len a (suc n) ≡ range_with_len a n ++ (a + n) ∷ []
range_more a zero = let e : a ≡ a + 0 = omega arith in ap (λ x. x ∷ []) e
range_more a (suc n) = let e : (a + 1) + n ≡ a + suc n = omega arith in ap (λ l. a ∷ l) (range_more (a + 1) n ∙ ap (λ x. range_with_len (a + 1) n ++ x ∷ []) e)

-- the lanes of each of these hosts
abbrev pub lanes_of : ℕ → List ℕ → List Actor
lanes_of lanes hosts = flat_map (λ h. replicate lanes (Actor.Host h)) hosts

-- one more host
pub lanes_more : (lanes n : ℕ) → lanes_of lanes (range_with_len 0 (n + 1)) ≡ lanes_of lanes (range_with_len 0 n) ++ replicate lanes (Actor.Host n)
lanes_more lanes n =
    let more : n + 1 ≡ suc n = omega arith in
    let last : 0 + n ≡ n = omega arith in
    ap (λ m. lanes_of lanes (range_with_len 0 m)) more
    ∙ ap (lanes_of lanes) (range_more 0 n ∙ ap (λ x. range_with_len 0 n ++ x ∷ []) last)
    ∙ flat_map-append (λ h. replicate lanes (Actor.Host h)) (range_with_len 0 n) (n ∷ [])
    ∙ ap (λ l. lanes_of lanes (range_with_len 0 n) ++ l) (flat_map-cons (λ h. replicate lanes (Actor.Host h)) n [] ∙ append-nil (replicate lanes (Actor.Host n)))

lanes_count : (lanes : ℕ) (hosts : List ℕ) → length (lanes_of lanes hosts) ≡ length hosts * lanes
lanes_count lanes [] = let none : 0 ≡ 0 * lanes = omega arith in none
lanes_count lanes (h ∷ hosts) =
    let a = ap length (flat_map-cons (λ h. replicate lanes (Actor.Host h)) h hosts) ∙ length-append (replicate lanes (Actor.Host h)) (lanes_of lanes hosts) in
    let b = length-replicate lanes (Actor.Host h) in
    let c = lanes_count lanes hosts in
    let d = suc-mul (length hosts) lanes in
    omega (arith, a, b, c, d)

-- as many as the hosts have lanes
pub lanes_below : (lanes n : ℕ) → length (lanes_of lanes (range_with_len 0 n)) ≡ n * lanes
lanes_below lanes n = lanes_count lanes (range_with_len 0 n) ∙ ap (λ m. m * lanes) (length-range_with_len 0 n)
