-- The bases of the hosts, one host after another.
use Rattle.std.proofs.Common.{◌≡◌, ℕ, zero, suc, ◌+◌, ◌*◌, [], ◌∷◌, ◌++◌, ap, ◌∙◌, append-nil, arith, flat_map, length}
use Rattle.std.{proofs.Math.Nat.suc-mul, proofs.lemmas.Grind.flat_map-append, proofs.lemmas.List.length-append, proofs.lemmas.List.FromFn.length-map-range_with_len, specs.List.range_with_len}
use Rattle.region_config.specs.{Configurations.Configuration, Granules.base_of}
use Rattle.dcd_c.specs.Lists.{host_bases}

-- one number more
range_push : (a n : ℕ) → range_with_len a (suc n) ≡ range_with_len a n ++ (a + n) ∷ []
range_push a zero =
    let same : a ≡ a + zero = omega arith in
    ap (λ k. k ∷ []) same
range_push a (suc n) =
    let same : (a + 1) + n ≡ a + suc n = omega arith in
    ap (λ ks. a ∷ ks) (range_push (a + 1) n ∙ ap (λ k. range_with_len (a + 1) n ++ k ∷ []) same)

range_more : (n : ℕ) → range_with_len 0 (n + 1) ≡ range_with_len 0 n ++ n ∷ []
range_more n =
    let next : n + 1 ≡ suc n = omega arith in
    let same : 0 + n ≡ n = omega arith in
    ap (range_with_len 0) next ∙ range_push 0 n ∙ ap (λ k. range_with_len 0 n ++ k ∷ []) same

-- how many a host has
host_count : (c : Configuration) (h : ℕ) → length (host_bases c h) ≡ length c.regions
host_count c h = length-map-range_with_len (λ r. base_of c h r) 0 (length c.regions)

-- how many there are
pub bases_count : (c : Configuration) (s n : ℕ) → length (flat_map (host_bases c) (range_with_len s n)) ≡ n * length c.regions
bases_count c s zero =
    let none : 0 ≡ 0 * length c.regions = omega arith in
    none
bases_count c s (suc n) =
    omega (arith, length-append (host_bases c s) (flat_map (host_bases c) (range_with_len (s + 1) n)), host_count c s, bases_count c (s + 1) n, suc-mul n (length c.regions))

-- those of one host more
pub bases_more : (c : Configuration) (h : ℕ) → flat_map (host_bases c) (range_with_len 0 (h + 1)) ≡ flat_map (host_bases c) (range_with_len 0 h) ++ host_bases c h
bases_more c h =
    ap (flat_map (host_bases c)) (range_more h) ∙ flat_map-append (host_bases c) (range_with_len 0 h) (h ∷ [])
    ∙ ap (λ bs. flat_map (host_bases c) (range_with_len 0 h) ++ bs) (append-nil (host_bases c h))

-- where the next host's are
pub base_next : (h n : ℕ) → (h + 1) * n ≡ h * n + n
base_next h n =
    let same : h + 1 ≡ suc h = omega arith in
    ap (λ k. k * n) same ∙ suc-mul h n
