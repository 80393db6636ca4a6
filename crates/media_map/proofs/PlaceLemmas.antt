-- An address and its place determine each other.
use Rattle.std.proofs.Common.{◌≡◌, ℕ, zero, suc, ◌+◌, ◌-◌, ◌*◌, ◌/◌, ◌%◌, ◌^◌, ◌<◌, ◌≤◌, Bool, true, false, leb, ltb, length, Some, None, Result, Ok, Err, refl, ap, subst, sym, ◌∙◌, inl, inr, arith, div-add-mod'}
use Rattle.std.proofs.lemmas.Bool.{and_from, and_parts, and_right, cases_lt, cases_Bool, eq-eqb, le-leb, leb-true, lt-ltb, le-ltb, ltb-true}
use Rattle.std.proofs.{Math.Nat.mul_assoc, Math.Nat.mul_comm, lemmas.Nat.div-mul-add, lemmas.Nat.div_below, lemmas.Nat.mod-mul-add, lemmas.Nat.mod_below, lemmas.Nat.mul-add-lt, lemmas.Nat.pow-add}
use Rattle.std.{proofs.lemmas.Option.none-some, proofs.lemmas.Option.same_Some, specs.List.find, specs.List.range_with_len}
use Rattle.region_config.{proofs.Faultless.granule_from, proofs.Faultless.region_ends, proofs.GranuleLemmas.find_range, specs.Configurations.Configuration}
use Rattle.region_config.specs.Granules.{base_of, first_granule, granule_size, region_granules, region_spec, regions_of}
use Rattle.region_config.specs.{Soundness.IsSound, Soundness.IsSoundRegion, dcd_base.specs.declared.failures.AccessFault.AccessFault, dcd_base.specs.declared.ids.HostId.HostId}
use Rattle.region_config.specs.dcd_base.specs.declared.media.Place.{Place}
use Rattle.media_map.specs.Places.{IsPlace, IsWord, address_of, has_address, locate, place_in}

-- nothing of a range passes
pub find_none : (p : ℕ → Bool) (a n : ℕ) → ((k : ℕ) → a ≤ k → k < a + n → p k ≡ false) → find p (range_with_len a n) ≡ None
find_none p a zero none = refl
find_none p a (suc n) none = rw (none a (omega arith) (omega arith)) (find_none p (a + 1) n (λ k low high. none k (omega (arith, low)) (omega (arith, high))))

pub none_found : (p : ℕ → Bool) (a n : ℕ) → find p (range_with_len a n) ≡ None → (k : ℕ) → a ≤ k → k < a + n → p k ≡ false
none_found p a zero none k low high = absurd (omega (arith, low, high))
none_found p a (suc n) none k low high = elim (cases_Bool (p a)) [
  | inl here ↦ absurd (some_none (rw here at none))
  | inr fails ↦ elim (cases_lt a k) [
    | inl later ↦ none_found p (a + 1) n (rw fails at none) k (omega (arith, later)) (omega (arith, high))
    | inr first ↦ (let same : k ≡ a = omega (arith, low, first) in rw same fails)
  ]
]
  where
    some_none : Some a ≡ None → ⊥
    some_none e = absurd (cc)

-- the one that was found passes
pub record IsFound (p : ℕ → Bool) (end r : ℕ) : Type 0 where
  pub below : r < end
  pub passes : p r ≡ true

pub find_holds : (p : ℕ → Bool) (a n r : ℕ) → find p (range_with_len a n) ≡ Some r → IsFound p (a + n) r
find_holds p a zero r none = absurd (none-some r none)
find_holds p a (suc n) r found = elim (cases_Bool (p a)) [
  | inl here ↦ (let same : a ≡ r = same_Some a r (rw here at found) in record { below = omega (arith, same); passes = subst (λ k. p k ≡ true) same here })
  | inr fails ↦ (let rest = find_holds p (a + 1) n r (rw fails at found) in record { below = omega (arith, rest.below); passes = rest.passes })
]

-- the answer at each end of the search
pub at_region : (c : Configuration) (h : HostId) (d r : ℕ) → d % 8 ≡ 0 → find (has_address c h d) (regions_of c) ≡ Some r → locate c h d ≡ Ok (place_in c h d r)
at_region c h d r aligned found = rw (eq-eqb (d % 8) 0 aligned, found) refl

pub at_no_region : (c : Configuration) (h : HostId) (d : ℕ) → d % 8 ≡ 0 → find (has_address c h d) (regions_of c) ≡ None → locate c h d ≡ Err AccessFault.OutsideRegions
at_no_region c h d aligned none = rw (eq-eqb (d % 8) 0 aligned, none) refl

-- a host's regions lie apart
regions_apart : (c : Configuration) (h : HostId) → IsSound c → h < c.hosts → (k r : ℕ) → k < r → r < length c.regions → base_of c h k + (region_spec c k).length ≤ base_of c h r
regions_apart c h s host k zero less known = absurd (omega (arith, less))
regions_apart c h s host k (suc r) less known =
    let rising = s.rising h r host known in
    let below : r < length c.regions = omega (arith, known) in
    elim (cases_lt k r) [
      | inl before ↦ omega (arith, regions_apart c h s host k r before below, rising)
      | inr last ↦ (let same : k ≡ r = omega (arith, less, last) in rw same (omega (arith, (s.each r below).decoded, rising)))
    ]

pub has : (c : Configuration) (h : HostId) (d r : ℕ) → base_of c h r ≤ d → d < base_of c h r + (region_spec c r).length → has_address c h d r ≡ true
has c h d r from below = and_from _ _ (le-leb _ _ from) (lt-ltb _ _ below)

pub from_base : (c : Configuration) (h : HostId) (d r : ℕ) → has_address c h d r ≡ true → base_of c h r ≤ d
from_base c h d r holds = leb-true _ _ (and_parts _ _ holds).0

pub below_end : (c : Configuration) (h : HostId) (d r : ℕ) → has_address c h d r ≡ true → d < base_of c h r + (region_spec c r).length
below_end c h d r holds = ltb-true _ _ (and_parts _ _ holds).1

-- so at most one of them has an address
pub found_at : (c : Configuration) (h : HostId) (d r : ℕ) → IsSound c → h < c.hosts → r < length c.regions → has_address c h d r ≡ true → find (has_address c h d) (regions_of c) ≡ Some r
found_at c h d r s host known holds =
    let past : (k : ℕ) → k < r → base_of c h k + (region_spec c k).length ≤ d = λ k high. omega (arith, regions_apart c h s host k r high known, from_base c h d r holds) in
    find_range (has_address c h d) 0 (length c.regions) r (omega arith) (omega (arith, known)) holds
    (λ k low high. and_right (leb (base_of c h k) d) (ltb d (base_of c h k + (region_spec c k).length)) (le-ltb d (base_of c h k + (region_spec c k).length) (past k high)))

pub is_place : (c : Configuration) (h : HostId) (d r : ℕ) → d % 8 ≡ 0 → r < length c.regions → has_address c h d r ≡ true → IsPlace c h d (place_in c h d r)
is_place c h d r aligned known holds = record {
  aligned = aligned;
  known = known;
  from = from_base c h d r holds;
  below = below_end c h d r holds;
  granule = refl;
  word = refl;
}

place_is : (c : Configuration) (h : HostId) (d : ℕ) (p : Place) → IsPlace c h d p → place_in c h d p.region ≡ p
place_is c h d p q = sym (λ i. record { region = p.region; granule = q.granule i; word = q.word i })

pub located : (c : Configuration) (h : HostId) (d : ℕ) (p : Place) → IsSound c → h < c.hosts → IsPlace c h d p → locate c h d ≡ Ok p
located c h d p s host q =
    let found = found_at c h d p.region s host q.known (has c h d p.region q.from q.below) in
    rw (eq-eqb _ _ q.aligned, found) (ap Ok (place_is c h d p q))

-- a granule is made of words
record IsWords (size : ℕ) : Type 0 where
  words : ℕ
  is : size ≡ words * 8

of_words : (c : Configuration) (r : ℕ) → IsSoundRegion c r → IsWords (granule_size c r)
of_words c r s =
    let sum : s.exponent - 3 + 3 ≡ s.exponent = omega (arith, s.from) in
    record { words = 2 ^ (s.exponent - 3); is = s.granule ∙ ap (λ e. 2 ^ e) (sym sum) ∙ pow-add 2 (s.exponent - 3) 3 }

-- a rest by granules of a number of whole words is of whole words
whole_rest : (n size : ℕ) → IsWords size → n % 8 ≡ 0 → n % size % 8 ≡ 0
whole_rest n size w whole =
    let product : n / size * size ≡ n / size * w.words * 8 = ap (λ s. n / size * s) w.is ∙ sym (mul_assoc (n / size) w.words 8) in
    omega (arith, div-add-mod' n size, product, whole)

module _ (c : Configuration) (h : HostId) (s : IsSound c) (host : h < c.hosts) where
  -- how far the granules of a region reach
  pub reach : (r : ℕ) → r < length c.regions → region_granules c r * granule_size c r ≡ (region_spec c r).length
  reach r known = omega (arith, div-add-mod' (region_spec c r).length (granule_size c r), (s.each r known).whole)

  size_some : (r : ℕ) → r < length c.regions → 0 < granule_size c r
  size_some r known = omega (arith, granule_from c r (s.each r known))

  -- an address in a region lies in one of its granules
  pub granule_below : (d r : ℕ) → r < length c.regions → has_address c h d r ≡ true → (d - base_of c h r) / granule_size c r < region_granules c r
  granule_below d r known holds =
      div_below (d - base_of c h r) (granule_size c r) (region_granules c r) (size_some r known)
      (omega (arith, reach r known, from_base c h d r holds, below_end c h d r holds))

  pub is_word : (d : ℕ) (p : Place) → IsPlace c h d p → IsWord c p
  is_word d p q =
      let size : ℕ = granule_size c p.region in
      let offset : ℕ = d - base_of c h p.region in
      let less = granule_below d p.region q.known (has c h d p.region q.from q.below) in
      record {
        known = q.known;
        from = omega (arith, q.granule);
        to = omega (arith, q.granule, less);
        inside = omega (arith, q.word, mod_below offset size (size_some p.region q.known));
      }

  pub address_back : (d : ℕ) (p : Place) → IsPlace c h d p → address_of c h p ≡ d
  address_back d p q =
      let size : ℕ = granule_size c p.region in
      let offset : ℕ = d - base_of c h p.region in
      let aligned = (s.seats h p.region host q.known).aligned in
      let rest = whole_rest offset size (of_words c p.region (s.each p.region q.known)) (omega (arith, aligned, q.aligned, q.from)) in
      let granule : p.granule - first_granule c p.region ≡ offset / size = omega (arith, q.granule) in
      let product : (p.granule - first_granule c p.region) * size ≡ offset / size * size = ap (λ n. n * size) granule in
      omega (arith, product, q.word, rest, div-add-mod' offset size, q.from)

  -- the address of a word is that of its place
  pub addressed : (p : Place) → IsWord c p → IsPlace c h (address_of c h p) p
  addressed p w =
      let r : ℕ = p.region in
      let size : ℕ = granule_size c r in
      let behind : ℕ = p.granule - first_granule c r in
      let offset : address_of c h p - base_of c h r ≡ behind * size + 8 * p.word = omega arith in
      let words = of_words c r (s.each r w.known) in
      let product : behind * size ≡ behind * words.words * 8 = ap (λ n. behind * n) words.is ∙ sym (mul_assoc behind words.words 8) in
      let less : behind < region_granules c r = omega (arith, w.from, w.to) in
      let inside = mul-add-lt behind size (8 * p.word) (region_granules c r) less w.inside in
      record {
        aligned = omega (arith, product, (s.seats h r host w.known).aligned);
        known = w.known;
        from = omega arith;
        below = omega (arith, inside, reach r w.known, mul_comm size (region_granules c r));
        granule = rw (offset, div-mul-add behind size (8 * p.word) w.inside) (omega (arith, w.from));
        word = rw (offset, mod-mul-add behind size (8 * p.word) w.inside) (omega arith);
      }

  pub address_below : (p : Place) → IsWord c p → address_of c h p < 2 ^ 52
  address_below p w = let q = addressed p w in omega (arith, q.below, region_ends c h p.region s host w.known)

  -- two words with one address are one
  pub words_apart : (p q : Place) → IsWord c p → IsWord c q → address_of c h q ≡ address_of c h p → q ≡ p
  words_apart p q v w same =
      let here = located c h (address_of c h p) p s host (addressed p v) in
      let there = located c h (address_of c h q) q s host (addressed q w) in
      same_ok q p (sym there ∙ ap (locate c h) same ∙ here)
    where
      same_ok : (x y : Place) → ◌≡◌ {A = Result Place AccessFault} (Ok x) (Ok y) → x ≡ y
      same_ok x y e = (cc)

-- the same offset in another host's region is the same word
pub same_offset : (c : Configuration) (h k : HostId) (p : Place) → IsSound c → h < c.hosts → k < c.hosts → IsWord c p →
    locate c k (base_of c k p.region + (address_of c h p - base_of c h p.region)) ≡ Ok p
same_offset c h k p s host other w =
    let same : base_of c k p.region + (address_of c h p - base_of c h p.region) ≡ address_of c k p = omega arith in
    ap (locate c k) same ∙ located c k (address_of c k p) p s other (addressed c k s other p w)
