-- Two tests of granules that agree where a selection asks choose the same.
use Rattle.std.proofs.Common.{◌≡◌, ℕ, zero, suc, ◌+◌, ◌-◌, ◌*◌, ◌<◌, ◌≤◌, Bool, List, [], ◌∷◌, ◌++◌, length, map, max, take, Option, Some, None, refl, ap, ◌∙◌, leb, arith, div-add-mod'}
use Rattle.std.{proofs.Math.Nat.add-mul, proofs.Math.Nat.mul-le-mul_right, specs.List.filter, specs.List.find, specs.List.fold, specs.List.list_all, specs.List.prefix_len, specs.List.range_with_len}
use Rattle.std.specs.Prelude.{not, option_map, option_to_list}
use Rattle.extent_list.specs.{Listing.misplaced, Listing.overlapping, Listing.too_many_listed, dcd_codes.specs.Rules.◌breaks◌, dcd_codes.specs.Rules.first_by}
use Rattle.extent_list.specs.dcd_codes.specs.dcd_base.specs.{Words.◌or◌, Words.is_empty, declared.capacity.Extent.Extent, declared.ids.HostId.HostId, declared.media.Run.Run}
use Rattle.extent_list.specs.{dcd_codes.specs.declared.rules.Rule.Rule, media_map.specs.Places.run_of, media_map.specs.region_config.specs.Configurations.Configuration}
use Rattle.extent_list.specs.media_map.specs.region_config.specs.{Granules.granule_total, Soundness.IsSound}
use Rattle.granule_map.specs.{Blocks.block_count, Blocks.run_of_blocks, Choices.joined, Choices.passing, Choices.run_from}
use Rattle.selection.specs.Selections.{all_free, always_together, contiguous_runs, free_extent_rule, free_blocks, free_runs, granules_of_blocks, is_free_block, longest_free, prescribed_rule}
use Rattle.selection.proofs.Placed.{placed, run_below, run_is_run}

-- The tests agree on the numbers from one up to another.
abbrev pub Agree : (ℕ → Bool) → (ℕ → Bool) → ℕ → ℕ → Type 0
Agree p q from to = (k : ℕ) → from ≤ k → k < to → p k ≡ q k

module _ (p q : ℕ → Bool) where
  all_agree : (a n : ℕ) → Agree p q a (a + n) → list_all p (range_with_len a n) ≡ list_all q (range_with_len a n)
  all_agree a zero agree = refl
  all_agree a (suc n) agree =
      rw (agree a (omega arith) (omega arith), all_agree (a + 1) n (λ k low high. agree k (omega (arith, low)) (omega (arith, high)))) refl

  filter_agree : (a n : ℕ) → Agree p q a (a + n) → filter p (range_with_len a n) ≡ filter q (range_with_len a n)
  filter_agree a zero agree = refl
  filter_agree a (suc n) agree =
      rw (agree a (omega arith) (omega arith), filter_agree (a + 1) n (λ k low high. agree k (omega (arith, low)) (omega (arith, high)))) refl

  prefix_agree : (a n : ℕ) → Agree p q a (a + n) → prefix_len p (range_with_len a n) ≡ prefix_len q (range_with_len a n)
  prefix_agree a zero agree = refl
  prefix_agree a (suc n) agree =
      rw (agree a (omega arith) (omega arith), prefix_agree (a + 1) n (λ k low high. agree k (omega (arith, low)) (omega (arith, high)))) refl

map_agree : (f g : ℕ → ℕ) (a n : ℕ) → ((k : ℕ) → a ≤ k → k < a + n → f k ≡ g k) → map f (range_with_len a n) ≡ map g (range_with_len a n)
map_agree f g a zero agree = refl
map_agree f g a (suc n) agree =
    rw (agree a (omega arith) (omega arith), map_agree f g (a + 1) n (λ k low high. agree k (omega (arith, low)) (omega (arith, high)))) refl

find_agree : (p q : ℕ → Bool) (a n : ℕ) → Agree p q a (a + n) → find p (range_with_len a n) ≡ find q (range_with_len a n)
find_agree p q a zero agree = refl
find_agree p q a (suc n) agree =
    rw (agree a (omega arith) (omega arith), find_agree p q (a + 1) n (λ k low high. agree k (omega (arith, low)) (omega (arith, high)))) refl

run_agree : (p q : ℕ → Bool) (n k : ℕ) → k ≤ n → Agree p q 0 n → run_from p n k ≡ run_from q n k
run_agree p q n k below agree = prefix_agree p q k (n - k) (λ j low high. agree j (omega arith) (omega (arith, high, below)))

module _ (f g : ℕ → Bool) (area : Run) (per : ℕ) (agree : Agree f g area.first (area.first + area.count)) where
  blocks_agree : Agree (is_free_block f area per) (is_free_block g area per) 0 (block_count area per)
  blocks_agree k low high =
      let whole = div-add-mod' area.count per in
      let fits = mul-le-mul_right per high in
      all_agree f g (area.first + k * per) per (λ j from to. agree j (omega (arith, from)) (omega (arith, to, fits, add-mul k 1 per, whole)))

  passing_agree : passing (is_free_block f area per) (block_count area per) ≡ passing (is_free_block g area per) (block_count area per)
  passing_agree = filter_agree (is_free_block f area per) (is_free_block g area per) 0 (block_count area per) (λ k low high. blocks_agree k low (omega (arith, high)))

  pub free_blocks_agree : free_blocks f area per ≡ free_blocks g area per
  free_blocks_agree = ap length passing_agree

  pub free_runs_agree : (need : ℕ) → free_runs f area per need ≡ free_runs g area per need
  free_runs_agree need = ap (λ ns. map (granules_of_blocks area per) (joined always_together (take need ns))) passing_agree

  pub longest_free_agree : longest_free f area per ≡ longest_free g area per
  longest_free_agree =
      let n : ℕ = block_count area per in
      ap (fold max 0) (map_agree (run_from (is_free_block f area per) n) (run_from (is_free_block g area per) n) 0 n
      (λ k low high. run_agree (is_free_block f area per) (is_free_block g area per) n k (omega (arith, high)) blocks_agree))

  pub contiguous_runs_agree : (need : ℕ) → contiguous_runs f area per need ≡ contiguous_runs g area per need
  contiguous_runs_agree need =
      let n : ℕ = block_count area per in
      ap (λ o. option_to_list (option_map (run_of_blocks area per need) o))
      (find_agree (λ k. leb need (run_from (is_free_block f area per) n k)) (λ k. leb need (run_from (is_free_block g area per) n k)) 0 n
      (λ k low high. ap (leb need) (run_agree (is_free_block f area per) (is_free_block g area per) n k (omega (arith, high)) blocks_agree)))

module _ (c : Configuration) (h : HostId) (s : IsSound c) (host : h < c.hosts) (f g : ℕ → Bool) (agree : Agree f g 0 (granule_total c)) (r : ℕ) where
  rule_agree : (before : List Extent) (x : Extent) (found : Option Rule) → misplaced c h r (length before) x ≡ found → free_extent_rule c h f r before x ≡ free_extent_rule c h g r before x
  rule_agree before x (Some rule) is = rw is refl
  rule_agree before x None is =
      let below = run_below c (run_of c h x) (run_is_run c h s host r x (placed c h r (length before) x is)) in
      let same : all_free f (run_of c h x) ≡ all_free g (run_of c h x) =
      all_agree f g (run_of c h x).first (run_of c h x).count (λ k low high. agree k (omega arith) (omega (arith, high, below))) in
      ap (λ b. misplaced c h r (length before) x or (not b breaks Rule.NotFree (length before)) or overlapping before x) same

  each_agree : (before xs : List Extent) → first_by (free_extent_rule c h f r) before xs ≡ first_by (free_extent_rule c h g r) before xs
  each_agree before [] = refl
  each_agree before (x ∷ xs) =
      ap (λ o. o or first_by (free_extent_rule c h f r) (before ++ x ∷ []) xs) (rule_agree before x (misplaced c h r (length before) x) refl)
      ∙ ap (λ o. free_extent_rule c h g r before x or o) (each_agree (before ++ x ∷ []) xs)

  pub prescribed_rule_agree : (list : List Extent) → prescribed_rule c h f r list ≡ prescribed_rule c h g r list
  prescribed_rule_agree list = ap (λ o. (is_empty list breaks Rule.EmptyList) or too_many_listed list or o) (each_agree [] list)
