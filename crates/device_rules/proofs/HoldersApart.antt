-- What the holdings of a legal journal give: holders are apart, and nobody holds what is offered.
use Rattle.std.proofs.Common.{◌≡◌, ℕ, ◌+◌, ◌<◌, Bool, true, false, List, [], ◌∷◌, length, refl, sym, ◌∙◌, subst, arith, length-append}
use Rattle.std.{proofs.lemmas.Bool.false≢true, proofs.lemmas.List.Elements.filter-append, specs.List.list_any}
use Rattle.std.specs.Prelude.{map, filter, flat_map, if◌then◌else◌, ◌||◌, IsTrue, IsFalse}
use Rattle.extent_list.specs.media_map.specs.{region_config.specs.Configurations.Configuration, Places.run_of, region_config.specs.Granules.region_of, region_config.specs.Granules.region_spec}
use Rattle.cci_codec.specs.dcd_base.specs.{declared.ids.HostId.HostId, declared.capacity.Extent.Extent, declared.media.Run.Run, Words.has_granule, Words.has_in_runs}
use Rattle.journal_core.specs.{declared.entries.Entry.Entry, Entries.effects, Holders.holds}
use Rattle.device_rules.specs.{Hosts.accepted_of, Hosts.offers_of, Invariants.Holdings, Invariants.claims_of}

one_more : (b rest : Bool) (x : Extent) (xs : List Extent) → (rest ≡ true → 0 < length xs) → (b || rest) ≡ true → 0 < length (if b then x ∷ xs else xs)
one_more true rest x xs more e = omega arith
one_more false rest x xs more e = more e

-- of extents that have the granule there is one at least
pub some_claim : (run : Extent → Run) (g : ℕ) (xs : List Extent) → has_in_runs (map run xs) g ≡ true → 0 < length (filter (λ x. has_granule (run x) g) xs)
some_claim run g [] e = absurd (false≢true e)
some_claim run g (x ∷ xs) e = one_more (has_granule (run x) g) _ x _ (some_claim run g xs) e

either : (b rest : Bool) (m n : ℕ) → (b ≡ true → 0 < m) → (rest ≡ true → 0 < n) → (b || rest) ≡ true → 0 < m + n
either true rest m n p q e = omega (arith, p refl)
either false rest m n p q e = omega (arith, q e)

-- and so of offers
pub some_offer : (run : Extent → Run) (g : ℕ) (offers : List (List Extent)) → list_any (λ xs. has_in_runs (map run xs) g) offers ≡ true → 0 < length (filter (λ x. has_granule (run x) g) (flat_map (λ xs. xs) offers))
some_offer run g [] e = absurd (false≢true e)
some_offer run g (xs ∷ offers) e =
    rw (filter-append (λ x. has_granule (run x) g) xs (flat_map (λ ys. ys) offers), length-append)
    (either (has_in_runs (map run xs) g) _ _ _ (some_claim run g xs) (some_offer run g offers) e)

module _ (c : Configuration) (journal : List Entry) (kept : Holdings c journal) where
  -- accepted claims and offered ones
  pub parts : (h : HostId) (g : ℕ) → length (claims_of c h journal g) ≡ length (filter (λ x. has_granule (run_of c h x) g) (accepted_of c h (effects journal))) + length (filter (λ x. has_granule (run_of c h x) g) (flat_map (λ xs. xs) (offers_of h (effects journal))))
  parts h g = rw (filter-append (λ x. has_granule (run_of c h x) g) (accepted_of c h (effects journal)) (flat_map (λ xs. xs) (offers_of h (effects journal))), length-append) refl

  pub held_claim : (h : HostId) (g : ℕ) → IsTrue (holds h g (effects journal)) → 0 < length (filter (λ x. has_granule (run_of c h x) g) (accepted_of c h (effects journal)))
  held_claim h g held = some_claim (run_of c h) g (accepted_of c h (effects journal)) (sym (kept.held h g) ∙ held)

  pub alone_holds : (g : ℕ) (h k : HostId) → IsFalse (region_spec c (region_of c g)).shareable → IsTrue (holds h g (effects journal)) → IsTrue (holds k g (effects journal)) → h ≡ k
  alone_holds g h k private a b = kept.one h k g private (omega (arith, parts h g, held_claim h g a)) (omega (arith, parts k g, held_claim k g b))

  pub clear_holds : (h k : HostId) (g : ℕ) → IsFalse (region_spec c (region_of c g)).shareable →
      IsTrue (list_any (λ xs. has_in_runs (map (run_of c h) xs) g) (offers_of h (effects journal))) → IsTrue (holds k g (effects journal)) → ⊥
  clear_holds h k g private offered held =
      let same : h ≡ k = kept.one h k g private (omega (arith, parts h g, some_offer (run_of c h) g (offers_of h (effects journal)) offered)) (omega (arith, parts k g, held_claim k g held)) in
      omega (arith, kept.once h g private, parts h g, some_offer (run_of c h) g (offers_of h (effects journal)) offered, held_claim h g (subst (λ l. IsTrue (holds l g (effects journal))) (sym same) held))
