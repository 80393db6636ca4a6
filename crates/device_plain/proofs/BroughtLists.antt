-- What an offer and a removal by force make of the lists of a device with one host alone.
use Rattle.std.proofs.Common.{◌≡◌, ℕ, ◌+◌, ◌<◌, ◌≤◌, List, [], ◌∷◌, ◌++◌, length, ap, ◌∙◌, arith}
use Rattle.std.{specs.Prelude.◌^◌, proofs.Math.Nat.mod-add-mod, proofs.lemmas.List.Sums.sum_by_push}
use Rattle.dcd_base.specs.declared.{capacity.Extent.Extent, ids.HostId.HostId}
use Rattle.control_core.specs.device_rules.specs.Views.{View, extents_in, lists_in}
use Rattle.extent_list.specs.{ExtentLists.count_in, ExtentLists.cut_all, HostLists.Lists, HostLists.extent_total, HostLists.next_generation}
use Rattle.region_config.specs.Configurations.{Configuration}
use Rattle.device_plain.{specs.Alone.IsAlone, specs.declared.alone.Alone.Alone, proofs.ToldAlone.view_total}

-- ---- an offer

abbrev pub with_offer : List Extent → View → View
with_offer xs v = record v { offers = v.offers ++ xs ∷ [] }

abbrev pub offered_to : List Extent → Lists → Lists
offered_to xs l = record l { offers = l.offers ++ xs ∷ [] }

pub offered_total : (xs : List Extent) (l : Lists) → extent_total (offered_to xs l) ≡ extent_total l + length xs
offered_total xs l = let more : count_in (l.offers ++ xs ∷ []) ≡ count_in l.offers + length xs = sum_by_push (λ (ys : List Extent). length ys) l.offers xs in omega (arith, more)

pub too_many_offered : (xs : List Extent) (l : Lists) (v : View) → l ≡ lists_in v → 64 < extent_total l + length xs → 64 < length (extents_in (with_offer xs v))
too_many_offered xs l v are more =
    let same : extent_total l ≡ extent_total (lists_in v) = ap extent_total are in
    let shown : length (extents_in (with_offer xs v)) ≡ extent_total (offered_to xs (lists_in v)) = view_total (with_offer xs v) in
    let total : extent_total (offered_to xs (lists_in v)) ≡ extent_total (lists_in v) + length xs = offered_total xs (lists_in v) in
    omega (arith, same, shown, total, more)

-- ---- a removal by force

abbrev pub without_taken : List Extent → View → View
without_taken xs v = record v { accepted = cut_all xs v.accepted; changes = v.changes + 1 }

abbrev pub taken_from : List Extent → Lists → Lists
taken_from xs l = record l { accepted = cut_all xs l.accepted; generation = next_generation l.generation }

pub taken_lists : (xs : List Extent) (v : View) → taken_from xs (lists_in v) ≡ lists_in (without_taken xs v)
taken_lists xs v = ap (λ n. record (lists_in v) { accepted = cut_all xs v.accepted; generation = n }) (mod-add-mod v.changes (2 ^ 32) 1)

pub too_many_left : (xs : List Extent) (l : Lists) (v : View) → l ≡ lists_in v → 64 < extent_total (taken_from xs l) → 64 < length (extents_in (without_taken xs v))
too_many_left xs l v are more =
    let same : extent_total (taken_from xs l) ≡ extent_total (taken_from xs (lists_in v)) = ap (λ (k : Lists). extent_total (taken_from xs k)) are in
    let shown : length (extents_in (without_taken xs v)) ≡ extent_total (taken_from xs (lists_in v)) = view_total (without_taken xs v) in
    omega (arith, same, shown, more)

-- ---- so what is kept is right after either

module _ (c : Configuration) (h : HostId) (xs : List Extent) (old : Alone) (lists : Lists) (few : extent_total lists ≤ 64) where
  pub keeps_offer : lists ≡ offered_to xs old.lists → (v : View) (word : ℕ → ℕ) → IsAlone c h v word old → IsAlone c h (with_offer xs v) word (record old { lists = lists })
  keeps_offer is v word alone = record {
    present_is = alone.present_is;
    lists_are = is ∙ ap (offered_to xs) alone.lists_are;
    few = few;
    log_is = alone.log_is;
    words_are = alone.words_are;
  }

  pub keeps_taken : lists ≡ taken_from xs old.lists → (v : View) (word : ℕ → ℕ) → IsAlone c h v word old → IsAlone c h (without_taken xs v) word (record old { lists = lists })
  keeps_taken is v word alone = record {
    present_is = alone.present_is;
    lists_are = is ∙ ap (taken_from xs) alone.lists_are ∙ taken_lists xs v;
    few = few;
    log_is = alone.log_is;
    words_are = alone.words_are;
  }
