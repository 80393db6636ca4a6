-- A step of another actor: the driver's host and the device still agree.
use Rattle.std.proofs.Common.{◌≡◌, ℕ, ◌≤◌, Bool, true, false, List, ◌+◌, [], ◌∷◌, ◌++◌, length, refl, sym, subst}
use Rattle.std.{proofs.lemmas.Bool.false≢true, specs.List.list_all}
use Rattle.std.specs.Prelude.{filter_map, flat_map, fold, if◌then◌else◌, nat_lt, ◌&&◌, ◌==◌}
use Rattle.dcd_base.specs.declared.{capacity.Extent.Extent, ids.HostId.HostId}
use Rattle.event_log.specs.Logs.{logged, records_in}
use Rattle.event_records.specs.declared.events.{Event.Event, EventKind.EventKind}
use Rattle.extent_list.specs.ExtentLists.{cut_all}
use Rattle.journal_core.specs.declared.outcome.Effect.{Effect}
use Rattle.region_config.specs.{Configurations.Configuration, Granules.is_supported, Granules.region_spec}
use Rattle.device_plain.specs.device_rules.specs.{Outcomes.no_extent, Outcomes.record_for, Outcomes.records_of_extents, Views.View}
use Rattle.device_plain.specs.isolation_laws.proofs.OneItem.{IsOneAtMost}
use Rattle.device_plain.specs.isolation_laws.specs.{Solo.block_item, Solo.delivered, Solo.item_of, Solo.solo_after, Solo.extents_recorded, Solo.with_log_records, declared.items.Item.Item}
use Rattle.host_driver.proofs.{Apart.AreApart, Brought.CanGo, Brought.given, Brought.taken, Brought.told_quiet, Midway.Agrees, Midway.seen_in}
use Rattle.host_driver.proofs.Numbered.{are_forced, are_offer, are_quiet, block_quiet, logged_records, numbered}
use Rattle.host_driver.specs.Driving.{Driven}

-- items that are block sizes
abbrev is_block : Item → Bool
is_block (Item.Block r size) = true
is_block item = false

all_blocks : (new : List Effect) → list_all is_block (filter_map block_item new) ≡ true
all_blocks [] = refl
all_blocks (Effect.Block r size ∷ new) = all_blocks new
all_blocks (e ∷ new) = all_blocks new

module _ (c : Configuration) (h : HostId) (v : View) (d : Driven) (sound : v.log.cleared ≤ length v.log.ever) (a : Agrees (seen_in v) d)
    (apart : AreApart (v.accepted ++ flat_map (λ os. os) v.offers)) where
  abbrev Then : View → Type 0
  Then w = Agrees (seen_in w) d

  -- records join the log
  noted : (events : List Event) → records_in (logged v.log events) ≡ records_in v.log ++ numbered v.log events
  noted events = logged_records v.log sound events

  offer : (x : Extent) (xs : List Extent) → Then (solo_after c h v (Item.Given (x ∷ xs)))
  offer x xs =
      let w : View = record v { offers = v.offers ++ (x ∷ xs) ∷ [] } in
      subst (λ rs. Agrees (record (seen_in v) { offers = v.offers ++ (x ∷ xs) ∷ []; records = rs }) d) (sym (noted (records_of_extents h w EventKind.Add (x ∷ xs))))
      (given (seen_in v) d a (numbered v.log (records_of_extents h w EventKind.Add (x ∷ xs))) (x ∷ xs) (are_offer v.log h w x xs))

  request : (xs : List Extent) → Then (solo_after c h v (Item.Asked xs))
  request xs =
      subst (λ rs. Agrees (record (seen_in v) { records = rs }) d) (sym (noted (records_of_extents h v EventKind.Release xs)))
      (told_quiet (seen_in v) d a (numbered v.log (records_of_extents h v EventKind.Release xs)) (are_quiet v.log h v xs))

  removal : (xs : List Extent) → CanGo (seen_in v) xs → Then (solo_after c h v (Item.Taken xs))
  removal xs can =
      let w : View = record v { accepted = cut_all xs v.accepted; changes = v.changes + 1 } in
      subst (λ rs. Agrees (record (seen_in v) { accepted = cut_all xs v.accepted; records = rs }) d) (sym (noted (records_of_extents h w EventKind.Forced xs)))
      (taken (seen_in v) d a xs (numbered v.log (records_of_extents h w EventKind.Forced xs)) (are_forced v.log h w xs) can apart)

  block : (r size : ℕ) → Then (solo_after c h v (Item.Block r size))
  block r size = by (nat_lt r (length c.regions) && is_supported (region_spec c r) size)
    where
      w : View
      w = record v { block = λ s. if s == r then size else v.block s }

      event : Event
      event = record (record_for h v EventKind.RegionUpdated false no_extent) { region = r }

      by : (fine : Bool) → Then (if fine then with_log_records w (event ∷ []) else v)
      by true = subst (λ rs. Agrees (record (seen_in v) { records = rs }) d) (sym (noted (event ∷ [])))
          (told_quiet (seen_in v) d a (numbered v.log (event ∷ [])) (block_quiet v.log h v r))
      by false = a

  -- one block size at most
  blocks : (items : List Item) → list_all is_block items ≡ true → IsOneAtMost items → Then (fold (solo_after c h) v items)
  blocks [] all few = a
  blocks (Item.Block r size ∷ []) all few = block r size
  blocks (Item.Own act ∷ []) all few = absurd (false≢true all)
  blocks (Item.Given xs ∷ []) all few = absurd (false≢true all)
  blocks (Item.Asked xs ∷ []) all few = absurd (false≢true all)
  blocks (Item.Taken xs ∷ []) all few = absurd (false≢true all)
  blocks (item ∷ next ∷ more) all few = absurd few

  -- one item at most of all that an entry brings
  abbrev items_with : List Extent → List Extent → List Extent → List Item → List Item
  items_with given asked taken blocks = item_of Item.Given given ++ item_of Item.Asked asked ++ item_of Item.Taken taken ++ blocks

  one : (new : List Effect) (given asked taken : List Extent) (bs : List Item) → list_all is_block bs ≡ true
      → (bs ≡ [] → CanGo (seen_in v) taken) → IsOneAtMost (items_with given asked taken bs) → Then (fold (solo_after c h) v (items_with given asked taken bs))
  one new [] [] [] bs all can few = blocks bs all few
  one new (x ∷ xs) [] [] [] all can few = offer x xs
  one new [] (x ∷ xs) [] [] all can few = request (x ∷ xs)
  one new [] [] (x ∷ xs) [] all can few = removal (x ∷ xs) (can refl)
  one new (x ∷ xs) [] [] (b ∷ bs) all can few = absurd few
  one new (x ∷ xs) [] (y ∷ ys) bs all can few = absurd few
  one new (x ∷ xs) (y ∷ ys) zs bs all can few = absurd few
  one new [] (x ∷ xs) [] (b ∷ bs) all can few = absurd few
  one new [] (x ∷ xs) (y ∷ ys) bs all can few = absurd few
  one new [] [] (x ∷ xs) (b ∷ bs) all can few = absurd few

  pub brought : (new : List Effect) → (filter_map block_item new ≡ [] → CanGo (seen_in v) (extents_recorded h EventKind.Forced new)) → IsOneAtMost (delivered h new)
      → Agrees (seen_in (fold (solo_after c h) v (delivered h new))) d
  brought new can few = one new (extents_recorded h EventKind.Add new) (extents_recorded h EventKind.Release new) (extents_recorded h EventKind.Forced new) (filter_map block_item new) (all_blocks new) can few
