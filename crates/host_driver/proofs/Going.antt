-- The records of a page, treated one by one.
use Rattle.std.proofs.Common.{◌≡◌, ℕ, Bool, ◌+◌, ◌<◌, ◌≤◌, List, ◌∷◌, length, get_or, drop, Option, None, refl, ap, subst, ◌∙◌, sym, arith, length-drop}
use Rattle.std.proofs.lemmas.List.{drop_more}
use Rattle.dcd_base.specs.declared.capacity.Extent.{Extent}
use Rattle.event_records.specs.declared.events.{Event.Event, EventKind.EventKind}
use Rattle.extent_list.specs.Rooms.{Room}
use Rattle.host_driver.specs.Driving.{Driven, due_behind, gone_on, noted, offer_ended, request_ended, treated, unless_due}
use Rattle.host_driver.specs.{Keeping.HasSpare, Keeping.kept_in, declared.due.Due.Due, declared.kept.Kept.Kept}

records_stay : (d : Driven) (x : Extent) (k : EventKind) → (noted d x k).records ≡ d.records
records_stay d x EventKind.Add = refl
records_stay d x EventKind.Release = refl
records_stay d x EventKind.Forced = refl
records_stay d x EventKind.RegionUpdated = refl
records_stay d x EventKind.AddResponse = refl
records_stay d x EventKind.Released = refl

-- what is made of the first of them
abbrev pub treated_one : Driven → Event → List Event → Driven
treated_one d e rest = noted (record d { records = rest }) e.extent e.kind

pub goes : (d : Driven) (e : Event) (rest : List Event) → d.records ≡ e ∷ rest → due_behind e ≡ None → gone_on (treated_one d e rest) ≡ gone_on d
goes d e rest is none =
    ap (treated (treated_one d e rest)) (records_stay (record d { records = rest }) e.extent e.kind)
    ∙ sym (ap (treated d) is ∙ ap (λ o. unless_due o (treated_one d e rest) (treated (treated_one d e rest) rest)) none)

-- ---- the same of the lists and the index that are kept

module _ (k : Kept) (room : HasSpare (length (drop k.at k.page)) k) (within : k.at < length k.page) where
  fewer : length (drop (k.at + 1) k.page) + 1 ≤ length (drop k.at k.page)
  fewer = omega (arith, length-drop k.at k.page, length-drop (k.at + 1) k.page, within)

  pub room_for_rest : (next : Kept) → ((n : ℕ) → HasSpare (n + 1) (record k { at = k.at + 1 }) → HasSpare n next) → next.page ≡ k.page → next.at ≡ k.at + 1
      → HasSpare (length (kept_in next).records) next
  room_for_rest next keeps page at =
      subst (λ n. HasSpare n next) (λ i. length (drop (sym at i) (sym page i))) (keeps (length (drop (k.at + 1) k.page)) (record {
        table = omega (arith, room.table, fewer);
        offered = omega (arith, room.offered, fewer);
        asked = omega (arith, room.asked, fewer);
      }))

module _ (k next : Kept) (e : Event) (is : drop k.at k.page ≡ e ∷ drop (k.at + 1) k.page)
    (noted_is : kept_in next ≡ noted (kept_in (record k { at = k.at + 1 })) e.extent e.kind) where
  pub kept_goes : due_behind e ≡ None → gone_on (kept_in next) ≡ gone_on (kept_in k)
  kept_goes none = ap gone_on noted_is ∙ goes (kept_in k) e (drop (k.at + 1) k.page) is none

-- one record more, where nothing is due behind it
pub goes_on : (k next : Kept) (page : List Event) (count : ℕ) (other : Event) (due : Option Due) (first : Driven) → page ≡ k.page → count ≡ length k.page → k.at < count
    → HasSpare (length (kept_in k).records) k → gone_on (kept_in k) ≡ first
    → kept_in next ≡ noted (kept_in (record k { at = k.at + 1 })) (get_or page k.at other).extent (get_or page k.at other).kind
    → ((n : ℕ) → HasSpare (n + 1) (record k { at = k.at + 1 }) → HasSpare n next) → next.page ≡ k.page → next.at ≡ k.at + 1
    → due ≡ due_behind (get_or page k.at other) → due ≡ None → HasSpare (length (kept_in next).records) next × (gone_on (kept_in next) ≡ first)
goes_on k next page count other due first page_is count_is within room ahead noted_is keeps page_next at_next due_is none =
    let inside : k.at < length k.page = omega (arith, count_is, within) in
    let split : drop k.at k.page ≡ get_or page k.at other ∷ drop (k.at + 1) k.page =
    drop_more k.page k.at other inside ∙ ap (λ (p : List Event). get_or p k.at other ∷ drop (k.at + 1) k.page) (sym page_is) in
    (room_for_rest k room inside next keeps page_next at_next, kept_goes k next (get_or page k.at other) split noted_is (sym due_is ∙ none) ∙ ahead)

-- ---- room behind an answer

pub room_behind_offer : (most left count : ℕ) (first grown next : Kept) (fresh : Room) → kept_in grown ≡ kept_in first → left ≡ length (kept_in first).records
    → count ≡ length first.offered.extents → HasSpare (left + count) grown → left ≤ fresh.spare → kept_in next ≡ offer_ended most (kept_in grown)
    → grown.table.spare ≤ next.table.spare + length grown.offered.extents → next.offered ≡ fresh → next.asked ≡ grown.asked → HasSpare (length (kept_in next).records) next
room_behind_offer most left count first grown next fresh same left_is count_is room spare ended table offered asked =
    let records : length (kept_in next).records ≡ left = ap (λ (d : Driven). length d.records) (ended ∙ ap (offer_ended most) same) ∙ sym left_is in
    let gathered : length grown.offered.extents ≡ count = ap (λ (d : Driven). length d.offered) same ∙ sym count_is in
    record {
      table = omega (arith, records, gathered, room.table, table);
      offered = omega (arith, records, ap (λ (r : Room). r.spare) offered, spare);
      asked = omega (arith, records, ap (λ (r : Room). r.spare) asked, room.asked);
    }

pub room_behind_request : (done : Bool) (left count : ℕ) (first grown next : Kept) (fresh : Room) → kept_in grown ≡ kept_in first → left ≡ length (kept_in first).records
    → count ≡ length first.asked.extents → HasSpare (left + count) grown → left ≤ fresh.spare → kept_in next ≡ request_ended done (kept_in grown)
    → grown.table.spare ≤ next.table.spare + length grown.asked.extents → next.offered ≡ grown.offered → next.asked ≡ fresh → HasSpare (length (kept_in next).records) next
room_behind_request done left count first grown next fresh same left_is count_is room spare ended table offered asked =
    let records : length (kept_in next).records ≡ left = ap (λ (d : Driven). length d.records) (ended ∙ ap (request_ended done) same) ∙ sym left_is in
    let gathered : length grown.asked.extents ≡ count = ap (λ (d : Driven). length d.asked) same ∙ sym count_is in
    record {
      table = omega (arith, records, gathered, room.table, table);
      offered = omega (arith, records, ap (λ (r : Room). r.spare) offered, room.offered);
      asked = omega (arith, records, ap (λ (r : Room). r.spare) asked, spare);
    }
