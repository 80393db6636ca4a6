-- Records that go into a log, and what they bring.
use Rattle.std.proofs.Common.{◌≡◌, ℕ, ◌≤◌, true, false, not, List, [], ◌∷◌, ◌++◌, length, drop, refl, sym, ap, ◌∙◌, append_assoc, append-nil, arith, length-append}
use Rattle.std.proofs.lemmas.List.{drop-append-le}
use Rattle.dcd_base.specs.{Words.is_empty, declared.capacity.Extent.Extent, declared.ids.HostId.HostId}
use Rattle.event_log.specs.Logs.{Log, logged, next_handle, recorded, records_in}
use Rattle.event_records.specs.declared.events.{Event.Event, EventKind.EventKind}
use Rattle.device_plain.specs.device_rules.specs.{Outcomes.no_extent, Outcomes.record_for, Outcomes.records_of_extents, Views.View}
use Rattle.host_driver.proofs.{Brought.AreForced, Brought.AreOffer, Brought.AreQuiet, Pending.AreBehind, Pending.forced_in, Pending.left_of, Pending.offers_in}

-- the records under the next handles
abbrev pub numbered : Log → List Event → List Event
numbered log [] = []
numbered log (e ∷ events) = record e { handle = next_handle log } ∷ numbered (recorded log e) events

drop-push : (n : ℕ) (xs : List Event) (x : Event) → n ≤ length xs → drop n (xs ++ x ∷ []) ≡ drop n xs ++ x ∷ []
drop-push n xs x few = drop-append-le n xs (x ∷ []) few

pub logged_records : (log : Log) → log.cleared ≤ length log.ever → (events : List Event) → records_in (logged log events) ≡ records_in log ++ numbered log events
logged_records log sound [] = sym (append-nil (records_in log))
logged_records log sound (e ∷ events) =
    let x : Event = record e { handle = next_handle log } in
    logged_records (recorded log e) (omega (arith, sound, length-append log.ever (x ∷ []))) events
    ∙ ap (λ front. front ++ numbered (recorded log e) events) (drop-push log.cleared log.ever x sound)
    ∙ append_assoc (records_in log) (x ∷ []) (numbered (recorded log e) events)

-- ---- an offer

offers_gathered : (log : Log) (h : HostId) (v : View) (g : List Extent) (x : Extent) (xs : List Extent)
    → offers_in g (numbered log (records_of_extents h v EventKind.Add (x ∷ xs))) ≡ (g ++ x ∷ xs) ∷ []
offers_gathered log h v g x [] = refl
offers_gathered log h v g x (y ∷ xs) =
    offers_gathered (recorded log (record_for h v EventKind.Add true x)) h v (g ++ x ∷ []) y xs ∙ ap (λ all. all ∷ []) (append_assoc g (x ∷ []) (y ∷ xs))

left_none : (log : Log) (h : HostId) (v : View) (g : List Extent) (x : Extent) (xs : List Extent)
    → left_of g (numbered log (records_of_extents h v EventKind.Add (x ∷ xs))) ≡ []
left_none log h v g x [] = refl
left_none log h v g x (y ∷ xs) = left_none (recorded log (record_for h v EventKind.Add true x)) h v (g ++ x ∷ []) y xs

none_forced : (log : Log) (h : HostId) (v : View) (xs : List Extent) → forced_in (numbered log (records_of_extents h v EventKind.Add xs)) ≡ []
none_forced log h v [] = refl
none_forced log h v (x ∷ xs) = none_forced (recorded log (record_for h v EventKind.Add (not (is_empty xs)) x)) h v xs

none_behind : (log : Log) (h : HostId) (v : View) (before xs : List Extent) → AreBehind before (numbered log (records_of_extents h v EventKind.Add xs))
none_behind log h v before [] = tt
none_behind log h v before (x ∷ xs) = none_behind (recorded log (record_for h v EventKind.Add (not (is_empty xs)) x)) h v (before ++ x ∷ []) xs

pub are_offer : (log : Log) (h : HostId) (v : View) (x : Extent) (xs : List Extent) → AreOffer (x ∷ xs) (numbered log (records_of_extents h v EventKind.Add (x ∷ xs)))
are_offer log h v x xs = record {
  offers = offers_gathered log h v [] x xs;
  left = left_none log h v [] x xs;
  forced = none_forced log h v (x ∷ xs);
  behind = λ before. none_behind log h v before (x ∷ xs);
}

-- ---- a request to release

pub are_quiet : (log : Log) (h : HostId) (v : View) (xs : List Extent) → AreQuiet (numbered log (records_of_extents h v EventKind.Release xs))
are_quiet log h v [] = record { offers = refl; left = refl; forced = refl; behind = λ before. tt }
are_quiet log h v (x ∷ xs) = let more = are_quiet (recorded log (record_for h v EventKind.Release (not (is_empty xs)) x)) h v xs in record {
  offers = more.offers;
  left = more.left;
  forced = more.forced;
  behind = more.behind;
}

-- ---- a new block size

pub block_quiet : (log : Log) (h : HostId) (v : View) (r : ℕ) → AreQuiet (numbered log (record (record_for h v EventKind.RegionUpdated false no_extent) { region = r } ∷ []))
block_quiet log h v r = record { offers = refl; left = refl; forced = refl; behind = λ before. tt }

-- ---- a removal

pub are_forced : (log : Log) (h : HostId) (v : View) (xs : List Extent) → AreForced xs (numbered log (records_of_extents h v EventKind.Forced xs))
are_forced log h v [] = record { offers = refl; left = refl; forced = refl; behind = λ before all. tt }
are_forced log h v (x ∷ xs) = let more = are_forced (recorded log (record_for h v EventKind.Forced (not (is_empty xs)) x)) h v xs in record {
  offers = more.offers;
  left = more.left;
  forced = ap (λ ys. x ∷ ys) more.forced;
  behind = λ before all. (all.0, more.behind before all.1);
}
