-- What a host has at the device and what its driver keeps, between any two steps.
use Rattle.std.proofs.Common.{◌≡◌, inl, inr, ℕ, ◌+◌, ◌^◌, ◌<◌, ◌≤◌, Bool, true, false, List, [], ◌∷◌, ◌++◌, Some, None, length, map, refl, sym, ap, subst, ◌∙◌, append_assoc, append-nil, arith, length-append}
use Rattle.std.proofs.lemmas.{Bool.cases_Bool, Bool.lt-ltb, Bool.or_from, Bool.or_parts, List.length-map, List.nil_from_length, Option.none-some, Option.same_Some}
use Rattle.std.specs.{List.AllByRecursion, List.list_any, Prelude.Option, Prelude.if◌then◌else◌, Prelude.find}
use Rattle.dcd_base.specs.declared.capacity.Extent.{Extent}
use Rattle.event_log.specs.Logs.{records_in}
use Rattle.event_records.specs.declared.events.{Event.Event, EventKind.EventKind}
use Rattle.extent_list.specs.ExtentLists.{cut, has_range}
use Rattle.host_payloads.specs.HostPayloads.{FitsListed}
use Rattle.device_plain.specs.device_rules.{specs.Views.View, proofs.ListSteps.each-append}
use Rattle.host_driver.{specs.declared.due.Due.Due, proofs.Passing.EachLies, proofs.Passing.without_all, specs.Running.due_weight, specs.Spelling.IsSpelled, proofs.ReadBack.spelled_fits}
use Rattle.host_driver.specs.Driving.{Driven, answer_to, behind_page, cut_out, cut_within, due_behind, noted, treated, unless_due}
use Rattle.host_driver.proofs.Pending.{AreBehind, AreBeside, BehindBy, ends, forced, forced_in, gathers, left_of, offers_in}

-- ---- what a host has at the device

pub record Seen : Type 0 where
  pub offers : List (List Extent)
  pub accepted : List Extent
  pub responses : List Extent
  pub releases : List Extent
  pub records : List Event

abbrev pub seen_in : View → Seen
seen_in v = record { offers = v.offers; accepted = v.accepted; responses = v.responses; releases = v.releases; records = records_in v.log }

-- ---- what the driver keeps beside it

-- the handles of records
abbrev pub handles_of : List Event → List ℕ
handles_of es = map (λ (e : Event). e.handle) es

-- A removal that is still to be treated has some bytes, ends at an address, and shares no address with an accepted extent.
pub record IsRemoval (accepted : List Extent) (p : Extent) : Type 0 where
  pub some : 0 < p.length
  pub ends : p.start + p.length < 2 ^ 64
  pub beside : AreBeside p accepted

-- These records are to come: without the extents that they take by force the table is the accepted list, and so on.
pub record Goes (s : Seen) (table offered asked : List Extent) (es : List Event) : Type 0 where
  pub accepted : s.accepted ≡ without_all (forced_in es) table
  pub lies : EachLies table (forced_in es)
  pub removals : AllByRecursion (IsRemoval s.accepted) (forced_in es)
  pub behind : AreBehind offered es
  pub no_responses : s.responses ≡ []
  pub no_releases : s.releases ≡ []
  pub offered_fits : AllByRecursion FitsListed offered
  pub asked_fits : AllByRecursion FitsListed asked

-- the offers that the device has, where an offer is gathered, and where it is due
abbrev pub offers_by : Due → List Extent → List Event → List (List Extent)
offers_by Due.Response g es = g ∷ offers_in [] es
offers_by other g es = offers_in g es

abbrev pub left_by : Due → List Extent → List Event → List Extent
left_by Due.Response g es = left_of [] es
left_by other g es = left_of g es

-- The page at hand: some of its records are done.
pub record HasPage (done left : List Event) (handles : List ℕ) : Type 0 where
  pub handles_are : handles ≡ handles_of (done ++ left)
  pub some : 0 < length (done ++ left)
  pub few : length (done ++ left) ≤ 15

abbrev pub IsAtHand : Due → List Event → List Event → List ℕ → Type 0
IsAtHand Due.Page done left handles = (done ≡ []) × (left ≡ []) × (handles ≡ [])
IsAtHand Due.Clear done left handles = HasPage done left handles × (left ≡ [])
IsAtHand Due.Response done left handles = HasPage done left handles
IsAtHand Due.Release done left handles = HasPage done left handles

-- Between any two steps: some records of the log are done, others are of the page at hand, and others were not read yet.
pub record Agrees (s : Seen) (d : Driven) : Type 0 where
  pub done : List Event
  pub unread : List Event
  pub log : s.records ≡ done ++ (d.records ++ unread)
  pub page : IsAtHand d.due done d.records d.handles
  pub goes : Goes s d.table d.offered d.asked (d.records ++ unread)
  pub offers : s.offers ≡ offers_by d.due d.offered (d.records ++ unread)
  pub whole : left_by d.due d.offered (d.records ++ unread) ≡ []
  pub spelled : AllByRecursion IsSpelled d.records
  pub awake : d.idle ≡ true → d.due ≡ Due.Page

-- In the midst of the records of a page, these are left.
pub record Midst (s : Seen) (d : Driven) (done left unread : List Event) : Type 0 where
  pub log : s.records ≡ done ++ (left ++ unread)
  pub handles_are : d.handles ≡ handles_of (done ++ left)
  pub few : length (done ++ left) ≤ 15
  pub goes : Goes s d.table d.offered d.asked (left ++ unread)
  pub offers : s.offers ≡ offers_in d.offered (left ++ unread)
  pub whole : left_of d.offered (left ++ unread) ≡ []
  pub spelled : AllByRecursion IsSpelled left
  pub awake : d.idle ≡ true → done ++ left ≡ []

-- ---- a record is treated

-- what ends at an address is cut out of the table
none_has : (p : Extent → Bool) (xs : List Extent) → find p xs ≡ None → list_any p xs ≡ false
none_has p [] none = refl
none_has p (x ∷ xs) none = elim (cases_Bool (p x)) [
  | inl here ↦ absurd (none-some x (sym none ∙ rw here refl))
  | inr other ↦ or_from (p x) (list_any p xs) other (none_has p xs (sym (rw other refl) ∙ none))
]

cut_none : (a n : ℕ) (xs : List Extent) → list_any (has_range a n) xs ≡ false → cut a n xs ≡ xs
cut_none a n [] none = refl
cut_none a n (x ∷ xs) none =
    let parts = or_parts (has_range a n x) (list_any (has_range a n) xs) none in
    rw parts.0 (ap (λ ys. x ∷ ys) (cut_none a n xs parts.1))

pub cut_out_is : (table : List Extent) (x : Extent) → x.start + x.length < 2 ^ 64 → cut_out table x ≡ cut x.start x.length table
cut_out_is table x low = by (find (has_range x.start x.length) table) refl
  where
    by : (found : Option Extent) → find (has_range x.start x.length) table ≡ found → cut_within table x found ≡ cut x.start x.length table
    by None none = sym (cut_none x.start x.length table (none_has (has_range x.start x.length) table none))
    by (Some y) is = rw (lt-ltb (x.start + x.length) 18446744073709551616 (omega (arith, low))) refl

-- What holds in the midst with this record first, of this extent, this kind and this flag.
record Before (s : Seen) (d : Driven) (x : Extent) (k : EventKind) (more : Bool) (es : List Event) : Type 0 where
  accepted : s.accepted ≡ without_all (forced x k (forced_in es)) d.table
  lies : EachLies d.table (forced x k (forced_in es))
  removals : AllByRecursion (IsRemoval s.accepted) (forced x k (forced_in es))
  behind : BehindBy d.offered x k (AreBehind (gathers d.offered x k) es)
  no_responses : s.responses ≡ []
  no_releases : s.releases ≡ []
  offered_fits : AllByRecursion FitsListed d.offered
  asked_fits : AllByRecursion FitsListed d.asked
  fits : FitsListed x
  offers : s.offers ≡ (if ends k more then gathers d.offered x k ∷ offers_in [] es else offers_in (gathers d.offered x k) es)
  whole : (if ends k more then left_of [] es else left_of (gathers d.offered x k) es) ≡ []

module _ (s : Seen) (d : Driven) (e : Event) (done left unread : List Event) (log_is : s.records ≡ done ++ (e ∷ left ++ unread))
    (handles_are : d.handles ≡ handles_of (done ++ e ∷ left)) (few : length (done ++ e ∷ left) ≤ 15) (spelled : AllByRecursion IsSpelled left)
    (awake : d.idle ≡ true → done ++ e ∷ left ≡ [])
    (goes_on : (next : Driven) → Midst s next (done ++ e ∷ []) left unread → Agrees s (treated next left)) where
  abbrev es : List Event
  es = left ++ unread

  abbrev now : Extent → EventKind → Driven
  now x k = noted (record d { records = left }) x k

  log_then : s.records ≡ (done ++ e ∷ []) ++ (left ++ unread)
  log_then = log_is ∙ sym (append_assoc done (e ∷ []) (left ++ unread))

  handles_then : d.handles ≡ handles_of ((done ++ e ∷ []) ++ left)
  handles_then = handles_are ∙ ap handles_of (sym (append_assoc done (e ∷ []) left))

  few_then : length ((done ++ e ∷ []) ++ left) ≤ 15
  few_then = subst (λ xs. length xs ≤ 15) (sym (append_assoc done (e ∷ []) left)) few

  -- a page with a record was not empty
  asleep : d.idle ≡ true → ⊥
  asleep idle = omega (arith, ap length (awake idle), length-append done (e ∷ left))

  page_then : HasPage (done ++ e ∷ []) left d.handles
  page_then = record {
    handles_are = handles_then;
    some = omega (arith, length-append (done ++ e ∷ []) left, length-append done (e ∷ []));
    few = few_then;
  }

  abbrev Then : Extent → EventKind → Bool → Type 0
  Then x k more = Agrees s (unless_due (if more then None else answer_to k) (now x k) (treated (now x k) left))

  gathered : (x : Extent) (more : Bool) → Before s d x EventKind.Add more (left ++ unread) → Then x EventKind.Add more
  gathered x true b = goes_on (record d { offered = d.offered ++ x ∷ []; records = left }) (record {
    log = log_then;
    handles_are = handles_then;
    few = few_then;
    goes = record {
      accepted = b.accepted;
      lies = b.lies;
      removals = b.removals;
      behind = b.behind;
      no_responses = b.no_responses;
      no_releases = b.no_releases;
      offered_fits = each-append FitsListed d.offered (x ∷ []) b.offered_fits (b.fits, tt);
      asked_fits = b.asked_fits;
    };
    offers = b.offers;
    whole = b.whole;
    spelled = spelled;
    awake = λ idle. absurd (asleep idle);
  })
  gathered x false b = record {
    done = done ++ e ∷ [];
    unread = unread;
    log = log_then;
    page = page_then;
    goes = record {
      accepted = b.accepted;
      lies = b.lies;
      removals = b.removals;
      behind = b.behind;
      no_responses = b.no_responses;
      no_releases = b.no_releases;
      offered_fits = each-append FitsListed d.offered (x ∷ []) b.offered_fits (b.fits, tt);
      asked_fits = b.asked_fits;
    };
    offers = b.offers;
    whole = b.whole;
    spelled = spelled;
    awake = λ idle. absurd (asleep idle);
  }

  requested : (x : Extent) (more : Bool) → Before s d x EventKind.Release more (left ++ unread) → Then x EventKind.Release more
  requested x true b = goes_on (record d { asked = d.asked ++ x ∷ []; records = left }) (record {
    log = log_then;
    handles_are = handles_then;
    few = few_then;
    goes = record {
      accepted = b.accepted;
      lies = b.lies;
      removals = b.removals;
      behind = b.behind;
      no_responses = b.no_responses;
      no_releases = b.no_releases;
      offered_fits = b.offered_fits;
      asked_fits = each-append FitsListed d.asked (x ∷ []) b.asked_fits (b.fits, tt);
    };
    offers = b.offers;
    whole = b.whole;
    spelled = spelled;
    awake = λ idle. absurd (asleep idle);
  })
  requested x false b = record {
    done = done ++ e ∷ [];
    unread = unread;
    log = log_then;
    page = page_then;
    goes = record {
      accepted = b.accepted;
      lies = b.lies;
      removals = b.removals;
      behind = b.behind;
      no_responses = b.no_responses;
      no_releases = b.no_releases;
      offered_fits = b.offered_fits;
      asked_fits = each-append FitsListed d.asked (x ∷ []) b.asked_fits (b.fits, tt);
    };
    offers = b.offers;
    whole = b.whole;
    spelled = spelled;
    awake = λ idle. absurd (asleep idle);
  }

  removed : (x : Extent) (more : Bool) → Before s d x EventKind.Forced more (left ++ unread) → Agrees s (treated (now x EventKind.Forced) left)
  removed x more b =
      let cut_is : cut_out d.table x ≡ cut x.start x.length d.table = cut_out_is d.table x b.removals.0.ends in
      goes_on (record d { table = cut_out d.table x; records = left }) (record {
        log = log_then;
        handles_are = handles_then;
        few = few_then;
        goes = subst (λ t. Goes s t d.offered d.asked (left ++ unread)) (sym cut_is) (record {
          accepted = b.accepted;
          lies = b.lies.1;
          removals = b.removals.1;
          behind = b.behind.1;
          no_responses = b.no_responses;
          no_releases = b.no_releases;
          offered_fits = b.offered_fits;
          asked_fits = b.asked_fits;
        });
        offers = b.offers;
        whole = b.whole;
        spelled = spelled;
        awake = λ idle. absurd (asleep idle);
      })

  updated : (x : Extent) (more : Bool) → Before s d x EventKind.RegionUpdated more (left ++ unread) → Agrees s (treated (record d { records = left }) left)
  updated x more b = goes_on (record d { records = left }) (record {
    log = log_then;
    handles_are = handles_then;
    few = few_then;
    goes = record {
      accepted = b.accepted;
      lies = b.lies;
      removals = b.removals;
      behind = b.behind;
      no_responses = b.no_responses;
      no_releases = b.no_releases;
      offered_fits = b.offered_fits;
      asked_fits = b.asked_fits;
    };
    offers = b.offers;
    whole = b.whole;
    spelled = spelled;
    awake = λ idle. absurd (asleep idle);
  })

  responded : (x : Extent) (more : Bool) → Before s d x EventKind.AddResponse more (left ++ unread) → Agrees s (treated (record d { records = left }) left)
  responded x more b = goes_on (record d { records = left }) (record {
    log = log_then;
    handles_are = handles_then;
    few = few_then;
    goes = record {
      accepted = b.accepted;
      lies = b.lies;
      removals = b.removals;
      behind = b.behind;
      no_responses = b.no_responses;
      no_releases = b.no_releases;
      offered_fits = b.offered_fits;
      asked_fits = b.asked_fits;
    };
    offers = b.offers;
    whole = b.whole;
    spelled = spelled;
    awake = λ idle. absurd (asleep idle);
  })

  released : (x : Extent) (more : Bool) → Before s d x EventKind.Released more (left ++ unread) → Agrees s (treated (record d { records = left }) left)
  released x more b = goes_on (record d { records = left }) (record {
    log = log_then;
    handles_are = handles_then;
    few = few_then;
    goes = record {
      accepted = b.accepted;
      lies = b.lies;
      removals = b.removals;
      behind = b.behind;
      no_responses = b.no_responses;
      no_releases = b.no_releases;
      offered_fits = b.offered_fits;
      asked_fits = b.asked_fits;
    };
    offers = b.offers;
    whole = b.whole;
    spelled = spelled;
    awake = λ idle. absurd (asleep idle);
  })

  one_record : (x : Extent) (k : EventKind) (more : Bool) → Before s d x k more (left ++ unread) → Then x k more
  one_record x EventKind.Add more b = gathered x more b
  one_record x EventKind.Release more b = requested x more b
  one_record x EventKind.Forced true b = removed x true b
  one_record x EventKind.Forced false b = removed x false b
  one_record x EventKind.RegionUpdated true b = updated x true b
  one_record x EventKind.RegionUpdated false b = updated x false b
  one_record x EventKind.AddResponse true b = responded x true b
  one_record x EventKind.AddResponse false b = responded x false b
  one_record x EventKind.Released true b = released x true b
  one_record x EventKind.Released false b = released x false b

-- ---- all that are left of a page

nothing_left : (s : Seen) (d : Driven) (done unread : List Event) → Midst s d done [] unread → Agrees s (treated d [])
nothing_left s d done unread m = by d.handles refl
  where
    counted : length d.handles ≡ length done
    counted = ap length m.handles_are ∙ length-map (done ++ []) (λ (e : Event). e.handle) ∙ ap length (append-nil done)

    by : (hs : List ℕ) → d.handles ≡ hs → Agrees s (record d { due = behind_page hs; records = [] })
    by [] is = record {
      done = done;
      unread = unread;
      log = m.log;
      page = (nil_from_length done (omega (arith, counted, ap length is)), refl, is);
      goes = m.goes;
      offers = m.offers;
      whole = m.whole;
      spelled = tt;
      awake = λ idle. refl;
    }
    by (h ∷ hs) is = record {
      done = done;
      unread = unread;
      log = m.log;
      page = (record { handles_are = m.handles_are; some = omega (arith, counted, ap length is, ap length (append-nil done)); few = m.few }, refl);
      goes = m.goes;
      offers = m.offers;
      whole = m.whole;
      spelled = tt;
      awake = λ idle. absurd (omega (arith, counted, ap length is, ap length (m.awake idle), ap length (append-nil done)));
    }

pub treated_agrees : (s : Seen) (left : List Event) (d : Driven) (done unread : List Event) → Midst s d done left unread → Agrees s (treated d left)
treated_agrees s [] d done unread m = nothing_left s d done unread m
treated_agrees s (e ∷ left) d done unread m =
    one_record s d e done left unread m.log m.handles_are m.few m.spelled.1 m.awake (λ next changed. treated_agrees s left next (done ++ e ∷ []) unread changed)
    e.extent e.kind e.more
    (record {
      accepted = m.goes.accepted;
      lies = m.goes.lies;
      removals = m.goes.removals;
      behind = m.goes.behind;
      no_responses = m.goes.no_responses;
      no_releases = m.goes.no_releases;
      offered_fits = m.goes.offered_fits;
      asked_fits = m.goes.asked_fits;
      fits = spelled_fits e m.spelled.0;
      offers = m.offers;
      whole = m.whole;
    })

-- ---- how much is to be done until the log is empty

-- a record changes neither the handles nor whether the page was empty
noted-handles : (d : Driven) (x : Extent) (k : EventKind) → (noted d x k).handles ≡ d.handles
noted-handles d x EventKind.Add = refl
noted-handles d x EventKind.Release = refl
noted-handles d x EventKind.Forced = refl
noted-handles d x other = refl

noted-idle : (d : Driven) (x : Extent) (k : EventKind) → (noted d x k).idle ≡ d.idle
noted-idle d x EventKind.Add = refl
noted-idle d x EventKind.Release = refl
noted-idle d x EventKind.Forced = refl
noted-idle d x other = refl

idle_by : (now later : Driven) (idle : Bool) (found : Option Due) → now.idle ≡ idle → later.idle ≡ idle → (unless_due found now later).idle ≡ idle
idle_by now later idle (Some due) here there = here
idle_by now later idle None here there = there

pub treated-idle : (left : List Event) (d : Driven) → (treated d left).idle ≡ d.idle
treated-idle [] d = refl
treated-idle (e ∷ left) d =
    let was = noted-idle (record d { records = left }) e.extent e.kind in
    idle_by (noted (record d { records = left }) e.extent e.kind) (treated (noted (record d { records = left }) e.extent e.kind) left) d.idle (due_behind e) was
    (treated-idle left (noted (record d { records = left }) e.extent e.kind) ∙ was)

noted-records : (d : Driven) (x : Extent) (k : EventKind) → (noted d x k).records ≡ d.records
noted-records d x EventKind.Add = refl
noted-records d x EventKind.Release = refl
noted-records d x EventKind.Forced = refl
noted-records d x other = refl

-- behind a record an answer is due, which takes no longer than the record
phase_of_answer : (k : EventKind) (due : Due) (left : List Event) → answer_to k ≡ Some due → due_weight due left ≤ 1 + length left
phase_of_answer EventKind.Add due left is = subst (λ u. due_weight u left ≤ 1 + length left) (same_Some Due.Response due is) (omega arith)
phase_of_answer EventKind.Release due left is = subst (λ u. due_weight u left ≤ 1 + length left) (same_Some Due.Release due is) (omega arith)
phase_of_answer EventKind.Forced due left is = absurd (none-some due is)
phase_of_answer EventKind.RegionUpdated due left is = absurd (none-some due is)
phase_of_answer EventKind.AddResponse due left is = absurd (none-some due is)
phase_of_answer EventKind.Released due left is = absurd (none-some due is)

phase_behind : (e : Event) (due : Due) (left : List Event) → due_behind e ≡ Some due → due_weight due left ≤ 1 + length left
phase_behind e due left is = by e.more refl
  where
    by : (more : Bool) → e.more ≡ more → due_weight due left ≤ 1 + length left
    by true more = absurd (none-some due (sym (ap (λ b. if b then None else answer_to e.kind) more) ∙ is))
    by false more = phase_of_answer e.kind due left (sym (ap (λ b. if b then None else answer_to e.kind) more) ∙ is)

phase_by : (e : Event) (left : List Event) (now later : Driven) → now.records ≡ left → due_weight later.due later.records ≤ length left → (found : Option Due) → due_behind e ≡ found
    → due_weight (unless_due found now later).due (unless_due found now later).records ≤ 1 + length left
phase_by e left now later left_now less (Some due) is = subst (λ rs. due_weight due rs ≤ 1 + length left) (sym left_now) (phase_behind e due left is)
phase_by e left now later left_now less None is = omega (arith, less)

pub treated-phase : (left : List Event) (d : Driven) → 0 < length d.handles → due_weight (treated d left).due (treated d left).records ≤ length left
treated-phase [] d some = by d.handles some
  where
    by : (hs : List ℕ) → 0 < length hs → due_weight (behind_page hs) [] ≤ 0
    by [] none = absurd (omega (arith, none))
    by (h ∷ hs) more = omega arith
treated-phase (e ∷ left) d some =
    let more : 1 + length left ≡ length (e ∷ left) = omega arith in
    subst (λ n. due_weight (treated d (e ∷ left)).due (treated d (e ∷ left)).records ≤ n) more
    (phase_by e left (noted (record d { records = left }) e.extent e.kind) (treated (noted (record d { records = left }) e.extent e.kind) left)
    (noted-records (record d { records = left }) e.extent e.kind)
    (treated-phase left (noted (record d { records = left }) e.extent e.kind) (subst (λ hs. 0 < length hs) (sym (noted-handles (record d { records = left }) e.extent e.kind)) some))
    (due_behind e) refl)
