-- What the driver's own requests do, where the device answers them.
use Rattle.std.proofs.Common.{◌≡◌, ℕ, ◌+◌, ◌^◌, ◌<◌, ◌≤◌, Bool, true, false, List, [], ◌∷◌, ◌++◌, length, take, drop, refl, sym, ap, subst, ◌∙◌, inl, inr, append-nil, arith}
use Rattle.std.proofs.lemmas.{Bool.cases_Bool, Bool.false≢true, List.drop_at, List.length-map, List.length-take, List.take-append-drop}
use Rattle.std.specs.List.{AllByRecursion}
use Rattle.dcd_base.specs.{declared.capacity.Extent.Extent, Words.is_empty}
use Rattle.event_records.specs.declared.events.Event.{Event}
use Rattle.extent_list.specs.ExtentLists.{cut_all, has_range, is_in}
use Rattle.device_plain.specs.device_rules.proofs.ListSteps.{each-append, each-both, each-change, each-front}
use Rattle.host_driver.proofs.{Apart.turned, Apart.within, Brought.beside_cuts}
use Rattle.host_driver.proofs.Passing.{EachLies, IsApart, acceptance_leaves, acceptance_passes, cut_by, release_leaves, release_passes, without_all}
use Rattle.host_driver.proofs.Pending.{AreBehind, AreBeside, IsBeside, behind_each, behind_less, forced_in, left_of, offers_in}
use Rattle.host_driver.specs.{Driving.Driven, Driving.cut_all_out, Driving.gone_on, Driving.with_page, Spelling.IsSpelled, declared.due.Due.Due}
use Rattle.host_driver.proofs.Midway.{Agrees, Goes, HasPage, IsAtHand, IsRemoval, Seen, cut_out_is, handles_of, left_by, offers_by, treated_agrees}

-- ---- a page is read

pub empty_is : {X : Type 0} (xs : List X) → is_empty xs ≡ true → xs ≡ []
empty_is [] empty = refl
empty_is (x ∷ xs) none = absurd (false≢true none)

pub some_is : {X : Type 0} (xs : List X) → is_empty xs ≡ false → 0 < length xs
some_is [] none = absurd (false≢true (sym none))
some_is (x ∷ xs) some = omega arith

abbrev pub waits : Due → Bool
waits Due.Page = false
waits Due.Clear = false
waits Due.Response = true
waits Due.Release = true

abbrev pub is_page : Due → Bool
is_page Due.Page = true
is_page Due.Clear = false
is_page Due.Response = false
is_page Due.Release = false

pub each-take : {X : Type 0} (P : X → Type 0) (n : ℕ) (xs : List X) → AllByRecursion P xs → AllByRecursion P (take n xs)
each-take P n xs all = each-front P (take n xs) (drop n xs) (subst (AllByRecursion P) (sym (take-append-drop n xs)) all)

module _ (s : Seen) (d : Driven) (a : Agrees s d) where
  -- what is at hand, by what is due
  at_hand : (due : Due) → d.due ≡ due → IsAtHand due a.done d.records d.handles
  at_hand due is = subst (λ k. IsAtHand k a.done d.records d.handles) is a.page

  offers_are : (due : Due) → d.due ≡ due → s.offers ≡ offers_by due d.offered (d.records ++ a.unread)
  offers_are due is = a.offers ∙ ap (λ k. offers_by k d.offered (d.records ++ a.unread)) is

  whole_is : (due : Due) → d.due ≡ due → left_by due d.offered (d.records ++ a.unread) ≡ []
  whole_is due is = subst (λ k. left_by k d.offered (d.records ++ a.unread) ≡ []) is a.whole

  -- whoever waits for an answer is not idle
  pub not_page : (due : Due) → d.due ≡ due → is_page due ≡ false → d.idle ≡ true → ⊥
  not_page due is other idle = false≢true (sym other ∙ ap is_page (sym is ∙ a.awake idle))

  -- a page at hand has handles
  pub handles_some : (due : Due) → d.due ≡ due → waits due ≡ true → 0 < length d.handles
  handles_some due is waiting = by due waiting (at_hand due is)
    where
      by : (due : Due) → waits due ≡ true → IsAtHand due a.done d.records d.handles → 0 < length d.handles
      by Due.Page none at = absurd (false≢true none)
      by Due.Clear none at = absurd (false≢true none)
      by Due.Response some at = omega (arith, at.some, ap length at.handles_are, length-map (a.done ++ d.records) (λ (e : Event). e.handle))
      by Due.Release some at = omega (arith, at.some, ap length at.handles_are, length-map (a.done ++ d.records) (λ (e : Event). e.handle))

  pub page_read : d.due ≡ Due.Page → AllByRecursion IsSpelled s.records → Agrees s (with_page d (take 15 s.records))
  page_read is spelled =
      treated_agrees s (take 15 s.records) d1 [] (drop 15 s.records) (record {
        log = parts;
        handles_are = refl;
        few = omega (arith, length-take 15 s.records);
        goes = subst (Goes s d.table d.offered d.asked) ahead a.goes;
        offers = offers_are Due.Page is ∙ ap (offers_in d.offered) ahead;
        whole = ap (left_of d.offered) (sym ahead) ∙ whole_is Due.Page is;
        spelled = each-take IsSpelled 15 s.records spelled;
        awake = λ idle. empty_is (take 15 s.records) idle;
      })
    where
      d1 : Driven
      d1 = record d { records = take 15 s.records; handles = handles_of (take 15 s.records); idle = is_empty (take 15 s.records) }

      parts : s.records ≡ take 15 s.records ++ drop 15 s.records
      parts = sym (take-append-drop 15 s.records)

      ahead : d.records ++ a.unread ≡ take 15 s.records ++ drop 15 s.records
      ahead = sym (a.log ∙ ap (λ front. front ++ (d.records ++ a.unread)) (at_hand Due.Page is).0) ∙ parts

  -- ---- its records are cleared

  -- the handles are those of the records in front
  pub cleared_front : d.due ≡ Due.Clear → (s.records ≡ a.done ++ a.unread) × (d.handles ≡ handles_of a.done)
  cleared_front is =
      let page = at_hand Due.Clear is in (
        a.log ∙ ap (λ rs. a.done ++ (rs ++ a.unread)) page.1,
        page.0.handles_are ∙ ap (λ rs. handles_of (a.done ++ rs)) page.1 ∙ ap handles_of (append-nil a.done),
      )

  pub cleared_count : d.due ≡ Due.Clear → (0 < length d.handles) × (length d.handles ≤ 15)
  cleared_count is =
      let page = at_hand Due.Clear is in
      let counted : length d.handles ≡ length (a.done ++ d.records) = ap length page.0.handles_are ∙ length-map (a.done ++ d.records) (λ (e : Event). e.handle) in
      (omega (arith, counted, page.0.some), omega (arith, counted, page.0.few))

  pub page_cleared : d.due ≡ Due.Clear
      → Agrees (record s { records = drop (length d.handles) s.records }) (record d { due = Due.Page; handles = [] })
  page_cleared is =
      let page = at_hand Due.Clear is in
      let front = cleared_front is in
      let counted : length a.done ≡ length d.handles = sym (ap length front.1 ∙ length-map a.done (λ (e : Event). e.handle)) in
      let rest : drop (length d.handles) s.records ≡ a.unread = ap (drop (length d.handles)) front.0 ∙ drop_at a.done a.unread (length d.handles) counted in
      record {
        done = [];
        unread = a.unread;
        log = rest ∙ ap (λ rs. rs ++ a.unread) (sym page.1);
        page = (refl, page.1, refl);
        goes = record {
          accepted = a.goes.accepted;
          lies = a.goes.lies;
          removals = a.goes.removals;
          behind = a.goes.behind;
          no_responses = a.goes.no_responses;
          no_releases = a.goes.no_releases;
          offered_fits = a.goes.offered_fits;
          asked_fits = a.goes.asked_fits;
        };
        offers = offers_are Due.Clear is;
        whole = whole_is Due.Clear is;
        spelled = a.spelled;
        awake = λ idle. refl;
      }

  -- ---- an offer is answered

  -- the offer that is due is the oldest
  pub oldest : d.due ≡ Due.Response → s.offers ≡ d.offered ∷ offers_in [] (d.records ++ a.unread)
  oldest is = offers_are Due.Response is

  pub beside_all : AllByRecursion (λ p. AreBeside p d.offered) (forced_in (d.records ++ a.unread))
  beside_all = behind_each d.offered [] (d.records ++ a.unread) (subst (λ g. AreBehind g (d.records ++ a.unread)) (sym (append-nil d.offered)) a.goes.behind)

  pub beside_none : AllByRecursion (λ p. AreBeside p []) (forced_in (d.records ++ a.unread))
  beside_none = each-change (λ p. AreBeside p d.offered) (λ p. AreBeside p []) (λ p all. tt) (forced_in (d.records ++ a.unread)) beside_all

  pub offer_answered : d.due ≡ Due.Response → (xs : List Extent) → AllByRecursion (λ p. AreBeside p xs) (forced_in (d.records ++ a.unread))
      → Agrees (record s { offers = offers_in [] (d.records ++ a.unread); accepted = s.accepted ++ xs }) (gone_on (record d { table = d.table ++ xs; offered = [] }))
  offer_answered is xs beside =
      let page = at_hand Due.Response is in
      let ps : List Extent = forced_in (d.records ++ a.unread) in
      treated_agrees (record s { offers = offers_in [] (d.records ++ a.unread); accepted = s.accepted ++ xs }) d.records (record d { table = d.table ++ xs; offered = [] }) a.done a.unread (record {
        log = a.log;
        handles_are = page.handles_are;
        few = page.few;
        goes = record {
          accepted = ap (λ list. list ++ xs) a.goes.accepted ∙ sym (acceptance_passes xs (forced_in (d.records ++ a.unread)) d.table a.goes.lies);
          lies = acceptance_leaves xs (forced_in (d.records ++ a.unread)) d.table a.goes.lies;
          removals = each-both (IsRemoval s.accepted) (λ p. AreBeside p xs) (IsRemoval (s.accepted ++ xs))
              (λ p r more. record { some = r.some; ends = r.ends; beside = each-append (IsBeside p) s.accepted xs r.beside more })
              (forced_in (d.records ++ a.unread)) a.goes.removals beside;
          behind = behind_less d.offered [] (d.records ++ a.unread) (subst (λ g. AreBehind g (d.records ++ a.unread)) (sym (append-nil d.offered)) a.goes.behind);
          no_responses = a.goes.no_responses;
          no_releases = a.goes.no_releases;
          offered_fits = tt;
          asked_fits = a.goes.asked_fits;
        };
        offers = refl;
        whole = whole_is Due.Response is;
        spelled = a.spelled;
        awake = λ idle. absurd (not_page Due.Response is refl idle);
      })

-- ---- a request to release is met

-- what ends at an address is cut out of the table as of the accepted list
cut_all_out_is : (xs table : List Extent) → AllByRecursion (λ (x : Extent). x.start + x.length < 2 ^ 64) xs → cut_all_out xs table ≡ cut_all xs table
cut_all_out_is [] table ends = refl
cut_all_out_is (x ∷ xs) table (first, ends) = ap (cut_all_out xs) (cut_out_is table x first) ∙ cut_all_out_is xs (cut_by table x) ends

-- These extents can be given back.
pub record CanGive (s : Seen) (xs : List Extent) : Type 0 where
  pub some : AllByRecursion (λ (x : Extent). 0 < x.length) xs
  pub ends : AllByRecursion (λ (x : Extent). x.start + x.length < 2 ^ 64) xs
  pub inside : AllByRecursion (λ x. is_in s.accepted x ≡ true) xs

-- a removal is beside what lies in the accepted extents
removal_beside : (p x : Extent) (accepted : List Extent) → AreBeside p accepted → is_in accepted x ≡ true → IsBeside p x
removal_beside p x [] all none = absurd (false≢true none)
removal_beside p x (y ∷ accepted) (first, all) inside = elim (cases_Bool (has_range x.start x.length y)) [
  | inl here ↦ turned x p (within x y p here (turned p y first))
  | inr other ↦ removal_beside p x accepted all (rw other at inside)
]

-- so the pending removals pass what is given back
gives_pass : (xs ps table : List Extent) → AllByRecursion (λ (x : Extent). 0 < x.length) xs → AllByRecursion (λ x. AllByRecursion (IsApart x) ps) xs → EachLies table ps
    → (cut_all xs (without_all ps table) ≡ without_all ps (cut_all xs table)) × EachLies (cut_all xs table) ps
gives_pass [] ps table some apart lies = (refl, lies)
gives_pass (x ∷ xs) ps table (first, some) (here, apart) lies =
    let more = gives_pass xs ps (cut_by table x) some apart (release_leaves x ps table first here lies) in
    (ap (cut_all xs) (sym (release_passes x ps table first here)) ∙ more.0, more.1)

module _ (s : Seen) (d : Driven) (a : Agrees s d) (is : d.due ≡ Due.Release) where
  page : HasPage a.done d.records d.handles
  page = at_hand s d a Due.Release is

  offers_now : s.offers ≡ offers_in d.offered (d.records ++ a.unread)
  offers_now = offers_are s d a Due.Release is

  whole_now : left_of d.offered (d.records ++ a.unread) ≡ []
  whole_now = whole_is s d a Due.Release is

  pub release_refused : Agrees s (gone_on (record d { asked = [] }))
  release_refused = treated_agrees s d.records (record d { asked = [] }) a.done a.unread (record {
    log = a.log;
    handles_are = page.handles_are;
    few = page.few;
    goes = record {
      accepted = a.goes.accepted;
      lies = a.goes.lies;
      removals = a.goes.removals;
      behind = a.goes.behind;
      no_responses = a.goes.no_responses;
      no_releases = a.goes.no_releases;
      offered_fits = a.goes.offered_fits;
      asked_fits = tt;
    };
    offers = offers_now;
    whole = whole_now;
    spelled = a.spelled;
    awake = λ idle. absurd (not_page s d a Due.Release is refl idle);
  })

  module _ (xs : List Extent) (can : CanGive s xs) where
    abbrev ps : List Extent
    ps = forced_in (d.records ++ a.unread)

    apart : AllByRecursion (λ x. AllByRecursion (IsApart x) (forced_in (d.records ++ a.unread))) xs
    apart = each-change (λ x. is_in s.accepted x ≡ true) (λ x. AllByRecursion (IsApart x) (forced_in (d.records ++ a.unread)))
        (λ x inside. each-change (IsRemoval s.accepted) (IsApart x)
        (λ p r. record { some = r.some; beside = removal_beside p x s.accepted r.beside inside }) (forced_in (d.records ++ a.unread)) a.goes.removals) xs can.inside

    passes : (cut_all xs (without_all (forced_in (d.records ++ a.unread)) d.table) ≡ without_all (forced_in (d.records ++ a.unread)) (cut_all xs d.table))
        × EachLies (cut_all xs d.table) (forced_in (d.records ++ a.unread))
    passes = gives_pass xs (forced_in (d.records ++ a.unread)) d.table can.some apart a.goes.lies

    cut_is : cut_all_out xs d.table ≡ cut_all xs d.table
    cut_is = cut_all_out_is xs d.table can.ends

    pub release_done : Agrees (record s { accepted = cut_all xs s.accepted }) (gone_on (record d { table = cut_all_out xs d.table; asked = [] }))
    release_done = treated_agrees (record s { accepted = cut_all xs s.accepted }) d.records (record d { table = cut_all_out xs d.table; asked = [] }) a.done a.unread (record {
      log = a.log;
      handles_are = page.handles_are;
      few = page.few;
      goes = record {
        accepted = ap (cut_all xs) a.goes.accepted ∙ passes.0 ∙ ap (without_all (forced_in (d.records ++ a.unread))) (sym cut_is);
        lies = subst (λ t. EachLies t (forced_in (d.records ++ a.unread))) (sym cut_is) passes.1;
        removals = each-change (IsRemoval s.accepted) (IsRemoval (cut_all xs s.accepted))
            (λ p r. record { some = r.some; ends = r.ends; beside = beside_cuts p xs s.accepted r.beside }) (forced_in (d.records ++ a.unread)) a.goes.removals;
        behind = a.goes.behind;
        no_responses = a.goes.no_responses;
        no_releases = a.goes.no_releases;
        offered_fits = a.goes.offered_fits;
        asked_fits = tt;
      };
      offers = offers_now;
      whole = whole_now;
      spelled = a.spelled;
      awake = λ idle. absurd (not_page s d a Due.Release is refl idle);
    })
