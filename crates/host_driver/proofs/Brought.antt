-- What others bring a host: offers, requests to release, removals and new block sizes.
use Rattle.std.proofs.Common.{◌≡◌, ◌+◌, ◌^◌, ◌<◌, true, List, [], ◌∷◌, ◌++◌, sym, ap, subst, ◌∙◌, inl, inr, append_assoc, append-nil}
use Rattle.std.{specs.Prelude.flat_map, specs.List.AllByRecursion, proofs.lemmas.Bool.cases_Bool, proofs.lemmas.Bool.false≢true, proofs.lemmas.List.Sums.fold-append}
use Rattle.dcd_base.specs.declared.capacity.Extent.{Extent}
use Rattle.event_records.specs.declared.events.Event.{Event}
use Rattle.extent_list.specs.ExtentLists.{cut_all, has_range, is_in}
use Rattle.device_plain.specs.device_rules.proofs.ListSteps.{each-append, each-both, each-change}
use Rattle.host_driver.proofs.Apart.{AreApart, apart-across, apart-front, apart_cut, beside_cut, cut_beside, within}
use Rattle.host_driver.proofs.{Midway.Agrees, Midway.Goes, Midway.IsRemoval, Midway.Seen, Midway.left_by, Midway.offers_by, Passing.EachLies, Passing.cut_by, Passing.without_all}
use Rattle.host_driver.specs.{Driving.Driven, declared.due.Due.Due}
use Rattle.host_driver.proofs.Pending.{AreBehind, AreBeside, IsBeside, behind-append, forced-append, forced_in, left-append, left_of, offered_from, offered_is, offered_with, offers-append, offers_in}

-- ---- more records behind, by what is due

offers_by-append : (due : Due) (g : List Extent) (es new : List Event) → left_by due g es ≡ [] → offers_by due g (es ++ new) ≡ offers_by due g es ++ offers_in [] new
offers_by-append Due.Response g es new whole = ap (λ more. g ∷ more) (offers-append [] es new ∙ ap (λ l. offers_in [] es ++ offers_in l new) whole)
offers_by-append Due.Page g es new whole = offers-append g es new ∙ ap (λ l. offers_in g es ++ offers_in l new) whole
offers_by-append Due.Clear g es new whole = offers-append g es new ∙ ap (λ l. offers_in g es ++ offers_in l new) whole
offers_by-append Due.Release g es new whole = offers-append g es new ∙ ap (λ l. offers_in g es ++ offers_in l new) whole

left_by-append : (due : Due) (g : List Extent) (es new : List Event) → left_by due g es ≡ [] → left_by due g (es ++ new) ≡ left_of [] new
left_by-append Due.Response g es new whole = left-append [] es new ∙ ap (λ l. left_of l new) whole
left_by-append Due.Page g es new whole = left-append g es new ∙ ap (λ l. left_of l new) whole
left_by-append Due.Clear g es new whole = left-append g es new ∙ ap (λ l. left_of l new) whole
left_by-append Due.Release g es new whole = left-append g es new ∙ ap (λ l. left_of l new) whole

-- all that is gathered and to come stands in the offers
offered_whole : (g : List Extent) (es : List Event) → left_of g es ≡ [] → offered_with g es ≡ flat_map (λ xs. xs) (offers_in g es)
offered_whole g es whole = offered_is g es ∙ ap (λ l. flat_map (λ xs. xs) (offers_in g es) ++ l) whole ∙ append-nil (flat_map (λ xs. xs) (offers_in g es))

offered_all : (due : Due) (g : List Extent) (es : List Event) → left_by due g es ≡ [] → offered_with g es ≡ flat_map (λ xs. xs) (offers_by due g es)
offered_all Due.Response g es whole =
    sym (ap (λ l. offered_with l es) (append-nil g)) ∙ offered_from g [] es ∙ ap (λ more. g ++ more) (offered_whole [] es whole)
offered_all Due.Page g es whole = offered_whole g es whole
offered_all Due.Clear g es whole = offered_whole g es whole
offered_all Due.Release g es whole = offered_whole g es whole

-- ---- records that come

-- they are an offer of these extents, or none
pub record AreOffer (xs : List Extent) (new : List Event) : Type 0 where
  pub offers : offers_in [] new ≡ xs ∷ []
  pub left : left_of [] new ≡ []
  pub forced : forced_in new ≡ []
  pub behind : (before : List Extent) → AreBehind before new

-- they bring neither an offer nor a removal
pub record AreQuiet (new : List Event) : Type 0 where
  pub offers : offers_in [] new ≡ []
  pub left : left_of [] new ≡ []
  pub forced : forced_in new ≡ []
  pub behind : (before : List Extent) → AreBehind before new

-- they bring that these extents are taken by force
pub record AreForced (xs : List Extent) (new : List Event) : Type 0 where
  pub offers : offers_in [] new ≡ []
  pub left : left_of [] new ≡ []
  pub forced : forced_in new ≡ xs
  pub behind : (before : List Extent) → AllByRecursion (λ p. AreBeside p before) xs → AreBehind before new

module _ (s : Seen) (d : Driven) (a : Agrees s d) (new : List Event) where
  abbrev es : List Event
  es = d.records ++ a.unread

  pub grouped : d.records ++ (a.unread ++ new) ≡ (d.records ++ a.unread) ++ new
  grouped = sym (append_assoc d.records a.unread new)

  pub log_then : s.records ++ new ≡ a.done ++ (d.records ++ (a.unread ++ new))
  log_then =
      ap (λ rs. rs ++ new) a.log ∙ append_assoc a.done (d.records ++ a.unread) new ∙ ap (λ rs. a.done ++ rs) (append_assoc d.records a.unread new)

  pub offers_then : offers_by d.due d.offered (d.records ++ (a.unread ++ new)) ≡ s.offers ++ offers_in [] new
  offers_then = ap (offers_by d.due d.offered) grouped ∙ offers_by-append d.due d.offered (d.records ++ a.unread) new a.whole ∙ ap (λ os. os ++ offers_in [] new) (sym a.offers)

  pub whole_then : left_of [] new ≡ [] → left_by d.due d.offered (d.records ++ (a.unread ++ new)) ≡ []
  whole_then none = ap (left_by d.due d.offered) grouped ∙ left_by-append d.due d.offered (d.records ++ a.unread) new a.whole ∙ none

  forced_same : forced_in new ≡ [] → forced_in (d.records ++ (a.unread ++ new)) ≡ forced_in (d.records ++ a.unread)
  forced_same none = ap forced_in grouped ∙ forced-append (d.records ++ a.unread) new ∙ ap (λ xs. forced_in (d.records ++ a.unread) ++ xs) none ∙ append-nil (forced_in (d.records ++ a.unread))

  behind_then : ((before : List Extent) → AreBehind before new) → AreBehind d.offered (d.records ++ (a.unread ++ new))
  behind_then all = subst (AreBehind d.offered) (sym grouped) (behind-append d.offered (d.records ++ a.unread) new a.goes.behind (all (offered_with d.offered (d.records ++ a.unread))))

  -- where nothing is taken, all goes on as before
  goes_then : (offers : List (List Extent)) → forced_in new ≡ [] → ((before : List Extent) → AreBehind before new)
      → Goes (record s { offers = offers; records = s.records ++ new }) d.table d.offered d.asked (d.records ++ (a.unread ++ new))
  goes_then offers none all = let same = forced_same none in record {
    accepted = a.goes.accepted ∙ ap (λ xs. without_all xs d.table) (sym same);
    lies = subst (EachLies d.table) (sym same) a.goes.lies;
    removals = subst (AllByRecursion (IsRemoval s.accepted)) (sym same) a.goes.removals;
    behind = behind_then all;
    no_responses = a.goes.no_responses;
    no_releases = a.goes.no_releases;
    offered_fits = a.goes.offered_fits;
    asked_fits = a.goes.asked_fits;
  }

  pub given : (xs : List Extent) → AreOffer xs new → Agrees (record s { offers = s.offers ++ xs ∷ []; records = s.records ++ new }) d
  given xs o = record {
    done = a.done;
    unread = a.unread ++ new;
    log = log_then;
    page = a.page;
    goes = goes_then (s.offers ++ xs ∷ []) o.forced o.behind;
    offers = ap (λ os. s.offers ++ os) (sym o.offers) ∙ sym offers_then;
    whole = whole_then o.left;
    spelled = a.spelled;
    awake = a.awake;
  }

  pub told_quiet : AreQuiet new → Agrees (record s { records = s.records ++ new }) d
  told_quiet q = record {
    done = a.done;
    unread = a.unread ++ new;
    log = log_then;
    page = a.page;
    goes = goes_then s.offers q.forced q.behind;
    offers = sym (offers_then ∙ ap (λ os. s.offers ++ os) q.offers ∙ append-nil s.offers);
    whole = whole_then q.left;
    spelled = a.spelled;
    awake = a.awake;
  }

-- ---- removals

-- more removals behind others
lies-append : (table ps xs : List Extent) → EachLies table ps → EachLies (without_all ps table) xs → EachLies table (ps ++ xs)
lies-append table [] xs first second = second
lies-append table (p ∷ ps) xs first second = (first.0, lies-append (cut_by table p) ps xs first.1 second)

pub beside_cuts : (p : Extent) (xs table : List Extent) → AreBeside p table → AreBeside p (without_all xs table)
beside_cuts p [] table all = all
beside_cuts p (x ∷ xs) table all = beside_cuts p xs (cut_by table x) (beside_cut p x.start x.length table all)

-- what is taken is beside what stays
taken_beside : (xs table : List Extent) → AreApart table → EachLies table xs → AllByRecursion (λ x. AreBeside x (without_all xs table)) xs
taken_beside [] table apart lies = tt
taken_beside (x ∷ xs) table apart (first, lies) = (
  beside_cuts x xs (cut_by table x) (cut_beside x table apart first),
  taken_beside xs (cut_by table x) (apart_cut x.start x.length table apart) lies,
)

-- what lies in extents that are beside others is beside them
inside_beside : (x : Extent) (xs others : List Extent) → is_in xs x ≡ true → AllByRecursion (λ y. AreBeside y others) xs → AreBeside x others
inside_beside x [] others none all = absurd (false≢true none)
inside_beside x (y ∷ xs) others inside (first, all) = elim (cases_Bool (has_range x.start x.length y)) [
  | inl here ↦ each-change (IsBeside y) (IsBeside x) (λ z beside. within x y z here beside) others first
  | inr other ↦ inside_beside x xs others (rw other at inside) all
]

-- These extents can be taken by force.
pub record CanGo (s : Seen) (xs : List Extent) : Type 0 where
  pub some : AllByRecursion (λ (x : Extent). 0 < x.length) xs
  pub ends : AllByRecursion (λ (x : Extent). x.start + x.length < 2 ^ 64) xs
  pub inside : AllByRecursion (λ x. is_in s.accepted x ≡ true) xs
  pub lies : EachLies s.accepted xs

module _ (s : Seen) (d : Driven) (a : Agrees s d) (xs : List Extent) (new : List Event) (f : AreForced xs new) (can : CanGo s xs)
    (apart : AreApart (s.accepted ++ flat_map (λ os. os) s.offers)) where
  abbrev ps : List Extent
  ps = forced_in (d.records ++ a.unread)

  forced_is : forced_in (d.records ++ (a.unread ++ new)) ≡ forced_in (d.records ++ a.unread) ++ xs
  forced_is = ap forced_in (grouped s d a new) ∙ forced-append (d.records ++ a.unread) new ∙ ap (λ ys. forced_in (d.records ++ a.unread) ++ ys) f.forced

  accepted_apart : AreApart s.accepted
  accepted_apart = apart-front s.accepted (flat_map (λ os. os) s.offers) apart

  accepted_then : cut_all xs s.accepted ≡ without_all (forced_in (d.records ++ a.unread) ++ xs) d.table
  accepted_then = ap (cut_all xs) a.goes.accepted ∙ sym (fold-append cut_by d.table (forced_in (d.records ++ a.unread)) xs)

  lies_then : EachLies d.table (forced_in (d.records ++ a.unread) ++ xs)
  lies_then = lies-append d.table (forced_in (d.records ++ a.unread)) xs a.goes.lies (subst (λ t. EachLies t xs) a.goes.accepted can.lies)

  old_removals : AllByRecursion (IsRemoval (cut_all xs s.accepted)) (forced_in (d.records ++ a.unread))
  old_removals = each-change (IsRemoval s.accepted) (IsRemoval (cut_all xs s.accepted))
      (λ p r. record { some = r.some; ends = r.ends; beside = beside_cuts p xs s.accepted r.beside }) (forced_in (d.records ++ a.unread)) a.goes.removals

  new_removals : AllByRecursion (IsRemoval (cut_all xs s.accepted)) xs
  new_removals = each-both (λ (x : Extent). 0 < x.length) (λ x. (x.start + x.length < 2 ^ 64) × AreBeside x (without_all xs s.accepted)) (IsRemoval (cut_all xs s.accepted))
      (λ x some both. record { some = some; ends = both.0; beside = both.1 }) xs can.some
      (each-both (λ (x : Extent). x.start + x.length < 2 ^ 64) (λ x. AreBeside x (without_all xs s.accepted)) (λ x. (x.start + x.length < 2 ^ 64) × AreBeside x (without_all xs s.accepted))
      (λ x ends beside. (ends, beside)) xs can.ends (taken_beside xs s.accepted accepted_apart can.lies))

  -- they are beside all that is offered
  beside_offered : AllByRecursion (λ x. AreBeside x (offered_with d.offered (d.records ++ a.unread))) xs
  beside_offered =
      let offered : offered_with d.offered (d.records ++ a.unread) ≡ flat_map (λ os. os) s.offers =
      offered_all d.due d.offered (d.records ++ a.unread) a.whole ∙ ap (flat_map (λ os. os)) (sym a.offers) in
      subst (λ os. AllByRecursion (λ x. AreBeside x os) xs) (sym offered)
      (each-change (λ x. is_in s.accepted x ≡ true) (λ x. AreBeside x (flat_map (λ os. os) s.offers))
      (λ x inside. inside_beside x s.accepted (flat_map (λ os. os) s.offers) inside (apart-across s.accepted (flat_map (λ os. os) s.offers) apart)) xs can.inside)

  pub taken : Agrees (record s { accepted = cut_all xs s.accepted; records = s.records ++ new }) d
  taken = record {
    done = a.done;
    unread = a.unread ++ new;
    log = log_then s d a new;
    page = a.page;
    goes = record {
      accepted = accepted_then ∙ ap (λ ys. without_all ys d.table) (sym forced_is);
      lies = subst (EachLies d.table) (sym forced_is) lies_then;
      removals = subst (AllByRecursion (IsRemoval (cut_all xs s.accepted))) (sym forced_is)
          (each-append (IsRemoval (cut_all xs s.accepted)) (forced_in (d.records ++ a.unread)) xs old_removals new_removals);
      behind = subst (AreBehind d.offered) (sym (grouped s d a new))
          (behind-append d.offered (d.records ++ a.unread) new a.goes.behind (f.behind (offered_with d.offered (d.records ++ a.unread)) beside_offered));
      no_responses = a.goes.no_responses;
      no_releases = a.goes.no_releases;
      offered_fits = a.goes.offered_fits;
      asked_fits = a.goes.asked_fits;
    };
    offers = sym (offers_then s d a new ∙ ap (λ os. s.offers ++ os) f.offers ∙ append-nil s.offers);
    whole = whole_then s d a new f.left;
    spelled = a.spelled;
    awake = a.awake;
  }
