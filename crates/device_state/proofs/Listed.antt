-- What one effect makes of the lists of its host and of no other, and what more of them make of lists and tags.
use Rattle.std.proofs.Common.{◌≡◌, ◌≢◌, ℕ, zero, suc, ◌+◌, ◌<◌, ◌≤◌, Bool, true, false, ◌&&◌, List, [], ◌∷◌, ◌++◌, drop, get_or, length, set, take, ltb, inl, inr, refl, sym, ap, subst, ◌∙◌, arith}
use Rattle.std.proofs.lemmas.Bool.{cases_eq, cases_lt, eq-eqb, le-ltb, lt-ltb, ne_eqb}
use Rattle.std.proofs.lemmas.List.{get_or-set_other, get_or-set_same, get_or_past, length-set, set-set, Sums.fold-append}
use Rattle.std.specs.{List.list_any, Prelude.fold, Prelude.if◌then◌else◌, Prelude.◌==◌}
use Rattle.device_rules.specs.Hosts.{moves}
use Rattle.cci_codec.specs.dcd_base.specs.declared.{capacity.Extent.Extent, ids.HostId.HostId, media.Run.Run}
use Rattle.extent_list.specs.{ExtentLists.cut, HostLists.Lists, HostLists.next_generation, media_map.specs.Places.bytes_of_run, media_map.specs.Places.start_of}
use Rattle.extent_list.specs.media_map.specs.region_config.specs.Configurations.{Configuration}
use Rattle.journal_core.specs.declared.outcome.{Effect.Effect, HeldKind.HeldKind}
use Rattle.tag_refs.specs.declared.entries.TagEntry.{TagEntry}
use Rattle.device_state.specs.{Entered.with_lists, Stages.AreCounted, Stages.AreListed, Stages.IsListedAfter, Stages.IsListedOver, Stages.PartsOver, StateAfter.no_part, StateAfter.part_of}
use Rattle.device_state.specs.declared.{parts.HostPart.HostPart, state.State.State}
use Rattle.device_state.specs.EnteredLists.{Fits, HasPlaces, all_lists_by, all_lists_over, counted, held_of, lists_by, lists_of, room_by, table_by, tags_over, with_held}

-- ---- the lists of the effect's own host

module _ (c : Configuration) (k : HostId) (l : Lists) where
  pub own_offer : (xs : List Extent) → lists_by c k l (Effect.Offer k xs) ≡ record l { offers = l.offers ++ xs ∷ [] }
  own_offer xs i = record l { offers = if eq-eqb k k refl i then l.offers ++ xs ∷ [] else l.offers }

  pub own_answer : (xs : List Extent) → lists_by c k l (Effect.Answer k xs) ≡ record l { accepted = l.accepted ++ xs; offers = drop 1 l.offers }
  own_answer xs i = record l {
    accepted = if eq-eqb k k refl i then l.accepted ++ xs else l.accepted;
    offers = if eq-eqb k k refl i then drop 1 l.offers else l.offers;
  }

  pub own_leave : (run : Run) → lists_by c k l (Effect.Leave k run) ≡ record l { accepted = cut (start_of c k run) (bytes_of_run c run) l.accepted }
  own_leave run i = record l { accepted = if eq-eqb k k refl i then cut (start_of c k run) (bytes_of_run c run) l.accepted else l.accepted }

  and_false : (b : Bool) → (b && false) ≡ false
  and_false true = refl
  and_false false = refl

  pub own_responses : (xs : List Extent) → lists_by c k l (Effect.Hold k HeldKind.Responses xs) ≡ record l { responses = l.responses ++ xs }
  own_responses xs i = record l {
    responses = if eq-eqb k k refl i && true then l.responses ++ xs else l.responses;
    releases = if and_false (k == k) i then l.releases ++ xs else l.releases;
  }

  pub own_releases : (xs : List Extent) → lists_by c k l (Effect.Hold k HeldKind.Releases xs) ≡ record l { releases = l.releases ++ xs }
  own_releases xs i = record l {
    responses = if and_false (k == k) i then l.responses ++ xs else l.responses;
    releases = if eq-eqb k k refl i && true then l.releases ++ xs else l.releases;
  }

  pub own_unheld_responses : lists_by c k l (Effect.Unhold k HeldKind.Responses) ≡ record l { responses = [] }
  own_unheld_responses i = record l {
    responses = if eq-eqb k k refl i && true then [] else l.responses;
    releases = if and_false (k == k) i then [] else l.releases;
  }

  pub own_unheld_releases : lists_by c k l (Effect.Unhold k HeldKind.Releases) ≡ record l { releases = [] }
  own_unheld_releases i = record l {
    responses = if and_false (k == k) i then [] else l.responses;
    releases = if eq-eqb k k refl i && true then [] else l.releases;
  }

-- both kinds of held lists
pub own_hold : (c : Configuration) (k : HostId) (l : Lists) (kind : HeldKind) (xs : List Extent) → with_held kind (held_of kind l ++ xs) l ≡ lists_by c k l (Effect.Hold k kind xs)
own_hold c k l HeldKind.Responses xs = sym (own_responses c k l xs)
own_hold c k l HeldKind.Releases xs = sym (own_releases c k l xs)

pub own_unhold : (c : Configuration) (k : HostId) (l : Lists) (kind : HeldKind) → with_held kind [] l ≡ lists_by c k l (Effect.Unhold k kind)
own_unhold c k l HeldKind.Responses = sym (own_unheld_responses c k l)
own_unhold c k l HeldKind.Releases = sym (own_unheld_releases c k l)

-- ---- the lists of another

-- The effect changes the lists of no other host than this one.
pub record IsOf (c : Configuration) (k : HostId) (e : Effect) : Type 0 where
  pub others : (h : HostId) (l : Lists) → k ≢ h → lists_by c h l e ≡ l

pub of_offer : (c : Configuration) (k : HostId) (xs : List Extent) → IsOf c k (Effect.Offer k xs)
of_offer c k xs = record { others = λ h l other i. record l { offers = if ne_eqb k h other i then l.offers ++ xs ∷ [] else l.offers } }

pub of_answer : (c : Configuration) (k : HostId) (xs : List Extent) → IsOf c k (Effect.Answer k xs)
of_answer c k xs = record {
  others = λ h l other i. record l {
    accepted = if ne_eqb k h other i then l.accepted ++ xs else l.accepted;
    offers = if ne_eqb k h other i then drop 1 l.offers else l.offers;
  };
}

pub of_leave : (c : Configuration) (k : HostId) (run : Run) → IsOf c k (Effect.Leave k run)
of_leave c k run = record { others = λ h l other i. record l { accepted = if ne_eqb k h other i then cut (start_of c h run) (bytes_of_run c run) l.accepted else l.accepted } }

pub of_hold : (c : Configuration) (k : HostId) (kind : HeldKind) (xs : List Extent) → IsOf c k (Effect.Hold k kind xs)
of_hold c k HeldKind.Responses xs = record {
  others = λ h l other i. record l {
    responses = if ne_eqb k h other i && true then l.responses ++ xs else l.responses;
    releases = if ne_eqb k h other i && false then l.releases ++ xs else l.releases;
  };
}
of_hold c k HeldKind.Releases xs = record {
  others = λ h l other i. record l {
    responses = if ne_eqb k h other i && false then l.responses ++ xs else l.responses;
    releases = if ne_eqb k h other i && true then l.releases ++ xs else l.releases;
  };
}

pub of_unhold : (c : Configuration) (k : HostId) (kind : HeldKind) → IsOf c k (Effect.Unhold k kind)
of_unhold c k HeldKind.Responses = record {
  others = λ h l other i. record l {
    responses = if ne_eqb k h other i && true then [] else l.responses;
    releases = if ne_eqb k h other i && false then [] else l.releases;
  };
}
of_unhold c k HeldKind.Releases = record {
  others = λ h l other i. record l {
    responses = if ne_eqb k h other i && false then [] else l.responses;
    releases = if ne_eqb k h other i && true then [] else l.releases;
  };
}

-- ---- one host's lists are replaced

pub listed_as : (old now : State) (k : HostId) (l : Lists) (lists : HostId → Lists) → k < length old.hosts.items → ((h : HostId) → k ≢ h → lists h ≡ lists_of old h) →
    l ≡ lists k → now.hosts.items ≡ with_lists old k l → AreListed lists old now
listed_as old now k l lists known others is set_one = record {
  hosts = ap length set_one ∙ length-set old.hosts.items k (record (part_of old k) { lists = l });
  lists_are = λ i h. lists_at h i;
  logs = logs_at;
}
  where
    new : HostPart
    new = record (part_of old k) { lists = l }

    part_at : (h : HostId) → part_of now h ≡ get_or (set old.hosts.items k new) h no_part
    part_at h = ap (λ (parts : List HostPart). get_or parts h no_part) set_one

    own_part : part_of now k ≡ new
    own_part = part_at k ∙ get_or-set_same old.hosts.items k new no_part known

    other_part : (h : HostId) → k ≢ h → part_of now h ≡ part_of old h
    other_part h other = part_at h ∙ get_or-set_other old.hosts.items k h new no_part (λ e. other (sym e))

    lists_at : (h : HostId) → lists_of now h ≡ lists h
    lists_at h = elim (cases_eq k h) [
      | inl same ↦ subst (λ m. lists_of now m ≡ lists m) same (ap (λ (p : HostPart). p.lists) own_part ∙ is)
      | inr other ↦ ap (λ (p : HostPart). p.lists) (other_part h other) ∙ sym (others h other)
    ]

    logs_at : (h : HostId) → (part_of now h).log ≡ (part_of old h).log
    logs_at h = elim (cases_eq k h) [
      | inl same ↦ subst (λ m. (part_of now m).log ≡ (part_of old m).log) same (ap (λ (p : HostPart). p.log) own_part)
      | inr other ↦ ap (λ (p : HostPart). p.log) (other_part h other)
    ]

pub listed : (c : Configuration) (old now : State) (k : HostId) (l : Lists) (e : Effect) → k < length old.hosts.items → IsOf c k e →
    l ≡ lists_by c k (part_of old k).lists e → now.hosts.items ≡ with_lists old k l → AreListed (all_lists_by c (lists_of old) e) old now
listed c old now k l e known of is set_one = listed_as old now k l (all_lists_by c (lists_of old) e) known (λ h other. of.others h (lists_of old h) other) is set_one

-- the host has them then
pub own_part : (old now : State) (k : HostId) (l : Lists) → k < length old.hosts.items → now.hosts.items ≡ with_lists old k l → (part_of now k).lists ≡ l
own_part old now k l known set_one =
    ap (λ (parts : List HostPart). (get_or parts k no_part).lists) set_one
    ∙ ap (λ (p : HostPart). p.lists) (get_or-set_same old.hosts.items k (record (part_of old k) { lists = l }) no_part known)

-- the lists of one host are replaced twice
pub twice : (old mid : State) (k : HostId) (first second : Lists) (parts : List HostPart) → k < length old.hosts.items → mid.hosts.items ≡ with_lists old k first → parts ≡ with_lists mid k second →
    parts ≡ with_lists old k second
twice old mid k first second parts known one two =
    let new : HostPart = record (part_of old k) { lists = first } in
    let part : part_of mid k ≡ new = ap (λ (ps : List HostPart). get_or ps k no_part) one ∙ get_or-set_same old.hosts.items k new no_part known in
    two
    ∙ (λ i. set (one i) k (record (part i) { lists = second }))
    ∙ set-set old.hosts.items k new (record (part_of old k) { lists = second })

-- or none
pub unlisted : (c : Configuration) (s : State) (e : Effect) → ((h : HostId) (l : Lists) → lists_by c h l e ≡ l) → AreListed (all_lists_by c (lists_of s) e) s s
unlisted c s e same = record { hosts = refl; lists_are = λ i h. sym (same h (lists_of s h)) i; logs = λ h. refl }

-- ---- more effects

pub tags_over-append : (c : Configuration) (lists : HostId → Lists) (entries : List TagEntry) (xs ys : List Effect) →
    tags_over c lists entries (xs ++ ys) ≡ tags_over c (all_lists_over c lists xs) (tags_over c lists entries xs) ys
tags_over-append c lists entries [] ys = refl
tags_over-append c lists entries (x ∷ xs) ys = tags_over-append c (all_lists_by c lists x) (table_by c lists entries x) xs ys

pub fits_at : (c : Configuration) (lists : HostId → Lists) (room : ℕ) (es : List Effect) (i : ℕ) (d : Effect) → i < length es → Fits c lists room es →
    HasPlaces c (all_lists_over c lists (take i es)) (fold room_by room (take i es)) (get_or es i d)
fits_at c lists room [] i d below fits = absurd (omega (arith, below))
fits_at c lists room (x ∷ es) zero d below fits = fits.0
fits_at c lists room (x ∷ es) (suc i) d below fits = fits_at c (all_lists_by c lists x) (room_by room x) es i d (omega (arith, below)) fits.1

-- those behind find theirs too
pub fits_behind : (c : Configuration) (lists : HostId → Lists) (room : ℕ) (i : ℕ) (es : List Effect) → Fits c lists room es →
    Fits c (all_lists_over c lists (take i es)) (fold room_by room (take i es)) (drop i es)
fits_behind c lists room zero es fits = fits
fits_behind c lists room (suc i) [] fits = tt
fits_behind c lists room (suc i) (e ∷ es) fits = fits_behind c (all_lists_by c lists e) (room_by room e) i es fits.1

-- some effects, and more behind them
pub listed_behind : (c : Configuration) (old mid new : State) (xs ys : List Effect) → IsListedOver c xs old mid → IsListedOver c ys mid new → IsListedOver c (xs ++ ys) old new
listed_behind c old mid new xs ys one two = record {
  listed = record {
    hosts = two.listed.hosts ∙ one.listed.hosts;
    lists_are = two.listed.lists_are ∙ (λ j h. lists_at h j);
    logs = λ h. two.listed.logs h ∙ one.listed.logs h;
  };
  tags = two.tags ∙ (λ j. tags_over c (one.listed.lists_are j) (one.tags j) ys) ∙ sym (tags_over-append c (lists_of old) old.tags.entries xs ys);
}
  where
    lists_at : (h : HostId) → fold (lists_by c h) (lists_of mid h) ys ≡ fold (lists_by c h) (lists_of old h) (xs ++ ys)
    lists_at h = (λ j. fold (lists_by c h) (one.listed.lists_are j h) ys) ∙ sym (fold-append (lists_by c h) (lists_of old h) xs ys)

-- one effect
pub listed_one : (c : Configuration) (old new : State) (es : List Effect) (e : Effect) → 0 < length es → e ≡ get_or es 0 e → IsListedAfter c e old new → IsListedOver c (take 1 es) old new
listed_one c old new [] e some is one = absurd (omega (arith, some))
listed_one c old new (x ∷ es) e some is one = subst (λ y. IsListedOver c (y ∷ []) old new) is (record { listed = one.listed; tags = one.tags })

-- ---- the room for tags

pub more_room : (c : Configuration) (lists : HostId → Lists) (a b : ℕ) (e : Effect) → a ≤ b → HasPlaces c lists a e → HasPlaces c lists b e
more_room c lists a b (Effect.Offer h xs) more places = (omega (arith, more, places.0), places.1, places.2, places.3)
more_room c lists a b (Effect.Answer h xs) more places = places
more_room c lists a b (Effect.Leave h run) more places = places
more_room c lists a b (Effect.Hold h kind xs) more places = places
more_room c lists a b (Effect.Take h run) more places = tt
more_room c lists a b (Effect.Zero run) more places = tt
more_room c lists a b (Effect.Soil run) more places = tt
more_room c lists a b (Effect.Unhold h kind) more places = tt
more_room c lists a b (Effect.Logged l event) more places = tt
more_room c lists a b (Effect.Missed l) more places = tt
more_room c lists a b (Effect.Cleared l n) more places = tt
more_room c lists a b (Effect.Reset l) more places = tt
more_room c lists a b (Effect.Ref t on) more places = tt
more_room c lists a b (Effect.TagEnd t) more places = tt
more_room c lists a b (Effect.Block r size) more places = tt

pub room_less : (a b : ℕ) (e : Effect) → a ≤ b → room_by a e ≤ room_by b e
room_less a b (Effect.Offer h xs) less = omega (arith, less)
room_less a b (Effect.Answer h xs) less = less
room_less a b (Effect.Leave h run) less = less
room_less a b (Effect.Hold h kind xs) less = less
room_less a b (Effect.Take h run) less = less
room_less a b (Effect.Zero run) less = less
room_less a b (Effect.Soil run) less = less
room_less a b (Effect.Unhold h kind) less = less
room_less a b (Effect.Logged l event) less = less
room_less a b (Effect.Missed l) less = less
room_less a b (Effect.Cleared l n) less = less
room_less a b (Effect.Reset l) less = less
room_less a b (Effect.Ref t on) less = less
room_less a b (Effect.TagEnd t) less = less
room_less a b (Effect.Block r size) less = less

pub fold_less : (a b : ℕ) (es : List Effect) → a ≤ b → fold room_by a es ≤ fold room_by b es
fold_less a b [] less = less
fold_less a b (e ∷ es) less = fold_less (room_by a e) (room_by b e) es (room_less a b e less)

pub fits_more : (c : Configuration) (lists : HostId → Lists) (a b : ℕ) (es : List Effect) → a ≤ b → Fits c lists a es → Fits c lists b es
fits_more c lists a b [] more fits = tt
fits_more c lists a b (e ∷ es) more fits =
    (more_room c lists a b e more fits.0, fits_more c (all_lists_by c lists e) (room_by a e) (room_by b e) es (room_less a b e more) fits.1)

-- the room that some effects leave, and more behind them
pub room_behind : (start mid left : ℕ) (xs ys : List Effect) → fold room_by start xs ≤ mid → fold room_by mid ys ≤ left → fold room_by start (xs ++ ys) ≤ left
room_behind start mid left xs ys first second =
    omega (arith, fold-append room_by start xs ys, fold_less (fold room_by start xs) mid ys first, second)

pub room_one : (room : ℕ) (es : List Effect) (e : Effect) → 0 < length es → e ≡ get_or es 0 e → fold room_by room (take 1 es) ≡ room_by room e
room_one room [] e some is = absurd (omega (arith, some))
room_one room (x ∷ es) e some is = ap (room_by room) (sym is)

-- each effect uses as much of a spare as of the room that it is known to find
used : (c : Configuration) (lists : HostId → Lists) (room spare : ℕ) (e : Effect) → HasPlaces c lists room e → spare + room_by room e ≤ room_by spare e + room
used c lists room spare (Effect.Offer h xs) places = omega (arith, places.0)
used c lists room spare (Effect.Answer h xs) places = omega arith
used c lists room spare (Effect.Leave h run) places = omega arith
used c lists room spare (Effect.Hold h kind xs) places = omega arith
used c lists room spare (Effect.Take h run) places = omega arith
used c lists room spare (Effect.Zero run) places = omega arith
used c lists room spare (Effect.Soil run) places = omega arith
used c lists room spare (Effect.Unhold h kind) places = omega arith
used c lists room spare (Effect.Logged l event) places = omega arith
used c lists room spare (Effect.Missed l) places = omega arith
used c lists room spare (Effect.Cleared l n) places = omega arith
used c lists room spare (Effect.Reset l) places = omega arith
used c lists room spare (Effect.Ref t on) places = omega arith
used c lists room spare (Effect.TagEnd t) places = omega arith
used c lists room spare (Effect.Block r size) places = omega arith

pub room_left : (c : Configuration) (lists : HostId → Lists) (room spare : ℕ) (es : List Effect) → Fits c lists room es → spare ≤ fold room_by spare es + room
room_left c lists room spare [] fits = omega arith
room_left c lists room spare (e ∷ es) fits =
    omega (arith, used c lists room spare e fits.0, room_left c (all_lists_by c lists e) (room_by room e) (room_by spare e) es fits.1)

-- ---- the parts together

pub lists_same : (es : List Effect) (old mid : State) → PartsOver es old mid → lists_of mid ≡ lists_of old
lists_same es old mid parts = λ j h. at h j
  where
    at : (h : HostId) → lists_of mid h ≡ lists_of old h
    at h = elim (cases_lt h (length old.hosts.items)) [
      | inl below ↦ parts.lists h below
      | inr past ↦ ap (λ (p : HostPart). p.lists) (get_or_past mid.hosts.items h no_part (omega (arith, parts.hosts, past)) ∙ sym (get_or_past old.hosts.items h no_part past))
    ]

-- ---- how often the accepted lists changed

-- It is counted of the hosts below a number.
pub record AreCountedBelow (n : ℕ) (es : List Effect) (old now : State) : Type 0 where
  pub hosts : length now.hosts.items ≡ length old.hosts.items
  pub lists : (h : HostId) → h < length old.hosts.items → lists_of now h ≡ (if ltb h n then counted h es (lists_of old h) else lists_of old h)
  pub logs : (h : HostId) → (part_of now h).log ≡ (part_of old h).log

pub counted_none : (es : List Effect) (s : State) → AreCountedBelow 0 es s s
counted_none es s = record {
  hosts = refl;
  lists = λ h below. sym (ap (λ b. if b then counted h es (lists_of s h) else lists_of s h) (le-ltb h 0 (omega arith)));
  logs = λ h. refl;
}

pub counted_all : (es : List Effect) (old now : State) (n : ℕ) → length old.hosts.items ≤ n → AreCountedBelow n es old now → AreCounted es old now
counted_all es old now n all so_far = record {
  hosts = so_far.hosts;
  lists = λ h below. so_far.lists h below ∙ ap (λ b. if b then counted h es (lists_of old h) else lists_of old h) (lt-ltb h n (omega (arith, below, all)));
  logs = so_far.logs;
}

-- one host more, which is another than the others
below_more : (h i : ℕ) → i ≢ h → ltb h (i + 1) ≡ ltb h i
below_more h i other = elim (cases_lt h i) [
  | inl below ↦ lt-ltb h (i + 1) (omega (arith, below)) ∙ sym (lt-ltb h i below)
  | inr past ↦ le-ltb h (i + 1) (omega (arith, past, other)) ∙ sym (le-ltb h i past)
]

module _ (es : List Effect) (old mid : State) (i : ℕ) (below : i < length old.hosts.items) (so_far : AreCountedBelow i es old mid) where
  own_before : lists_of mid i ≡ lists_of old i
  own_before = so_far.lists i below ∙ ap (λ b. if b then counted i es (lists_of old i) else lists_of old i) (le-ltb i i (omega arith))

  own_after : (if ltb i (i + 1) then counted i es (lists_of old i) else lists_of old i) ≡ counted i es (lists_of old i)
  own_after = ap (λ b. if b then counted i es (lists_of old i) else lists_of old i) (lt-ltb i (i + 1) (omega arith))

  other_after : (h : HostId) → i ≢ h → (if ltb h i then counted h es (lists_of old h) else lists_of old h) ≡ (if ltb h (i + 1) then counted h es (lists_of old h) else lists_of old h)
  other_after h other = ap (λ b. if b then counted h es (lists_of old h) else lists_of old h) (sym (below_more h i other))

  -- its list did not change
  pub counted_still : list_any (moves i) es ≡ false → AreCountedBelow (i + 1) es old mid
  counted_still still = record {
    hosts = so_far.hosts;
    lists = λ h known. elim (cases_eq i h) [
      | inl same ↦ subst (λ m. lists_of mid m ≡ (if ltb m (i + 1) then counted m es (lists_of old m) else lists_of old m)) same
          (own_before ∙ sym (own_after ∙ ap (λ b. if b then record (lists_of old i) { generation = next_generation (lists_of old i).generation } else lists_of old i) still))
      | inr other ↦ so_far.lists h known ∙ other_after h other
    ];
    logs = so_far.logs;
  }

  -- or it did
  pub counted_moved : (new : State) → list_any (moves i) es ≡ true →
      new.hosts.items ≡ with_lists mid i (record (lists_of mid i) { generation = next_generation (lists_of mid i).generation }) → AreCountedBelow (i + 1) es old new
  counted_moved new moved set_one = record {
    hosts = ap length set_one ∙ length-set mid.hosts.items i part ∙ so_far.hosts;
    lists = λ h known. elim (cases_eq i h) [
      | inl same ↦ subst (λ m. lists_of new m ≡ (if ltb m (i + 1) then counted m es (lists_of old m) else lists_of old m)) same
          (ap (λ (p : HostPart). p.lists) own_part
          ∙ ap (λ (l : Lists). record l { generation = next_generation l.generation }) own_before
          ∙ sym (own_after ∙ ap (λ b. if b then record (lists_of old i) { generation = next_generation (lists_of old i).generation } else lists_of old i) moved))
      | inr other ↦ ap (λ (p : HostPart). p.lists) (other_part h other) ∙ so_far.lists h known ∙ other_after h other
    ];
    logs = λ h. elim (cases_eq i h) [
      | inl same ↦ subst (λ m. (part_of new m).log ≡ (part_of old m).log) same (ap (λ (p : HostPart). p.log) own_part ∙ so_far.logs i)
      | inr other ↦ ap (λ (p : HostPart). p.log) (other_part h other) ∙ so_far.logs h
    ];
  }
    where
      part : HostPart
      part = record (part_of mid i) { lists = record (lists_of mid i) { generation = next_generation (lists_of mid i).generation } }

      own_part : part_of new i ≡ part
      own_part = ap (λ (parts : List HostPart). get_or parts i no_part) set_one ∙ get_or-set_same mid.hosts.items i part no_part (omega (arith, below, so_far.hosts))

      other_part : (h : HostId) → i ≢ h → part_of new h ≡ part_of mid h
      other_part h other = ap (λ (parts : List HostPart). get_or parts h no_part) set_one ∙ get_or-set_other mid.hosts.items i h part no_part (λ e. other (sym e))
