-- Every legal step finds a place for all that it adds.
use Rattle.std.proofs.Common.{◌≡◌, ℕ, ◌+◌, ◌-◌, ◌<◌, ◌≤◌, Bool, true, false, ◌==◌, List, [], ◌∷◌, ◌++◌, None, filter, flat_map, length, map, ltb, append_assoc, length-append, refl, sym, ap, subst, ◌∙◌, arith}
use Rattle.std.proofs.lemmas.{Bool.and_parts, Bool.eq-eqb, Bool.false≢true, Bool.ltb-false, List.length-map, List.Concat.length-flat_map, List.Elements.All-from_recursion}
use Rattle.std.specs.{List.AllByRecursion, List.list_all, Prelude.if◌then◌else◌, Prelude.All, Prelude.IsTrue}
use Rattle.cci_codec.specs.dcd_base.specs.{Words.same_tag, Words.◌or◌, declared.capacity.Extent.Extent, declared.capacity.Tag.Tag, declared.ids.HostId.HostId, declared.media.Run.Run}
use Rattle.cci_codec.specs.dcd_base.specs.declared.steps.LogId.{LogId}
use Rattle.extent_list.specs.{ExtentLists.count_in, ExtentLists.cut, ExtentLists.has_range, ExtentLists.marked, ExtentLists.piece, HostLists.Lists}
use Rattle.extent_list.specs.{Listing.incomplete, Listing.too_many_extents, Listing.too_many_listed, dcd_codes.specs.Rules.each_in, dcd_codes.specs.declared.rules.Rule.Rule}
use Rattle.extent_list.specs.media_map.proofs.RunLemmas.{granular_from}
use Rattle.extent_list.specs.media_map.specs.{Places.IsRun, Places.bytes_of_run, Places.is_granular, Places.region_at, Places.run_of, Places.start_of, region_config.specs.Configurations.Configuration}
use Rattle.extent_list.specs.media_map.specs.region_config.specs.{Granules.with_blocks, Soundness.IsSound}
use Rattle.fm_payloads.specs.declared.requests.FmRequest.{FmRequest}
use Rattle.host_payloads.specs.declared.requests.HostRequest.{HostRequest}
use Rattle.journal_core.specs.{Entries.effects, declared.entries.Entry.Entry, declared.outcome.Effect.Effect, declared.outcome.HeldKind.HeldKind}
use Rattle.offer_core.proofs.Counting.{count_in-cons}
use Rattle.release_core.{specs.Leaving.count_after, specs.Removals.by_tag_rule, specs.Removals.extents_of_tag, specs.Removals.prescribed_removal_rule, proofs.Members.neither}
use Rattle.device_rules.proofs.Adding.{added, row_of}
use Rattle.device_rules.proofs.EffectKinds.{PassClearing, PassRecords, any_log, clear_passes, reference_passes, tells_any, told_passes, zeroes_pass}
use Rattle.device_rules.proofs.{Going.IsGoing, Going.some_going, Holding.present_whole, Homes.made_granular, Homes.made_is_run, Homes.made_region, Leaving.both_pass, Leaving.map_passes}
use Rattle.device_rules.proofs.{LeavingSteps.removal_row, LeftStanding.going_of, LeftStanding.going_rule, LegalSound.legal_is_sound, LegalSteps.Cases, LegalSteps.step_case, OneLeave.loose}
use Rattle.device_rules.{proofs.Overlaps.not_broken, specs.Adding.offered}
use Rattle.device_rules.specs.{Answers.host_outcome, Answers.host_rule, Answers.manager_outcome, Answers.manager_rule, Answers.scrubbed, Answers.zeroes, Legal.Legal, Legal.Meets, Logs.log_of}
use Rattle.device_rules.specs.{Outcomes.Outcome, Outcomes.effects_of, Outcomes.ended, Outcomes.entered_all, Pictures.Picture, Pictures.extents_at, Pictures.picture_of}
use Rattle.device_rules.specs.ReleaseOutcomes.{is_cleaning, is_forced, leaves, policy_in, removals}
use Rattle.device_rules.specs.{ResponseOutcomes.answered, ResponseOutcomes.hold, ResponseOutcomes.unhold, Standing.IsMade, Standing.IsTogether, Standing.Stands, Tags.is_referenced}
use Rattle.device_rules.specs.Views.{View, view_of, lists_in}
use Rattle.device_state.specs.{EnteredLists.Fits, EnteredLists.HasPlaces, EnteredLists.all_lists_by, EnteredLists.lists_of, EnteredLists.room_by, StateAfter.IsStateAfter, declared.state.State.State}

-- ---- effects that need no place

abbrev needs_none : Effect → Bool
needs_none (Effect.Offer h xs) = false
needs_none (Effect.Answer h xs) = false
needs_none (Effect.Leave h run) = false
needs_none (Effect.Hold h kind xs) = false
needs_none e = true

module _ (c : Configuration) where
  none_needed : (lists : HostId → Lists) (room : ℕ) (e : Effect) → needs_none e ≡ true → HasPlaces c lists room e
  none_needed lists room (Effect.Offer h xs) none = absurd (false≢true none)
  none_needed lists room (Effect.Answer h xs) none = absurd (false≢true none)
  none_needed lists room (Effect.Leave h run) none = absurd (false≢true none)
  none_needed lists room (Effect.Hold h kind xs) none = absurd (false≢true none)
  none_needed lists room (Effect.Take h run) none = tt
  none_needed lists room (Effect.Zero run) none = tt
  none_needed lists room (Effect.Soil run) none = tt
  none_needed lists room (Effect.Unhold h kind) none = tt
  none_needed lists room (Effect.Logged l event) none = tt
  none_needed lists room (Effect.Missed l) none = tt
  none_needed lists room (Effect.Cleared l n) none = tt
  none_needed lists room (Effect.Reset l) none = tt
  none_needed lists room (Effect.Ref t on) none = tt
  none_needed lists room (Effect.TagEnd t) none = tt
  none_needed lists room (Effect.Block r size) none = tt

  quiet_fits : (lists : HostId → Lists) (room : ℕ) (new : List Effect) → list_all needs_none new ≡ true → Fits c lists room new
  quiet_fits lists room [] none = tt
  quiet_fits lists room (e ∷ new) none =
      let parts = and_parts (needs_none e) (list_all needs_none new) none in
      (none_needed lists room e parts.0, quiet_fits (all_lists_by c lists e) (room_by room e) new parts.1)

  then_quiet : (lists : HostId → Lists) (room : ℕ) (new later : List Effect) → Fits c lists room new → list_all needs_none later ≡ true → Fits c lists room (new ++ later)
  then_quiet lists room [] later fits none = quiet_fits lists room later none
  then_quiet lists room (e ∷ new) later fits none = (fits.0, then_quiet (all_lists_by c lists e) (room_by room e) new later fits.1 none)

  -- ends of tags and records
  records : (l : LogId) → PassRecords needs_none l
  records l = record { logged = λ event. refl; missed = refl }

  pub outcome_fits : (past : List Effect) (o : Outcome) (lists : HostId → Lists) (room : ℕ) → Fits c lists room o.changes → Fits c lists room (effects_of c past o)
  outcome_fits past o lists room fits =
      let ends : List Effect = map Effect.TagEnd (ended c past o.changes o.tags) in
      let told : List Effect = flat_map (λ n. entered_all n.0 (log_of n.0 past) n.1) o.log_records in
      subst (Fits c lists room) (sym (append_assoc o.changes ends told))
      (then_quiet lists room o.changes (ends ++ told) fits
      (both_pass needs_none ends told (map_passes needs_none Effect.TagEnd (λ t. refl) (ended c past o.changes o.tags))
      (told_passes needs_none any_log (λ l any. records l) past o.log_records (tells_any o.log_records))))

  -- ---- what a list may get longer

  piece_one : (x : Extent) (from to : ℕ) → length (piece x from to) ≤ 1
  piece_one x from to = by (ltb from to)
    where
      by : (b : Bool) → length (if b then record x { start = from; length = to - from } ∷ [] else []) ≤ 1
      by true = omega arith
      by false = omega arith

  cut_more : (s n : ℕ) (xs : List Extent) → length (cut s n xs) ≤ length xs + 1
  cut_more s n [] = omega arith
  cut_more s n (x ∷ xs) = by (has_range s n x) (cut_more s n xs)
    where
      by : (b : Bool) → length (cut s n xs) ≤ length xs + 1 →
          length (if b then (piece x x.start s ++ piece x (s + n) (x.start + x.length)) ++ xs else x ∷ cut s n xs) ≤ length (x ∷ xs) + 1
      by true rest = omega (
        arith,
        length-append (piece x x.start s ++ piece x (s + n) (x.start + x.length)) xs,
        length-append (piece x x.start s) (piece x (s + n) (x.start + x.length)),
        piece_one x x.start s,
        piece_one x (s + n) (x.start + x.length),
      )
      by false rest = omega (arith, rest)

  -- ---- extents that leave

  abbrev IsRunOfOne : HostId → Extent → Type 0
  IsRunOfOne h x = IsRun c (run_of c h x)

  left_more : (lists : HostId → Lists) (h : HostId) (run : Run) → length (all_lists_by c lists (Effect.Leave h run) h).accepted ≤ length (lists h).accepted + 1
  left_more lists h run =
      subst (λ b. length (if b then cut (start_of c h run) (bytes_of_run c run) (lists h).accepted else (lists h).accepted) ≤ length (lists h).accepted + 1)
      (sym (eq-eqb h h refl)) (cut_more (start_of c h run) (bytes_of_run c run) (lists h).accepted)

  leaves_fit : (lists : HostId → Lists) (room : ℕ) (h : HostId) (ys : List Extent) → length (lists h).accepted + length ys ≤ 128 → AllByRecursion (IsRunOfOne h) ys → Fits c lists room (leaves c h ys)
  leaves_fit lists room h [] few each = tt
  leaves_fit lists room h (y ∷ ys) few each =
      ((omega (arith, few), each.0), leaves_fit (all_lists_by c lists (Effect.Leave h (run_of c h y))) room h ys (omega (arith, few, left_more lists h (run_of c h y))) each.1)

  removals_fit : (lists : HostId → Lists) (room : ℕ) (h : HostId) (clean : Bool) (ys : List Extent) → length (lists h).accepted + length ys ≤ 128 → AllByRecursion (IsRunOfOne h) ys → Fits c lists room (removals c h clean ys)
  removals_fit lists room h clean [] few each = tt
  removals_fit lists room h true (y ∷ ys) few each =
      let next : HostId → Lists = all_lists_by c (all_lists_by c lists (Effect.Leave h (run_of c h y))) (Effect.Soil (run_of c h y)) in
      ((omega (arith, few), each.0), (tt, removals_fit next room h true ys (omega (arith, few, left_more lists h (run_of c h y))) each.1))
  removals_fit lists room h false (y ∷ ys) few each =
      ((omega (arith, few), each.0), removals_fit (all_lists_by c lists (Effect.Leave h (run_of c h y))) room h false ys (omega (arith, few, left_more lists h (run_of c h y))) each.1)

  -- ---- held lists and answers

  unhold_fits : (lists : HostId → Lists) (room : ℕ) (h : HostId) (kind : HeldKind) (held : List Extent) (new : List Effect) →
      ((next : HostId → Lists) → (next h).accepted ≡ (lists h).accepted → Fits c next room new) → Fits c lists room (unhold h kind held ++ new)
  unhold_fits lists room h kind [] new fits = fits lists refl
  unhold_fits lists room h kind (x ∷ xs) new fits = (tt, fits (all_lists_by c lists (Effect.Unhold h kind)) refl)

  answered_fits : (lists : HostId → Lists) (room : ℕ) (h : HostId) (offers : List (List Extent)) (all : List Extent) → length (lists h).accepted + length all ≤ 128 → Fits c lists room (answered c h offers all)
  answered_fits lists room h [] all few = tt
  answered_fits lists room h (offer ∷ later) all few = (
    omega (arith, few, length-map all (marked offer)),
    quiet_fits (all_lists_by c lists (Effect.Answer h (map (marked offer) all))) room (map (λ x. Effect.Take h (run_of c h x)) all)
        (map_passes needs_none (λ x. Effect.Take h (run_of c h x)) (λ x. refl) all),
  )

  hold_responses_fits : (lists : HostId → Lists) (room : ℕ) (h : HostId) (xs : List Extent) → length (lists h).responses + length xs ≤ 64 → Fits c lists room (hold h HeldKind.Responses xs)
  hold_responses_fits lists room h [] few = tt
  hold_responses_fits lists room h (x ∷ xs) few = (few, tt)

  hold_releases_fits : (lists : HostId → Lists) (room : ℕ) (h : HostId) (xs : List Extent) → length (lists h).releases + length xs ≤ 64 → Fits c lists room (hold h HeldKind.Releases xs)
  hold_releases_fits lists room h [] few = tt
  hold_releases_fits lists room h (x ∷ xs) few = (few, tt)

-- ---- rows

listed_few : (xs : List Extent) → too_many_listed xs ≡ None → length xs ≤ 64
listed_few xs row = ltb-false 64 (length xs) (not_broken (ltb 64 (length xs)) (Rule.TooManyListed (length xs)) row)

filter_less : (p : Extent → Bool) (xs : List Extent) → length (filter p xs) ≤ length xs
filter_less p [] = omega arith
filter_less p (x ∷ xs) = by (p x) (filter_less p xs)
  where
    by : (b : Bool) → length (filter p xs) ≤ length xs → length (if b then x ∷ filter p xs else filter p xs) ≤ length (x ∷ xs)
    by true rest = omega (arith, rest)
    by false rest = omega (arith, rest)

module _ (c : Configuration) (sound : IsSound c) (before : List Entry) (legal : Legal c before) where
  abbrev past : List Effect
  past = effects before

  abbrev p : Picture
  p = picture_of c (effects before)

  s : Stands c (picture_of c (effects before))
  s = (legal_is_sound c sound before legal).stands

  abbrev views : HostId → View
  views h = view_of c h before

  -- a host has 64 extents at most
  few : (h : HostId) → length (views h).accepted + count_in (views h).offers ≤ 64
  few h =
      let counted : length (flat_map (λ (xs : List Extent). xs) (views h).offers) ≡ count_in (views h).offers = length-flat_map (λ (xs : List Extent). xs) (views h).offers in
      omega (arith, s.few h, length-append (views h).accepted (flat_map (λ (xs : List Extent). xs) (views h).offers), counted)

  -- and as many offers, since each has one
  offers_less : (h : HostId) (os : List (List Extent)) → AllByRecursion (IsTogether c h) os → length os ≤ count_in os
  offers_less h [] each = omega arith
  offers_less h (o ∷ os) each = omega (arith, each.0.0, offers_less h os each.1, count_in-cons o os)

  runs_made : (h : HostId) → h < c.hosts → (ys : List Extent) → AllByRecursion (λ y. IsMade c ((picture_of c (effects before)).block (region_at c h y.start)) h (region_at c h y.start) y) ys →
      AllByRecursion (λ y. IsRun c (run_of c h y)) ys
  runs_made h host [] each = tt
  runs_made h host (y ∷ ys) each = (
    made_is_run c h sound host (p.block (region_at c h y.start)) (region_at c h y.start) y (present_whole c sound p s (region_at c h y.start) each.0.known) each.0,
    runs_made h host ys each.1,
  )

  -- The lists are those that the hosts see.
  abbrev pub Known : (HostId → Lists) → Type 0
  Known lists = (h : HostId) → h < c.hosts → lists h ≡ lists_in (view_of c h before)

  abbrev pub AreFit : List Effect → Type 0
  AreFit new = (lists : HostId → Lists) → Known lists → Fits c lists 1 new

  -- ---- a host's request

  pub host_fits : (h : HostId) → h < c.hosts → (q : HostRequest) → host_rule c h (view_of c h before) q ≡ None → AreFit (effects_of c (effects before) (host_outcome c h (view_of c h before) q))
  host_fits h host (HostRequest.GetEvents log) row lists known = tt
  host_fits h host (HostRequest.ClearEvents number all handles) row lists known =
      outcome_fits c past (host_outcome c h (views h) (HostRequest.ClearEvents number all handles)) lists 1
      (quiet_fits c lists 1 (host_outcome c h (views h) (HostRequest.ClearEvents number all handles)).changes
      (clear_passes needs_none (LogId.Host h) (record { cleared = λ n. refl; reset = refl }) number (views h).log all handles))
  host_fits h host (HostRequest.GetConfiguration count first) row lists known = tt
  host_fits h host (HostRequest.GetExtents count first) row lists known = tt
  host_fits h host (HostRequest.AddResponse true xs) row lists known =
      let rules = neither (too_many_listed ((views h).responses ++ xs)) _ row in
      outcome_fits c past (host_outcome c h (views h) (HostRequest.AddResponse true xs)) lists 1
      (hold_responses_fits c lists 1 h xs (omega (arith, listed_few ((views h).responses ++ xs) rules.0, length-append (views h).responses xs, ap (λ (l : Lists). length l.responses) (known h host))))
  host_fits h host (HostRequest.AddResponse false xs) row lists known =
      let rules = neither (too_many_listed ((views h).responses ++ xs)) _ row in
      outcome_fits c past (host_outcome c h (views h) (HostRequest.AddResponse false xs)) lists 1
      (unhold_fits c lists 1 h HeldKind.Responses (views h).responses (answered c h (views h).offers ((views h).responses ++ xs)) (λ next same.
      answered_fits c next 1 h (views h).offers ((views h).responses ++ xs)
      (omega (arith, listed_few ((views h).responses ++ xs) rules.0, few h, ap (λ (ys : List Extent). length ys) same, ap (λ (l : Lists). length l.accepted) (known h host)))))
  host_fits h host (HostRequest.GiveBack true xs) row lists known =
      let rules = neither (too_many_listed ((views h).releases ++ xs)) _ row in
      outcome_fits c past (host_outcome c h (views h) (HostRequest.GiveBack true xs)) lists 1
      (hold_releases_fits c lists 1 h xs (omega (arith, listed_few ((views h).releases ++ xs) rules.0, length-append (views h).releases xs, ap (λ (l : Lists). length l.releases) (known h host))))
  host_fits h host (HostRequest.GiveBack false xs) row lists known =
      let acc : List Extent = (views h).accepted in
      let ys : List Extent = (views h).releases ++ xs in
      let w : Configuration = with_blocks c p.block in
      let rules = neither (too_many_listed ys) ((each_in ys (going_rule w h acc (λ x. region_at w h x.start)) or incomplete w h acc ys) or too_many_extents (count_after acc (count_in (views h).offers) ys)) row in
      let inner = neither (each_in ys (going_rule w h acc (λ x. region_at w h x.start)) or incomplete w h acc ys) (too_many_extents (count_after acc (count_in (views h).offers) ys)) rules.1 in
      let going = going_of c sound p s h host (λ x. region_at w h x.start) ys inner.0 in
      outcome_fits c past (host_outcome c h (views h) (HostRequest.GiveBack false xs)) lists 1
      (unhold_fits c lists 1 h HeldKind.Releases (views h).releases (leaves c h ys) (λ next same.
      leaves_fit c next 1 h ys
      (omega (arith, listed_few ys rules.0, few h, ap (λ (zs : List Extent). length zs) same, ap (λ (l : Lists). length l.accepted) (known h host)))
      (runs_made h host ys going.made)))

  -- ---- the manager's

  add_fits : (host policy r bytes : ℕ) (tag : Tag) (list : List Extent) → manager_rule c (effects before) (λ k. view_of c k before) (FmRequest.Add host policy r bytes tag list) ≡ None →
      AreFit (effects_of c (effects before) (manager_outcome c (effects before) (λ k. view_of c k before) (FmRequest.Add host policy r bytes tag list)))
  add_fits host policy r bytes tag list row lists known =
      let new : List Extent = offered c past host policy r bytes tag list in
      let rules = row_of c before host policy r bytes tag list row in
      let a = added c sound past (legal_is_sound c sound before legal) host r tag bytes list policy rules in
      let its = known host a.offer.host in
      let own : length (lists host).offers ≤ count_in (views host).offers =
      omega (arith, offers_less host (views host).offers (s.together host), ap (λ (l : Lists). length l.offers) its) in
      let all : length (extents_at p host) ≡ length (views host).accepted + count_in (views host).offers =
      length-append (views host).accepted (flat_map (λ (xs : List Extent). xs) (views host).offers)
      ∙ ap (λ n. length (views host).accepted + n) (length-flat_map (λ (xs : List Extent). xs) (views host).offers) in
      let granular : All (λ (x : Extent). IsTrue (is_granular c host x.start x.length)) new =
      All-from_recursion (λ (x : Extent). IsTrue (is_granular c host x.start x.length)) new (each_granular host r a.offer.host new a.offer.made) in
      outcome_fits c past (manager_outcome c past views (FmRequest.Add host policy r bytes tag list)) lists 1
      ((omega arith, omega (arith, own, all, a.offer.few, a.some), omega (arith, all, a.offer.few, ap (λ (l : Lists). count_in l.offers) its), granular), tt)
    where
      each_granular : (h r : ℕ) → h < c.hosts → (xs : List Extent) → AllByRecursion (IsMade c ((picture_of c (effects before)).block r) h r) xs →
          AllByRecursion (λ (x : Extent). IsTrue (is_granular c h x.start x.length)) xs
      each_granular h r host [] each = tt
      each_granular h r host (x ∷ xs) each =
          let whole = present_whole c sound p s r each.0.known in (
            granular_from c h x.start x.length r (made_region c h sound host (p.block r) r x whole each.0) (made_granular c h sound host (p.block r) r x whole each.0),
            each_granular h r host xs each.1,
          )

  runs_marked : (h : HostId) (owners ys : List Extent) → AllByRecursion (λ y. IsRun c (run_of c h y)) ys → AllByRecursion (λ y. IsRun c (run_of c h y)) (map (marked owners) ys)
  runs_marked h owners [] each = tt
  runs_marked h owners (y ∷ ys) each = (each.0, runs_marked h owners ys each.1)

  -- what a removal takes away: by tag accepted extents, else listed ones
  removed_fits : (lists : HostId → Lists) → Known lists → (h : HostId) → h < c.hosts → (r : ℕ) (tag : Tag) (list : List Extent) (by_tag forced clean : Bool) →
      (if by_tag then by_tag_rule (views h).accepted tag else prescribed_removal_rule (with_blocks c (picture_of c (effects before)).block) h (views h).accepted (count_in (views h).offers) r list forced) ≡ None →
      Fits c lists 1 (if forced then removals c h clean (if by_tag then extents_of_tag tag (views h).accepted else map (marked (views h).accepted) list) else [])
  removed_fits lists known h host r tag list by_tag false clean row = tt
  removed_fits lists known h host r tag list true true clean row =
      let test : Extent → Bool = λ x. same_tag x.tag tag in
      let going = some_going c sound p (loose c p s) h host test in
      removals_fit c lists 1 h clean (filter test (views h).accepted)
      (omega (arith, few h, filter_less test (views h).accepted, ap (λ (l : Lists). length l.accepted) (known h host)))
      (runs_made h host (filter test (views h).accepted) going.made)
  removed_fits lists known h host r tag list false true clean row =
      let w : Configuration = with_blocks c p.block in
      let acc : List Extent = (views h).accepted in
      let p5 = neither _ (too_many_extents (count_after acc (count_in (views h).offers) list)) row in
      let p4 = neither _ (each_in list (going_rule w h acc (λ x. r)) or incomplete w h acc list) p5.0 in
      let p3 = neither _ (too_many_listed list) p4.0 in
      let going = going_of c sound p s h host (λ x. r) list p4.1 in
      removals_fit c lists 1 h clean (map (marked acc) list)
      (omega (arith, few h, listed_few list p3.1, length-map list (marked acc), ap (λ (l : Lists). length l.accepted) (known h host)))
      (runs_marked h acc list (runs_made h host list going.made))

  remove_fits : (h flags r bytes : ℕ) (tag : Tag) (list : List Extent) → manager_rule c (effects before) (λ k. view_of c k before) (FmRequest.Remove h flags r bytes tag list) ≡ None →
      AreFit (effects_of c (effects before) (manager_outcome c (effects before) (λ k. view_of c k before) (FmRequest.Remove h flags r bytes tag list)))
  remove_fits h flags r bytes tag list row lists known =
      let its = removal_row c views h flags r tag list row in
      outcome_fits c past (manager_outcome c past views (FmRequest.Remove h flags r bytes tag list)) lists 1
      (removed_fits lists known h its.host r tag list (policy_in flags == 0) (is_forced flags) (is_cleaning flags) its.inner)

  quiet : (o : Outcome) → list_all needs_none o.changes ≡ true → AreFit (effects_of c (effects before) o)
  quiet o none lists known = outcome_fits c past o lists 1 (quiet_fits c lists 1 o.changes none)

  pub manager_fits : (q : FmRequest) → manager_rule c (effects before) (λ k. view_of c k before) q ≡ None → AreFit (effects_of c (effects before) (manager_outcome c (effects before) (λ k. view_of c k before) q))
  manager_fits (FmRequest.GetEvents log) row = quiet (manager_outcome c past views (FmRequest.GetEvents log)) refl
  manager_fits (FmRequest.ClearEvents number all handles) row = quiet (manager_outcome c past views (FmRequest.ClearEvents number all handles))
      (clear_passes needs_none LogId.Manager (record { cleared = λ n. refl; reset = refl }) number (log_of LogId.Manager past) all handles)
  manager_fits FmRequest.GetInfo row = quiet (manager_outcome c past views FmRequest.GetInfo) refl
  manager_fits (FmRequest.GetRegions host count first) row = quiet (manager_outcome c past views (FmRequest.GetRegions host count first)) refl
  manager_fits (FmRequest.SetRegion r sanitize size) row = quiet (manager_outcome c past views (FmRequest.SetRegion r sanitize size)) refl
  manager_fits (FmRequest.GetExtentLists host count first) row = quiet (manager_outcome c past views (FmRequest.GetExtentLists host count first)) refl
  manager_fits (FmRequest.Add host policy r bytes tag list) row = add_fits host policy r bytes tag list row
  manager_fits (FmRequest.Remove host flags r bytes tag list) row = remove_fits host flags r bytes tag list row
  manager_fits (FmRequest.AddReference tag) row = quiet (manager_outcome c past views (FmRequest.AddReference tag)) (reference_passes needs_none tag refl (is_referenced tag past))
  manager_fits (FmRequest.RemoveReference tag) row = quiet (manager_outcome c past views (FmRequest.RemoveReference tag)) refl
  manager_fits (FmRequest.ListTags first count) row = quiet (manager_outcome c past views (FmRequest.ListTags first count)) refl

  -- ---- each step

  unheld : (h : HostId) (kind : HeldKind) (xs : List Extent) → AreFit (unhold h kind xs)
  unheld h kind [] lists known = tt
  unheld h kind (x ∷ xs) lists known = (tt, tt)

  step_fits : (e : Entry) → Meets c before e → AreFit e.effects
  step_fits e meets =
      step_case c before AreFit (record {
        nothing = λ lists known. tt;
        refused = unheld;
        host = λ h q known rule. host_fits h known q rule;
        manager = manager_fits;
        scrub = λ n lists known. quiet_fits c lists 1 (zeroes c (scrubbed c past n)) (zeroes_pass needs_none (λ run. refl) c (scrubbed c past n));
      }) e meets

  pub room_for_all : (e : Entry) → Meets c before e → (state : State) → IsStateAfter c before state → Fits c (lists_of state) 1 e.effects
  room_for_all e meets state kept = step_fits e meets (lists_of state) (λ h host. (kept.parts h host).lists_are)
