-- A host that gives back the last bytes of its extents in a region is never refused, and keeps all others.
use Rattle.plan_rules.proofs.{Allowed.each_may_go, Allowed.share_same, Answering.host_does, ClosedTags.leaves_are}
use Rattle.plan_rules.proofs.Emptying.{accepted_few, leaves_pass, none_of_two, over_leaves_offers, unbroken}
use Rattle.plan_rules.proofs.Filters.{each_filtered, fewer, many_filtered}
use Rattle.plan_rules.proofs.Keeping.{leaves_held, leaves_host, others_kept, outcome_accepted, outcome_held, outcome_holds, outcome_offers}
use Rattle.plan_rules.{proofs.KeptLogs.log_kept, specs.GivingBack.GivesLastBytesBack, specs.GivingBack.MadeOfBlocks, specs.Kept.KeepsOthers, specs.Kept.begins_in, specs.Kept.bytes_in}
use Rattle.plan_rules.specs.LastBytes.{without_last_bytes}
use Rattle.std.proofs.{Math.Nat.zero-mod, lemmas.Bool.eqb-true, lemmas.Bool.false≢true, lemmas.Bool.le-ltb, lemmas.Bool.ne_eqb, lemmas.Bool.cases_lt}
use Rattle.std.{proofs.lemmas.List.length-reverse, proofs.lemmas.List.reverse-reverse, specs.List.AllByRecursion, specs.List.filter, specs.List.list_all}
use Rattle.std.specs.{Prelude.if◌then◌else◌, Prelude.fold, Prelude.reverse, Prelude.sum_by, declared.result.Result.TheVariants.Ok}
use Rattle.std.proofs.Common.{◌≡◌, ℕ, ◌+◌, ◌-◌, ◌%◌, ◌<◌, ◌≤◌, Bool, true, false, not, List, [], ◌∷◌, ◌++◌, length, map, None, refl, ap, sym, subst, ◌∙◌, inl, inr, arith, ltb, ◌==◌, ◌&&◌}
use Rattle.dcd_base.specs.{Limits.extents_listed, Limits.extents_supported, Words.has_granule, declared.capacity.Extent.Extent, declared.ids.HostId.HostId, declared.steps.LogId.LogId}
use Rattle.extent_list.specs.ExtentLists.{count_in, cut_all, is_in, is_whole, lies_in, marked, owner_of}
use Rattle.extent_list.specs.Listing.{incomplete, is_shareable_at, some_left}
use Rattle.host_payloads.specs.declared.requests.HostRequest.{HostRequest}
use Rattle.media_map.{specs.Places.region_at, specs.Places.run_of, proofs.PlaceLemmas.has, proofs.RunLemmas.region_at_is}
use Rattle.region_config.specs.{Configurations.Configuration, Granules.base_of, Granules.region_spec, Granules.with_blocks, Soundness.IsSound}
use Rattle.release_core.specs.{Leaving.count_after, Releases.give_back_rule}
use Rattle.journal_core.specs.{Entries.effects, declared.entries.Entry.Entry, declared.outcome.Effect.Effect, declared.outcome.HeldKind.HeldKind, Holders.holding_after, Holders.holds}
use Rattle.isolation_laws.{proofs.RemovalViews.no_block as leaves_blocks, specs.device_rules.proofs.AllLeave.Behind, specs.device_rules.proofs.AllLeave.all_leave}
use Rattle.isolation_laws.specs.device_rules.proofs.{CutSteps.lies, CutSteps.lies-from, Going.IsGoing, Going.all_behind, Going.going_ready, Going.some_going, Homes.region_at_same}
use Rattle.isolation_laws.specs.device_rules.proofs.{LegalSound.legal_is_sound, ListSteps.each-all, ListSteps.each-both, ListSteps.each-change, ListSteps.many, LogHistories.leaves_logs}
use Rattle.isolation_laws.specs.device_rules.proofs.{OneLeave.accepted_made, OneLeave.accepted_once, OneLeave.loose, OneOffer.any-implies}
use Rattle.isolation_laws.specs.device_rules.specs.{Answers.host_outcome, Answers.host_rule, Hosts.accepted_after, Hosts.accepted_of, Hosts.offers_after, Hosts.offers_of, Hosts.block_of, Legal.Legal}
use Rattle.isolation_laws.specs.device_rules.specs.{Logs.log_of, Outcomes.Outcome, Outcomes.effects_of, Pictures.Picture, Pictures.count_on, Pictures.picture_of}
use Rattle.isolation_laws.specs.device_rules.specs.{ReleaseOutcomes.leaves, ReleaseOutcomes.removals, ResponseOutcomes.unhold, Standing.IsMade, Standing.Sound, Standing.Stands, Views.view_of}
use Rattle.plan_rules.proofs.LastBytes.{IsLong, IsTail, cut_last, each-reverse, filter-reverse, last_behind, last_each, last_few, last_parts, same_last, whole_more, without_elsewhere, without_few, without_in, without_there, long, long-reverse, sum_whole, without_long}

-- who holds a granule behind leaves held it before
held_before : (c : Configuration) (h k : HostId) (g : ℕ) (ys : List Extent) (b : Bool) → fold (holding_after k g) b (removals c h false ys) ≡ true → b ≡ true
held_before c h k g [] b e = e
held_before c h k g (y ∷ ys) b e = by ((h == k) && has_granule (run_of c h y) g) (held_before c h k g ys (if (h == k) && has_granule (run_of c h y) g then false else b) e)
  where
    by : (gone : Bool) → (if gone then false else b) ≡ true → b ≡ true
    by true e = absurd (false≢true e)
    by false e = e

-- ---- counting

many_reversed : (p : Extent → Bool) (xs : List Extent) → many p (reverse xs) ≡ many p xs
many_reversed p xs = ap length (filter-reverse p xs) ∙ length-reverse (filter p xs)

none_shared : (f : Extent → Bool) (owners ys : List Extent) → ((x : Extent) → f (marked owners x) ≡ f x) → AllByRecursion (λ y. f y ≡ false) ys → filter f (map (marked owners) ys) ≡ []
none_shared f owners [] alike each = refl
none_shared f owners (y ∷ ys) alike each = let fails : f (marked owners y) ≡ false = alike y ∙ each.0 in rw fails (none_shared f owners ys alike each.1)

module _ (c : Configuration) (sound : IsSound c) (p : Picture) (before : Sound c p) (h : HostId) (host : h < c.hosts)
    (r : ℕ) (known : r < length c.regions) (private : (region_spec c r).shareable ≡ false) (n : ℕ) (whole : n % p.block r ≡ 0) where
  s : Stands c p
  s = before.stands

  abbrev mine : List Extent
  mine = filter (begins_in c h r) (p.accepted h)

  abbrev ys : List Extent
  ys = last_parts n (reverse (filter (begins_in c h r) (p.accepted h)))

  abbrev Made : Extent → Type 0
  Made x = IsMade c (p.block (region_at c h x.start)) h (region_at c h x.start) x

  -- an accepted extent of the region
  record IsMine (x : Extent) : Type 0 where
    made : IsMade c (p.block r) h r x
    inside : is_in (p.accepted h) x ≡ true

  made_there : (x : Extent) → Made x → begins_in c h r x ≡ true → IsMade c (p.block r) h r x
  made_there x m e = subst (λ k. IsMade c (p.block k) h k x) (eqb-true (region_at c h x.start) r e) m

  long_of : (x : Extent) → IsMade c (p.block r) h r x → IsLong (p.block r) x
  long_of x m = record { some = m.some; long = m.ends }

  going_mine : IsGoing c p h mine
  going_mine = some_going c sound p (loose c p s) h host (begins_in c h r)

  -- those of the region, the last one first
  each_mine : AllByRecursion IsMine (reverse mine)
  each_mine =
      let acc : List Extent = p.accepted h in
      let passing = each-change (λ x. Made x × (begins_in c h r x ≡ true)) (IsMade c (p.block r) h r) (λ x e. made_there x e.0 e.1) mine (each_filtered Made (begins_in c h r) acc (accepted_made c sound p (loose c p s) h host)) in
      each-reverse IsMine mine (each-both (IsMade c (p.block r) h r) (λ x. is_in (p.accepted h) x ≡ true) IsMine (λ x m e. record { made = m; inside = e }) mine passing going_mine.inside)

  -- ---- what is given back

  tail_made : (x y : Extent) → IsMine x → IsTail (p.block r) x y → IsMade c (p.block r) h r y
  tail_made x y m t =
      let apart : y.start - base_of c h r ≡ x.start - base_of c h r + (y.start - x.start) = omega (arith, m.made.from, t.low) in
      record {
        known = known;
        some = t.some;
        from = omega (arith, m.made.from, t.low);
        within = omega (arith, t.end, m.made.within);
        begins = ap (λ k. k % p.block r) apart ∙ whole_more (x.start - base_of c h r) (y.start - x.start) (p.block r) m.made.begins t.begins;
        ends = t.long;
      }

  tail_region : (y : Extent) → IsMade c (p.block r) h r y → region_at c h y.start ≡ r
  tail_region y m = region_at_is c h sound host y.start r known (has c h y.start r m.from (omega (arith, m.some, m.within)))

  each_tail : (Q : Extent → Type 0) → ((x y : Extent) → IsMine x → IsTail (p.block r) x y → Q y) → AllByRecursion Q ys
  each_tail Q step = last_each (p.block r) IsMine Q (λ x m. long_of x m.made) step n (reverse mine) whole each_mine

  each_made : AllByRecursion (IsMade c (p.block r) h r) ys
  each_made = each_tail (IsMade c (p.block r) h r) tail_made

  each_inside : AllByRecursion (λ y. is_in (p.accepted h) y ≡ true) ys
  each_inside = each_tail (λ y. is_in (p.accepted h) y ≡ true) (λ x y m t. any-implies (λ a. lies_in x a) (λ a. lies_in y a) (p.accepted h)
      (λ a e. let l = lies x a e in lies-from y a (record { begins = omega (arith, l.begins, t.low); ends = omega (arith, l.ends, t.end) })) m.inside)

  once_of : (xs : List Extent) → ((g : ℕ) → count_on c h g xs ≤ 1) → (g : ℕ) → count_on c h g (reverse xs) ≤ 1
  once_of xs once g = omega (arith, many_reversed (λ x. has_granule (run_of c h x) g) xs, once g)

  behind_mine : Behind (reverse mine)
  behind_mine = all_behind c sound p (loose c p s) h host (reverse mine) (each-reverse Made mine going_mine.made)
      (once_of mine (λ g. omega (arith, many_filtered (λ x. has_granule (run_of c h x) g) (begins_in c h r) (p.accepted h), accepted_once c sound p (loose c p s) h g)))

  going_back : IsGoing c p h ys
  going_back = record {
    made = each-change (IsMade c (p.block r) h r) Made (λ y m. subst (λ k. IsMade c (p.block k) h k y) (sym (tail_region y m)) m) ys each_made;
    inside = each_inside;
    behind = last_behind (p.block r) n (reverse mine) whole (each-change IsMine (IsLong (p.block r)) (λ x m. long_of x m.made) (reverse mine) each_mine) behind_mine;
    whole = each-change (IsMade c (p.block r) h r) (λ y. (region_spec c (region_at c h y.start)).shareable ≡ true → is_whole (p.accepted h) y ≡ true)
        (λ y m shared. absurd (false≢true (sym private ∙ ap (λ k. (region_spec c k).shareable) (sym (tail_region y m)) ∙ shared))) ys each_made;
  }

  -- ---- what is left

  abbrev left : List Extent
  left = without_in (begins_in c h r) n (reverse (p.accepted h))

  pub cut_back : cut_all ys (p.accepted h) ≡ reverse (without_in (begins_in c h r) n (reverse (p.accepted h)))
  cut_back =
      let acc : List Extent = p.accepted h in
      let made = accepted_made c sound p (loose c p s) h host in
      let longs = each-change Made (λ x. begins_in c h r x ≡ true → IsLong (p.block r) x) (λ x m e. long_of x (made_there x m e)) (reverse acc) (each-reverse Made acc made) in
      let behind = all_behind c sound p (loose c p s) h host (reverse acc) (each-reverse Made acc made) (once_of acc (accepted_once c sound p (loose c p s) h)) in
      (λ i. cut_all (last_parts n (sym (filter-reverse (begins_in c h r) acc) i)) (sym (reverse-reverse acc) i))
      ∙ cut_last (p.block r) (begins_in c h r) n (reverse acc) whole longs behind

  pub left_by_leaves : fold (accepted_after c h) (p.accepted h) (removals c h false ys) ≡ reverse (without_in (begins_in c h r) n (reverse (p.accepted h)))
  left_by_leaves =
      let W : Extent → Type 0 = λ y. (region_spec c (region_at c h y.start)).shareable ≡ true in
      let same : (y : Extent) → (region_spec c (region_at c h y.start)).shareable ≡ true → (region_spec c (region_at c h y.start)).shareable ≡ true = λ y shared. shared in
      let gone = all_leave c sound h host (λ y. (owner_of (p.accepted h) y).tag) W same false ys p (loose c p s) (going_ready c sound p (loose c p s) h host W ys going_back going_back.whole same) in
      gone.accepted ∙ cut_back

  -- ---- it breaks no rule

  pub release_allowed : give_back_rule (with_blocks c p.block) h (p.accepted h) (count_in (p.offers h)) ys false ≡ None
  release_allowed =
      let acc : List Extent = p.accepted h in
      let w : Configuration = with_blocks c p.block in
      let few = accepted_few c sound p before h host in
      let listed_few : length ys ≤ length acc = omega (arith, last_few n (reverse mine), length-reverse mine, fewer (begins_in c h r) acc) in
      let short : length (cut_all ys acc) ≤ length acc = omega (arith, ap length cut_back, length-reverse left, without_few (begins_in c h r) n (reverse acc), length-reverse acc) in
      let many_listed : ltb extents_listed (length ys) ≡ false = le-ltb _ _ (omega (arith, listed_few, few)) in
      let many_after : ltb extents_supported (count_after acc (count_in (p.offers h)) ys) ≡ false = le-ltb _ _ (omega (arith, short, few)) in
      let places = each-all (λ y. region_at (with_blocks c p.block) h y.start ≡ region_at c h y.start) (λ y. region_at_same c p.block h y.start) ys in
      let shares = each-change (IsMade c (p.block r) h r) (λ y. is_shareable_at (with_blocks c p.block) h y ≡ false) (λ y m. share_same c p h y ∙ ap (λ k. (region_spec c k).shareable) (tail_region y m) ∙ private) ys each_made in
      let complete : incomplete (with_blocks c p.block) h (p.accepted h) ys ≡ None = ap (some_left acc) (none_shared (is_shareable_at w h) acc ys (λ x. refl) shares) in
      none_of_two _ _ (unbroken _ _ many_listed)
      (none_of_two _ _ (none_of_two _ _ (each_may_go c p h (λ y. region_at (with_blocks c p.block) h y.start) ys going_back places) complete) (unbroken _ _ many_after))

pub gives_last_bytes_back : (c : Configuration) → IsSound c → (journal : List Entry) → Legal c journal → GivesLastBytesBack c journal
gives_last_bytes_back c sound journal legal h r n q host known private alone whole read_as =
    let past : List Effect = effects journal in
    let p : Picture = picture_of c past in
    let before = legal_is_sound c sound journal legal in
    let acc : List Extent = accepted_of c h (effects journal) in
    let ys : List Extent = last_parts n (reverse (filter (begins_in c h r) (accepted_of c h (effects journal)))) in
    let o : Outcome = host_outcome c h (view_of c h journal) (HostRequest.GiveBack false (last_parts n (reverse (filter (begins_in c h r) (accepted_of c h (effects journal)))))) in
    let read = read_as ∙ ap (λ xs. Ok (HostRequest.GiveBack false xs)) (same_last n (reverse (filter (begins_in c h r) (accepted_of c h (effects journal))))) in
    let row : host_rule c h (view_of c h journal) (HostRequest.GiveBack false (last_parts n (reverse (filter (begins_in c h r) (accepted_of c h (effects journal)))))) ≡ None =
    ap (λ held. give_back_rule (with_blocks c p.block) h acc (count_in (offers_of h past)) (held ++ ys) false) alone ∙ release_allowed c sound p before h host r known private n whole in
    let does = host_does c journal q h (HostRequest.GiveBack false ys) read row refl in
    let changed : o.changes ≡ removals c h false ys = (λ i. unhold h HeldKind.Releases (alone i) ++ leaves c h (alone i ++ ys)) ∙ sym (leaves_are c h ys) in
    let pass : (t : Effect → Bool) → ((x : Extent) → t (Effect.Leave h (run_of c h x)) ≡ true) → list_all t o.changes ≡ true = λ t each. ap (list_all t) changed ∙ leaves_pass t c h ys each in
    let R : Extent → Bool = begins_in c h r in
    let K : List Extent = without_in (begins_in c h r) n (reverse acc) in
    let after : accepted_of c h (effects journal ++ (effects_of c past o)) ≡ reverse (without_in (begins_in c h r) n (reverse (accepted_of c h (effects journal)))) =
    outcome_accepted c h past o ∙ ap (fold (accepted_after c h) acc) changed ∙ left_by_leaves c sound p before h host r known private n whole in
    let there : reverse (filter (begins_in c h r) (accepted_of c h (effects journal ++ (effects_of c past o)))) ≡ without_last_bytes n (reverse (filter (begins_in c h r) (accepted_of c h (effects journal)))) =
    ap (λ xs. reverse (filter R xs)) after ∙ ap reverse (filter-reverse R K) ∙ reverse-reverse (filter R K) ∙ without_there R (record { same = λ x m. refl }) n (reverse acc) ∙ ap (without_last_bytes n) (filter-reverse R acc) in
    record {
      succeeds = does.succeeds;
      keeps = subst (λ new. KeepsOthers c h (effects journal) (effects journal ++ new)) (sym does.effects)
          (others_kept c h past o (λ k apart. pass (leaves_host k) (λ x. ap not apart)) (λ kind. outcome_held c h kind past o (pass leaves_held (λ x. refl))) (pass leaves_blocks (λ x. refl)));
      offers = subst (λ new. offers_of h (effects journal ++ new) ≡ offers_of h (effects journal)) (sym does.effects)
          (outcome_offers c h past o ∙ ap (fold (offers_after h) (offers_of h past)) changed ∙ over_leaves_offers c h (offers_of h past) ys);
      logs = λ k. subst (λ new. log_of (LogId.Host k) (effects journal ++ new) ≡ log_of (LogId.Host k) (effects journal)) (sym does.effects)
          (log_kept c past o (pass leaves_logs (λ x. refl)) LogId.Manager _ refl (LogId.Host k) refl);
      holders = λ k g. subst (λ new. holds k g (effects journal ++ new) ≡ true → holds k g (effects journal) ≡ true) (sym does.effects)
          (λ e. held_before c h k g ys (holds k g past) (sym (outcome_holds c k g past o ∙ ap (fold (holding_after k g) (holds k g past)) changed) ∙ e));
      there = subst (λ new. reverse (filter (begins_in c h r) (accepted_of c h (effects journal ++ new))) ≡ without_last_bytes n (reverse (filter (begins_in c h r) (accepted_of c h (effects journal))))) (sym does.effects) there;
      long = subst (λ new. bytes_in c h r (effects journal ++ new) ≡ bytes_in c h r (effects journal) - n) (sym does.effects)
          (sym (long-reverse (filter R (accepted_of c h (past ++ effects_of c past o)))) ∙ ap (sum_by long) there ∙ without_long n (reverse (filter R acc)) ∙ ap (λ m. m - n) (long-reverse (filter R acc)));
      elsewhere = λ t other. subst (λ new. filter (begins_in c h t) (accepted_of c h (effects journal ++ new)) ≡ filter (begins_in c h t) (accepted_of c h (effects journal))) (sym does.effects)
          (ap (filter (begins_in c h t)) after ∙ filter-reverse (begins_in c h t) K
          ∙ ap reverse (without_elsewhere R (begins_in c h t) (record { same = λ x m. refl }) (λ x mine. ne_eqb (region_at c h x.start) t (λ e. other (sym e ∙ eqb-true (region_at c h x.start) r mine))) n (reverse acc) ∙ filter-reverse (begins_in c h t) acc)
          ∙ reverse-reverse (filter (begins_in c h t) acc));
    }

-- ---- whole blocks

pub made_of_blocks : (c : Configuration) → IsSound c → (journal : List Entry) → Legal c journal → MadeOfBlocks c journal
made_of_blocks c sound journal legal h r = elim (cases_lt h c.hosts) [
  | inr beyond ↦ ap (λ xs. sum_by long (filter (begins_in c h r) xs) % block_of c r (effects journal)) (s.no_accepted h beyond) ∙ zero-mod (block_of c r (effects journal))
  | inl host ↦ sum_whole (block_of c r (effects journal)) (filter (begins_in c h r) (accepted_of c h (effects journal)))
      (each-change (λ x. Made x × (begins_in c h r x ≡ true)) (λ x. x.length % block_of c r (effects journal) ≡ 0) (λ x e. subst (λ k. x.length % block_of c k (effects journal) ≡ 0) (eqb-true (region_at c h x.start) r e.1) e.0.ends)
      (filter (begins_in c h r) (accepted_of c h (effects journal))) (each_filtered Made (begins_in c h r) (accepted_of c h (effects journal)) (accepted_made c sound p (loose c p s) h host)))
]
  where
    p : Picture
    p = picture_of c (effects journal)

    s : Stands c (picture_of c (effects journal))
    s = (legal_is_sound c sound journal legal).stands

    Made : Extent → Type 0
    Made x = IsMade c (block_of c (region_at c h x.start) (effects journal)) h (region_at c h x.start) x
