-- Extents that leave their host one after another.
use Rattle.std.proofs.Common.{◌≡◌, ◌⊎◌, ℕ, ◌+◌, ◌<◌, ◌≤◌, Bool, true, false, ◌==◌, List, [], ◌∷◌, ◌++◌, length, refl, ap, sym, subst, ◌∙◌, inl, inr, arith, length-append, append_assoc, ◌%◌}
use Rattle.std.proofs.lemmas.{Bool.cases_Bool, Bool.le-ltb, Bool.or_left, Bool.or_parts, Bool.or_right, List.Folds.list_any-append}
use Rattle.std.specs.List.{AllByRecursion, list_all, list_any}
use Rattle.cci_codec.specs.dcd_base.specs.{declared.capacity.Extent.Extent, declared.capacity.Tag.Tag, declared.ids.HostId.HostId, declared.media.Run.Run, Words.same_tag}
use Rattle.extent_list.specs.ExtentLists.{cut, cut_all, has_extent_of, has_range, is_in, lies_in, overlaps, piece, without}
use Rattle.extent_list.specs.media_map.specs.{Places.region_at, Places.run_of, region_config.specs.Configurations.Configuration}
use Rattle.extent_list.specs.media_map.specs.region_config.specs.{Granules.granule_size, Granules.region_spec, Soundness.IsSound}
use Rattle.journal_core.specs.declared.outcome.Effect.{Effect}
use Rattle.device_rules.proofs.{CutSteps.IsPiece, CutSteps.cut_each, CutSteps.in_cut, CutSteps.lies, CutSteps.lies-from, CutSteps.tag_stays, ListSteps.each-both, ListSteps.each-change}
use Rattle.device_rules.proofs.{OneLeave.Loose, OneLeave.accepted_made, OneLeave.accepted_now, OneLeave.accepted_other, OneLeave.leave_loose, OneLeave.whole_blocks, Overlaps.Spread}
use Rattle.device_rules.{proofs.Quiet.is_quiet, proofs.Quiet.quiet_front, specs.Pictures.Picture, specs.Pictures.picture_after, specs.ReleaseOutcomes.removals, specs.ReleaseOutcomes.soils}
use Rattle.device_rules.specs.Standing.{IsMade}

-- no extent shares an address with one before it
abbrev pub Behind : List Extent → Type 0
Behind [] = Unit {0}
Behind (x ∷ xs) = AllByRecursion (λ y. overlaps y x ≡ false) xs × Behind xs

behind_one : (front back : List Extent) (x : Extent) (ys : List Extent) → Spread (front ++ x ∷ back) ys → AllByRecursion (λ y. overlaps y x ≡ false) ys
behind_one front back x [] spread = tt
behind_one front back x (y ∷ ys) spread =
    let split = or_parts (list_any (overlaps y) front) (list_any (overlaps y) (x ∷ back)) (sym (list_any-append (overlaps y) front (x ∷ back)) ∙ spread.0) in
    ((or_parts (overlaps y x) (list_any (overlaps y) back) split.1).0, behind_one front (back ++ y ∷ []) x ys (subst (λ l. Spread l ys) (append_assoc front (x ∷ back) (y ∷ [])) spread.1))

pub behind_from : (before xs : List Extent) → Spread before xs → Behind xs
behind_from before [] spread = tt
behind_from before (x ∷ xs) spread = (behind_one before [] x xs spread.1, behind_from (before ++ x ∷ []) xs spread.1)

-- a is the extent in which y lies: it has the tag that y is to have, and y's addresses where that is asked
pub record IsOwner (T : Extent → Tag) (W : Extent → Type 0) (y a : Extent) : Type 0 where
  pub tag : a.tag ≡ T y
  pub whole : W y → (y.start ≡ a.start) × (y.length ≡ a.length)

-- what leaves whole leaves no more extents
pub cut_short : (x : Extent) (xs : List Extent) → AllByRecursion (λ a. lies_in x a ≡ true → (x.start ≡ a.start) × (x.length ≡ a.length)) xs → length (cut x.start x.length xs) ≤ length xs
cut_short x [] each = omega arith
cut_short x (a ∷ xs) each = elim (cases_Bool (has_range x.start x.length a)) [
  | inr stays ↦ rw stays (omega (arith, cut_short x xs each.1))
  | inl gives ↦ (let same = each.0 gives in
      let low : length (piece a a.start x.start) ≡ 0 = no_piece a a.start x.start (omega (arith, same.0)) in
      let up : length (piece a (x.start + x.length) (a.start + a.length)) ≡ 0 = no_piece a (x.start + x.length) (a.start + a.length) (omega (arith, same.0, same.1)) in
      rw gives (omega (arith, length-append (without a x.start x.length) xs, length-append (piece a a.start x.start) (piece a (x.start + x.length) (a.start + a.length)), low, up)))
]
  where
    no_piece : (a : Extent) (from to : ℕ) → to ≤ from → length (piece a from to) ≡ 0
    no_piece a from to none = rw (le-ltb _ _ none) refl

pub soils_quiet : (clean : Bool) (run : Run) → list_all is_quiet (soils clean run) ≡ true
soils_quiet true run = refl
soils_quiet false run = refl

module _ (c : Configuration) (sound : IsSound c) (h : HostId) (host : h < c.hosts) (T : Extent → Tag) (W : Extent → Type 0)
    (of_shared : (y : Extent) → (region_spec c (region_at c h y.start)).shareable ≡ true → W y) where
  -- the extents of the list can leave, one after another
  pub record IsReady (p : Picture) (ys : List Extent) : Type 0 where
    pub made : AllByRecursion (λ y. IsMade c (p.block (region_at c h y.start)) h (region_at c h y.start) y) ys
    pub inside : AllByRecursion (λ y. is_in (p.accepted h) y ≡ true) ys
    pub behind : Behind ys
    pub owned : AllByRecursion (λ y. AllByRecursion (λ a. lies_in y a ≡ true → IsOwner T W y a) (p.accepted h)) ys

  -- what they leave
  pub record IsLeft (p q : Picture) (ys : List Extent) : Type 0 where
    pub loose : Loose c q
    pub same_offers : (k : HostId) → q.offers k ≡ p.offers k
    pub same_accepted : (k : HostId) → (h == k) ≡ false → q.accepted k ≡ p.accepted k
    pub accepted : q.accepted h ≡ cut_all ys (p.accepted h)
    pub same_tags : q.tags ≡ p.tags
    pub same_references : (t : Tag) → q.referenced t ≡ p.referenced t
    pub kept : (t : Tag) → has_extent_of t (p.accepted h) ≡ true → (has_extent_of t (q.accepted h) ≡ true) ⊎ (list_any (λ y. same_tag (T y) t) ys ≡ true)
    pub short : ((y : Extent) → W y) → length (q.accepted h) ≤ length (p.accepted h)

  module _ (p : Picture) (s : Loose c p) (y : Extent) (ys : List Extent) (ready : IsReady p (y ∷ ys)) where
    abbrev after_one : Picture
    after_one = picture_after c p (Effect.Leave h (run_of c h y) ∷ [])

    whole : (r : ℕ) → r < length c.regions → p.block r % granule_size c r ≡ 0
    whole = whole_blocks c sound p s

    owned_here : AllByRecursion (λ a. lies_in y a ≡ true → (region_spec c (region_at c h y.start)).shareable ≡ true → (y.start ≡ a.start) × (y.length ≡ a.length)) (p.accepted h)
    owned_here = each-change (λ a. lies_in y a ≡ true → IsOwner T W y a) (λ a. lies_in y a ≡ true → (region_spec c (region_at c h y.start)).shareable ≡ true → (y.start ≡ a.start) × (y.length ≡ a.length))
        (λ a f e shared. (f e).whole (of_shared y shared)) (p.accepted h) ready.owned.0

    now : (picture_after c p (Effect.Leave h (run_of c h y) ∷ [])).accepted h ≡ cut y.start y.length (p.accepted h)
    now = accepted_now c sound p s h host y ready.made.0 ready.inside.0 owned_here

    first_loose : Loose c (picture_after c p (Effect.Leave h (run_of c h y) ∷ []))
    first_loose = leave_loose c sound p s h host y ready.made.0 ready.inside.0 owned_here

    -- what lies in a piece lies in the whole, and is not the whole
    piece_owned : (z a b : Extent) → (lies_in z a ≡ true → IsOwner T W z a) → IsPiece c h sound host p.block whole y a b → lies_in z b ≡ true → IsOwner T W z b
    piece_owned z a b f i e =
        let l = lies z b e in
        let o = f (lies-from z a (record { begins = omega (arith, l.begins, i.low); ends = omega (arith, l.ends, i.high) })) in
        record {
          tag = i.tag ∙ o.tag;
          whole = λ w. let same = o.whole w in absurd (elim i.beside [
            | inl below ↦ absurd (omega (arith, below, l.ends, same.0, same.1, i.inside.ends, ready.made.0.some))
            | inr above ↦ absurd (omega (arith, above, l.begins, same.0, i.inside.begins, ready.made.0.some))
          ]);
        }

    pub ready_then : IsReady (picture_after c p (Effect.Leave h (run_of c h y) ∷ [])) ys
    ready_then = record {
      made = ready.made.1;
      inside = each-both (λ z. IsMade c (p.block (region_at c h z.start)) h (region_at c h z.start) z) (λ z. (is_in (p.accepted h) z ≡ true) × (overlaps z y ≡ false)) (λ z. is_in (after_one.accepted h) z ≡ true)
          (λ z m e. ap (λ xs. is_in xs z) now ∙ in_cut z y (p.accepted h) m.some e.1 e.0) ys ready.made.1
          (each-both (λ z. is_in (p.accepted h) z ≡ true) (λ z. overlaps z y ≡ false) (λ z. (is_in (p.accepted h) z ≡ true) × (overlaps z y ≡ false)) (λ z a b. (a, b)) ys ready.inside.1 ready.behind.0);
      behind = ready.behind.1;
      owned = each-change (λ z. AllByRecursion (λ a. lies_in z a ≡ true → IsOwner T W z a) (p.accepted h)) (λ z. AllByRecursion (λ a. lies_in z a ≡ true → IsOwner T W z a) (after_one.accepted h))
          (λ z each. subst (AllByRecursion (λ a. lies_in z a ≡ true → IsOwner T W z a)) (sym now)
          (cut_each c h sound host p.block whole (λ a. lies_in z a ≡ true → IsOwner T W z a) y ready.made.0 (piece_owned z) (p.accepted h) (accepted_made c sound p s h host) each))
          ys ready.owned.1;
    }

    -- one leave, and then the others
    pub left_then : (q : Picture) → IsLeft (picture_after c p (Effect.Leave h (run_of c h y) ∷ [])) q ys → IsLeft p q (y ∷ ys)
    left_then q l = record {
      loose = l.loose;
      same_offers = l.same_offers;
      same_accepted = λ k other. l.same_accepted k other ∙ accepted_other c sound p s h host y ready.made.0 ready.inside.0 owned_here k other;
      accepted = l.accepted ∙ ap (cut_all ys) now;
      same_tags = l.same_tags;
      same_references = l.same_references;
      kept = λ t has. elim (cases_Bool (same_tag (T y) t)) [
        | inl same ↦ inr (or_left (same_tag (T y) t) (list_any (λ z. same_tag (T z) t) ys) same)
        | inr other ↦ (let still : has_extent_of t (after_one.accepted h) ≡ true = ap (has_extent_of t) now ∙ tag_stays y t (T y) (p.accepted h) other
            (each-change (λ a. lies_in y a ≡ true → IsOwner T W y a) (λ a. lies_in y a ≡ true → a.tag ≡ T y) (λ a f e. (f e).tag) (p.accepted h) ready.owned.0) has in
            elim (l.kept t still) [
              | inl it ↦ inl it
              | inr later ↦ inr (or_right (same_tag (T y) t) (list_any (λ z. same_tag (T z) t) ys) later)
            ])
      ];
      short = λ all. omega (
        arith,
        l.short all,
        ap length now,
        cut_short y (p.accepted h)
            (each-change (λ a. lies_in y a ≡ true → IsOwner T W y a) (λ a. lies_in y a ≡ true → (y.start ≡ a.start) × (y.length ≡ a.length)) (λ a f e. (f e).whole (all y)) (p.accepted h) ready.owned.0),
      );
    }

  -- all of them leave, and what stands stands, but for the number of extents
  pub all_leave : (clean : Bool) (ys : List Extent) (p : Picture) → Loose c p → IsReady p ys → IsLeft p (picture_after c p (removals c h clean ys)) ys
  all_leave clean [] p s ready = record {
    loose = s;
    same_offers = λ k. refl;
    same_accepted = λ k other. refl;
    accepted = refl;
    same_tags = refl;
    same_references = λ t. refl;
    kept = λ t has. inl has;
    short = λ all. omega arith;
  }
  all_leave clean (y ∷ ys) p s ready =
      let run : Run = run_of c h y in
      let after_one : Picture = picture_after c p (Effect.Leave h (run_of c h y) ∷ []) in
      let rest = all_leave clean ys after_one (first_loose p s y ys ready) (ready_then p s y ys ready) in
      let told : picture_after c after_one (soils clean run ++ removals c h clean ys) ≡ picture_after c after_one (removals c h clean ys) = quiet_front c after_one (soils clean run) (removals c h clean ys) (soils_quiet clean run) in
      subst (λ q. IsLeft p q (y ∷ ys)) (sym told) (left_then p s y ys ready (picture_after c after_one (removals c h clean ys)) rest)
