-- Runs that leave a host one after another are entered at once.
use Rattle.std.proofs.Common.{◌≡◌, ◌≢◌, ◌⊎◌, ℕ, ◌+◌, ◌<◌, ◌==◌, ◌&&◌, true, List, [], ◌∷◌, ◌++◌, Some, All, drop, get_or, length, slice_get, take, inl, inr, refl, sym, ap, subst, ◌∙◌}
use Rattle.std.proofs.lemmas.{Bool.and_parts, Bool.cases_Bool, List.flat_map_more, List.take_more, List.Elements.All-head, List.Elements.All-tail, List.Folds.list_all-append, List.Sums.fold-append}
use Rattle.std.specs.{List.list_all, Prelude.flat_map, Prelude.fold, Prelude.nat_lt}
use Rattle.cci_codec.specs.dcd_base.specs.{Words.same_tag, declared.capacity.Extent.Extent, declared.capacity.Tag.Tag, declared.ids.HostId.HostId}
use Rattle.device_rules.proofs.TagSearches.{one_tag}
use Rattle.extent_list.specs.{ExtentLists.cut, ExtentLists.cut_all, ExtentLists.has_range, ExtentLists.piece, HostLists.Lists, media_map.specs.region_config.specs.Configurations.Configuration}
use Rattle.journal_core.specs.declared.outcome.Effect.{Effect}
use Rattle.tag_refs.specs.declared.entries.TagEntry.{TagEntry}
use Rattle.device_state.proofs.{Listed.fits_at, Listed.listed_as, Listed.of_leave, Listed.own_leave, Listed.own_part, Listed.twice, OwnEffects.own_fits_at, ToldTwice.none_told, ToldTwice.told_again}
use Rattle.device_state.specs.{Entered.with_lists, Leaves.HasOnly, Leaves.HasRun, Leaves.IsLeaving, Leaves.left_by, Leaves.left_over, Leaves.lists_left, Leaves.owner_tag, Leaves.told_left}
use Rattle.device_state.specs.{Stages.AreListed, StateAfter.part_of, declared.parts.HostPart.HostPart, declared.state.State.State}
use Rattle.device_state.specs.EnteredLists.{Fits, HasOwnPlaces, HasPlaces, OwnFits, all_lists_by, all_lists_over, lists_by, lists_of, room_by, table_by, tag_left, tags_over, told}

-- ---- ranges one after another

pub told_left-append : (h : HostId) (xs ys : List Extent) (l : Lists) (entries : List TagEntry) →
    told_left h l (xs ++ ys) entries ≡ told_left h (lists_left xs l) ys (told_left h l xs entries)
told_left-append h [] ys l entries = refl
told_left-append h (x ∷ xs) ys l entries =
    told_left-append h xs ys (lists_left (x ∷ []) l) (told h (lists_left (x ∷ []) l) (owner_tag x l.accepted) entries)

pub lists_left-append : (xs ys : List Extent) (l : Lists) → lists_left (xs ++ ys) l ≡ lists_left ys (lists_left xs l)
lists_left-append xs ys l =
    ap (λ (zs : List Extent). record l { accepted = zs }) (fold-append (λ (zs : List Extent) (x : Extent). cut x.start x.length zs) l.accepted xs ys)

-- where no tag is open nothing is told
pub none_told_left : (h : HostId) (xs : List Extent) (l : Lists) (entries : List TagEntry) → (length entries == 0) ≡ true → entries ≡ told_left h l xs entries
none_told_left h [] l entries none = refl
none_told_left h (x ∷ xs) l entries none =
    none_told_left h xs (lists_left (x ∷ []) l) entries none
    ∙ ap (told_left h (lists_left (x ∷ []) l) xs) (none_told h (lists_left (x ∷ []) l) (owner_tag x l.accepted) entries none)

-- one range more leaves
module _ (old mid : State) (h : HostId) (xs : List Extent) (i : ℕ) (d : Extent) (known : h < length old.hosts.items) (below : i < length xs)
    (so_far : mid.hosts.items ≡ with_lists old h (lists_left (take i xs) (part_of old h).lists)) where
  here : (part_of mid h).lists ≡ lists_left (take i xs) (part_of old h).lists
  here = own_part old mid h (lists_left (take i xs) (part_of old h).lists) known so_far

  whole : take i xs ++ get_or xs i d ∷ [] ≡ take (i + 1) xs
  whole = sym (take_more xs i d below)

  pub left_next : (parts : List HostPart) → parts ≡ with_lists mid h (lists_left (get_or xs i d ∷ []) (part_of mid h).lists) →
      parts ≡ with_lists old h (lists_left (take (i + 1) xs) (part_of old h).lists)
  left_next parts next =
      twice old mid h (lists_left (take i xs) (part_of old h).lists) (lists_left (take (i + 1) xs) (part_of old h).lists) parts known so_far
      (next ∙ ap (with_lists mid h)
      ((λ j. lists_left (get_or xs i d ∷ []) (here j)) ∙ sym (lists_left-append (take i xs) (get_or xs i d ∷ []) (part_of old h).lists) ∙ (λ j. lists_left (whole j) (part_of old h).lists)))

  pub told_next : (entries before now : List TagEntry) → before ≡ told_left h (part_of old h).lists (take i xs) entries →
      now ≡ told h (lists_left (get_or xs i d ∷ []) (part_of mid h).lists) (owner_tag (get_or xs i d) (part_of mid h).lists.accepted) before →
      now ≡ told_left h (part_of old h).lists (take (i + 1) xs) entries
  told_next entries before now told_so next =
      next
      ∙ (λ j. told_left h (here j) (get_or xs i d ∷ []) (told_so j))
      ∙ sym (told_left-append h (take i xs) (get_or xs i d ∷ []) (part_of old h).lists entries)
      ∙ (λ j. told_left h (part_of old h).lists (whole j) entries)

-- ---- one effect

-- What an effect makes of lists and tags by which a run leaves the host, or granules are soiled.
record IsLeave (c : Configuration) (h : HostId) (e : Effect) : Type 0 where
  own : (l : Lists) → lists_by c h l e ≡ lists_left (left_by c h e) l
  others : (k : HostId) (l : Lists) → h ≢ k → lists_by c k l e ≡ l
  table : (lists : HostId → Lists) (entries : List TagEntry) → table_by c lists entries e ≡ told_left h (lists h) (left_by c h e) entries
  room : (n : ℕ) → room_by n e ≡ n

a_leave : (c : Configuration) (h : HostId) (e : Effect) → IsLeaving h e → IsLeave c h e
a_leave c h (Effect.Leave k run) same = subst (λ (m : HostId). IsLeave c h (Effect.Leave m run)) (sym same) (record {
  own = λ l. own_leave c h l run;
  others = λ k l other. (of_leave c h run).others k l other;
  table = λ lists entries i. told h (own_leave c h (lists h) run i) (tag_left c h run (lists h).accepted) entries;
  room = λ n. refl;
})
a_leave c h (Effect.Take k run) none = absurd none
a_leave c h (Effect.Zero run) none = absurd none
a_leave c h (Effect.Soil run) still = record { own = λ l. refl; others = λ k l other. refl; table = λ lists entries. refl; room = λ n. refl }
a_leave c h (Effect.Logged l event) none = absurd none
a_leave c h (Effect.Missed l) none = absurd none
a_leave c h (Effect.Cleared l n) none = absurd none
a_leave c h (Effect.Reset l) none = absurd none
a_leave c h (Effect.Block r size) none = absurd none
a_leave c h (Effect.Offer k xs) none = absurd none
a_leave c h (Effect.Answer k xs) none = absurd none
a_leave c h (Effect.Hold k kind xs) none = absurd none
a_leave c h (Effect.Unhold k kind) none = absurd none
a_leave c h (Effect.Ref t on) none = absurd none
a_leave c h (Effect.TagEnd t) none = absurd none

-- ---- more of them

module _ (c : Configuration) (h : HostId) where
  pub own_left : (es : List Effect) (l : Lists) → All (IsLeaving h) es → fold (lists_by c h) l es ≡ lists_left (left_over c h es) l
  own_left [] l leaving = refl
  own_left (e ∷ es) l leaving =
      ap (λ (m : Lists). fold (lists_by c h) m es) ((a_leave c h e (All-head (IsLeaving h) e es leaving)).own l)
      ∙ own_left es (lists_left (left_by c h e) l) (All-tail (IsLeaving h) e es leaving)
      ∙ sym (lists_left-append (left_by c h e) (left_over c h es) l)

  pub others_left : (k : HostId) (es : List Effect) (l : Lists) → h ≢ k → All (IsLeaving h) es → fold (lists_by c k) l es ≡ l
  others_left k [] l other leaving = refl
  others_left k (e ∷ es) l other leaving =
      ap (λ (m : Lists). fold (lists_by c k) m es) ((a_leave c h e (All-head (IsLeaving h) e es leaving)).others k l other)
      ∙ others_left k es l other (All-tail (IsLeaving h) e es leaving)

  pub told_over : (es : List Effect) (lists : HostId → Lists) (entries : List TagEntry) → All (IsLeaving h) es →
      tags_over c lists entries es ≡ told_left h (lists h) (left_over c h es) entries
  told_over [] lists entries leaving = refl
  told_over (e ∷ es) lists entries leaving =
      let one = a_leave c h e (All-head (IsLeaving h) e es leaving) in
      told_over es (all_lists_by c lists e) (table_by c lists entries e) (All-tail (IsLeaving h) e es leaving)
      ∙ (λ i. told_left h (one.own (lists h) i) (left_over c h es) (one.table lists entries i))
      ∙ sym (told_left-append h (left_by c h e) (left_over c h es) (lists h) entries)

  pub same_room : (es : List Effect) (room : ℕ) → All (IsLeaving h) es → fold room_by room es ≡ room
  same_room [] room leaving = refl
  same_room (e ∷ es) room leaving =
      ap (λ (n : ℕ). fold room_by n es) ((a_leave c h e (All-head (IsLeaving h) e es leaving)).room room)
      ∙ same_room es room (All-tail (IsLeaving h) e es leaving)

  -- one effect more
  pub left_over_more : (es : List Effect) (i : ℕ) (d : Effect) → i < length es → left_over c h (take (i + 1) es) ≡ left_over c h (take i es) ++ left_by c h (get_or es i d)
  left_over_more es i d below =
      ap (flat_map (left_by c h)) (take_more es i d below) ∙ sym (flat_map_more (left_by c h) [] (take i es) (get_or es i d))

  pub ranges_more : (es : List Effect) (i : ℕ) (e : Effect) (ranges found now : List Extent) → i < length es → e ≡ get_or es i e → ranges ≡ left_over c h (take i es) →
      found ≡ left_by c h e → now ≡ ranges ++ found → now ≡ left_over c h (take (i + 1) es)
  ranges_more es i e ranges found now below is so_far by_it put =
      put ∙ (λ j. so_far j ++ by_it j) ∙ ap (λ (x : Effect). left_over c h (take i es) ++ left_by c h x) is ∙ sym (left_over_more es i e below)

  -- the host's lists are replaced by what they leave
  pub left_listed : (old now : State) (es : List Effect) → h < length old.hosts.items → All (IsLeaving h) es →
      now.hosts.items ≡ with_lists old h (lists_left (left_over c h es) (lists_of old h)) → AreListed (all_lists_over c (lists_of old) es) old now
  left_listed old now es known leaving set_one =
      listed_as old now h (lists_left (left_over c h es) (lists_of old h)) (all_lists_over c (lists_of old) es) known
      (λ k other. others_left k es (lists_of old k) other leaving) (sym (own_left es (lists_of old h) leaving)) set_one

  -- ---- their runs

  pub runs_fit : (lists : HostId → Lists) (room : ℕ) (es : List Effect) → Fits c lists room es → All (HasRun c h) es
  runs_fit lists room es fits =
      λ i d below run is. (subst (HasPlaces c (all_lists_over c lists (take i es)) (fold room_by room (take i es))) is (fits_at c lists room es i d below fits)).1

  pub own_runs_fit : (l : Lists) (es : List Effect) → OwnFits c h l es → All (HasRun c h) es
  own_runs_fit l es fits = λ i d below run is. (subst (HasOwnPlaces c h (fold (lists_by c h) l (take i es))) is (own_fits_at c h l es i d below fits) refl).1

-- ---- all extents have one tag

module _ (t : Tag) where
  only_piece : (x : Extent) (from to : ℕ) → same_tag x.tag t ≡ true → HasOnly t (piece x from to)
  only_piece x from to same = elim (cases_Bool (nat_lt from to)) [
    | inl some ↦ rw some (λ i. same i && true)
    | inr none ↦ rw none refl
  ]

  only_both : (xs ys : List Extent) → HasOnly t xs → HasOnly t ys → HasOnly t (xs ++ ys)
  only_both xs ys one two = list_all-append (λ (x : Extent). same_tag x.tag t) xs ys ∙ (λ i. one i && two i)

  -- so have those that are left by a cut
  only_cut : (start bytes : ℕ) (xs : List Extent) → HasOnly t xs → HasOnly t (cut start bytes xs)
  only_cut start bytes [] only = only
  only_cut start bytes (x ∷ xs) only =
      let parts = and_parts _ _ only in
      elim (cases_Bool (has_range start bytes x)) [
        | inl here ↦ rw here (only_both (piece x x.start start ++ piece x (start + bytes) (x.start + x.length)) xs
            (only_both (piece x x.start start) (piece x (start + bytes) (x.start + x.length)) (only_piece x x.start start parts.0) (only_piece x (start + bytes) (x.start + x.length) parts.0))
            parts.1)
        | inr other ↦ rw other (λ i. parts.0 i && only_cut start bytes xs parts.1 i)
      ]

  -- a range lies in one of them, or its cut changes nothing
  owner_only : (x : Extent) (xs : List Extent) → HasOnly t xs → (owner_tag x xs ≡ t ∷ []) ⊎ ((owner_tag x xs ≡ []) × (cut x.start x.length xs ≡ xs))
  owner_only x [] only = inr (refl, refl)
  owner_only x (y ∷ ys) only =
      let parts = and_parts _ _ only in
      elim (cases_Bool (has_range x.start x.length y)) [
        | inl here ↦ inl (rw here (ap (λ (u : Tag). u ∷ []) (one_tag y.tag t parts.0)))
        | inr other ↦ elim (owner_only x ys parts.1) [
          | inl one ↦ inl (rw other one)
          | inr none ↦ inr (rw other none.0, rw other (ap (λ (zs : List Extent). y ∷ zs) none.1))
        ]
      ]

  module _ (h : HostId) (known : h < 16) where
    -- what is told of it after each range is told once, by the lists after the last one
    told_only : (xs : List Extent) (l : Lists) (entries : List TagEntry) → HasOnly t l.accepted →
        told_left h l xs (told h l (t ∷ []) entries) ≡ told h (lists_left xs l) (t ∷ []) entries
    told_only [] l entries only = refl
    told_only (x ∷ xs) l entries only = elim (owner_only x l.accepted only) [
      | inl one ↦
          ap (λ (ts : List Tag). told_left h (lists_left (x ∷ []) l) xs (told h (lists_left (x ∷ []) l) ts (told h l (t ∷ []) entries))) one
          ∙ ap (told_left h (lists_left (x ∷ []) l) xs) (told_again h (lists_left (x ∷ []) l) l t entries known)
          ∙ told_only xs (lists_left (x ∷ []) l) entries (only_cut x.start x.length l.accepted only)
      | inr none ↦
          (λ i. told_left h (record l { accepted = none.1 i }) xs (told h (record l { accepted = none.1 i }) (none.0 i) (told h l (t ∷ []) entries)))
          ∙ told_only xs l entries only
          ∙ (λ i. told h (lists_left xs (record l { accepted = sym none.1 i })) (t ∷ []) entries)
    ]

    -- where the first range lies in one of them
    pub told_once : (x : Extent) (xs : List Extent) (l : Lists) (entries : List TagEntry) → HasOnly t l.accepted → t ∷ [] ≡ owner_tag x l.accepted →
        told_left h l (x ∷ xs) entries ≡ told h (lists_left (x ∷ xs) l) (t ∷ []) entries
    told_once x xs l entries only lies =
        ap (λ (ts : List Tag). told_left h (lists_left (x ∷ []) l) xs (told h (lists_left (x ∷ []) l) ts entries)) (sym lies)
        ∙ told_only xs (lists_left (x ∷ []) l) entries (only_cut x.start x.length l.accepted only)

pub begins_with : (xs : List Extent) (x : Extent) → slice_get xs 0 ≡ Some x → xs ≡ x ∷ drop 1 xs
begins_with [] x first = cc
begins_with (y ∷ ys) x first = let same : y ≡ x = cc in ap (λ (z : Extent). z ∷ ys) same
