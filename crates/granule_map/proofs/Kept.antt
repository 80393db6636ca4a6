-- The states of granules by what is kept of them, and what a change of a run makes of both.
use Rattle.std.proofs.Common.{◌≡◌, ℕ, ◌+◌, ◌^◌, ◌<◌, ◌≤◌, Bool, true, false, cond, List, [], ◌∷◌, ◌++◌, Some, length, get_or, set, map, take, drop, replicate, refl, ap, sym, subst, ◌∙◌, arith, length-append, length-drop}
use Rattle.std.proofs.{Math.Nat.add-zero, Math.Nat.zero-add, lemmas.List.ext_get_or, lemmas.List.get_or-replicate, lemmas.List.length-replicate, lemmas.List.length-take-le, lemmas.List.take_more}
use Rattle.std.proofs.lemmas.List.{FromFn.get_or-map-range_with_len, FromFn.length-map-range_with_len, Sums.sum_by-append, Sums.sum_by-cons}
use Rattle.std.{proofs.lemmas.Option.get_or_from_slice_get, proofs.lemmas.Option.slice_get-get_or, proofs.lemmas.Option.slice_get_read, specs.Prelude.count_by, specs.Prelude.slice_get}
use Rattle.dcd_base.specs.{Words.has_granule, Words.zero_tag, declared.capacity.Tag.Tag, declared.media.Run.Run}
use Rattle.granule_map.proofs.{Changes.item_after_run, Changes.state_after_run, Marked.marks_of_one, Marked.still_marked}
use Rattle.granule_map.proofs.PartsReplaced.{replaced, replaced_more, replaced_none}
use Rattle.granule_map.specs.{StateLists.host_of, StateLists.mark_of, StateLists.told, StateLists.with_run, Told.AreKept, Told.states_of, Told.tags_with, Told.with_item}
use Rattle.granule_map.specs.declared.states.GranuleState.{GranuleState, TheVariants.Free, TheVariants.Reserved, TheVariants.Held, TheVariants.Tagged, TheVariants.Dirty}

-- what is told of one granule
abbrev pub told_of : List ℕ → List ℕ → List Tag → ℕ → GranuleState
told_of marks hosts tags g = told (get_or marks g 0) (get_or hosts g 0) (get_or tags g zero_tag)

pub states_long : (marks hosts : List ℕ) (tags : List Tag) → length (states_of marks hosts tags) ≡ length marks
unfolding states_of
states_long marks hosts tags = length-map-range_with_len (told_of marks hosts tags) 0 (length marks)

pub state_told : (marks hosts : List ℕ) (tags : List Tag) (g : ℕ) (d : GranuleState) → g < length marks → get_or (states_of marks hosts tags) g d ≡ told_of marks hosts tags g
unfolding states_of
state_told marks hosts tags g d below = get_or-map-range_with_len (told_of marks hosts tags) 0 (length marks) g g d below (zero-add g)

-- the state of a granule
pub state_got : (marks hosts : List ℕ) (tags : List Tag) (g : ℕ) → g < length marks → slice_get (states_of marks hosts tags) g ≡ Some (told_of marks hosts tags g)
state_got marks hosts tags g below =
    slice_get-get_or (states_of marks hosts tags) g Dirty (omega (arith, states_long marks hosts tags, below))
    ∙ ap (λ s. Some s) (state_told marks hosts tags g Dirty below)

-- a change of a run leaves as many items
pub items_long : {X : Type 0} (run : Run) (x : X) (xs : List X) → run.first + run.count ≤ length xs → length (with_item run x xs) ≡ length xs
items_long run x xs within =
    length-append (take run.first xs ++ replicate run.count x) (drop (run.first + run.count) xs)
    ∙ omega (arith, length-append (take run.first xs) (replicate run.count x), length-take-le run.first xs (omega (arith, within)), length-replicate run.count x, length-drop (run.first + run.count) xs, within)

pub tags_long : (run : Run) (s : GranuleState) (tags : List Tag) → run.first + run.count ≤ length tags → length (tags_with run s tags) ≡ length tags
tags_long run Free tags within = refl
tags_long run Dirty tags within = refl
tags_long run (Reserved h) tags within = refl
tags_long run (Held h) tags within = refl
tags_long run (Tagged t) tags within = items_long run t tags within

-- what is told of a granule that is given a state, or stays as it was
told_same : (b : Bool) (s : GranuleState) (m h : ℕ) (t new : Tag) → new ≡ t → ((u : Tag) → told (mark_of s) (host_of s) u ≡ s) → told (cond b (mark_of s) m) (cond b (host_of s) h) new ≡ cond b s (told m h t)
told_same true s m h t new is any = any new
told_same false s m h t new is any = ap (told m h) is

told_tag : (b : Bool) (m h : ℕ) (t u : Tag) → told (cond b 3 m) (cond b 0 h) (cond b u t) ≡ cond b (Tagged u) (told m h t)
told_tag true m h t u = refl
told_tag false m h t u = refl

module _ (marks hosts : List ℕ) (tags : List Tag) (run : Run) (hosts_are : length hosts ≡ length marks) (tags_are : length tags ≡ length marks) (within : run.first + run.count ≤ length marks) where
  both_told : (s : GranuleState) (g : ℕ) (new : Tag) → told (get_or (with_item run (mark_of s) marks) g 0) (get_or (with_item run (host_of s) hosts) g 0) new
      ≡ told (cond (has_granule run g) (mark_of s) (get_or marks g 0)) (cond (has_granule run g) (host_of s) (get_or hosts g 0)) new
  both_told s g new =
      ap (λ m. told m (get_or (with_item run (host_of s) hosts) g 0) new) (item_after_run marks run (mark_of s) within g 0)
      ∙ ap (λ h. told (cond (has_granule run g) (mark_of s) (get_or marks g 0)) h new) (item_after_run hosts run (host_of s) (omega (arith, hosts_are, within)) g 0)

  all_told : (s : GranuleState) (g : ℕ) → told_of (with_item run (mark_of s) marks) (with_item run (host_of s) hosts) (tags_with run s tags) g ≡ cond (has_granule run g) s (told_of marks hosts tags g)
  all_told Free g = both_told Free g (get_or tags g zero_tag) ∙ told_same (has_granule run g) Free (get_or marks g 0) (get_or hosts g 0) _ _ refl (λ u. refl)
  all_told Dirty g = both_told Dirty g (get_or tags g zero_tag) ∙ told_same (has_granule run g) Dirty (get_or marks g 0) (get_or hosts g 0) _ _ refl (λ u. refl)
  all_told (Reserved h) g = both_told (Reserved h) g (get_or tags g zero_tag) ∙ told_same (has_granule run g) (Reserved h) (get_or marks g 0) (get_or hosts g 0) _ _ refl (λ u. refl)
  all_told (Held h) g = both_told (Held h) g (get_or tags g zero_tag) ∙ told_same (has_granule run g) (Held h) (get_or marks g 0) (get_or hosts g 0) _ _ refl (λ u. refl)
  all_told (Tagged t) g =
      both_told (Tagged t) g (get_or (with_item run t tags) g zero_tag)
      ∙ ap (told (cond (has_granule run g) 3 (get_or marks g 0)) (cond (has_granule run g) 0 (get_or hosts g 0))) (item_after_run tags run t (omega (arith, tags_are, within)) g zero_tag)
      ∙ told_tag (has_granule run g) (get_or marks g 0) (get_or hosts g 0) (get_or tags g zero_tag) t

  -- the states of a run are changed
  pub states_with_run : (s : GranuleState) → states_of (with_item run (mark_of s) marks) (with_item run (host_of s) hosts) (tags_with run s tags) ≡ with_run (states_of marks hosts tags) run s
  states_with_run s =
      let new_marks = with_item run (mark_of s) marks in
      let new_hosts = with_item run (host_of s) hosts in
      let old = states_of marks hosts tags in
      let old_long = states_long marks hosts tags in
      let marks_long = items_long run (mark_of s) marks within in
      let new_long = states_long (with_item run (mark_of s) marks) (with_item run (host_of s) hosts) (tags_with run s tags) in
      let room : run.first + run.count ≤ length (states_of marks hosts tags) = omega (arith, old_long, within) in
      ext_get_or Dirty (states_of (with_item run (mark_of s) marks) (with_item run (host_of s) hosts) (tags_with run s tags)) (with_run (states_of marks hosts tags) run s)
      (new_long ∙ marks_long ∙ sym old_long ∙ sym (items_long run s (states_of marks hosts tags) room))
      (λ g below.
      let known : g < length marks = omega (arith, below, new_long, marks_long) in
      state_told (with_item run (mark_of s) marks) (with_item run (host_of s) hosts) (tags_with run s tags) g Dirty (omega (arith, known, marks_long))
      ∙ all_told s g
      ∙ ap (cond (has_granule run g) s) (sym (state_told marks hosts tags g Dirty known))
      ∙ sym (state_after_run (states_of marks hosts tags) run s room g Dirty))

-- what a change of a run leaves of what is kept
pub still_kept : (marks hosts : List ℕ) (tags : List Tag) (run : Run) (s : GranuleState) → AreKept marks hosts tags → run.first + run.count ≤ length marks
    → AreKept (with_item run (mark_of s) marks) (with_item run (host_of s) hosts) (tags_with run s tags)
still_kept marks hosts tags run s kept within =
    let marks_are = items_long run (mark_of s) marks within in
    let states = states_with_run marks hosts tags run kept.hosts_long kept.tags_long within s in
    record {
      hosts_long = omega (arith, items_long run (host_of s) hosts (omega (arith, kept.hosts_long, within)), marks_are, kept.hosts_long);
      tags_long = omega (arith, tags_long run s tags (omega (arith, kept.tags_long, within)), marks_are, kept.tags_long);
      marked = still_marked (states_of marks hosts tags) _ marks _ run s kept.marked states
          (omega (arith, states_long (with_item run (mark_of s) marks) (with_item run (host_of s) hosts) (tags_with run s tags), marks_are, states_long marks hosts tags)) refl;
    }

-- what is kept of granules that are all free
pub all_free : (n : ℕ) → states_of (replicate n 0) (replicate n 0) (replicate n zero_tag) ≡ replicate n Free
all_free n =
    let marks_are = length-replicate n 0 in
    let long = states_long (replicate n 0) (replicate n 0) (replicate n zero_tag) in
    ext_get_or Dirty (states_of (replicate n 0) (replicate n 0) (replicate n zero_tag)) (replicate n Free)
    (long ∙ marks_are ∙ sym (length-replicate n Free))
    (λ g below.
    let known : g < n = omega (arith, below, long, marks_are) in
    state_told (replicate n 0) (replicate n 0) (replicate n zero_tag) g Dirty (omega (arith, known, marks_are))
    ∙ ap (λ m. told m (get_or (replicate n 0) g 0) (get_or (replicate n zero_tag) g zero_tag)) (get_or-replicate n g 0 0 known)
    ∙ sym (get_or-replicate n g Free Dirty known))

pub free_kept : (n : ℕ) → n < 2 ^ 32 → AreKept (replicate n 0) (replicate n 0) (replicate n zero_tag)
free_kept n few =
    let marks_are = length-replicate n 0 in
    record {
      hosts_long = refl;
      tags_long = length-replicate n zero_tag ∙ sym marks_are;
      marked = record {
        few = omega (arith, states_long (replicate n 0) (replicate n 0) (replicate n zero_tag), marks_are, few);
        marked = marks_of_one n Free ∙ ap (map mark_of) (sym (all_free n));
      };
    }

-- one granule more is counted
pub counted_one : (p : GranuleState → Bool) (xs : List GranuleState) (i : ℕ) (x : GranuleState) → slice_get xs i ≡ Some x → i < length xs → count_by p (take (i + 1) xs) ≡ count_by p (take i xs) + cond (p x) 1 0
counted_one p xs i x got below =
    ap (count_by p) (take_more xs i x below)
    ∙ sum_by-append (λ s. cond (p s) 1 0) (take i xs) (get_or xs i x ∷ [])
    ∙ ap (λ n. count_by p (take i xs) + n) (sum_by-cons (λ s. cond (p s) 1 0) (get_or xs i x) [] ∙ add-zero _ ∙ ap (λ s. cond (p s) 1 0) (get_or_from_slice_get xs i x x got))

pub one_or_none : (b : Bool) (c : Bool) (n : ℕ) → b ≡ c → cond b n 0 ≡ cond c n 0
one_or_none b c n is = ap (λ d. cond d n 0) is

-- a run of one granule
pub one_replaced : (states : List GranuleState) (g : ℕ) (s : GranuleState) → g < length states → with_run states (record { first = g; count = 1 }) s ≡ set states g s
one_replaced states g s below =
    let here : g + 0 ≡ g = omega arith in
    sym (ap (λ (ss : List GranuleState). set ss g s) (replaced_none states g s)
    ∙ ap (λ n. set (replaced g 0 s states) n s) (sym here)
    ∙ replaced_more states g 0 s (omega (arith, below)))

-- the same of lists that are what a change makes of what was kept
module _ (marks hosts : List ℕ) (tags : List Tag) (run : Run) (s : GranuleState) (kept : AreKept marks hosts tags) (within : run.first + run.count ≤ length marks) (new_marks new_hosts : List ℕ) (new_tags : List Tag)
    (marks_are : new_marks ≡ with_item run (mark_of s) marks) (hosts_are : new_hosts ≡ with_item run (host_of s) hosts) (tags_are : new_tags ≡ tags_with run s tags) where
  pub kept_by : AreKept new_marks new_hosts new_tags
  kept_by =
      subst (λ (ms : List ℕ). AreKept ms new_hosts new_tags) (sym marks_are)
      (subst (λ (hs : List ℕ). AreKept (with_item run (mark_of s) marks) hs new_tags) (sym hosts_are)
      (subst (λ (ts : List Tag). AreKept (with_item run (mark_of s) marks) (with_item run (host_of s) hosts) ts) (sym tags_are)
      (still_kept marks hosts tags run s kept within)))

  pub states_by : states_of new_marks new_hosts new_tags ≡ with_run (states_of marks hosts tags) run s
  states_by =
      ap (λ (ms : List ℕ). states_of ms new_hosts new_tags) marks_are
      ∙ ap (λ (hs : List ℕ). states_of (with_item run (mark_of s) marks) hs new_tags) hosts_are
      ∙ ap (λ (ts : List Tag). states_of (with_item run (mark_of s) marks) (with_item run (host_of s) hosts) ts) tags_are
      ∙ states_with_run marks hosts tags run kept.hosts_long kept.tags_long within s

pub length_by : (marks hosts : List ℕ) (tags : List Tag) (seen : List GranuleState) (run : Run) (m : ℕ) → states_of marks hosts tags ≡ seen → run.first + run.count ≤ length seen
    → (new_marks new_hosts : List ℕ) (new_tags : List Tag) → new_marks ≡ with_item run m marks → length (states_of new_marks new_hosts new_tags) ≡ length seen
length_by marks hosts tags seen run m seen_is within new_marks new_hosts new_tags marks_are =
    let long : length marks ≡ length seen = sym (states_long marks hosts tags) ∙ ap (λ (ss : List GranuleState). length ss) seen_is in
    states_long new_marks new_hosts new_tags ∙ ap (λ (ms : List ℕ). length ms) marks_are ∙ items_long run m marks (omega (arith, long, within)) ∙ long

-- an item that was read, whatever stands past the last
pub item_read : {X : Type 0} (xs : List X) (i : ℕ) (x d : X) → i < length xs → x ≡ get_or xs i x → x ≡ get_or xs i d
item_read xs i x d below is = sym (get_or_from_slice_get xs i x d (slice_get_read xs (length xs) i x refl below is))
