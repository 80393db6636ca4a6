-- The table of open tags is right after each effect that is no offer, whatever the journal.
use Rattle.std.proofs.Common.{◌≡◌, ℕ, ◌<◌, Bool, true, false, ◌||◌, not, ◌+◌, ◌-◌, List, [], ◌∷◌, ◌++◌, None, drop, length, ltb, map, append_assoc, append-nil, inl, inr, refl, sym, ap, subst, ◌∙◌}
use Rattle.std.proofs.lemmas.{Bool.and_parts, Bool.cases_Bool, Bool.eq-eqb, Bool.false≢true, Bool.or_parts, List.Folds.list_any-append, List.Sums.fold-append}
use Rattle.std.specs.{List.AllByRecursion, List.list_all, List.list_any, Prelude.filter, Prelude.find, Prelude.if◌then◌else◌, Prelude.option_to_list}
use Rattle.cci_codec.specs.dcd_base.specs.{Words.has_tag, Words.same_tag, declared.capacity.Extent.Extent, declared.capacity.Tag.Tag, declared.ids.HostId.HostId, declared.media.Run.Run}
use Rattle.extent_list.specs.{ExtentLists.cut, ExtentLists.has_extent_of, ExtentLists.has_range, ExtentLists.piece, HostLists.Lists}
use Rattle.extent_list.specs.media_map.specs.{Places.bytes_of_run, Places.start_of, region_config.specs.Configurations.Configuration}
use Rattle.journal_core.specs.declared.outcome.Effect.{Effect}
use Rattle.offer_core.specs.Offerings.{oldest_of}
use Rattle.tag_refs.specs.{Tables.entries_changed, Tables.entries_without, Tables.is_entry_of, Tables.set_by, Tables.with_reference, declared.entries.TagEntry.TagEntry}
use Rattle.device_rules.proofs.{HostBits.host_bits-same, HostBits.set_by-twice, HostOfTagsSet.Told, HostOfTagsSet.tell, HostOfTagsSet.tell_tag, HostOfTagsSet.told_entry, Pictures.picture-append}
use Rattle.device_rules.proofs.{QuietSteps.table_left, SettledTags.mapped, TagEntries.entry-moved, TagSteps.same_tag-back, TagSteps.same_tag-is}
use Rattle.device_rules.specs.{Hosts.accepted_after, Hosts.accepted_of, Hosts.offers_after, Hosts.offers_of, Pictures.Picture, Pictures.picture_after, Pictures.picture_of}
use Rattle.device_rules.specs.TagTable.{IsEntry, IsTable}
use Rattle.device_rules.specs.Tags.{is_accepted_by, is_offered_to, is_referenced, last_offer, last_offer_after, open_tags, reference_after, tag_region, tag_runs, tags_after}
use Rattle.device_state.specs.EnteredLists.{all_lists_by, each_tag, lists_by, table_by, tag_left, tags_over, told}
use Rattle.device_state.specs.Updates.{IsOfDevice}

-- ---- tags among extents

or_none : (a b : Bool) → b ≡ false → (a || b) ≡ a
or_none true b none = refl
or_none false b none = none

has_each : (t : Tag) (xs : List Extent) → has_extent_of t xs ≡ has_tag (each_tag xs) t
has_each t [] = refl
has_each t (x ∷ xs) = λ i. same_tag-back x.tag t i || has_each t xs i

none_of_piece : (t : Tag) (x : Extent) (from to : ℕ) (ys : List Extent) → same_tag x.tag t ≡ false → has_extent_of t (piece x from to ++ ys) ≡ has_extent_of t ys
none_of_piece t x from to ys other = by (ltb from to)
  where
    by : (b : Bool) → has_extent_of t ((if b then record x { start = from; length = to - from } ∷ [] else []) ++ ys) ≡ has_extent_of t ys
    by true = ap (λ b. b || has_extent_of t ys) other
    by false = refl

-- what is cut changes one tag at most
cut_keeps : (t : Tag) (s n : ℕ) (xs : List Extent) → has_tag (each_tag (option_to_list (find (has_range s n) xs))) t ≡ false → has_extent_of t (cut s n xs) ≡ has_extent_of t xs
cut_keeps t s n [] untold = refl
cut_keeps t s n (x ∷ xs) untold = by (has_range s n x) refl (cut_keeps t s n xs)
  where
    by : (b : Bool) → has_range s n x ≡ b → (has_tag (each_tag (option_to_list (find (has_range s n) xs))) t ≡ false → has_extent_of t (cut s n xs) ≡ has_extent_of t xs) →
        has_extent_of t (cut s n (x ∷ xs)) ≡ has_extent_of t (x ∷ xs)
    by true here rest =
        let other : same_tag x.tag t ≡ false = same_tag-back x.tag t ∙ (or_parts (same_tag t x.tag) false (rw here at untold)).0 in
        rw here (ap (has_extent_of t) (append_assoc (piece x x.start s) (piece x (s + n) (x.start + x.length)) xs)
        ∙ none_of_piece t x x.start s (piece x (s + n) (x.start + x.length) ++ xs) other
        ∙ none_of_piece t x (s + n) (x.start + x.length) xs other
        ∙ sym (ap (λ b. b || has_extent_of t xs) other))
    by false elsewhere rest = rw elsewhere (ap (λ b. same_tag x.tag t || b) (rest (rw elsewhere at untold)))

-- ---- what is told tag by tag is told at once

module _ (h : HostId) (held offered : Tag → Bool) where
  step : List TagEntry → Tag → List TagEntry
  step now t = entries_changed t (set_by h (held t) (offered t)) now

  one : (t : Tag) (ts : List Tag) (e : TagEntry) → tell h held offered ts (if is_entry_of t e then set_by h (held t) (offered t) e else e) ≡ tell h held offered (t ∷ ts) e
  one t ts e = by (same_tag t e.tag) refl
    where
      set : TagEntry
      set = set_by h (held e.tag) (offered e.tag) e

      again : (b : Bool) → (if b then set_by h (held e.tag) (offered e.tag) set else set) ≡ set
      again true = set_by-twice h (held e.tag) (offered e.tag) e
      again false = refl

      by : (b : Bool) → same_tag t e.tag ≡ b → tell h held offered ts (if b then set_by h (held t) (offered t) e else e) ≡ tell h held offered (t ∷ ts) e
      by true here =
          ap (λ u. tell h held offered ts (set_by h (held u) (offered u) e)) (same_tag-is t e.tag here)
          ∙ again (has_tag ts e.tag)
          ∙ sym (ap (λ b. if b || has_tag ts e.tag then set else e) (same_tag-back e.tag t ∙ here))
      by false other = sym (ap (λ b. if b || has_tag ts e.tag then set else e) (same_tag-back e.tag t ∙ other))

  all_one : (t : Tag) (ts : List Tag) (entries : List TagEntry) → map (tell h held offered ts) (entries_changed t (set_by h (held t) (offered t)) entries) ≡ map (tell h held offered (t ∷ ts)) entries
  all_one t ts [] = refl
  all_one t ts (e ∷ entries) = λ i. one t ts e i ∷ all_one t ts entries i

  none_told : (entries : List TagEntry) → entries ≡ map (tell h held offered []) entries
  none_told [] = refl
  none_told (e ∷ entries) = ap (λ rest. e ∷ rest) (none_told entries)

pub told_map : (h : HostId) (l : Lists) (ts : List Tag) (entries : List TagEntry) →
    told h l ts entries ≡ map (tell h (λ t. has_extent_of t l.accepted) (λ t. list_any (has_extent_of t) l.offers) ts) entries
told_map h l [] entries = none_told h (λ t. has_extent_of t l.accepted) (λ t. list_any (has_extent_of t) l.offers) entries
told_map h l (t ∷ ts) entries =
    told_map h l ts (entries_changed t (set_by h (has_extent_of t l.accepted) (list_any (has_extent_of t) l.offers)) entries)
    ∙ all_one h (λ t. has_extent_of t l.accepted) (λ t. list_any (has_extent_of t) l.offers) t ts entries

-- whether the effect is another than an offer
abbrev pub is_no_offer : Effect → Bool
is_no_offer (Effect.Offer h xs) = false
is_no_offer e = true

-- ---- lists that are those of the effects so far

pub record Agree (c : Configuration) (past : List Effect) (lists : HostId → Lists) : Type 0 where
  pub accepted : (h : HostId) → h < c.hosts → (lists h).accepted ≡ accepted_of c h past
  pub offers : (h : HostId) → h < c.hosts → (lists h).offers ≡ offers_of h past

pub agree_by : (c : Configuration) (past : List Effect) (lists : HostId → Lists) (e : Effect) → Agree c past lists → Agree c (past ++ e ∷ []) (all_lists_by c lists e)
agree_by c past lists e a = record {
  accepted = λ h host. ap (λ xs. accepted_after c h xs e) (a.accepted h host) ∙ sym (fold-append (accepted_after c h) [] past (e ∷ []));
  offers = λ h host. ap (λ os. offers_after h os e) (a.offers h host) ∙ sym (fold-append (offers_after h) [] past (e ∷ []));
}

-- ---- one effect

module _ (c : Configuration) (past : List Effect) (lists : HostId → Lists) (a : Agree c past lists) (entries : List TagEntry) (table : IsTable c past entries) where
  abbrev p : Picture
  p = picture_of c past

  -- what a host has of some tags is told
  pub told_right : (h : HostId) → h < c.hosts → (e : Effect) (ts : List Tag) → Told c h ts (picture_of c past) (picture_of c (past ++ e ∷ [])) →
      open_tags c (past ++ e ∷ []) ≡ open_tags c past → IsTable c (past ++ e ∷ []) (told h (lists_by c h (lists h) e) ts entries)
  told_right h host e ts there tags =
      let now = agree_by c past lists e a in
      let l : Lists = lists_by c h (lists h) e in
      subst (IsTable c (past ++ e ∷ [])) (sym (told_map h l ts entries))
      (mapped c past (past ++ e ∷ []) entries (tell h (λ t. has_extent_of t l.accepted) (λ t. list_any (has_extent_of t) l.offers) ts)
      (tell_tag h (λ t. has_extent_of t l.accepted) (λ t. list_any (has_extent_of t) l.offers) ts) tags table
      (told_entry c past (e ∷ []) h host ts there (λ t. has_extent_of t l.accepted) (λ t. list_any (has_extent_of t) l.offers)
      (λ t is_told. ap (has_extent_of t) (now.accepted h host)) (λ t is_told. ap (list_any (has_extent_of t)) (now.offers h host))))

  after : {h : HostId} {ts : List Tag} (e : Effect) → Told c h ts (picture_of c past) (picture_after c (picture_of c past) (e ∷ [])) → Told c h ts (picture_of c past) (picture_of c (past ++ e ∷ []))
  after {h = h} {ts = ts} e r = subst (Told c h ts (picture_of c past)) (sym (picture-append c past (e ∷ []))) r

  pub answer_right : (h : HostId) → h < c.hosts → (xs : List Extent) → IsTable c (past ++ Effect.Answer h xs ∷ []) (table_by c lists entries (Effect.Answer h xs))
  answer_right h host xs =
      told_right h host (Effect.Answer h xs) (each_tag (oldest_of (lists h).offers) ++ each_tag xs) (after (Effect.Answer h xs) (record {
        region = λ t open_tag. refl;
        runs = λ t open_tag. refl;
        referenced = λ t. refl;
        accepted_others = λ k other. ap (λ b. if b then p.accepted k ++ xs else p.accepted k) other;
        offers_others = λ k other. ap (λ b. if b then drop 1 (p.offers k) else p.offers k) other;
        accepted_kept = λ t open_tag untold.
            ap (λ b. has_extent_of t (if b then p.accepted h ++ xs else p.accepted h)) (eq-eqb h h refl)
            ∙ list_any-append (λ x. same_tag x.tag t) (p.accepted h) xs
            ∙ or_none (has_extent_of t (p.accepted h)) (has_extent_of t xs) (has_each t xs ∙ (untold_parts t untold).1);
        offers_kept = λ t open_tag untold.
            ap (λ b. list_any (has_extent_of t) (if b then drop 1 (p.offers h) else p.offers h)) (eq-eqb h h refl)
            ∙ later t (p.offers h) (ap (λ os. has_extent_of t (oldest_of os)) (sym (a.offers h host)) ∙ has_each t (oldest_of (lists h).offers) ∙ (untold_parts t untold).0);
      })) (fold-append (tags_after c) [] past (Effect.Answer h xs ∷ []))
    where
      untold_parts : (t : Tag) → has_tag (each_tag (oldest_of (lists h).offers) ++ each_tag xs) t ≡ false →
          (has_tag (each_tag (oldest_of (lists h).offers)) t ≡ false) × (has_tag (each_tag xs) t ≡ false)
      untold_parts t untold =
          or_parts (has_tag (each_tag (oldest_of (lists h).offers)) t) (has_tag (each_tag xs) t)
          (sym (list_any-append (same_tag t) (each_tag (oldest_of (lists h).offers)) (each_tag xs)) ∙ untold)

      later : (t : Tag) (os : List (List Extent)) → has_extent_of t (oldest_of os) ≡ false → list_any (has_extent_of t) (drop 1 os) ≡ list_any (has_extent_of t) os
      later t [] none = refl
      later t (o ∷ os) none = sym (ap (λ b. b || list_any (has_extent_of t) os) none)

  pub leave_right : (h : HostId) → h < c.hosts → (run : Run) → IsTable c (past ++ Effect.Leave h run ∷ []) (table_by c lists entries (Effect.Leave h run))
  leave_right h host run =
      told_right h host (Effect.Leave h run) (tag_left c h run (lists h).accepted) (after (Effect.Leave h run) (record {
        region = λ t open_tag. refl;
        runs = λ t open_tag. refl;
        referenced = λ t. refl;
        accepted_others = λ k other. ap (λ b. if b then cut (start_of c k run) (bytes_of_run c run) (p.accepted k) else p.accepted k) other;
        offers_others = λ k other. refl;
        accepted_kept = λ t open_tag untold.
            ap (λ b. has_extent_of t (if b then cut (start_of c h run) (bytes_of_run c run) (p.accepted h) else p.accepted h)) (eq-eqb h h refl)
            ∙ cut_keeps t (start_of c h run) (bytes_of_run c run) (p.accepted h) (ap (λ xs. has_tag (tag_left c h run xs) t) (sym (a.accepted h host)) ∙ untold);
        offers_kept = λ t open_tag untold. refl;
      })) (fold-append (tags_after c) [] past (Effect.Leave h run ∷ []))

  -- ---- references and ends

  pub reference_right : (t : Tag) (on : Bool) → IsTable c (past ++ Effect.Ref t on ∷ []) (table_by c lists entries (Effect.Ref t on))
  reference_right t on =
      mapped c past (past ++ Effect.Ref t on ∷ []) entries (λ e. if is_entry_of t e then with_reference on e else e) (λ e. tag_is (is_entry_of t e) e)
      (fold-append (tags_after c) [] past (Effect.Ref t on ∷ [])) table (λ e open_tag is. by e is (same_tag t e.tag) refl)
    where
      tag_is : (b : Bool) (e : TagEntry) → (if b then with_reference on e else e).tag ≡ e.tag
      tag_is true e = refl
      tag_is false e = refl

      now : (e : TagEntry) → is_referenced e.tag (past ++ Effect.Ref t on ∷ []) ≡ (if same_tag t e.tag then on else is_referenced e.tag past)
      now e = fold-append (reference_after e.tag) false past (Effect.Ref t on ∷ [])

      region : (e : TagEntry) → tag_region c (last_offer e.tag (past ++ Effect.Ref t on ∷ [])) ≡ tag_region c (last_offer e.tag past)
      region e = ap (tag_region c) (fold-append (last_offer_after e.tag) None past (Effect.Ref t on ∷ []))

      runs : (e : TagEntry) → tag_runs c (last_offer e.tag (past ++ Effect.Ref t on ∷ [])) ≡ tag_runs c (last_offer e.tag past)
      runs e = ap (tag_runs c) (fold-append (last_offer_after e.tag) None past (Effect.Ref t on ∷ []))

      accepted : (e : TagEntry) (k : HostId) → is_accepted_by c e.tag (past ++ Effect.Ref t on ∷ []) k ≡ is_accepted_by c e.tag past k
      accepted e k = ap (has_extent_of e.tag) (fold-append (accepted_after c k) [] past (Effect.Ref t on ∷ []))

      offered : (e : TagEntry) (k : HostId) → is_offered_to e.tag (past ++ Effect.Ref t on ∷ []) k ≡ is_offered_to e.tag past k
      offered e k = ap (list_any (has_extent_of e.tag)) (fold-append (offers_after k) [] past (Effect.Ref t on ∷ []))

      by : (e : TagEntry) → IsEntry c past e → (b : Bool) → same_tag t e.tag ≡ b → IsEntry c (past ++ Effect.Ref t on ∷ []) (if b then with_reference on e else e)
      by e is true here = record {
        region_is = is.region_is ∙ sym (region e);
        runs_are = is.runs_are ∙ sym (runs e);
        holders_are = is.holders_are ∙ sym (host_bits-same c (is_accepted_by c e.tag past) (is_accepted_by c e.tag (past ++ Effect.Ref t on ∷ [])) (accepted e));
        offered_are = is.offered_are ∙ sym (host_bits-same c (is_offered_to e.tag past) (is_offered_to e.tag (past ++ Effect.Ref t on ∷ [])) (offered e));
        referenced_is = sym (now e ∙ ap (λ b. if b then on else is_referenced e.tag past) here);
      }
      by e is false other = entry-moved c past (past ++ Effect.Ref t on ∷ []) e (region e) (runs e) (accepted e) (offered e)
          (now e ∙ ap (λ b. if b then on else is_referenced e.tag past) other) is

  pub end_right : (t : Tag) → IsTable c (past ++ Effect.TagEnd t ∷ []) (table_by c lists entries (Effect.TagEnd t))
  end_right t = record {
    tags_are = tags entries ∙ ap (filter (λ u. not (same_tag u t))) table.tags_are ∙ sym (fold-append (tags_after c) [] past (Effect.TagEnd t ∷ []));
    each = each_left entries table.each;
  }
    where
      tags : (es : List TagEntry) → map (λ (e : TagEntry). e.tag) (entries_without t es) ≡ filter (λ u. not (same_tag u t)) (map (λ (e : TagEntry). e.tag) es)
      tags [] = refl
      tags (e ∷ es) = elim (cases_Bool (same_tag t e.tag)) [
        | inl here ↦ rw (here, same_tag-back e.tag t ∙ here) (tags es)
        | inr other ↦ rw (other, same_tag-back e.tag t ∙ other) (ap (λ us. e.tag ∷ us) (tags es))
      ]

      moved : (e : TagEntry) → IsEntry c past e → IsEntry c (past ++ Effect.TagEnd t ∷ []) e
      moved e = entry-moved c past (past ++ Effect.TagEnd t ∷ []) e
          (ap (tag_region c) (fold-append (last_offer_after e.tag) None past (Effect.TagEnd t ∷ [])))
          (ap (tag_runs c) (fold-append (last_offer_after e.tag) None past (Effect.TagEnd t ∷ [])))
          (λ k. ap (has_extent_of e.tag) (fold-append (accepted_after c k) [] past (Effect.TagEnd t ∷ [])))
          (λ k. ap (list_any (has_extent_of e.tag)) (fold-append (offers_after k) [] past (Effect.TagEnd t ∷ [])))
          (fold-append (reference_after e.tag) false past (Effect.TagEnd t ∷ []))

      each_left : (es : List TagEntry) → AllByRecursion (IsEntry c past) es → AllByRecursion (IsEntry c (past ++ Effect.TagEnd t ∷ [])) (entries_without t es)
      each_left [] each = tt
      each_left (e ∷ es) each = elim (cases_Bool (same_tag t e.tag)) [
        | inl here ↦ rw here (each_left es each.1)
        | inr other ↦ rw other (moved e each.0, each_left es each.1)
      ]

  -- ---- any but an offer

  pub one_right : (e : Effect) → is_no_offer e ≡ true → IsOfDevice c e → IsTable c (past ++ e ∷ []) (table_by c lists entries e)
  one_right (Effect.Offer h xs) none is = absurd (false≢true none)
  one_right (Effect.Answer h xs) none is = answer_right h is xs
  one_right (Effect.Leave h run) none is = leave_right h is run
  one_right (Effect.Ref t on) none is = reference_right t on
  one_right (Effect.TagEnd t) none is = end_right t
  one_right (Effect.Take h run) none is = table_left c past (Effect.Take h run ∷ []) refl entries table
  one_right (Effect.Zero run) none is = table_left c past (Effect.Zero run ∷ []) refl entries table
  one_right (Effect.Soil run) none is = table_left c past (Effect.Soil run ∷ []) refl entries table
  one_right (Effect.Hold h kind xs) none is = table_left c past (Effect.Hold h kind xs ∷ []) refl entries table
  one_right (Effect.Unhold h kind) none is = table_left c past (Effect.Unhold h kind ∷ []) refl entries table
  one_right (Effect.Logged l event) none is = table_left c past (Effect.Logged l event ∷ []) refl entries table
  one_right (Effect.Missed l) none is = table_left c past (Effect.Missed l ∷ []) refl entries table
  one_right (Effect.Cleared l n) none is = table_left c past (Effect.Cleared l n ∷ []) refl entries table
  one_right (Effect.Reset l) none is = table_left c past (Effect.Reset l ∷ []) refl entries table
  one_right (Effect.Block r size) none is = table_left c past (Effect.Block r size ∷ []) refl entries table

-- ---- more effects

pub all_right : (c : Configuration) (past : List Effect) (lists : HostId → Lists) (entries : List TagEntry) (new : List Effect) →
    list_all is_no_offer new ≡ true → AllByRecursion (IsOfDevice c) new → Agree c past lists → IsTable c past entries → IsTable c (past ++ new) (tags_over c lists entries new)
all_right c past lists entries [] none each a table = subst (λ es. IsTable c es entries) (sym (append-nil past)) table
all_right c past lists entries (e ∷ new) none each a table =
    let parts = and_parts (is_no_offer e) (list_all is_no_offer new) none in
    subst (λ es. IsTable c es (tags_over c (all_lists_by c lists e) (table_by c lists entries e) new)) (append_assoc past (e ∷ []) new)
    (all_right c (past ++ e ∷ []) (all_lists_by c lists e) (table_by c lists entries e) new parts.1 each.1 (agree_by c past lists e a) (one_right c past lists a entries table e parts.0 each.0))
