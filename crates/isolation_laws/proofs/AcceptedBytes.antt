-- An address that a host may use it could use before, or has just accepted.
use Rattle.std.proofs.Common.{◌≡◌, ◌⊎◌, ℕ, ◌+◌, ◌-◌, ◌<◌, ◌≤◌, Bool, true, false, ◌&&◌, ◌||◌, List, [], ◌∷◌, ◌++◌, length, inl, inr, refl, sym, ap, ◌∙◌, arith, leb, ltb}
use Rattle.std.{specs.Prelude.fold, specs.Prelude.nat_lt, specs.Prelude.◌==◌, specs.Prelude.if◌then◌else◌, specs.List.list_all, specs.List.list_any, proofs.lemmas.List.Folds.list_any-append}
use Rattle.std.proofs.lemmas.Bool.{and_from, and_parts, cases_Bool, false≢true, le-leb, leb-true, lt-ltb, ltb-true, or_left, or_right}
use Rattle.dcd_base.specs.declared.{capacity.Extent.Extent, ids.HostId.HostId}
use Rattle.event_records.specs.declared.events.EventKind.{EventKind}
use Rattle.extent_list.specs.ExtentLists.{cut, cut_all, has_range, lies_in, piece, without}
use Rattle.extent_list.specs.media_map.specs.{Places.bytes_of_run, Places.start_of, region_config.specs.Configurations.Configuration}
use Rattle.extent_list.specs.media_map.specs.region_config.specs.Granules.{is_supported, region_spec}
use Rattle.journal_core.specs.declared.outcome.Effect.{Effect}
use Rattle.device_rules.specs.{Hosts.accepted_after, Outcomes.no_extent, Outcomes.record_for, Views.View}
use Rattle.isolation_laws.{specs.Solo.accepts_byte, specs.Solo.has_byte, specs.Solo.solo_after, specs.Solo.with_log_records, specs.declared.items.Item.Item, proofs.BroughtItems.is_brought}

pub or_either : (x y : Bool) → (x || y) ≡ true → (x ≡ true) ⊎ (y ≡ true)
or_either true y some = inl refl
or_either false y some = inr some

module _ (d : ℕ) where
  abbrev has : List Extent → Bool
  has xs = list_any (has_byte d) xs

  -- what lies in an extent has addresses of it alone
  pub within_has : (x y : Extent) → lies_in x y ≡ true → has_byte d x ≡ true → has_byte d y ≡ true
  within_has x y inside here =
      let p = and_parts (leb y.start x.start) (leb (x.start + x.length) (y.start + y.length)) inside in
      let q = and_parts (leb x.start d) (ltb d (x.start + x.length)) here in
      and_from (leb y.start d) (ltb d (y.start + y.length))
      (le-leb y.start d (omega (arith, leb-true _ _ p.0, leb-true _ _ q.0)))
      (lt-ltb d (y.start + y.length) (omega (arith, leb-true _ _ p.1, ltb-true _ _ q.1)))

  -- ---- what is left of a list has no more

  has_piece : (x : Extent) (from to : ℕ) → x.start ≤ from → to ≤ x.start + x.length → list_any (has_byte d) (piece x from to) ≡ true → has_byte d x ≡ true
  has_piece x from to low high some = by (nat_lt from to) refl some
    where
      by : (b : Bool) → nat_lt from to ≡ b → list_any (has_byte d) (if b then record x { start = from; length = to - from } ∷ [] else []) ≡ true → has_byte d x ≡ true
      by false is some = absurd (false≢true some)
      by true is some =
          let y : Extent = record x { start = from; length = to - from } in
          let less : from < to = ltb-true from to is in
          let here : has_byte d y ≡ true = elim (or_either (has_byte d y) false some) [
            | inl it ↦ it
            | inr none ↦ absurd (false≢true none)
          ] in
          within_has y x (and_from (leb x.start from) (leb (from + (to - from)) (x.start + x.length)) (le-leb x.start from low) (le-leb (from + (to - from)) (x.start + x.length) (omega (arith, less, high)))) here

  has_rest : (x : Extent) (start bytes : ℕ) → has_range start bytes x ≡ true → list_any (has_byte d) (without x start bytes) ≡ true → has_byte d x ≡ true
  has_rest x start bytes inside some =
      let p = and_parts (leb x.start start) (leb (start + bytes) (x.start + x.length)) inside in
      let low : x.start ≤ start = leb-true _ _ p.0 in
      let high : start + bytes ≤ x.start + x.length = leb-true _ _ p.1 in
      elim (or_either (has (piece x x.start start)) (has (piece x (start + bytes) (x.start + x.length)))
      (sym (list_any-append (has_byte d) (piece x x.start start) (piece x (start + bytes) (x.start + x.length))) ∙ some)) [
        | inl lower ↦ has_piece x x.start start (omega arith) (omega (arith, high)) lower
        | inr upper ↦ has_piece x (start + bytes) (x.start + x.length) (omega (arith, low)) (omega arith) upper
      ]

  has_cut : (start bytes : ℕ) (xs : List Extent) → list_any (has_byte d) (cut start bytes xs) ≡ true → list_any (has_byte d) xs ≡ true
  has_cut start bytes [] some = some
  has_cut start bytes (x ∷ xs) some = elim (cases_Bool (has_range start bytes x)) [
    | inl is ↦ (let left : list_any (has_byte d) (without x start bytes ++ xs) ≡ true = sym (ap (λ b. list_any (has_byte d) (if b then without x start bytes ++ xs else x ∷ cut start bytes xs)) is) ∙ some in
        elim (or_either (has (without x start bytes)) (has xs) (sym (list_any-append (has_byte d) (without x start bytes) xs) ∙ left)) [
          | inl here ↦ or_left (has_byte d x) (has xs) (has_rest x start bytes is here)
          | inr later ↦ or_right (has_byte d x) (has xs) later
        ])
    | inr other ↦ (let left : (has_byte d x || list_any (has_byte d) (cut start bytes xs)) ≡ true = sym (ap (λ b. list_any (has_byte d) (if b then without x start bytes ++ xs else x ∷ cut start bytes xs)) other) ∙ some in
        elim (or_either (has_byte d x) (has (cut start bytes xs)) left) [
          | inl here ↦ or_left (has_byte d x) (has xs) here
          | inr later ↦ or_right (has_byte d x) (has xs) (has_cut start bytes xs later)
        ])
  ]

  has_cuts : (list xs : List Extent) → list_any (has_byte d) (cut_all list xs) ≡ true → list_any (has_byte d) xs ≡ true
  has_cuts [] xs some = some
  has_cuts (x ∷ list) xs some = has_cut x.start x.length xs (has_cuts list (cut x.start x.length xs) some)

  -- ---- what others bring gives no address

  one_brought : (c : Configuration) (h : HostId) (v : View) (item : Item) → is_brought item ≡ true → list_any (has_byte d) (solo_after c h v item).accepted ≡ true → list_any (has_byte d) v.accepted ≡ true
  one_brought c h v (Item.Own act) brought some = absurd (false≢true brought)
  one_brought c h v (Item.Given xs) brought some = some
  one_brought c h v (Item.Asked xs) brought some = some
  one_brought c h v (Item.Taken xs) brought some = has_cuts xs v.accepted some
  one_brought c h v (Item.Block r size) brought some = by (nat_lt r (length c.regions) && is_supported (region_spec c r) size) some
    where
      by : (b : Bool) → list_any (has_byte d) (if b then with_log_records (record v { block = λ s. if s == r then size else v.block s }) (record (record_for h v EventKind.RegionUpdated false no_extent) { region = r } ∷ []) else v).accepted ≡ true → list_any (has_byte d) v.accepted ≡ true
      by true some = some
      by false some = some

  pub brought_has : (c : Configuration) (h : HostId) (v : View) (items : List Item) → list_all is_brought items ≡ true → list_any (has_byte d) (fold (solo_after c h) v items).accepted ≡ true → list_any (has_byte d) v.accepted ≡ true
  brought_has c h v [] all some = some
  brought_has c h v (item ∷ items) all some =
      let parts = and_parts (is_brought item) (list_all is_brought items) all in
      one_brought c h v item parts.0 (brought_has c h (solo_after c h v item) items parts.1 some)

  -- ---- its own changes give those that they accept

  one_change : (c : Configuration) (h : HostId) (xs : List Extent) (e : Effect) → list_any (has_byte d) (accepted_after c h xs e) ≡ true → (list_any (has_byte d) xs ≡ true) ⊎ (accepts_byte d e ≡ true)
  one_change c h xs (Effect.Answer k ys) some = by (k == h) some
    where
      by : (b : Bool) → list_any (has_byte d) (if b then xs ++ ys else xs) ≡ true → (list_any (has_byte d) xs ≡ true) ⊎ (list_any (has_byte d) ys ≡ true)
      by true some = or_either (has xs) (has ys) (sym (list_any-append (has_byte d) xs ys) ∙ some)
      by false some = inl some
  one_change c h xs (Effect.Leave k run) some = by (k == h) some
    where
      by : (b : Bool) → list_any (has_byte d) (if b then cut (start_of c h run) (bytes_of_run c run) xs else xs) ≡ true → (list_any (has_byte d) xs ≡ true) ⊎ (false ≡ true)
      by true some = inl (has_cut (start_of c h run) (bytes_of_run c run) xs some)
      by false some = inl some
  one_change c h xs e some = inl some

  pub changes_have : (c : Configuration) (h : HostId) (xs : List Extent) (new : List Effect) → list_any (has_byte d) (fold (accepted_after c h) xs new) ≡ true →
      (list_any (has_byte d) xs ≡ true) ⊎ (list_any (accepts_byte d) new ≡ true)
  changes_have c h xs [] some = inl some
  changes_have c h xs (e ∷ new) some = elim (changes_have c h (accepted_after c h xs e) new some) [
    | inr later ↦ inr (or_right (accepts_byte d e) (list_any (accepts_byte d) new) later)
    | inl here ↦ elim (one_change c h xs e here) [
      | inl was ↦ inl was
      | inr now ↦ inr (or_left (accepts_byte d e) (list_any (accepts_byte d) new) now)
    ]
  ]
