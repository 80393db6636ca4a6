-- The rule at the start.
use Rattle.std.proofs.Common.{◌≡◌, ◌≢◌, ℕ, zero, suc, ◌+◌, ◌<◌, ◌≤◌, false, List, [], ◌∷◌, map, length, get_or, sym, refl, ap, ◌∙◌, subst, arith, Option, None}
use mathlib.Core.Option.{some, some-injective, some-ne-none}
use lib.ListN.{get_elem?, length-map}
use Rattle.dcd_base.specs.declared.steps.{Stamp.Stamp, Actor.Actor}
use Rattle.journal_core.specs.declared.entries.Entry.{Entry}
use Rattle.ruled_cells.proofs.{BookSteps.rising_none, Order.never, Places.at_below, Places.map_at, RuleSteps.Laws, RuleSteps.same_pending, WholeSteps.gives_first, WholeSteps.alike}
use Rattle.ruled_cells.specs.{Booking.weigh, Booking.own, Booking.weight_one, Booking.weigh_all, Booking.total, Booking.IsBooked, Booking.Whole, Making.fills, Ruling.Names, Ruling.IsShard}
use Rattle.ruled_cells.specs.{Stamps.stamp, Stamps.pending, Telling.fresh_seat, Telling.values, Telling.MayOpen, Turning.HasTurn, Turning.GivesTurn, declared.about.About.About}
use Rattle.ruled_cells.specs.declared.{about.SeatView.SeatView, cell_value.CellValue.CellValue, cell_value.CellValue.TheVariants.First, cell_value.CellValue.TheVariants.Rest}

-- a list of one
single : {A : Type 0} (P : ℕ → A → Type 0) (a : A) → P 0 a → (j : ℕ) (b : A) → get_elem? (a ∷ []) j ≡ some b → P j b
single P a p zero b e = subst (P 0) (some-injective a b e) p
single P a p (suc j) b e = absurd (some-ne-none b (sym e))

module _ {F S : Type 0} (w : Names F S) where
  -- what stands in the row of cells
  values_at : (first : F) (rest : List S) (k : ℕ) (x : S) → get_elem? (values first rest) k ≡ some (Rest x) → (i : ℕ) × (k ≡ suc i) × (get_elem? rest i ≡ some x)
  values_at first rest zero x e = absurd (let q : ◌≡◌ {A = CellValue F S} (First first) (Rest x) = some-injective (First first) (Rest x) e in (cc))
  values_at first rest (suc i) x e = let o = map_at {B = CellValue F S} (λ (y : S). Rest y) rest i (Rest x) e in let q : o.0 ≡ x = (let r = o.2 in cc) in (i, refl, o.1 ∙ ap some q)

  values_row : (first : F) (rest : List S) (k : ℕ) (x : CellValue F S) → 0 < k → get_elem? (values first rest) k ≡ some x → (s : S) × (x ≡ Rest s)
  values_row first rest zero x lt e = absurd (omega (arith, lt))
  values_row first rest (suc i) x lt e = let o = map_at {B = CellValue F S} (λ (y : S). Rest y) rest i x e in (o.0, sym o.2)

  bare_weight : (h : Entry → ℕ) (rest : List S) → ((k : ℕ) (x : S) → get_elem? rest k ≡ some x → w.entries x ≡ []) → weigh_all w h (map {B = CellValue F S} (λ (x : S). Rest x) rest) ≡ 0
  bare_weight h [] bare = refl
  bare_weight h (x ∷ rest) bare = let a = ap (weigh h) (bare 0 x refl) in let b = bare_weight h rest (λ k y e. bare (suc k) y e) in omega (arith, a, b)

  module _ (first : F) (rest : List S) (may : MayOpen w first rest) (words : List ℕ) (wide : length words ≡ length (values first rest) + 1) (ones : (k : ℕ) → k < length (values first rest) → get_or words k 0 ≡ 1)
      (count : get_or words (length (values first rest)) 0 ≡ 0) where
    abbrev about : About
    about = w.about first

    abbrev views : List SeatView
    views = fresh_seat 0 about ∷ []

    nothing : (h : Entry → ℕ) → total w h [] (values first rest) ≡ 0
    nothing h = let a = bare_weight h rest (λ k x e. (may.bare k x e).0) in omega (arith, a)

    bare_shard : (i : ℕ) (x : S) → get_elem? rest i ≡ some x → IsShard w about words (w.journal first) [] None [] (suc i) x
    bare_shard i x e =
        let b = may.bare i x e in
        let none : (k : ℕ) (f : Entry) → get_elem? (w.entries x) k ≡ some f → ⊥ = λ k f h. (let l = at_below [] k f (ap (λ es. get_elem? es k) (sym b.0) ∙ h) in omega (arith, l)) in record {
          config_is = b.2;
          own = λ k f h. absurd (none k f h);
          rise = λ i k f g lt p q. absurd (none i f p);
          tidy = λ k f h _. none k f h;
          low = let n : (w.clock x).number ≡ 0 = ap (λ (z : Stamp). z.number) b.1 in omega (arith, n);
          steady = λ _. b.3;
          late = λ p. never false p refl;
        }

    pub opens_whole : Whole w about words (values first rest) views
    opens_whole = record {
      log = [];
      ruled = record {
        first = first;
        entry = None;
        changed = [];
        log_is = sym may.empty;
        wide = wide;
        chief = refl;
        rest = values_row first rest;
        about_is = refl;
        sound = may.sound;
        whole = first;
        whole_journal = may.empty;
        whole_sound = may.sound;
        control = λ k e h. absurd (let l = at_below [] k e h in omega (arith, l));
        actors = λ k e h. absurd (let l = at_below [] k e h in omega (arith, l));
        count = count;
        at_rest = λ _. refl;
        at_work = single (λ j v. get_or words 0 0 ≡ j + 1 → (v.entry ≡ None) × (v.changed ≡ [])) (fresh_seat 0 about) (λ _. (refl, refl));
        quiet = single (λ j v. get_or words 0 0 ≢ j + 1 → v.entry ≡ None) (fresh_seat 0 about) (λ _. refl);
        shard = λ k x e. let o = values_at first rest k x e in subst (λ (z : ℕ). IsShard w about words (w.journal first) [] None [] z x) (sym o.1) (bare_shard o.0 x o.2);
        informed = single (λ j v. v.spent ≡ false → (v.about ≡ about) × (v.seen.number ≤ 0) × (v.number ≡ j)) (fresh_seat 0 about) (λ _. (refl, omega arith, refl));
      };
      books = record {
        each = single (λ j v. v.spent ≡ false → IsBooked w [] (values first rest) views j v) (fresh_seat 0 about)
            (λ _. record { fits = λ h. sym (nothing (own 0 h)); rising = rising_none (stamp 0 0); kept = λ k i cs e. absurd (let l = at_below [] k (i, cs) e in omega (arith, l)) });
        later = λ j _ h. sym (nothing (own j h));
        few = λ j. let n = nothing (own j weight_one) in omega (arith, n);
      };
      counted = record {
        clocks = λ k x e. let o = values_at first rest k x e in let n : (w.clock x).count ≡ 0 = ap (λ (z : Stamp). z.count) (may.bare o.0 x o.2).1 in omega (arith, n);
        seens = single (λ j v. v.spent ≡ false → v.seen.count ≤ total w weight_one [] (values first rest)) (fresh_seat 0 about) (λ _. omega arith);
      };
    }

  -- ---- filling the cells

  pub fills_first : (about about' : About) (cells id : ℕ) (taken : List (Option (CellValue F S))) (v : SeatView) (f : F) → v ≡ fresh_seat 0 about' → w.sound f → HasTurn taken 0 (First f)
      → (x : CellValue F S) × HasTurn taken 0 x × GivesTurn (Whole w about) cells id taken v 0 x (First f) fills
  fills_first about about' cells id taken v f is sound turn = subst (λ (z : SeatView). (x : CellValue F S) × HasTurn taken 0 x × GivesTurn (Whole w about) cells id taken z 0 x (First f) fills) (sym is)
      (First f, turn, gives_first w about cells id taken (fresh_seat 0 about') f f refl turn record { about_is = refl; sound = sound; journal_is = refl; none_left = λ k pos lt. refl })

  module _ (access : ℕ → ℕ → Actor → S → S → Type 0) (change : Entry → S → S → Type 0) (laws : Laws w access change) where
    fill_cell : (about about' : About) (cells id k : ℕ) (taken : List (Option (CellValue F S))) (x : S) → HasTurn taken k (Rest x) → GivesTurn (Whole w about) cells id taken (fresh_seat 0 about') k (Rest x) (Rest x) fills
    fill_cell about about' cells id k taken x turn words vals views full crowd h has at =
        let v : SeatView = fresh_seat 0 about' in
        let t = has.turn k (Rest x) turn in
        let free : pending w.touches h.ruled.entry h.ruled.changed k ≡ false = same_pending w about h.log words vals views h.ruled id v k x at t.1 t.0 in
        (v, alike w about access change laws id k v x x words vals views refl h at t.1 free record { config_is = refl; entries_are = refl; clock_is = refl; right_too = λ j log r. r }, refl)

    pub fills_cell : (about about' : About) (cells id i : ℕ) (taken : List (Option (CellValue F S))) (v : SeatView) (x : S) → v ≡ fresh_seat 0 about' → HasTurn taken (suc i) (Rest x)
        → (y : CellValue F S) × HasTurn taken (i + 1) y × GivesTurn (Whole w about) cells id taken v (i + 1) y (Rest x) fills
    fills_cell about about' cells id i taken v x is turn = subst (λ (z : SeatView × ℕ). (y : CellValue F S) × HasTurn taken z.1 y × GivesTurn (Whole w about) cells id taken z.0 z.1 y (Rest x) fills)
        (λ c. (sym is c, (let e : suc i ≡ i + 1 = omega arith in e) c)) (Rest x, turn, fill_cell about about' cells id (suc i) taken x turn)

  -- the same, with the number of cells as the code counts them
  pub opens_counted : (cells : ℕ) (first : F) (rest : List S) → cells ≡ length (values first rest) → MayOpen w first rest → (words : List ℕ) → length words ≡ cells + 1 → ((k : ℕ) → k < cells → get_or words k 0 ≡ 1) → get_or words cells 0 ≡ 0
      → Whole w (w.about first) words (values first rest) (fresh_seat 0 (w.about first) ∷ [])
  opens_counted cells first rest is may words = subst (λ (n : ℕ). length words ≡ n + 1 → ((k : ℕ) → k < n → get_or words k 0 ≡ 1) → get_or words n 0 ≡ 0 → Whole w (w.about first) words (values first rest) (fresh_seat 0 (w.about first) ∷ [])) (sym is)
      (opens_whole first rest may words)

  pub count_is : (row : ℕ) (first : F) (rest : List S) → row ≡ length rest → row + 1 ≡ length (values {F = F} first rest)
  count_is row first rest is = let l : length (map {B = CellValue F S} (λ (x : S). Rest x) rest) ≡ length rest = length-map rest (λ (x : S). Rest x) in omega (arith, l, is)
