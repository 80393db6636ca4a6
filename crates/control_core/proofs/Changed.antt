-- The changes of a step are those of its effects.
use Rattle.std.proofs.Common.{◌≡◌, ◌⊎◌, ℕ, ◌+◌, ◌-◌, ◌<◌, ◌≤◌, Bool, true, false, ◌&&◌, ◌||◌, leb, List, [], ◌∷◌, ◌++◌, get_or, Option, Some, None, refl, sym, ap, subst, ◌∙◌, inl, inr, arith}
use Rattle.std.proofs.lemmas.{Bool.and_right, Bool.cases_lt, Bool.le-leb, Bool.le-ltb, Bool.lt-leb, Bool.lt-ltb, List.Elements.All-push, List.Folds.list_any-append, List.Sums.fold_push}
use Rattle.std.specs.{List.list_any, Prelude.All, Prelude.fold, Prelude.if◌then◌else◌}
use Rattle.cci_codec.specs.dcd_base.specs.{Words.has_granule, declared.media.Change.Change, declared.media.Run.Run}
use Rattle.journal_core.specs.declared.outcome.Effect.{Effect}
use Rattle.device_commands.specs.device_rules.specs.{Legal.is_zeroing, ChangedRuns.LiesIn, ChangedRuns.holders_after, ChangedRuns.touches}
use Rattle.control_core.specs.PutChanges.{AreAdded, PutOne, bits_after, bits_by, is_named, is_zero, is_zeroed, lies_between, touched_by}

-- ---- numbers

inside : (first end g : ℕ) → first ≤ g → g < end → lies_between first end g ≡ true
inside first end g from below = rw (le-leb first g from, lt-ltb g end below) refl

before : (first end g : ℕ) → g < first → lies_between first end g ≡ false
before first end g early = rw (lt-leb first g early) refl

behind : (first end g : ℕ) → end ≤ g → lies_between first end g ≡ false
behind first end g past = rw (le-ltb g end past) (and_right (leb first g) false refl)

-- a granule of the next run, or none of it
grows : (first at next g : ℕ) → first ≤ at → at < next →
    (((at ≤ g) × (g < next)) × ((lies_between at next g ≡ true) × (lies_between first next g ≡ true)))
    ⊎ ((lies_between at next g ≡ false) × (lies_between first next g ≡ lies_between first at g))
grows first at next g from later = elim (cases_lt g at) [
  | inl early ↦ inr (before at next g early, by_first early)
  | inr high ↦ elim (cases_lt g next) [
    | inl here ↦ inl ((high, here), (inside at next g high here, inside first next g (omega (arith, from, high)) here))
    | inr past ↦ inr (behind at next g past, behind first next g past ∙ sym (behind first at g high))
  ]
]
  where
    by_first : g < at → lies_between first next g ≡ lies_between first at g
    by_first early = elim (cases_lt g first) [
      | inl low ↦ before first next g low ∙ sym (before first at g low)
      | inr in_it ↦ inside first next g in_it (omega (arith, early, later)) ∙ sym (inside first at g in_it early)
    ]

-- ---- one more change

more_here : (a z b : Bool) → ((a || (z && b)) || ((z && true) || false)) ≡ (a || (z && true))
more_here true z b = refl
more_here false true true = refl
more_here false true false = refl
more_here false false b = refl

more_other : (a z b : Bool) → ((a || (z && b)) || ((z && false) || false)) ≡ (a || (z && b))
more_other true z b = refl
more_other false true true = refl
more_other false true false = refl
more_other false false b = refl

pub added_more : (n : ℕ) (holders : List ℕ) (e : Effect) (first at next : ℕ) (old mid new : List Change) (change : Change) → first ≤ at → at < next →
    AreAdded n holders e first at old mid → new ≡ mid ++ change ∷ [] →
    change ≡ record { run = record { first = at; count = next - at }; holders = bits_by e (get_or holders at 0); zero = is_zero e } →
    ((g : ℕ) → at ≤ g → g < next → get_or holders g 0 ≡ get_or holders at 0) → AreAdded n holders e first next old new
added_more n holders e first at next old mid new change from later so_far pushed change_is same =
    subst (AreAdded n holders e first next old) (sym (pushed ∙ ap (λ one. mid ++ one ∷ []) change_is)) (record { bits = bits; zeroed = zeroed; named = named })
  where
    one : Change
    one = record { run = record { first = at; count = next - at }; holders = bits_by e (get_or holders at 0); zero = is_zero e }

    has : (g : ℕ) → has_granule one.run g ≡ lies_between at next g
    has g = let end : at + (next - at) ≡ next = omega (arith, later) in ap (λ m. lies_between at m g) end

    bits : (g : ℕ) → g < n → (start : ℕ) → fold (holders_after g) start (mid ++ one ∷ [])
        ≡ (if lies_between first next g then bits_by e (get_or holders g 0) else fold (holders_after g) start old)
    bits g below start =
        fold_push (holders_after g) start mid one
        ∙ ap (λ b. if b then bits_by e (get_or holders at 0) else fold (holders_after g) start mid) (has g)
        ∙ elim (grows first at next g from later) [
          | inl here ↦ ap (λ b. if b then bits_by e (get_or holders at 0) else fold (holders_after g) start mid) here.1.0
              ∙ ap (bits_by e) (sym (same g here.0.0 here.0.1))
              ∙ sym (ap (λ b. if b then bits_by e (get_or holders g 0) else fold (holders_after g) start old) here.1.1)
          | inr other ↦ ap (λ b. if b then bits_by e (get_or holders at 0) else fold (holders_after g) start mid) other.0
              ∙ so_far.bits g below start
              ∙ sym (ap (λ b. if b then bits_by e (get_or holders g 0) else fold (holders_after g) start old) other.1)
        ]

    zeroed : (g : ℕ) → g < n → is_zeroed g (mid ++ one ∷ []) ≡ (is_zeroed g old || (is_zero e && lies_between first next g))
    zeroed g below =
        list_any-append (λ (c : Change). c.zero && has_granule c.run g) mid (one ∷ [])
        ∙ (λ i. so_far.zeroed g below i || ((is_zero e && has g i) || false))
        ∙ elim (grows first at next g from later) [
          | inl here ↦ ap (λ b. (is_zeroed g old || (is_zero e && lies_between first at g)) || ((is_zero e && b) || false)) here.1.0
              ∙ more_here (is_zeroed g old) (is_zero e) (lies_between first at g)
              ∙ sym (ap (λ b. is_zeroed g old || (is_zero e && b)) here.1.1)
          | inr other ↦ ap (λ b. (is_zeroed g old || (is_zero e && lies_between first at g)) || ((is_zero e && b) || false)) other.0
              ∙ more_other (is_zeroed g old) (is_zero e) (lies_between first at g)
              ∙ sym (ap (λ b. is_zeroed g old || (is_zero e && b)) other.1)
        ]

    named : (g : ℕ) → g < n → is_named g (mid ++ one ∷ []) ≡ (is_named g old || lies_between first next g)
    named g below =
        list_any-append (λ (c : Change). has_granule c.run g) mid (one ∷ [])
        ∙ (λ i. so_far.named g below i || (has g i || false))
        ∙ elim (grows first at next g from later) [
          | inl here ↦ ap (λ b. (is_named g old || lies_between first at g) || (b || false)) here.1.0
              ∙ more_here (is_named g old) true (lies_between first at g)
              ∙ sym (ap (λ b. is_named g old || b) here.1.1)
          | inr other ↦ ap (λ b. (is_named g old || lies_between first at g) || (b || false)) other.0
              ∙ more_other (is_named g old) true (lies_between first at g)
              ∙ sym (ap (λ b. is_named g old || b) other.1)
        ]

-- one more change of granules that there are
pub inside_more : (n at next : ℕ) (holders : List ℕ) (e : Effect) (mid new : List Change) (change : Change) → at < next → next ≤ n → All (LiesIn n) mid → new ≡ mid ++ change ∷ [] →
    change ≡ record { run = record { first = at; count = next - at }; holders = bits_by e (get_or holders at 0); zero = is_zero e } → All (LiesIn n) new
inside_more n at next holders e mid new change later within all pushed change_is =
    let end : at + (next - at) ≤ n = omega (arith, later, within) in
    subst (All (LiesIn n)) (sym pushed) (All-push (LiesIn n) mid change all (subst (LiesIn n) (sym change_is) end))

-- ---- one more effect

-- whether a run that is there has the granule
abbrev in_some : ℕ → Option Run → Bool
in_some g None = false
in_some g (Some run) = has_granule run g

touches_in : (g : ℕ) (e : Effect) → touches g e ≡ in_some g (touched_by e)
touches_in g (Effect.Take h r) = refl
touches_in g (Effect.Leave h r) = refl
touches_in g (Effect.Zero r) = refl
touches_in g (Effect.Offer h xs) = refl
touches_in g (Effect.Answer h xs) = refl
touches_in g (Effect.Soil r) = refl
touches_in g (Effect.Hold h kind xs) = refl
touches_in g (Effect.Unhold h kind) = refl
touches_in g (Effect.Logged l event) = refl
touches_in g (Effect.Missed l) = refl
touches_in g (Effect.Cleared l n) = refl
touches_in g (Effect.Reset l) = refl
touches_in g (Effect.Ref t on) = refl
touches_in g (Effect.TagEnd t) = refl
touches_in g (Effect.Block r size) = refl

zeroing_is : (g : ℕ) (e : Effect) → is_zeroing g e ≡ (is_zero e && touches g e)
zeroing_is g (Effect.Take h r) = refl
zeroing_is g (Effect.Leave h r) = refl
zeroing_is g (Effect.Zero r) = refl
zeroing_is g (Effect.Offer h xs) = refl
zeroing_is g (Effect.Answer h xs) = refl
zeroing_is g (Effect.Soil r) = refl
zeroing_is g (Effect.Hold h kind xs) = refl
zeroing_is g (Effect.Unhold h kind) = refl
zeroing_is g (Effect.Logged l event) = refl
zeroing_is g (Effect.Missed l) = refl
zeroing_is g (Effect.Cleared l n) = refl
zeroing_is g (Effect.Reset l) = refl
zeroing_is g (Effect.Ref t on) = refl
zeroing_is g (Effect.TagEnd t) = refl
zeroing_is g (Effect.Block r size) = refl

touches_none : (g : ℕ) (e : Effect) → touched_by e ≡ None → touches g e ≡ false
touches_none g e is = touches_in g e ∙ ap (in_some g) is

pub put_none : (n : ℕ) (holders : List ℕ) (e : Effect) (old : List Change) → touched_by e ≡ None → PutOne n holders e old old
put_none n holders e old is = λ effects put. record {
  bits = λ g below bits.
      put.bits g below bits
      ∙ sym (fold_push (bits_after holders g) bits effects e ∙ ap (λ b. if b then bits_by e (get_or holders g 0) else fold (bits_after holders g) bits effects) (touches_none g e is));
  zeroed = λ g below.
      put.zeroed g below
      ∙ sym (list_any-append (is_zeroing g) effects (e ∷ []) ∙ ap (λ b. list_any (is_zeroing g) effects || (b || false)) (zeroing_is g e ∙ ap (λ b. is_zero e && b) (touches_none g e is))
      ∙ nothing (list_any (is_zeroing g) effects) (is_zero e));
  named = λ g below.
      put.named g below
      ∙ sym (list_any-append (touches g) effects (e ∷ []) ∙ ap (λ b. list_any (touches g) effects || (b || false)) (touches_none g e is) ∙ nothing (list_any (touches g) effects) true);
}
  where
    nothing : (a z : Bool) → (a || ((z && false) || false)) ≡ a
    nothing true z = refl
    nothing false true = refl
    nothing false false = refl
