-- What reading a field answers is what stands there.
use Rattle.std.proofs.Common.{◌≡◌, ℕ, zero, suc, ◌+◌, ◌^◌, ◌<◌, ◌≤◌, Bool, true, false, cond, nat_lt, List, [], ◌∷◌, length, drop, Result, Ok, Err, refl, sym, ap, ◌∙◌, subst, arith, length-take, length-drop}
use Rattle.std.{specs.Prelude.flat_map, specs.Int.Width, specs.Int.byte_len, specs.Int.from_le_bytes, proofs.lemmas.Bool.le-ltb}
use borrow.Author.Tests.{ltb-false}
use Rattle.cci_codec.specs.dcd_base.proofs.{Fields.IsBytes, Widths.IsBytes-drop, Widths.IsBytes-take, Widths.IsWide}
use Rattle.cci_codec.specs.dcd_base.specs.Layouts.{Field, Number, Reserved, spell}
use Rattle.script_codec.proofs.Spans.{Stands, Spans, spans_then, parted}
use Rattle.script_codec.specs.{Fields.◌>>=◌, Fields.skip, Fields.part, Fields.number_from, Fields.many_from, declared.faults.ScriptFault.ScriptFault}

pub part_bytes : (n : ℕ) (bytes : List ℕ) (at : ℕ) → IsBytes bytes → IsBytes (part n bytes at)
part_bytes n bytes at small = IsBytes-take n (drop at bytes) (IsBytes-drop at bytes small)

-- ---- one step after another
pub record Bound {A B : Type 0} (first : Result A ScriptFault) (next : A → Result B ScriptFault) (y : B) : Type 0 where
  pub value : A
  pub begun : first ≡ Ok value
  pub done : next value ≡ Ok y

pub bound : {A B : Type 0} (first : Result A ScriptFault) (next : A → Result B ScriptFault) (y : B) → (first >>= next) ≡ Ok y → Bound first next y
bound (Ok x) next y is = record { value = x; begun = refl; done = is }
bound (Err fault) next y is = cc

pub ok_is : {A : Type 0} (x y : A) → ◌≡◌ {A = Result A ScriptFault} (Ok x) (Ok y) → x ≡ y
ok_is x y e = cc

-- a test that decides between a fault and a value
pub passed : {A : Type 0} (test : Bool) (fault : ScriptFault) (x y : A) → cond test (Err fault) (Ok x) ≡ Ok y → (test ≡ false) × (x ≡ y)
passed false fault x y is = (refl, (cc))
passed true fault x y is = cc

pub passing : {A : Type 0} (test : Bool) (fault : ScriptFault) (x y : A) → cond test (Ok x) (Err fault) ≡ Ok y → (test ≡ true) × (x ≡ y)
passing true fault x y is = (refl, (cc))
passing false fault x y is = cc

-- ---- reserved bytes
pub skip_sound : (n : ℕ) (bytes : List ℕ) (at next : ℕ) → skip n bytes at ≡ Ok next → Spans bytes at next (Reserved n ∷ [])
unfolding skip
skip_sound n bytes at next is =
    let p = passed (nat_lt (length bytes) (at + n)) (ScriptFault.Truncated (length bytes)) (at + n) next is in
    let within : at + n ≤ length bytes = ltb-false (length bytes) (at + n) p.0 in
    record { all = (record { fits = tt; within = within; reads = omega (arith, within, length-take n (drop at bytes), length-drop at bytes) }, p.1) }

pub skip_is : (n : ℕ) (bytes : List ℕ) (at : ℕ) → at + n ≤ length bytes → skip n bytes at ≡ Ok (at + n)
unfolding skip
skip_is n bytes at within = rw (le-ltb (length bytes) (at + n) within) refl

-- ---- numbers
pub number_sound : (w : Width) → IsWide w → (bytes : List ℕ) (at : ℕ) (x : ℕ × ℕ) → IsBytes bytes → number_from w bytes at ≡ Ok x → Spans bytes at x.1 (Number w x.0 ∷ [])
unfolding number_from
number_sound w wide bytes at x small is =
    let b = bound (skip (byte_len w) bytes at) _ x is in
    let skipped = skip_sound (byte_len w) bytes at b.value b.begun in
    let piece = part (byte_len w) bytes at in
    let value : from_le_bytes w (part (byte_len w) bytes at) ≡ x.0 = ap (λ r. (elim r as (λ r. ℕ) [ Ok y ↦ y.0 | Err fault ↦ 0 ])) b.done in
    let next : b.value ≡ x.1 = ap (λ r. (elim r as (λ r. ℕ) [ Ok y ↦ y.1 | Err fault ↦ 0 ])) b.done in
    record {
      all = (
        record {
          fits = subst (λ n. n < 256 ^ byte_len w) value (wide.below (part (byte_len w) bytes at) (part_bytes (byte_len w) bytes at small));
          within = skipped.all.0.within;
          reads = sym (wide.back (part (byte_len w) bytes at) skipped.all.0.reads (part_bytes (byte_len w) bytes at small)) ∙ ap (λ n. spell (Number w n)) value;
        },
        skipped.all.1 ∙ next,
      );
    }

pub number_is : (w : Width) → IsWide w → (bytes : List ℕ) (at n : ℕ) → Stands bytes at (Number w n) → number_from w bytes at ≡ Ok (n, at + byte_len w)
unfolding number_from
number_is w wide bytes at n stands =
    ap (λ r. r >>= (λ next. Ok (from_le_bytes w (part (byte_len w) bytes at), next))) (skip_is (byte_len w) bytes at stands.within)
    ∙ ap (λ m. Ok (m, at + byte_len w)) (ap (from_le_bytes w) stands.reads ∙ wide.again n stands.fits)

-- ---- lists
module _ {A : Type 0} (bytes : List ℕ) (field : List ℕ → ℕ → Result (A × ℕ) ScriptFault) (layout : A → List Field) where
  pub many_sound : ((at : ℕ) (x : A × ℕ) → field bytes at ≡ Ok x → Spans bytes at x.1 (layout x.0)) → (n at : ℕ) (xs : List A × ℕ) → many_from field n bytes at ≡ Ok xs → (length xs.0 ≡ n) × Spans bytes at xs.1 (flat_map layout xs.0)
  unfolding many_from
  many_sound each zero at xs is =
      let e : ([], at) ≡ xs = ok_is ([], at) xs is in
      (ap (λ (p : List A × ℕ). length p.0) (sym e), subst (λ (p : List A × ℕ). Spans bytes at p.1 (flat_map layout p.0)) e (record { all = refl }))
  many_sound each (suc n) at xs is =
      let first = bound (field bytes at) _ xs is in
      let others = bound (many_from field n bytes first.value.1) _ xs first.done in
      let rest = many_sound each n first.value.1 others.value others.begun in
      let e : (first.value.0 ∷ others.value.0, others.value.1) ≡ xs = ok_is _ xs others.done in (
        ap (λ (p : List A × ℕ). length p.0) (sym e) ∙ ap suc rest.0,
        subst (λ (p : List A × ℕ). Spans bytes at p.1 (flat_map layout p.0)) e (spans_then (each at first.value first.begun) rest.1),
      )

  pub many_is : ((at next : ℕ) (x : A) → Spans bytes at next (layout x) → field bytes at ≡ Ok (x, next)) → (at next : ℕ) (xs : List A) → Spans bytes at next (flat_map layout xs) → many_from field (length xs) bytes at ≡ Ok (xs, next)
  unfolding many_from
  many_is each at next [] spans = ap (λ place. Ok ([], place)) spans.all
  many_is each at next (x ∷ xs) spans =
      let p = parted bytes at next (layout x) (flat_map layout xs) spans in
      rw (each at p.mid x p.front, many_is each p.mid next xs p.back) refl
