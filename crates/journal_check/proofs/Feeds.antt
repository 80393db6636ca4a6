-- Line feeds, and the first lines of texts that agree.
use Rattle.std.proofs.Common.{◌≡◌, inl, inr, true, false, cond, ℕ, zero, suc, ◌+◌, ◌<◌, ◌≤◌, List, [], ◌∷◌, ◌++◌, length, take, drop, count_by, Some, refl, sym, ap, ◌∙◌, arith, zero-add}
use Rattle.std.{proofs.lemmas.Bool.cases_Bool, proofs.lemmas.Bool.false≢true, proofs.lemmas.List.take-append-drop, proofs.lemmas.List.Sums.sum_by-append, specs.Option.is_some}
use Rattle.std.specs.Prelude.{◌==◌, slice_get, if◌then◌else◌}
use Rattle.journal_check.{specs.Lines.first_lines, specs.Lines.with_first, proofs.Completed.AreThere, proofs.Completed.enough, proofs.Completed.inside, proofs.CoveringOrders.lt_cases}

-- how many line feeds there are
abbrev pub feeds : List ℕ → ℕ
feeds bytes = count_by (λ byte. byte == 10) bytes

feeds_more : (byte : ℕ) (bytes : List ℕ) → feeds (byte ∷ bytes) ≡ cond (byte == 10) 1 0 + feeds bytes
feeds_more byte bytes = sum_by-append (λ b. cond (b == 10) 1 0) (byte ∷ []) bytes ∙ ap (λ n. n + feeds bytes) (zero-add (cond (byte == 10) 1 0))

feeds_one : (byte : ℕ) (bytes : List ℕ) → (byte == 10) ≡ true → feeds (byte ∷ bytes) ≡ 1 + feeds bytes
feeds_one byte bytes is = feeds_more byte bytes ∙ ap (λ b. cond b 1 0 + feeds bytes) is

feeds_none : (byte : ℕ) (bytes : List ℕ) → (byte == 10) ≡ false → feeds (byte ∷ bytes) ≡ feeds bytes
feeds_none byte bytes is = feeds_more byte bytes ∙ ap (λ b. cond b 1 0 + feeds bytes) is ∙ zero-add (feeds bytes)

-- so many line feeds, so many lines
pub has_lines : (n : ℕ) (bytes : List ℕ) → n ≤ feeds bytes → AreThere (first_lines n bytes)
has_lines zero bytes few = record { lines = []; is = refl }
has_lines (suc n) [] few = absurd (omega (arith, few))
has_lines (suc n) (byte ∷ bytes) few = elim (cases_Bool (byte == 10)) [
  | inl ends ↦
      let more : AreThere (first_lines n bytes) = has_lines n bytes (omega (arith, few, feeds_one byte bytes ends)) in record {
        lines = byte ∷ more.lines;
        is = ap (λ b. with_first byte (if b then first_lines n bytes else first_lines (suc n) bytes)) ends ∙ ap (with_first byte) more.is;
      }
  | inr goes ↦
      let more : AreThere (first_lines (suc n) bytes) = has_lines (suc n) bytes (omega (arith, few, feeds_none byte bytes goes)) in record {
        lines = byte ∷ more.lines;
        is = ap (λ b. with_first byte (if b then first_lines n bytes else first_lines (suc n) bytes)) goes ∙ ap (with_first byte) more.is;
      }
]

-- The lines stand at the front of the text, and have a line feed each.
pub record AreFirstLines (n : ℕ) (bytes lines : List ℕ) : Type 0 where
  pub rest : List ℕ
  pub parts : bytes ≡ lines ++ rest
  pub each : feeds lines ≡ n

same_first : (byte : ℕ) (bytes lines : List ℕ) → Some (byte ∷ bytes) ≡ Some lines → byte ∷ bytes ≡ lines
same_first byte bytes lines e = cc

pub lines_are : (n : ℕ) (bytes lines : List ℕ) → first_lines n bytes ≡ Some lines → AreFirstLines n bytes lines
lines_are zero bytes lines has = record {
  rest = bytes;
  parts = ap (λ (xs : List ℕ). xs ++ bytes) (nothing lines has);
  each = sym (ap feeds (nothing lines has));
}
  where
    nothing : (lines : List ℕ) → Some [] ≡ Some lines → [] ≡ lines
    nothing lines e = cc
lines_are (suc n) [] lines has = absurd (false≢true (ap is_some has))
lines_are (suc n) (byte ∷ bytes) lines has =
    let there : AreThere (if byte == 10 then first_lines n bytes else first_lines (suc n) bytes) =
    inside byte (if byte == 10 then first_lines n bytes else first_lines (suc n) bytes) lines has in
    let whole : byte ∷ there.lines ≡ lines = same_first byte there.lines lines (sym (ap (with_first byte) there.is) ∙ has) in
    elim (cases_Bool (byte == 10)) [
      | inl ends ↦
          let more : AreFirstLines n bytes there.lines =
          lines_are n bytes there.lines (sym (ap (λ b. if b then first_lines n bytes else first_lines (suc n) bytes) ends) ∙ there.is) in record {
            rest = more.rest;
            parts = ap (λ (xs : List ℕ). byte ∷ xs) more.parts ∙ ap (λ (xs : List ℕ). xs ++ more.rest) whole;
            each = sym (ap feeds whole) ∙ omega (arith, feeds_one byte there.lines ends, more.each);
          }
      | inr goes ↦
          let more : AreFirstLines (suc n) bytes there.lines =
          lines_are (suc n) bytes there.lines (sym (ap (λ b. if b then first_lines n bytes else first_lines (suc n) bytes) goes) ∙ there.is) in record {
            rest = more.rest;
            parts = ap (λ (xs : List ℕ). byte ∷ xs) more.parts ∙ ap (λ (xs : List ℕ). xs ++ more.rest) whole;
            each = sym (ap feeds whole) ∙ omega (arith, feeds_none byte there.lines goes, more.each);
          }
    ]

-- fewer of the lines of a text are the first of these lines
pub fewer_lines : (m n : ℕ) (bytes lines : List ℕ) → first_lines n bytes ≡ Some lines → m ≤ n → first_lines m bytes ≡ first_lines m lines
fewer_lines m n bytes lines has few =
    let are : AreFirstLines n bytes lines = lines_are n bytes lines has in
    let there : AreThere (first_lines m lines) = has_lines m lines (omega (arith, few, are.each)) in
    ap (first_lines m) are.parts ∙ enough m lines are.rest there.lines there.is

pub are_fewer : (m n : ℕ) (bytes lines : List ℕ) → first_lines n bytes ≡ Some lines → m ≤ n → AreThere (first_lines m lines)
are_fewer m n bytes lines has few = has_lines m lines (omega (arith, few, (lines_are n bytes lines has).each))

-- ---- texts that agree up to a byte

-- the lines that end within the bytes that agree are the lines of both
pub alike_lines : (given printed : List ℕ) (agreed count : ℕ) → take agreed given ≡ take agreed printed → count ≤ feeds (take agreed given)
    → (lines : List ℕ) × (first_lines count given ≡ Some lines) × (first_lines count printed ≡ Some lines)
alike_lines given printed agreed count alike few =
    let there : AreThere (first_lines count (take agreed given)) = has_lines count (take agreed given) few in (
      there.lines,
      ap (first_lines count) (sym (take-append-drop agreed given)) ∙ enough count (take agreed given) (drop agreed given) there.lines there.is ∙ there.is,
      ap (first_lines count) (sym (take-append-drop agreed printed) ∙ ap (λ (front : List ℕ). front ++ drop agreed printed) (sym alike))
          ∙ enough count (take agreed given) (drop agreed printed) there.lines there.is ∙ there.is,
    )

-- a longer front has no fewer line feeds
feeds_within : (lines rest : List ℕ) (n : ℕ) → length lines ≤ n → feeds lines ≤ feeds (take n (lines ++ rest))
feeds_within [] rest n long = omega arith
feeds_within (byte ∷ lines) rest zero long = absurd (omega (arith, long))
feeds_within (byte ∷ lines) rest (suc n) long =
    omega (arith, feeds_more byte lines, feeds_more byte (take n (lines ++ rest)), feeds_within lines rest n (omega (arith, long)))

within_front : (lines one other : List ℕ) (n : ℕ) → n < length lines → slice_get (lines ++ one) n ≡ slice_get (lines ++ other) n
within_front [] one other n less = absurd (omega (arith, less))
within_front (byte ∷ lines) one other zero less = refl
within_front (byte ∷ lines) one other (suc n) less = within_front lines one other n (omega (arith, less))

-- where both have the same lines, more than end before a byte, they have the same byte there
pub same_byte : (given printed lines : List ℕ) (n agreed : ℕ) → first_lines n given ≡ Some lines → first_lines n printed ≡ Some lines
    → feeds (take agreed given) < n → slice_get given agreed ≡ slice_get printed agreed
same_byte given printed lines n agreed has its less =
    let mine : AreFirstLines n given lines = lines_are n given lines has in
    let other : AreFirstLines n printed lines = lines_are n printed lines its in
    elim (lt_cases agreed (length lines)) [
      | inl inner ↦ ap (λ (xs : List ℕ). slice_get xs agreed) mine.parts ∙ within_front lines mine.rest other.rest agreed inner ∙ sym (ap (λ (xs : List ℕ). slice_get xs agreed) other.parts)
      | inr outer ↦ absurd (omega (arith, less, mine.each, feeds_within lines mine.rest agreed outer, ap (λ (xs : List ℕ). feeds (take agreed xs)) mine.parts))
    ]
