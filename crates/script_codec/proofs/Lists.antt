-- What a loop over fields of one form, or over lines, has read so far.
use Rattle.std.proofs.Common.{◌≡◌, ℕ, zero, suc, List, [], ◌∷◌, ◌++◌, Result, Ok, Err, refl, sym, ap, ◌∙◌, append-nil, append_assoc, eqb, false}
use Rattle.script_codec.specs.{Fields.◌>>=◌, Fields.many_from, LineByLine.line_then, Lines.kind_from, Lines.line_from, Lines.end_from, Lines.lines_from, declared.faults.ScriptFault.ScriptFault}
use Rattle.script_codec.specs.declared.script_line.Line.{Line}

-- these before those that are still to come
abbrev pub with_fields : {A : Type 0} → List A → Result (List A × ℕ) ScriptFault → Result (List A × ℕ) ScriptFault
with_fields xs (Ok rest) = Ok (xs ++ rest.0, rest.1)
with_fields xs (Err fault) = Err fault

module _ {A : Type 0} (field : List ℕ → ℕ → Result (A × ℕ) ScriptFault) where
  pub many_goes_on : (xs : List A) (x : A × ℕ) (n left : ℕ) (bytes : List ℕ) (place : ℕ) (whole : Result (List A × ℕ) ScriptFault) → n ≡ suc left → field bytes place ≡ Ok x → with_fields xs (many_from field n bytes place) ≡ whole → with_fields (xs ++ x.0 ∷ []) (many_from field left bytes x.1) ≡ whole
  unfolding many_from
  many_goes_on xs x n left bytes place whole more here is =
      by (many_from field left bytes x.1)
      ∙ sym (ap (λ r. with_fields xs (r >>= (λ first. many_from field left bytes first.1 >>= (λ rest. Ok (first.0 ∷ rest.0, rest.1))))) here)
      ∙ sym (ap (λ m. with_fields xs (many_from field m bytes place)) more)
      ∙ is
    where
      by : (r : Result (List A × ℕ) ScriptFault) → with_fields (xs ++ x.0 ∷ []) r ≡ with_fields xs (r >>= (λ rest. Ok (x.0 ∷ rest.0, rest.1)))
      by (Ok rest) = ap (λ ys. Ok (ys, rest.1)) (append_assoc xs (x.0 ∷ []) rest.0)
      by (Err fault) = refl

  pub many_fails : (xs : List A) (fault : ScriptFault) (n left : ℕ) (bytes : List ℕ) (place : ℕ) (whole : Result (List A × ℕ) ScriptFault) → n ≡ suc left → field bytes place ≡ Err fault → with_fields xs (many_from field n bytes place) ≡ whole → whole ≡ Err fault
  unfolding many_from
  many_fails xs fault n left bytes place whole more here is =
      sym is ∙ ap (λ m. with_fields xs (many_from field m bytes place)) more
      ∙ ap (λ r. with_fields xs (r >>= (λ first. many_from field left bytes first.1 >>= (λ rest. Ok (first.0 ∷ rest.0, rest.1))))) here

  pub many_done : (xs : List A) (n : ℕ) (bytes : List ℕ) (place : ℕ) (whole : Result (List A × ℕ) ScriptFault) → n ≡ 0 → with_fields xs (many_from field n bytes place) ≡ whole → whole ≡ Ok (xs, place)
  unfolding many_from
  many_done xs n bytes place whole none is =
      sym is ∙ ap (λ m. with_fields xs (many_from field m bytes place)) none ∙ ap (λ ys. Ok (ys, place)) (append-nil xs)

-- these lines before those that are still to come
abbrev pub with_lines : List Line → Result (List Line) ScriptFault → Result (List Line) ScriptFault
with_lines lines (Ok rest) = Ok (lines ++ rest)
with_lines lines (Err fault) = Err fault

-- the kind of the next line is read first
pub no_kind : (n hosts lanes : ℕ) (bytes : List ℕ) (place : ℕ) (fault : ScriptFault) → kind_from bytes place ≡ Err fault → lines_from n hosts lanes bytes place ≡ Err fault
unfolding lines_from
no_kind zero hosts lanes bytes place fault e = rw e refl
no_kind (suc left) hosts lanes bytes place fault e = rw e refl

-- what stands behind the end word decides
pub at_end : (n hosts lanes : ℕ) (bytes : List ℕ) (place : ℕ) (kind : ℕ × ℕ) → kind_from bytes place ≡ Ok kind → kind.0 ≡ 0 → lines_from n hosts lanes bytes place ≡ end_from bytes kind.1
unfolding lines_from
at_end zero hosts lanes bytes place kind e is = rw (e, is) refl
at_end (suc left) hosts lanes bytes place kind e is = rw (e, is) refl

pub bad_line : (n left hosts lanes : ℕ) (bytes : List ℕ) (place : ℕ) (kind : ℕ × ℕ) (fault : ScriptFault) → n ≡ suc left → kind_from bytes place ≡ Ok kind → eqb kind.0 0 ≡ false → line_from kind.0 hosts lanes bytes kind.1 ≡ Err fault → lines_from n hosts lanes bytes place ≡ Err fault
unfolding lines_from
bad_line n left hosts lanes bytes place kind fault more e goes bad = ap (λ m. lines_from m hosts lanes bytes place) more ∙ rw (e, goes, bad) refl

pub one_line : (n left hosts lanes : ℕ) (bytes : List ℕ) (place : ℕ) (kind : ℕ × ℕ) (line : Line × ℕ) → n ≡ suc left → kind_from bytes place ≡ Ok kind → eqb kind.0 0 ≡ false → line_from kind.0 hosts lanes bytes kind.1 ≡ Ok line → lines_from n hosts lanes bytes place ≡ line_then line.0 (lines_from left hosts lanes bytes line.1)
unfolding lines_from
one_line n left hosts lanes bytes place kind line more e goes here = ap (λ m. lines_from m hosts lanes bytes place) more ∙ rw (e, goes, here) refl

pub too_many : (n hosts lanes : ℕ) (bytes : List ℕ) (place : ℕ) (kind : ℕ × ℕ) → n ≡ 0 → kind_from bytes place ≡ Ok kind → eqb kind.0 0 ≡ false → lines_from n hosts lanes bytes place ≡ Err (ScriptFault.TooManyLines place)
unfolding lines_from
too_many n hosts lanes bytes place kind none e goes = ap (λ m. lines_from m hosts lanes bytes place) none ∙ rw (e, goes) refl

-- ---- lines that were read stand before those that are still to come

pub lines_go_on : (lines : List Line) (line : Line) (rest : Result (List Line) ScriptFault) → with_lines (lines ++ line ∷ []) rest ≡ with_lines lines (line_then line rest)
lines_go_on lines line (Ok rest) = ap Ok (append_assoc lines (line ∷ []) rest)
lines_go_on lines line (Err fault) = refl
