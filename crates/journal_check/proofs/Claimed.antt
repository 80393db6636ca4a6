-- The line of an entry claims the entry's line of the script.
use Rattle.std.proofs.Common.{◌≡◌, ℕ, ◌<◌, ◌^◌, List, [], ◌∷◌, ◌++◌, ◌+◌, ◌-◌, ◌*◌, fold, append_assoc, refl, ap, ◌∙◌, arith}
use Rattle.std.proofs.lemmas.{Bool.ne_eqb, Fmt.decimal_is_IsNumeral, Fmt.digits_value-decimal, Str.Parse.FoldsDigits, Str.Parse.IsNumeralModel, Str.Parse.numerals_by_fold, Str.Parse.tells_digits}
use Rattle.std.specs.{List.AllByRecursion, Prelude.decimal, Prelude.if◌then◌else◌, Str.Parse.AllDigits}
use Rattle.edge_io.specs.Words.{number_in}
use Rattle.journal_core.specs.declared.entries.Entry.{Entry}
use Rattle.report.specs.Texts.{entry_line, actor_name, act_name, reply_words, rest_of_line}
use Rattle.journal_check.specs.Claims.{first_word, behind, behind_word, claim_in}

abbrev HasNoSpace : List ℕ → Type 0
HasNoSpace bytes = AllByRecursion (λ byte. byte ≡ 32 → ⊥) bytes

word_first : (word rest : List ℕ) → HasNoSpace word → first_word (word ++ 32 ∷ rest) ≡ word
word_first [] rest all = refl
word_first (byte ∷ word) rest all =
    ap (λ b. if b then [] else byte ∷ first_word (word ++ 32 ∷ rest)) (ne_eqb byte 32 all.0) ∙ ap (λ (w : List ℕ). byte ∷ w) (word_first word rest all.1)

word_behind : (word rest : List ℕ) → HasNoSpace word → behind_word (word ++ 32 ∷ rest) ≡ rest
word_behind [] rest all = refl
word_behind (byte ∷ word) rest all =
    ap (λ b. if b then word ++ 32 ∷ rest else behind 32 (word ++ 32 ∷ rest)) (ne_eqb byte 32 all.0) ∙ word_behind word rest all.1

digits_apart : (ds : List ℕ) → AllDigits 10 ds → HasNoSpace ds
digits_apart [] all = tt
digits_apart (d ∷ ds) all = ((λ same. omega (arith, same, (tells_digits.parts d ds all).0)), digits_apart ds all.1)

-- the number that the digits write when they follow those of another
abbrev after_number : ℕ → List ℕ → ℕ
after_number n digits = fold (λ m b. 10 * m + (b - 48)) n digits

folds : FoldsDigits after_number
folds = record {
  empty = λ n. refl;
  more = λ n c cs digit.
      let weight : 10 * n + (c - 48) ≡ n * 10 + (c - 48) = omega arith in ap (λ m. after_number m cs) weight;
}

model : IsNumeralModel (AllDigits 10) number_in
model = numerals_by_fold (AllDigits 10) tells_digits after_number folds

written : (n : ℕ) → n < 2 ^ 64 → number_in (decimal n) ≡ n
written n small = digits_value-decimal model n small

pub claimed : (n : ℕ) (e : Entry) (rest : List ℕ) → n < 2 ^ 64 → e.line < 2 ^ 64 → claim_in (entry_line (n, e) ++ rest) ≡ e.line
unfolding entry_line
claimed n e rest small few =
    let number = decimal_is_IsNumeral n small in
    let line = decimal_is_IsNumeral e.line few in
    let more : List ℕ = actor_name e.actor ++ rest_of_line (act_name e.act ∷ reply_words e.reply) in
    let parts : entry_line (n, e) ++ rest ≡ decimal n ++ 32 ∷ (decimal e.line ++ 32 ∷ (more ++ rest)) =
    append_assoc (decimal n) (32 ∷ (decimal e.line ++ 32 ∷ more)) rest
    ∙ ap (λ (bytes : List ℕ). decimal n ++ 32 ∷ bytes) (append_assoc (decimal e.line) (32 ∷ more) rest) in
    ap claim_in parts
    ∙ ap (λ (bytes : List ℕ). number_in (first_word bytes)) (word_behind (decimal n) (decimal e.line ++ 32 ∷ (more ++ rest)) (digits_apart (decimal n) number.0.1))
    ∙ ap number_in (word_first (decimal e.line) (more ++ rest) (digits_apart (decimal e.line) line.0.1))
    ∙ written e.line few
