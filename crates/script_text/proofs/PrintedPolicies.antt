-- What is printed of policies says them.
use Rattle.std.proofs.Common.{◌≡◌, ℕ, zero, suc, ◌/◌, ◌%◌, ◌<◌, ◌≤◌, true, false, ◌==◌, nat_lt, List, [], ◌∷◌, ◌++◌, Some, refl, sym, ap, ◌∙◌, subst, inl, inr, arith, append-nil, append_assoc, decimal}
use Rattle.std.{proofs.lemmas.Bool.and_parts, proofs.lemmas.Bool.cond-false, proofs.lemmas.Bool.cond-true, proofs.lemmas.Bool.ltb-true, proofs.lemmas.Bool.ne_eqb, specs.List.flat_map}
use Rattle.std.specs.Prelude.{codes}
use Rattle.dcd_base.specs.Words.{flag_of}
use Rattle.text_lines.{proofs.PrintedWords.number_is_word, specs.Characters.IsNumberWord, specs.Characters.IsTextWord, specs.Keywords.keyword_text}
use Rattle.text_lines.specs.{Numbers.hexadecimal, Numbers.number_said, Parts.Form, Parts.Part, Parts.key}
use Rattle.text_lines.specs.Policies.{add_policy_said, add_policy_text, are_named, release_flags, release_flags_text, release_policy_said, release_policy_text, word_where}
use Rattle.text_lines.specs.{Unread.leading_word, Words.spaced, declared.keywords.Keyword.Keyword}
use Rattle.script_text.proofs.{PrintLaws.adds_then, PrintLaws.adds_word, PrintLaws.adds_words, PrintLaws.keyword_word, PrintLaws.space_then, PrintedParts.number_behind}
use Rattle.script_text.specs.LinePrinting.{AddsParts}

-- ---- adds
pub record NamesAdd (policy : ℕ) (name : List ℕ) : Type 0 where
  pub said : add_policy_said name ≡ Some policy
  pub word : IsTextWord name

add_named : (policy : ℕ) (name : List ℕ) → policy < 4 → add_policy_text policy ≡ name ∷ [] → NamesAdd policy name
unfolding add_policy_said
add_named zero name low is = subst (NamesAdd 0) (ap leading_word is) (record { said = refl; word = (refl, omega arith) })
add_named (suc zero) name low is = subst (NamesAdd 1) (ap leading_word is) (record { said = refl; word = (refl, omega arith) })
add_named (suc (suc zero)) name low is = subst (NamesAdd 2) (ap leading_word is) (record { said = refl; word = (refl, omega arith) })
add_named (suc (suc (suc zero))) name low is = subst (NamesAdd 3) (ap leading_word is) (record { said = refl; word = (refl, omega arith) })
add_named (suc (suc (suc (suc n)))) name low is = absurd (omega (arith, low))

pub named_policy_adds : {old new : List ℕ} (policy : ℕ) (name : List ℕ) → policy < 4 → add_policy_text policy ≡ name ∷ [] → new ≡ old ++ spaced name → AddsParts old new (Part.AddPolicy policy ∷ [])
named_policy_adds policy name low is put =
    let named = add_named policy name low is in
    adds_word (Part.AddPolicy policy) name is (inl (name, refl, named.said)) named.word put

add_numbered : (policy : ℕ) → 4 ≤ policy → add_policy_text policy ≡ codes "policy" ∷ decimal policy ∷ []
add_numbered policy high =
    rw (ne_eqb policy 0 (λ e. omega (arith, high, e)), ne_eqb policy 1 (λ e. omega (arith, high, e)), ne_eqb policy 2 (λ e. omega (arith, high, e)), ne_eqb policy 3 (λ e. omega (arith, high, e))) refl

pub other_policy_adds : {old new : List ℕ} (policy : ℕ) → 4 ≤ policy → AddsParts old new (key Keyword.Policy ∷ Part.Number Form.Count 255 policy ∷ []) → AddsParts old new (Part.AddPolicy policy ∷ [])
other_policy_adds policy high a =
    adds_words (Part.AddPolicy policy) (keyword_text Keyword.Policy ∷ decimal policy ∷ []) (add_numbered policy high)
    (inr (number_behind Keyword.Policy Form.Count 255 policy (keyword_text Keyword.Policy ∷ decimal policy ∷ []) a.reads)) a.each a.is

-- ---- releases
pub record NamesPolicy (policy : ℕ) : Type 0 where
  pub said : release_policy_said (release_policy_text policy) ≡ Some policy
  pub word : IsTextWord (release_policy_text policy)

release_named : (policy : ℕ) → policy < 2 → NamesPolicy policy
unfolding release_policy_said
release_named zero low = record { said = refl; word = (refl, omega arith) }
release_named (suc zero) low = record { said = refl; word = (refl, omega arith) }
release_named (suc (suc n)) low = absurd (omega (arith, low))

bit_is : (n : ℕ) → n < 2 → flag_of (n == 1) ≡ n
bit_is zero low = refl
bit_is (suc zero) low = refl
bit_is (suc (suc n)) low = absurd (omega (arith, low))

flags_are : (flags : ℕ) → flags < 64 → flags ≡ release_flags (flags % 16) (flags / 16 % 2 == 1) (flags / 32 % 2 == 1)
flags_are flags low =
    let forced = bit_is (flags / 16 % 2) (omega arith) in
    let sanitize = bit_is (flags / 32 % 2) (omega arith) in
    rw (forced, sanitize) (omega (arith, low))

-- what flags with a name are
pub record IsNamed (flags : ℕ) : Type 0 where
  pub low : flags < 64
  pub policy : flags % 16 < 2

pub is_named : (flags : ℕ) → are_named flags ≡ true → IsNamed flags
is_named flags named = let p = and_parts (nat_lt flags 64) (nat_lt (flags % 16) 2) named in record { low = ltb-true flags 64 p.0; policy = ltb-true (flags % 16) 2 p.1 }

pub named_flags_add : {old mid next new : List ℕ} (flags : ℕ) → are_named flags ≡ true → mid ≡ old ++ spaced (release_policy_text (flags % 16))
    → AddsParts mid next (Part.Flag Keyword.Forced (flags / 16 % 2 == 1) ∷ []) → AddsParts next new (Part.Flag Keyword.Sanitize (flags / 32 % 2 == 1) ∷ []) → AddsParts old new (Part.ReleaseFlags flags ∷ [])
named_flags_add {old} {mid} {next} {new} flags is put first second =
    let p = is_named flags is in
    let name = release_policy_text (flags % 16) in
    let forced = word_where (flags / 16 % 2 == 1) (codes "forced") in
    let sanitize = word_where (flags / 32 % 2 == 1) (codes "sanitize") in
    let both = adds_then first second in
    let named = release_named (flags % 16) p.policy in
    let text : release_flags_text flags ≡ name ∷ (forced ++ (sanitize ++ [])) =
    cond-true (are_named flags) _ _ is ∙ ap (λ ws. name ∷ (forced ++ ws)) (sym (append-nil sanitize)) in
    adds_words (Part.ReleaseFlags flags) (name ∷ (forced ++ (sanitize ++ []))) text
    (inl (record {
      name = name;
      policy = flags % 16;
      forced = flags / 16 % 2 == 1;
      sanitize = flags / 32 % 2 == 1;
      named = named.said;
      words_are = ap (λ ws. name ∷ (forced ++ ws)) (append-nil sanitize);
      flags_are = flags_are flags p.low;
    }))
    (named.word, both.each)
    (both.is ∙ ap (λ out. out ++ flat_map spaced (forced ++ (sanitize ++ []))) put ∙ append_assoc old (spaced name) (flat_map spaced (forced ++ (sanitize ++ []))))

pub other_flags_add : {old mid next new : List ℕ} (flags : ℕ) → are_named flags ≡ false → flags ≤ 255 → number_said (hexadecimal flags) ≡ Some flags → IsNumberWord (hexadecimal flags)
    → AddsParts old mid (key Keyword.Flags ∷ []) → next ≡ mid ++ 32 ∷ [] → new ≡ next ++ hexadecimal flags → AddsParts old new (Part.ReleaseFlags flags ∷ [])
other_flags_add {old} {mid} {next} {new} flags unnamed room said word k space put =
    adds_words (Part.ReleaseFlags flags) (keyword_text Keyword.Flags ∷ hexadecimal flags ∷ []) (cond-false (are_named flags) _ _ unnamed)
    (inr (hexadecimal flags, refl, record { said = said; room = room }))
    (keyword_word Keyword.Flags, (number_is_word (hexadecimal flags) word, tt))
    (space_then _ (hexadecimal flags) space put ∙ ap (λ out. out ++ spaced (hexadecimal flags)) k.is
    ∙ append_assoc old (spaced (keyword_text Keyword.Flags) ++ []) (spaced (hexadecimal flags))
    ∙ ap (λ t. old ++ t) (ap (λ t. t ++ spaced (hexadecimal flags)) (append-nil (spaced (keyword_text Keyword.Flags))) ∙ ap (λ t. spaced (keyword_text Keyword.Flags) ++ t) (sym (append-nil (spaced (hexadecimal flags))))))
