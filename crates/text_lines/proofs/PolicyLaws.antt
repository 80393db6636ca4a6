-- Policies: what is read of them is what their words say.
use Rattle.std.proofs.Common.{◌≡◌, ℕ, Bool, true, false, List, [], ◌∷◌, ◌++◌, Option, Some, None, Result, Ok, refl, sym, ap, ◌∙◌, subst, inl, inr, append_assoc}
use Rattle.std.proofs.lemmas.Bool.{cases_Bool, cond-false, cond-true}
use Rattle.text_lines.{proofs.KeywordLaws.other_word, specs.Fields.begins, specs.Fields.flag_ahead, specs.Fields.number_ahead, specs.Fields.number_of_word, specs.Keywords.keyword_text}
use Rattle.text_lines.specs.{Parts.Form, Parts.NamesRelease, Parts.Part, Parts.ReadsPart, Unread.UnreadWords, Unread.behind_next, Unread.behind_first, Unread.first_unread, declared.faults.Cause.Cause}
use Rattle.text_lines.specs.declared.{faults.Wanted.Wanted, keywords.Keyword.Keyword}
use Rattle.text_lines.specs.Policies.{word_where, add_name_ahead, add_policy_ahead, add_policy_said, named_flags_ahead, policy_or, release_flags, release_flags_ahead, release_name_ahead, release_policy_said}
use Rattle.text_lines.proofs.FieldLaws.{Goes, IsNot, Took, begins_not, begins_with, begins_words, bound, flag_goes, flag_then, goes_then, number_goes, number_says, ok_is, one_goes, one_sound, took_one}

policy_says : (wanted : Wanted) (said : Option ℕ) (policy : ℕ) → policy_or wanted said ≡ Ok policy → said ≡ Some policy
policy_says wanted None policy is = cc
policy_says wanted (Some p) policy is = ap Some (ok_cause p policy is)
  where
    ok_cause : (a b : ℕ) → ◌≡◌ {A = Result ℕ Cause} (Ok a) (Ok b) → a ≡ b
    ok_cause a b f = cc

no_add_policy : add_policy_said (keyword_text Keyword.Policy) ≡ None
unfolding add_policy_said
no_add_policy = refl

no_release_policy : release_policy_said (keyword_text Keyword.Flags) ≡ None
unfolding release_policy_said
no_release_policy = refl

-- a word and what is behind it
one_behind : (u : UnreadWords) (k : Keyword) (word : List ℕ) (rest : List (List ℕ)) → u.words ≡ keyword_text k ∷ (word ∷ rest) → (behind_next u).words ≡ word ∷ rest
one_behind u k word rest words = ap (λ ws. (behind_first u.line u.word ws).words) words

-- ---- adds
pub add_policy_goes : (policy : ℕ) (u : UnreadWords) (front rest : List (List ℕ)) → u.words ≡ front ++ rest → ReadsPart front (Part.AddPolicy policy) → Goes (add_policy_ahead u) policy rest
unfolding add_policy_ahead
add_policy_goes policy u front rest is (inl name) =
    let words : u.words ≡ name.0 ∷ rest = is ∙ ap (λ ws. ws ++ rest) name.1 in
    let g = one_goes Wanted.AddPolicy u (λ w. policy_or Wanted.AddPolicy (add_policy_said w)) policy name.0 rest words (ap (policy_or Wanted.AddPolicy) name.2) in
    record {
      left = g.left;
      is = cond-false (begins Keyword.Policy u) (number_ahead 255 (behind_next u)) (add_name_ahead u) (begins_not Keyword.Policy u (name.0 ∷ rest) words (other_word add_policy_said name.0 (keyword_text Keyword.Policy) policy no_add_policy name.2)) ∙ g.is;
      words = g.words;
    }
add_policy_goes policy u front rest is (inr number) =
    let words : u.words ≡ keyword_text Keyword.Policy ∷ (number.0 ∷ rest) = is ∙ ap (λ ws. ws ++ rest) number.1 in
    let g = number_goes Form.Count 255 policy (behind_next u) (number.0 ∷ []) rest (one_behind u Keyword.Policy number.0 rest words) (number.0, refl, number.2) in
    record { left = g.left; is = cond-true (begins Keyword.Policy u) (number_ahead 255 (behind_next u)) (add_name_ahead u) (begins_with Keyword.Policy u (number.0 ∷ rest) words) ∙ g.is; words = g.words }

pub add_policy_sound : (u : UnreadWords) (x : ℕ × UnreadWords) → add_policy_ahead u ≡ Ok x → Took u.words (Part.AddPolicy x.0 ∷ []) x.1.words
unfolding add_policy_ahead number_ahead
add_policy_sound u x is = elim (cases_Bool (begins Keyword.Policy u)) [
  | inl e ↦
      let p = one_sound Wanted.Number (behind_next u) (number_of_word 255 (first_unread (behind_next u))) x (sym (cond-true (begins Keyword.Policy u) (number_ahead 255 (behind_next u)) (add_name_ahead u) e) ∙ is) in
      took_one u.words (keyword_text Keyword.Policy ∷ first_unread (behind_next u) ∷ []) x.1.words (Part.AddPolicy x.0)
      (begins_words Keyword.Policy u.line u.word u.words e ∙ ap (λ ws. keyword_text Keyword.Policy ∷ ws) p.words)
      (inr (first_unread (behind_next u), refl, number_says 255 x.0 (first_unread (behind_next u)) p.said))
  | inr e ↦
      let p = one_sound Wanted.AddPolicy u (policy_or Wanted.AddPolicy (add_policy_said (first_unread u))) x (sym (cond-false (begins Keyword.Policy u) (number_ahead 255 (behind_next u)) (add_name_ahead u) e) ∙ is) in
      took_one u.words (first_unread u ∷ []) x.1.words (Part.AddPolicy x.0) p.words (inl (first_unread u, refl, policy_says Wanted.AddPolicy (add_policy_said (first_unread u)) x.0 p.said))
]

-- ---- releases
-- a keyword that is there or not, as a part
reads_flag : (k : Keyword) (set : Bool) → ReadsPart (word_where set (keyword_text k)) (Part.Flag k set)
reads_flag k true = inr (refl, refl)
reads_flag k false = inl (refl, refl)

forced_not : (sanitize : Bool) (rest : List (List ℕ)) → IsNot Keyword.Forced rest → IsNot Keyword.Forced (word_where sanitize (keyword_text Keyword.Sanitize) ++ rest)
forced_not true rest other = refl
forced_not false rest other = other

named_flags_goes : (flags : ℕ) (u : UnreadWords) (front rest : List (List ℕ)) → u.words ≡ front ++ rest → NamesRelease flags front → IsNot Keyword.Forced rest → IsNot Keyword.Sanitize rest → Goes (named_flags_ahead u) flags rest
unfolding named_flags_ahead
named_flags_goes flags u front rest is names forced sanitize =
    let first = word_where names.forced (keyword_text Keyword.Forced) in
    let second = word_where names.sanitize (keyword_text Keyword.Sanitize) in
    let words : u.words ≡ names.name ∷ (first ++ (second ++ rest)) = is ∙ ap (λ ws. ws ++ rest) names.words_are ∙ ap (λ ws. names.name ∷ ws) (append_assoc first second rest) in
    subst (λ n. Goes (named_flags_ahead u) n rest) (sym names.flags_are)
    (goes_then _ (release_flags names.policy names.forced names.sanitize) rest (one_goes Wanted.ReleasePolicy u (λ w. policy_or Wanted.ReleasePolicy (release_policy_said w)) names.policy names.name (first ++ (second ++ rest)) words (ap (policy_or Wanted.ReleasePolicy) names.named))
    (λ left here.
    flag_then (λ forced. let sanitize = flag_ahead Keyword.Sanitize forced.1 in Ok (release_flags names.policy forced.0 sanitize.0, sanitize.1)) (release_flags names.policy names.forced names.sanitize) rest
    (flag_goes Keyword.Forced left names.forced first (second ++ rest) here (reads_flag Keyword.Forced names.forced) (forced_not names.sanitize rest forced))
    (λ next there.
    flag_then (λ sanitize. Ok (release_flags names.policy names.forced sanitize.0, sanitize.1)) (release_flags names.policy names.forced names.sanitize) rest
    (flag_goes Keyword.Sanitize next names.sanitize second rest there (reads_flag Keyword.Sanitize names.sanitize) sanitize)
    (λ last end. record { left = last; is = refl; words = end }))))

pub release_flags_goes : (flags : ℕ) (u : UnreadWords) (front rest : List (List ℕ)) → u.words ≡ front ++ rest → ReadsPart front (Part.ReleaseFlags flags) → IsNot Keyword.Forced rest → IsNot Keyword.Sanitize rest → Goes (release_flags_ahead u) flags rest
unfolding release_flags_ahead
release_flags_goes flags u front rest is (inl names) forced sanitize =
    let g = named_flags_goes flags u front rest is names forced sanitize in
    let words : u.words ≡ names.name ∷ ((word_where names.forced (keyword_text Keyword.Forced) ++ word_where names.sanitize (keyword_text Keyword.Sanitize)) ++ rest) = is ∙ ap (λ ws. ws ++ rest) names.words_are in
    record {
      left = g.left;
      is = cond-false (begins Keyword.Flags u) (number_ahead 255 (behind_next u)) (named_flags_ahead u) (begins_not Keyword.Flags u _ words (other_word release_policy_said names.name (keyword_text Keyword.Flags) names.policy no_release_policy names.named)) ∙ g.is;
      words = g.words;
    }
release_flags_goes flags u front rest is (inr number) forced sanitize =
    let words : u.words ≡ keyword_text Keyword.Flags ∷ (number.0 ∷ rest) = is ∙ ap (λ ws. ws ++ rest) number.1 in
    let g = number_goes Form.Count 255 flags (behind_next u) (number.0 ∷ []) rest (one_behind u Keyword.Flags number.0 rest words) (number.0, refl, number.2) in
    record { left = g.left; is = cond-true (begins Keyword.Flags u) (number_ahead 255 (behind_next u)) (named_flags_ahead u) (begins_with Keyword.Flags u (number.0 ∷ rest) words) ∙ g.is; words = g.words }

-- the words of a flag that was read
flag_read : (k : Keyword) (u : UnreadWords) → u.words ≡ word_where (flag_ahead k u).0 (keyword_text k) ++ (flag_ahead k u).1.words
unfolding flag_ahead
flag_read k u = elim (cases_Bool (begins k u)) [
  | inl e ↦ rw e (begins_words k u.line u.word u.words e)
  | inr e ↦ rw e refl
]

named_flags_sound : (u : UnreadWords) (x : ℕ × UnreadWords) → named_flags_ahead u ≡ Ok x → Took u.words (Part.ReleaseFlags x.0 ∷ []) x.1.words
unfolding named_flags_ahead
named_flags_sound u x is =
    let policy = bound (release_name_ahead u) (λ policy. let forced = flag_ahead Keyword.Forced policy.1 in let sanitize = flag_ahead Keyword.Sanitize forced.1 in Ok (release_flags policy.0 forced.0 sanitize.0, sanitize.1)) x is in
    let p = one_sound Wanted.ReleasePolicy u (policy_or Wanted.ReleasePolicy (release_policy_said (first_unread u))) policy.value policy.begun in
    let forced = flag_ahead Keyword.Forced policy.value.1 in
    let sanitize = flag_ahead Keyword.Sanitize forced.1 in
    let e : (release_flags policy.value.0 forced.0 sanitize.0, sanitize.1) ≡ x = ok_is _ x policy.done in
    let first = word_where forced.0 (keyword_text Keyword.Forced) in
    let second = word_where sanitize.0 (keyword_text Keyword.Sanitize) in
    let words : u.words ≡ (first_unread u ∷ (first ++ second)) ++ sanitize.1.words =
    p.words ∙ ap (λ ws. first_unread u ∷ ws) (flag_read Keyword.Forced policy.value.1 ∙ ap (λ ws. first ++ ws) (flag_read Keyword.Sanitize forced.1) ∙ sym (append_assoc first second sanitize.1.words)) in
    subst (λ (y : ℕ × UnreadWords). Took u.words (Part.ReleaseFlags y.0 ∷ []) y.1.words) e
    (took_one u.words (first_unread u ∷ (first ++ second)) sanitize.1.words (Part.ReleaseFlags (release_flags policy.value.0 forced.0 sanitize.0)) words
    (inl (record {
      name = first_unread u;
      policy = policy.value.0;
      forced = forced.0;
      sanitize = sanitize.0;
      named = policy_says Wanted.ReleasePolicy (release_policy_said (first_unread u)) policy.value.0 p.said;
      words_are = refl;
      flags_are = refl;
    })))

pub release_flags_sound : (u : UnreadWords) (x : ℕ × UnreadWords) → release_flags_ahead u ≡ Ok x → Took u.words (Part.ReleaseFlags x.0 ∷ []) x.1.words
unfolding release_flags_ahead number_ahead
release_flags_sound u x is = elim (cases_Bool (begins Keyword.Flags u)) [
  | inl e ↦
      let p = one_sound Wanted.Number (behind_next u) (number_of_word 255 (first_unread (behind_next u))) x (sym (cond-true (begins Keyword.Flags u) (number_ahead 255 (behind_next u)) (named_flags_ahead u) e) ∙ is) in
      took_one u.words (keyword_text Keyword.Flags ∷ first_unread (behind_next u) ∷ []) x.1.words (Part.ReleaseFlags x.0)
      (begins_words Keyword.Flags u.line u.word u.words e ∙ ap (λ ws. keyword_text Keyword.Flags ∷ ws) p.words)
      (inr (first_unread (behind_next u), refl, number_says 255 x.0 (first_unread (behind_next u)) p.said))
  | inr e ↦ named_flags_sound u x (sym (cond-false (begins Keyword.Flags u) (number_ahead 255 (behind_next u)) (named_flags_ahead u) e) ∙ is)
]
