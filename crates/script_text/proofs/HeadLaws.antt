-- The head of a text: what is read of each line is what its words say, and the other way round.
use Rattle.std.proofs.Common.{◌≡◌, ℕ, zero, suc, ◌*◌, ◌/◌, ◌%◌, ◌^◌, ◌≤◌, Bool, true, false, not, ◌==◌, ◌&&◌, ◌||◌, ◌⊎◌, nat_lt, List, [], ◌∷◌, ◌++◌, length, Option, Some, None, Result, Ok, Err, refl, sym, ap, ◌∙◌, subst, inl, inr, arith}
use lib.Pointwise.{pointwise, bytes_decides}
use Rattle.std.proofs.lemmas.Bool.{cases_Bool, cond-false, cond-true, eq-eqb, eqb-false, eqb-true, ne_eqb}
use Rattle.std.specs.Prelude.{codes}
use Rattle.region_config.specs.declared.region_spec.RegionSpec.{RegionSpec}
use Rattle.text_lines.proofs.{LineLaws.fixed_took, LineLaws.reads_all, LineLaws.split_parts, LineLaws.word_first, LineLaws.word_last, RequestLaws.goes_made}
use Rattle.text_lines.specs.Chains.{◌>>!◌ as ◌>>=◌}
use Rattle.text_lines.specs.Fields.{end_ahead, flag_ahead, keyword_ahead, may_ahead, named_ahead, number_ahead, number_of_word, one_word}
use Rattle.text_lines.specs.{Keywords.keyword_text, Layouts.most_32, Layouts.most_64, Parts.Form, Parts.Part, Parts.ReadsPart, Parts.ReadsParts, Parts.SaysNumber, Parts.Takes, Parts.key}
use Rattle.text_lines.specs.{Sizes.sizes_said, Unread.UnreadWords, Unread.first_unread, Unread.leading_word, declared.faults.Cause.Cause, declared.faults.TextFault.TextFault}
use Rattle.text_lines.specs.{declared.faults.Wanted.Wanted, declared.keywords.Keyword.Keyword, script_codec.proofs.Writable.laned, script_codec.specs.Scripts.are_lanes}
use Rattle.text_lines.proofs.FieldLaws.{Goes, IsNot, Took, bound, end_goes, end_sound, flag_goes, flag_sound, goes_then, keyword_goes, keyword_sound, may_goes, may_sound, named_goes, named_sound, number_goes, number_says, number_sound, ok_is, one_goes, one_sound, says_number, took_one, took_then}
use Rattle.script_text.specs.Heads.{bases_at, bases_behind, decode_ahead, extent_of_region_ahead, host_line_ahead, in_turn, in_units, lanes_ahead, region_ahead, sizes_ahead, sizes_or, some_lanes, start_ahead, told_lanes_ahead, turn_ahead, version_ahead, version_of_word}
use Rattle.script_text.specs.Layouts.{base_parts, host_parts, region_parts, start_parts}

-- ---- steps
goes_ok : {A B : Type 0} {read : Result (A × UnreadWords) TextFault} {x : A} {mid : List (List ℕ)} (next : A × UnreadWords → Result B TextFault) (y : B) → Goes read x mid → ((left : UnreadWords) → left.words ≡ mid → next (x, left) ≡ Ok y) → (read >>= next) ≡ Ok y
goes_ok {A} {B} {read} {x} {mid} next y g f = ap (λ r. r >>= next) g.is ∙ f g.left g.words

end_ok : {B : Type 0} (u : UnreadWords) (y : B) → u.words ≡ [] → (end_ahead u >>= (λ e. Ok y)) ≡ Ok y
end_ok u y none = goes_ok (λ e. Ok y) y (end_goes u none) (λ left here. refl)

cause_is : {A : Type 0} (x y : A) → ◌≡◌ {A = Result A Cause} (Ok x) (Ok y) → x ≡ y
cause_is x y e = cc

-- ---- the first line
module _ (u : UnreadWords) where
  first_start : ReadsParts u.words (key Keyword.Script ∷ Part.Fixed (codes "1") ∷ []) → start_ahead u ≡ Ok (1, 1)
  unfolding start_ahead
  first_start reads =
      let t = reads.all in
      let v = t.4 in
      goes_ok (λ b. version_ahead b.1 >>= (λ n. lanes_ahead n.0 n.1 >>= (λ l. end_ahead l.1 >>= (λ e. Ok (n.0, l.0))))) (1, 1) (keyword_goes Keyword.Script u t.1 (word_first u.words t.0 t.1 (keyword_text Keyword.Script) t.2 t.3))
      (λ left here.
      goes_ok (λ n. lanes_ahead n.0 n.1 >>= (λ l. end_ahead l.1 >>= (λ e. Ok (n.0, l.0)))) (1, 1) (one_goes Wanted.Version left version_of_word 1 (codes "1") [] (here ∙ word_first t.1 v.0 v.1 (codes "1") v.2 v.3 ∙ ap (λ ws. codes "1" ∷ ws) v.4) refl)
      (λ next there. end_ok next (1, 1) there))

  second_start : (lanes : ℕ) → (lanes ≡ 0 → ⊥) → ReadsParts u.words (key Keyword.Script ∷ Part.Fixed (codes "2") ∷ key Keyword.Lanes ∷ Part.Number Form.Count 4 lanes ∷ []) → start_ahead u ≡ Ok (2, lanes)
  unfolding start_ahead told_lanes_ahead
  second_start lanes some reads =
      let t = reads.all in
      let v = t.4 in
      let k = v.4 in
      let n = k.4 in
      let says : some_lanes (number_of_word 4 n.3.0) ≡ Ok lanes = ap some_lanes (says_number 4 lanes n.3.0 n.3.2) ∙ cond-false (lanes == 0) (Err (Cause.OutOfForm Wanted.Lanes)) (Ok lanes) (ne_eqb lanes 0 some) in
      goes_ok (λ b. version_ahead b.1 >>= (λ m. lanes_ahead m.0 m.1 >>= (λ l. end_ahead l.1 >>= (λ e. Ok (m.0, l.0))))) (2, lanes) (keyword_goes Keyword.Script u t.1 (word_first u.words t.0 t.1 (keyword_text Keyword.Script) t.2 t.3))
      (λ left here.
      goes_ok (λ m. lanes_ahead m.0 m.1 >>= (λ l. end_ahead l.1 >>= (λ e. Ok (m.0, l.0)))) (2, lanes) (one_goes Wanted.Version left version_of_word 2 (codes "2") v.1 (here ∙ word_first t.1 v.0 v.1 (codes "2") v.2 v.3) refl)
      (λ next there.
      goes_ok (λ l. end_ahead l.1 >>= (λ e. Ok (2, l.0))) (2, lanes)
      (goes_then (λ b. one_word Wanted.Number b.1 (some_lanes (number_of_word 4 (first_unread b.1)))) lanes [] (keyword_goes Keyword.Lanes next k.1 (there ∙ word_first v.1 k.0 k.1 (keyword_text Keyword.Lanes) k.2 k.3))
      (λ last end. one_goes Wanted.Number last (λ w. some_lanes (number_of_word 4 w)) lanes n.3.0 [] (end ∙ word_first k.1 n.0 n.1 n.3.0 n.2 n.3.1 ∙ ap (λ ws. n.3.0 ∷ ws) n.4) says))
      (λ final done. end_ok final (2, lanes) done)))

pub start_goes : (version lanes : ℕ) (u : UnreadWords) → are_lanes version lanes ≡ true → ReadsParts u.words (start_parts version lanes) → start_ahead u ≡ Ok (version, lanes)
start_goes version lanes u are reads = elim (cases_Bool (version == 2)) [
  | inl e ↦
      let good = laned version lanes are in
      second_start u lanes (λ z. let some = good.some in omega (arith, some, z)) (subst (ReadsParts u.words) (cond-true (version == 2) _ _ e) reads) ∙ ap (λ n. Ok (n, lanes)) (sym (eqb-true version 2 e))
  | inr e ↦
      let good = laned version lanes are in
      let first : 1 ≡ version = sym (version_one version lanes are e) in
      let alone : 1 ≡ lanes = sym (good.one e) in
      first_start u (subst (ReadsParts u.words) (cond-false (version == 2) _ _ e) reads) ∙ (λ i. Ok (first i, alone i))
]
  where
    version_one : (version lanes : ℕ) → are_lanes version lanes ≡ true → (version == 2) ≡ false → version ≡ 1
    version_one version lanes are other = elim (cases_Bool (version == 1)) [
      | inl e ↦ eqb-true version 1 e
      | inr e ↦
          let f : ((version == 2) && not ((lanes == 0) || nat_lt 4 lanes)) ≡ true = sym (cond-false (version == 1) (lanes == 1) ((version == 2) && not ((lanes == 0) || nat_lt 4 lanes)) e) ∙ are in
          let g : false ≡ true = sym (ap (λ b. b && not ((lanes == 0) || nat_lt 4 lanes)) other) ∙ f in cc
    ]

-- what the words of the first line say
pub record StartRead (words : List (List ℕ)) (x : ℕ × ℕ) : Type 0 where
  pub lanes : are_lanes x.0 x.1 ≡ true
  pub reads : ReadsParts words (start_parts x.0 x.1)

version_is : (w : List ℕ) (n : ℕ) → version_of_word w ≡ Ok n → ((w ≡ codes "1") × (n ≡ 1)) ⊎ ((w ≡ codes "2") × (n ≡ 2))
version_is w n is = elim (cases_Bool (pointwise ◌==◌ w (codes "1"))) [
  | inl e ↦ inl ((bytes_decides w (codes "1")).0 e, sym (cause_is 1 n (sym (cond-true (pointwise ◌==◌ w (codes "1")) (Ok 1) _ e) ∙ is)))
  | inr a ↦
      elim (cases_Bool (pointwise ◌==◌ w (codes "2"))) [
        | inl e ↦ inr ((bytes_decides w (codes "2")).0 e, sym (cause_is 2 n (sym (cond-true (pointwise ◌==◌ w (codes "2")) (Ok 2) (Err (Cause.Wanted Wanted.Version)) e) ∙ sym (cond-false (pointwise ◌==◌ w (codes "1")) (Ok 1) _ a) ∙ is)))
        | inr e ↦
            let f : Err (Cause.Wanted Wanted.Version) ≡ Ok n = sym (cond-false (pointwise ◌==◌ w (codes "2")) (Ok 2) (Err (Cause.Wanted Wanted.Version)) e) ∙ sym (cond-false (pointwise ◌==◌ w (codes "1")) (Ok 1) _ a) ∙ is in cc
      ]
]

-- a number of lanes that is not 0
lanes_are : (w : List ℕ) (r : Result ℕ Cause) (lanes : ℕ) → number_of_word 4 w ≡ r → some_lanes r ≡ Ok lanes → SaysNumber 4 lanes w × (lanes ≡ 0 → ⊥)
lanes_are w (Ok n) lanes e is = elim (cases_Bool (n == 0)) [
  | inl z ↦ let f : Err (Cause.OutOfForm Wanted.Lanes) ≡ Ok lanes = sym (cond-true (n == 0) (Err (Cause.OutOfForm Wanted.Lanes)) (Ok n) z) ∙ is in cc
  | inr z ↦
      let same : n ≡ lanes = cause_is n lanes (sym (cond-false (n == 0) (Err (Cause.OutOfForm Wanted.Lanes)) (Ok n) z) ∙ is) in
      let some = eqb-false n 0 z in
      (number_says 4 lanes w (e ∙ ap (λ (m : ℕ). Ok m) same), λ none. some (same ∙ none))
]
lanes_are w (Err cause) lanes e is = cc

four_lanes : (lanes : ℕ) → (lanes ≡ 0 → ⊥) → lanes ≤ 4 → are_lanes 2 lanes ≡ true
four_lanes zero some few = absurd (some refl)
four_lanes (suc zero) some few = refl
four_lanes (suc (suc zero)) some few = refl
four_lanes (suc (suc (suc zero))) some few = refl
four_lanes (suc (suc (suc (suc zero)))) some few = refl
four_lanes (suc (suc (suc (suc (suc n))))) some few = absurd (omega (arith, few))

start_rest : (words mid : List (List ℕ)) (w : List ℕ) (n : ℕ) (v : UnreadWords) (x : ℕ × ℕ) → Took words (key Keyword.Script ∷ []) mid → mid ≡ w ∷ v.words → ((w ≡ codes "1") × (n ≡ 1)) ⊎ ((w ≡ codes "2") × (n ≡ 2))
    → (lanes_ahead n v >>= (λ l. end_ahead l.1 >>= (λ e. Ok (n, l.0)))) ≡ Ok x → StartRead words x
unfolding told_lanes_ahead
start_rest words mid w n v x begun is (inl one) got =
    let got_one : (end_ahead v >>= (λ e. Ok (1, 1))) ≡ Ok x = subst (λ m. (lanes_ahead m v >>= (λ l. end_ahead l.1 >>= (λ e. Ok (m, l.0)))) ≡ Ok x) one.1 got in
    let end = bound (end_ahead v) (λ e. Ok (1, 1)) x got_one in
    let all = took_then begun (fixed_took mid v.words w (codes "1") is one.0) in
    subst (StartRead words) (ok_is (1, 1) x end.done) (record { lanes = refl; reads = reads_all words v.words (start_parts 1 1) all (end_sound v end.value end.begun) })
start_rest words mid w n v x begun is (inr two) got =
    let got_two : (lanes_ahead 2 v >>= (λ l. end_ahead l.1 >>= (λ e. Ok (2, l.0)))) ≡ Ok x = subst (λ m. (lanes_ahead m v >>= (λ l. end_ahead l.1 >>= (λ e. Ok (m, l.0)))) ≡ Ok x) two.1 got in
    let lanes = bound (lanes_ahead 2 v) (λ l. end_ahead l.1 >>= (λ e. Ok (2, l.0))) x got_two in
    let k = bound (keyword_ahead Keyword.Lanes v) (λ b. one_word Wanted.Number b.1 (some_lanes (number_of_word 4 (first_unread b.1)))) lanes.value lanes.begun in
    let m = one_sound Wanted.Number k.value.1 (some_lanes (number_of_word 4 (first_unread k.value.1))) lanes.value k.done in
    let says = lanes_are (first_unread k.value.1) (number_of_word 4 (first_unread k.value.1)) lanes.value.0 refl m.said in
    let end = bound (end_ahead lanes.value.1) (λ e. Ok (2, lanes.value.0)) x lanes.done in
    let few = says.0.room in
    let all =
    took_then begun (took_then (fixed_took mid v.words w (codes "2") is two.0)
    (took_then (keyword_sound Keyword.Lanes v k.value k.begun)
    (took_one k.value.1.words (first_unread k.value.1 ∷ []) lanes.value.1.words (Part.Number Form.Count 4 lanes.value.0) m.words (first_unread k.value.1, refl, says.0)))) in
    subst (StartRead words) (ok_is (2, lanes.value.0) x end.done)
    (record { lanes = four_lanes lanes.value.0 says.1 few; reads = reads_all words lanes.value.1.words (start_parts 2 lanes.value.0) all (end_sound lanes.value.1 end.value end.begun) })

pub start_sound : (u : UnreadWords) (x : ℕ × ℕ) → start_ahead u ≡ Ok x → StartRead u.words x
unfolding start_ahead
start_sound u x is =
    let k = bound (keyword_ahead Keyword.Script u) (λ b. version_ahead b.1 >>= (λ n. lanes_ahead n.0 n.1 >>= (λ l. end_ahead l.1 >>= (λ e. Ok (n.0, l.0))))) x is in
    let version = bound (version_ahead k.value.1) (λ n. lanes_ahead n.0 n.1 >>= (λ l. end_ahead l.1 >>= (λ e. Ok (n.0, l.0)))) x k.done in
    let v = one_sound Wanted.Version k.value.1 (version_of_word (first_unread k.value.1)) version.value version.begun in
    start_rest u.words k.value.1.words (first_unread k.value.1) version.value.0 version.value.1 x (keyword_sound Keyword.Script u k.value k.begun) v.words (version_is (first_unread k.value.1) version.value.0 v.said) version.done

-- ---- numbers in turn
turn_goes : (k : Keyword) (turn : ℕ) (u : UnreadWords) (rest : List (List ℕ)) → Takes u.words (key k ∷ Part.Number Form.Count 254 turn ∷ []) rest → Goes (turn_ahead k turn u) turn rest
unfolding turn_ahead
turn_goes k turn u rest t =
    let n = t.4 in
    let says : in_turn turn (number_of_word 254 n.3.0) ≡ Ok turn = ap (in_turn turn) (says_number 254 turn n.3.0 n.3.2) ∙ cond-true (turn == turn) (Ok turn) (Err (Cause.OutOfTurn turn)) (eq-eqb turn turn refl) in
    goes_then (λ b. one_word Wanted.Number b.1 (in_turn turn (number_of_word 254 (first_unread b.1)))) turn rest (keyword_goes k u t.1 (word_first u.words t.0 t.1 (keyword_text k) t.2 t.3))
    (λ left here. one_goes Wanted.Number left (λ w. in_turn turn (number_of_word 254 w)) turn n.3.0 rest (here ∙ word_first t.1 n.0 n.1 n.3.0 n.2 n.3.1 ∙ ap (λ ws. n.3.0 ∷ ws) n.4) says)

turn_says : (turn : ℕ) (w : List ℕ) (r : Result ℕ Cause) (n : ℕ) → number_of_word 254 w ≡ r → in_turn turn r ≡ Ok n → SaysNumber 254 turn w
turn_says turn w (Ok m) n e is = elim (cases_Bool (m == turn)) [
  | inl same ↦ number_says 254 turn w (e ∙ ap (λ (k : ℕ). Ok k) (eqb-true m turn same))
  | inr other ↦ let f : Err (Cause.OutOfTurn turn) ≡ Ok n = sym (cond-false (m == turn) (Ok m) (Err (Cause.OutOfTurn turn)) other) ∙ is in cc
]
turn_says turn w (Err cause) n e is = cc

turn_sound : (k : Keyword) (turn : ℕ) (u : UnreadWords) (x : ℕ × UnreadWords) → turn_ahead k turn u ≡ Ok x → Took u.words (key k ∷ Part.Number Form.Count 254 turn ∷ []) x.1.words
unfolding turn_ahead
turn_sound k turn u x is =
    let b = bound (keyword_ahead k u) (λ b. one_word Wanted.Number b.1 (in_turn turn (number_of_word 254 (first_unread b.1)))) x is in
    let n = one_sound Wanted.Number b.value.1 (in_turn turn (number_of_word 254 (first_unread b.value.1))) x b.done in
    took_then (keyword_sound k u b.value b.begun)
    (took_one b.value.1.words (first_unread b.value.1 ∷ []) x.1.words (Part.Number Form.Count 254 turn) n.words (first_unread b.value.1, refl, turn_says turn (first_unread b.value.1) (number_of_word 254 (first_unread b.value.1)) x.0 refl n.said))

-- ---- block sizes and decode lengths
sizes_goes : (mask : ℕ) (u : UnreadWords) (rest : List (List ℕ)) → Takes u.words (key Keyword.Sizes ∷ Part.Sizes mask ∷ []) rest → Goes (sizes_ahead u) mask rest
unfolding sizes_ahead
sizes_goes mask u rest t =
    let n = t.4 in
    goes_then (λ b. one_word Wanted.Sizes b.1 (sizes_or (sizes_said (first_unread b.1)))) mask rest (keyword_goes Keyword.Sizes u t.1 (word_first u.words t.0 t.1 (keyword_text Keyword.Sizes) t.2 t.3))
    (λ left here. one_goes Wanted.Sizes left (λ w. sizes_or (sizes_said w)) mask n.3.0 rest (here ∙ word_first t.1 n.0 n.1 n.3.0 n.2 n.3.1 ∙ ap (λ ws. n.3.0 ∷ ws) n.4) (ap sizes_or n.3.2))

sizes_say : (w : List ℕ) (o : Option ℕ) (mask : ℕ) → sizes_said w ≡ o → sizes_or o ≡ Ok mask → sizes_said w ≡ Some mask
sizes_say w None mask e is = cc
sizes_say w (Some m) mask e is = e ∙ ap Some (cause_is m mask is)

sizes_sound : (u : UnreadWords) (x : ℕ × UnreadWords) → sizes_ahead u ≡ Ok x → Took u.words (key Keyword.Sizes ∷ Part.Sizes x.0 ∷ []) x.1.words
unfolding sizes_ahead
sizes_sound u x is =
    let b = bound (keyword_ahead Keyword.Sizes u) (λ b. one_word Wanted.Sizes b.1 (sizes_or (sizes_said (first_unread b.1)))) x is in
    let n = one_sound Wanted.Sizes b.value.1 (sizes_or (sizes_said (first_unread b.value.1))) x b.done in
    took_then (keyword_sound Keyword.Sizes u b.value b.begun)
    (took_one b.value.1.words (first_unread b.value.1 ∷ []) x.1.words (Part.Sizes x.0) n.words (first_unread b.value.1, refl, sizes_say (first_unread b.value.1) (sizes_said (first_unread b.value.1)) x.0 refl n.said))

decode_goes : (units : ℕ) (u : UnreadWords) (rest : List (List ℕ)) → Takes u.words (key Keyword.Decode ∷ Part.Number Form.Size most_64 (units * 2 ^ 28) ∷ []) rest → Goes (decode_ahead u) units rest
unfolding decode_ahead
decode_goes units u rest t =
    let n = t.4 in
    let whole : (units * 2 ^ 28 % 2 ^ 28 == 0) ≡ true = eq-eqb (units * 2 ^ 28 % 2 ^ 28) 0 (omega arith) in
    let again : units * 2 ^ 28 / 2 ^ 28 ≡ units = omega arith in
    let says : in_units (number_of_word most_64 n.3.0) ≡ Ok units =
    ap in_units (says_number most_64 (units * 2 ^ 28) n.3.0 n.3.2) ∙ cond-true (units * 2 ^ 28 % 2 ^ 28 == 0) (Ok (units * 2 ^ 28 / 2 ^ 28)) (Err (Cause.OutOfForm Wanted.Decode)) whole ∙ ap (λ (k : ℕ). Ok k) again in
    goes_then (λ b. one_word Wanted.Number b.1 (in_units (number_of_word most_64 (first_unread b.1)))) units rest (keyword_goes Keyword.Decode u t.1 (word_first u.words t.0 t.1 (keyword_text Keyword.Decode) t.2 t.3))
    (λ left here. one_goes Wanted.Number left (λ w. in_units (number_of_word most_64 w)) units n.3.0 rest (here ∙ word_first t.1 n.0 n.1 n.3.0 n.2 n.3.1 ∙ ap (λ ws. n.3.0 ∷ ws) n.4) says)

units_say : (w : List ℕ) (r : Result ℕ Cause) (units : ℕ) → number_of_word most_64 w ≡ r → in_units r ≡ Ok units → SaysNumber most_64 (units * 2 ^ 28) w
units_say w (Ok m) units e is = elim (cases_Bool (m % 2 ^ 28 == 0)) [
  | inl whole ↦
      let same : m / 2 ^ 28 ≡ units = cause_is (m / 2 ^ 28) units (sym (cond-true (m % 2 ^ 28 == 0) (Ok (m / 2 ^ 28)) (Err (Cause.OutOfForm Wanted.Decode)) whole) ∙ is) in
      let none = eqb-true (m % 2 ^ 28) 0 whole in
      let all : m ≡ units * 2 ^ 28 = omega (arith, none, same) in
      number_says most_64 (units * 2 ^ 28) w (e ∙ ap (λ (k : ℕ). Ok k) all)
  | inr part ↦ let f : Err (Cause.OutOfForm Wanted.Decode) ≡ Ok units = sym (cond-false (m % 2 ^ 28 == 0) (Ok (m / 2 ^ 28)) (Err (Cause.OutOfForm Wanted.Decode)) part) ∙ is in cc
]
units_say w (Err cause) units e is = cc

decode_sound : (u : UnreadWords) (x : ℕ × UnreadWords) → decode_ahead u ≡ Ok x → Took u.words (key Keyword.Decode ∷ Part.Number Form.Size most_64 (x.0 * 2 ^ 28) ∷ []) x.1.words
unfolding decode_ahead
decode_sound u x is =
    let b = bound (keyword_ahead Keyword.Decode u) (λ b. one_word Wanted.Number b.1 (in_units (number_of_word most_64 (first_unread b.1)))) x is in
    let n = one_sound Wanted.Number b.value.1 (in_units (number_of_word most_64 (first_unread b.value.1))) x b.done in
    took_then (keyword_sound Keyword.Decode u b.value b.begun)
    (took_one b.value.1.words (first_unread b.value.1 ∷ []) x.1.words (Part.Number Form.Size most_64 (x.0 * 2 ^ 28)) n.words (first_unread b.value.1, refl, units_say (first_unread b.value.1) (number_of_word most_64 (first_unread b.value.1)) x.0 refl n.said))

-- ---- regions
flag_not : (k other : Keyword) (set : Bool) (words front behind : List (List ℕ)) → pointwise ◌==◌ (keyword_text other) (keyword_text k) ≡ false → words ≡ front ++ behind → ReadsPart front (Part.Flag other set) → IsNot k behind → IsNot k words
flag_not k other set words front behind differs is (inl absent) rest = subst (IsNot k) (sym (is ∙ ap (λ ws. ws ++ behind) absent.0)) rest
flag_not k other set words front behind differs is (inr present) rest = ap (λ ws. pointwise ◌==◌ (leading_word ws) (keyword_text k)) (is ∙ ap (λ ws. ws ++ behind) present.0) ∙ differs

-- the parts of a region up to its decode length
abbrev front_parts : ℕ → RegionSpec → List Part
front_parts number region =
    key Keyword.Region ∷ Part.Number Form.Count 254 number
    ∷ key Keyword.Length ∷ Part.Number Form.Size most_64 region.length
    ∷ key Keyword.Block ∷ Part.Number Form.Size most_64 region.block
    ∷ key Keyword.Sizes ∷ Part.Sizes region.sizes
    ∷ key Keyword.Decode ∷ Part.Number Form.Size most_64 (region.decode_units * 2 ^ 28)
    ∷ []

abbrev back_parts : RegionSpec → List Part
back_parts region = Part.May Keyword.Handle Form.Count most_32 region.handle ∷ Part.Flag Keyword.Sanitize region.sanitize ∷ Part.Flag Keyword.Shareable region.shareable ∷ []

-- a region with what stands before its handle alone
abbrev plain_region : RegionSpec → RegionSpec
plain_region region = record { decode_units = region.decode_units; length = region.length; block = region.block; sizes = region.sizes; handle = 0; sanitize = false; shareable = false }

front_goes : (number : ℕ) (region : RegionSpec) (u : UnreadWords) (rest : List (List ℕ)) → Takes u.words (front_parts number region) rest → Goes (extent_of_region_ahead number u) (plain_region region) rest
unfolding extent_of_region_ahead
front_goes number region u rest t =
    let a = split_parts u.words rest (key Keyword.Region ∷ Part.Number Form.Count 254 number ∷ []) (key Keyword.Length ∷ Part.Number Form.Size most_64 region.length ∷ key Keyword.Block ∷ Part.Number Form.Size most_64 region.block ∷ key Keyword.Sizes ∷ Part.Sizes region.sizes ∷ key Keyword.Decode ∷ Part.Number Form.Size most_64 (region.decode_units * 2 ^ 28) ∷ []) t in
    let b = split_parts a.mid rest (key Keyword.Length ∷ Part.Number Form.Size most_64 region.length ∷ []) (key Keyword.Block ∷ Part.Number Form.Size most_64 region.block ∷ key Keyword.Sizes ∷ Part.Sizes region.sizes ∷ key Keyword.Decode ∷ Part.Number Form.Size most_64 (region.decode_units * 2 ^ 28) ∷ []) a.back in
    let d = split_parts b.mid rest (key Keyword.Block ∷ Part.Number Form.Size most_64 region.block ∷ []) (key Keyword.Sizes ∷ Part.Sizes region.sizes ∷ key Keyword.Decode ∷ Part.Number Form.Size most_64 (region.decode_units * 2 ^ 28) ∷ []) b.back in
    let e = split_parts d.mid rest (key Keyword.Sizes ∷ Part.Sizes region.sizes ∷ []) (key Keyword.Decode ∷ Part.Number Form.Size most_64 (region.decode_units * 2 ^ 28) ∷ []) d.back in
    goes_then _ (plain_region region) rest (turn_goes Keyword.Region number u a.mid a.front)
    (λ v1 i1. goes_then _ (plain_region region) rest (named_goes Keyword.Length Form.Size most_64 region.length v1 b.mid (subst (λ ws. Takes ws (key Keyword.Length ∷ Part.Number Form.Size most_64 region.length ∷ []) b.mid) (sym i1) b.front))
    (λ v2 i2. goes_then _ (plain_region region) rest (named_goes Keyword.Block Form.Size most_64 region.block v2 d.mid (subst (λ ws. Takes ws (key Keyword.Block ∷ Part.Number Form.Size most_64 region.block ∷ []) d.mid) (sym i2) d.front))
    (λ v3 i3. goes_then _ (plain_region region) rest (sizes_goes region.sizes v3 e.mid (subst (λ ws. Takes ws (key Keyword.Sizes ∷ Part.Sizes region.sizes ∷ []) e.mid) (sym i3) e.front))
    (λ v4 i4. goes_made (decode_ahead v4) region.decode_units rest (λ units. record { decode_units = units; length = region.length; block = region.block; sizes = region.sizes; handle = 0; sanitize = false; shareable = false })
    (decode_goes region.decode_units v4 rest (subst (λ ws. Takes ws (key Keyword.Decode ∷ Part.Number Form.Size most_64 (region.decode_units * 2 ^ 28) ∷ []) rest) (sym i4) e.back))))))

pub region_goes : (number : ℕ) (region : RegionSpec) (u : UnreadWords) → ReadsParts u.words (region_parts number region) → region_ahead number u ≡ Ok region
unfolding region_ahead
region_goes number region u reads =
    let s = split_parts u.words [] (front_parts number region) (back_parts region) reads.all in
    let handle = s.back in
    let sanitize = handle.4 in
    let shareable = sanitize.4 in
    let last : shareable.1 ≡ [] = shareable.4 in
    let third : sanitize.1 ≡ shareable.0 ++ [] = word_last sanitize.1 shareable.0 shareable.1 shareable.2 last in
    let no_handle : IsNot Keyword.Handle handle.1 =
    flag_not Keyword.Handle Keyword.Sanitize region.sanitize handle.1 sanitize.0 sanitize.1 refl sanitize.2 sanitize.3
    (flag_not Keyword.Handle Keyword.Shareable region.shareable sanitize.1 shareable.0 [] refl third shareable.3 refl) in
    let no_sanitize : IsNot Keyword.Sanitize sanitize.1 = flag_not Keyword.Sanitize Keyword.Shareable region.shareable sanitize.1 shareable.0 [] refl third shareable.3 refl in
    goes_ok _ region (front_goes number region u s.mid s.front)
    (λ v1 i1. goes_ok _ region (may_goes Keyword.Handle Form.Count most_32 region.handle v1 handle.0 handle.1 (i1 ∙ handle.2) handle.3 no_handle)
    (λ v2 i2.
    let one = flag_goes Keyword.Sanitize v2 region.sanitize sanitize.0 sanitize.1 (i2 ∙ sanitize.2) sanitize.3 no_sanitize in
    let two = flag_goes Keyword.Shareable one.left region.shareable shareable.0 [] (one.words ∙ third) shareable.3 refl in
    ap (λ (f : Bool × UnreadWords). let g = flag_ahead Keyword.Shareable f.1 in end_ahead g.1 >>= (λ e. Ok (record (plain_region region) { handle = region.handle; sanitize = f.0; shareable = g.0 }))) one.is
    ∙ ap (λ (g : Bool × UnreadWords). end_ahead g.1 >>= (λ e. Ok (record (plain_region region) { handle = region.handle; sanitize = region.sanitize; shareable = g.0 }))) two.is
    ∙ end_ok two.left region two.words))

-- a region that was read
front_sound : (number : ℕ) (u : UnreadWords) (x : RegionSpec × UnreadWords) → extent_of_region_ahead number u ≡ Ok x → Took u.words (front_parts number x.0) x.1.words
unfolding extent_of_region_ahead
front_sound number u x is =
    let n = bound (turn_ahead Keyword.Region number u) _ x is in
    let size = bound (named_ahead Keyword.Length most_64 n.value.1) _ x n.done in
    let block = bound (named_ahead Keyword.Block most_64 size.value.1) _ x size.done in
    let sizes = bound (sizes_ahead block.value.1) _ x block.done in
    let decode = bound (decode_ahead sizes.value.1) _ x sizes.done in
    subst (λ (p : RegionSpec × UnreadWords). Took u.words (front_parts number p.0) p.1.words) (ok_is _ x decode.done)
    (took_then (turn_sound Keyword.Region number u n.value n.begun)
    (took_then (named_sound Keyword.Length Form.Size most_64 n.value.1 size.value size.begun)
    (took_then (named_sound Keyword.Block Form.Size most_64 size.value.1 block.value block.begun)
    (took_then (sizes_sound block.value.1 sizes.value sizes.begun) (decode_sound sizes.value.1 decode.value decode.begun)))))

pub region_sound : (number : ℕ) (u : UnreadWords) (region : RegionSpec) → region_ahead number u ≡ Ok region → ReadsParts u.words (region_parts number region)
unfolding region_ahead
region_sound number u region is =
    let front = bound (extent_of_region_ahead number u) _ region is in
    let handle = bound (may_ahead Keyword.Handle most_32 front.value.1) _ region front.done in
    let sanitize = flag_ahead Keyword.Sanitize handle.value.1 in
    let shareable = flag_ahead Keyword.Shareable sanitize.1 in
    let end = bound (end_ahead shareable.1) (λ e. Ok (record front.value.0 { handle = handle.value.0; sanitize = sanitize.0; shareable = shareable.0 })) region handle.done in
    let made : RegionSpec = record front.value.0 { handle = handle.value.0; sanitize = sanitize.0; shareable = shareable.0 } in
    subst (λ (r : RegionSpec). ReadsParts u.words (region_parts number r)) (ok_is made region end.done)
    (reads_all u.words shareable.1.words (region_parts number made)
    (took_then (front_sound number u front.value front.begun)
    (took_then (may_sound Keyword.Handle Form.Count most_32 front.value.1 handle.value handle.begun)
    (took_then (flag_sound Keyword.Sanitize handle.value.1) (flag_sound Keyword.Shareable sanitize.1))))
    (end_sound shareable.1 end.value end.begun))

-- ---- hosts
bases_goes : (bases : List ℕ) (u : UnreadWords) (rest : List (List ℕ)) → Takes u.words (base_parts bases) rest → Goes (bases_at (length bases) u) bases rest
unfolding bases_at
bases_goes [] u rest t = record { left = u; is = refl; words = t }
bases_goes (base ∷ bases) u rest t =
    goes_then (λ b. bases_behind (b.0 ∷ []) (bases_at (length bases) b.1)) (base ∷ bases) rest (number_goes Form.Size most_64 base u t.0 t.1 t.2 t.3)
    (λ left here.
    let g = bases_goes bases left rest (subst (λ ws. Takes ws (base_parts bases) rest) (sym here) t.4) in
    record { left = g.left; is = ap (bases_behind (base ∷ [])) g.is; words = g.words })

-- the bases that were read, and the words behind them
pub record BasesRead (count : ℕ) (words : List (List ℕ)) (x : List ℕ × UnreadWords) : Type 0 where
  pub took : Took words (base_parts x.0) x.1.words
  pub all : length x.0 ≡ count

bases_is : (base : ℕ) (read : Result (List ℕ × UnreadWords) TextFault) (x : List ℕ × UnreadWords) → bases_behind (base ∷ []) read ≡ Ok x → (y : List ℕ × UnreadWords) × (read ≡ Ok y) × ((base ∷ y.0, y.1) ≡ x)
bases_is base (Ok y) x is = (y, refl, ok_is (base ∷ y.0, y.1) x is)
bases_is base (Err fault) x is = cc

bases_sound : (count : ℕ) (u : UnreadWords) (x : List ℕ × UnreadWords) → bases_at count u ≡ Ok x → BasesRead count u.words x
unfolding bases_at
bases_sound zero u x is = subst (BasesRead 0 u.words) (ok_is ([], u) x is) (record { took = record { all = refl }; all = refl })
bases_sound (suc n) u x is =
    let base = bound (number_ahead most_64 u) (λ b. bases_behind (b.0 ∷ []) (bases_at n b.1)) x is in
    let more = bases_is base.value.0 (bases_at n base.value.1) x base.done in
    let rest = bases_sound n base.value.1 more.0 more.1 in
    subst (BasesRead (suc n) u.words) more.2
    (record { took = took_then (number_sound Form.Size most_64 u base.value base.begun) rest.took; all = ap suc rest.all })

pub host_goes : (regions turn : ℕ) (bases : List ℕ) (u : UnreadWords) → length bases ≡ regions → ReadsParts u.words (host_parts turn bases) → host_line_ahead regions turn u ≡ Ok bases
unfolding host_line_ahead
host_goes regions turn bases u all reads =
    let a = split_parts u.words [] (key Keyword.Host ∷ Part.Number Form.Count 254 turn ∷ []) (key Keyword.Bases ∷ base_parts bases) reads.all in
    let k = a.back in
    goes_ok _ bases (turn_goes Keyword.Host turn u a.mid a.front)
    (λ v1 i1. goes_ok _ bases (keyword_goes Keyword.Bases v1 k.1 (i1 ∙ word_first a.mid k.0 k.1 (keyword_text Keyword.Bases) k.2 k.3))
    (λ v2 i2. goes_ok _ bases (subst (λ n. Goes (bases_at n v2) bases []) all (bases_goes bases v2 [] (subst (λ ws. Takes ws (base_parts bases) []) (sym i2) k.4)))
    (λ v3 i3. end_ok v3 bases i3)))

-- a host that was read
pub record HostRead (regions turn : ℕ) (words : List (List ℕ)) (bases : List ℕ) : Type 0 where
  pub reads : ReadsParts words (host_parts turn bases)
  pub all : length bases ≡ regions

pub host_sound : (regions turn : ℕ) (u : UnreadWords) (bases : List ℕ) → host_line_ahead regions turn u ≡ Ok bases → HostRead regions turn u.words bases
unfolding host_line_ahead
host_sound regions turn u bases is =
    let n = bound (turn_ahead Keyword.Host turn u) _ bases is in
    let k = bound (keyword_ahead Keyword.Bases n.value.1) _ bases n.done in
    let list = bound (bases_at regions k.value.1) _ bases k.done in
    let end = bound (end_ahead list.value.1) (λ e. Ok list.value.0) bases list.done in
    let read = bases_sound regions k.value.1 list.value list.begun in
    subst (HostRead regions turn u.words) (ok_is list.value.0 bases end.done)
    (record {
      reads = reads_all u.words list.value.1.words (host_parts turn list.value.0)
          (took_then (turn_sound Keyword.Host turn u n.value n.begun) (took_then (keyword_sound Keyword.Bases n.value.1 k.value k.begun) read.took)) (end_sound list.value.1 end.value end.begun);
      all = read.all;
    })
