-- What is printed of an actor says it.
use Rattle.std.proofs.Common.{◌≡◌, ℕ, ◌<◌, true, false, cond, not, ◌==◌, ◌&&◌, nat_lt, List, [], ◌∷◌, ◌++◌, length, Some, Ok, Err, refl, sym, ap, ◌∙◌, subst, inl, inr, arith, append_assoc, length-append, decimal}
use Rattle.std.proofs.lemmas.Bool.{and_from, and_parts, cases_Bool, cond-false, cond-true, eqb-true, lt-ltb, ltb-true}
use Rattle.std.specs.{List.list_all, Prelude.codes}
use Rattle.dcd_base.specs.declared.steps.Actor.{Actor}
use Rattle.text_lines.proofs.PrintedNumbers.{decimal_digits, decimal_reads, number_high}
use Rattle.text_lines.proofs.PrintedWords.{after_sign, before_sign, joined_word, number_is_word, sign_at}
use Rattle.text_lines.specs.{Characters.IsNumberWord, Characters.IsTextWord, Characters.passed_from, Characters.is_high, Characters.is_other, Extents.after, Extents.before}
use Rattle.text_lines.specs.{Numbers.digits_said, Numbers.under, Parts.Part, declared.actors.Frame.Frame, declared.faults.Wanted.Wanted, declared.word_faults.NumberFault.NumberFault}
use Rattle.text_lines.specs.script_codec.specs.Scripts.{are_lanes, bad_lanes}
use Rattle.text_lines.specs.Actors.{SaysActor, actor_of_seat, actor_of_word, actor_text, has_dot, host_said, host_text, seat_of_parts, seat_said, seat_text}
use Rattle.script_text.proofs.{PrintLaws.adds_word, PrintLaws.space_then, PrintLaws.starts_word, PrintedParts.host_reads}
use Rattle.script_text.specs.LinePrinting.{AddsParts, IsSmall, StartsLine, has_word}

number_word : (n : ℕ) → n < 256 → IsNumberWord (decimal n)
number_word n low = number_high n (decimal n) (decimal_reads n (omega (arith, low)))

digits_of : (n : ℕ) → n < 256 → digits_said 10 (decimal n) ≡ Some n
digits_of n low = decimal_digits n (omega (arith, low))

h_number : (host : ℕ) → host < 256 → IsNumberWord (host_text host)
h_number host low = (and_from (is_high 104) (list_all is_high (decimal host)) refl (number_word host low).0, omega arith)

below_limit : (limit n : ℕ) → nat_lt n limit ≡ true → under limit (Some n) ≡ Ok n
below_limit limit n low = ap (λ test. cond test (Ok n) (Err NumberFault.TooLarge)) low

-- a host and a lane behind a dot
dotted : (frame : Frame) (host lane : ℕ) → host < 256 → lane < 256 → (frame.version == 2) ≡ true → nat_lt host frame.hosts ≡ true → nat_lt lane frame.lanes ≡ true → seat_said frame (host_text host ++ 46 ∷ decimal lane) ≡ Ok (host, lane)
unfolding seat_said
dotted frame host lane small short second hosts lanes =
    let word : List ℕ = host_text host ++ 46 ∷ decimal lane in
    let high : list_all is_high (host_text host) ≡ true = (h_number host small).0 in
    let place : passed_from (is_other 46) 0 word ≡ length (host_text host) = sign_at 46 (host_text host) (decimal lane) (omega arith) high in
    let dot : has_dot word ≡ true = lt-ltb (passed_from (is_other 46) 0 word) (length word) (omega (arith, place, length-append (host_text host) (46 ∷ decimal lane))) in
    let front : under frame.hosts (host_said (before 46 word)) ≡ Ok host =
    ap (λ w. under frame.hosts (host_said w)) (before_sign 46 (host_text host) (decimal lane) (omega arith) high) ∙ ap (under frame.hosts) (host_reads host (digits_of host small)) ∙ below_limit frame.hosts host hosts in
    let back : under frame.lanes (digits_said 10 (after 46 word)) ≡ Ok lane =
    ap (λ w. under frame.lanes (digits_said 10 w)) (after_sign 46 (host_text host) (decimal lane) (omega arith) high) ∙ ap (under frame.lanes) (digits_of lane short) ∙ below_limit frame.lanes lane lanes in
    cond-true ((frame.version == 2) && has_dot word) _ _ (and_from (frame.version == 2) (has_dot word) second dot) ∙ (λ i. seat_of_parts (front i) (back i))

-- a host alone, whose lane is 0
undotted : (frame : Frame) (host lane : ℕ) → host < 256 → (frame.version == 2) ≡ false → nat_lt host frame.hosts ≡ true → nat_lt lane frame.lanes ≡ true → lane ≡ 0 → seat_said frame (host_text host) ≡ Ok (host, lane)
unfolding seat_said
undotted frame host lane small other hosts lanes first =
    let front : under frame.hosts (host_said (host_text host)) ≡ Ok host = ap (under frame.hosts) (host_reads host (digits_of host small)) ∙ below_limit frame.hosts host hosts in
    let back : under frame.lanes (Some 0) ≡ Ok lane = ap (λ n. under frame.lanes (Some n)) (sym first) ∙ below_limit frame.lanes lane lanes in
    cond-false ((frame.version == 2) && has_dot (host_text host)) _ _ (ap (λ b. b && has_dot (host_text host)) other) ∙ (λ i. seat_of_parts (front i) (back i))

-- version 1 has lane 0 alone
first_lane : (version lanes lane : ℕ) → are_lanes version lanes ≡ true → (version == 2) ≡ false → nat_lt lane lanes ≡ true → lane ≡ 0
first_lane version lanes lane are other low = elim (cases_Bool (version == 1)) [
  | inl e ↦
      let one : (lanes == 1) ≡ true = sym (cond-true (version == 1) (lanes == 1) _ e) ∙ are in
      let a = eqb-true lanes 1 one in
      let b = ltb-true lane lanes low in
      omega (arith, a, b)
  | inr e ↦
      let two = and_parts (version == 2) (not (bad_lanes lanes)) (sym (cond-false (version == 1) (lanes == 1) ((version == 2) && not (bad_lanes lanes)) e) ∙ are) in
      let f : false ≡ true = sym other ∙ two.0 in cc
]

seat_text_is : (version host lane : ℕ) → (version == 2) ≡ true → seat_text version host lane ≡ host_text host ++ 46 ∷ decimal lane
seat_text_is version host lane second = cond-true (version == 2) _ _ second ∙ append_assoc (host_text host) (46 ∷ []) (decimal lane)

seat_text_alone : (version host lane : ℕ) → (version == 2) ≡ false → seat_text version host lane ≡ host_text host
seat_text_alone version host lane other = cond-false (version == 2) _ _ other

-- A word that says the actor in that lane.
pub record WordOf (frame : Frame) (actor : Actor) (lane : ℕ) (word : List ℕ) : Type 0 where
  pub says : SaysActor frame actor lane word
  pub plain : IsTextWord word

host_says : (frame : Frame) (host lane : ℕ) → are_lanes frame.version frame.lanes ≡ true → nat_lt host frame.hosts ≡ true → nat_lt lane frame.lanes ≡ true → host < 256 → lane < 256 → WordOf frame (Actor.Host host) lane (seat_text frame.version host lane)
unfolding actor_of_word
host_says frame host lane are hosts lanes small short = elim (cases_Bool (frame.version == 2)) [
  | inl e ↦
      let text = seat_text_is frame.version host lane e in
      subst (WordOf frame (Actor.Host host) lane) (sym text) (record {
        says = ap (actor_of_seat Wanted.Actor) (dotted frame host lane small short e hosts lanes);
        plain = joined_word 46 (host_text host) (decimal lane) (omega arith) (h_number host small) (number_word lane short);
      })
  | inr e ↦
      let text = seat_text_alone frame.version host lane e in
      subst (WordOf frame (Actor.Host host) lane) (sym text) (record {
        says = ap (actor_of_seat Wanted.Actor) (undotted frame host lane small e hosts lanes (first_lane frame.version frame.lanes lane are e lanes));
        plain = number_is_word (host_text host) (h_number host small);
      })
]

manager_says : (frame : Frame) → WordOf frame Actor.Manager 0 (codes "fm")
unfolding actor_of_word
manager_says frame = record { says = (refl, refl); plain = (refl, omega arith) }

actor_says : (frame : Frame) (actor : Actor) (lane : ℕ) → are_lanes frame.version frame.lanes ≡ true → has_word frame actor lane ≡ true → IsSmall actor lane → WordOf frame actor lane (actor_text frame.version actor lane)
actor_says frame (Actor.Host host) lane are has small =
    let p = and_parts (nat_lt host frame.hosts) (nat_lt lane frame.lanes) has in
    host_says frame host lane are p.0 p.1 small.0 small.1
actor_says frame Actor.Manager lane are has small = subst (λ n. WordOf frame Actor.Manager n (codes "fm")) (sym (eqb-true lane 0 has)) (manager_says frame)
actor_says frame Actor.Sanitizer lane are has small = cc

pub actor_starts : {old new : List ℕ} (frame : Frame) (actor : Actor) (lane : ℕ) → are_lanes frame.version frame.lanes ≡ true → has_word frame actor lane ≡ true → IsSmall actor lane → new ≡ old ++ actor_text frame.version actor lane → StartsLine old new (Part.ActorOf frame actor lane)
actor_starts frame actor lane are has small put =
    let w = actor_says frame actor lane are has small in
    starts_word (Part.ActorOf frame actor lane) (actor_text frame.version actor lane) refl (actor_text frame.version actor lane, refl, w.says) w.plain put

pub actor_adds : {old mid new : List ℕ} (frame : Frame) (actor : Actor) (lane : ℕ) → are_lanes frame.version frame.lanes ≡ true → has_word frame actor lane ≡ true → IsSmall actor lane → mid ≡ old ++ 32 ∷ [] → new ≡ mid ++ actor_text frame.version actor lane → AddsParts old new (Part.ActorOf frame actor lane ∷ [])
actor_adds frame actor lane are has small space put =
    let w = actor_says frame actor lane are has small in
    adds_word (Part.ActorOf frame actor lane) (actor_text frame.version actor lane) refl (actor_text frame.version actor lane, refl, w.says) w.plain (space_then _ (actor_text frame.version actor lane) space put)
