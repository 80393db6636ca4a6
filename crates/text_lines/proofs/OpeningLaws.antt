-- What the first word of a line begins.
use Rattle.std.proofs.Common.{◌≡◌, ℕ, Bool, true, false, cond, ◌==◌, ◌&&◌, ◌⊎◌, List, Some, None, Result, Ok, Err, refl, sym, ap, ◌∙◌, subst, inl, inr}
use lib.Pointwise.{pointwise, bytes_decides}
use Rattle.std.{specs.Prelude.Option, specs.Prelude.codes, proofs.lemmas.Bool.cases_Bool, proofs.lemmas.Bool.cond-false, proofs.lemmas.Bool.cond-true}
use Rattle.text_lines.specs.{Actors.actor_of_seat, Actors.actor_of_word, Actors.has_dot, Actors.host_said, Actors.is_manager_word, Actors.seat_of_parts, Actors.seat_said, Keywords.keyword_text}
use Rattle.text_lines.specs.{Lines.opening_of_actor, Lines.opening_of_word, Numbers.digits_from, Numbers.under, declared.actors.Frame.Frame, declared.actors.Speaker.Speaker}
use Rattle.text_lines.specs.declared.{faults.Cause.Cause, faults.Wanted.Wanted, keywords.Keyword.Keyword, openings.Opening.Opening, word_faults.NumberFault.NumberFault}

-- ---- words that are no actors
no_dot : (b : Bool) → (b && false) ≡ false
no_dot true = refl
no_dot false = refl

no_seat : (frame : Frame) (word : List ℕ) → has_dot word ≡ false → host_said word ≡ None → seat_said frame word ≡ Err NumberFault.NoNumber
unfolding seat_said
no_seat frame word plain none =
    cond-false ((frame.version == 2) && has_dot word) _ _ (ap (λ b. (frame.version == 2) && b) plain ∙ no_dot (frame.version == 2))
    ∙ ap (λ (o : Option ℕ). seat_of_parts (under frame.hosts o) (under frame.lanes (Some 0))) none

no_actor : (frame : Frame) (wanted : Wanted) (word : List ℕ) → is_manager_word word ≡ false → has_dot word ≡ false → host_said word ≡ None → actor_of_word frame wanted word ≡ Err (Cause.Wanted wanted)
unfolding actor_of_word
no_actor frame wanted word other plain none = cond-false (is_manager_word word) _ _ other ∙ ap (actor_of_seat wanted) (no_seat frame word plain none)

mark_no_actor : (frame : Frame) (wanted : Wanted) → actor_of_word frame wanted (codes "mark") ≡ Err (Cause.Wanted wanted)
unfolding host_said
mark_no_actor frame wanted = no_actor frame wanted (codes "mark") refl refl refl

scrub_no_actor : (frame : Frame) (wanted : Wanted) → actor_of_word frame wanted (codes "scrub") ≡ Err (Cause.Wanted wanted)
unfolding host_said
scrub_no_actor frame wanted = no_actor frame wanted (codes "scrub") refl refl refl

command_no_actor : (frame : Frame) (wanted : Wanted) → actor_of_word frame wanted (codes "command") ≡ Err (Cause.Wanted wanted)
unfolding host_said
command_no_actor frame wanted = no_actor frame wanted (codes "command") refl refl refl

host_no_actor : (frame : Frame) (wanted : Wanted) → actor_of_word frame wanted (keyword_text Keyword.Host) ≡ Err (Cause.Wanted wanted)
unfolding host_said digits_from
host_no_actor frame wanted = no_actor frame wanted (keyword_text Keyword.Host) refl refl refl

-- ---- what is wanted matters only where there is no actor
pub actor_same : (frame : Frame) (a b : Wanted) (word : List ℕ) (speaker : Speaker) → actor_of_word frame a word ≡ Ok speaker → actor_of_word frame b word ≡ Ok speaker
unfolding actor_of_word
actor_same frame a b word speaker is = elim (cases_Bool (is_manager_word word)) [
  | inl e ↦ cond-true (is_manager_word word) (Ok Speaker.Manager) (actor_of_seat b (seat_said frame word)) e ∙ (sym (cond-true (is_manager_word word) (Ok Speaker.Manager) (actor_of_seat a (seat_said frame word)) e) ∙ is)
  | inr e ↦ cond-false (is_manager_word word) (Ok Speaker.Manager) (actor_of_seat b (seat_said frame word)) e ∙ seat_same (seat_said frame word) (sym (cond-false (is_manager_word word) (Ok Speaker.Manager) (actor_of_seat a (seat_said frame word)) e) ∙ is)
]
  where
    seat_same : (seat : Result (ℕ × ℕ) NumberFault) → actor_of_seat a seat ≡ Ok speaker → actor_of_seat b seat ≡ Ok speaker
    seat_same (Ok s) f = f
    seat_same (Err NumberFault.NoNumber) f = cc
    seat_same (Err NumberFault.TooLarge) f = cc

-- ---- what opens a line
not_this : (frame : Frame) (word other : List ℕ) (speaker : Speaker) → actor_of_word frame Wanted.Actor other ≡ Err (Cause.Wanted Wanted.Actor) → actor_of_word frame Wanted.Actor word ≡ Ok speaker → pointwise ◌==◌ word other ≡ false
not_this frame word other speaker none is = elim (cases_Bool (pointwise ◌==◌ word other)) [
  | inl e ↦ let f : Err (Cause.Wanted Wanted.Actor) ≡ Ok speaker = sym none ∙ ap (actor_of_word frame Wanted.Actor) (sym ((bytes_decides word other).0 e)) ∙ is in cc
  | inr e ↦ e
]

pub opens_mark : (frame : Frame) → opening_of_word frame (codes "mark") ≡ Ok Opening.Mark
unfolding opening_of_word
opens_mark frame = refl

pub opens_scrub : (frame : Frame) → opening_of_word frame (codes "scrub") ≡ Ok Opening.Scrub
unfolding opening_of_word
opens_scrub frame = refl

pub opens_command : (frame : Frame) → opening_of_word frame (codes "command") ≡ Ok Opening.Command
unfolding opening_of_word
opens_command frame = refl

pub opens_actor : (frame : Frame) (word : List ℕ) (speaker : Speaker) → actor_of_word frame Wanted.Actor word ≡ Ok speaker → opening_of_word frame word ≡ Ok (Opening.By speaker)
unfolding opening_of_word
opens_actor frame word speaker is =
    cond-false (pointwise ◌==◌ word (codes "mark")) _ _ (not_this frame word (codes "mark") speaker (mark_no_actor frame Wanted.Actor) is)
    ∙ cond-false (pointwise ◌==◌ word (codes "scrub")) _ _ (not_this frame word (codes "scrub") speaker (scrub_no_actor frame Wanted.Actor) is)
    ∙ cond-false (pointwise ◌==◌ word (codes "command")) _ _ (not_this frame word (codes "command") speaker (command_no_actor frame Wanted.Actor) is)
    ∙ ap opening_of_actor (actor_same frame Wanted.Actor Wanted.Line word speaker is)

-- The word opens a line of that kind.
abbrev pub OpenedBy : Frame → List ℕ → Opening → Type 0
OpenedBy frame word Opening.Mark = word ≡ codes "mark"
OpenedBy frame word Opening.Scrub = word ≡ codes "scrub"
OpenedBy frame word Opening.Command = word ≡ codes "command"
OpenedBy frame word (Opening.By speaker) = actor_of_word frame Wanted.Actor word ≡ Ok speaker

cause_is : {A : Type 0} (x y : A) → ◌≡◌ {A = Result A Cause} (Ok x) (Ok y) → x ≡ y
cause_is x y e = cc

chosen_opening : (word text : List ℕ) (a o : Opening) (more : Result Opening Cause) → cond (pointwise ◌==◌ word text) (Ok a) more ≡ Ok o → ((word ≡ text) × (a ≡ o)) ⊎ (more ≡ Ok o)
chosen_opening word text a o more is = elim (cases_Bool (pointwise ◌==◌ word text)) [
  | inl e ↦ inl ((bytes_decides word text).0 e, cause_is a o (sym (cond-true (pointwise ◌==◌ word text) (Ok a) more e) ∙ is))
  | inr e ↦ inr (sym (cond-false (pointwise ◌==◌ word text) (Ok a) more e) ∙ is)
]

opened_actor : (frame : Frame) (word : List ℕ) (o : Opening) (r : Result Speaker Cause) → actor_of_word frame Wanted.Line word ≡ r → opening_of_actor r ≡ Ok o → OpenedBy frame word o
opened_actor frame word o (Ok speaker) e is = subst (OpenedBy frame word) (cause_is (Opening.By speaker) o is) (actor_same frame Wanted.Line Wanted.Actor word speaker e)
opened_actor frame word o (Err cause) e is = cc

pub opened_by : (frame : Frame) (word : List ℕ) (o : Opening) → opening_of_word frame word ≡ Ok o → OpenedBy frame word o
unfolding opening_of_word
opened_by frame word o is =
    elim (chosen_opening word (codes "mark") Opening.Mark o _ is) [
      | inl p ↦ subst (OpenedBy frame word) p.1 p.0
      | inr a ↦
          elim (chosen_opening word (codes "scrub") Opening.Scrub o _ a) [
            | inl p ↦ subst (OpenedBy frame word) p.1 p.0
            | inr b ↦
                elim (chosen_opening word (codes "command") Opening.Command o _ b) [
                  | inl p ↦ subst (OpenedBy frame word) p.1 p.0
                  | inr d ↦ opened_actor frame word o (actor_of_word frame Wanted.Line word) refl d
                ]
          ]
    ]

-- ---- no line of the head opens a line of the script
never_opens : (frame : Frame) (o : Opening) (word : List ℕ) → pointwise ◌==◌ word (codes "mark") ≡ false → pointwise ◌==◌ word (codes "scrub") ≡ false → pointwise ◌==◌ word (codes "command") ≡ false
    → actor_of_word frame Wanted.Actor word ≡ Err (Cause.Wanted Wanted.Actor) → OpenedBy frame word o → ⊥
never_opens frame Opening.Mark word a b d none opened = let e : true ≡ false = sym ((bytes_decides word (codes "mark")).1 opened) ∙ a in cc
never_opens frame Opening.Scrub word a b d none opened = let e : true ≡ false = sym ((bytes_decides word (codes "scrub")).1 opened) ∙ b in cc
never_opens frame Opening.Command word a b d none opened = let e : true ≡ false = sym ((bytes_decides word (codes "command")).1 opened) ∙ d in cc
never_opens frame (Opening.By speaker) word a b d none opened = let e : Err (Cause.Wanted Wanted.Actor) ≡ Ok speaker = sym none ∙ opened in cc

pub host_never_opens : (frame : Frame) (o : Opening) → opening_of_word frame (keyword_text Keyword.Host) ≡ Ok o → ⊥
host_never_opens frame o is = never_opens frame o (keyword_text Keyword.Host) refl refl refl (host_no_actor frame Wanted.Actor) (opened_by frame (keyword_text Keyword.Host) o is)
