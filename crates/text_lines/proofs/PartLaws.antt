-- Parts that are lists, tags, hosts and policies: what is read of them is what their words say.
use Rattle.std.proofs.Common.{◌≡◌, ℕ, ◌<◌, ◌≤◌, Bool, true, false, cond, nat_lt, List, [], ◌∷◌, ◌++◌, length, Option, Some, None, Result, Ok, Err, refl, sym, ap, ◌∙◌, subst, inl, inr, arith}
use Rattle.std.proofs.lemmas.Bool.{and_from, cases_Bool, cond-false, cond-true, lt-ltb, ltb-true}
use Rattle.std.specs.List.{list_all}
use Rattle.dcd_base.specs.{Words.zero_tag, declared.capacity.Extent.Extent, declared.capacity.Tag.Tag, declared.steps.Actor.Actor}
use Rattle.host_payloads.specs.HostPayloads.{is_untagged}
use Rattle.text_lines.proofs.KeywordLaws.{extent_not, number_not}
use Rattle.text_lines.proofs.ListLaws.{Stops, behind_goes, behind_is, extent_says, list_goes, list_sound, says_extent}
use Rattle.text_lines.specs.Actors.{SaysActor, actor_ahead, actor_of_word, host_ahead, host_or, host_said}
use Rattle.text_lines.specs.{Extents.after, Extents.before, Extents.extent_said, Extents.untagged, Keywords.keyword_text, Numbers.number_said, Numbers.under, Pairs.tag_said}
use Rattle.text_lines.specs.Parts.{AllSay, Form, Part, ReadsPart, SaysExtent, SaysNumber}
use Rattle.text_lines.specs.{Unread.UnreadWords, Unread.behind_next, Unread.behind_first, Unread.first_unread, WordChains.◌>>?◌ as ◌>>=◌, declared.actors.Frame.Frame, declared.actors.Speaker.Speaker}
use Rattle.text_lines.specs.declared.{faults.Cause.Cause, faults.Wanted.Wanted, keywords.Keyword.Keyword, word_faults.NumberFault.NumberFault}
use Rattle.text_lines.specs.Fields.{begins, extent_of_word, extents_ahead, handles_ahead, list_behind, list_ahead, may_tag_ahead, number_ahead, number_of_word, tag_ahead, tag_or}
use Rattle.text_lines.proofs.FieldLaws.{Goes, IsNot, Took, begins_not, begins_with, begins_words, bound, goes_then, number_goes, number_says, ok_is, one_goes, one_sound, says_number, took_one}

-- ---- extents
pub extents_goes : (most : ℕ) (xs : List Extent) (u : UnreadWords) (front rest : List (List ℕ)) → u.words ≡ front ++ rest → ReadsPart front (Part.Extents most xs) → Stops rest → Goes (extents_ahead most u) xs rest
unfolding extents_ahead
extents_goes most xs u front rest is reads stops =
    let g = list_goes extent_of_word SaysExtent (λ x w says. (says_extent x w says, extent_not Keyword.MessageTag x w says)) most u.line u.word xs front rest reads.0 reads.1 stops in
    subst (λ ws. Goes (list_ahead extent_of_word most (record { line = u.line; word = u.word; words = ws })) xs rest) (sym is) g

pub extents_sound : (most : ℕ) (u : UnreadWords) (x : List Extent × UnreadWords) → extents_ahead most u ≡ Ok x → Took u.words (Part.Extents most x.0 ∷ []) x.1.words
unfolding extents_ahead
extents_sound most u x is =
    let p = list_sound extent_of_word SaysExtent (λ y w e. extent_says y w e) most u.line u.word u.words x is in
    took_one u.words p.front x.1.words (Part.Extents most x.0) p.is (p.few, p.all)

said_untagged : (x : Extent) (word : List ℕ) → extent_said word ≡ Some x → is_untagged x ≡ true
unfolding extent_said
said_untagged x word is = by (number_said (before 43 word)) (number_said (after 43 word)) is
  where
    by : (start size : Option ℕ) → (start >>= (λ a. size >>= (λ b. Some (untagged a b)))) ≡ Some x → is_untagged x ≡ true
    by None size e = cc
    by (Some a) None e = cc
    by (Some a) (Some b) e = let f : untagged a b ≡ x = (cc) in subst (λ y. is_untagged y ≡ true) f refl

all_untagged : (xs : List Extent) (words : List (List ℕ)) → AllSay SaysExtent xs words → list_all is_untagged xs ≡ true
all_untagged [] words each = refl
all_untagged (x ∷ xs) [] each = absurd each
all_untagged (x ∷ xs) (w ∷ ws) each = and_from (is_untagged x) (list_all is_untagged xs) (said_untagged x w each.0.said) (all_untagged xs ws each.1)

-- what was read has no tags and is not too much
pub extents_read : (most : ℕ) (u : UnreadWords) (x : List Extent × UnreadWords) → extents_ahead most u ≡ Ok x → (length x.0 ≤ most) × (list_all is_untagged x.0 ≡ true)
unfolding extents_ahead
extents_read most u x is =
    let p = list_sound extent_of_word SaysExtent (λ y w e. extent_says y w e) most u.line u.word u.words x is in
    (p.few, all_untagged x.0 p.front p.all)

-- ---- handles
pub handles_goes : (handles : List ℕ) (u : UnreadWords) (front rest : List (List ℕ)) → u.words ≡ front ++ rest → ReadsPart front (Part.Handles handles) → Stops rest → IsNot Keyword.Handles rest → Goes (handles_ahead u) handles rest
unfolding handles_ahead
handles_goes handles u front rest is (inl absent) stops other =
    let words : u.words ≡ rest = is ∙ ap (λ ws. ws ++ rest) absent.0 in
    record {
      left = u;
      is = cond-false (begins Keyword.Handles u) _ _ (begins_not Keyword.Handles u rest words other) ∙ ap (λ hs. Ok (hs, u)) (sym absent.1);
      words = words;
    }
handles_goes handles u front rest is (inr tells) stops other = more handles tells.rest tells.some tells.few tells.each (is ∙ ap (λ ws. ws ++ rest) tells.words_are)
  where
    more : (hs : List ℕ) (ws : List (List ℕ)) → 0 < length hs → length hs ≤ 255 → AllSay (SaysNumber 65535) hs ws → u.words ≡ keyword_text Keyword.Handles ∷ (ws ++ rest) → Goes (handles_ahead u) hs rest
    more [] ws some few each words = absurd (omega (arith, some))
    more (h ∷ hs) [] some few each words = absurd each
    more (h ∷ hs) (w ∷ ws) some few each words =
        let g = goes_then (λ first. list_behind (first.0 ∷ []) (list_ahead (number_of_word 65535) 254 first.1)) (h ∷ hs) rest
        (number_goes Form.Count 65535 h (behind_next u) (w ∷ []) (ws ++ rest) (ap (λ xs. (behind_first u.line u.word xs).words) words) (w, refl, each.0))
        (λ left here. subst (λ xs. Goes (list_behind (h ∷ []) (list_ahead (number_of_word 65535) 254 (record { line = left.line; word = left.word; words = xs }))) (h ∷ hs) rest) (sym here)
        (behind_goes (h ∷ []) hs _ rest (list_goes (number_of_word 65535) (SaysNumber 65535) (λ x v says. (says_number 65535 x v says, number_not Keyword.MessageTag 65535 x v says)) 254 left.line left.word hs ws rest (omega (arith, few)) each.1 stops))) in
        record { left = g.left; is = cond-true (begins Keyword.Handles u) _ _ (begins_with Keyword.Handles u ((w ∷ ws) ++ rest) words) ∙ g.is; words = g.words }

pub handles_sound : (u : UnreadWords) (x : List ℕ × UnreadWords) → handles_ahead u ≡ Ok x → Took u.words (Part.Handles x.0 ∷ []) x.1.words
unfolding handles_ahead number_ahead
handles_sound u x is = elim (cases_Bool (begins Keyword.Handles u)) [
  | inl e ↦
      let first = bound (number_ahead 65535 (behind_next u)) (λ f. list_behind (f.0 ∷ []) (list_ahead (number_of_word 65535) 254 f.1)) x (sym (cond-true (begins Keyword.Handles u) _ _ e) ∙ is) in
      let p = one_sound Wanted.Number (behind_next u) (number_of_word 65535 (first_unread (behind_next u))) first.value first.begun in
      let q = behind_is (first.value.0 ∷ []) (list_ahead (number_of_word 65535) 254 first.value.1) x first.done in
      let r = list_sound (number_of_word 65535) (SaysNumber 65535) (λ y w f. number_says 65535 y w f) 254 first.value.1.line first.value.1.word first.value.1.words q.0 q.1 in
      subst (λ (y : List ℕ × UnreadWords). Took u.words (Part.Handles y.0 ∷ []) y.1.words) q.2
      (took_one u.words (keyword_text Keyword.Handles ∷ first_unread (behind_next u) ∷ r.front) q.0.1.words (Part.Handles (first.value.0 ∷ q.0.0))
      (begins_words Keyword.Handles u.line u.word u.words e ∙ ap (λ ws. keyword_text Keyword.Handles ∷ ws) (p.words ∙ ap (λ ws. first_unread (behind_next u) ∷ ws) r.is))
      (inr (record { rest = first_unread (behind_next u) ∷ r.front; words_are = refl; some = omega arith; few = omega (arith, r.few); each = (number_says 65535 first.value.0 (first_unread (behind_next u)) p.said, r.all) })))
  | inr e ↦
      let f : ([], u) ≡ x = ok_is ([], u) x (sym (cond-false (begins Keyword.Handles u) _ _ e) ∙ is) in
      subst (λ (y : List ℕ × UnreadWords). Took u.words (Part.Handles y.0 ∷ []) y.1.words) f (took_one u.words [] u.words (Part.Handles []) refl (inl (refl, refl)))
]

pub handles_read : (u : UnreadWords) (x : List ℕ × UnreadWords) → handles_ahead u ≡ Ok x → length x.0 ≤ 255
handles_read u x is = by (handles_sound u x is).all.3
  where
    by : {words : List (List ℕ)} → ReadsPart words (Part.Handles x.0) → length x.0 ≤ 255
    by (inl absent) = omega (arith, ap length absent.1)
    by (inr tells) = tells.few

-- ---- tags
tag_says : (word : List ℕ) (tag : Tag) (said : Option Tag) → tag_said word ≡ said → tag_or said ≡ Ok tag → tag_said word ≡ Some tag
tag_says word tag None e is = cc
tag_says word tag (Some t) e is = e ∙ ap Some (ok_cause t tag is)
  where
    ok_cause : (a b : Tag) → ◌≡◌ {A = Result Tag Cause} (Ok a) (Ok b) → a ≡ b
    ok_cause a b f = cc

pub tag_goes : (tag : Tag) (u : UnreadWords) (front rest : List (List ℕ)) → u.words ≡ front ++ rest → ReadsPart front (Part.TagOf tag) → Goes (tag_ahead u) tag rest
unfolding tag_ahead
tag_goes tag u front rest is reads = one_goes Wanted.Tag u (λ w. tag_or (tag_said w)) tag reads.0 rest (is ∙ ap (λ ws. ws ++ rest) reads.1) (ap tag_or reads.2)

pub tag_sound : (u : UnreadWords) (x : Tag × UnreadWords) → tag_ahead u ≡ Ok x → Took u.words (Part.TagOf x.0 ∷ []) x.1.words
unfolding tag_ahead
tag_sound u x is =
    let p = one_sound Wanted.Tag u (tag_or (tag_said (first_unread u))) x is in
    took_one u.words (first_unread u ∷ []) x.1.words (Part.TagOf x.0) p.words (first_unread u, refl, tag_says (first_unread u) x.0 (tag_said (first_unread u)) refl p.said)

pub may_tag_goes : (tag : Tag) (u : UnreadWords) (front rest : List (List ℕ)) → u.words ≡ front ++ rest → ReadsPart front (Part.MayTag tag) → IsNot Keyword.Tag rest → Goes (may_tag_ahead u) tag rest
unfolding may_tag_ahead
may_tag_goes tag u front rest is (inl absent) other =
    let words : u.words ≡ rest = is ∙ ap (λ ws. ws ++ rest) absent.0 in
    record {
      left = u;
      is = cond-false (begins Keyword.Tag u) (tag_ahead (behind_next u)) (Ok (zero_tag, u)) (begins_not Keyword.Tag u rest words other) ∙ ap (λ t. Ok (t, u)) (sym absent.1);
      words = words;
    }
may_tag_goes tag u front rest is (inr present) other =
    let words : u.words ≡ keyword_text Keyword.Tag ∷ (present.0 ∷ rest) = is ∙ ap (λ ws. ws ++ rest) present.1 in
    let g = tag_goes tag (behind_next u) (present.0 ∷ []) rest (ap (λ ws. (behind_first u.line u.word ws).words) words) (present.0, refl, present.2) in
    record { left = g.left; is = cond-true (begins Keyword.Tag u) (tag_ahead (behind_next u)) (Ok (zero_tag, u)) (begins_with Keyword.Tag u (present.0 ∷ rest) words) ∙ g.is; words = g.words }

pub may_tag_sound : (u : UnreadWords) (x : Tag × UnreadWords) → may_tag_ahead u ≡ Ok x → Took u.words (Part.MayTag x.0 ∷ []) x.1.words
unfolding may_tag_ahead tag_ahead
may_tag_sound u x is = elim (cases_Bool (begins Keyword.Tag u)) [
  | inl e ↦
      let p = one_sound Wanted.Tag (behind_next u) (tag_or (tag_said (first_unread (behind_next u)))) x (sym (cond-true (begins Keyword.Tag u) (tag_ahead (behind_next u)) (Ok (zero_tag, u)) e) ∙ is) in
      took_one u.words (keyword_text Keyword.Tag ∷ first_unread (behind_next u) ∷ []) x.1.words (Part.MayTag x.0)
      (begins_words Keyword.Tag u.line u.word u.words e ∙ ap (λ ws. keyword_text Keyword.Tag ∷ ws) p.words)
      (inr (first_unread (behind_next u), refl, tag_says (first_unread (behind_next u)) x.0 (tag_said (first_unread (behind_next u))) refl p.said))
  | inr e ↦
      let f : (zero_tag, u) ≡ x = ok_is (zero_tag, u) x (sym (cond-false (begins Keyword.Tag u) (tag_ahead (behind_next u)) (Ok (zero_tag, u)) e) ∙ is) in
      subst (λ (y : Tag × UnreadWords). Took u.words (Part.MayTag y.0 ∷ []) y.1.words) f (took_one u.words [] u.words (Part.MayTag zero_tag) refl (inl (refl, refl)))
]

-- ---- hosts and actors
says_host : (word : List ℕ) (host : ℕ) → host_said word ≡ Some host → host ≤ 65535 → host_or (under 65536 (host_said word)) ≡ Ok host
says_host word host said low = ap (λ o. host_or (under 65536 o)) said ∙ ap (λ test. host_or (cond test (Ok host) (Err NumberFault.TooLarge))) (lt-ltb host 65536 (omega (arith, low)))

host_says : (word : List ℕ) (host : ℕ) (said : Option ℕ) → host_said word ≡ said → host_or (under 65536 said) ≡ Ok host → (host_said word ≡ Some host) × (host ≤ 65535)
host_says word host None e is = cc
host_says word host (Some n) e is = by (nat_lt n 65536) refl is
  where
    by : (test : Bool) → nat_lt n 65536 ≡ test → host_or (cond test (Ok n) (Err NumberFault.TooLarge)) ≡ Ok host → (host_said word ≡ Some host) × (host ≤ 65535)
    by true f g = let h : n ≡ host = (cc) in (e ∙ ap Some h, let low = ltb-true n 65536 f in omega (arith, low, h))
    by false f g = cc

pub host_goes : (host : ℕ) (u : UnreadWords) (front rest : List (List ℕ)) → u.words ≡ front ++ rest → ReadsPart front (Part.HostOf host) → Goes (host_ahead u) host rest
unfolding host_ahead
host_goes host u front rest is reads = one_goes Wanted.Host u (λ w. host_or (under 65536 (host_said w))) host reads.0 rest (is ∙ ap (λ ws. ws ++ rest) reads.1) (says_host reads.0 host reads.2.0 reads.2.1)

pub host_sound : (u : UnreadWords) (x : ℕ × UnreadWords) → host_ahead u ≡ Ok x → Took u.words (Part.HostOf x.0 ∷ []) x.1.words
unfolding host_ahead
host_sound u x is =
    let p = one_sound Wanted.Host u (host_or (under 65536 (host_said (first_unread u)))) x is in
    took_one u.words (first_unread u ∷ []) x.1.words (Part.HostOf x.0) p.words (first_unread u, refl, host_says (first_unread u) x.0 (host_said (first_unread u)) refl p.said)

-- the actor of a speaker, and its lane
abbrev pub actor_by : Speaker → Actor
actor_by (Speaker.Host host lane) = Actor.Host host
actor_by Speaker.Manager = Actor.Manager

abbrev pub lane_by : Speaker → ℕ
lane_by (Speaker.Host host lane) = lane
lane_by Speaker.Manager = 0

pub speaker_says : (frame : Frame) (speaker : Speaker) (word : List ℕ) → actor_of_word frame Wanted.Actor word ≡ Ok speaker → SaysActor frame (actor_by speaker) (lane_by speaker) word
speaker_says frame (Speaker.Host host lane) word is = is
speaker_says frame Speaker.Manager word is = (refl, is)

-- the speaker that a word says
pub record Spoken (frame : Frame) (actor : Actor) (lane : ℕ) (word : List ℕ) : Type 0 where
  pub speaker : Speaker
  pub said : actor_of_word frame Wanted.Actor word ≡ Ok speaker
  pub actor_is : actor_by speaker ≡ actor
  pub lane_is : lane_by speaker ≡ lane

pub says_speaker : (frame : Frame) (actor : Actor) (lane : ℕ) (word : List ℕ) → SaysActor frame actor lane word → Spoken frame actor lane word
says_speaker frame (Actor.Host host) lane word is = record { speaker = Speaker.Host host lane; said = is; actor_is = refl; lane_is = refl }
says_speaker frame Actor.Manager lane word is = record { speaker = Speaker.Manager; said = is.1; actor_is = refl; lane_is = sym is.0 }
says_speaker frame Actor.Sanitizer lane word is = absurd is

pub actor_goes : (frame : Frame) (speaker : Speaker) (u : UnreadWords) (word : List ℕ) (rest : List (List ℕ)) → u.words ≡ word ∷ rest → actor_of_word frame Wanted.Actor word ≡ Ok speaker → Goes (actor_ahead frame u) speaker rest
unfolding actor_ahead
actor_goes frame speaker u word rest is said = one_goes Wanted.Actor u (actor_of_word frame Wanted.Actor) speaker word rest is said

pub actor_sound : (frame : Frame) (u : UnreadWords) (x : Speaker × UnreadWords) → actor_ahead frame u ≡ Ok x → Took u.words (Part.ActorOf frame (actor_by x.0) (lane_by x.0) ∷ []) x.1.words
unfolding actor_ahead
actor_sound frame u x is =
    let p = one_sound Wanted.Actor u (actor_of_word frame Wanted.Actor (first_unread u)) x is in
    took_one u.words (first_unread u ∷ []) x.1.words (Part.ActorOf frame (actor_by x.0) (lane_by x.0)) p.words (first_unread u, refl, speaker_says frame x.0 (first_unread u) p.said)
