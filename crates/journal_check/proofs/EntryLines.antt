-- The line of an entry is one line.
use Rattle.std.proofs.Common.{◌≡◌, ℕ, zero, suc, ◌/◌, ◌%◌, ◌<◌, ◌^◌, true, not, List, [], ◌∷◌, ◌++◌, slice_index, append_assoc, refl, sym, ap, ◌∙◌, arith}
use Rattle.std.proofs.lemmas.{Bool.and_parts, Bool.eq-eqb, Bool.false≢true, Fmt.decimal_is_IsNumeral, Str.Parse.tells_digits}
use Rattle.std.specs.{Int.w64, Int.to_be_bytes, List.AllByRecursion, List.list_all, Prelude.codes, Prelude.decimal, Prelude.◌==◌, Str.Parse.AllDigits}
use Rattle.dcd_base.specs.declared.{steps.Actor.Actor, failures.AccessFault.AccessFault}
use Rattle.hex.specs.Hex.{encode_lower, encode_with, lower_digits}
use Rattle.cci_codec.specs.Messages.{response_bytes}
use Rattle.journal_core.specs.declared.{acts.Act.Act, acts.Reply.Reply, entries.Entry.Entry}
use Rattle.report.specs.Texts.{actor_name, act_name, entry_line, fault_number, reply_words, rest_of_line}
use Rattle.journal_check.proofs.TextLines.{IsWord}

-- ---- bytes without a line feed
word_then : (one other : List ℕ) → IsWord one → IsWord other → IsWord (one ++ other)
word_then [] other all more = more
word_then (byte ∷ one) other all more = (all.0, word_then one other all.1 more)

apart_by : (byte : ℕ) → not (byte == 10) ≡ true → byte ≡ 10 → ⊥
apart_by byte test same = false≢true (sym (ap not (eq-eqb byte 10 same)) ∙ test)

pub word_by : (bytes : List ℕ) → list_all (λ byte. not (byte == 10)) bytes ≡ true → IsWord bytes
word_by [] test = tt
word_by (byte ∷ bytes) test =
    let both = and_parts (not (byte == 10)) (list_all (λ byte. not (byte == 10)) bytes) test in
    (apart_by byte both.0, word_by bytes both.1)

digits_word : (ds : List ℕ) → AllDigits 10 ds → IsWord ds
digits_word [] all = tt
digits_word (d ∷ ds) all = ((λ same. omega (arith, same, (tells_digits.parts d ds all).0)), digits_word ds all.1)

decimal_word : (n : ℕ) → n < 2 ^ 64 → IsWord (decimal n)
decimal_word n small = digits_word (decimal n) (decimal_is_IsNumeral n small).0.1

index_apart : (bytes : List ℕ) → IsWord bytes → (i : ℕ) → slice_index bytes i ≡ 10 → ⊥
index_apart [] all i same = omega (arith, same)
index_apart (byte ∷ bytes) all zero same = all.0 same
index_apart (byte ∷ bytes) all (suc i) same = index_apart bytes all.1 i same

hex_word : (bytes : List ℕ) → IsWord (encode_lower bytes)
unfolding encode_with
hex_word [] = tt
hex_word (byte ∷ bytes) = (
  index_apart lower_digits (word_by lower_digits refl) (byte / 16),
  (
    index_apart lower_digits (word_by lower_digits refl) (byte % 16),
    hex_word bytes,
  ),
)

-- ---- words of a line
abbrev pub rest_of_words : List (List ℕ) → List ℕ
rest_of_words [] = []
rest_of_words (word ∷ words) = 32 ∷ word ++ rest_of_words words

rest_ends : (words : List (List ℕ)) → rest_of_line words ≡ rest_of_words words ++ 10 ∷ []
rest_ends [] = refl
rest_ends (word ∷ words) = ap (λ (bytes : List ℕ). 32 ∷ word ++ bytes) (rest_ends words) ∙ ap (λ (bytes : List ℕ). 32 ∷ bytes) (sym (append_assoc word (rest_of_words words) (10 ∷ [])))

rest_word : (words : List (List ℕ)) → AllByRecursion IsWord words → IsWord (rest_of_words words)
rest_word [] all = tt
rest_word (word ∷ words) all = ((λ same. omega (arith, same)), word_then word (rest_of_words words) all.0 (rest_word words all.1))

-- Its numbers have 64 bits.
abbrev pub IsSmallActor : Actor → Type 0
IsSmallActor (Actor.Host h) = h < 2 ^ 64
IsSmallActor Actor.Manager = Unit {0}
IsSmallActor Actor.Sanitizer = Unit {0}

abbrev pub IsSmallReply : Reply → Type 0
IsSmallReply (Reply.Scrubbed n) = n < 2 ^ 64
IsSmallReply (Reply.Answer s) = Unit {0}
IsSmallReply (Reply.Word n) = Unit {0}
IsSmallReply Reply.Stored = Unit {0}
IsSmallReply (Reply.Refused fault) = Unit {0}

pub record IsSmall (e : Entry) : Type 0 where
  pub line : e.line < 2 ^ 64
  pub actor : IsSmallActor e.actor
  pub reply : IsSmallReply e.reply

actor_word : (actor : Actor) → IsSmallActor actor → IsWord (actor_name actor)
actor_word (Actor.Host h) small = word_then (codes "h") (decimal h) (word_by (codes "h") refl) (decimal_word h small)
actor_word Actor.Manager small = word_by (codes "fm") refl
actor_word Actor.Sanitizer small = word_by (codes "sz") refl

act_word : (act : Act) → IsWord (act_name act)
act_word (Act.Command q) = word_by (codes "cmd") refl
act_word (Act.Load d) = word_by (codes "ld") refl
act_word (Act.Store d value) = word_by (codes "st") refl
act_word (Act.Scrub n) = word_by (codes "sc") refl

fault_word : (fault : AccessFault) → IsWord (decimal (fault_number fault))
fault_word AccessFault.Misaligned = decimal_word 1 (omega arith)
fault_word AccessFault.OutsideRegions = decimal_word 2 (omega arith)
fault_word AccessFault.NotGranted = decimal_word 3 (omega arith)

reply_are_words : (reply : Reply) → IsSmallReply reply → AllByRecursion IsWord (reply_words reply)
reply_are_words (Reply.Answer s) small = (hex_word (response_bytes s), tt)
reply_are_words (Reply.Word n) small = (hex_word (to_be_bytes w64 n), tt)
reply_are_words Reply.Stored small = (word_by (codes "ok") refl, tt)
reply_are_words (Reply.Refused fault) small = (word_by (codes "refused") refl, (fault_word fault, tt))
reply_are_words (Reply.Scrubbed n) small = (decimal_word n small, tt)

-- The bytes are one line: a word and its end.
pub record IsLine (bytes : List ℕ) : Type 0 where
  pub word : List ℕ
  pub is : bytes ≡ word ++ 10 ∷ []
  pub whole : IsWord word

pub entry_is_line : (n : ℕ) (e : Entry) → n < 2 ^ 64 → IsSmall e → IsLine (entry_line (n, e))
unfolding entry_line
entry_is_line n e few small =
    let words : List (List ℕ) = decimal e.line ∷ actor_name e.actor ∷ act_name e.act ∷ reply_words e.reply in
    record {
      word = decimal n ++ rest_of_words words;
      is = ap (λ (bytes : List ℕ). decimal n ++ bytes) (rest_ends words) ∙ sym (append_assoc (decimal n) (rest_of_words words) (10 ∷ []));
      whole = word_then (decimal n) (rest_of_words words) (decimal_word n few)
          (rest_word words (decimal_word e.line small.line, (actor_word e.actor small.actor, (act_word e.act, reply_are_words e.reply small.reply))));
    }
