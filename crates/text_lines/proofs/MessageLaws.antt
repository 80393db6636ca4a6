-- Messages byte by byte: what is read is what the words tell.
use Rattle.std.proofs.Common.{◌≡◌, ℕ, zero, suc, ◌+◌, ◌<◌, ◌≤◌, false, nat_lt, List, [], ◌∷◌, ◌++◌, length, Option, Some, None, Result, Ok, Err, refl, sym, ap, ◌∙◌, subst, inl, inr, arith, append-nil, append_assoc, length-append}
use Rattle.std.proofs.lemmas.Bool.{cases_Bool, cond-false, cond-true, le-ltb, ltb-false}
use Rattle.cci_codec.{proofs.Reading.no_message_fault, proofs.Reading.request_read, proofs.Reading.request_reads, specs.Messages.ReadsRequest, specs.Messages.message_fault, specs.Messages.request_in}
use Rattle.cci_codec.specs.declared.{faults.MessageFault.MessageFault, messages.Request.Request}
use Rattle.dcd_base.proofs.Fields.{IsBytes}
use Rattle.text_lines.{proofs.FieldLaws.Goes, proofs.FieldLaws.bound, proofs.FieldLaws.ok_is, proofs.PrintedPairs.pairs_small, specs.Chains.◌>>!◌ as ◌>>=◌, specs.Fields.refused, specs.Fields.told}
use Rattle.text_lines.specs.{Lines.bytes_ahead, Lines.bytes_at, Lines.bytes_or, Lines.bytes_with_room, Lines.message_or_fault, Lines.message_said, Pairs.pairs_said, Parts.AreBytes}
use Rattle.text_lines.specs.{Unread.UnreadWords, Unread.behind_next, Unread.is_done, declared.faults.Cause.Cause, declared.faults.Wanted.Wanted}

-- ---- bytes in words
abbrev at_words : ℕ → ℕ → List (List ℕ) → UnreadWords
at_words line word words = record { line = line; word = word; words = words }

bytes_go : (before bytes : List ℕ) (line word : ℕ) (ws : List (List ℕ)) → AreBytes bytes ws → length before + length bytes ≤ 65535 → Goes (bytes_at before line word ws) (before ++ bytes) []
unfolding bytes_at
bytes_go before bytes line word [] are short = record { left = at_words line word []; is = ap (λ xs. Ok (xs, at_words line word [])) (sym (append-nil before) ∙ ap (λ xs. before ++ xs) (sym are)); words = refl }
bytes_go before bytes line word (w ∷ ws) are short =
    let front = are.0 in
    let rest = are.1 in
    let sizes : length bytes ≡ length front + length rest = ap length are.2 ∙ length-append front rest in
    let room : bytes_with_room before (bytes_or (pairs_said w)) ≡ Ok (before ++ front) =
    ap (λ o. bytes_with_room before (bytes_or o)) are.3 ∙ cond-false (nat_lt 65535 (length (before ++ front))) (Err Cause.MessageTooLong) (Ok (before ++ front)) (le-ltb 65535 (length (before ++ front)) (omega (arith, short, sizes, length-append before front))) in
    let more = bytes_go (before ++ front) rest line (word + 1) ws are.4 (omega (arith, short, sizes, length-append before front)) in
    record {
      left = more.left;
      is = ap (λ (r : Result (List ℕ) Cause). told (at_words line word (w ∷ ws)) r >>= (λ m. bytes_at m.0 line (word + 1) ws)) room
          ∙ more.is ∙ ap (λ xs. Ok (xs, more.left)) (append_assoc before front rest ∙ ap (λ xs. before ++ xs) (sym are.2));
      words = more.words;
    }

-- the bytes of the words that were read
pub record BytesRead (before : List ℕ) (words : List (List ℕ)) (x : List ℕ × UnreadWords) : Type 0 where
  pub bytes : List ℕ
  pub is : x.0 ≡ before ++ bytes
  pub are : AreBytes bytes words
  pub none : x.1.words ≡ []
  pub short : length before ≤ 65535 → length x.0 ≤ 65535

record RoomFound (before : List ℕ) (w : List ℕ) (y : List ℕ) : Type 0 where
  front : List ℕ
  said : pairs_said w ≡ Some front
  is : y ≡ before ++ front
  short : length y ≤ 65535

room_found : (before w : List ℕ) (u : UnreadWords) (o : Option (List ℕ)) (y : List ℕ × UnreadWords) → pairs_said w ≡ o → told u (bytes_with_room before (bytes_or o)) ≡ Ok y → RoomFound before w y.0
room_found before w u None y e is = cc
room_found before w u (Some front) y e is = elim (cases_Bool (nat_lt 65535 (length (before ++ front)))) [
  | inl long ↦
      let f : Err (refused u Cause.MessageTooLong) ≡ Ok y = sym (ap (told u) (cond-true (nat_lt 65535 (length (before ++ front))) (Err Cause.MessageTooLong) (Ok (before ++ front)) long)) ∙ is in cc
  | inr fits ↦
      let f : (before ++ front, behind_next u) ≡ y = ok_is (before ++ front, behind_next u) y (sym (ap (told u) (cond-false (nat_lt 65535 (length (before ++ front))) (Err Cause.MessageTooLong) (Ok (before ++ front)) fits)) ∙ is) in
      let first : y.0 ≡ before ++ front = sym (ap (λ (p : List ℕ × UnreadWords). p.0) f) in
      record { front = front; said = e; is = first; short = omega (arith, ltb-false 65535 (length (before ++ front)) fits, ap length first) }
]

bytes_back : (before : List ℕ) (line word : ℕ) (ws : List (List ℕ)) (x : List ℕ × UnreadWords) → bytes_at before line word ws ≡ Ok x → BytesRead before ws x
unfolding bytes_at
bytes_back before line word [] x is =
    let e : (before, at_words line word []) ≡ x = ok_is (before, at_words line word []) x is in
    subst (BytesRead before []) e (record { bytes = []; is = sym (append-nil before); are = refl; none = refl; short = λ h. h })
bytes_back before line word (w ∷ ws) x is =
    let first = bound (told (at_words line word (w ∷ ws)) (bytes_with_room before (bytes_or (pairs_said w)))) (λ m. bytes_at m.0 line (word + 1) ws) x is in
    let room = room_found before w (at_words line word (w ∷ ws)) (pairs_said w) first.value refl first.begun in
    let more = bytes_back first.value.0 line (word + 1) ws x first.done in
    record {
      bytes = room.front ++ more.bytes;
      is = more.is ∙ ap (λ xs. xs ++ more.bytes) room.is ∙ append_assoc before room.front more.bytes;
      are = (room.front, more.bytes, refl, room.said, more.are);
      none = more.none;
      short = λ h. more.short room.short;
    }

-- ---- the bytes behind an actor
pub bytes_goes : (bytes : List ℕ) (u : UnreadWords) (words : List (List ℕ)) → u.words ≡ words → 0 < length words → length bytes ≤ 65535 → AreBytes bytes words → Goes (bytes_ahead u) bytes []
unfolding bytes_ahead
bytes_goes bytes u [] is some short are = absurd (omega (arith, some))
bytes_goes bytes u (w ∷ ws) is some short are =
    let g = bytes_go [] bytes u.line u.word (w ∷ ws) are (omega (arith, short)) in
    subst (λ xs. Goes (bytes_ahead (at_words u.line u.word xs)) bytes []) (sym is) g

some_words : (words : List (List ℕ)) → is_done (at_words 0 0 words) ≡ false → 0 < length words
some_words [] e = cc
some_words (w ∷ ws) e = omega arith

pub record PairsRead (u : UnreadWords) (x : List ℕ × UnreadWords) : Type 0 where
  pub some : 0 < length u.words
  pub short : length x.0 ≤ 65535
  pub are : AreBytes x.0 u.words
  pub none : x.1.words ≡ []

pub bytes_sound : (u : UnreadWords) (x : List ℕ × UnreadWords) → bytes_ahead u ≡ Ok x → PairsRead u x
unfolding bytes_ahead
bytes_sound u x is = elim (cases_Bool (is_done u)) [
  | inl e ↦ let f : Err (refused u (Cause.Wanted Wanted.Bytes)) ≡ Ok x = sym (cond-true (is_done u) (Err (refused u (Cause.Wanted Wanted.Bytes))) (bytes_at [] u.line u.word u.words) e) ∙ is in cc
  | inr e ↦
      let r = bytes_back [] u.line u.word u.words x (sym (cond-false (is_done u) (Err (refused u (Cause.Wanted Wanted.Bytes))) (bytes_at [] u.line u.word u.words) e) ∙ is) in
      record { some = some_words u.words e; short = r.short (omega arith); are = subst (λ xs. AreBytes xs u.words) (sym r.is) r.are; none = r.none }
]

-- ---- bytes are below 256
bytes_then : (xs ys : List ℕ) → IsBytes xs → IsBytes ys → IsBytes (xs ++ ys)
bytes_then [] ys a b i = b i
bytes_then (x ∷ xs) ys a b zero = a 0
bytes_then (x ∷ xs) ys a b (suc i) = bytes_then xs ys (λ k. a (suc k)) b i

no_bytes : IsBytes []
no_bytes i = omega arith

told_small : (bytes : List ℕ) (words : List (List ℕ)) → AreBytes bytes words → IsBytes bytes
told_small bytes [] are = subst IsBytes (sym are) no_bytes
told_small bytes (w ∷ ws) are = subst IsBytes (sym are.2) (bytes_then are.0 are.1 (pairs_small w are.0 are.3) (told_small are.1 ws are.4))

-- ---- the message that bytes are
pub message_goes : (line word : ℕ) (bytes : List ℕ) (message : Request) → ReadsRequest bytes message → message_said line word bytes ≡ Ok message
message_goes line word bytes message reads =
    let r = request_read bytes message reads in
    ap (message_or_fault line word bytes) (no_message_fault bytes r.0) ∙ ap (λ (q : Request). Ok q) (sym r.1)

message_read : (line word : ℕ) (bytes : List ℕ) (words : List (List ℕ)) (message : Request) (fault : Option MessageFault) → AreBytes bytes words → message_fault bytes ≡ fault → message_or_fault line word bytes fault ≡ Ok message → ReadsRequest bytes message
message_read line word bytes words message None are none is =
    let e : request_in bytes ≡ message = ok_is (request_in bytes) message is in
    subst (ReadsRequest bytes) e (request_reads bytes (told_small bytes words are) none)
message_read line word bytes words message (Some fault) are none is = cc

pub message_sound : (line word : ℕ) (bytes : List ℕ) (words : List (List ℕ)) (message : Request) → AreBytes bytes words → message_said line word bytes ≡ Ok message → ReadsRequest bytes message
message_sound line word bytes words message are is = message_read line word bytes words message (message_fault bytes) are refl is
