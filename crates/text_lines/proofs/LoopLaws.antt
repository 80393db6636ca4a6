-- The steps of the loops over the words of a list, and over the words of a message.
use Rattle.std.proofs.Common.{◌≡◌, ℕ, ◌+◌, ◌-◌, ◌<◌, ◌≤◌, true, false, ◌==◌, nat_lt, ◌⊎◌, List, [], ◌∷◌, ◌++◌, length, Option, Some, None, Result, Ok, Err, refl, sym, ap, ◌∙◌, inl, inr, arith, append-nil, append_assoc}
use lib.Pointwise.{pointwise}
use Rattle.std.proofs.lemmas.Bool.{cond-false, cond-true, le-ltb, lt-ltb}
use Rattle.text_lines.specs.{Chains.◌>>!◌ as ◌>>=◌, Fields.and_room, Fields.begins, Fields.list_at, Fields.list_behind, Fields.list_ahead, Fields.one_word, Fields.refused, Fields.told}
use Rattle.text_lines.specs.{Keywords.keyword_text, Lines.bytes_at, Lines.bytes_or, Lines.bytes_with_room, Pairs.AppendsPairs, Pairs.pairs_said}
use Rattle.text_lines.specs.{Unread.UnreadWords, Unread.behind_next, Unread.leading_word, Unread.is_done, Unread.first_unread, Unread.none_left, declared.faults.Cause.Cause}
use Rattle.text_lines.specs.declared.{faults.TextFault.TextFault, faults.Wanted.Wanted, keywords.Keyword.Keyword}

module _ {A : Type 0} (read : List ℕ → Result A Cause) where
  -- the list ends where no word is left, or the message tag comes
  ends_at : (left line word : ℕ) (words : List (List ℕ)) → (none_left words ≡ true) ⊎ (pointwise ◌==◌ (leading_word words) (keyword_text Keyword.MessageTag) ≡ true) → list_at read left line word words ≡ Ok ([], record { line = line; word = word; words = words })
  unfolding list_at
  ends_at left line word [] ends = refl
  ends_at left line word (w ∷ ws) (inl none) = cc
  ends_at left line word (w ∷ ws) (inr tag) = cond-true (pointwise ◌==◌ w (keyword_text Keyword.MessageTag)) _ _ tag

  pub list_ends : (left : ℕ) (u : UnreadWords) (xs : List A) (whole : Result (List A × UnreadWords) TextFault) → (is_done u ≡ true) ⊎ (begins Keyword.MessageTag u ≡ true) → list_behind xs (list_ahead read left u) ≡ whole → whole ≡ Ok (xs, u)
  list_ends left u xs whole ends is = sym is ∙ ap (list_behind xs) (ends_at left u.line u.word u.words ends) ∙ ap (λ ys. Ok (ys, u)) (append-nil xs)

  -- an item, and then the rest of its list
  abbrev item_then : ℕ → Result (A × UnreadWords) TextFault → Result (List A × UnreadWords) TextFault
  item_then left (Ok first) = list_behind (first.0 ∷ []) (list_ahead read (left - 1) first.1)
  item_then left (Err fault) = Err fault

  same_rest : (line word left : ℕ) (w : List ℕ) (ws : List (List ℕ)) (r : Result A Cause)
      → (told (record { line = line; word = word; words = w ∷ ws }) r >>= (λ first. list_behind (first.0 ∷ []) (list_at read (left - 1) line (word + 1) ws))) ≡ item_then left (told (record { line = line; word = word; words = w ∷ ws }) r)
  same_rest line word left w ws (Ok x) = refl
  same_rest line word left w ws (Err cause) = refl

  -- the next word of a list
  steps_at : (left line word : ℕ) (words : List (List ℕ)) → none_left words ≡ false → pointwise ◌==◌ (leading_word words) (keyword_text Keyword.MessageTag) ≡ false
      → list_at read left line word words ≡ item_then left (told (record { line = line; word = word; words = words }) (and_room left (read (leading_word words))))
  unfolding list_at
  steps_at left line word [] some other = cc
  steps_at left line word (w ∷ ws) some other = cond-false (pointwise ◌==◌ w (keyword_text Keyword.MessageTag)) _ _ other ∙ same_rest line word left w ws (and_room left (read w))

  push_list : (xs : List A) (x : A) (rest : Result (List A × UnreadWords) TextFault) → list_behind (xs ++ x ∷ []) rest ≡ list_behind xs (list_behind (x ∷ []) rest)
  push_list xs x (Ok others) = ap (λ ys. Ok (ys, others.1)) (append_assoc xs (x ∷ []) others.0)
  push_list xs x (Err fault) = refl

  one_told : (wanted : Wanted) (u : UnreadWords) (r : Result A Cause) → is_done u ≡ false → one_word wanted u r ≡ told u r
  one_told wanted u r some = cond-false (is_done u) (Err (refused u (Cause.Wanted wanted))) (told u r) some

  pub list_goes_on : (wanted : Wanted) (left : ℕ) (u v : UnreadWords) (xs : List A) (x : A) (whole : Result (List A × UnreadWords) TextFault) → is_done u ≡ false → begins Keyword.MessageTag u ≡ false
      → one_word wanted u (and_room left (read (first_unread u))) ≡ Ok (x, v) → list_behind xs (list_ahead read left u) ≡ whole → list_behind (xs ++ x ∷ []) (list_ahead read (left - 1) v) ≡ whole
  list_goes_on wanted left u v xs x whole some other here is =
      let step : told u (and_room left (read (first_unread u))) ≡ Ok (x, v) = sym (one_told wanted u (and_room left (read (first_unread u))) some) ∙ here in
      push_list xs x (list_ahead read (left - 1) v)
      ∙ sym (ap (list_behind xs) (steps_at left u.line u.word u.words some other
      ∙ ap (item_then left) step))
      ∙ is

  pub nothing_behind : (none : List A) (rest : Result (List A × UnreadWords) TextFault) → none ≡ [] → list_behind none rest ≡ rest
  nothing_behind none (Ok others) is = ap (λ xs. Ok (xs ++ others.0, others.1)) is
  nothing_behind none (Err fault) is = refl

  pub list_fails : (wanted : Wanted) (left : ℕ) (u : UnreadWords) (xs : List A) (fault : TextFault) (whole : Result (List A × UnreadWords) TextFault) → is_done u ≡ false → begins Keyword.MessageTag u ≡ false
      → one_word wanted u (and_room left (read (first_unread u))) ≡ Err fault → list_behind xs (list_ahead read left u) ≡ whole → whole ≡ Err fault
  list_fails wanted left u xs fault whole some other here is =
      let step : told u (and_room left (read (first_unread u))) ≡ Err fault = sym (one_told wanted u (and_room left (read (first_unread u))) some) ∙ here in
      sym is ∙ ap (list_behind xs) (steps_at left u.line u.word u.words some other
      ∙ ap (item_then left) step)

-- ---- the bytes of a message
bytes_end_at : (before : List ℕ) (line word : ℕ) (words : List (List ℕ)) → none_left words ≡ true → bytes_at before line word words ≡ Ok (before, record { line = line; word = word; words = words })
unfolding bytes_at
bytes_end_at before line word [] none = refl
bytes_end_at before line word (w ∷ ws) none = cc

pub bytes_end : (before : List ℕ) (u : UnreadWords) (whole : Result (List ℕ × UnreadWords) TextFault) → is_done u ≡ true → bytes_at before u.line u.word u.words ≡ whole → whole ≡ Ok (before, u)
bytes_end before u whole done is = sym is ∙ bytes_end_at before u.line u.word u.words done

abbrev bytes_then : Result (List ℕ × UnreadWords) TextFault → Result (List ℕ × UnreadWords) TextFault
bytes_then (Ok more) = bytes_at more.0 more.1.line more.1.word more.1.words
bytes_then (Err fault) = Err fault

bytes_same : (line word : ℕ) (w : List ℕ) (ws : List (List ℕ)) (r : Result (List ℕ) Cause)
    → (told (record { line = line; word = word; words = w ∷ ws }) r >>= (λ more. bytes_at more.0 line (word + 1) ws)) ≡ bytes_then (told (record { line = line; word = word; words = w ∷ ws }) r)
bytes_same line word w ws (Ok x) = refl
bytes_same line word w ws (Err cause) = refl

bytes_step : (before : List ℕ) (line word : ℕ) (words : List (List ℕ)) → none_left words ≡ false → bytes_at before line word words ≡ bytes_then (told (record { line = line; word = word; words = words }) (bytes_with_room before (bytes_or (pairs_said (leading_word words)))))
unfolding bytes_at
bytes_step before line word [] some = cc
bytes_step before line word (w ∷ ws) some = bytes_same line word w ws (bytes_with_room before (bytes_or (pairs_said w)))

-- what the next word comes to
pub bytes_bad : (before new : List ℕ) (u : UnreadWords) (said : Option (List ℕ)) (whole : Result (List ℕ × UnreadWords) TextFault) → is_done u ≡ false → pairs_said (first_unread u) ≡ said → AppendsPairs before new said false
    → bytes_at before u.line u.word u.words ≡ whole → whole ≡ Err (refused u (Cause.OutOfForm Wanted.Bytes))
bytes_bad before new u None whole some e appends is = sym is ∙ bytes_step before u.line u.word u.words some ∙ ap (λ o. bytes_then (told u (bytes_with_room before (bytes_or o)))) e
bytes_bad before new u (Some bytes) whole some e appends is = absurd appends

pub bytes_long : (before new : List ℕ) (u : UnreadWords) (said : Option (List ℕ)) (whole : Result (List ℕ × UnreadWords) TextFault) → is_done u ≡ false → pairs_said (first_unread u) ≡ said → AppendsPairs before new said true → 65535 < length new
    → bytes_at before u.line u.word u.words ≡ whole → whole ≡ Err (refused u Cause.MessageTooLong)
bytes_long before new u None whole some e appends long is = absurd appends
bytes_long before new u (Some bytes) whole some e appends long is =
    sym is ∙ bytes_step before u.line u.word u.words some ∙ ap (λ o. bytes_then (told u (bytes_with_room before (bytes_or o)))) e
    ∙ ap (λ r. bytes_then (told u r)) (cond-true (nat_lt 65535 (length (before ++ bytes))) (Err Cause.MessageTooLong) (Ok (before ++ bytes)) (lt-ltb 65535 (length (before ++ bytes)) (omega (arith, long, ap length appends))))

pub bytes_go_on : (before new : List ℕ) (u v : UnreadWords) (said : Option (List ℕ)) (whole : Result (List ℕ × UnreadWords) TextFault) → is_done u ≡ false → pairs_said (first_unread u) ≡ said → AppendsPairs before new said true → length new ≤ 65535 → v ≡ behind_next u
    → bytes_at before u.line u.word u.words ≡ whole → bytes_at new v.line v.word v.words ≡ whole
bytes_go_on before new u v None whole some e appends short next is = absurd appends
bytes_go_on before new u v (Some bytes) whole some e appends short next is =
    ap (λ (w : UnreadWords). bytes_at new w.line w.word w.words) next
    ∙ ap (λ xs. bytes_at xs (behind_next u).line (behind_next u).word (behind_next u).words) appends
    ∙ sym (bytes_step before u.line u.word u.words some ∙ ap (λ o. bytes_then (told u (bytes_with_room before (bytes_or o)))) e
    ∙ ap (λ r. bytes_then (told u r)) (cond-false (nat_lt 65535 (length (before ++ bytes))) (Err Cause.MessageTooLong) (Ok (before ++ bytes)) (le-ltb 65535 (length (before ++ bytes)) (omega (arith, short, ap length appends)))))
    ∙ is
