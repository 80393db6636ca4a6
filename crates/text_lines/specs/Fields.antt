-- How a line is read word by word: what was read and what is still to come, or the fault that ends the reading.
use Rattle.std.specs.Prelude.{◌≡◌, ◌≢◌, ℕ, ◌+◌, ◌-◌, ◌^◌, Bool, true, false, ◌==◌, List, [], ◌∷◌, ◌++◌, Option, Some, None, Result, Ok, Err, if◌then◌else◌}
use lib.Pointwise.{pointwise}
use Rattle.dcd_base.specs.{declared.capacity.Extent.Extent, declared.capacity.Tag.Tag, Words.zero_tag}
use Rattle.text_lines.specs.{Chains.◌>>!◌ as ◌>>=◌, Extents.extent_said, Extents.limited_extent, Keywords.keyword_text, Numbers.number_said, Numbers.limited, Pairs.tag_said}
use Rattle.text_lines.specs.{Unread.UnreadWords, Unread.is_done, Unread.first_unread, Unread.behind_next, declared.faults.Cause.Cause, declared.faults.TextFault.TextFault}
use Rattle.text_lines.specs.declared.{faults.Wanted.Wanted, keywords.Keyword.Keyword, word_faults.NumberFault.NumberFault}

-- The call answers what the definition reads, and leaves what is still to come. Memory may be wanting at any time.
abbrev pub GivesWords : {A B : Type 0} → (A → B) → Result A TextFault → UnreadWords → Result (B × UnreadWords) TextFault → Type 0
GivesWords view (Ok x) left read = read ≡ Ok (view x, left)
GivesWords view (Err fault) left read = fault ≢ TextFault.NoMemory → read ≡ Err fault

-- The same of a call that reads no further.
abbrev pub GivesLast : {A B : Type 0} → (A → B) → Result A TextFault → Result B TextFault → Type 0
GivesLast view (Ok x) read = read ≡ Ok (view x)
GivesLast view (Err fault) read = fault ≢ TextFault.NoMemory → read ≡ Err fault

-- what is wrong with the next word
abbrev pub refused : UnreadWords → Cause → TextFault
refused u cause = TextFault.Refused u.line u.word cause

-- whether that word of the grammar comes next
abbrev pub begins : Keyword → UnreadWords → Bool
begins keyword u = pointwise ◌==◌ (first_unread u) (keyword_text keyword)

-- what a word says, with what comes behind it
abbrev pub told : {A : Type 0} → UnreadWords → Result A Cause → Result (A × UnreadWords) TextFault
told u (Ok x) = Ok (x, behind_next u)
told u (Err cause) = Err (refused u cause)

-- the next word, which has to be there
abbrev pub one_word : {A : Type 0} → Wanted → UnreadWords → Result A Cause → Result (A × UnreadWords) TextFault
one_word wanted u read = if is_done u then Err (refused u (Cause.Wanted wanted)) else told u read

-- a word of the grammar
unfoldable pub keyword_ahead : Keyword → UnreadWords → Result (Unit {0} × UnreadWords) TextFault
keyword_ahead keyword u = if begins keyword u then Ok (tt, behind_next u) else Err (refused u (Cause.Wanted (Wanted.Keyword keyword)))

-- a word of the grammar that may be there
unfoldable pub flag_ahead : Keyword → UnreadWords → Bool × UnreadWords
flag_ahead keyword u = if begins keyword u then (true, behind_next u) else (false, u)

-- nothing more on the line
unfoldable pub end_ahead : UnreadWords → Result (Unit {0} × UnreadWords) TextFault
end_ahead u = if is_done u then Ok (tt, u) else Err (refused u (Cause.Wanted Wanted.End))

-- ---- numbers

abbrev pub number_or : ℕ → Result ℕ NumberFault → Result ℕ Cause
number_or most (Ok n) = Ok n
number_or most (Err NumberFault.NoNumber) = Err (Cause.OutOfForm Wanted.Number)
number_or most (Err NumberFault.TooLarge) = Err (Cause.TooLarge most)

-- the number of a word, at most that
abbrev pub number_of_word : ℕ → List ℕ → Result ℕ Cause
number_of_word most word = number_or most (limited most (number_said word))

-- a number that is at most that
unfoldable pub number_ahead : ℕ → UnreadWords → Result (ℕ × UnreadWords) TextFault
number_ahead most u = one_word Wanted.Number u (number_of_word most (first_unread u))

-- a number behind its keyword; 0 where it is left out
unfoldable pub may_ahead : Keyword → ℕ → UnreadWords → Result (ℕ × UnreadWords) TextFault
may_ahead keyword most u = if begins keyword u then number_ahead most (behind_next u) else Ok (0, u)

-- a number behind its keyword
unfoldable pub named_ahead : Keyword → ℕ → UnreadWords → Result (ℕ × UnreadWords) TextFault
named_ahead keyword most u = do
  begun ← keyword_ahead keyword u
  number_ahead most begun.1

-- ---- tags

abbrev pub tag_or : Option Tag → Result Tag Cause
tag_or (Some tag) = Ok tag
tag_or None = Err (Cause.OutOfForm Wanted.Tag)

unfoldable pub tag_ahead : UnreadWords → Result (Tag × UnreadWords) TextFault
tag_ahead u = one_word Wanted.Tag u (tag_or (tag_said (first_unread u)))

-- a tag behind its keyword; none where it is left out
unfoldable pub may_tag_ahead : UnreadWords → Result (Tag × UnreadWords) TextFault
may_tag_ahead u = if begins Keyword.Tag u then tag_ahead (behind_next u) else Ok (zero_tag, u)

-- ---- lists up to the message tag or the end

abbrev pub extent_or : Result Extent NumberFault → Result Extent Cause
extent_or (Ok x) = Ok x
extent_or (Err NumberFault.NoNumber) = Err (Cause.OutOfForm Wanted.Extent)
extent_or (Err NumberFault.TooLarge) = Err (Cause.TooLarge (2 ^ 64 - 1))

abbrev pub extent_of_word : List ℕ → Result Extent Cause
extent_of_word word = extent_or (limited_extent (extent_said word))

-- so many more may come
abbrev pub with_room : {A : Type 0} → ℕ → A → Result A Cause
with_room left x = if left == 0 then Err Cause.MessageTooLong else Ok x

abbrev pub and_room : {A : Type 0} → ℕ → Result A Cause → Result A Cause
and_room left (Ok x) = with_room left x
and_room left (Err cause) = Err cause

-- these before those that are still to come
abbrev pub list_behind : {A : Type 0} → List A → Result (List A × UnreadWords) TextFault → Result (List A × UnreadWords) TextFault
list_behind before (Ok rest) = Ok (before ++ rest.0, rest.1)
list_behind before (Err fault) = Err fault

-- the words of a list, of which so many may come
unfoldable pub list_at : {A : Type 0} → (List ℕ → Result A Cause) → ℕ → ℕ → ℕ → List (List ℕ) → Result (List A × UnreadWords) TextFault
list_at read left line word [] = Ok ([], record { line = line; word = word; words = [] })
list_at read left line word (w ∷ ws) =
    if pointwise ◌==◌ w (keyword_text Keyword.MessageTag) then Ok ([], record { line = line; word = word; words = w ∷ ws })
    else (do
      first ← told (record { line = line; word = word; words = w ∷ ws }) (and_room left (read w))
      list_behind (first.0 ∷ []) (list_at read (left - 1) line (word + 1) ws))

abbrev pub list_ahead : {A : Type 0} → (List ℕ → Result A Cause) → ℕ → UnreadWords → Result (List A × UnreadWords) TextFault
list_ahead read left u = list_at read left u.line u.word u.words

-- extents, at most so many
unfoldable pub extents_ahead : ℕ → UnreadWords → Result (List Extent × UnreadWords) TextFault
extents_ahead left u = list_ahead extent_of_word left u

-- at least one handle, and at most 255
abbrev pub some_handles_ahead : UnreadWords → Result (List ℕ × UnreadWords) TextFault
some_handles_ahead u = do
  first ← number_ahead 65535 u
  list_behind (first.0 ∷ []) (list_ahead (number_of_word 65535) 254 first.1)

-- handles behind their keyword, at most 255 and at least one; none where they are left out
unfoldable pub handles_ahead : UnreadWords → Result (List ℕ × UnreadWords) TextFault
handles_ahead u = if begins Keyword.Handles u then some_handles_ahead (behind_next u) else Ok ([], u)
