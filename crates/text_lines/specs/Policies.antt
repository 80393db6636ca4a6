-- The policies of adds and of releases, as they are read and printed.
use Rattle.std.specs.Prelude.{ℕ, ◌+◌, ◌*◌, ◌/◌, ◌%◌, ◌&&◌, ◌==◌, nat_lt, Bool, List, [], ◌∷◌, ◌++◌, Option, Some, None, Result, Ok, Err, if◌then◌else◌, codes, decimal}
use lib.Pointwise.{pointwise}
use Rattle.dcd_base.specs.Words.{flag_of}
use Rattle.text_lines.specs.{Chains.◌>>!◌ as ◌>>=◌, Fields.begins, Fields.flag_ahead, Fields.number_ahead, Fields.one_word, Numbers.hexadecimal}
use Rattle.text_lines.specs.{Unread.UnreadWords, Unread.first_unread, Unread.behind_next, declared.faults.Cause.Cause, declared.faults.TextFault.TextFault, declared.faults.Wanted.Wanted}
use Rattle.text_lines.specs.declared.keywords.Keyword.{Keyword}

-- the policy of an add that a word names
unfoldable pub add_policy_said : List ℕ → Option ℕ
add_policy_said word =
    if pointwise ◌==◌ word (codes "free") then Some 0
    else if pointwise ◌==◌ word (codes "contiguous") then Some 1
    else if pointwise ◌==◌ word (codes "prescriptive") then Some 2
    else if pointwise ◌==◌ word (codes "enable-shared-access") then Some 3
    else None

abbrev pub policy_or : Wanted → Option ℕ → Result ℕ Cause
policy_or wanted (Some policy) = Ok policy
policy_or wanted None = Err (Cause.Wanted wanted)

-- a policy by its name
abbrev pub add_name_ahead : UnreadWords → Result (ℕ × UnreadWords) TextFault
add_name_ahead u = one_word Wanted.AddPolicy u (policy_or Wanted.AddPolicy (add_policy_said (first_unread u)))

-- its name, or its number behind a keyword
unfoldable pub add_policy_ahead : UnreadWords → Result (ℕ × UnreadWords) TextFault
add_policy_ahead u =
    if begins Keyword.Policy u then number_ahead 255 (behind_next u)
    else add_name_ahead u

-- the policy of a release that a word names
unfoldable pub release_policy_said : List ℕ → Option ℕ
release_policy_said word =
    if pointwise ◌==◌ word (codes "tag-based") then Some 0
    else if pointwise ◌==◌ word (codes "prescriptive") then Some 1
    else None

-- bits 3:0 are the policy, bit 4 forced, bit 5 sanitize
abbrev pub release_flags : ℕ → Bool → Bool → ℕ
release_flags policy forced sanitize = policy + 16 * flag_of forced + 32 * flag_of sanitize

abbrev pub release_name_ahead : UnreadWords → Result (ℕ × UnreadWords) TextFault
release_name_ahead u = one_word Wanted.ReleasePolicy u (policy_or Wanted.ReleasePolicy (release_policy_said (first_unread u)))

unfoldable pub named_flags_ahead : UnreadWords → Result (ℕ × UnreadWords) TextFault
named_flags_ahead u = do
  policy ← release_name_ahead u
  let forced = flag_ahead Keyword.Forced policy.1 in
      let sanitize = flag_ahead Keyword.Sanitize forced.1 in
      Ok (release_flags policy.0 forced.0 sanitize.0, sanitize.1)

-- the policy by its name and what is set, or all flags behind a keyword
unfoldable pub release_flags_ahead : UnreadWords → Result (ℕ × UnreadWords) TextFault
release_flags_ahead u = if begins Keyword.Flags u then number_ahead 255 (behind_next u) else named_flags_ahead u

-- ---- printed

abbrev pub add_policy_text : ℕ → List (List ℕ)
add_policy_text policy =
    if policy == 0 then codes "free" ∷ []
    else if policy == 1 then codes "contiguous" ∷ []
    else if policy == 2 then codes "prescriptive" ∷ []
    else if policy == 3 then codes "enable-shared-access" ∷ []
    else codes "policy" ∷ decimal policy ∷ []

-- whether the flags have a name
abbrev pub are_named : ℕ → Bool
are_named flags = nat_lt flags 64 && nat_lt (flags % 16) 2

abbrev pub word_where : Bool → List ℕ → List (List ℕ)
word_where set word = if set then word ∷ [] else []

-- the name of a policy of a release, below 2
abbrev pub release_policy_text : ℕ → List ℕ
release_policy_text policy = if policy == 0 then codes "tag-based" else codes "prescriptive"

abbrev pub release_flags_text : ℕ → List (List ℕ)
release_flags_text flags =
    if are_named flags then
    release_policy_text (flags % 16) ∷ word_where (flags / 16 % 2 == 1) (codes "forced") ++ word_where (flags / 32 % 2 == 1) (codes "sanitize")
    else codes "flags" ∷ hexadecimal flags ∷ []
