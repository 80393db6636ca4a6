-- Which actor a word says, and how an actor is printed.
use Rattle.std.specs.Prelude.{◌≡◌, ℕ, ◌&&◌, ◌==◌, nat_lt, Bool, List, ◌++◌, length, drop, slice_index, Option, Some, None, Result, Ok, Err, if◌then◌else◌, codes, decimal}
use lib.Pointwise.{pointwise}
use Rattle.dcd_base.specs.declared.steps.Actor.{Actor}
use Rattle.text_lines.specs.{Characters.passed_from, Characters.is_other, Extents.before, Extents.after, Fields.one_word, Numbers.digits_said, Numbers.under, Unread.UnreadWords, Unread.first_unread}
use Rattle.text_lines.specs.declared.{actors.Frame.Frame, actors.Speaker.Speaker, faults.Cause.Cause, faults.TextFault.TextFault, faults.Wanted.Wanted, word_faults.NumberFault.NumberFault}

-- h and the decimal number of a host
unfoldable pub host_said : List ℕ → Option ℕ
host_said word = if slice_index word 0 == 104 then digits_said 10 (drop 1 word) else None

-- whether a lane is told behind a dot
abbrev pub has_dot : List ℕ → Bool
has_dot word = nat_lt (passed_from (is_other 46) 0 word) (length word)

-- a host and a lane; what is out of form comes before what the script does not have
abbrev pub seat_of_parts : Result ℕ NumberFault → Result ℕ NumberFault → Result (ℕ × ℕ) NumberFault
seat_of_parts (Ok host) (Ok lane) = Ok (host, lane)
seat_of_parts (Ok host) (Err fault) = Err fault
seat_of_parts (Err NumberFault.NoNumber) lane = Err NumberFault.NoNumber
seat_of_parts (Err NumberFault.TooLarge) (Err NumberFault.NoNumber) = Err NumberFault.NoNumber
seat_of_parts (Err NumberFault.TooLarge) (Err NumberFault.TooLarge) = Err NumberFault.TooLarge
seat_of_parts (Err NumberFault.TooLarge) (Ok lane) = Err NumberFault.TooLarge

-- a host of the script and, in version 2, its lane behind a dot; lane 0 where none is told
unfoldable pub seat_said : Frame → List ℕ → Result (ℕ × ℕ) NumberFault
seat_said frame word =
    if (frame.version == 2) && has_dot word
    then seat_of_parts (under frame.hosts (host_said (before 46 word))) (under frame.lanes (digits_said 10 (after 46 word)))
    else seat_of_parts (under frame.hosts (host_said word)) (under frame.lanes (Some 0))

abbrev pub is_manager_word : List ℕ → Bool
is_manager_word word = pointwise ◌==◌ word (codes "fm")

-- a host in its lane; what is wanted where the word says none
abbrev pub actor_of_seat : Wanted → Result (ℕ × ℕ) NumberFault → Result Speaker Cause
actor_of_seat wanted (Ok seat) = Ok (Speaker.Host seat.0 seat.1)
actor_of_seat wanted (Err NumberFault.NoNumber) = Err (Cause.Wanted wanted)
actor_of_seat wanted (Err NumberFault.TooLarge) = Err Cause.NoSuchActor

-- the actor that a word says
unfoldable pub actor_of_word : Frame → Wanted → List ℕ → Result Speaker Cause
actor_of_word frame wanted word = if is_manager_word word then Ok Speaker.Manager else actor_of_seat wanted (seat_said frame word)

-- an actor behind a word
unfoldable pub actor_ahead : Frame → UnreadWords → Result (Speaker × UnreadWords) TextFault
actor_ahead frame u = one_word Wanted.Actor u (actor_of_word frame Wanted.Actor (first_unread u))

-- The word says the actor in that lane. The manager has lane 0, and no word says the sanitizer.
abbrev pub SaysActor : Frame → Actor → ℕ → List ℕ → Type 0
SaysActor frame (Actor.Host host) lane word = actor_of_word frame Wanted.Actor word ≡ Ok (Speaker.Host host lane)
SaysActor frame Actor.Manager lane word = (lane ≡ 0) × (actor_of_word frame Wanted.Actor word ≡ Ok Speaker.Manager)
SaysActor frame Actor.Sanitizer lane word = ⊥

-- ---- a host that the manager speaks of

abbrev pub host_or : Result ℕ NumberFault → Result ℕ Cause
host_or (Ok host) = Ok host
host_or (Err NumberFault.NoNumber) = Err (Cause.Wanted Wanted.Host)
host_or (Err NumberFault.TooLarge) = Err (Cause.TooLarge 65535)

unfoldable pub host_ahead : UnreadWords → Result (ℕ × UnreadWords) TextFault
host_ahead u = one_word Wanted.Host u (host_or (under 65536 (host_said (first_unread u))))

-- ---- printed

abbrev pub host_text : ℕ → List ℕ
host_text host = codes "h" ++ decimal host

-- version 2 tells the lane
abbrev pub seat_text : ℕ → ℕ → ℕ → List ℕ
seat_text version host lane = if version == 2 then host_text host ++ codes "." ++ decimal lane else host_text host

abbrev pub actor_text : ℕ → Actor → ℕ → List ℕ
actor_text version (Actor.Host host) lane = seat_text version host lane
actor_text version Actor.Manager lane = codes "fm"
actor_text version Actor.Sanitizer lane = codes "scrub"
