-- What bytes tell of the effects of an entry.
use Rattle.std.specs.Prelude.{ℕ, ◌≡◌, ◌/◌, ◌%◌, ◌^◌, ◌==◌, ◌++◌, Bool, true, false, List, [], ◌∷◌, Option, Some, None, filter, if◌then◌else◌, map, nat_lt}
use Rattle.dcd_base.specs.declared.capacity.Extent.{Extent}
use Rattle.journal_core.specs.declared.outcome.Effect.{Effect}
use Rattle.kept_journal.specs.declared.slots.TheConstants.{ANSWER, CLEARED, COUNT, HOLD, LEAVE, LENGTH, LOGGED, MISSED, MORE, OFFER, REF, REGION, RESET, SOIL, TAG_END, TAKE, UNHOLD, ZERO}
use Rattle.kept_journal.specs.declared.tokens.Token.{Token}
use Rattle.kept_journal.specs.Slots.{slotted_event, slotted_extent, slotted_flag, slotted_held, slotted_host, slotted_log, no_slots, slotted_run, slotted_tag, with_byte, with_slot}

-- the token of a kind that the slots hold
unfoldable pub token_of : ℕ → (ℕ → ℕ) → Token
token_of kind slots =
    if kind == MORE then Token.More (slotted_extent slots)
    else if kind == OFFER then Token.Offer (slotted_host slots)
    else if kind == ANSWER then Token.Answer (slotted_host slots)
    else if kind == HOLD then Token.Hold (slotted_host slots) (slotted_held slots)
    else if kind == TAKE then Token.Take (slotted_host slots) (slotted_run slots)
    else if kind == LEAVE then Token.Leave (slotted_host slots) (slotted_run slots)
    else if kind == ZERO then Token.Zero (slotted_run slots)
    else if kind == SOIL then Token.Soil (slotted_run slots)
    else if kind == UNHOLD then Token.Unhold (slotted_host slots) (slotted_held slots)
    else if kind == LOGGED then Token.Logged (slotted_log slots) (slotted_event slots)
    else if kind == MISSED then Token.Missed (slotted_log slots)
    else if kind == CLEARED then Token.Cleared (slotted_log slots) (slots COUNT % 2 ^ 16)
    else if kind == RESET then Token.Reset (slotted_log slots)
    else if kind == REF then Token.Ref (slotted_tag slots) (slotted_flag slots)
    else if kind == TAG_END then Token.TagEnd (slotted_tag slots)
    else Token.Block (slots REGION % 256) (slots LENGTH)

-- A byte below 128 is a place, and the byte behind it is the one that now stands there: of slot n at the places 8 n to 8 n + 7,
-- the lowest first. A byte from 128 on is the kind of a token, which the slots hold.
unfoldable pub tokens_in : (ℕ → ℕ) → Option ℕ → List ℕ → List Token
tokens_in slots place [] = []
tokens_in slots None (byte ∷ bytes) =
    if nat_lt byte 128 then tokens_in slots (Some byte) bytes else token_of byte slots ∷ tokens_in slots None bytes
tokens_in slots (Some place) (byte ∷ bytes) =
    tokens_in (with_slot slots (place / 8) (with_byte (slots (place / 8)) (place % 8) byte)) None bytes

-- the tokens of an effect: its extents come before it
abbrev pub tokens_of : Effect → List Token
tokens_of (Effect.Offer h xs) = map Token.More xs ++ Token.Offer h ∷ []
tokens_of (Effect.Answer h xs) = map Token.More xs ++ Token.Answer h ∷ []
tokens_of (Effect.Take h run) = Token.Take h run ∷ []
tokens_of (Effect.Leave h run) = Token.Leave h run ∷ []
tokens_of (Effect.Zero run) = Token.Zero run ∷ []
tokens_of (Effect.Soil run) = Token.Soil run ∷ []
tokens_of (Effect.Hold h kind xs) = map Token.More xs ++ Token.Hold h kind ∷ []
tokens_of (Effect.Unhold h kind) = Token.Unhold h kind ∷ []
tokens_of (Effect.Logged log e) = Token.Logged log e ∷ []
tokens_of (Effect.Missed log) = Token.Missed log ∷ []
tokens_of (Effect.Cleared log count) = Token.Cleared log count ∷ []
tokens_of (Effect.Reset log) = Token.Reset log ∷ []
tokens_of (Effect.Ref t is_on) = Token.Ref t is_on ∷ []
tokens_of (Effect.TagEnd t) = Token.TagEnd t ∷ []
tokens_of (Effect.Block r size) = Token.Block r size ∷ []

-- the effects of some tokens, where these extents wait for the next one that has extents
abbrev pub effects_from : List Extent → List Token → List Effect
effects_from waiting [] = []
effects_from waiting (Token.More x ∷ tokens) = effects_from (waiting ++ x ∷ []) tokens
effects_from waiting (Token.Offer h ∷ tokens) = Effect.Offer h waiting ∷ effects_from [] tokens
effects_from waiting (Token.Answer h ∷ tokens) = Effect.Answer h waiting ∷ effects_from [] tokens
effects_from waiting (Token.Hold h kind ∷ tokens) = Effect.Hold h kind waiting ∷ effects_from [] tokens
effects_from waiting (Token.Take h run ∷ tokens) = Effect.Take h run ∷ effects_from waiting tokens
effects_from waiting (Token.Leave h run ∷ tokens) = Effect.Leave h run ∷ effects_from waiting tokens
effects_from waiting (Token.Zero run ∷ tokens) = Effect.Zero run ∷ effects_from waiting tokens
effects_from waiting (Token.Soil run ∷ tokens) = Effect.Soil run ∷ effects_from waiting tokens
effects_from waiting (Token.Unhold h kind ∷ tokens) = Effect.Unhold h kind ∷ effects_from waiting tokens
effects_from waiting (Token.Logged log e ∷ tokens) = Effect.Logged log e ∷ effects_from waiting tokens
effects_from waiting (Token.Missed log ∷ tokens) = Effect.Missed log ∷ effects_from waiting tokens
effects_from waiting (Token.Cleared log count ∷ tokens) = Effect.Cleared log count ∷ effects_from waiting tokens
effects_from waiting (Token.Reset log ∷ tokens) = Effect.Reset log ∷ effects_from waiting tokens
effects_from waiting (Token.Ref t is_on ∷ tokens) = Effect.Ref t is_on ∷ effects_from waiting tokens
effects_from waiting (Token.TagEnd t ∷ tokens) = Effect.TagEnd t ∷ effects_from waiting tokens
effects_from waiting (Token.Block r size ∷ tokens) = Effect.Block r size ∷ effects_from waiting tokens

-- the effects that the bytes tell
abbrev pub effects_told : List ℕ → List Effect
effects_told bytes = effects_from [] (tokens_in no_slots None bytes)

-- ---- effects without extents

abbrev pub has_no_extents : Effect → Bool
has_no_extents (Effect.Offer h xs) = false
has_no_extents (Effect.Answer h xs) = false
has_no_extents (Effect.Hold h kind xs) = false
has_no_extents effect = true

-- those among some effects
abbrev pub without_extents : List Effect → List Effect
without_extents effects = filter has_no_extents effects

-- What is found is the effect, which is one without extents.
abbrev pub IsAlone : Effect → Option Effect → Type 0
IsAlone effect None = has_no_extents effect ≡ false
IsAlone effect (Some found) = (found ≡ effect) × (has_no_extents effect ≡ true)

-- the effect that a token is, if it is one without extents
abbrev pub effect_alone : Token → Option Effect
effect_alone (Token.More x) = None
effect_alone (Token.Offer h) = None
effect_alone (Token.Answer h) = None
effect_alone (Token.Hold h kind) = None
effect_alone (Token.Take h run) = Some (Effect.Take h run)
effect_alone (Token.Leave h run) = Some (Effect.Leave h run)
effect_alone (Token.Zero run) = Some (Effect.Zero run)
effect_alone (Token.Soil run) = Some (Effect.Soil run)
effect_alone (Token.Unhold h kind) = Some (Effect.Unhold h kind)
effect_alone (Token.Logged log e) = Some (Effect.Logged log e)
effect_alone (Token.Missed log) = Some (Effect.Missed log)
effect_alone (Token.Cleared log count) = Some (Effect.Cleared log count)
effect_alone (Token.Reset log) = Some (Effect.Reset log)
effect_alone (Token.Ref t is_on) = Some (Effect.Ref t is_on)
effect_alone (Token.TagEnd t) = Some (Effect.TagEnd t)
effect_alone (Token.Block r size) = Some (Effect.Block r size)
