-- The payloads of 0100h and 0101h, which hosts and the manager ask alike.
use Rattle.std.specs.Prelude.{ℕ, ◌^◌, ◌<◌, Bool, List, [], ◌∷◌, length, map, drop, slice_index}
use Rattle.std.specs.Int.{w8, w16}
use Rattle.dcd_base.specs.{Layouts.Field, Layouts.Number, Layouts.Reserved, Layouts.flag, Layouts.pieces, Layouts.u16_in, Payloads.counted}

-- handles of event records, two bytes each
abbrev pub handle_fields : List ℕ → List Field
handle_fields handles = map (Number w16) handles

-- The handle has two bytes.
abbrev pub FitsHandle : ℕ → Type 0
FitsHandle handle = handle < 2 ^ 16

-- 0100h: a log
abbrev pub log_fields : ℕ → List Field
log_fields log = Number w8 log ∷ []

-- 0101h: a log, the flag Clear All, a count of handles, handles
abbrev pub clear_fields : ℕ → Bool → List ℕ → List Field
clear_fields log all handles =
    Number w8 log ∷ flag all ∷ Number w8 (length handles) ∷ Reserved 3 ∷ handle_fields handles

-- how long the payload of a 0101h has to be
abbrev pub clear_length : List ℕ → ℕ
clear_length payload = counted 6 2 (slice_index payload 2) payload

-- the handles of a 0101h
abbrev pub handles_in : List ℕ → List ℕ
handles_in payload = map u16_in (pieces 2 (slice_index payload 2) (drop 6 payload))
