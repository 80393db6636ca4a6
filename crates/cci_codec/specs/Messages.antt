-- The form of a message: a header of 12 bytes and a payload.
use Rattle.std.specs.Prelude.{◌≡◌, ℕ, ◌+◌, ◌-◌, ◌*◌, ◌/◌, ◌%◌, ◌^◌, not, ◌==◌, nat_lt, List, [], ◌∷◌, ◌++◌, length, drop, slice_index, Option, Some, None, Result, Ok, Err, ⊤, if◌then◌else◌, bit_and}
use Rattle.std.specs.Int.{w8, w16}
use Rattle.cci_codec.specs.declared.{messages.Request.Request, messages.Response.Response, faults.MessageFault.MessageFault}
use Rattle.dcd_base.specs.Layouts.{Field, spelling, number_at, Number, Masked, Raw, Reserved, Reads, Writes}

-- Bytes 0 to 7 of each message: bits 3:0 of byte 0 are the category, bits 20:0 of bytes 5 to 7 the length of the
-- payload. Bit 23, the background operation, is ignored on input and 0 on output.
abbrev pub front_fields : ℕ → ℕ → ℕ → ℕ → List Field
front_fields category tag opcode n =
    Masked 15 category
    ∷ Number w8 tag
    ∷ Reserved 1
    ∷ Number w16 opcode
    ∷ Number w16 (n % 2 ^ 16)  -- the length of the payload has 21 bits
    ∷ Masked 31 (n / 2 ^ 16)
    ∷ []

abbrev pub request_fields : Request → List Field
request_fields q =
    front_fields 0 q.tag q.opcode (length q.payload)
    ++ Reserved 4  -- return code and vendor status
    ∷ Raw (length q.payload) q.payload
    ∷ []

-- what stands before the payload of a response
abbrev pub response_head_fields : ℕ → ℕ → ℕ → ℕ → List Field
response_head_fields tag opcode code n =
    front_fields 1 tag opcode n
    ++ Number w16 code
    ∷ Reserved 2  -- vendor status
    ∷ []

abbrev pub response_fields : Response → List Field
response_fields s = response_head_fields s.tag s.opcode s.code (length s.payload) ++ Raw (length s.payload) s.payload ∷ []

-- The bytes read as this request, whatever their reserved and ignored bits are.
unfoldable pub ReadsRequest : List ℕ → Request → Type 0
ReadsRequest bytes q = Reads bytes (request_fields q)

-- The bytes are the one spelling of this request.
unfoldable pub WritesRequest : Request → List ℕ → Type 0
WritesRequest q bytes = Writes (request_fields q) bytes

abbrev pub request_bytes : Request → List ℕ
request_bytes q = spelling (request_fields q)

unfoldable pub response_bytes : Response → List ℕ
response_bytes s = spelling (response_fields s)

-- the payload length of a header
abbrev pub length_field : List ℕ → ℕ
length_field bytes = number_at w16 bytes 5 + 2 ^ 16 * bit_and (slice_index bytes 7) 31

-- why bytes are no request, in this order
abbrev pub message_fault : List ℕ → Option MessageFault
message_fault bytes =
    if nat_lt (length bytes) 12 then Some (MessageFault.Short (length bytes))
    else if not (bit_and (slice_index bytes 0) 15 == 0) then Some (MessageFault.NotRequest (bit_and (slice_index bytes 0) 15))
    else if not (length_field bytes == length bytes - 12) then Some (MessageFault.LengthDiffers (length_field bytes) (length bytes - 12))
    else None

-- The answer says the first such fault, or that there is none.
abbrev pub IsFaultOf : List ℕ → Result ⊤ MessageFault → Type 0
IsFaultOf bytes (Ok sound) = message_fault bytes ≡ None
IsFaultOf bytes (Err fault) = message_fault bytes ≡ Some fault

-- the request that bytes without such a fault are
abbrev pub request_in : List ℕ → Request
request_in bytes = record { tag = slice_index bytes 1; opcode = number_at w16 bytes 3; payload = drop 12 bytes }

-- What decoding the bytes answers: the request that they are, or the first fault. Memory is wanted for a request alone.
abbrev pub DecodesMessage : List ℕ → Result Request MessageFault → Type 0
DecodesMessage bytes (Ok request) = (message_fault bytes ≡ None) × (request ≡ request_in bytes)
DecodesMessage bytes (Err MessageFault.NoMemory) = message_fault bytes ≡ None
DecodesMessage bytes (Err fault) = message_fault bytes ≡ Some fault

-- What reading the bytes into a place answers, where the place is this request then: as decoding answers.
abbrev pub FillsMessage : List ℕ → Request → Result ⊤ MessageFault → Type 0
FillsMessage bytes request (Ok done) = DecodesMessage bytes (Ok request)
FillsMessage bytes request (Err fault) = DecodesMessage bytes (Err fault)

-- What decoding answers where the bytes read as this request: the request, if there is memory.
abbrev pub IsDecoded : Request → Result Request MessageFault → Type 0
IsDecoded request (Ok decoded) = decoded ≡ request
IsDecoded request (Err MessageFault.NoMemory) = Unit {0}
IsDecoded request (Err fault) = ⊥
