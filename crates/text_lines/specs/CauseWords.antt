-- Why a command is refused, in words: the rule that it breaks, with the values that say how.
use Rattle.std.specs.Prelude.{ℕ, ◌-◌, ◌==◌, List, [], ◌++◌, length, if◌then◌else◌, codes, decimal}
use Rattle.std.specs.Int.{w16, to_be_bytes}
use Rattle.hex.specs.Hex.{encode_lower}
use Rattle.dcd_codes.specs.declared.rules.Rule.{Rule}
use Rattle.region_config.specs.Configurations.{Configuration}
use Rattle.text_lines.specs.Numbers.{size_text}

-- words with a number, a length or two numbers between them
unfoldable pub with_one : List ℕ → ℕ → List ℕ → List ℕ
with_one before n behind = before ++ decimal n ++ behind

unfoldable pub with_size : List ℕ → ℕ → List ℕ → List ℕ
with_size before n behind = before ++ size_text n ++ behind

unfoldable pub with_two : List ℕ → ℕ → List ℕ → ℕ → List ℕ → List ℕ
with_two before first between second behind = with_one before first between ++ with_one [] second behind

-- a return code or an opcode as the specification writes it
unfoldable pub code_number : ℕ → List ℕ
code_number n = encode_lower (to_be_bytes w16 n) ++ codes "h"

unfoldable pub in_opcode : List ℕ → ℕ → List ℕ
in_opcode before opcode = before ++ code_number opcode

-- which of so many there are
unfoldable pub known_words : ℕ → List ℕ
known_words count =
    if count == 0 then codes "there is none"
    else if count == 1 then codes "there is 0 alone"
    else if count == 2 then codes "there are 0 and 1"
    else with_one (codes "there are 0 to ") (count - 1) []

unfoldable pub beyond : List ℕ → ℕ → ℕ → List ℕ
beyond before n count = with_one before n (codes "; ") ++ known_words count

unfoldable pub places_words : ℕ → ℕ → ℕ → List ℕ
places_words host have need = with_one (codes "the log of h") host (codes " has room for ") ++ with_two [] have (codes " records, and ") need (codes " are due")

-- the rule in words
unfoldable pub cause_words : Configuration → Rule → List ℕ
cause_words c (Rule.UnknownOpcode opcode) = in_opcode (codes "the actor has no command of the opcode ") opcode
cause_words c (Rule.WrongLength need have) = with_two (codes "the payload has ") have (codes " bytes and not ") need []
cause_words c (Rule.NoSuchRegion region) = beyond (codes "no region ") region (length c.regions)
cause_words c (Rule.NoSuchHost host) = beyond (codes "no host ") host (c.hosts)
cause_words c (Rule.PastEnd first total) = with_two (codes "index ") first (codes " is past the end, there are ") total []
cause_words c (Rule.NoSuchLog log) = with_one (codes "no event log ") log (codes "; there are 0 to 4")
cause_words c (Rule.UnknownHandle handle) = with_one (codes "no record behind those named before has the handle ") handle []
cause_words c (Rule.OlderLeft handle) = with_one (codes "the older record ") handle (codes " is left out")
cause_words c Rule.NotOverflowed = codes "the log has lost no record, so that `all` is not taken"
cause_words c (Rule.TooManyListed count) = with_one [] count (codes " extents are listed, held ones among them; 64 is the most")
cause_words c (Rule.ZeroLength index) = with_one (codes "extent ") index (codes " has the length 0")
cause_words c (Rule.OutsideRegion index) = with_one (codes "extent ") index (codes " does not lie within one region of the host, or not in the named one")
cause_words c (Rule.Unaligned index) = with_one (codes "extent ") index (codes " does not begin and end with blocks of its region")
cause_words c (Rule.NotOffered index) = with_one (codes "extent ") index (codes " lies in no one extent of the host's oldest offer")
cause_words c (Rule.NotAccepted index) = with_one (codes "extent ") index (codes " lies in no one extent that the host has")
cause_words c (Rule.NotFree index) = with_one (codes "extent ") index (codes " is not free")
cause_words c (Rule.Overlap index other) = with_two (codes "extent ") index (codes " overlaps extent ") other []
cause_words c (Rule.NotWhole index) = with_one (codes "extent ") index (codes " is a part of a shared extent, which is taken and given back whole")
cause_words c (Rule.TagIncomplete listed need) = with_two [] listed (codes " of the ") need (codes " extents of a shared tag are listed, which go together")
cause_words c (Rule.TooManyExtents count) = with_one (codes "the host would have ") count (codes " extents, offered ones among them; 64 is the most")
cause_words c (Rule.NoSuchPolicy policy) = with_one (codes "no policy ") policy []
cause_words c Rule.EmptyList = codes "no extent is listed"
cause_words c (Rule.NotShareable region) = with_one (codes "region ") region (codes " is not shareable")
cause_words c Rule.ZeroTag = codes "a tag is wanted"
cause_words c Rule.TagInUse = codes "the tag is in use"
cause_words c Rule.NoSuchTag = codes "no live tag is this one"
cause_words c Rule.AlreadyShared = codes "the host has the tag, or is offered it"
cause_words c (Rule.BadLength bytes) = with_size (codes "the length ") bytes (codes " is 0 or no whole number of blocks")
cause_words c (Rule.TooFewFree need have) = with_two (codes "needs ") need (codes " free blocks, ") have (codes " are free (side by side, where the add is contiguous)")
cause_words c (Rule.TooManyTags count) = with_one (codes "the host would have ") count (codes " tags; 32 is the most")
cause_words c (Rule.LogFull host need have) = places_words host have need
cause_words c Rule.UnsupportedFlag = codes "a flag is set that the device does not have"
cause_words c (Rule.NotSupportedSize size) = with_size (codes "the block size ") size (codes " is none of the region's")
cause_words c Rule.SanitizeDiffers = codes "the sanitize flag is not as the region is configured"
cause_words c (Rule.RegionInUse count) = with_one [] count (codes " granules of the region are not free")
cause_words c Rule.NoReference = codes "the manager has no reference to the tag"
