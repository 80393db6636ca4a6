-- The code of each rule, and how a row of rules is read.
use Rattle.dcd_base.specs.Words.{◌or◌}
use Rattle.std.specs.declared.result.Result.{Result, TheVariants.Ok, TheVariants.Err}
use Rattle.std.specs.Prelude.{◌≡◌, ℕ, Bool, List, [], ◌∷◌, ◌++◌, Option, Some, None, if◌then◌else◌}
use Rattle.dcd_codes.specs.declared.{codes.Code.Code, refusals.Refusal.Refusal, rules.Rule.Rule}

-- This rule, where the test says that it is broken.
infix 12 ◌breaks◌
abbrev pub ◌breaks◌ : Bool → Rule → Option Rule
test breaks rule = if test then Some rule else None

-- The first rule that a member of the list breaks, each member tried beside those before it.
abbrev pub first_by : {X : Type 0} → (List X → X → Option Rule) → List X → List X → Option Rule
first_by check before [] = None
first_by check before (x ∷ xs) = check before x or first_by check (before ++ x ∷ []) xs

-- The first rule that a member breaks; the check sees the members before it, so that their number is its index.
abbrev pub each_in : {X : Type 0} → List X → (List X → X → Option Rule) → Option Rule
each_in xs check = first_by check [] xs

-- What a call that keeps a row answers: what it makes where no rule of the row is broken, and else the first broken one.
abbrev pub ByRow : {X : Type 0} → Option Rule → (X → Type 0) → Result X Refusal → Type 0
ByRow row Makes (Ok x) = (row ≡ None) × Makes x
ByRow row Makes (Err (Refusal.Broken rule)) = row ≡ Some rule
ByRow row Makes (Err Refusal.NoMemory) = Unit {0}

-- The code of a response to a command that breaks this rule first.
abbrev pub code_of : Rule → Code
code_of (Rule.UnknownOpcode n) = Code.Unsupported
code_of (Rule.WrongLength need have) = Code.InvalidPayloadLength
code_of (Rule.NoSuchRegion r) = Code.InvalidInput
code_of (Rule.NoSuchHost h) = Code.InvalidInput
code_of (Rule.PastEnd first total) = Code.InvalidInput
code_of (Rule.NoSuchLog l) = Code.InvalidInput
code_of (Rule.UnknownHandle n) = Code.InvalidHandle
code_of (Rule.OlderLeft n) = Code.InvalidHandle
code_of Rule.NotOverflowed = Code.InvalidInput
code_of (Rule.TooManyListed n) = Code.ResourcesExhausted
code_of (Rule.ZeroLength i) = Code.InvalidExtentList
code_of (Rule.OutsideRegion i) = Code.InvalidPhysicalAddress
code_of (Rule.Unaligned i) = Code.InvalidExtentList
code_of (Rule.NotOffered i) = Code.InvalidPhysicalAddress
code_of (Rule.NotAccepted i) = Code.InvalidPhysicalAddress
code_of (Rule.NotFree i) = Code.InvalidExtentList
code_of (Rule.Overlap i j) = Code.InvalidExtentList
code_of (Rule.NotWhole i) = Code.InvalidExtentList
code_of (Rule.TagIncomplete listed need) = Code.InvalidExtentList
code_of (Rule.TooManyExtents n) = Code.ResourcesExhausted
code_of (Rule.NoSuchPolicy n) = Code.InvalidInput
code_of Rule.EmptyList = Code.InvalidInput
code_of (Rule.NotShareable r) = Code.InvalidInput
code_of Rule.ZeroTag = Code.InvalidInput
code_of Rule.TagInUse = Code.InvalidInput
code_of Rule.NoSuchTag = Code.InvalidInput
code_of Rule.AlreadyShared = Code.InvalidInput
code_of (Rule.BadLength n) = Code.InvalidInput
code_of (Rule.TooFewFree need have) = Code.ResourcesExhausted
code_of (Rule.TooManyTags n) = Code.ResourcesExhausted
code_of (Rule.LogFull h need have) = Code.RetryRequired
code_of Rule.UnsupportedFlag = Code.Unsupported
code_of (Rule.NotSupportedSize n) = Code.InvalidInput
code_of Rule.SanitizeDiffers = Code.Unsupported
code_of (Rule.RegionInUse n) = Code.RetryRequired
code_of Rule.NoReference = Code.InvalidInput

-- The number of a code in a response.
abbrev pub number_of : Code → ℕ
number_of Code.Success = 0x0000
number_of Code.InvalidInput = 0x0002
number_of Code.Unsupported = 0x0003
number_of Code.RetryRequired = 0x0005
number_of Code.InvalidHandle = 0x000E
number_of Code.InvalidPhysicalAddress = 0x000F
number_of Code.InvalidPayloadLength = 0x0016
number_of Code.ResourcesExhausted = 0x001D
number_of Code.InvalidExtentList = 0x001E
