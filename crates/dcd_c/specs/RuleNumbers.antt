-- The rules as numbers, names and values.
use Rattle.std.specs.Prelude.{ℕ, ◌==◌, nat_lt, if◌then◌else◌, List, [], ◌∷◌, codes}
use Rattle.dcd_codes.specs.declared.rules.Rule.{Rule}

-- the number of a rule, in the order in which docs/device.md has them
unfoldable pub rule_number : Rule → ℕ
rule_number (Rule.UnknownOpcode n) = 1
rule_number (Rule.WrongLength need have) = 2
rule_number (Rule.NoSuchRegion n) = 3
rule_number (Rule.NoSuchHost n) = 4
rule_number (Rule.PastEnd first total) = 5
rule_number (Rule.NoSuchLog n) = 6
rule_number (Rule.UnknownHandle n) = 7
rule_number (Rule.OlderLeft n) = 8
rule_number Rule.NotOverflowed = 9
rule_number (Rule.TooManyListed n) = 10
rule_number (Rule.ZeroLength n) = 11
rule_number (Rule.OutsideRegion n) = 12
rule_number (Rule.Unaligned n) = 13
rule_number (Rule.NotOffered n) = 14
rule_number (Rule.NotAccepted n) = 15
rule_number (Rule.NotFree n) = 16
rule_number (Rule.Overlap index other) = 17
rule_number (Rule.NotWhole n) = 18
rule_number (Rule.TagIncomplete listed need) = 19
rule_number (Rule.TooManyExtents n) = 20
rule_number (Rule.NoSuchPolicy n) = 21
rule_number Rule.EmptyList = 22
rule_number (Rule.NotShareable n) = 23
rule_number Rule.ZeroTag = 24
rule_number Rule.TagInUse = 25
rule_number Rule.NoSuchTag = 26
rule_number Rule.AlreadyShared = 27
rule_number (Rule.BadLength n) = 28
rule_number (Rule.TooFewFree need have) = 29
rule_number (Rule.TooManyTags n) = 30
rule_number (Rule.LogFull host need have) = 31
rule_number Rule.UnsupportedFlag = 32
rule_number (Rule.NotSupportedSize n) = 33
rule_number Rule.SanitizeDiffers = 34
rule_number (Rule.RegionInUse n) = 35
rule_number Rule.NoReference = 36

-- its values, in the order in which it names them, and zeros behind them
unfoldable pub rule_values : Rule → List ℕ
rule_values (Rule.UnknownOpcode n) = n ∷ 0 ∷ 0 ∷ []
rule_values (Rule.WrongLength need have) = need ∷ have ∷ 0 ∷ []
rule_values (Rule.NoSuchRegion n) = n ∷ 0 ∷ 0 ∷ []
rule_values (Rule.NoSuchHost n) = n ∷ 0 ∷ 0 ∷ []
rule_values (Rule.PastEnd first total) = first ∷ total ∷ 0 ∷ []
rule_values (Rule.NoSuchLog n) = n ∷ 0 ∷ 0 ∷ []
rule_values (Rule.UnknownHandle n) = n ∷ 0 ∷ 0 ∷ []
rule_values (Rule.OlderLeft n) = n ∷ 0 ∷ 0 ∷ []
rule_values Rule.NotOverflowed = 0 ∷ 0 ∷ 0 ∷ []
rule_values (Rule.TooManyListed n) = n ∷ 0 ∷ 0 ∷ []
rule_values (Rule.ZeroLength n) = n ∷ 0 ∷ 0 ∷ []
rule_values (Rule.OutsideRegion n) = n ∷ 0 ∷ 0 ∷ []
rule_values (Rule.Unaligned n) = n ∷ 0 ∷ 0 ∷ []
rule_values (Rule.NotOffered n) = n ∷ 0 ∷ 0 ∷ []
rule_values (Rule.NotAccepted n) = n ∷ 0 ∷ 0 ∷ []
rule_values (Rule.NotFree n) = n ∷ 0 ∷ 0 ∷ []
rule_values (Rule.Overlap index other) = index ∷ other ∷ 0 ∷ []
rule_values (Rule.NotWhole n) = n ∷ 0 ∷ 0 ∷ []
rule_values (Rule.TagIncomplete listed need) = listed ∷ need ∷ 0 ∷ []
rule_values (Rule.TooManyExtents n) = n ∷ 0 ∷ 0 ∷ []
rule_values (Rule.NoSuchPolicy n) = n ∷ 0 ∷ 0 ∷ []
rule_values Rule.EmptyList = 0 ∷ 0 ∷ 0 ∷ []
rule_values (Rule.NotShareable n) = n ∷ 0 ∷ 0 ∷ []
rule_values Rule.ZeroTag = 0 ∷ 0 ∷ 0 ∷ []
rule_values Rule.TagInUse = 0 ∷ 0 ∷ 0 ∷ []
rule_values Rule.NoSuchTag = 0 ∷ 0 ∷ 0 ∷ []
rule_values Rule.AlreadyShared = 0 ∷ 0 ∷ 0 ∷ []
rule_values (Rule.BadLength n) = n ∷ 0 ∷ 0 ∷ []
rule_values (Rule.TooFewFree need have) = need ∷ have ∷ 0 ∷ []
rule_values (Rule.TooManyTags n) = n ∷ 0 ∷ 0 ∷ []
rule_values (Rule.LogFull host need have) = host ∷ need ∷ have ∷ []
rule_values Rule.UnsupportedFlag = 0 ∷ 0 ∷ 0 ∷ []
rule_values (Rule.NotSupportedSize n) = n ∷ 0 ∷ 0 ∷ []
rule_values Rule.SanitizeDiffers = 0 ∷ 0 ∷ 0 ∷ []
rule_values (Rule.RegionInUse n) = n ∷ 0 ∷ 0 ∷ []
rule_values Rule.NoReference = 0 ∷ 0 ∷ 0 ∷ []

-- how many of them are its own
unfoldable pub value_count : Rule → ℕ
value_count (Rule.UnknownOpcode n) = 1
value_count (Rule.WrongLength need have) = 2
value_count (Rule.NoSuchRegion n) = 1
value_count (Rule.NoSuchHost n) = 1
value_count (Rule.PastEnd first total) = 2
value_count (Rule.NoSuchLog n) = 1
value_count (Rule.UnknownHandle n) = 1
value_count (Rule.OlderLeft n) = 1
value_count Rule.NotOverflowed = 0
value_count (Rule.TooManyListed n) = 1
value_count (Rule.ZeroLength n) = 1
value_count (Rule.OutsideRegion n) = 1
value_count (Rule.Unaligned n) = 1
value_count (Rule.NotOffered n) = 1
value_count (Rule.NotAccepted n) = 1
value_count (Rule.NotFree n) = 1
value_count (Rule.Overlap index other) = 2
value_count (Rule.NotWhole n) = 1
value_count (Rule.TagIncomplete listed need) = 2
value_count (Rule.TooManyExtents n) = 1
value_count (Rule.NoSuchPolicy n) = 1
value_count Rule.EmptyList = 0
value_count (Rule.NotShareable n) = 1
value_count Rule.ZeroTag = 0
value_count Rule.TagInUse = 0
value_count Rule.NoSuchTag = 0
value_count Rule.AlreadyShared = 0
value_count (Rule.BadLength n) = 1
value_count (Rule.TooFewFree need have) = 2
value_count (Rule.TooManyTags n) = 1
value_count (Rule.LogFull host need have) = 3
value_count Rule.UnsupportedFlag = 0
value_count (Rule.NotSupportedSize n) = 1
value_count Rule.SanitizeDiffers = 0
value_count (Rule.RegionInUse n) = 1
value_count Rule.NoReference = 0

-- the names of the first 18 numbers, and of the others
unfoldable pub first_word : ℕ → List ℕ
first_word n =
    if n == 1 then codes "UnknownOpcode"
    else if n == 2 then codes "WrongLength"
    else if n == 3 then codes "NoSuchRegion"
    else if n == 4 then codes "NoSuchHost"
    else if n == 5 then codes "PastEnd"
    else if n == 6 then codes "NoSuchLog"
    else if n == 7 then codes "UnknownHandle"
    else if n == 8 then codes "OlderLeft"
    else if n == 9 then codes "NotOverflowed"
    else if n == 10 then codes "TooManyListed"
    else if n == 11 then codes "ZeroLength"
    else if n == 12 then codes "OutsideRegion"
    else if n == 13 then codes "Unaligned"
    else if n == 14 then codes "NotOffered"
    else if n == 15 then codes "NotAccepted"
    else if n == 16 then codes "NotFree"
    else if n == 17 then codes "Overlap"
    else if n == 18 then codes "NotWhole"
    else []

unfoldable pub later_word : ℕ → List ℕ
later_word n =
    if n == 19 then codes "TagIncomplete"
    else if n == 20 then codes "TooManyExtents"
    else if n == 21 then codes "NoSuchPolicy"
    else if n == 22 then codes "EmptyList"
    else if n == 23 then codes "NotShareable"
    else if n == 24 then codes "ZeroTag"
    else if n == 25 then codes "TagInUse"
    else if n == 26 then codes "NoSuchTag"
    else if n == 27 then codes "AlreadyShared"
    else if n == 28 then codes "BadLength"
    else if n == 29 then codes "TooFewFree"
    else if n == 30 then codes "TooManyTags"
    else if n == 31 then codes "LogFull"
    else if n == 32 then codes "UnsupportedFlag"
    else if n == 33 then codes "NotSupportedSize"
    else if n == 34 then codes "SanitizeDiffers"
    else if n == 35 then codes "RegionInUse"
    else if n == 36 then codes "NoReference"
    else []

-- the name of a number, none of any other
abbrev pub rule_word : ℕ → List ℕ
rule_word n = if nat_lt n 19 then first_word n else later_word n
