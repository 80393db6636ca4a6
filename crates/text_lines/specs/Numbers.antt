-- Which number a word says, and how a number is printed.
use Rattle.std.specs.Prelude.{ℕ, ◌+◌, ◌-◌, ◌*◌, ◌/◌, ◌%◌, ◌^◌, Bool, false, ◌&&◌, ◌==◌, nat_le, nat_lt, min, List, [], ◌∷◌, ◌++◌, length, take, drop, slice_index, Option, Some, None, Result, Ok, Err, if◌then◌else◌, codes, decimal}
use Rattle.std.specs.{Option.option_map, Fmt.digits}
use Rattle.text_lines.specs.{Characters.digit_in, Characters.unit_of, declared.word_faults.NumberFault.NumberFault, WordChains.◌>>?◌ as ◌>>=◌}

-- the value of digits behind those that make this number; None where one is no digit of the base
unfoldable pub digits_from : ℕ → ℕ → List ℕ → Option ℕ
digits_from base n [] = Some n
digits_from base n (c ∷ cs) = do
  digit ← digit_in base c
  digits_from base (n * base + digit) cs

-- the value of digits, at least one
abbrev pub digits_said : ℕ → List ℕ → Option ℕ
digits_said base [] = None
digits_said base (c ∷ cs) = digits_from base 0 (c ∷ cs)

abbrev pub without_last : List ℕ → List ℕ
without_last word = take (length word - 1) word

-- the last character of a word, or 0
abbrev pub last_character : List ℕ → ℕ
last_character word = slice_index word (length word - 1)

-- whether it begins as hexadecimal numbers do
abbrev pub has_prefix : List ℕ → Bool
has_prefix word = (slice_index word 0 == 48) && (slice_index word 1 == 120)

-- decimal digits, or 0x and hexadecimal ones
abbrev pub prefixed_said : List ℕ → Option ℕ
prefixed_said word = if has_prefix word then digits_said 16 (drop 2 word) else digits_said 10 word

-- digits, and a suffix that multiplies by this unit, where there is one
abbrev pub scaled_said : List ℕ → Option ℕ → Option ℕ
scaled_said word None = prefixed_said word
scaled_said word (Some unit) = option_map (λ n. n * unit) (prefixed_said (without_last word))

-- The number that a word says: hexadecimal digits and h, or decimal digits or 0x and hexadecimal ones, which may have a suffix.
unfoldable pub number_said : List ℕ → Option ℕ
number_said word = if last_character word == 104 then digits_said 16 (without_last word) else scaled_said word (unit_of (last_character word))

-- what 65 bits have room for: 2^64 stands for every number that 64 bits have no room for
abbrev pub capped_64 : ℕ → ℕ
capped_64 n = min n (2 ^ 64)

-- the number, where it is at most that
abbrev pub limited : ℕ → Option ℕ → Result ℕ NumberFault
limited most None = Err NumberFault.NoNumber
limited most (Some n) = if nat_le n most then Ok n else Err NumberFault.TooLarge

-- the most that 64 bits have room for
abbrev pub limited_64 : Option ℕ → Result ℕ NumberFault
limited_64 = limited (2 ^ 64 - 1)

-- what was read times the unit of a suffix, in 64 bits
abbrev pub in_unit : ℕ → Result ℕ NumberFault → Result ℕ NumberFault
in_unit unit (Ok n) = limited_64 (Some (n * unit))
in_unit unit (Err fault) = Err fault

-- what was read, where it is at most that
abbrev pub at_most : ℕ → Result ℕ NumberFault → Result ℕ NumberFault
at_most most (Ok n) = limited most (Some n)
at_most most (Err fault) = Err fault

-- the number, where it is below that
abbrev pub under : ℕ → Option ℕ → Result ℕ NumberFault
under limit None = Err NumberFault.NoNumber
under limit (Some n) = if nat_lt n limit then Ok n else Err NumberFault.TooLarge

-- what was read, where it is below that
abbrev pub at_less : ℕ → Result ℕ NumberFault → Result ℕ NumberFault
at_less limit (Ok n) = under limit (Some n)
at_less limit (Err fault) = Err fault

-- ---- printed numbers

-- whether it is a whole number from 1 to 1023 times the unit
abbrev pub is_scaled : ℕ → ℕ → Bool
is_scaled unit n = (n % unit == 0) && nat_le 1 (n / unit) && nat_le (n / unit) 1023

-- 0x and digits without leading zeros
abbrev pub hexadecimal : ℕ → List ℕ
hexadecimal n = codes "0x" ++ digits 16 false n

-- an address, a length, a size or a word of memory
unfoldable pub size_text : ℕ → List ℕ
size_text n =
    if nat_lt n 10 then decimal n
    else if is_scaled (2 ^ 50) n then decimal (n / 2 ^ 50) ++ codes "P"
    else if is_scaled (2 ^ 40) n then decimal (n / 2 ^ 40) ++ codes "T"
    else if is_scaled (2 ^ 30) n then decimal (n / 2 ^ 30) ++ codes "G"
    else if is_scaled (2 ^ 20) n then decimal (n / 2 ^ 20) ++ codes "M"
    else if is_scaled (2 ^ 10) n then decimal (n / 2 ^ 10) ++ codes "K"
    else hexadecimal n
