-- What a character of a text is.
use Rattle.std.specs.List.{list_all}
use Rattle.std.specs.Prelude.{◌≡◌, ◌<◌, length, true, ℕ, ◌+◌, ◌-◌, ◌^◌, Bool, not, ◌&&◌, ◌||◌, ◌==◌, nat_le, nat_lt, List, [], ◌∷◌, Option, Some, None, if◌then◌else◌}

-- a space or a tab
abbrev pub is_gap : ℕ → Bool
is_gap b = (b == 32) || (b == 9)

-- the sign that begins a comment
abbrev pub is_hash : ℕ → Bool
is_hash b = b == 35

-- what stands in a word
abbrev pub is_plain : ℕ → Bool
is_plain b = not (is_gap b) && not (is_hash b)

-- the value of a digit; letters are in lower case
abbrev pub digit_value : ℕ → Option ℕ
digit_value c =
    if nat_le 48 c && nat_le c 57 then Some (c - 48)
    else if nat_le 97 c && nat_le c 102 then Some (c - 87)
    else None

abbrev pub below : ℕ → Option ℕ → Option ℕ
below base None = None
below base (Some digit) = if nat_lt digit base then Some digit else None

-- the value of a digit of this base, at most 16
abbrev pub digit_in : ℕ → ℕ → Option ℕ
digit_in base c = below base (digit_value c)

-- what a suffix multiplies by
abbrev pub unit_of : ℕ → Option ℕ
unit_of c =
    if c == 75 then Some (2 ^ 10)
    else if c == 77 then Some (2 ^ 20)
    else if c == 71 then Some (2 ^ 30)
    else if c == 84 then Some (2 ^ 40)
    else if c == 80 then Some (2 ^ 50)
    else None

-- how many characters pass the test before the first that does not, counted from k
abbrev pub passed_from : (ℕ → Bool) → ℕ → List ℕ → ℕ
passed_from test k [] = k
passed_from test k (c ∷ cs) = if test c then passed_from test (k + 1) cs else k

-- whether it is another character than this
abbrev pub is_other : ℕ → ℕ → Bool
is_other sign c = not (c == sign)

-- a character above the signs that words have between numbers: digits and letters are such
abbrev pub is_high : ℕ → Bool
is_high c = nat_lt 47 c

-- a character above the comment sign: every character of a printed word is one
abbrev pub is_printed : ℕ → Bool
is_printed c = nat_lt 35 c

-- Digits and letters, at least one.
abbrev pub IsNumberWord : List ℕ → Type 0
IsNumberWord word = (list_all is_high word ≡ true) × (0 < length word)

-- A word that no space and no comment parts, so that a printed line has it as one word.
abbrev pub IsTextWord : List ℕ → Type 0
IsTextWord word = (list_all is_printed word ≡ true) × (0 < length word)
