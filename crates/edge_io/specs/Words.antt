-- The words of a command line, and the numbers that they write.
use Rattle.std.specs.Prelude.{◌≡◌, ℕ, ◌+◌, ◌-◌, ◌*◌, ◌≤◌, Bool, ◌&&◌, nat_le, List, length, map, fold, IsTrue, Option, Some, None, if◌then◌else◌, String}
use Rattle.std.specs.{List.list_all, String.string_bytes}

-- the bytes of each word
abbrev pub words_of : {Z : Type 0} → List (String Z) → List (List ℕ)
words_of words = map string_bytes words

abbrev pub is_digit : ℕ → Bool
is_digit b = nat_le 48 b && nat_le b 57

-- the number that digits write
abbrev pub number_in : List ℕ → ℕ
number_in digits = fold (λ n b. 10 * n + (b - 48)) 0 digits

-- They are 1 to so many digits, and write the number.
pub record IsNumber (most : ℕ) (digits : List ℕ) (n : ℕ) : Type 0 where
  pub some : 1 ≤ length digits
  pub few : length digits ≤ most
  pub each : IsTrue (list_all is_digit digits)
  pub value : n ≡ number_in digits

-- the same as a test, and the number of a word
abbrev pub is_number : ℕ → List ℕ → Bool
is_number most digits = nat_le 1 (length digits) && (nat_le (length digits) most && list_all is_digit digits)

abbrev pub number_written : ℕ → List ℕ → Option ℕ
number_written most digits = if is_number most digits then Some (number_in digits) else None
