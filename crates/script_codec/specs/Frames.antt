-- A script in a frame: the number of its bytes in four bytes, the script, and what is behind it.
use Rattle.std.specs.{Prelude.ℕ, Prelude.◌+◌, Prelude.nat_lt, Prelude.List, Prelude.length, Prelude.take, Prelude.drop, Prelude.if◌then◌else◌, Int.w32}
use Rattle.cci_codec.specs.dcd_base.specs.Layouts.{number_at}

-- how many bytes there have to be
abbrev pub needed : List ℕ → ℕ
needed input = if nat_lt (length input) 4 then 4 else 4 + number_at w32 input 0

abbrev pub script_part : List ℕ → List ℕ
script_part input = take (number_at w32 input 0) (drop 4 input)

abbrev pub text_part : List ℕ → List ℕ
text_part input = drop (4 + number_at w32 input 0) input
