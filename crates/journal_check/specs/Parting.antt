-- Where what is written parts from a text.
use Rattle.std.specs.Prelude.{◌≡◌, ◌≢◌, ℕ, suc, ◌≤◌, Bool, true, false, ◌&&◌, ◌==◌, List, ◌∷◌, ◌++◌, length, map, take, slice_get, Option, Some, None}
use Rattle.std.specs.Option.{is_none, option_to_list}

-- How many bytes agreed, the byte that came where they part, and how many writes failed since.
pub record Parted : Type 0 where
  pub text : List ℕ
  pub agreed : ℕ
  pub other : Option ℕ
  pub faults : ℕ

-- what was taken
abbrev pub parted_taken : Parted → List ℕ
parted_taken p = take p.agreed p.text ++ option_to_list p.other

-- What it tells: the text, each byte one higher, a zero, and what was taken. So it tells of which text it is.
abbrev pub parted_told : Parted → List ℕ
parted_told p = map (λ byte. suc byte) p.text ++ 0 ∷ parted_taken p

-- whether all of the text agreed, and nothing else came
abbrev pub has_agreed : Parted → Bool
has_agreed p = (p.agreed == length p.text) && is_none p.other

-- The byte is not the one that the text has there. Where none came, no write failed.
abbrev pub IsOther : List ℕ → ℕ → ℕ → Option ℕ → Type 0
IsOther text agreed faults None = faults ≡ 0
IsOther text agreed faults (Some byte) = slice_get text agreed ≢ Some byte

pub record IsParted (p : Parted) : Type 0 where
  pub within : p.agreed ≤ length p.text
  pub other : IsOther p.text p.agreed p.faults p.other

-- So many bytes of two texts agree, and no more: where they are the same these are all of both, else the next are not alike.
abbrev pub PartsAt : List ℕ → List ℕ → ℕ → Bool → Type 0
PartsAt given printed agreed true = (given ≡ printed) × (agreed ≡ length given)
PartsAt given printed agreed false = slice_get given agreed ≢ slice_get printed agreed

pub record PartAt (given printed : List ℕ) (agreed : ℕ) (same : Bool) : Type 0 where
  pub within : agreed ≤ length given
  pub alike : take agreed given ≡ take agreed printed
  pub parts : PartsAt given printed agreed same
