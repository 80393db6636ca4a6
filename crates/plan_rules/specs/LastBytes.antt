-- What is left of a host's extents without their last bytes, which it gives back.
use Rattle.std.specs.Prelude.{ℕ, ◌-◌, ◌==◌, List, [], ◌∷◌, nat_le, if◌then◌else◌}
use Rattle.dcd_base.specs.declared.capacity.Extent.{Extent}

-- extents without so many of their last bytes, with the last one first
abbrev pub without_last_bytes : ℕ → List Extent → List Extent
without_last_bytes n [] = []
without_last_bytes n (x ∷ xs) =
    if n == 0 then x ∷ xs
    else if nat_le x.length n then without_last_bytes (n - x.length) xs
    else record x { length = x.length - n } ∷ xs
