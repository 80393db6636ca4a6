-- What a host's message lists has no tags.
use Rattle.std.proofs.Common.{◌≡◌, ℕ, ◌-◌, Bool, true, false, List, [], ◌∷◌, refl}
use Rattle.std.specs.{Prelude.◌==◌, Prelude.if◌then◌else◌, List.list_all}
use Rattle.dcd_base.specs.declared.capacity.Extent.{Extent}
use Rattle.host_payloads.specs.HostPayloads.{is_untagged}
use Rattle.plan_rules.specs.Listing.{last_bytes, last_part}

pub last_untagged : (n : ℕ) (xs : List Extent) → list_all is_untagged (last_bytes n xs) ≡ true
last_untagged n [] = refl
last_untagged n (x ∷ xs) = either (n == 0) (last_untagged (n - x.length) xs)
  where
    either : (none : Bool) → list_all is_untagged (last_bytes (n - x.length) xs) ≡ true →
        list_all is_untagged (if none then [] else last_part n x ∷ last_bytes (n - x.length) xs) ≡ true
    either true rest = refl
    either false rest = rest
