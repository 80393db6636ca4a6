-- The last bytes of extents, one extent after another from the last one on.
use Rattle.std.proofs.Common.{◌≡◌, ℕ, ◌+◌, List, ◌++◌, take, sym, ap, ◌∙◌, append-nil}
use Rattle.std.specs.Prelude.{reverse}
use Rattle.dcd_base.specs.declared.capacity.Extent.{Extent}
use Rattle.plan_rules.{specs.Listing.last_bytes, proofs.LastBytes.none_last as last_none}

-- What is listed so far goes on to the whole list, where so many extents are still to be tried.
pub record GoesOn (bytes n left : ℕ) (xs list : List Extent) : Type 0 where
  pub on : list ++ last_bytes n (reverse (take left xs)) ≡ last_bytes bytes (reverse xs)

pub goes_on_done : (bytes n left : ℕ) (xs list : List Extent) → n ≡ 0 → GoesOn bytes n left xs list → list ≡ last_bytes bytes (reverse xs)
goes_on_done bytes n left xs list none so_far =
    sym (append-nil list) ∙ ap (λ more. list ++ more) (sym (ap (λ k. last_bytes k (reverse (take left xs))) none ∙ last_none (reverse (take left xs)))) ∙ so_far.on
