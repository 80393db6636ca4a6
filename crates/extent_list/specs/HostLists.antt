-- All lists that the device keeps of one host.
use Rattle.std.specs.Prelude.{ℕ, ◌+◌, ◌%◌, ◌^◌, List, [], ◌++◌, flat_map, length}
use Rattle.dcd_base.specs.declared.capacity.Extent.{Extent}
use Rattle.extent_list.specs.ExtentLists.{count_in}

-- What the device keeps of a host's extents: those that it has accepted, those of each unanswered offer, those that
-- responses and releases with More hold, and how often the accepted list changed, modulo 2 ^ 32.
pub record Lists : Type 0 where
  pub accepted : List Extent
  pub offers : List (List Extent)
  pub responses : List Extent
  pub releases : List Extent
  pub generation : ℕ

-- a host that has nothing yet
abbrev pub no_lists : Lists
no_lists = record { accepted = []; offers = []; responses = []; releases = []; generation = 0 }

-- all extents that the host has accepted or is offered
abbrev pub extents_of_lists : Lists → List Extent
extents_of_lists l = l.accepted ++ flat_map (λ xs. xs) l.offers

-- once more changed
abbrev pub next_generation : ℕ → ℕ
next_generation n = (n + 1) % 2 ^ 32

-- how many extents the host has, accepted and offered
abbrev pub extent_total : Lists → ℕ
extent_total l = length l.accepted + count_in l.offers
