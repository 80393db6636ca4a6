-- What passes removals that are still to be treated: a release, and an acceptance.
use Rattle.std.proofs.Common.{refl, ◌≡◌, ◌∙◌, sym, ap, subst, inl, inr, ℕ, ◌<◌, true, List, [], ◌∷◌, ◌++◌}
use Rattle.std.specs.{Prelude.fold, List.list_any, List.AllByRecursion}
use Rattle.dcd_base.specs.declared.capacity.Extent.{Extent}
use Rattle.extent_list.specs.ExtentLists.{cut, has_range}
use Rattle.host_driver.proofs.Exchanging.{Beside, cut_in_front, cuts_beside, stays_before, stays_in}

-- the table without some extents, cut out in order
abbrev pub cut_by : List Extent → Extent → List Extent
cut_by table p = cut p.start p.length table

abbrev pub without_all : List Extent → List Extent → List Extent
without_all ps table = fold cut_by table ps

-- Each of them lies in the table as it is then.
abbrev pub EachLies : List Extent → List Extent → Type 0
EachLies table [] = Unit {0}
EachLies table (p ∷ ps) = (list_any (has_range p.start p.length) table ≡ true) × EachLies (cut_by table p) ps

-- It has some bytes, and shares no address with this range.
pub record IsApart (x p : Extent) : Type 0 where
  pub some : 0 < p.length
  pub beside : Beside p.start p.length x.start x.length

-- A release passes removals that are apart from it.
pub release_passes : (x : Extent) (ps table : List Extent) → 0 < x.length → AllByRecursion (IsApart x) ps
    → without_all ps (cut_by table x) ≡ cut_by (without_all ps table) x
release_passes x [] table some apart = refl
release_passes x (p ∷ ps) table some (here, rest) =
    ap (without_all ps) (cuts_beside p.start p.length x.start x.length table here.some some here.beside)
    ∙ release_passes x ps (cut_by table p) some rest

turned : (a m b n : ℕ) → Beside a m b n → Beside b n a m
turned a m b n (inl above) = inr above
turned a m b n (inr below) = inl below

pub release_leaves : (x : Extent) (ps table : List Extent) → 0 < x.length → AllByRecursion (IsApart x) ps → EachLies table ps → EachLies (cut_by table x) ps
release_leaves x [] table some apart lies = tt
release_leaves x (p ∷ ps) table some (here, rest) (first, lies) = (
  stays_in x.start x.length p.start p.length table here.some (turned p.start p.length x.start x.length here.beside) first,
  subst (λ t. EachLies t ps) (sym (cuts_beside p.start p.length x.start x.length table here.some some here.beside))
      (release_leaves x ps (cut_by table p) some rest lies),
)

-- An acceptance passes removals that lie in what was there before.
pub acceptance_passes : (xs ps table : List Extent) → EachLies table ps → without_all ps (table ++ xs) ≡ without_all ps table ++ xs
acceptance_passes xs [] table lies = refl
acceptance_passes xs (p ∷ ps) table (first, lies) =
    ap (without_all ps) (cut_in_front p.start p.length table xs first) ∙ acceptance_passes xs ps (cut_by table p) lies

pub acceptance_leaves : (xs ps table : List Extent) → EachLies table ps → EachLies (table ++ xs) ps
acceptance_leaves xs [] table lies = tt
acceptance_leaves xs (p ∷ ps) table (first, lies) = (
  stays_before p.start p.length table xs first,
  subst (λ t. EachLies t ps) (sym (cut_in_front p.start p.length table xs first)) (acceptance_leaves xs ps (cut_by table p) lies),
)
