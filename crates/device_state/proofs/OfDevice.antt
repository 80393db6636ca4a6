-- Effects are of the device also by its present block sizes.
use Rattle.std.proofs.Common.{◌≡◌, ℕ, ◌<◌, true, length, List, get_or, inl, inr, refl, sym, ap, ◌∙◌, subst, arith}
use Rattle.std.proofs.lemmas.{Bool.cases_eq, List.get_or-set_other, List.get_or-set_same, List.length-map, List.length-set, List.FromFn.length-enumerate_from}
use Rattle.std.specs.{List.enumerate_from, Prelude.All}
use Rattle.cci_codec.specs.dcd_base.specs.declared.steps.LogId.{LogId}
use Rattle.journal_core.specs.declared.outcome.Effect.{Effect}
use Rattle.extent_list.specs.media_map.specs.region_config.{proofs.PresentBlocks.region_spec-with_blocks, specs.Blocks.with_block, specs.Configurations.Configuration}
use Rattle.extent_list.specs.media_map.specs.region_config.specs.Granules.{is_supported, no_region, region_spec, sizes_in, with_blocks}
use Rattle.extent_list.specs.media_map.specs.region_config.specs.declared.region_spec.RegionSpec.{RegionSpec}
use Rattle.device_state.specs.{Entered.present_by, Updates.IsOfDevice}

-- a region that supports the size
abbrev pub Supports : Configuration → ℕ → ℕ → Type 0
Supports c r size = (r < length c.regions) × (is_supported (region_spec c r) size ≡ true)

-- The configuration has these hosts, and regions that support what those of the other one do.
pub record IsAlike (c d : Configuration) : Type 0 where
  pub hosts : d.hosts ≡ c.hosts
  pub supports : (r size : ℕ) → Supports c r size → Supports d r size

pub of_alike : (c d : Configuration) → IsAlike c d → (e : Effect) → IsOfDevice c e → IsOfDevice d e
of_alike c d alike (Effect.Offer h xs) is = omega (arith, is, alike.hosts)
of_alike c d alike (Effect.Answer h xs) is = omega (arith, is, alike.hosts)
of_alike c d alike (Effect.Take h run) is = omega (arith, is, alike.hosts)
of_alike c d alike (Effect.Leave h run) is = omega (arith, is, alike.hosts)
of_alike c d alike (Effect.Zero run) is = tt
of_alike c d alike (Effect.Soil run) is = tt
of_alike c d alike (Effect.Hold h kind xs) is = omega (arith, is, alike.hosts)
of_alike c d alike (Effect.Unhold h kind) is = omega (arith, is, alike.hosts)
of_alike c d alike (Effect.Logged (LogId.Host h) event) is = omega (arith, is, alike.hosts)
of_alike c d alike (Effect.Logged LogId.Manager event) is = tt
of_alike c d alike (Effect.Missed (LogId.Host h)) is = omega (arith, is, alike.hosts)
of_alike c d alike (Effect.Missed LogId.Manager) is = tt
of_alike c d alike (Effect.Cleared (LogId.Host h) n) is = omega (arith, is, alike.hosts)
of_alike c d alike (Effect.Cleared LogId.Manager n) is = tt
of_alike c d alike (Effect.Reset (LogId.Host h)) is = omega (arith, is, alike.hosts)
of_alike c d alike (Effect.Reset LogId.Manager) is = tt
of_alike c d alike (Effect.Ref t on) is = tt
of_alike c d alike (Effect.TagEnd t) is = tt
of_alike c d alike (Effect.Block r size) is = alike.supports r size is

pub all_alike : (c d : Configuration) → IsAlike c d → (es : List Effect) → All (IsOfDevice c) es → All (IsOfDevice d) es
all_alike c d alike es each = λ k e below. of_alike c d alike (get_or es k e) (each k e below)

-- ---- the block sizes that a region supports do not depend on its block

at_block : (spec : RegionSpec) (block size : ℕ) → is_supported (record spec { block = block }) size ≡ is_supported spec size
unfolding sizes_in
at_block spec block size = refl

pub alike-blocks : (c : Configuration) (b : ℕ → ℕ) → IsAlike c (with_blocks c b)
alike-blocks c b = record { hosts = refl; supports = by }
  where
    long : length (with_blocks c b).regions ≡ length c.regions
    long = length-map (enumerate_from 0 c.regions) (λ (spec : ℕ × RegionSpec). record spec.1 { block = b spec.0 }) ∙ length-enumerate_from 0 c.regions

    by : (r size : ℕ) → Supports c r size → Supports (with_blocks c b) r size
    by r size is = (
      omega (arith, is.0, long),
      ap (λ spec. is_supported spec size) (region_spec-with_blocks c b r is.0) ∙ at_block (region_spec c r) (b r) size ∙ is.1,
    )

alike-block : (c : Configuration) (s block : ℕ) → IsAlike c (with_block c s block)
alike-block c s block = record { hosts = refl; supports = by }
  where
    new : RegionSpec
    new = record (region_spec c s) { block = block }

    spec_is : (r size : ℕ) → r < length c.regions → is_supported (region_spec (with_block c s block) r) size ≡ is_supported (region_spec c r) size
    spec_is r size known = elim (cases_eq r s) [
      | inl same ↦ subst (λ k. is_supported (region_spec (with_block c s block) k) size ≡ is_supported (region_spec c k) size) (sym same)
          (ap (λ spec. is_supported spec size) (get_or-set_same c.regions s new no_region (omega (arith, known, same))) ∙ at_block (region_spec c s) block size)
      | inr other ↦ ap (λ spec. is_supported spec size) (get_or-set_other c.regions s r new no_region other)
    ]

    by : (r size : ℕ) → Supports c r size → Supports (with_block c s block) r size
    by r size is = (omega (arith, is.0, length-set c.regions s new), spec_is r size is.0 ∙ is.1)

alike-itself : (c : Configuration) → IsAlike c c
alike-itself c = record { hosts = refl; supports = λ r size is. is }

-- one effect more
pub alike-by : (c : Configuration) (e : Effect) → IsAlike c (present_by c e)
alike-by c (Effect.Block r size) = alike-block c r size
alike-by c (Effect.Offer h xs) = alike-itself c
alike-by c (Effect.Answer h xs) = alike-itself c
alike-by c (Effect.Take h run) = alike-itself c
alike-by c (Effect.Leave h run) = alike-itself c
alike-by c (Effect.Zero run) = alike-itself c
alike-by c (Effect.Soil run) = alike-itself c
alike-by c (Effect.Hold h kind xs) = alike-itself c
alike-by c (Effect.Unhold h kind) = alike-itself c
alike-by c (Effect.Logged l event) = alike-itself c
alike-by c (Effect.Missed l) = alike-itself c
alike-by c (Effect.Cleared l n) = alike-itself c
alike-by c (Effect.Reset l) = alike-itself c
alike-by c (Effect.Ref t on) = alike-itself c
alike-by c (Effect.TagEnd t) = alike-itself c
