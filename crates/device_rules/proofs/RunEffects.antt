-- What runs that are taken, left, soiled or zeroed make of one granule.
use Rattle.std.proofs.Common.{◌≡◌, ℕ, Bool, true, false, ◌&&◌, ◌||◌, not, List, [], ◌∷◌, refl, ap, ◌∙◌}
use Rattle.std.specs.Prelude.{fold, map, ◌==◌, if◌then◌else◌}
use Rattle.cci_codec.specs.dcd_base.specs.{declared.ids.HostId.HostId, declared.capacity.Extent.Extent, declared.media.Run.Run, Words.has_granule, Words.has_in_runs}
use Rattle.extent_list.specs.media_map.specs.{region_config.specs.Configurations.Configuration, Places.run_of}
use Rattle.journal_core.specs.{declared.outcome.Effect.Effect, Holders.holding_after, Holders.soil_after, Holders.taking_after}
use Rattle.device_rules.specs.ReleaseOutcomes.{leaves, removals}

-- each extent is taken
abbrev pub takes : Configuration → HostId → List Extent → List Effect
takes c k xs = map (λ x. Effect.Take k (run_of c k x)) xs

-- the runs of the extents have the granule
abbrev pub in_extents : Configuration → HostId → List Extent → ℕ → Bool
in_extents c k xs g = has_in_runs (map (run_of c k) xs) g

-- each run is zeroed; a run is the number of its first granule, and how many it has
abbrev pub run_from : ℕ × ℕ → Run
run_from r = record { first = r.0; count = r.1 }

abbrev pub zeros : List (ℕ × ℕ) → List Effect
zeros runs = map (λ r. Effect.Zero (run_from r)) runs

-- ---- one run more

gained : (same here b rest : Bool) → ((if same && here then true else b) || (same && rest)) ≡ (b || (same && (here || rest)))
gained false here b rest = refl
gained true true true rest = refl
gained true true false rest = refl
gained true false b rest = refl

lost : (same here b rest : Bool) → ((if same && here then false else b) && not (same && rest)) ≡ (b && not (same && (here || rest)))
lost false here b rest = refl
lost true true true rest = refl
lost true true false rest = refl
lost true false b rest = refl

marked : (here b rest : Bool) → ((if here then true else b) || rest) ≡ (b || (here || rest))
marked true true rest = refl
marked true false rest = refl
marked false b rest = refl

cleaned : (here b rest : Bool) → ((if here then false else b) && not rest) ≡ (b && not (here || rest))
cleaned true true rest = refl
cleaned true false rest = refl
cleaned false b rest = refl

-- no run more
no_gain : (same b : Bool) → b ≡ (b || (same && false))
no_gain true true = refl
no_gain true false = refl
no_gain false true = refl
no_gain false false = refl

no_loss : (same b : Bool) → b ≡ (b && not (same && false))
no_loss true true = refl
no_loss true false = refl
no_loss false true = refl
no_loss false false = refl

-- ---- who holds it

pub holding-takes : (c : Configuration) (k h : HostId) (g : ℕ) (b : Bool) (xs : List Extent) →
    fold (holding_after h g) b (takes c k xs) ≡ (b || ((k == h) && in_extents c k xs g))
holding-takes c k h g b [] = no_gain (k == h) b
holding-takes c k h g b (x ∷ xs) =
    holding-takes c k h g (if (k == h) && has_granule (run_of c k x) g then true else b) xs
    ∙ gained (k == h) (has_granule (run_of c k x) g) b (in_extents c k xs g)

-- what leaves by force is held no more, cleaned or not
pub holding-removals : (c : Configuration) (k h : HostId) (g : ℕ) (clean : Bool) (b : Bool) (xs : List Extent) →
    fold (holding_after h g) b (removals c k clean xs) ≡ (b && not ((k == h) && in_extents c k xs g))
holding-removals c k h g clean b [] = no_loss (k == h) b
holding-removals c k h g true b (x ∷ xs) =
    holding-removals c k h g true (if (k == h) && has_granule (run_of c k x) g then false else b) xs
    ∙ lost (k == h) (has_granule (run_of c k x) g) b (in_extents c k xs g)
holding-removals c k h g false b (x ∷ xs) =
    holding-removals c k h g false (if (k == h) && has_granule (run_of c k x) g then false else b) xs
    ∙ lost (k == h) (has_granule (run_of c k x) g) b (in_extents c k xs g)

-- ---- what was done to it

pub taking-takes : (c : Configuration) (k : HostId) (g : ℕ) (b : Bool) (xs : List Extent) →
    fold (taking_after g) b (takes c k xs) ≡ (b || in_extents c k xs g)
taking-takes c k g b [] = no_gain true b
taking-takes c k g b (x ∷ xs) =
    taking-takes c k g (if has_granule (run_of c k x) g then true else b) xs
    ∙ marked (has_granule (run_of c k x) g) b (in_extents c k xs g)

pub soil-removals : (c : Configuration) (k : HostId) (g : ℕ) (clean : Bool) (b : Bool) (xs : List Extent) →
    fold (soil_after g) b (removals c k clean xs) ≡ (b || (clean && in_extents c k xs g))
soil-removals c k g clean b [] = no_gain clean b
soil-removals c k g true b (x ∷ xs) =
    soil-removals c k g true (if has_granule (run_of c k x) g then true else b) xs
    ∙ marked (has_granule (run_of c k x) g) b (in_extents c k xs g)
soil-removals c k g false b (x ∷ xs) = soil-removals c k g false b xs

pub taking-zeros : (g : ℕ) (b : Bool) (runs : List (ℕ × ℕ)) → fold (taking_after g) b (zeros runs) ≡ (b && not (has_in_runs (map run_from runs) g))
taking-zeros g b [] = no_loss true b
taking-zeros g b (r ∷ runs) =
    taking-zeros g (if has_granule (run_from r) g then false else b) runs ∙ cleaned (has_granule (run_from r) g) b (has_in_runs (map run_from runs) g)

pub soil-zeros : (g : ℕ) (b : Bool) (runs : List (ℕ × ℕ)) → fold (soil_after g) b (zeros runs) ≡ (b && not (has_in_runs (map run_from runs) g))
soil-zeros g b [] = no_loss true b
soil-zeros g b (r ∷ runs) =
    soil-zeros g (if has_granule (run_from r) g then false else b) runs ∙ cleaned (has_granule (run_from r) g) b (has_in_runs (map run_from runs) g)

-- a removal that does not clean is what the host itself would do
pub removals-leaves : (c : Configuration) (k : HostId) (xs : List Extent) → removals c k false xs ≡ leaves c k xs
removals-leaves c k [] = refl
removals-leaves c k (x ∷ xs) = ap (λ new. Effect.Leave k (run_of c k x) ∷ new) (removals-leaves c k xs)
