-- Who has stored into a granule, over effects.
use Rattle.std.proofs.Common.{◌≡◌, ℕ, Bool, true, false, List, [], ◌∷◌, ◌++◌, refl, sym, ap, ◌∙◌}
use Rattle.std.{proofs.lemmas.Bool.false≢true, proofs.lemmas.Bool.or_parts, specs.List.list_all}
use Rattle.std.specs.Prelude.{fold, map, ◌==◌, if◌then◌else◌, IsTrue}
use Rattle.dcd_base.specs.{Words.has_granule, Words.has_in_runs, declared.capacity.Extent.Extent, declared.ids.HostId.HostId}
use Rattle.journal_core.specs.{Holders.taking_after, declared.outcome.Effect.Effect}
use Rattle.extent_list.specs.media_map.specs.{Places.run_of, region_config.specs.Configurations.Configuration}
use Rattle.device_rules.proofs.RunEffects.{in_extents, run_from, takes, zeros}
use Rattle.isolation_laws.specs.Laws.{Writers, writers_by}

-- nobody has
abbrev pub nobody : Writers
nobody = record { before = []; since = [] }

-- nobody before it was last taken, and this host alone since
abbrev pub IsOwn : HostId → Writers → Type 0
IsOwn h w = (w.before ≡ []) × IsTrue (list_all (λ k. k == h) w.since)

-- where nobody has, no effect makes it otherwise
still_nobody : (g : ℕ) (e : Effect) → writers_by g nobody e ≡ nobody
still_nobody g (Effect.Take k run) = by (has_granule run g)
  where
    by : (has : Bool) → (if has then nobody else nobody) ≡ nobody
    by true = refl
    by false = refl
still_nobody g (Effect.Zero run) = by (has_granule run g)
  where
    by : (has : Bool) → (if has then nobody else nobody) ≡ nobody
    by true = refl
    by false = refl
still_nobody g e = refl

pub nobody_over : (g : ℕ) (new : List Effect) → fold (writers_by g) nobody new ≡ nobody
nobody_over g [] = refl
nobody_over g (e ∷ new) = ap (λ w. fold (writers_by g) w new) (still_nobody g e) ∙ nobody_over g new

-- nobody has while it is not taken, so after an effect too
untaken_step : (g : ℕ) (taken : Bool) (w : Writers) (e : Effect) → (taken ≡ false → w ≡ nobody) → taking_after g taken e ≡ false → writers_by g w e ≡ nobody
untaken_step g taken w (Effect.Take k run) none untaken = by (has_granule run g) untaken
  where
    by : (has : Bool) → (if has then true else taken) ≡ false → (if has then record { before = w.before ++ w.since; since = [] } else w) ≡ nobody
    by true untaken = absurd (false≢true (sym untaken))
    by false untaken = none untaken
untaken_step g taken w (Effect.Zero run) none untaken = by (has_granule run g) untaken
  where
    by : (has : Bool) → (if has then false else taken) ≡ false → (if has then nobody else w) ≡ nobody
    by true untaken = refl
    by false untaken = none untaken
untaken_step g taken w e none untaken = none untaken

pub untaken_over : (g : ℕ) (taken : Bool) (w : Writers) (new : List Effect) → (taken ≡ false → w ≡ nobody) → fold (taking_after g) taken new ≡ false → fold (writers_by g) w new ≡ nobody
untaken_over g taken w [] none untaken = none untaken
untaken_over g taken w (e ∷ new) none untaken = untaken_over g (taking_after g taken e) (writers_by g w e) new (untaken_step g taken w e none) untaken

-- takes of other granules leave it
pub other_takes : (c : Configuration) (k : HostId) (g : ℕ) (w : Writers) (xs : List Extent) → in_extents c k xs g ≡ false → fold (writers_by g) w (takes c k xs) ≡ w
other_takes c k g w [] out = refl
other_takes c k g w (x ∷ xs) out =
    let parts = or_parts (has_granule (run_of c k x) g) (has_in_runs (map (run_of c k) xs) g) out in
    ap (λ b. fold (writers_by g) (if b then record { before = w.before ++ w.since; since = [] } else w) (takes c k xs)) parts.0
    ∙ other_takes c k g w xs parts.1

-- what is zeroed has no writers, and of all others they stay
own_zero : (h : HostId) (w : Writers) (has : Bool) → IsOwn h w → IsOwn h (if has then nobody else w)
own_zero h w true own = (refl, refl)
own_zero h w false own = own

pub own_zeros : (h : HostId) (g : ℕ) (w : Writers) (runs : List (ℕ × ℕ)) → IsOwn h w → IsOwn h (fold (writers_by g) w (zeros runs))
own_zeros h g w [] own = own
own_zeros h g w (r ∷ runs) own = own_zeros h g (writers_by g w (Effect.Zero (run_from r))) runs (own_zero h w (has_granule (run_from r) g) own)
