-- Who holds a granule, and what was done to it, after one more effect and after some more.
use Rattle.std.proofs.{Common.◌≡◌, Common.ℕ, Common.false, Common.List, Common.[], Common.◌∷◌, Common.◌++◌, lemmas.List.Sums.fold-append, lemmas.List.Sums.fold_push}
use Rattle.std.specs.Prelude.{fold}
use Rattle.cci_codec.specs.dcd_base.specs.declared.ids.HostId.{HostId}
use Rattle.journal_core.specs.{declared.outcome.Effect.Effect, Holders.holding_after, Holders.holds, Holders.taking_after, Holders.is_taken, Holders.soil_after, Holders.is_soiled}

-- ---- one more effect
pub holds-push : (h : HostId) (g : ℕ) (past : List Effect) (e : Effect) → holds h g (past ++ e ∷ []) ≡ holding_after h g (holds h g past) e
holds-push h g past e = fold_push (holding_after h g) false past e

pub is_taken-push : (g : ℕ) (past : List Effect) (e : Effect) → is_taken g (past ++ e ∷ []) ≡ taking_after g (is_taken g past) e
is_taken-push g past e = fold_push (taking_after g) false past e

-- ---- some more effects, such as those of an entry
pub holds-append : (h : HostId) (g : ℕ) (past new : List Effect) → holds h g (past ++ new) ≡ fold (holding_after h g) (holds h g past) new
holds-append h g past new = fold-append (holding_after h g) false past new

pub is_taken-append : (g : ℕ) (past new : List Effect) → is_taken g (past ++ new) ≡ fold (taking_after g) (is_taken g past) new
is_taken-append g past new = fold-append (taking_after g) false past new

pub is_soiled-append : (g : ℕ) (past new : List Effect) → is_soiled g (past ++ new) ≡ fold (soil_after g) (is_soiled g past) new
is_soiled-append g past new = fold-append (soil_after g) false past new
