-- The bytes of a step behind those of the steps before.
use Rattle.std.proofs.Common.{◌≡◌, ℕ, List, ◌++◌, drop, sym, ap, ◌∙◌}
use Rattle.journal_core.specs.declared.outcome.Effect.{Effect}
use Rattle.kept_journal.specs.{Keeping.HoldsStep, Tokens.effects_told}

-- ---- with the bytes that tell the effects

pub step_put : (old new asked replied told : List ℕ) (effects : List Effect) (at : ℕ) → HoldsStep old new (asked, replied) effects at → told ≡ drop at new →
    new ≡ old ++ (asked ++ (replied ++ told))
step_put old new asked replied told effects at holds is = holds.put ∙ ap (λ (z : List ℕ). old ++ (asked ++ (replied ++ z))) (sym is)

pub step_tells : (old new asked replied told : List ℕ) (effects : List Effect) (at : ℕ) → HoldsStep old new (asked, replied) effects at → told ≡ drop at new →
    effects_told told ≡ effects
step_tells old new asked replied told effects at holds is = ap effects_told is ∙ holds.tells
