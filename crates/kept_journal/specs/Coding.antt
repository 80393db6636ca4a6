-- What a coder has written.
use Rattle.std.specs.Prelude.{◌≡◌, ℕ, ◌++◌, List, None, IsFalse}
use Rattle.journal_core.specs.declared.outcome.Effect.{Effect}
use Rattle.kept_journal.specs.{declared.coding.Coder.Coder, declared.tokens.Token.Token, Slots.slots_in, Tokens.effects_told, Tokens.tokens_in}

-- All begin with the front.
pub record IsFront (front all : List ℕ) : Type 0 where
  pub more : List ℕ
  pub is : all ≡ front ++ more

-- The bytes that came behind the old ones tell these tokens and lead from the slots to others, whatever follows.
pub record TellsTokens (old new : List ℕ) (slots slots' : ℕ → ℕ) (tokens : List Token) : Type 0 where
  pub added : List ℕ
  pub put : new ≡ old ++ added
  pub told : (more : List ℕ) → tokens_in slots None (added ++ more) ≡ tokens ++ tokens_in slots' None more

-- Unless memory failed by now, it had not failed before, and the bytes since then tell these tokens and lead to these slots. The
-- old bytes stay.
pub record CodesTo (old new : Coder) (slots : ℕ → ℕ) (tokens : List Token) : Type 0 where
  pub coded : IsFalse new.failed → IsFalse old.failed × TellsTokens old.bytes.items new.bytes.items (slots_in old.slots) slots tokens
  pub front : IsFront old.bytes.items new.bytes.items

-- They lead to the slots that the coder has.
abbrev pub Codes : Coder → Coder → List Token → Type 0
Codes old new tokens = CodesTo old new (slots_in new.slots) tokens

-- Unless memory failed by now, it had not failed before, and these bytes came behind the others, which stay.
pub record AddsBytes (old new : Coder) (added : List ℕ) : Type 0 where
  pub slots : new.slots ≡ old.slots
  pub appended : IsFalse new.failed → IsFalse old.failed × (new.bytes.items ≡ old.bytes.items ++ added)
  pub front : IsFront old.bytes.items new.bytes.items

-- The bytes that came behind the old ones tell these effects.
pub record TellsEffects (old new : List ℕ) (effects : List Effect) : Type 0 where
  pub told : List ℕ
  pub put : new ≡ old ++ told
  pub tells : effects_told told ≡ effects
