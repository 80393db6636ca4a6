-- Effects told as tokens and gathered from them.
use Rattle.std.proofs.Common.{◌≡◌, ℕ, List, [], ◌∷◌, ◌++◌, None, length, map, suc, arith, refl, sym, ap, ◌∙◌, append_assoc, append-nil}
use Rattle.std.{specs.Prelude.◌==◌, specs.Prelude.IsFalse, specs.Prelude.filter_map, specs.Prelude.flat_map, specs.Prelude.true, proofs.lemmas.Bool.eqb-true}
use Rattle.dcd_base.specs.declared.capacity.Extent.{Extent}
use Rattle.kept_journal.{proofs.CoderSteps.nothing_told, specs.Coding.CodesTo, specs.Coding.TellsEffects, specs.Slots.no_slots, specs.Slots.slots_in}
use Rattle.kept_journal.specs.{Tokens.effect_alone, Tokens.effects_from, Tokens.effects_told, Tokens.tokens_in, Tokens.tokens_of, Tokens.without_extents, declared.coding.Coder.Coder}
use Rattle.kept_journal.specs.declared.tokens.Token.{Token}
use Rattle.journal_core.specs.declared.outcome.Effect.{Effect}

-- extents wait behind those that wait already
extents_wait : (waiting xs : List Extent) (tokens : List Token) → effects_from waiting (map Token.More xs ++ tokens) ≡ effects_from (waiting ++ xs) tokens
extents_wait waiting [] tokens = ap (λ (z : List Extent). effects_from z tokens) (sym (append-nil waiting))
extents_wait waiting (x ∷ xs) tokens =
    extents_wait (waiting ++ x ∷ []) xs tokens ∙ ap (λ (z : List Extent). effects_from z tokens) (append_assoc waiting (x ∷ []) xs)

with_extents : (xs : List Extent) (t : Token) (tokens : List Token) → effects_from [] ((map Token.More xs ++ t ∷ []) ++ tokens) ≡ effects_from xs (t ∷ tokens)
with_extents xs t tokens = ap (effects_from []) (append_assoc (map Token.More xs) (t ∷ []) tokens) ∙ extents_wait [] xs (t ∷ tokens)

one_back : (e : Effect) (tokens : List Token) → effects_from [] (tokens_of e ++ tokens) ≡ e ∷ effects_from [] tokens
one_back (Effect.Offer h xs) tokens = with_extents xs (Token.Offer h) tokens
one_back (Effect.Answer h xs) tokens = with_extents xs (Token.Answer h) tokens
one_back (Effect.Take h run) tokens = refl
one_back (Effect.Leave h run) tokens = refl
one_back (Effect.Zero run) tokens = refl
one_back (Effect.Soil run) tokens = refl
one_back (Effect.Hold h kind xs) tokens = with_extents xs (Token.Hold h kind) tokens
one_back (Effect.Unhold h kind) tokens = refl
one_back (Effect.Logged log e) tokens = refl
one_back (Effect.Missed log) tokens = refl
one_back (Effect.Cleared log count) tokens = refl
one_back (Effect.Reset log) tokens = refl
one_back (Effect.Ref t is_on) tokens = refl
one_back (Effect.TagEnd t) tokens = refl
one_back (Effect.Block r size) tokens = refl

-- effects are gathered from their tokens
pub all_back : (effects : List Effect) → effects_from [] (flat_map tokens_of effects) ≡ effects
all_back [] = refl
all_back (e ∷ effects) = one_back e (flat_map tokens_of effects) ∙ ap (λ (z : List Effect). e ∷ z) (all_back effects)

-- what a coder wrote behind some bytes tells the effects
pub written_behind : (old : List ℕ) (a b : Coder) (effects : List Effect) → slots_in a.slots ≡ no_slots → a.bytes.items ≡ old → IsFalse b.failed →
    CodesTo a b (slots_in b.slots) (flat_map tokens_of effects) → TellsEffects old b.bytes.items effects
written_behind old a b effects fresh before ok codes =
    let t = (codes.coded ok).1 in record {
      told = t.added;
      put = t.put ∙ ap (λ (z : List ℕ). z ++ t.added) before;
      tells =
          ap (λ (z : List ℕ). effects_from [] (tokens_in no_slots None z)) (sym (append-nil t.added))
          ∙ ap (λ (z : ℕ → ℕ). effects_from [] (tokens_in z None (t.added ++ []))) (sym fresh)
          ∙ ap (effects_from []) (t.told [] ∙ ap (λ (z : List Token). flat_map tokens_of effects ++ z) (nothing_told (slots_in b.slots)) ∙ append-nil (flat_map tokens_of effects))
          ∙ all_back effects;
    }

pub no_effects : (effects : List Effect) → (length effects == 0) ≡ true → effects_told [] ≡ effects
no_effects [] none = ap (effects_from []) (nothing_told no_slots)
no_effects (e ∷ effects) none = absurd (omega (arith, eqb-true (suc (length effects)) 0 none))

-- no effects are told by nothing
pub none_behind : (old new : List ℕ) (effects : List Effect) → new ≡ old → (length effects == 0) ≡ true → TellsEffects old new effects
none_behind old new effects same none = record { told = []; put = same ∙ sym (append-nil old); tells = no_effects effects none }

-- effects without extents are tokens alone
pub alone_back : (waiting : List Extent) (tokens : List Token) → without_extents (effects_from waiting tokens) ≡ filter_map effect_alone tokens
alone_back waiting [] = refl
alone_back waiting (Token.More x ∷ tokens) = alone_back (waiting ++ x ∷ []) tokens
alone_back waiting (Token.Offer h ∷ tokens) = alone_back [] tokens
alone_back waiting (Token.Answer h ∷ tokens) = alone_back [] tokens
alone_back waiting (Token.Hold h kind ∷ tokens) = alone_back [] tokens
alone_back waiting (Token.Take h run ∷ tokens) = ap (λ (z : List Effect). Effect.Take h run ∷ z) (alone_back waiting tokens)
alone_back waiting (Token.Leave h run ∷ tokens) = ap (λ (z : List Effect). Effect.Leave h run ∷ z) (alone_back waiting tokens)
alone_back waiting (Token.Zero run ∷ tokens) = ap (λ (z : List Effect). Effect.Zero run ∷ z) (alone_back waiting tokens)
alone_back waiting (Token.Soil run ∷ tokens) = ap (λ (z : List Effect). Effect.Soil run ∷ z) (alone_back waiting tokens)
alone_back waiting (Token.Unhold h kind ∷ tokens) = ap (λ (z : List Effect). Effect.Unhold h kind ∷ z) (alone_back waiting tokens)
alone_back waiting (Token.Logged log e ∷ tokens) = ap (λ (z : List Effect). Effect.Logged log e ∷ z) (alone_back waiting tokens)
alone_back waiting (Token.Missed log ∷ tokens) = ap (λ (z : List Effect). Effect.Missed log ∷ z) (alone_back waiting tokens)
alone_back waiting (Token.Cleared log count ∷ tokens) = ap (λ (z : List Effect). Effect.Cleared log count ∷ z) (alone_back waiting tokens)
alone_back waiting (Token.Reset log ∷ tokens) = ap (λ (z : List Effect). Effect.Reset log ∷ z) (alone_back waiting tokens)
alone_back waiting (Token.Ref t is_on ∷ tokens) = ap (λ (z : List Effect). Effect.Ref t is_on ∷ z) (alone_back waiting tokens)
alone_back waiting (Token.TagEnd t ∷ tokens) = ap (λ (z : List Effect). Effect.TagEnd t ∷ z) (alone_back waiting tokens)
alone_back waiting (Token.Block r size ∷ tokens) = ap (λ (z : List Effect). Effect.Block r size ∷ z) (alone_back waiting tokens)
