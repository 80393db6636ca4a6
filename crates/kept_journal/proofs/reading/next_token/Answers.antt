use Rattle.std.proofs.Common.{rules, ◌≡◌, ℕ, List, [], ◌∷◌, None, sym, ap, ◌∙◌}
use Rattle.std.proofs.lemmas.List.{nil_from_length}
use Rattle.kept_journal.{proofs.CoderSteps.kind_ends, proofs.CoderSteps.nothing_told, proofs.CoderSteps.place_alone, proofs.CoderSteps.place_told, specs.Slots.slots_in, specs.Tokens.tokens_in}
use Rattle.kept_journal.specs.declared.tokens.Token.{Token}
use Rattle.kept_journal.proofs.reading.next_token.Goals as goal

pub returns-then-first-ge128 : goal.returns-then-first-ge128
returns-then-first-ge128 c =
    let s = slots_in c.loop-first.slots in
    let parts : c.loop-first.left.now ≡ c.in-Some.first.now ∷ c.in-Some.rest.now = search rules in
    sym c.loop-first.invariant
    ∙ ap (tokens_in s None) parts
    ∙ kind_ends s c.in-Some.first.now c.in-Some.rest.now c.if-first-ge128.true
    ∙ ap (λ (t : Token). t ∷ tokens_in s None c.in-Some.rest.now) (sym c.token_of.ensures)

pub returns-in_default-split_first : goal.returns-in_default-split_first
returns-in_default-split_first c =
    let s = slots_in c.loop-first.slots in
    let parts : c.loop-first.left.now ≡ c.in-Some.first.now ∷ c.in-Some.rest.now = search rules in
    let none : c.in-Some.rest.now ≡ [] = nil_from_length c.in-Some.rest.now c.in_default-split_first.ensures.cases in
    sym c.loop-first.invariant
    ∙ ap (tokens_in s None) parts
    ∙ ap (λ (z : List ℕ). tokens_in s None (c.in-Some.first.now ∷ z)) none
    ∙ place_alone s c.in-Some.first.now c.if-first-ge128.false

pub loop-first-preserved : goal.loop-first-preserved
loop-first-preserved c =
    let s = slots_in c.loop-first.slots in
    let parts : c.loop-first.left.now ≡ c.in-Some.first.now ∷ c.in-Some.rest.now = search rules in
    let more : c.in-Some.rest.now ≡ c.in-Some-split_first.byte.now ∷ c.in-Some-split_first.rest.now = search rules in
    ap (λ (z : ℕ → ℕ). tokens_in z None c.in-Some-split_first.rest.now) c.set_byte.ensures
    ∙ sym (place_told s c.in-Some.first.now c.in-Some-split_first.byte.now c.in-Some-split_first.rest.now c.if-first-ge128.false)
    ∙ sym (ap (λ (z : List ℕ). tokens_in s None (c.in-Some.first.now ∷ z)) more)
    ∙ sym (ap (tokens_in s None) parts)
    ∙ c.loop-first.invariant

pub returns : goal.returns
returns c =
    let none : c.loop-first.left.now ≡ [] = nil_from_length c.loop-first.left.now c.in_default.ensures.cases in
    sym c.loop-first.invariant ∙ ap (tokens_in (slots_in c.loop-first.slots) None) none ∙ nothing_told (slots_in c.loop-first.slots)
