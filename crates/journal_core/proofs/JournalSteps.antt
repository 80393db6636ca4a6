-- A journal with one more entry: its effects, its commands and the calls of a pass.
use Rattle.std.proofs.Common.{◌≡◌, ◌+◌, cond, List, [], ◌∷◌, ◌++◌, ap, ◌∙◌, append-nil, zero-add}
use Rattle.std.{proofs.lemmas.Grind.flat_map-append, proofs.lemmas.List.Quantifiers.all_pairs_push, proofs.lemmas.List.Sums.fold-append, proofs.lemmas.List.Sums.sum_by-append, specs.List.All}
use Rattle.std.specs.Prelude.{fold, IsFalse, if◌then◌else◌}
use Rattle.journal_core.{proofs.EachSteps.Each-push, specs.Entries.effects, specs.Entries.is_control}
use Rattle.journal_core.specs.{Merging.commands_in, Merging.is_later, Merging.Rising, Merging.IsStamped, Merging.Numbered, declared.entries.Entry.Entry, declared.outcome.Effect.Effect}

-- the effects of one more entry come last
pub effects-push : (journal : List Entry) (e : Entry) → effects (journal ++ e ∷ []) ≡ effects journal ++ e.effects
effects-push journal e = flat_map-append (λ (e : Entry). e.effects) journal (e ∷ []) ∙ ap (λ (new : List Effect). effects journal ++ new) (append-nil e.effects)

pub effects-append : (journal more : List Entry) → effects (journal ++ more) ≡ effects journal ++ effects more
effects-append journal more = flat_map-append (λ (e : Entry). e.effects) journal more

-- what goes over the effects goes on over the new ones
pub over-push : {B : Type 0} (f : B → Effect → B) (a : B) (journal : List Entry) (e : Entry) → fold f a (effects (journal ++ e ∷ [])) ≡ fold f (fold f a (effects journal)) e.effects
over-push f a journal e = ap (fold f a) (effects-push journal e) ∙ fold-append f a (effects journal) e.effects

-- a command or a scrub counts
pub commands_in-push : (journal : List Entry) (e : Entry) → commands_in (journal ++ e ∷ []) ≡ commands_in journal + (if is_control e.act then 1 else 0)
commands_in-push journal e =
    sum_by-append (λ (x : Entry). cond (is_control x.act) 1 0) journal (e ∷ [])
    ∙ ap (λ n. commands_in journal + n) (zero-add (cond (is_control e.act) 1 0))

-- A journal whose stamps do not come later than that of the entry goes on with it.
pub Rising-push : (journal : List Entry) (e : Entry) → Rising journal → All (λ (f : Entry). IsFalse (is_later f.stamp e.stamp)) journal → Rising (journal ++ e ∷ [])
Rising-push journal e up last = all_pairs_push (λ (f g : Entry). IsFalse (is_later f.stamp g.stamp)) journal e up (λ k d under. last k d under)

pub Numbered-push : (journal : List Entry) (e : Entry) → Numbered journal → IsStamped journal e → All (λ (f : Entry). IsFalse (is_later f.stamp e.stamp)) journal → Numbered (journal ++ e ∷ [])
Numbered-push journal e numbered stamped last = record {
  stamped = Each-push IsStamped journal e numbered.stamped stamped;
  rising = Rising-push journal e numbered.rising last;
}
