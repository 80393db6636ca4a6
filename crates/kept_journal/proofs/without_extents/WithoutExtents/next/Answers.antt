use Rattle.std.proofs.Common.{◌≡◌, ◌++◌, ◌∷◌, [], List, ap, subst, sym, ◌∙◌}
use Rattle.std.specs.Prelude.{MatchOption, filter_map}
use Rattle.journal_core.specs.declared.outcome.Effect.{Effect}
use Rattle.kept_journal.specs.Tokens.{effect_alone}
use Rattle.kept_journal.proofs.without_extents.WithoutExtents.next.Goals as goal

pub returns-in-Some : goal.returns-in-Some
returns-in-Some c = sym c.self.view_is ∙ ap (λ (l : List Effect). l ++ filter_map effect_alone c.self.inside.tokens) c.in-Some.ensures

pub returns-in-None : goal.returns-in-None
returns-in-None c =
    subst (λ (l : List Effect). MatchOption c.next_alone.result (l ≡ []) (λ effect. l ≡ effect ∷ filter_map effect_alone c.next_alone.new.tokens))
    (sym (ap (λ (l : List Effect). l ++ filter_map effect_alone c.self.inside.tokens) c.in-None.ensures) ∙ c.self.view_is) c.next_alone.ensures
