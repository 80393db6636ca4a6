-- Records that go into logs are spelled, one effect and one entry more at a time.
use Rattle.std.proofs.Common.{◌≡◌, ℕ, ◌+◌, ◌<◌, Bool, true, false, List, [], ◌∷◌, ◌++◌, length, get_or, take, refl, sym, ap, subst, ◌∙◌}
use Rattle.std.{specs.Prelude.IsTrue, specs.Prelude.if◌then◌else◌, specs.List.AllByRecursion, proofs.lemmas.Bool.false≢true, proofs.lemmas.List.take_more}
use Rattle.dcd_base.specs.declared.steps.Actor.{Actor}
use Rattle.journal_core.{proofs.EachSteps.EachFrom-at, proofs.JournalSteps.effects-push, specs.Entries.effects, specs.Entries.fits, specs.Entries.is_control, specs.declared.acts.Act.Act}
use Rattle.journal_core.specs.declared.{entries.Entry.Entry, outcome.Effect.Effect}
use Rattle.device_plain.{proofs.Numbered.commands-push, specs.Numbering.commands_of, specs.device_rules.proofs.ListSteps.each-append}
use Rattle.device_plain.specs.{device_rules.specs.Legal.Legal, device_rules.specs.Legal.Meets, device_rules.specs.Legal.right_answer, kept_journal.specs.Tokens.without_extents}
use Rattle.region_config.specs.Configurations.{Configuration}
use Rattle.host_driver.specs.Spelling.{AreSpelled, AreSpelledIn, IsSpelledIn}

-- ---- one more

-- the effects of one more entry
pub spelled-push : (journal : List Entry) (e : Entry) → AreSpelled journal → AreSpelledIn e.effects → AreSpelled (journal ++ e ∷ [])
spelled-push journal e all new = subst (AllByRecursion IsSpelledIn) (sym (effects-push journal e)) (each-append IsSpelledIn (effects journal) e.effects all new)

-- records stand in effects without extents
pub spelled_alone : (all : List Effect) → AreSpelledIn (without_extents all) → AreSpelledIn all
spelled_alone [] spelled = tt
spelled_alone (Effect.Offer h xs ∷ all) spelled = (tt, spelled_alone all spelled)
spelled_alone (Effect.Answer h xs ∷ all) spelled = (tt, spelled_alone all spelled)
spelled_alone (Effect.Take h run ∷ all) spelled = (tt, spelled_alone all spelled.1)
spelled_alone (Effect.Leave h run ∷ all) spelled = (tt, spelled_alone all spelled.1)
spelled_alone (Effect.Zero run ∷ all) spelled = (tt, spelled_alone all spelled.1)
spelled_alone (Effect.Soil run ∷ all) spelled = (tt, spelled_alone all spelled.1)
spelled_alone (Effect.Hold h kind xs ∷ all) spelled = (tt, spelled_alone all spelled)
spelled_alone (Effect.Unhold h kind ∷ all) spelled = (tt, spelled_alone all spelled.1)
spelled_alone (Effect.Logged log e ∷ all) spelled = (spelled.0, spelled_alone all spelled.1)
spelled_alone (Effect.Missed log ∷ all) spelled = (tt, spelled_alone all spelled.1)
spelled_alone (Effect.Cleared log count ∷ all) spelled = (tt, spelled_alone all spelled.1)
spelled_alone (Effect.Reset log ∷ all) spelled = (tt, spelled_alone all spelled.1)
spelled_alone (Effect.Ref t is_on ∷ all) spelled = (tt, spelled_alone all spelled.1)
spelled_alone (Effect.TagEnd t ∷ all) spelled = (tt, spelled_alone all spelled.1)
spelled_alone (Effect.Block r size ∷ all) spelled = (tt, spelled_alone all spelled.1)

-- one entry more of a journal
pub entry_more : (journal : List Entry) (i : ℕ) (e : Entry) → i < length journal → e ≡ get_or journal i e → AreSpelled (take i journal) → AreSpelledIn e.effects → AreSpelled (take (i + 1) journal)
entry_more journal i e within is front new =
    subst AreSpelled (sym (take_more journal i e within ∙ ap (λ (x : Entry). take i journal ++ x ∷ []) (sym is))) (spelled-push (take i journal) e front new)

-- ---- the last entry of a journal, by the last of its commands and scrubs

-- a load or a store changes nothing
no_effects : (c : Configuration) (before : List Entry) (actor : Actor) (act : Act) → is_control act ≡ false → IsTrue (fits c.hosts actor act) → (right_answer c before actor act).1 ≡ []
no_effects c before actor (Act.Command q) access allowed = absurd (false≢true (sym access))
no_effects c before actor (Act.Scrub n) access allowed = absurd (false≢true (sym access))
no_effects c before (Actor.Host h) (Act.Load d) access allowed = refl
no_effects c before Actor.Manager (Act.Load d) access allowed = absurd (false≢true allowed)
no_effects c before Actor.Sanitizer (Act.Load d) access allowed = absurd (false≢true allowed)
no_effects c before (Actor.Host h) (Act.Store d value) access allowed = refl
no_effects c before Actor.Manager (Act.Store d value) access allowed = absurd (false≢true allowed)
no_effects c before Actor.Sanitizer (Act.Store d value) access allowed = absurd (false≢true allowed)

pub last_spelled : (c : Configuration) (journal : List Entry) → Legal c journal
    → ((front : List Entry) (x : Entry) → commands_of journal ≡ front ++ x ∷ [] → AreSpelledIn x.effects)
    → (before : List Entry) (e : Entry) → journal ≡ before ++ e ∷ [] → AreSpelledIn e.effects
last_spelled c journal legal last before e is = by (is_control e.act) refl
  where
    meets : Meets c before e
    meets = EachFrom-at [] (Meets c) before e [] (subst (Legal c) is legal)

    by : (control : Bool) → is_control e.act ≡ control → AreSpelledIn e.effects
    by true control = last (commands_of before) e
        (ap commands_of is ∙ commands-push before e ∙ ap (λ b. commands_of before ++ (if b then e ∷ [] else [])) control)
    by false access = subst AreSpelledIn (sym (meets.effects ∙ no_effects c before e.actor e.act access meets.allowed)) tt
