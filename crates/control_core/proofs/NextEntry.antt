-- The entry that comes next meets what the entries before it ask.
use Rattle.std.proofs.Common.{◌≡◌, ◌==◌, ℕ, suc, true, false, List, [], ◌∷◌, ◌++◌, length, ◌+◌, refl, sym, subst, arith}
use Rattle.std.{specs.Prelude.IsTrue, proofs.lemmas.Bool.eqb-true}
use Rattle.cci_codec.specs.dcd_base.specs.declared.steps.Actor.{Actor}
use Rattle.journal_core.{specs.declared.acts.Act.Act, specs.declared.entries.Entry.Entry, specs.declared.outcome.Effect.Effect, proofs.Rising.rising_none, specs.Entries.next_entry}
use Rattle.extent_list.specs.media_map.specs.region_config.specs.Configurations.{Configuration}
use Rattle.device_commands.specs.device_rules.specs.{Answers.answer, Legal.Meets}
use Rattle.control_core.proofs.Entering.{holds_next, past_entered, past_held}
use Rattle.control_core.specs.{Deciding.AreStamped, Deciding.Holds, Deciding.IsDecidedBy, Deciding.IsShort, Pasts.EntersStep, Pasts.IsOfStep, Pasts.IsPast, Pasts.LiveControlled}
use Rattle.control_core.specs.{Steps.Controlled, Steps.IsNextEntry, Steps.MayStep, Steps.journal_entry, declared.decided.Decided.Decided}

never : IsTrue false → ⊥
never e = cc

pub next_meets : (c : Configuration) (before : List Entry) (pass line : ℕ) (actor : Actor) (act : Act) → MayStep c actor act → Meets c before (journal_entry c before pass line actor act)
next_meets c before pass line (Actor.Host h) (Act.Command q) may = record { allowed = may.fits; reply = refl; effects = refl }
next_meets c before pass line (Actor.Host h) (Act.Load d) may = absurd (never may.control)
next_meets c before pass line (Actor.Host h) (Act.Store d value) may = absurd (never may.control)
next_meets c before pass line (Actor.Host h) (Act.Scrub n) may = absurd (never may.fits)
next_meets c before pass line Actor.Manager act may = record { allowed = may.fits; reply = refl; effects = refl }
next_meets c before pass line Actor.Sanitizer act may = record { allowed = may.fits; reply = refl; effects = refl }

pub is_next_meets : (d : Controlled) (e : Entry) → IsNextEntry d e → Meets d.config d.entries e
is_next_meets d e next = subst (Meets d.config d.entries) (sym next.is) (next_meets d.config d.entries e.pass e.line e.actor e.act next.may)

-- A fresh control has what every control keeps.
pub holds_first : (c : Configuration) (entries : List Entry) (d : LiveControlled) → entries ≡ [] → d.config ≡ c → IsPast c [] d.state → Holds d.config entries d.state
holds_first c entries d none same leads =
    subst (λ es. Holds d.config es d.state) (sym none)
    (subst (λ k. Holds k [] d.state) (sym same) (record { sound = leads.sound; legal = tt; stamped = none_stamped; kept = leads.kept; short = λ k e below. absurd (omega (arith, below)) }))
  where
    none_stamped : AreStamped []
    none_stamped = record { rising = rising_none; below = λ k e below. absurd (omega (arith, below)) }

-- The effects that are decided are those of a step.
pub is_of_step : (d : LiveControlled) (before : List Entry) → Holds d.config before d.state → (actor : Actor) (act : Act) → MayStep d.config actor act → (es : List Effect) →
    es ≡ (answer d.config before actor act).1 → IsOfStep d es
is_of_step d before holds actor act may es is = record {
  past = before;
  entry = journal_entry d.config before 0 0 actor act;
  leads = past_held d.config before d.state holds;
  meets = next_meets d.config before 0 0 actor act may;
  effects_are = sym is;
}

-- ---- what is decided

-- What is decided, put behind the entries, is the entry that comes next.
pub next_is : (c : Configuration) (before : List Entry) (pass line : ℕ) (actor : Actor) (act : Act) (d : Decided) → IsDecidedBy c before actor act d →
    next_entry before pass line actor act (d.reply, d.effects) ≡ journal_entry c before pass line actor act
next_is c before pass line actor act d is = λ i. record {
  pass = pass;
  line = line;
  actor = actor;
  act = act;
  reply = is.reply i;
  effects = is.effects i;
  stamp = record { number = length before + 1; count = 0 };
}

-- With it the control has what every control keeps, where its state is entered.
pub holds_decided : (old now : LiveControlled) (before : List Entry) → Holds old.config before old.state → (pass line : ℕ) (actor : Actor) (act : Act) → MayStep old.config actor act →
    (d : Decided) → IsDecidedBy old.config before actor act d → EntersStep old now d.effects →
    Holds now.config (before ++ next_entry before pass line actor act (d.reply, d.effects) ∷ []) now.state
holds_decided old now before holds pass line actor act may d is enters =
    subst (λ (e : Entry). Holds now.config (before ++ e ∷ []) now.state) (sym (next_is old.config before pass line actor act d is))
    (holds_next old now before holds (journal_entry old.config before pass line actor act) (next_meets old.config before pass line actor act may) refl
    (subst IsShort is.reply is.short) d.effects (sym is.effects) enters)

-- A step without effects leaves what is kept.
pub enters_nothing : (d : LiveControlled) → EntersStep d d []
enters_nothing d = λ past leads e meets are.
    past_entered d.config past d.state d.state leads e meets [] are (record {
      present_is = refl;
      host_count = refl;
      granule_count = refl;
      cells = λ g below. refl;
      holders_are = refl;
      manager_is = refl;
      logs = λ h below. refl;
      lists = λ h below. refl;
      tags_are = refl;
    })

-- a list without items is none
pub none_in : (es : List Effect) → (length es == 0) ≡ true → es ≡ []
none_in [] none = refl
none_in (e ∷ es) none = absurd (omega (arith, eqb-true (suc (length es)) 0 none))
