-- A step is entered in a control that keeps no entries, by every journal that leads to it.
use Rattle.std.proofs.{Common.◌≡◌, Common.List, Common.[], Common.◌∷◌, Common.◌++◌, Common.sym, Common.subst, lemmas.List.Elements.All-push}
use Rattle.std.specs.{Prelude.All, Prelude.IfOk, declared.result.Result.Result, declared.result.Result.TheVariants.Ok, declared.result.Result.TheVariants.Err}
use Rattle.journal_core.{specs.declared.entries.Entry.Entry, specs.declared.outcome.Effect.Effect, specs.Entries.next_stamp, proofs.EachSteps.Each-push}
use Rattle.extent_list.specs.media_map.specs.region_config.specs.Configurations.{Configuration}
use Rattle.device_commands.specs.device_rules.specs.Legal.{Meets}
use Rattle.manager_commands.specs.device_state.{proofs.EnteredSteps.fits as legal_fits, proofs.EnteredSteps.kept-entered, proofs.EnteredSteps.of_device, specs.Entered.IsEntered}
use Rattle.manager_commands.specs.device_state.specs.{EnteredLists.Fits, EnteredLists.lists_of, StateAfter.IsReached, Updates.IsOfDevice, declared.state.State.State}
use Rattle.control_core.{proofs.OneHost.of_one_host, proofs.Stamped.stamped_next, specs.Deciding.Holds, specs.Deciding.IsShort}
use Rattle.control_core.specs.{Pasts.EntersStep, Pasts.IsOfStep, Pasts.IsPast, Pasts.LiveControlled, PutChanges.AreOfOneHost}

-- what is so by each past is so by every past
pub by_every : {T E : Type 0} (r : Result T E) (P : List Entry → Type 0) (Q : List Entry → T → Type 0) → ((past : List Entry) → P past → IfOk r (Q past)) → IfOk r (λ x. (past : List Entry) → P past → Q past x)
by_every (Ok x) P Q each = each
by_every (Err e) P Q each = tt

pub of_every : {T E : Type 0} (r : Result T E) (Q : List Entry → T → Type 0) (c : Configuration) (s : State) (past : List Entry) → IsPast c past s →
    IfOk r (λ x. (before : List Entry) → IsPast c before s → Q before x) → IfOk r (Q past)
of_every (Ok x) Q c s past leads each = each past leads
of_every (Err e) Q c s past leads each = tt

pub reached_past : (c : Configuration) (past : List Entry) (s : State) → IsPast c past s → IsReached c s
reached_past c past s leads = record { journal = past; sound = leads.sound; legal = leads.legal; kept = leads.kept }

pub past_held : (c : Configuration) (journal : List Entry) (s : State) → Holds c journal s → IsPast c journal s
past_held c journal s holds = record { sound = holds.sound; legal = holds.legal; kept = holds.kept }

-- the effects of a step give and take granules of one host, and are of the device
pub step_of_one : (d : LiveControlled) (new : List Effect) → IsOfStep d new → AreOfOneHost new
step_of_one d new step = subst AreOfOneHost step.effects_are (of_one_host d.config step.past step.entry step.meets)

pub step_of_device : (d : LiveControlled) (new : List Effect) → IsOfStep d new → All (IsOfDevice d.config) new
step_of_device d new step = subst (All (IsOfDevice d.config)) step.effects_are (of_device d.config step.leads.sound step.past step.leads.legal step.entry step.meets)

-- and there is a place for all that they add
pub step_fits : (d : LiveControlled) (new : List Effect) → IsOfStep d new → Fits d.config (lists_of d.state) 1 new
step_fits d new step =
    subst (Fits d.config (lists_of d.state) 1) step.effects_are (legal_fits d.config step.leads.sound step.past step.leads.legal step.entry step.meets d.state step.leads.kept)

-- the entry behind a past leads to what is kept once it is entered
pub past_entered : (c : Configuration) (past : List Entry) (old now : State) → IsPast c past old → (e : Entry) → Meets c past e → (new : List Effect) → e.effects ≡ new →
    IsEntered c new old now → IsPast c (past ++ e ∷ []) now
past_entered c past old now leads e meets new are entered = record {
  sound = leads.sound;
  legal = Each-push (Meets c) past e leads.legal meets;
  kept = kept-entered c leads.sound past leads.legal e meets old now leads.kept (subst (λ es. IsEntered c es old now) (sym are) entered);
}

pub reached_entered : (d : LiveControlled) (now : State) (new : List Effect) → IsOfStep d new → IsEntered d.config new d.state now → IsReached d.config now
reached_entered d now new step entered =
    reached_past d.config (step.past ++ step.entry ∷ []) now (past_entered d.config step.past d.state now step.leads step.entry step.meets new step.effects_are entered)

-- so what every control keeps is kept
pub holds_next : (old now : LiveControlled) (before : List Entry) → Holds old.config before old.state → (e : Entry) → Meets old.config before e → e.stamp ≡ next_stamp before → IsShort e.reply →
    (new : List Effect) → e.effects ≡ new → EntersStep old now new → Holds now.config (before ++ e ∷ []) now.state
holds_next old now before holds e meets stamp short new are enters =
    let leads = enters before (past_held old.config before old.state holds) e meets are in record {
      sound = leads.sound;
      legal = leads.legal;
      stamped = stamped_next before e holds.stamped stamp;
      kept = leads.kept;
      short = All-push (λ (x : Entry). IsShort x.reply) before e holds.short short;
    }
