-- Each journal that leads to a device leads on with one more entry.
use Rattle.std.proofs.Common.{◌≡◌, ℕ, ◌<◌, false, List, [], ◌∷◌, ◌++◌, refl, sym, ap, subst, ◌∙◌, length}
use Rattle.std.specs.{Prelude.IsTrue, declared.result.Result.Result, declared.result.Result.TheVariants.Ok, declared.result.Result.TheVariants.Err}
use Rattle.dcd_base.specs.declared.{ids.HostId.HostId, failures.AccessFault.AccessFault, media.Place.Place, steps.Actor.Actor}
use Rattle.granule_mem.specs.Contents.{AreZero, word_kept}
use Rattle.journal_core.{proofs.EachSteps.Each-push, specs.Entries.effects, specs.Entries.fits, specs.Entries.is_control, specs.declared.acts.Act.Act, specs.declared.entries.Entry.Entry}
use Rattle.journal_core.specs.declared.outcome.Effect.{Effect}
use Rattle.media_map.specs.Places.{locate}
use Rattle.region_config.specs.{Configurations.Configuration, Granules.granule_total}
use Rattle.fm_payloads.specs.ManagerPayloads.{manager_request}
use Rattle.control_core.{proofs.NextEntry.next_meets, specs.Deciding.IsDecidedBy, specs.Pasts.EntersStep, specs.Pasts.IsOfStep, specs.Pasts.IsPast, specs.Pasts.LiveControlled}
use Rattle.control_core.specs.{Steps.MayStep, Steps.journal_entry, declared.decided.Decided.Decided}
use Rattle.control_core.specs.device_rules.specs.{Answers.answer, Answers.host_result_in, Answers.manager_result, Answers.reply_with, Legal.Meets, Legal.right_answer, Legal.word_by, Views.view_of}
use Rattle.control_core.specs.device_state.specs.declared.state.State.{State}
use Rattle.device_plain.proofs.{Lasting.state_stays, Lasting.state_with_room, MemorySteps.HasWords, MemorySteps.store_right, MemorySteps.words_stored, MemorySteps.words_zeroed, MemorySteps.written}
use Rattle.device_plain.specs.Accesses.{AreZeroed, Stored, StoresAt, granted_place, store_said}
use Rattle.device_plain.specs.Lives.{ByEveryLife, CanTake, IsAlive, IsLife, IsReplyTo, IsWhole, Living, LivesOn, living, without_spare}

never : IsTrue false → ⊥
never e = cc

-- what is seen of a device is the same but for the room for tags
module _ (c : Configuration) (s : State) (m : Stored) (life : List Entry) where
  pub life_seen : IsLife life (living c s m) → IsLife life (living c (without_spare s) m)
  life_seen leads = record {
    sound = leads.sound;
    legal = leads.legal;
    kept = state_with_room c life s (without_spare s) refl refl leads.kept;
    granules = leads.granules;
    holders = leads.holders;
    words = leads.words;
  }

  pub life_inside : IsLife life (living c (without_spare s) m) → IsLife life (living c s m)
  life_inside leads = record {
    sound = leads.sound;
    legal = leads.legal;
    kept = state_with_room c life (without_spare s) s refl refl leads.kept;
    granules = leads.granules;
    holders = leads.holders;
    words = leads.words;
  }

pub past_of : (life : List Entry) (d : Living) → IsLife life d → IsPast d.config life d.state
past_of life d leads = record { sound = leads.sound; legal = leads.legal; kept = leads.kept }

-- a past of what is kept leads to the device, if it stored the words
pub life_of : (c : Configuration) (s : State) (m : Stored) (life : List Entry) → IsPast c life s → HasWords c life m → IsLife life (living c s m)
life_of c s m life leads words = record {
  sound = leads.sound;
  legal = leads.legal;
  kept = leads.kept;
  granules = leads.kept.holder_count;
  holders = λ g below h host. leads.kept.held g h below host;
  words = words;
}

-- a fresh device
pub life_first : (c : Configuration) (d : LiveControlled) (m : Stored) → d.config ≡ c → IsPast c [] d.state → AreZero m → IsLife [] (living d.config d.state m)
life_first c d m same leads fresh = subst (λ k. IsLife [] (living k d.state m)) (sym same) (life_of c d.state m [] leads (λ g w below. fresh g w))

-- ---- a command or a scrub

-- it is answered
pub right_is : (c : Configuration) (life : List Entry) (actor : Actor) (act : Act) → MayStep c actor act → right_answer c life actor act ≡ answer c life actor act
right_is c life (Actor.Host h) (Act.Command q) may = refl
right_is c life (Actor.Host h) (Act.Load d) may = absurd (never may.control)
right_is c life (Actor.Host h) (Act.Store d value) may = absurd (never may.control)
right_is c life (Actor.Host h) (Act.Scrub n) may = absurd (never may.fits)
right_is c life Actor.Manager act may = refl
right_is c life Actor.Sanitizer act may = refl

-- what is decided may be entered
pub can_take : (d : Living) (life : List Entry) → IsLife life d → (actor : Actor) (act : Act) → MayStep d.config actor act → (x : Decided) → IsDecidedBy d.config life actor act x → CanTake d x.effects
can_take d life leads actor act may x decided = record {
  life = life;
  entry = journal_entry d.config life 0 0 actor act;
  leads = leads;
  control = may.control;
  meets = next_meets d.config life 0 0 actor act may;
  effects_are = sym decided.effects;
}

pub can_inside : (c : Configuration) (s : State) (m : Stored) (new : List Effect) → CanTake (living c (without_spare s) m) new → CanTake (living c s m) new
can_inside c s m new can = record {
  life = can.life;
  entry = can.entry;
  leads = life_inside c s m can.life can.leads;
  control = can.control;
  meets = can.meets;
  effects_are = can.effects_are;
}

-- the entry that is asked for has what is decided
pub effects_decided : (c : Configuration) (life : List Entry) (actor : Actor) (act : Act) → MayStep c actor act → (d : Decided) → IsDecidedBy c life actor act d →
    (e : Entry) → e.actor ≡ actor → e.act ≡ act → Meets c life e → e.effects ≡ d.effects
effects_decided c life actor act may d decided e by does meets =
    meets.effects ∙ (λ i. (right_answer c life (by i) (does i)).1) ∙ ap (λ r. r.1) (right_is c life actor act may) ∙ sym decided.effects

-- it may be entered with more room for tags
pub can_with_room : (c : Configuration) (s : State) (m : Stored) (d : LiveControlled) (new : List Effect) → d.config ≡ c → d.state ≡ record s { tags = d.state.tags } → d.state.tags.entries ≡ s.tags.entries →
    CanTake (living c s m) new → IsOfStep d new
can_with_room c s m d new same kept tags can = subst (λ k. IsOfStep (record { config = k; state = d.state }) new) (sym same) (record {
  past = can.life;
  entry = can.entry;
  leads = record { sound = can.leads.sound; legal = can.leads.legal; kept = state_with_room c can.life s d.state kept tags can.leads.kept };
  meets = can.meets;
  effects_are = can.effects_are;
})

-- it is entered
module _ (c : Configuration) (s : State) (m made : Stored) (room now : LiveControlled) (new : List Effect)
    (same : room.config ≡ c) (kept : room.state ≡ record s { tags = room.state.tags }) (tags : room.state.tags.entries ≡ s.tags.entries)
    (is : AreZeroed m made new) (stays : now.config ≡ room.config) (enters : EntersStep room now new) where
  pub life_taken : (life : List Entry) → IsLife life (living c s m) → (e : Entry) → IsTrue (is_control e.act) →
      Meets c life e → e.effects ≡ new → IsLife (life ++ e ∷ []) (living now.config now.state made)
  life_taken life leads e control meets has =
      subst (λ k. IsLife (life ++ e ∷ []) (living k now.state made)) (sym now_is)
      (life_of c now.state made (life ++ e ∷ []) on (words_zeroed c life m made e (subst (AreZeroed m made) (sym has) is) control leads.words))
    where
      now_is : now.config ≡ c
      now_is = stays ∙ same

      before : IsPast room.config life room.state
      before = subst (λ k. IsPast k life room.state) (sym same) (record { sound = leads.sound; legal = leads.legal; kept = state_with_room c life s room.state kept tags leads.kept })

      on : IsPast c (life ++ e ∷ []) now.state
      on = subst (λ k. IsPast k (life ++ e ∷ []) now.state) now_is
          (enters life before e (subst (λ k. Meets k life e) (sym same) meets) has)

  pub whole_taken : length m ≡ granule_total c → length made ≡ length m → CanTake (living c s m) new → IsWhole (living now.config now.state made)
  whole_taken all stay can = record {
    alive = record { life = can.life ++ can.entry ∷ []; leads = life_taken can.life can.leads can.entry can.control can.meets can.effects_are };
    granules = stay ∙ all ∙ ap granule_total (sym (stays ∙ same));
  }

-- ---- a load or a store

pub life_accessed : (c : Configuration) (s : State) (m new : Stored) (life : List Entry) → IsLife life (living c s m) → (e : Entry) → Meets c life e → e.effects ≡ [] →
    ((g w : ℕ) → g < granule_total c → word_kept new g w ≡ word_by c g w (word_kept m g w) e.actor e.act e.reply) → IsLife (life ++ e ∷ []) (living c s new)
life_accessed c s m new life leads e meets none stored =
    life_of c s new (life ++ e ∷ [])
    (record { sound = leads.sound; legal = Each-push (Meets c) life e leads.legal meets; kept = state_stays c life e s none leads.kept })
    (words_stored c life m new e none stored leads.words)

pub life_loaded : (c : Configuration) (s : State) (m : Stored) (h : HostId) (d : ℕ) → LivesOn (living c s m) (living c s m) (Actor.Host h) (Act.Load d)
life_loaded c s m h d life leads e by does meets =
    life_accessed c s m m life leads e meets
    (meets.effects ∙ (λ i. (right_answer c life (by i) (does i)).1))
    (λ g w below. sym (λ i. word_by c g w (word_kept m g w) (by i) (does i) e.reply))

pub life_stored : (c : Configuration) (s : State) (m new : Stored) (h : HostId) (d value : ℕ) (place : Result Place AccessFault) →
    ByEveryLife (living c s m) (λ life. place ≡ granted_place c (effects life) h d) → StoresAt m new place value →
    LivesOn (living c s m) (living c s new) (Actor.Host h) (Act.Store d value)
life_stored c s m new h d value place is stores life leads e by does meets =
    life_accessed c s m new life leads e meets
    (meets.effects ∙ (λ i. (right_answer c life (by i) (does i)).1))
    (λ g w below.
    subst (λ p. StoresAt m new p value) (is life leads) stores g w
    ∙ written c (effects life) h d value g w (word_kept m g w) (locate c h d) refl
    ∙ ap (word_by c g w (word_kept m g w) (Actor.Host h) (Act.Store d value)) said
    ∙ sym (λ i. word_by c g w (word_kept m g w) (by i) (does i) e.reply))
  where
    said : store_said (granted_place c (effects life) h d) ≡ e.reply
    said = store_right c life h d value (locate c h d)
        ∙ sym (meets.reply ∙ (λ i. (right_answer c life (by i) (does i)).0))

-- where some journal leads to the device and each leads on, one leads to the device after it
pub alive_on : (old now : Living) (actor : Actor) (act : Act) → IsTrue (fits old.config.hosts actor act) → IsAlive old → LivesOn old now actor act → IsAlive now
alive_on old now actor act allowed alive on =
    let e : Entry = record {
      pass = 0;
      line = 0;
      actor = actor;
      act = act;
      reply = (right_answer old.config alive.life actor act).0;
      effects = (right_answer old.config alive.life actor act).1;
      stamp = record { number = 0; count = 0 };
    } in
    record { life = alive.life ++ e ∷ []; leads = on alive.life alive.leads e refl refl (record { allowed = allowed; reply = refl; effects = refl }) }

-- ---- what kind of reply it is

by_result : {T E : Type 0} (P : Result T E → Type 0) → ((x : T) → P (Ok x)) → ((e : E) → P (Err e)) → (r : Result T E) → P r
by_result P ok err (Ok x) = ok x
by_result P ok err (Err e) = err e

-- the answer to a command or a scrub is of its kind
pub answer_kind : (c : Configuration) (before : List Entry) (actor : Actor) (act : Act) → MayStep c actor act → IsReplyTo act (answer c before actor act).0
answer_kind c before (Actor.Host h) (Act.Command q) may = by_result (λ r. IsReplyTo (Act.Command q) (reply_with q r)) (λ o. tt) (λ rule. tt) (host_result_in c h (view_of c h before) q)
answer_kind c before (Actor.Host h) (Act.Load d) may = absurd (never may.control)
answer_kind c before (Actor.Host h) (Act.Store d value) may = absurd (never may.control)
answer_kind c before (Actor.Host h) (Act.Scrub n) may = absurd (never may.fits)
answer_kind c before Actor.Manager (Act.Command q) may = by_result (λ r. IsReplyTo (Act.Command q) (reply_with q r)) (λ o. tt) (λ rule. tt) (manager_result c before (manager_request q.opcode q.payload))
answer_kind c before Actor.Manager (Act.Load d) may = absurd (never may.control)
answer_kind c before Actor.Manager (Act.Store d value) may = absurd (never may.control)
answer_kind c before Actor.Manager (Act.Scrub n) may = absurd (never may.fits)
answer_kind c before Actor.Sanitizer (Act.Command q) may = absurd (never may.fits)
answer_kind c before Actor.Sanitizer (Act.Load d) may = absurd (never may.control)
answer_kind c before Actor.Sanitizer (Act.Store d value) may = absurd (never may.control)
answer_kind c before Actor.Sanitizer (Act.Scrub n) may = tt
