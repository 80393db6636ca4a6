-- The words, with one more entry.
use Rattle.std.proofs.Common.{◌≡◌, ℕ, ◌<◌, false, List, [], ◌∷◌, ◌++◌, refl, sym, ap, ◌∙◌, append-nil}
use Rattle.std.{proofs.lemmas.List.Sums.fold_push, specs.List.list_any, specs.Prelude.IfOk, specs.Prelude.IsTrue, specs.Prelude.if◌then◌else◌, specs.Prelude.Bool, specs.Prelude.true}
use Rattle.std.specs.declared.result.Result.{Result, TheVariants.Ok, TheVariants.Err}
use Rattle.dcd_base.specs.declared.{failures.AccessFault.AccessFault, ids.HostId.HostId, media.Place.Place, steps.Actor.Actor}
use Rattle.granule_mem.specs.Contents.{word_kept}
use Rattle.journal_core.{proofs.JournalSteps.effects-push, specs.Accesses.load_said, specs.Entries.effects, specs.Entries.is_control, specs.Holders.holds, specs.declared.acts.Act.Act}
use Rattle.journal_core.specs.declared.{acts.Reply.Reply, entries.Entry.Entry, outcome.Effect.Effect}
use Rattle.media_map.specs.Places.{locate}
use Rattle.region_config.specs.{Configurations.Configuration, Granules.granule_total}
use Rattle.control_core.specs.device_rules.specs.Legal.{access_at, granted_reply, is_zeroing, stored_at, word_after, word_by, word_of, written_by}
use Rattle.device_plain.specs.Accesses.{AreZeroed, Stored, held_at, store_said, word_from}

never : IsTrue false → ⊥
never e = cc

-- the words are those that the journal stored
abbrev pub HasWords : Configuration → List Entry → Stored → Type 0
HasWords c journal m = (g w : ℕ) → g < granule_total c → word_kept m g w ≡ word_of c journal g w

-- ---- a command or a scrub

-- it stores no word
pub stores_nothing : (c : Configuration) (g w value : ℕ) (actor : Actor) (act : Act) (reply : Reply) → IsTrue (is_control act) → word_by c g w value actor act reply ≡ value
stores_nothing c g w value (Actor.Host h) (Act.Command q) reply is = refl
stores_nothing c g w value (Actor.Host h) (Act.Load d) reply is = refl
stores_nothing c g w value (Actor.Host h) (Act.Store d new) reply is = absurd (never is)
stores_nothing c g w value (Actor.Host h) (Act.Scrub n) reply is = refl
stores_nothing c g w value Actor.Manager act reply is = refl
stores_nothing c g w value Actor.Sanitizer act reply is = refl

-- zeroed by its effects they are the words that it asks for
pub words_zeroed : (c : Configuration) (journal : List Entry) (m made : Stored) (e : Entry) → AreZeroed m made e.effects → IsTrue (is_control e.act) →
    HasWords c journal m → HasWords c (journal ++ e ∷ []) made
words_zeroed c journal m made e is control words g w below =
    is g w
    ∙ ap (λ value. if list_any (is_zeroing g) e.effects then 0 else value)
    (words g w below ∙ sym (stores_nothing c g w (word_of c journal g w) e.actor e.act e.reply control))
    ∙ sym (fold_push (word_after c g w) 0 journal e)

-- ---- a load or a store

-- it has no effects
pub effects_stay : (journal : List Entry) (e : Entry) → e.effects ≡ [] → effects (journal ++ e ∷ []) ≡ effects journal
effects_stay journal e none = effects-push journal e ∙ ap (λ es. effects journal ++ es) none ∙ append-nil (effects journal)

pub words_stored : (c : Configuration) (journal : List Entry) (m new : Stored) (e : Entry) → e.effects ≡ [] →
    ((g w : ℕ) → g < granule_total c → word_kept new g w ≡ word_by c g w (word_kept m g w) e.actor e.act e.reply) → HasWords c journal m → HasWords c (journal ++ e ∷ []) new
words_stored c journal m new e none stored words g w below =
    stored g w below
    ∙ ap (λ value. word_by c g w value e.actor e.act e.reply) (words g w below)
    ∙ ap (λ es. if list_any (is_zeroing g) es then 0 else word_by c g w (word_of c journal g w) e.actor e.act e.reply) (sym none)
    ∙ sym (fold_push (word_after c g w) 0 journal e)

-- ---- what is replied

module _ (c : Configuration) (journal : List Entry) (h : HostId) where
  pub load_right : (m : Stored) → HasWords c journal m → (d : ℕ) (r : Result Place AccessFault) → IfOk r (λ (p : Place). p.granule < granule_total c) →
      load_said (word_from m (held_at h (effects journal) r)) ≡ access_at c journal h (Act.Load d) r
  load_right m words d (Err fault) inside = refl
  load_right m words d (Ok p) inside = by (holds h p.granule (effects journal))
    where
      by : (b : Bool) → load_said (word_from m (if b then Ok p else Err AccessFault.NotGranted))
          ≡ (if b then granted_reply c journal p (Act.Load d) else Reply.Refused AccessFault.NotGranted)
      by true = ap Reply.Word (words p.granule p.word inside)
      by false = refl

  pub store_right : (d value : ℕ) (r : Result Place AccessFault) → store_said (held_at h (effects journal) r) ≡ access_at c journal h (Act.Store d value) r
  store_right d value (Err fault) = refl
  store_right d value (Ok p) = by (holds h p.granule (effects journal))
    where
      by : (b : Bool) → store_said (if b then Ok p else Err AccessFault.NotGranted)
          ≡ (if b then Reply.Stored else Reply.Refused AccessFault.NotGranted)
      by true = refl
      by false = refl

-- a store writes where it was told Stored
pub written : (c : Configuration) (past : List Effect) (h : HostId) (d new g w old : ℕ) (r : Result Place AccessFault) → r ≡ locate c h d →
    stored_at g w old (held_at h past r) new ≡ written_by c h g w old (Act.Store d new) (store_said (held_at h past r))
written c past h d new g w old (Err fault) is = refl
written c past h d new g w old (Ok p) is = by (holds h p.granule past)
  where
    by : (b : Bool) → stored_at g w old (if b then Ok p else Err AccessFault.NotGranted) new
        ≡ written_by c h g w old (Act.Store d new) (store_said (if b then Ok p else Err AccessFault.NotGranted))
    by true = ap (λ r. stored_at g w old r new) is
    by false = refl
