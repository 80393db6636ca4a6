-- What every device keeps beside its loads and stores is kept by one more entry.
use Rattle.std.proofs.Common.{◌≡◌, ℕ, ◌+◌, ◌<◌, ◌≤◌, true, false, not, List, [], ◌∷◌, ◌++◌, length, refl, sym, ap, subst, ◌∙◌, append-nil, arith}
use Rattle.std.proofs.lemmas.List.{Elements.All-filter, Elements.All-weaker, Kept.AllPairs-filter}
use Rattle.std.specs.Prelude.{All, IfOk, IsFalse, if◌then◌else◌}
use Rattle.dcd_base.specs.declared.{ids.HostId.HostId, media.Place.Place, steps.Actor.Actor}
use Rattle.granule_mem.specs.Contents.{AreZero}
use Rattle.journal_core.proofs.{Inserting.in_order_before_none, Pushing.merged-control_last, Pushing.merged-shard_last, Pushing.merged_of_one}
use Rattle.journal_core.specs.{Accesses.access_entry, Accesses.load_said, Entries.effects, Entries.is_control, Merging.Rising, Merging.is_later, Merging.merged, declared.acts.Act.Act}
use Rattle.journal_core.specs.declared.entries.Entry.{Entry}
use Rattle.media_map.specs.Places.{locate}
use Rattle.region_config.specs.{Configurations.Configuration, Granules.granule_total, Soundness.IsSound}
use Rattle.control_core.specs.{kept_journal.proofs.Pairs.length_of_both, Deciding.IsShort, Steps.MayStep, Steps.journal_entry}
use Rattle.device_plain.proofs.Keeping.{keeps_command, keeps_first, keeps_load, keeps_store}
use Rattle.device_plain.proofs.Numbered.{accesses-push, before_access, before_command, command_behind}
use Rattle.device_plain.specs.{Accesses.AreZeroed, Accesses.Stored, Accesses.StoresAt, Accesses.granted_place, Accesses.store_said, Accesses.word_from, Keeping.Keeps, Keeping.KeepsBoth}
use Rattle.device_plain.specs.Numbering.{IsReachedBy, accesses_of}

-- the journal has the entries of both
pub length_of_whole : (control accesses : List Entry) → length (merged control (accesses ∷ [])) ≡ length control + length accesses
length_of_whole control accesses = ap length (merged_of_one control accesses) ∙ length_of_both control accesses

-- without loads and stores the journal has the control's entries alone
pub without_accesses : (control accesses : List Entry) → accesses ≡ [] → Rising control → merged control (accesses ∷ []) ≡ control
without_accesses control accesses none rises = ap (λ (es : List Entry). merged control (es ∷ [])) none ∙ in_order_before_none control rises

-- a fresh device
pub both_first : (c : Configuration) (m : Stored) → IsSound c → length m ≡ granule_total c → AreZero m → KeepsBoth c [] [] m 0
both_first c m sound granules fresh = record { keeps = keeps_first c m sound granules fresh; accesses_are = refl }

module _ (c : Configuration) (control accesses : List Entry) (m : Stored) (since : ℕ) (b : KeepsBoth c control accesses m since) where
  abbrev journal : List Entry
  journal = merged control (accesses ∷ [])

  -- what all entries are, those of the control and the loads and stores are
  of_control : (P : Entry → Type 0) → All P journal → All P control
  of_control P all = subst (All P) (sym b.keeps.commands) (All-filter (λ (e : Entry). is_control e.act) P journal all)

  of_accesses : (P : Entry → Type 0) → All P journal → All P accesses
  of_accesses P all = subst (All P) (sym b.accesses_are) (All-filter (λ (e : Entry). not (is_control e.act)) P journal all)

  -- the stamps of both rise
  pub control_rises : Rising control
  control_rises = subst Rising (sym b.keeps.commands) (AllPairs-filter (λ (e f : Entry). IsFalse (is_later e.stamp f.stamp)) (λ (e : Entry). is_control e.act) journal b.keeps.numbered.rising)

  pub accesses_rise : Rising accesses
  accesses_rise = subst Rising (sym b.accesses_are) (AllPairs-filter (λ (e f : Entry). IsFalse (is_later e.stamp f.stamp)) (λ (e : Entry). not (is_control e.act)) journal b.keeps.numbered.rising)

  -- no more came since the last command or scrub than there are
  pub few_since : since ≤ length accesses
  few_since = omega (arith, b.keeps.few, ap length b.accesses_are)

  -- ---- a command or a scrub
  module _ (pass line : ℕ) (actor : Actor) (act : Act) (may : MayStep c actor act) where
    abbrev next : Entry
    next = journal_entry c control pass line actor act

    pub grown_command : merged (control ++ next ∷ []) (accesses ∷ []) ≡ journal ++ next ∷ []
    grown_command =
        merged-control_last control accesses next
        (of_control (λ (f : Entry). IsFalse (is_later f.stamp next.stamp))
        (All-weaker (λ (x : Entry). IsReachedBy (length control) since x.stamp) (λ (x : Entry). IsFalse (is_later x.stamp next.stamp)) (λ x r. before_command (length control) since x.stamp r) journal b.keeps.reached))
        (of_accesses (λ (f : Entry). is_later next.stamp f.stamp ≡ true)
        (All-weaker (λ (x : Entry). IsReachedBy (length control) since x.stamp) (λ (x : Entry). is_later next.stamp x.stamp ≡ true) (λ x r. command_behind (length control) since x.stamp r) journal b.keeps.reached))

    pub both_command : IsShort next.reply → (made : Stored) → AreZeroed m made next.effects → length made ≡ length m → KeepsBoth c (control ++ next ∷ []) accesses made 0
    both_command short made is stay = record {
      keeps = subst (λ es. Keeps c (control ++ next ∷ []) made es 0) (sym grown_command) (keeps_command c control m journal since b.keeps pass line actor act may short made is stay);
      accesses_are = b.accesses_are ∙ sym (
          ap accesses_of grown_command ∙ accesses-push journal next
          ∙ ap (λ t. accesses_of journal ++ (if not t then next ∷ [] else [])) may.control ∙ append-nil (accesses_of journal));
    }

  -- ---- a load or a store
  module _ (e : Entry) (access : is_control e.act ≡ false) (stamp : e.stamp ≡ record { number = length control; count = since + 1 }) where
    pub grown_access : merged control ((accesses ++ e ∷ []) ∷ []) ≡ journal ++ e ∷ []
    grown_access =
        merged-shard_last control accesses e
        (All-weaker (λ (x : Entry). IsReachedBy (length control) since x.stamp) (λ (x : Entry). IsFalse (is_later x.stamp e.stamp))
        (λ x r. subst (λ s. IsFalse (is_later x.stamp s)) (sym stamp) (before_access (length control) since x.stamp r)) journal b.keeps.reached)

    both_access : (new : Stored) → Keeps c control new (journal ++ e ∷ []) (since + 1) → KeepsBoth c control (accesses ++ e ∷ []) new (since + 1)
    both_access new keeps = record {
      keeps = subst (λ es. Keeps c control new es (since + 1)) (sym grown_access) keeps;
      accesses_are = ap (λ es. es ++ e ∷ []) b.accesses_are ∙ sym (
          ap accesses_of grown_access ∙ accesses-push journal e
          ∙ ap (λ t. accesses_of journal ++ (if not t then e ∷ [] else [])) access);
    }

  module _ (pass line : ℕ) (h : HostId) (d : ℕ) (host : h < c.hosts) where
    pub both_load : IfOk (locate c h d) (λ (p : Place). p.granule < granule_total c) → (e : Entry) → e ≡ access_entry pass line h (Act.Load d) (load_said (word_from m (granted_place c (effects control) h d))) (record { number = length control; count = since + 1 }) →
        KeepsBoth c control (accesses ++ e ∷ []) m (since + 1)
    both_load inside e is = both_access e (ap (λ (x : Entry). is_control x.act) is) (ap (λ (x : Entry). x.stamp) is) m (keeps_load c control m journal since b.keeps pass line h d host inside e is)

    pub both_store : (value : ℕ) (new : Stored) → StoresAt m new (granted_place c (effects control) h d) value → length new ≡ length m →
        (e : Entry) → e ≡ access_entry pass line h (Act.Store d value) (store_said (granted_place c (effects control) h d)) (record { number = length control; count = since + 1 }) →
        KeepsBoth c control (accesses ++ e ∷ []) new (since + 1)
    both_store value new stores stay e is = both_access e (ap (λ (x : Entry). is_control x.act) is) (ap (λ (x : Entry). x.stamp) is) new (keeps_store c control m journal since b.keeps pass line h d host value new stores stay e is)
