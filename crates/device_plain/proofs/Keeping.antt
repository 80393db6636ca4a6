-- What every device keeps is kept by one more entry.
use Rattle.std.proofs.Common.{◌≡◌, ℕ, ◌+◌, ◌<◌, true, false, leb, ◌&&◌, ◌==◌, List, [], ◌∷◌, ◌++◌, length, refl, sym, ap, subst, ◌∙◌, append-nil, add-zero, arith}
use Rattle.std.proofs.lemmas.{Bool.and_from, Bool.eq-eqb, Bool.le-leb, Bool.lt-ltb, List.length-append, List.Elements.All-nil, List.Elements.All-push, List.Elements.All-weaker, List.Sums.fold_push}
use Rattle.std.specs.{List.filter, List.list_any, Prelude.All, Prelude.IfOk, Prelude.IsFalse, Prelude.IsTrue, Prelude.fold, Prelude.if◌then◌else◌, Prelude.not, declared.result.Result.Result}
use Rattle.std.specs.declared.result.Result.TheVariants.{Ok, Err}
use Rattle.dcd_base.specs.declared.{failures.AccessFault.AccessFault, ids.HostId.HostId, media.Place.Place, steps.Actor.Actor, steps.Stamp.Stamp}
use Rattle.granule_mem.specs.Contents.{AreZero, word_kept}
use Rattle.journal_core.proofs.{EachSteps.Each-push, JournalSteps.Numbered-push, JournalSteps.commands_in-push, JournalSteps.effects-push}
use Rattle.journal_core.specs.{Accesses.access_entry, Accesses.load_said, Entries.effects, Entries.is_control, Merging.commands_in, Merging.is_later, declared.acts.Act.Act}
use Rattle.journal_core.specs.declared.entries.Entry.{Entry}
use Rattle.media_map.specs.Places.{locate}
use Rattle.region_config.specs.{Configurations.Configuration, Granules.granule_total, Soundness.IsSound}
use Rattle.control_core.specs.{Deciding.IsShort, Steps.MayStep, Steps.journal_entry, device_rules.proofs.Answered.answer_same, device_rules.specs.Hosts.changes_of, device_rules.specs.Hosts.moves}
use Rattle.control_core.specs.device_rules.specs.Legal.{Meets, word_by}
use Rattle.device_plain.proofs.MemorySteps.{effects_stay, load_right, store_right, words_stored, words_zeroed, written}
use Rattle.device_plain.proofs.Numbered.{accesses-push, before_access, before_command, commands-push, reached_access, reached_command, since-push}
use Rattle.device_plain.specs.{Accesses.AreZeroed, Accesses.Stored, Accesses.StoresAt, Accesses.granted_place, Accesses.store_said, Accesses.word_from, Keeping.Keeps}
use Rattle.device_plain.specs.Numbering.{IsCounted, IsReachedBy, accesses_of}

never : IsTrue false → ⊥
never e = cc

-- a fresh device
pub keeps_first : (c : Configuration) (m : Stored) → IsSound c → length m ≡ granule_total c → AreZero m → Keeps c [] m [] 0
keeps_first c m sound granules fresh = record {
  sound = sound;
  legal = tt;
  numbered = record { stamped = tt; rising = λ i j d under below. absurd (omega (arith, below)) };
  counted = tt;
  short = All-nil (λ (x : Entry). IsShort x.reply);
  commands = refl;
  count = refl;
  effects_are = refl;
  changes = λ h. refl;
  since = refl;
  few = omega arith;
  reached = All-nil (λ (x : Entry). IsReachedBy 0 0 x.stamp);
  granules = granules;
  words = λ g w below. fresh g w;
}

module _ (c : Configuration) (control : List Entry) (m : Stored) (journal : List Entry) (since : ℕ) (k : Keeps c control m journal since) where
  -- ---- a command or a scrub

  -- the answer over the commands and scrubs is that over all entries
  command_meets : (pass line : ℕ) (actor : Actor) (act : Act) → MayStep c actor act → Meets c journal (journal_entry c control pass line actor act)
  command_meets pass line (Actor.Host h) (Act.Command q) may = record {
    allowed = may.fits;
    reply = ap (λ r. r.0) (answer_same c control journal k.effects_are k.changes (Actor.Host h) (Act.Command q));
    effects = ap (λ r. r.1) (answer_same c control journal k.effects_are k.changes (Actor.Host h) (Act.Command q));
  }
  command_meets pass line (Actor.Host h) (Act.Load d) may = absurd (never may.control)
  command_meets pass line (Actor.Host h) (Act.Store d value) may = absurd (never may.control)
  command_meets pass line (Actor.Host h) (Act.Scrub n) may = absurd (never may.fits)
  command_meets pass line Actor.Manager act may = record {
    allowed = may.fits;
    reply = ap (λ r. r.0) (answer_same c control journal k.effects_are k.changes Actor.Manager act);
    effects = ap (λ r. r.1) (answer_same c control journal k.effects_are k.changes Actor.Manager act);
  }
  command_meets pass line Actor.Sanitizer act may = record {
    allowed = may.fits;
    reply = ap (λ r. r.0) (answer_same c control journal k.effects_are k.changes Actor.Sanitizer act);
    effects = ap (λ r. r.1) (answer_same c control journal k.effects_are k.changes Actor.Sanitizer act);
  }

  module _ (pass line : ℕ) (actor : Actor) (act : Act) (may : MayStep c actor act) where
    abbrev next : Entry
    next = journal_entry c control pass line actor act

    pub keeps_command : IsShort next.reply → (made : Stored) → AreZeroed m made next.effects → length made ≡ length m → Keeps c (control ++ next ∷ []) made (journal ++ next ∷ []) 0
    keeps_command short made is stay = record {
      sound = k.sound;
      legal = Each-push (Meets c) journal next k.legal (command_meets pass line actor act may);
      numbered = Numbered-push journal next k.numbered
          (ap (λ b. if b then ((length control + 1) == (commands_in journal + 1)) && (0 == 0) else ((length control + 1) == commands_in journal) && false) may.control
          ∙ and_from ((length control + 1) == (commands_in journal + 1)) true (eq-eqb (length control + 1) (commands_in journal + 1) (ap (λ n. n + 1) (sym k.count))) refl)
          (All-weaker (λ (x : Entry). IsReachedBy (length control) since x.stamp) (λ (x : Entry). IsFalse (is_later x.stamp next.stamp)) (λ x r. before_command (length control) since x.stamp r) journal k.reached);
      counted = Each-push IsCounted journal next k.counted (
          (λ i. record { number = counted_is i + 1; count = 0 })
          ∙ sym (ap (λ b. if b then first else other) may.control));
      short = All-push (λ (x : Entry). IsShort x.reply) journal next k.short short;
      commands = ap (λ cs. cs ++ next ∷ []) k.commands
          ∙ sym (commands-push journal next ∙ ap (λ b. commands ++ (if b then next ∷ [] else [])) may.control);
      count = commands_in-push journal next ∙ ap (λ b. commands_in journal + (if b then 1 else 0)) may.control ∙ ap (λ n. n + 1) k.count ∙ sym longer;
      effects_are = effects-push control next ∙ past;
      changes = λ h.
          fold_push (moved h) 0 control next
          ∙ ap (λ n. moved h n next) (k.changes h)
          ∙ sym (fold_push (moved h) 0 journal next);
      since = sym (since-push journal next ∙ ap (λ b. if b then 0 else since_now + 1) may.control);
      few = omega arith;
      reached = subst (λ n. All (λ (x : Entry). IsReachedBy n 0 x.stamp) (journal ++ next ∷ [])) (sym longer) (
          All-push (λ (x : Entry). IsReachedBy (length control + 1) 0 x.stamp) journal next
          (All-weaker (λ (x : Entry). IsReachedBy (length control) since x.stamp) (λ (x : Entry). IsReachedBy (length control + 1) 0 x.stamp) (λ x r. reached_command (length control) since x.stamp r) journal k.reached)
          (record { below = omega arith; count = λ e. omega arith }));
      granules = stay ∙ k.granules;
      words = words_zeroed c journal m made next is may.control k.words;
    }
      where
        counted_is : length control ≡ commands_in journal
        counted_is = sym k.count

        since_now : ℕ
        since_now = fold (λ n (x : Entry). if is_control x.act then 0 else n + 1) 0 journal

        first : Stamp
        first = record { number = commands_in journal + 1; count = 0 }

        other : Stamp
        other = record { number = commands_in journal; count = since_now + 1 }

        commands : List Entry
        commands = filter (λ (x : Entry). is_control x.act) journal

        longer : length (control ++ next ∷ []) ≡ length control + 1
        longer = length-append control (next ∷ [])

        past : effects control ++ next.effects ≡ effects (journal ++ next ∷ [])
        past = ap (λ es. es ++ next.effects) k.effects_are ∙ sym (effects-push journal next)

        moved : HostId → ℕ → Entry → ℕ
        moved h n x = if list_any (moves h) x.effects then n + 1 else n

  -- ---- a load or a store
  module _ (e : Entry) (meets : Meets c journal e) (access : is_control e.act ≡ false) (none : e.effects ≡ []) (short : IsShort e.reply)
      (stamp : e.stamp ≡ record { number = length control; count = since + 1 }) where
    pub keeps_access : (new : Stored) → length new ≡ length m →
        ((g w : ℕ) → g < granule_total c → word_kept new g w ≡ word_by c g w (word_kept m g w) e.actor e.act e.reply) → Keeps c control new (journal ++ e ∷ []) (since + 1)
    keeps_access new stay words = record {
      sound = k.sound;
      legal = Each-push (Meets c) journal e k.legal meets;
      numbered = Numbered-push journal e k.numbered
          (ap (λ b. if b then (e.stamp.number == (commands_in journal + 1)) && (e.stamp.count == 0) else (e.stamp.number == commands_in journal) && leb 1 e.stamp.count) access
          ∙ ap (λ (s : Stamp). (s.number == commands_in journal) && leb 1 s.count) stamp
          ∙ and_from (length control == commands_in journal) (leb 1 (since + 1)) (eq-eqb (length control) (commands_in journal) (sym k.count)) (le-leb 1 (since + 1) (omega arith)))
          (All-weaker (λ (x : Entry). IsReachedBy (length control) since x.stamp) (λ (x : Entry). IsFalse (is_later x.stamp e.stamp))
          (λ x r. subst (λ s. IsFalse (is_later x.stamp s)) (sym stamp) (before_access (length control) since x.stamp r)) journal k.reached);
      counted = Each-push IsCounted journal e k.counted (
          stamp ∙ (λ i. record { number = counted_is i; count = k.since i + 1 })
          ∙ sym (ap (λ b. if b then first else other) access));
      short = All-push (λ (x : Entry). IsShort x.reply) journal e k.short short;
      commands = k.commands ∙ sym (commands-push journal e ∙ ap (λ b. commands ++ (if b then e ∷ [] else [])) access ∙ append-nil commands);
      count = commands_in-push journal e ∙ ap (λ b. commands_in journal + (if b then 1 else 0)) access ∙ add-zero (commands_in journal) ∙ k.count;
      effects_are = k.effects_are ∙ sym past;
      changes = λ h. k.changes h ∙ sym (fold_push (moved h) 0 journal e ∙ ap (λ es. if list_any (moves h) es then changes_of h journal + 1 else changes_of h journal) none);
      since = ap (λ n. n + 1) k.since ∙ sym (since-push journal e ∙ ap (λ b. if b then 0 else since_now + 1) access);
      few = omega (arith, k.few, ap length one_more, length-append (accesses_of journal) (e ∷ []));
      reached = All-push (λ (x : Entry). IsReachedBy (length control) (since + 1) x.stamp) journal e
          (All-weaker (λ (x : Entry). IsReachedBy (length control) since x.stamp) (λ (x : Entry). IsReachedBy (length control) (since + 1) x.stamp) (λ x r. reached_access (length control) since x.stamp r) journal k.reached)
          (subst (IsReachedBy (length control) (since + 1)) (sym stamp) (record { below = omega arith; count = λ same. omega arith }));
      granules = stay ∙ k.granules;
      words = words_stored c journal m new e none words k.words;
    }
      where
        counted_is : length control ≡ commands_in journal
        counted_is = sym k.count

        since_now : ℕ
        since_now = fold (λ n (x : Entry). if is_control x.act then 0 else n + 1) 0 journal

        first : Stamp
        first = record { number = commands_in journal + 1; count = 0 }

        other : Stamp
        other = record { number = commands_in journal; count = since_now + 1 }

        commands : List Entry
        commands = filter (λ (x : Entry). is_control x.act) journal

        one_more : accesses_of (journal ++ e ∷ []) ≡ accesses_of journal ++ e ∷ []
        one_more = accesses-push journal e ∙ ap (λ b. accesses_of journal ++ (if not b then e ∷ [] else [])) access

        past : effects (journal ++ e ∷ []) ≡ effects journal
        past = effects_stay journal e none

        moved : HostId → ℕ → Entry → ℕ
        moved h n x = if list_any (moves h) x.effects then n + 1 else n

  module _ (pass line : ℕ) (h : HostId) (d : ℕ) (host : h < c.hosts) where
    pub keeps_load : IfOk (locate c h d) (λ (p : Place). p.granule < granule_total c) → (e : Entry) → e ≡ access_entry pass line h (Act.Load d) (load_said (word_from m (granted_place c (effects control) h d))) (record { number = length control; count = since + 1 }) →
        Keeps c control m (journal ++ e ∷ []) (since + 1)
    keeps_load inside e is = subst (λ x. Keeps c control m (journal ++ x ∷ []) (since + 1)) (sym is) (
        keeps_access loaded (record { allowed = lt-ltb h c.hosts host; reply = ap (λ es. load_said (word_from m (granted_place c es h d))) k.effects_are ∙ load_right c journal h m k.words d (locate c h d) inside; effects = refl })
        refl refl (told (word_from m (granted_place c (effects control) h d))) refl m refl (λ g w below. refl))
      where
        loaded : Entry
        loaded = access_entry pass line h (Act.Load d) (load_said (word_from m (granted_place c (effects control) h d))) (record { number = length control; count = since + 1 })

        told : (r : Result ℕ AccessFault) → IsShort (load_said r)
        told (Ok word) = tt
        told (Err fault) = tt

    pub keeps_store : (value : ℕ) (new : Stored) → StoresAt m new (granted_place c (effects control) h d) value → length new ≡ length m →
        (e : Entry) → e ≡ access_entry pass line h (Act.Store d value) (store_said (granted_place c (effects control) h d)) (record { number = length control; count = since + 1 }) →
        Keeps c control new (journal ++ e ∷ []) (since + 1)
    keeps_store value new stores stay e is = subst (λ x. Keeps c control new (journal ++ x ∷ []) (since + 1)) (sym is) (
        keeps_access stored (record { allowed = lt-ltb h c.hosts host; reply = ap (λ es. store_said (granted_place c es h d)) k.effects_are ∙ store_right c journal h d value (locate c h d); effects = refl })
        refl refl (told (granted_place c (effects control) h d)) refl new stay (λ g w below. stores g w ∙ written c (effects control) h d value g w (word_kept m g w) (locate c h d) refl))
      where
        stored : Entry
        stored = access_entry pass line h (Act.Store d value) (store_said (granted_place c (effects control) h d)) (record { number = length control; count = since + 1 })

        told : (r : Result Place AccessFault) → IsShort (store_said r)
        told (Ok p) = tt
        told (Err fault) = tt
