-- What the journal of a device that was taken apart is for who prints it.
use Rattle.std.proofs.Common.{◌≡◌, inl, inr, ℕ, Bool, true, false, cond, List, [], ◌∷◌, refl, sym, ap, ◌∙◌, subst}
use Rattle.std.proofs.lemmas.{Bool.cases_Bool, List.Elements.All-cons, List.Elements.All-head, List.Elements.All-nil, List.Elements.All-tail, List.Elements.All-weaker, List.Kept.AllPairs-filter}
use Rattle.std.specs.{List.filter, Prelude.All, Prelude.IsFalse, Prelude.IsTrue, declared.result.Result.Result, declared.result.Result.TheVariants.Ok, declared.result.Result.TheVariants.Err}
use Rattle.control_core.specs.Deciding.{AreShort, IsShort}
use Rattle.control_core.specs.device_rules.specs.Legal.{Legal, Meets, access_at, granted_reply, right_answer}
use Rattle.dcd_base.specs.declared.{failures.AccessFault.AccessFault, ids.HostId.HostId, media.Place.Place, steps.Actor.Actor}
use Rattle.block_shard.specs.journal_core.proofs.{EachPlaces.Each-all, Filters.filter_dropped, Filters.filter_kept, Splits.all_both}
use Rattle.block_shard.specs.journal_core.specs.{Entries.effects, Entries.fits, Entries.is_control, Holders.holds, Merging.Numbered, Merging.Rising, Merging.is_later, Merging.merged}
use Rattle.block_shard.specs.journal_core.specs.declared.{acts.Act.Act, acts.Reply.Reply, entries.Entry.Entry}
use Rattle.block_shard.specs.shard_laws.proofs.LeftOut.{effects_kept, no_effects, not_both}
use Rattle.media_map.specs.Places.{locate}
use Rattle.region_config.specs.Configurations.{Configuration}

-- what all that a filter keeps are, all that pass it are
of_kept : {X : Type 0} (p : X → Bool) (P : X → Type 0) (xs : List X) → All P (filter p xs) → All (λ x. p x ≡ true → P x) xs
of_kept p P [] all = All-nil (λ x. p x ≡ true → P x)
of_kept p P (x ∷ xs) all =
    elim (cases_Bool (p x)) [
      | inl passes ↦
          let kept = subst (All P) (filter_kept p x xs passes) all in
          All-cons (λ x. p x ≡ true → P x) x xs (λ is. All-head P x (filter p xs) kept) (of_kept p P xs (All-tail P x (filter p xs) kept))
      | inr fails ↦ All-cons (λ x. p x ≡ true → P x) x xs (λ is. not_both (p x) is fails) (of_kept p P xs (subst (All P) (filter_dropped p x xs fails) all))
    ]

-- ---- replies to loads and stores

module _ (c : Configuration) (before : List Entry) (h : HostId) where
  load_short : (d : ℕ) (at : Result Place AccessFault) → IsShort (access_at c before h (Act.Load d) at)
  load_short d (Err fault) = tt
  load_short d (Ok p) = by (holds h p.granule (effects before))
    where
      by : (b : Bool) → IsShort (cond b (granted_reply c before p (Act.Load d)) (Reply.Refused AccessFault.NotGranted))
      by true = tt
      by false = tt

  store_short : (d value : ℕ) (at : Result Place AccessFault) → IsShort (access_at c before h (Act.Store d value) at)
  store_short d value (Err fault) = tt
  store_short d value (Ok p) = by (holds h p.granule (effects before))
    where
      by : (b : Bool) → IsShort (cond b (granted_reply c before p (Act.Store d value)) (Reply.Refused AccessFault.NotGranted))
      by true = tt
      by false = tt

access_short : (c : Configuration) (before : List Entry) (actor : Actor) (act : Act) → is_control act ≡ false → IsTrue (fits c.hosts actor act) → IsShort (right_answer c before actor act).0
access_short c before (Actor.Host h) (Act.Load d) is may = load_short c before h d (locate c h d)
access_short c before (Actor.Host h) (Act.Store d value) is may = store_short c before h d value (locate c h d)
access_short c before (Actor.Host h) (Act.Command q) is may = not_both (is_control (Act.Command q)) refl is
access_short c before (Actor.Host h) (Act.Scrub n) is may = not_both (is_control (Act.Scrub n)) refl is
access_short c before Actor.Manager (Act.Load d) is may = not_both false may refl
access_short c before Actor.Manager (Act.Store d value) is may = not_both false may refl
access_short c before Actor.Manager (Act.Command q) is may = not_both (is_control (Act.Command q)) refl is
access_short c before Actor.Manager (Act.Scrub n) is may = not_both (is_control (Act.Scrub n)) refl is
access_short c before Actor.Sanitizer (Act.Load d) is may = not_both false may refl
access_short c before Actor.Sanitizer (Act.Store d value) is may = not_both false may refl
access_short c before Actor.Sanitizer (Act.Command q) is may = not_both (is_control (Act.Command q)) refl is
access_short c before Actor.Sanitizer (Act.Scrub n) is may = not_both (is_control (Act.Scrub n)) refl is

-- ---- the journal

module _ (c : Configuration) (control : List Entry) (shards : List (List Entry)) where
  abbrev journal : List Entry
  journal = merged control shards

  module _ (commands : filter (λ (e : Entry). is_control e.act) journal ≡ control) where
    pub commands_rise : Numbered journal → Rising control
    commands_rise numbered = subst Rising commands (AllPairs-filter (λ (e f : Entry). IsFalse (is_later e.stamp f.stamp)) (λ (e : Entry). is_control e.act) journal numbered.rising)

    module _ (legal : Legal c journal) where
      -- loads and stores have no effects
      pub same_effects : effects control ≡ effects journal
      same_effects =
          ap effects (sym commands)
          ∙ effects_kept (λ (e : Entry). is_control e.act) journal
          (Each-all (Meets c) (λ (e : Entry). is_control e.act ≡ false → e.effects ≡ []) (λ a e meets access. meets.effects ∙ no_effects c a e.actor e.act access meets.allowed) journal legal)

      -- and no payload
      pub all_short : AreShort control → AreShort journal
      all_short short =
          All-weaker (λ (e : Entry). (is_control e.act ≡ true → IsShort e.reply) × (is_control e.act ≡ false → IsShort e.reply)) (λ (e : Entry). IsShort e.reply)
          (λ e both. elim (cases_Bool (is_control e.act)) [
            | inl command ↦ both.0 command
            | inr access ↦ both.1 access
          ]) journal
          (all_both (λ (e : Entry). is_control e.act ≡ true → IsShort e.reply) (λ (e : Entry). is_control e.act ≡ false → IsShort e.reply) journal
          (of_kept (λ (e : Entry). is_control e.act) (λ (e : Entry). IsShort e.reply) journal (subst AreShort (sym commands) short))
          (Each-all (Meets c) (λ (e : Entry). is_control e.act ≡ false → IsShort e.reply)
          (λ a e meets access. subst IsShort (sym meets.reply) (access_short c a e.actor e.act access meets.allowed)) journal legal))
