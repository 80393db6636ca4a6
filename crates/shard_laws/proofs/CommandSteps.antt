-- A shard after one more command or scrub, whether it touches the shard or not.
use Rattle.std.proofs.Common.{◌≡◌, inl, ℕ, ◌+◌, ◌<◌, ◌%◌, true, false, List, [], ◌∷◌, ◌++◌, length, sym, ap, ◌∙◌, subst, arith}
use Rattle.std.{proofs.lemmas.List.Elements.All-push, proofs.lemmas.List.Elements.All-weaker, proofs.lemmas.List.Sums.fold_push, specs.List.list_any}
use Rattle.std.specs.Prelude.{fold, All, IsFalse, if◌then◌else◌}
use mathlib.Core.Option.{some}
use lib.ListN.{get_elem?}
use Rattle.dcd_base.specs.{Hosts.has_host, declared.ids.HostId.HostId, declared.steps.Stamp.Stamp}
use Rattle.device_rules.specs.Legal.{is_zeroing, word_after, word_of}
use Rattle.journal_core.proofs.{EachSteps.Each-push, HoldingSteps.holds-append, JournalSteps.effects-push, Pushing.merged-control_last, Splits.all_from_places}
use Rattle.journal_core.specs.{Entries.Each, Entries.effects, Entries.is_control, Holders.holding_after, Holders.holds, Merging.is_later, Merging.merged, declared.entries.Entry.Entry}
use Rattle.region_config.specs.{Configurations.Configuration, Granules.granule_total}
use Rattle.ruled_cells.specs.{Laws.ChangeMakes, Laws.Stays, Stamps.Below, Stamps.IsControlLog}
use Rattle.shard_laws.proofs.{ControlLogs.last_of_control, ControlLogs.none_later, LeftOut.not_both, LeftOut.stores_nothing, NextStamps.later_than, NextStamps.number_low}
use Rattle.shard_laws.{proofs.Untouched.held_still, proofs.Untouched.not_zeroed, specs.Belonging.touches_shard, specs.Changing.ChangedBy}
use Rattle.shard_laws.specs.{Right.AccessMeets, Right.IsRight, Right.IsRightBy, Stripes.Stripe, Stripes.holders_at, Stripes.stripe_word}

-- no command above the clock touches the shard
abbrev QuietAbove : ℕ → Stamp → Entry → Type 0
QuietAbove k clock f = clock.number < f.stamp.number → touches_shard k f ≡ false

-- Holders and words are changed as the effects of the command do, and the next clock leaves none above it that touches.
pushed : (c : Configuration) (k : ℕ) (held held_then : ℕ → ℕ) (word word_then : ℕ → ℕ → ℕ) (entries : List Entry) (clock next : Stamp) (log : List Entry) (e : Entry) → IsControlLog (log ++ e ∷ []) →
    ((j : ℕ) (f : Entry) → get_elem? entries j ≡ some f → ¬ Below clock f.stamp) → Below clock e.stamp → IsRightBy c k held word entries clock log →
    ((g : ℕ) → g < granule_total c → g % 16 ≡ k → (h : HostId) → h < c.hosts → has_host (held_then g) h ≡ fold (holding_after h g) (has_host (held g) h) e.effects) →
    ((g w : ℕ) → g < granule_total c → g % 16 ≡ k → word_then g w ≡ (if list_any (is_zeroing g) e.effects then 0 else word g w)) →
    All (QuietAbove k next) (log ++ e ∷ []) → IsRightBy c k held_then word_then entries next (log ++ e ∷ [])
pushed c k held held_then word word_then entries clock next log e is tidy above r holders words quiet = record {
  accesses = r.accesses;
  plain = r.plain;
  holders = λ g under same h known. holders g under same h known
      ∙ ap (λ b. fold (holding_after h g) b e.effects) (r.holders g under same h known)
      ∙ sym (ap (holds h g) (effects-push log e) ∙ holds-append h g (effects log) e.effects);
  words = λ g w under same. words g w under same
      ∙ ap (λ v. if list_any (is_zeroing g) e.effects then 0 else v) (r.words g w under same ∙ sym (stores_nothing c g w (word_of c (merged log (entries ∷ [])) g w) e.actor e.act e.reply command))
      ∙ sym (ap (λ j. word_of c j g w) more ∙ fold_push (word_after c g w) 0 (merged log (entries ∷ [])) e);
  quiet = quiet;
  meets = subst (Each (AccessMeets c)) (sym more) (Each-push (AccessMeets c) (merged log (entries ∷ [])) e r.meets (λ access. not_both (is_control e.act) command access));
}
  where
    command : is_control e.act ≡ true
    command = (last_of_control log e is).1

    more : merged (log ++ e ∷ []) (entries ∷ []) ≡ merged log (entries ∷ []) ++ e ∷ []
    more = merged-control_last log entries e (none_later log e is)
        (all_from_places (λ (f : Entry). is_later e.stamp f.stamp ≡ true) entries (λ j f at. later_than clock e.stamp f.stamp (tidy j f at) above))

-- the first law
pub stripe_stays : Stays (λ (x : Stripe). x.entries) (λ x. x.clock) touches_shard IsRight
stripe_stays k x log e is tidy low none right =
    let number : e.stamp.number ≡ length log + 1 = ap (λ (s : Stamp). s.number) (last_of_control log e is).0 in (
      right.0,
      pushed x.config k (holders_at x) (holders_at x) (stripe_word x) (stripe_word x) x.entries x.clock x.clock log e is tidy (inl (omega (arith, number, low))) right.1
          (λ g under same h known. sym (held_still k g same h (has_host (holders_at x g) h) e.effects none))
          (λ g w under same. sym (ap (λ b. if b then 0 else stripe_word x g w) (not_zeroed k g same e.effects none)))
          (All-push (QuietAbove k x.clock) log e right.1.quiet (λ _. none)),
    )

-- the third law
pub stripe_makes : ChangeMakes (λ (x : Stripe). x.entries) (λ x. x.clock) IsRight ChangedBy
stripe_makes k x y log e is tidy above does right =
    let own : (g : ℕ) → g % 16 ≡ k → g % 16 ≡ x.index = λ g same. same ∙ sym right.0 in (
      does.index_is ∙ right.0,
      subst (λ (t : Configuration × List Entry × Stamp). IsRightBy t.0 k (holders_at y) (stripe_word y) t.1 t.2 (log ++ e ∷ []))
          (λ i. (sym does.config_is i, sym does.entries_are i, sym does.clock_is i))
          (pushed x.config k (holders_at x) (holders_at y) (stripe_word x) (stripe_word y) x.entries x.clock e.stamp log e is tidy above right.1
          (λ g under same h known. does.holders g under (own g same) h known)
          (λ g w under same. does.words g w under (own g same))
          (All-push (QuietAbove k e.stamp) log e
          (All-weaker (λ (f : Entry). IsFalse (is_later f.stamp e.stamp)) (QuietAbove k e.stamp) (λ f low up. let most = number_low f.stamp e.stamp low in absurd (omega (arith, most, up))) log (none_later log e is))
          (λ up. absurd (omega (arith, up))))),
    )
