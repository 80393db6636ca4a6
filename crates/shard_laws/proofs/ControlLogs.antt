-- The journal of a control, and the merge of it and of lists of loads and stores.
use Rattle.std.proofs.Common.{◌≡◌, ℕ, suc, ◌+◌, true, false, List, [], ◌∷◌, ◌++◌, length, refl, sym, ap, ◌∙◌, arith}
use Rattle.std.proofs.lemmas.List.{Elements.All-append, Elements.All-nil, Elements.All-weaker, Elements.filter-append, Kept.AllPairs-cons}
use Rattle.std.specs.{List.filter, Prelude.flat_map, Prelude.All, Prelude.IsFalse}
use mathlib.Core.Option.{some}
use lib.ListN.{get_elem?}
use Rattle.dcd_base.specs.declared.steps.Stamp.{Stamp}
use Rattle.journal_core.proofs.{Filters.filter_empty, Filters.filter_whole, MergedFilters.merged-all, MergedFilters.merged-alone, MergedFilters.merged-filter}
use Rattle.journal_core.{proofs.Splits.all_from_places, proofs.Splits.at_length, proofs.Splits.pairs_before, specs.Entries.effects, specs.Entries.is_control}
use Rattle.journal_core.specs.{Merging.Rising, Merging.is_later, Merging.merged, declared.entries.Entry.Entry}
use Rattle.ruled_cells.specs.Stamps.{IsControlLog, stamp}
use Rattle.shard_laws.proofs.LeftOut.{effects_kept, not_both}

-- ---- the journal of a control

not_after : (e f : Stamp) (n m k : ℕ) → e ≡ stamp n m → f ≡ stamp (n + k) m → IsFalse (is_later e f)
not_after e f n m k p q = (λ i. is_later (p i) (q i)) ∙ later_itself n m k
  where
    later_itself : (n m k : ℕ) → IsFalse (is_later (stamp n m) (stamp (n + k) m))
    later_itself n m k = grind arith

rises_from : (n : ℕ) (log : List Entry) → ((k : ℕ) (e : Entry) → get_elem? log k ≡ some e → e.stamp ≡ stamp (n + k) 0) → Rising log
rises_from n [] at = λ i j d first under. absurd (omega (arith, under))
rises_from n (e ∷ log) at =
    AllPairs-cons (λ (x y : Entry). IsFalse (is_later x.stamp y.stamp)) e log
    (all_from_places (λ (y : Entry). IsFalse (is_later e.stamp y.stamp)) log
    (λ k f is. not_after e.stamp f.stamp (n + 0) 0 (suc k) (at 0 e refl) (at (suc k) f is ∙ ap (λ m. stamp m 0) (omega arith))))
    (rises_from (suc n) log (λ k f is. at (suc k) f is ∙ ap (λ m. stamp m 0) (omega arith)))

pub control_rises : (log : List Entry) → IsControlLog log → Rising log
control_rises log is = rises_from 1 log (λ k e at. (is k e at).0 ∙ ap (λ m. stamp m 0) (omega arith))

pub control_only : (log : List Entry) → IsControlLog log → All (λ (e : Entry). is_control e.act ≡ true) log
control_only log is = all_from_places (λ (e : Entry). is_control e.act ≡ true) log (λ k e at. (is k e at).1)

-- ---- one more entry of it

pub last_of_control : (log : List Entry) (e : Entry) → IsControlLog (log ++ e ∷ []) → (e.stamp ≡ stamp (length log + 1) 0) × (is_control e.act ≡ true)
last_of_control log e is = is (length log) e (at_length log e [])

pub none_later : (log : List Entry) (e : Entry) → IsControlLog (log ++ e ∷ []) → All (λ (f : Entry). IsFalse (is_later f.stamp e.stamp)) log
none_later log e is = pairs_before (λ (x y : Entry). IsFalse (is_later x.stamp y.stamp)) log e [] (control_rises (log ++ e ∷ []) is)

-- ---- the merge

abbrev pub IsAccessEntry : Entry → Type 0
IsAccessEntry e = is_control e.act ≡ false

-- its commands and scrubs are those of the control
pub control_of_merged : (control : List Entry) (shards : List (List Entry)) → IsControlLog control → All IsAccessEntry (flat_map (λ shard. shard) shards) →
    filter (λ (e : Entry). is_control e.act) (merged control shards) ≡ control
control_of_merged control shards log accesses =
    merged-filter (λ (e : Entry). is_control e.act) control shards control [] (
    filter-append (λ (e : Entry). is_control e.act) control (flat_map (λ shard. shard) shards)
    ∙ (λ i. filter_whole (λ (e : Entry). is_control e.act) control (control_only control log) i
    ++ filter_empty (λ (e : Entry). is_control e.act) (flat_map (λ shard. shard) shards) accesses i))
    ∙ merged-alone control (control_rises control log)

-- what is so of the loads and stores of each list is so of those of the merge
pub merged_accesses : (Q : Entry → Type 0) (control : List Entry) (shards : List (List Entry)) → IsControlLog control → All Q (flat_map (λ shard. shard) shards) →
    All (λ (e : Entry). IsAccessEntry e → Q e) (merged control shards)
merged_accesses Q control shards log all =
    merged-all (λ (e : Entry). IsAccessEntry e → Q e) control shards
    (All-weaker (λ (e : Entry). is_control e.act ≡ true) (λ (e : Entry). IsAccessEntry e → Q e) (λ e command access. not_both (is_control e.act) command access) control (control_only control log))
    (All-weaker Q (λ (e : Entry). IsAccessEntry e → Q e) (λ e is access. is) (flat_map (λ shard. shard) shards) all)

-- ---- the merge with one list

pub flat_one : (P : Entry → Type 0) (entries : List Entry) → All P entries → All P (flat_map (λ shard. shard) (entries ∷ []))
flat_one P entries all = All-append P entries [] all (All-nil P)

-- the effects are those of the control
pub effects_of_both : (log entries : List Entry) → IsControlLog log → All IsAccessEntry entries → All (λ (e : Entry). e.effects ≡ []) entries → effects (merged log (entries ∷ [])) ≡ effects log
effects_of_both log entries control accesses plain =
    sym (effects_kept (λ (e : Entry). is_control e.act) (merged log (entries ∷ []))
    (merged_accesses (λ (e : Entry). e.effects ≡ []) log (entries ∷ []) control (flat_one (λ (e : Entry). e.effects ≡ []) entries plain)))
    ∙ ap effects (control_of_merged log (entries ∷ []) control (flat_one IsAccessEntry entries accesses))
