-- The merge of the control and the shards is numbered.
use Rattle.std.proofs.Common.{◌≡◌, inl, inr, ℕ, ◌+◌, ◌<◌, ◌≤◌, true, false, cond, ◌&&◌, ◌==◌, List, [], ◌∷◌, ◌++◌, length, sym, ap, ◌∙◌, subst, length-append, eq-eqb, leb, arith}
use Rattle.std.proofs.lemmas.{Bool.and_from, Bool.cases_Bool, Bool.cases_order, Bool.le-leb, Bool.Decides.nat_tests, List.Elements.All-filter, List.Elements.All-weaker, List.Elements.filter-append}
use Rattle.std.{proofs.lemmas.List.Sums.length-filter, specs.List.filter, specs.Prelude.All, specs.Prelude.IsFalse}
use mathlib.Core.Option.{some}
use lib.ListN.{get_elem?}
use Rattle.dcd_base.specs.declared.steps.Stamp.{Stamp}
use Rattle.journal_core.proofs.{EachPlaces.Each-from_places, Filters.all_flat, Merges.merged-rising}
use Rattle.journal_core.proofs.Splits.{all_at, all_behind, all_both, at_in_front, at_length, at_some, pairs_before, pairs_behind}
use Rattle.journal_core.specs.{Entries.is_control, Merging.IsStamped, Merging.Numbered, Merging.Rising, Merging.commands_in, Merging.is_later, Merging.merged, declared.entries.Entry.Entry}
use Rattle.region_config.specs.Configurations.{Configuration}
use Rattle.ruled_cells.specs.Stamps.{IsControlLog, stamp}
use Rattle.shard_laws.{specs.Lawful.AreShardLogs, proofs.ControlLogs.IsAccessEntry, proofs.ControlLogs.control_of_merged, proofs.ControlLogs.merged_accesses, proofs.ShardParts.all_accesses}

-- a command or a scrub that is not later than an access is not above it
at_most : (s t : Stamp) (k : ℕ) → s ≡ stamp (k + 1) 0 → IsFalse (is_later s t) → k + 1 ≤ t.number
at_most s t k is low = grind (arith, nat_tests)

above : (s t : Stamp) (k : ℕ) → s ≡ stamp (k + 1) 0 → 1 ≤ t.count → IsFalse (is_later t s) → t.number < k + 1
above s t k is counted low = grind (arith, nat_tests)

-- The journal of the control is cut where a number ends: it has so many entries before the cut.
abbrev EndsBy : ℕ → Entry → Type 0
EndsBy n x = (k : ℕ) → x.stamp ≡ stamp (k + 1) 0 → k + 1 ≤ n

abbrev StartsAbove : ℕ → Entry → Type 0
StartsAbove n x = (k : ℕ) → x.stamp ≡ stamp (k + 1) 0 → n < k + 1

cut_at : (a b : List Entry) (n : ℕ) → IsControlLog (a ++ b) → n ≤ length (a ++ b) → All (EndsBy n) a → All (StartsAbove n) b → length a ≡ n
cut_at a b n log low before behind =
    elim (cases_order (length a) n) [
      | inl same ↦ same
      | inr other ↦ elim other [
        | inl short ↦ let e = at_some b 0 (let l = length-append a b in omega (arith, l, low, short)) in
            let at : get_elem? (a ++ b) (length a) ≡ some e.0 = first_behind a b e.0 e.1 in
            let more = all_at (StartsAbove n) b 0 e.0 e.1 behind (length a) (log (length a) e.0 at).0 in absurd (omega (arith, more, short))
        | inr long ↦ let e = at_some a n long in
            let less = all_at (EndsBy n) a n e.0 e.1 before n (log n e.0 (at_in_front a b n long ∙ e.1)).0 in absurd (omega (arith, less))
      ]
    ]
  where
    first_behind : (a b : List Entry) (e : Entry) → get_elem? b 0 ≡ some e → get_elem? (a ++ b) (length a) ≡ some e
    first_behind [] b e at = at
    first_behind (x ∷ a) b e at = first_behind a b e at

abbrev commands : List Entry → List Entry
commands journal = filter (λ (e : Entry). is_control e.act) journal

abbrev NotBefore : Entry → Entry → Type 0
NotBefore x y = IsFalse (is_later x.stamp y.stamp)

module _ (c : Configuration) (control : List Entry) (shards : List (List Entry)) (log : IsControlLog control) (parts : AreShardLogs c control shards) where
  abbrev IsLow : Entry → Type 0
  IsLow e = (e.stamp.number ≤ length control) × (1 ≤ e.stamp.count)

  low : All (λ (e : Entry). IsAccessEntry e → IsLow e) (merged control shards)
  low = merged_accesses IsLow control shards log (all_flat IsLow shards (λ k entries at.
      all_both (λ (e : Entry). e.stamp.number ≤ length control) (λ (e : Entry). 1 ≤ e.stamp.count) entries (parts k entries at).low (parts k entries at).counted))

  counted : (a : List Entry) → length (commands a) ≡ commands_in a
  counted a = length-filter (λ (e : Entry). is_control e.act) a

  cut : (a : List Entry) (e : Entry) (b : List Entry) → merged control shards ≡ a ++ e ∷ b → commands a ++ commands (e ∷ b) ≡ control
  cut a e b is =
      sym (filter-append (λ (x : Entry). is_control x.act) a (e ∷ b)) ∙ sym (ap commands is)
      ∙ control_of_merged control shards log (all_accesses c control log shards parts)

  stamped_command : (a : List Entry) (e : Entry) (b : List Entry) → merged control shards ≡ a ++ e ∷ b → is_control e.act ≡ true → IsStamped a e
  stamped_command a e b is command =
      let at : e.stamp ≡ stamp (length (commands a) + 1) 0 = (log (length (commands a)) e (
      ap (λ l. get_elem? l (length (commands a))) (sym (cut a e b is) ∙ ap (λ l. commands a ++ l) (ap (λ z. cond z (e ∷ commands b) (commands b)) command))
      ∙ at_length (commands a) e (commands b))).0 in
      let now : e.stamp ≡ stamp (commands_in a + 1) 0 = at ∙ ap (λ n. stamp (n + 1) 0) (counted a) in
      ap (λ z. cond z ((e.stamp.number == commands_in a + 1) && (e.stamp.count == 0)) ((e.stamp.number == commands_in a) && leb 1 e.stamp.count)) command
      ∙ and_from (e.stamp.number == commands_in a + 1) (e.stamp.count == 0) (eq-eqb e.stamp.number (commands_in a + 1) (ap (λ (s : Stamp). s.number) now)) (eq-eqb e.stamp.count 0 (ap (λ (s : Stamp). s.count) now))

  stamped_access : (a : List Entry) (e : Entry) (b : List Entry) → merged control shards ≡ a ++ e ∷ b → is_control e.act ≡ false → IsStamped a e
  stamped_access a e b is access =
      let up = subst (λ l. Rising l) is (merged-rising control shards) in
      let own = all_behind (λ (x : Entry). IsAccessEntry x → IsLow x) a (e ∷ b) (subst (All (λ (x : Entry). IsAccessEntry x → IsLow x)) is low) 0 e (omega arith) access in
      let whole : commands a ++ commands b ≡ control = ap (λ l. commands a ++ l) (sym (ap (λ z. cond z (e ∷ commands b) (commands b)) access)) ∙ cut a e b is in
      let now : length (commands a) ≡ e.stamp.number = cut_at (commands a) (commands b) e.stamp.number (subst (λ l. IsControlLog l) (sym whole) log) (subst (λ l. e.stamp.number ≤ length l) (sym whole) own.0)
      (All-weaker (λ (x : Entry). NotBefore x e) (EndsBy e.stamp.number) (λ x h k s. at_most x.stamp e.stamp k s h) (commands a)
      (All-filter (λ (x : Entry). is_control x.act) (λ (x : Entry). NotBefore x e) a (pairs_before NotBefore a e b up)))
      (All-weaker (NotBefore e) (StartsAbove e.stamp.number) (λ x h k s. above x.stamp e.stamp k s own.1 h) (commands b)
      (All-filter (λ (x : Entry). is_control x.act) (NotBefore e) b (pairs_behind NotBefore a e b up))) in
      ap (λ z. cond z ((e.stamp.number == commands_in a + 1) && (e.stamp.count == 0)) ((e.stamp.number == commands_in a) && leb 1 e.stamp.count)) access
      ∙ and_from (e.stamp.number == commands_in a) (leb 1 e.stamp.count) (eq-eqb e.stamp.number (commands_in a) (sym now ∙ counted a)) (le-leb 1 e.stamp.count own.1)

  pub merged_numbered : Numbered (merged control shards)
  merged_numbered = record {
    stamped = Each-from_places IsStamped (merged control shards) (λ a e b is. elim (cases_Bool (is_control e.act)) [
      | inl command ↦ stamped_command a e b is command
      | inr access ↦ stamped_access a e b is access
    ]);
    rising = merged-rising control shards;
  }
