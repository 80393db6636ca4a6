-- The entries of a merge, by the control and the shards that they come from.
use Rattle.std.proofs.Common.{◌≡◌, ◌≢◌, ℕ, Bool, true, false, not, ◌||◌, ◌==◌, List, [], ◌∷◌, ◌++◌, sym, ap, ◌∙◌, subst, append-nil, eq-eqb, ne_eqb}
use Rattle.std.proofs.lemmas.List.Elements.{All-append, All-filter, All-nil, All-weaker, filter-append}
use Rattle.std.specs.{List.filter, Prelude.flat_map, Prelude.All}
use mathlib.Core.Option.{some}
use lib.ListN.{get_elem?}
use Rattle.journal_core.proofs.{EachPlaces.Each-all, Filters.all_flat, Filters.filter_empty, Filters.filter_flat, Filters.filter_whole}
use Rattle.journal_core.{proofs.MergedFilters.merged-all, proofs.MergedFilters.merged-filter, proofs.MergedFilters.merged-shard, proofs.Splits.all_both, specs.Entries.is_control, specs.Merging.merged}
use Rattle.journal_core.specs.declared.entries.Entry.{Entry}
use Rattle.region_config.specs.Configurations.{Configuration}
use Rattle.ruled_cells.specs.Stamps.{IsControlLog}
use Rattle.shard_laws.proofs.{ControlLogs.IsAccessEntry, ControlLogs.control_only, ControlLogs.merged_accesses, LeftOut.no_effects, LeftOut.not_both}
use Rattle.shard_laws.specs.{Belonging.shard_in, Lawful.AreShardLogs, Lawful.IsShardLog, Right.AccessMeets}

-- an entry of the control or of shard k
abbrev pub is_of : Configuration → ℕ → Entry → Bool
is_of c k e = is_control e.act || (shard_in c e == k)

abbrev is_load_or_store : Entry → Bool
is_load_or_store e = not (is_control e.act)

abbrev IsPlain : Entry → Type 0
IsPlain e = e.effects ≡ []

module _ (c : Configuration) (control : List Entry) (log : IsControlLog control) where
  -- ---- one shard

  accesses_of_part : (k : ℕ) (entries : List Entry) → IsShardLog c control k entries → filter is_load_or_store (merged control (entries ∷ [])) ≡ entries
  accesses_of_part k entries part =
      merged-filter is_load_or_store control (entries ∷ []) [] (entries ∷ []) (
      filter-append is_load_or_store control (entries ++ [])
      ∙ (λ i. filter_empty is_load_or_store control (All-weaker (λ (e : Entry). is_control e.act ≡ true) (λ (e : Entry). is_load_or_store e ≡ false) (λ e is. ap not is) control (control_only control log)) i
      ++ filter_whole is_load_or_store (entries ++ [])
      (All-append (λ (e : Entry). is_load_or_store e ≡ true) entries [] (All-weaker IsAccessEntry (λ (e : Entry). is_load_or_store e ≡ true) (λ e is. ap not is) entries part.access) (All-nil (λ (e : Entry). is_load_or_store e ≡ true))) i))
      ∙ merged-shard entries part.rising

  -- a load or a store that meets what is asked has no effects
  plain_part : (k : ℕ) (entries : List Entry) → IsShardLog c control k entries → All IsPlain entries
  plain_part k entries part =
      All-weaker (λ (e : Entry). (IsAccessEntry e → IsPlain e) × IsAccessEntry e) IsPlain (λ e both. both.0 both.1) entries
      (all_both (λ (e : Entry). IsAccessEntry e → IsPlain e) IsAccessEntry entries
      (subst (All (λ (e : Entry). IsAccessEntry e → IsPlain e)) (accesses_of_part k entries part)
      (All-filter is_load_or_store (λ (e : Entry). IsAccessEntry e → IsPlain e) (merged control (entries ∷ []))
      (Each-all (AccessMeets c) (λ (e : Entry). IsAccessEntry e → IsPlain e)
      (λ a e meets access. let m = meets access in m.effects ∙ no_effects c a e.actor e.act access m.allowed) (merged control (entries ∷ [])) part.meets)))
      part.access)

  -- ---- all of them

  module _ (shards : List (List Entry)) (parts : AreShardLogs c control shards) where
    pub all_accesses : All IsAccessEntry (flat_map (λ shard. shard) shards)
    all_accesses = all_flat IsAccessEntry shards (λ k entries at. (parts k entries at).access)

    -- no load or store of the merge has effects
    pub plain_accesses : All (λ (e : Entry). IsAccessEntry e → IsPlain e) (merged control shards)
    plain_accesses = merged_accesses IsPlain control shards log (all_flat IsPlain shards (λ k entries at. plain_part k entries (parts k entries at)))

    -- with the loads and stores of one shard alone
    pub part_of_merged : (k : ℕ) (own : List Entry) → get_elem? shards k ≡ some own → filter (is_of c k) (merged control shards) ≡ merged control (own ∷ [])
    part_of_merged k own at =
        merged-filter (is_of c k) control shards control (own ∷ []) (
        filter-append (is_of c k) control (flat_map (λ shard. shard) shards)
        ∙ (λ i. filter_whole (is_of c k) control (All-weaker (λ (e : Entry). is_control e.act ≡ true) (λ (e : Entry). is_of c k e ≡ true) (λ e is. ap (λ b. b || (shard_in c e == k)) is) control (control_only control log)) i
        ++ filter_flat (is_of c k) shards k own at others all_own i)
        ∙ ap (λ es. control ++ es) (sym (append-nil own)))
      where
        others : (j : ℕ) (entries : List Entry) → j ≢ k → get_elem? shards j ≡ some entries → All (λ (e : Entry). is_of c k e ≡ false) entries
        others j entries ne there =
            All-weaker (λ (e : Entry). IsAccessEntry e × (shard_in c e ≡ j)) (λ (e : Entry). is_of c k e ≡ false)
            (λ e h. ap (λ b. b || (shard_in c e == k)) h.0 ∙ ne_eqb (shard_in c e) k (λ q. ne (sym h.1 ∙ q)))
            entries (all_both IsAccessEntry (λ (e : Entry). shard_in c e ≡ j) entries (parts j entries there).access (parts j entries there).here)

        all_own : All (λ (e : Entry). is_of c k e ≡ true) own
        all_own =
            All-weaker (λ (e : Entry). IsAccessEntry e × (shard_in c e ≡ k)) (λ (e : Entry). is_of c k e ≡ true)
            (λ e h. ap (λ b. b || (shard_in c e == k)) h.0 ∙ eq-eqb (shard_in c e) k h.1)
            own (all_both IsAccessEntry (λ (e : Entry). shard_in c e ≡ k) own (parts k own at).access (parts k own at).here)

    -- a load or a store of it is one of the shard that it belongs to
    abbrev pub HasShard : Entry → Type 0
    HasShard e = IsAccessEntry e → (own : List Entry) × (get_elem? shards (shard_in c e) ≡ some own)

    pub each_has_shard : All HasShard (merged control shards)
    each_has_shard =
        merged-all HasShard control shards
        (All-weaker (λ (e : Entry). is_control e.act ≡ true) HasShard (λ e command access. not_both (is_control e.act) command access) control (control_only control log))
        (all_flat HasShard shards (λ k entries at. All-weaker (λ (e : Entry). shard_in c e ≡ k) HasShard (λ e here access. (entries, ap (get_elem? shards) here ∙ at)) entries (parts k entries at).here))
