-- A filter of a merge, and what all its entries are.
use Rattle.std.proofs.{Common.◌≡◌, Common.Bool, Common.List, Common.[], Common.◌∷◌, Common.◌++◌, Common.ap, Common.◌∙◌, lemmas.List.Elements.All-append, lemmas.List.Kept.AllPairs-filter}
use Rattle.std.specs.{List.filter, Prelude.flat_map, Prelude.All, Prelude.IsFalse}
use Rattle.journal_core.proofs.{Filters.filter_swapped, Inserting.in_order_before_none, Merges.merged-once, Merges.merged-rising, Merges.merged-ties, Pushing.all_in_order}
use Rattle.journal_core.specs.{Merging.Rising, Merging.has_stamp, Merging.is_later, Merging.merged, declared.entries.Entry.Entry}

-- a filter of a merge is the merge of the filtered lists
pub merged-filter : (p : Entry → Bool) (control : List Entry) (shards : List (List Entry)) (kept : List Entry) (parts : List (List Entry)) →
    filter p (control ++ flat_map (λ shard. shard) shards) ≡ kept ++ flat_map (λ shard. shard) parts → filter p (merged control shards) ≡ merged kept parts
merged-filter p control shards kept parts is =
    merged-once (filter p (merged control shards)) kept parts
    (AllPairs-filter (λ (e f : Entry). IsFalse (is_later e.stamp f.stamp)) p (merged control shards) (merged-rising control shards))
    (λ s. filter_swapped (has_stamp s) p (merged control shards)
    ∙ ap (filter p) (merged-ties control shards s)
    ∙ filter_swapped p (has_stamp s) (control ++ flat_map (λ shard. shard) shards)
    ∙ ap (filter (has_stamp s)) is)

-- one list that rises, alone and in the place of a shard
pub merged-alone : (control : List Entry) → Rising control → merged control [] ≡ control
merged-alone control up = in_order_before_none control up

pub merged-shard : (shard : List Entry) → Rising shard → merged [] (shard ∷ []) ≡ shard
merged-shard shard up = in_order_before_none shard up

-- what all lists are, the merge is
pub merged-all : (P : Entry → Type 0) (control : List Entry) (shards : List (List Entry)) → All P control → All P (flat_map (λ shard. shard) shards) → All P (merged control shards)
merged-all P control shards first rest =
    all_in_order P (control ++ flat_map (λ shard. shard) shards) (All-append P control (flat_map (λ shard. shard) shards) first rest)
