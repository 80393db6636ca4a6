-- How the states of granules are kept: by a mark for each, beside the host and the tag that it may name.
use Rattle.std.specs.Prelude.{◌≡◌, ℕ, ◌+◌, ◌<◌, false, List, ◌++◌, take, drop, replicate, length, map, slice_index_or}
use Rattle.memchr.specs.Find.{is_byte}
use Rattle.std.specs.List.{range_with_len}
use Rattle.dcd_base.specs.{Words.zero_tag, declared.capacity.Tag.Tag, declared.media.Run.Run}
use Rattle.granule_map.specs.{StateLists.AreMarked, StateLists.told, declared.states.GranuleState.GranuleState}

-- the items with this one at each granule of the run
abbrev pub with_item : {X : Type 0} → Run → X → List X → List X
with_item run x xs = take run.first xs ++ replicate run.count x ++ drop (run.first + run.count) xs

-- the tags with the one that the state names at each granule of the run; all as they were where it names none
abbrev pub tags_with : Run → GranuleState → List Tag → List Tag
tags_with run (GranuleState.Tagged tag) tags = with_item run tag tags
tags_with run state tags = tags

-- the states of the granules in their order
unfoldable pub states_of : List ℕ → List ℕ → List Tag → List GranuleState
states_of marks hosts tags =
    map (λ g. told (slice_index_or marks g 0) (slice_index_or hosts g 0) (slice_index_or tags g zero_tag)) (range_with_len 0 (length marks))

-- Each granule has a mark, a host and a tag, and the marks are those of the states.
pub record AreKept (marks hosts : List ℕ) (tags : List Tag) : Type 0 where
  pub hosts_long : length hosts ≡ length marks
  pub tags_long : length tags ≡ length marks
  pub marked : AreMarked (states_of marks hosts tags) marks

-- No granule below a number has the mark of a free one, and past the last stands that mark, so it is at most how many there are.
abbrev pub NoneBelow : List ℕ → ℕ → Type 0
NoneBelow marks lowest = (g : ℕ) → g < lowest → is_byte 0 (slice_index_or marks g 0) ≡ false

-- What is kept of each granule, and a number below which none is free.
pub record IsKept (marks hosts : List ℕ) (tags : List Tag) (lowest : ℕ) : Type 0 where
  pub kept : AreKept marks hosts tags
  pub none_below : NoneBelow marks lowest
