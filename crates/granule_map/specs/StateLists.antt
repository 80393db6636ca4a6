-- The states of a device's granules, as a list by number.
use Rattle.std.specs.Prelude.{◌≡◌, ◌^◌, ◌<◌, map, ℕ, ◌+◌, Bool, true, false, ◌==◌, List, ◌++◌, take, drop, replicate, count_by, slice_index_or, find, Option, length, ◌-◌, if◌then◌else◌}
use Rattle.std.specs.List.{range_with_len}
use Rattle.dcd_base.specs.{Words.same_tag, declared.capacity.Tag.Tag, declared.media.Run.Run}
use Rattle.granule_map.specs.declared.states.GranuleState.{GranuleState}

-- the states in the order of the granules, and for how many changes more there is memory
pub record States : Type 0 where
  pub states : List GranuleState
  pub spare : ℕ

abbrev pub is_free_state : GranuleState → Bool
is_free_state GranuleState.Free = true
is_free_state state = false

abbrev pub is_dirty_state : GranuleState → Bool
is_dirty_state GranuleState.Dirty = true
is_dirty_state state = false

-- whether these are one state, of one host or tag
abbrev pub same_state : GranuleState → GranuleState → Bool
same_state GranuleState.Free GranuleState.Free = true
same_state (GranuleState.Reserved h) (GranuleState.Reserved k) = h == k
same_state (GranuleState.Held h) (GranuleState.Held k) = h == k
same_state (GranuleState.Tagged t) (GranuleState.Tagged u) = same_tag t u
same_state GranuleState.Dirty GranuleState.Dirty = true
same_state a b = false

-- a granule by its number; past the last one it is neither free nor dirty
abbrev pub is_free_at : List GranuleState → ℕ → Bool
is_free_at states g = is_free_state (slice_index_or states g GranuleState.Dirty)

abbrev pub is_dirty_at : List GranuleState → ℕ → Bool
is_dirty_at states g = is_dirty_state (slice_index_or states g GranuleState.Free)

-- a mark for each state: 0 says free, 1 that it is offered to a host, 2 that a host holds it, 3 that a tag has it, 4 dirty
abbrev pub mark_of : GranuleState → ℕ
mark_of GranuleState.Free = 0
mark_of (GranuleState.Reserved h) = 1
mark_of (GranuleState.Held h) = 2
mark_of (GranuleState.Tagged t) = 3
mark_of GranuleState.Dirty = 4

-- the number of the host that a state names, or 0
abbrev pub host_of : GranuleState → ℕ
host_of (GranuleState.Reserved h) = h
host_of (GranuleState.Held h) = h
host_of state = 0

-- the state by its mark, which says whether the host or the tag counts
abbrev pub told : ℕ → ℕ → Tag → GranuleState
told mark host tag =
    if mark == 0 then GranuleState.Free else
    if mark == 1 then GranuleState.Reserved host else
    if mark == 2 then GranuleState.Held host else
    if mark == 3 then GranuleState.Tagged tag else
    GranuleState.Dirty

-- fewer than 2 ^ 32 states, and the mark of each
pub record AreMarked (states : List GranuleState) (marks : List ℕ) : Type 0 where
  pub few : length states < 2 ^ 32
  pub marked : marks ≡ map mark_of states

-- the states with this one at each granule of the run
abbrev pub with_run : List GranuleState → Run → GranuleState → List GranuleState
with_run states run state = take run.first states ++ replicate run.count state ++ drop (run.first + run.count) states

-- the states of the granules of a run
abbrev pub part_of : List GranuleState → Run → List GranuleState
part_of states run = take run.count (drop run.first states)

-- how many granules are in the state
abbrev pub count_of : List GranuleState → GranuleState → ℕ
count_of states state = count_by (same_state state) states

-- the lowest dirty granule from a number on
abbrev pub dirty_from : List GranuleState → ℕ → Option ℕ
dirty_from states from = find (is_dirty_at states) (range_with_len from (length states - from))
