-- The lists of one host, each as the effects so far leave it.
use Rattle.std.specs.Prelude.{ℕ, ◌+◌, Bool, true, false, ◌&&◌, not, ◌==◌, List, [], ◌∷◌, ◌++◌, fold, drop, if◌then◌else◌}
use Rattle.std.specs.List.{list_any}
use Rattle.cci_codec.specs.dcd_base.specs.{declared.ids.HostId.HostId, declared.capacity.Extent.Extent, Words.is_empty}
use Rattle.extent_list.specs.{ExtentLists.cut, media_map.specs.Places.start_of, media_map.specs.Places.bytes_of_run, media_map.specs.region_config.specs.Configurations.Configuration}
use Rattle.extent_list.specs.media_map.specs.region_config.specs.Granules.{region_spec}
use Rattle.journal_core.specs.declared.{outcome.HeldKind.HeldKind, outcome.Effect.Effect, entries.Entry.Entry}

-- an offer joins the last, and an answer takes the first away
abbrev pub offers_after : HostId → List (List Extent) → Effect → List (List Extent)
offers_after h offers (Effect.Offer k xs) = if k == h then offers ++ xs ∷ [] else offers
offers_after h offers (Effect.Answer k xs) = if k == h then drop 1 offers else offers
offers_after h offers e = offers

-- the unanswered offers, oldest first
abbrev pub offers_of : HostId → List Effect → List (List Extent)
offers_of h past = fold (offers_after h) [] past

-- an answer joins what it lists, and a leave cuts its run out
abbrev pub accepted_after : Configuration → HostId → List Extent → Effect → List Extent
accepted_after c h accepted (Effect.Answer k xs) = if k == h then accepted ++ xs else accepted
accepted_after c h accepted (Effect.Leave k run) = if k == h then cut (start_of c h run) (bytes_of_run c run) accepted else accepted
accepted_after c h accepted e = accepted

-- the accepted extents
abbrev pub accepted_of : Configuration → HostId → List Effect → List Extent
accepted_of c h past = fold (accepted_after c h) [] past

-- whether the effect changes the accepted list
abbrev pub moves : HostId → Effect → Bool
moves h (Effect.Answer k xs) = (k == h) && not (is_empty xs)
moves h (Effect.Leave k run) = k == h
moves h e = false

-- how often the accepted list has changed, an entry counting once
abbrev pub changes_of : HostId → List Entry → ℕ
changes_of h journal = fold (λ n (e : Entry). if list_any (moves h) e.effects then n + 1 else n) 0 journal

abbrev pub same_kind : HeldKind → HeldKind → Bool
same_kind HeldKind.Responses HeldKind.Responses = true
same_kind HeldKind.Releases HeldKind.Releases = true
same_kind HeldKind.Responses HeldKind.Releases = false
same_kind HeldKind.Releases HeldKind.Responses = false

-- More extents join the held list of their kind, and a response or release ends it
abbrev pub held_after : HostId → HeldKind → List Extent → Effect → List Extent
held_after h kind held (Effect.Hold k other xs) = if (k == h) && same_kind other kind then held ++ xs else held
held_after h kind held (Effect.Unhold k other) = if (k == h) && same_kind other kind then [] else held
held_after h kind held e = held

-- the extents that the host has listed with More and not yet ended
abbrev pub held_of : HostId → HeldKind → List Effect → List Extent
held_of h kind past = fold (held_after h kind) [] past

abbrev pub block_after : ℕ → ℕ → Effect → ℕ
block_after r size (Effect.Block s new) = if s == r then new else size
block_after r size e = size

-- the block size of the region
abbrev pub block_of : Configuration → ℕ → List Effect → ℕ
block_of c r past = fold (block_after r) (region_spec c r).block past
