-- Runs that leave a host one after another.
use Rattle.std.specs.{Prelude.◌≡◌, Prelude.true, Prelude.List, Prelude.[], Prelude.◌∷◌, Prelude.find, Prelude.flat_map, Prelude.option_to_list, List.list_all}
use Rattle.cci_codec.specs.dcd_base.specs.{Words.same_tag, Words.zero_tag, declared.capacity.Extent.Extent, declared.capacity.Tag.Tag, declared.ids.HostId.HostId, declared.media.Run.Run}
use Rattle.extent_list.specs.{ExtentLists.cut_all, ExtentLists.has_range, HostLists.Lists, media_map.specs.Places.IsRun, media_map.specs.Places.extent_of}
use Rattle.extent_list.specs.media_map.specs.region_config.specs.Configurations.{Configuration}
use Rattle.journal_core.specs.declared.outcome.Effect.{Effect}
use Rattle.tag_refs.specs.declared.entries.TagEntry.{TagEntry}
use Rattle.device_state.specs.EnteredLists.{each_tag, told}

-- A run leaves the host by the effect, or granules are soiled, by which neither lists nor tags change.
abbrev pub IsLeaving : HostId → Effect → Type 0
IsLeaving h (Effect.Leave k run) = k ≡ h
IsLeaving h (Effect.Soil run) = Unit {0}
IsLeaving h e = ⊥

-- A run that leaves the host by the effect is some granules of one region.
abbrev pub HasRun : Configuration → HostId → Effect → Type 0
HasRun c h e = (run : Run) → e ≡ Effect.Leave h run → IsRun c run

-- the range that leaves by an effect, and those that leave by more of them
abbrev pub left_by : Configuration → HostId → Effect → List Extent
left_by c h (Effect.Leave k run) = extent_of c h run zero_tag 0 ∷ []
left_by c h e = []

abbrev pub left_over : Configuration → HostId → List Effect → List Extent
left_over c h es = flat_map (left_by c h) es

-- the lists once these ranges left
abbrev pub lists_left : List Extent → Lists → Lists
lists_left xs l = record l { accepted = cut_all xs l.accepted }

-- the tag of the first extent in which the range lies
abbrev pub owner_tag : Extent → List Extent → List Tag
owner_tag x accepted = each_tag (option_to_list (find (has_range x.start x.length) accepted))

-- All extents have the tag.
abbrev pub HasOnly : Tag → List Extent → Type 0
HasOnly t xs = list_all (λ x. same_tag x.tag t) xs ≡ true

-- the table once these ranges left one after another, and the tag was told of the extent in which each lay
abbrev pub told_left : HostId → Lists → List Extent → List TagEntry → List TagEntry
told_left h l [] entries = entries
told_left h l (x ∷ xs) entries = told_left h (lists_left (x ∷ []) l) xs (told h (lists_left (x ∷ []) l) (owner_tag x l.accepted) entries)
