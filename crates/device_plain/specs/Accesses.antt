-- Where a load or a store of a host lies, what it finds there, and what it changes.
use Rattle.std.specs.{List.list_any, Prelude.◌≡◌, Prelude.ℕ, Prelude.if◌then◌else◌, Prelude.List, declared.result.Result.Result}
use Rattle.std.specs.declared.result.Result.TheVariants.{Ok, Err}
use Rattle.dcd_base.specs.declared.{failures.AccessFault.AccessFault, ids.HostId.HostId, media.Place.Place}
use Rattle.granule_mem.specs.Contents.{word_kept}
use Rattle.journal_core.specs.{Holders.holds, declared.acts.Reply.Reply, declared.outcome.Effect.Effect}
use Rattle.media_map.specs.Places.{locate}
use Rattle.region_config.specs.Configurations.{Configuration}
use Rattle.control_core.specs.device_rules.specs.Legal.{is_zeroing, stored_at}

-- the words that were stored in each granule, by their numbers
abbrev pub Stored : Type 0
Stored = List (List (ℕ × ℕ))

-- the place, where the host holds its granule after these effects
abbrev pub held_at : HostId → List Effect → Result Place AccessFault → Result Place AccessFault
held_at h past (Ok p) = if holds h p.granule past then Ok p else Err AccessFault.NotGranted
held_at h past (Err fault) = Err fault

abbrev pub granted_place : Configuration → List Effect → HostId → ℕ → Result Place AccessFault
granted_place c past h d = held_at h past (locate c h d)

-- the word there
abbrev pub word_from : Stored → Result Place AccessFault → Result ℕ AccessFault
word_from m (Ok p) = Ok (word_kept m p.granule p.word)
word_from m (Err fault) = Err fault

-- what is replied to a store
abbrev pub store_said : Result Place AccessFault → Reply
store_said (Ok p) = Reply.Stored
store_said (Err fault) = Reply.Refused fault

-- The word of the place, if it is one, is this value, and each other word is what it was.
abbrev pub StoresAt : Stored → Stored → Result Place AccessFault → ℕ → Type 0
StoresAt old new place value = (g w : ℕ) → word_kept new g w ≡ stored_at g w (word_kept old g w) place value

-- Each word is 0 of each granule that the effect zeroes, and each other word is what it was.
abbrev pub IsZeroedBy : Stored → Stored → Effect → Type 0
IsZeroedBy old new e = (g w : ℕ) → word_kept new g w ≡ (if is_zeroing g e then 0 else word_kept old g w)

-- So it is with all the effects.
abbrev pub AreZeroed : Stored → Stored → List Effect → Type 0
AreZeroed old new es = (g w : ℕ) → word_kept new g w ≡ (if list_any (is_zeroing g) es then 0 else word_kept old g w)
