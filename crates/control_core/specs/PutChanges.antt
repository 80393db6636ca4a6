-- Changes put one after another, from the holders before the step.
use Rattle.std.specs.Prelude.{◌+◌, ◌≡◌, ℕ, ◌<◌, ◌≤◌, Bool, true, false, ◌&&◌, ◌||◌, ◌==◌, nat_le, nat_lt, List, [], ◌∷◌, ◌++◌, fold, Option, Some, None, slice_index_or, if◌then◌else◌, ◌-◌, All}
use Rattle.std.specs.List.{list_all, list_any}
use Rattle.cci_codec.specs.dcd_base.specs.{Words.has_granule, declared.ids.HostId.HostId, declared.media.Change.Change, declared.media.Run.Run, Hosts.has_host, Hosts.with_host, Hosts.without_host}
use Rattle.journal_core.specs.{declared.outcome.Effect.Effect, Entries.effects as effects_of, declared.entries.Entry.Entry}
use Rattle.device_commands.specs.device_rules.specs.ChangedRuns.{IsWithinRegion, holders_after, touches, AreChanges, IsSoundChange, LiesIn}
use Rattle.device_commands.specs.device_rules.specs.Legal.{is_zeroing}
use Rattle.extent_list.specs.media_map.specs.region_config.specs.{Configurations.Configuration, Granules.granule_total}
use Rattle.manager_commands.specs.device_state.specs.{StateAfter.IsStateAfter, declared.state.State.State}

-- the granules that the effect gives, takes or zeroes
abbrev pub touched_by : Effect → Option Run
touched_by (Effect.Take h run) = Some run
touched_by (Effect.Leave h run) = Some run
touched_by (Effect.Zero run) = Some run
touched_by e = None

-- their holders after it
abbrev pub bits_by : Effect → ℕ → ℕ
bits_by (Effect.Take h run) bits = with_host bits h
bits_by (Effect.Leave h run) bits = without_host bits h
bits_by e bits = bits

abbrev pub is_zero : Effect → Bool
is_zero (Effect.Zero run) = true
is_zero e = false

-- whether the granule lies from the first up to the one before the end
abbrev pub lies_between : ℕ → ℕ → ℕ → Bool
lies_between first end g = nat_le first g && nat_lt g end

-- whether a change names the granule, and whether one zeroes it
abbrev pub is_named : ℕ → List Change → Bool
is_named g changes = list_any (λ (change : Change). has_granule change.run g) changes

abbrev pub is_zeroed : ℕ → List Change → Bool
is_zeroed g changes = list_any (λ (change : Change). change.zero && has_granule change.run g) changes

-- More changes: each granule from the first up to the one before the end is changed as the effect says, from the
-- holders before the step.
pub record AreAdded (n : ℕ) (holders : List ℕ) (e : Effect) (first end : ℕ) (old new : List Change) : Type 0 where
  pub bits : (g : ℕ) → g < n → (bits : ℕ) → fold (holders_after g) bits new
      ≡ (if lies_between first end g then bits_by e (slice_index_or holders g 0) else fold (holders_after g) bits old)
  pub zeroed : (g : ℕ) → g < n → is_zeroed g new ≡ (is_zeroed g old || (is_zero e && lies_between first end g))
  pub named : (g : ℕ) → g < n → is_named g new ≡ (is_named g old || lies_between first end g)

-- the holders of a granule after an effect, from those before the step
abbrev pub bits_after : List ℕ → ℕ → ℕ → Effect → ℕ
bits_after holders g bits e = if touches g e then bits_by e (slice_index_or holders g 0) else bits

-- The changes are those of the effects.
pub record ArePut (n : ℕ) (holders : List ℕ) (effects : List Effect) (changes : List Change) : Type 0 where
  pub bits : (g : ℕ) → g < n → (bits : ℕ) → fold (holders_after g) bits changes ≡ fold (bits_after holders g) bits effects
  pub zeroed : (g : ℕ) → g < n → is_zeroed g changes ≡ list_any (is_zeroing g) effects
  pub named : (g : ℕ) → g < n → is_named g changes ≡ list_any (touches g) effects

-- With one more effect the changes go on.
abbrev pub PutOne : ℕ → List ℕ → Effect → List Change → List Change → Type 0
PutOne n holders e old new = (effects : List Effect) → ArePut n holders effects old → ArePut n holders (effects ++ e ∷ []) new

-- ---- regions and hosts

-- The granules are those of one region, if there are any.
abbrev pub IsRegionOrNone : Configuration → Run → Type 0
IsRegionOrNone c run = 0 < run.count → IsWithinRegion c run

-- No granule has a holder that the device has not.
abbrev pub NameNoOthers : Configuration → List ℕ → Type 0
NameNoOthers c holders = (g : ℕ) (h : HostId) → g < granule_total c → c.hosts ≤ h → has_host (slice_index_or holders g 0) h ≡ false

-- ---- one host

-- the effect gives or takes granules of this host alone, and zeroes none; without a host it gives and takes none
abbrev pub is_of_host : Option HostId → Effect → Bool
is_of_host (Some h) (Effect.Take k run) = k == h
is_of_host (Some h) (Effect.Leave k run) = k == h
is_of_host (Some h) (Effect.Zero run) = false
is_of_host None (Effect.Take k run) = false
is_of_host None (Effect.Leave k run) = false
is_of_host host e = true

-- All of them do, so that the holders before the step say what each change leaves.
pub record AreOfOneHost (effects : List Effect) : Type 0 where
  pub host : Option HostId
  pub each : list_all (is_of_host host) effects ≡ true

-- ---- what the code says of its changes

-- They are the changes of the effects, by every journal that leads to what is kept.
abbrev pub AreChangesFrom : Configuration → State → List Effect → List Change → Type 0
AreChangesFrom c s new changes = (before : List Entry) → IsStateAfter c before s → AreChanges c (effects_of before) new changes

-- All granules of the run are changed as the effect says.
abbrev pub IsRunAdded : ℕ → List ℕ → Effect → Run → List Change → List Change → Type 0
IsRunAdded n holders e run old new = AreAdded n holders e run.first (run.first + run.count) old new

-- Where the changes so far name granules of the device alone, all do.
abbrev pub StayInside : ℕ → List Change → List Change → Type 0
StayInside n old new = All (LiesIn n) old → All (LiesIn n) new

-- Where they are sound so far, all are.
abbrev pub StaySound : Configuration → List ℕ → List Change → List Change → Type 0
StaySound c holders old new = NameNoOthers c holders → All (IsSoundChange c) old → All (IsSoundChange c) new

-- the change of the granules from one up to the one before the next, which all have these holders
abbrev pub change_to : Effect → ℕ → ℕ → ℕ → Change
change_to e bits at next = record {
  run = record { first = at; count = next - at };
  holders = bits_by e bits;
  zero = is_zero e;
}
