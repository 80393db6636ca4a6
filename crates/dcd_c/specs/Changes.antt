-- What the last step changed, as C is told it: runs gained, lost and zeroed, and the logs that grew.
use Rattle.std.specs.Prelude.{◌≡◌, ℕ, ◌+◌, ◌-◌, ◌*◌, ◌%◌, ◌^◌, ◌<◌, ◌==◌, ◌&&◌, nat_lt, Bool, true, false, List, [], ◌∷◌, ◌++◌, drop, flat_map, fold, length, take, sum_by, Result, Ok, Err, Option, Some, None, if◌then◌else◌}
use Rattle.std.specs.Int.Bits.{bit_or}
use Rattle.dcd_base.specs.{Words.has_granule, declared.ids.HostId.HostId, declared.media.Run.Run, declared.steps.LogId.LogId}
use Rattle.media_map.specs.Places.{bytes_of_run, start_of}
use Rattle.region_config.specs.{Configurations.Configuration, Granules.first_granule, Granules.granule_size, Granules.region_of}
use Rattle.journal_core.specs.declared.outcome.Effect.{Effect}
use Rattle.dcd_c.specs.{Statuses.status_of_call, declared.changes.RunTold.RunTold, declared.changes.StepTold.StepTold, declared.faults.Fault.Fault, declared.sessions.Session.Session}

-- where a run begins in the memory behind the device, in which the regions stand one behind another
abbrev pub media_of : Configuration → Run → ℕ
media_of c run = let r = region_of c run.first in
    sum_by (λ spec. spec.length) (take r c.regions) + (run.first - first_granule c r) * granule_size c r

-- a run of this kind, its numbers of bytes in 64 bits
abbrev pub run_told : Configuration → ℕ → ℕ → ℕ → Run → RunTold
run_told c kind host dpa run = record {
  dpa = dpa % 2 ^ 64;
  length = bytes_of_run c run % 2 ^ 64;
  media = media_of c run % 2 ^ 64;
  first_granule = run.first;
  granules = run.count;
  kind = kind;
  host = host;
  region = region_of c run.first;
  reserved = 0;
  reserved_too = 0;
}

-- where a run begins for a host of the device
abbrev pub start_told : Configuration → HostId → Run → ℕ
start_told c h run = if nat_lt h c.hosts then start_of c h run else 0

-- what an effect tells: a Take that its host gained the run, a Leave that it lost it, a Zero that it is zeroed
abbrev pub told_by : Configuration → Effect → List RunTold
told_by c (Effect.Take h run) = run_told c 1 h (start_told c h run) run ∷ []
told_by c (Effect.Leave h run) = run_told c 2 h (start_told c h run) run ∷ []
told_by c (Effect.Zero run) = run_told c 3 255 0 run ∷ []
told_by c e = []

abbrev pub listed : Option RunTold → List RunTold
listed None = []
listed (Some run) = run ∷ []

abbrev pub IsToldBy : Configuration → Effect → Option RunTold → Type 0
IsToldBy c e told = listed told ≡ told_by c e

unfoldable pub runs_told : Configuration → List Effect → List RunTold
runs_told c es = flat_map (told_by c) es

-- the bits of the logs that got a record, and of those that were full
abbrev pub with_bit : ℕ → ℕ → ℕ
with_bit bits n = bit_or bits (2 ^ n)

abbrev pub with_log : ℕ → LogId → ℕ
with_log bits (LogId.Host h) = if nat_lt h 16 then with_bit bits h else bits
with_log bits LogId.Manager = with_bit bits 16

abbrev pub grown_by : ℕ → Effect → ℕ
grown_by bits (Effect.Logged l event) = with_log bits l
grown_by bits e = bits

abbrev pub filled_by : ℕ → Effect → ℕ
filled_by bits (Effect.Missed l) = with_log bits l
filled_by bits e = bits

abbrev pub step_told : List Effect → ℕ → StepTold
step_told es runs = record { size = 24; logs = fold grown_by 0 es; full = fold filled_by 0 es; reserved = 0; runs = runs }

-- What telling the last step answers: its runs stand in the room, and the step says how many and which logs; or there is too
-- little room for them, and the step says that too.
abbrev pub TellsChanges : List RunTold → List RunTold → StepTold → StepTold → Session → Result ℕ Fault → Type 0
TellsChanges was is step_was step_is s (Ok n) = let runs = runs_told s.device.config s.last in
    (n ≡ length runs) × (is ≡ runs ++ drop n was) × (step_is ≡ step_told s.last n)
TellsChanges was is step_was step_is s (Err (Fault.NoRoom n)) = let runs = runs_told s.device.config s.last in
    (is ≡ was) × (length was < n) × (n ≡ length runs) × (step_is ≡ step_told s.last n)
TellsChanges was is step_was step_is s (Err fault) = ⊥

abbrev pub TellsPlaceChanges : List RunTold → List RunTold → StepTold → StepTold → Option Session → Result ℕ Fault → Type 0
TellsPlaceChanges was is step_was step_is (Some s) outcome = TellsChanges was is step_was step_is s outcome
TellsPlaceChanges was is step_was step_is None outcome = (outcome ≡ Err Fault.Closed) × (is ≡ was) × (step_is ≡ step_was)

-- The status tells such an outcome.
pub record TellsChanged (status : ℕ) (was is : List RunTold) (step_was step_is : StepTold) (place : Option Session) : Type 0 where
  pub outcome : Result ℕ Fault
  pub is_status : status ≡ status_of_call outcome
  pub holds : TellsPlaceChanges was is step_was step_is place outcome

-- ---- the law: a map that is kept by the runs is what the host holds

-- whether a granule is mapped to the host after one more run
abbrev pub mapped_after : HostId → ℕ → Bool → RunTold → Bool
mapped_after h g mapped run =
    if (run.host == h) && has_granule (record { first = run.first_granule; count = run.granules }) g
    then (if run.kind == 1 then true else if run.kind == 2 then false else mapped)
    else mapped

abbrev pub mapped : HostId → ℕ → List RunTold → Bool
mapped h g runs = fold (mapped_after h g) false runs
