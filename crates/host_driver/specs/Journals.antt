-- A journal in which the driver acts for one host, and what holds of it.
use Rattle.std.specs.Prelude.{◌≡◌, ℕ, Bool, true, false, ◌&&◌, ◌||◌, not, List, [], ◌∷◌, flat_map, fold, if◌then◌else◌, IsTrue, IsFalse}
use Rattle.std.specs.List.{enumerate_from}
use Rattle.dcd_base.specs.{declared.capacity.Extent.Extent, declared.ids.HostId.HostId, declared.steps.Actor.Actor, declared.steps.LogId.LogId, Words.is_empty}
use Rattle.cci_codec.specs.declared.messages.{Request.Request, Response.Response}
use Rattle.region_config.specs.Configurations.{Configuration}
use Rattle.journal_core.specs.{declared.acts.Act.Act, declared.acts.Reply.Reply, declared.entries.Entry.Entry, Entries.Each, Entries.effects, Entries.fits}
use Rattle.report.specs.script_codec.specs.{declared.script_line.Line.Line, Covering.pass_of}
use Rattle.device_plain.specs.{device_rules.specs.Counts.records_of, device_rules.specs.Hosts.accepted_of, device_rules.specs.Legal.Legal, isolation_laws.specs.Solo.acts_for}
use Rattle.host_driver.specs.Driving.{Driven, driven, gives, is_refusal}

-- ---- the driver as a host of the journal

-- a command and its response
abbrev pub pair_of : Act → Reply → List (Request × Response)
pair_of (Act.Command q) (Reply.Answer s) = (q, s) ∷ []
pair_of act reply = []

-- the host's requests with their replies, in order
abbrev pub pairs_of : HostId → List Entry → List (Request × Response)
pairs_of h journal = flat_map (λ (e : Entry). if acts_for h e.actor then pair_of e.act e.reply else []) journal

-- the driver of the host after its entries
abbrev pub driver_of : HostId → ℕ → List Entry → Driven
driver_of h most journal = driven most (pairs_of h journal)

-- An act of the host is the command that the driver gives after the host's acts and replies before it.
abbrev pub IsDrivenStep : HostId → ℕ → List Entry → Entry → Type 0
IsDrivenStep h most before e = IsTrue (acts_for h e.actor) → e.act ≡ Act.Command (gives most (driver_of h most before))

-- Each is.
abbrev pub IsDriven : HostId → ℕ → List Entry → Type 0
IsDriven h most journal = Each (IsDrivenStep h most) journal

-- ---- what holds then

-- a reply that the driver does not take for the device's word
abbrev pub refuses : Reply → Bool
refuses (Reply.Answer s) = is_refusal s
refuses reply = false

-- No command of the host but a release is refused.
abbrev pub IsUnrefused : HostId → List Entry → Entry → Type 0
IsUnrefused h before e = IsTrue (acts_for h e.actor) → IsFalse (refuses e.reply)

-- The table of the driver is the accepted list of the device where the log has no record, and no command of the host but
-- a release was refused.
pub record KeepsTable (c : Configuration) (h : HostId) (most : ℕ) (journal : List Entry) : Type 0 where
  pub table : records_of (LogId.Host h) (effects journal) ≡ [] → (driver_of h most journal).table ≡ accepted_of c h (effects journal)
  pub unrefused : Each (IsUnrefused h) journal

-- ---- others in turns with the driver

-- the last entry, if there is one, is the host's
abbrev pub ends_with : HostId → List Entry → Bool
ends_with h journal = fold (λ b (e : Entry). acts_for h e.actor) true journal

-- whether the others may go on: nothing has happened, or the driver has acted last and found no record
abbrev pub is_at_rest : HostId → ℕ → List Entry → Bool
is_at_rest h most journal = is_empty journal || (ends_with h journal && (driver_of h most journal).idle)

-- Others act where the driver is at rest, and the driver where it is not.
abbrev pub IsTurn : HostId → ℕ → List Entry → Entry → Type 0
IsTurn h most before e = is_at_rest h most before ≡ not (acts_for h e.actor)

-- Behind an entry of another actor the driver acts, at least once, until it finds no record; and so it comes to rest
-- before each of them and at the end.
pub record TakesTurns (h : HostId) (most : ℕ) (journal : List Entry) : Type 0 where
  pub each : Each (IsTurn h most) journal
  pub last : IsTrue (is_at_rest h most journal)

-- ---- the lines of the others

-- a line that runs: its number, its actor and its act
pub record Ran : Type 0 where
  pub pass : ℕ
  pub line : ℕ
  pub actor : Actor
  pub act : Act

-- the lines of all others, each with the pass that its actor has where each host has one lane
abbrev pub line_of_others : ℕ → HostId → ℕ × Line → List Ran
line_of_others hosts h (n, Line.Do actor lane act) =
    if acts_for h actor then [] else (record { pass = pass_of hosts 1 actor 0; line = n; actor = actor; act = act }) ∷ []
line_of_others hosts h (n, Line.Mark) = []

abbrev pub lines_of_others : ℕ → HostId → List Line → List Ran
lines_of_others hosts h lines = flat_map (line_of_others hosts h) (enumerate_from 1 lines)

-- whether the act of a line fits its actor on a device of so many hosts
abbrev pub is_fitting : ℕ → Line → Bool
is_fitting hosts (Line.Do actor lane act) = fits hosts actor act
is_fitting hosts Line.Mark = true

-- the entries of all others
abbrev pub entry_of_others : HostId → Entry → List Ran
entry_of_others h e =
    if acts_for h e.actor then [] else (record { pass = e.pass; line = e.line; actor = e.actor; act = e.act }) ∷ []

abbrev pub entries_of_others : HostId → List Entry → List Ran
entries_of_others h journal = flat_map (entry_of_others h) journal

-- The driver's own entries have no line, and the pass of its host.
abbrev pub IsUnlined : ℕ → HostId → List Entry → Entry → Type 0
IsUnlined hosts h before e = IsTrue (acts_for h e.actor) → (e.line ≡ 0) × (e.pass ≡ pass_of hosts 1 e.actor 0)

-- ---- what driving ends with

-- The others ran their lines in order, the driver acted in turns with them, the log of its host is empty, and this is
-- its table and the device's.
pub record IsDrive (c : Configuration) (lines : List Line) (h : HostId) (most : ℕ) (journal : List Entry) (table : List Extent) : Type 0 where
  pub legal : Legal c journal
  pub driven : IsDriven h most journal
  pub turns : TakesTurns h most journal
  pub others : entries_of_others h journal ≡ lines_of_others c.hosts h lines
  pub own : Each (IsUnlined c.hosts h) journal
  pub unrefused : Each (IsUnrefused h) journal
  pub log : records_of (LogId.Host h) (effects journal) ≡ []
  pub table_is : table ≡ (driver_of h most journal).table
  pub accepted : table ≡ accepted_of c h (effects journal)
