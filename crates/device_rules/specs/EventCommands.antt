-- Reading a log and clearing it: 0100h and 0101h.
use Rattle.std.specs.Prelude.{ℕ, Bool, not, ◌==◌, nat_le, nat_lt, List, [], ◌∷◌, ◌++◌, length, take, Option, option_map, if◌then◌else◌}
use Rattle.cci_codec.specs.dcd_base.specs.{declared.steps.LogId.LogId, Limits.reply_records, Words.◌or◌}
use Rattle.extent_list.specs.dcd_codes.specs.{declared.rules.Rule.Rule, Rules.◌breaks◌}
use Rattle.journal_core.specs.declared.outcome.Effect.{Effect}
use Rattle.event_log.specs.{LogStates.clear_fault, Logs.Log, Logs.empty_log, Logs.records_in, declared.faults.ClearFault.ClearFault}
use Rattle.host_payloads.specs.HostPayloads.{events_payload}
use Rattle.device_rules.specs.Outcomes.{Outcome}

-- the logs below the fourth are always empty
abbrev pub log_named : ℕ → Log → Log
log_named number own = if number == 4 then own else empty_log

abbrev pub no_such_log : ℕ → Option Rule
no_such_log number = nat_le 5 number breaks Rule.NoSuchLog number

-- 0100h: the oldest records, fifteen at most
abbrev pub events_reply : Log → List ℕ
events_reply log = events_payload log.missed (nat_lt reply_records (length (records_in log))) (take reply_records (records_in log))

-- the rule that is broken where records cannot be cleared
abbrev pub rule_of : ClearFault → Rule
rule_of (ClearFault.OlderLeft handle) = Rule.OlderLeft handle
rule_of (ClearFault.UnknownHandle handle) = Rule.UnknownHandle handle
rule_of ClearFault.NotOverflowed = Rule.NotOverflowed

-- handles must be those of the oldest records, in order
abbrev pub handles_rule : List ℕ → Log → Option Rule
handles_rule handles log = option_map rule_of (clear_fault handles (records_in log))

-- 0101h
abbrev pub clear_rule : ℕ → Log → Bool → List ℕ → Option Rule
clear_rule number own all handles = let log = log_named number own in
    no_such_log number
    or (if all then (log.missed == 0) breaks Rule.NotOverflowed else handles_rule handles log)

abbrev pub cleared : LogId → ℕ → List Effect
cleared l n = if n == 0 then [] else Effect.Cleared l n ∷ []

abbrev pub clear_changes : LogId → ℕ → Log → Bool → List ℕ → List Effect
clear_changes l number own all handles =
    if not (number == 4) then []
    else if all then cleared l (length (records_in own)) ++ Effect.Reset l ∷ []
    else cleared l (length handles)

abbrev pub clear_outcome : LogId → ℕ → Log → Bool → List ℕ → Outcome
clear_outcome l number own all handles =
    record { payload = []; changes = clear_changes l number own all handles; tags = []; log_records = [] }
