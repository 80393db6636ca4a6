-- Which end each status is, and what holds at one of them.
use Rattle.edge_io.specs.declared.ends.End.{End}
use Rattle.script_runner.specs.declared.status.Status.{Status}

abbrev pub status_end : Status → End
status_end Status.Done = End.Done
status_end Status.Usage = End.Usage
status_end (Status.ScriptRefused fault) = End.Refused
status_end Status.NoMemory = End.NoMemory
status_end Status.ReadFault = End.ReadFault
status_end Status.WriteFault = End.WriteFault

abbrev pub OnDone : Status → Type 0 → Type 0
OnDone Status.Done P = P
OnDone Status.Usage P = Unit {0}
OnDone (Status.ScriptRefused fault) P = Unit {0}
OnDone Status.NoMemory P = Unit {0}
OnDone Status.ReadFault P = Unit {0}
OnDone Status.WriteFault P = Unit {0}
