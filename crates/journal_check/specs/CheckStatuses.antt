-- Which end each status is.
use Rattle.edge_io.specs.declared.ends.End.{End}
use Rattle.journal_check.specs.declared.status.CheckStatus.{CheckStatus}

abbrev pub check_end : CheckStatus → End
check_end CheckStatus.Yes = End.Done
check_end (CheckStatus.No line) = End.Answer 1
check_end CheckStatus.Usage = End.Usage
check_end (CheckStatus.ScriptRefused fault) = End.Refused
check_end CheckStatus.NoMemory = End.NoMemory
check_end CheckStatus.ReadFault = End.ReadFault
check_end CheckStatus.WriteFault = End.WriteFault
check_end (CheckStatus.InputShort need have) = End.Refusal 7
check_end CheckStatus.InputLong = End.Refusal 8
