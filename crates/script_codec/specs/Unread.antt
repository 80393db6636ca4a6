-- What is still to come of a script that is read line by line.
use Rattle.std.specs.Prelude.{ℕ, List, Result}
use Rattle.script_codec.specs.declared.{script_line.Line.Line, faults.ScriptFault.ScriptFault}

-- The hosts and the lanes that lines may name, how many lines may still come, and those that come or their first fault.
pub record Unread : Type 0 where
  pub hosts : ℕ
  pub lanes : ℕ
  pub left : ℕ
  pub rest : Result (List Line) ScriptFault
