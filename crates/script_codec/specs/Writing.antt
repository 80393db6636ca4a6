-- What writing a script appends.
use Rattle.std.specs.Prelude.{◌≡◌, ◌≤◌, ℕ, true, Bool, IsTrue, ◌&&◌, nat_le, nat_lt, List, ◌++◌, length}
use Rattle.std.specs.List.{list_all, AllByRecursion}
use Rattle.cci_codec.specs.dcd_base.specs.Layouts.{Field, FitsField, spelling, Writes}
use Rattle.journal_core.specs.declared.acts.Act.{Act}
use Rattle.script_codec.specs.{declared.script_line.Line.Line, declared.scripts.Script.Script, Scripts.script_fields, Scripts.actor_byte, Scripts.IsScript}

-- The spelling of these fields was put at the end, and each of them has one.
pub record AppendsLines (old new : List ℕ) (fields : List Field) : Type 0 where
  pub fits : AllByRecursion FitsField fields
  pub is : new ≡ old ++ spelling fields

-- the one spelling of a script, with reserved bytes and bits 0
unfoldable pub script_bytes : Script → List ℕ
script_bytes s = spelling (script_fields s)

-- the length of a message is told in 16 bits
abbrev pub has_short_message : Line → Bool
has_short_message (Line.Do actor lane (Act.Command q)) = nat_le (length q.payload) 65523
has_short_message line = true

-- what a line must be to have a spelling
abbrev pub has_spelling : Line → Bool
has_spelling (Line.Do actor lane act) = nat_lt (actor_byte actor lane) 256 && has_short_message (Line.Do actor lane act)
has_spelling Line.Mark = true

-- What a script must be to be written.
pub record IsWritable (s : Script) : Type 0 where
  pub script : IsScript s
  pub messages : IsTrue (list_all has_short_message s.lines)
  pub short : length (script_bytes s) ≤ 16777216

-- The bytes are the one spelling of the script.
unfoldable pub WritesScript : Script → List ℕ → Type 0
WritesScript s bytes = Writes (script_fields s) bytes
