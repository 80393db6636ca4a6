-- How reading a script begins.
use Rattle.std.proofs.Common.{◌≡◌, ℕ, ◌<◌, ◌≤◌, List, length, Ok, Err, refl, sym, ap, ◌∙◌}
use Rattle.std.proofs.lemmas.Bool.{le-ltb, lt-ltb}
use Rattle.script_codec.{proofs.ScriptLaws.script_sound, specs.Heads.head_from, specs.LineByLine.Begins, specs.LineByLine.FailsInHead, specs.LineByLine.head_then, specs.Lines.lines_from}
use Rattle.script_codec.specs.{Reading.fields_in, Reading.head_in, Reading.most_bytes, Reading.most_lines, Reading.script_in, declared.faults.ScriptFault.ScriptFault, declared.heads.Head.Head}
use Rattle.cci_codec.specs.dcd_base.proofs.Fields.{IsBytes}

pub too_long : (bytes : List ℕ) → most_bytes < length bytes → FailsInHead bytes ScriptFault.TooLong
unfolding head_in script_in
too_long bytes long = rw (lt-ltb most_bytes (length bytes) long) (refl, refl)

pub head_fails : (bytes : List ℕ) (fault : ScriptFault) → length bytes ≤ most_bytes → head_from bytes 0 ≡ Err fault → FailsInHead bytes fault
unfolding head_in script_in fields_in
head_fails bytes fault short bad = rw (le-ltb most_bytes (length bytes) short, bad) (refl, refl)

short_head : (bytes : List ℕ) → length bytes ≤ most_bytes → head_in bytes ≡ head_from bytes 0
unfolding head_in
short_head bytes short = rw (le-ltb most_bytes (length bytes) short) refl

head_is_read : (bytes : List ℕ) (head : Head × ℕ) → length bytes ≤ most_bytes → head_from bytes 0 ≡ Ok head → script_in bytes ≡ head_then head.0 (lines_from most_lines head.0.config.hosts head.0.lanes bytes head.1)
unfolding script_in fields_in
head_is_read bytes head short is = rw (le-ltb most_bytes (length bytes) short, is) refl

pub begins : (bytes : List ℕ) → IsBytes bytes → (head : Head) (place hosts : ℕ) → length bytes ≤ most_bytes → head_from bytes 0 ≡ Ok (head, place) → hosts ≡ head.config.hosts
    → Begins bytes head (record { hosts = hosts; lanes = head.lanes; left = most_lines; rest = lines_from most_lines hosts head.lanes bytes place })
begins bytes small head place hosts short is hosts_are = record {
  place = place;
  headed = short_head bytes short ∙ is;
  is = head_is_read bytes (head, place) short is ∙ ap (λ h. head_then head (lines_from most_lines h head.lanes bytes place)) (sym hosts_are);
  hosts_are = hosts_are;
  lanes_are = refl;
  left_is = refl;
  reads = λ script found. script_sound bytes script small found;
  short = short;
}
