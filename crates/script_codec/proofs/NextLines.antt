-- The line that begins at a place.
use Rattle.std.proofs.Common.{◌≡◌, ℕ, suc, ◌-◌, ◌<◌, ◌≤◌, eqb, false, List, length, Ok, arith}
use Rattle.script_codec.{proofs.LineLaws.kind_sound, proofs.LineLaws.line_sound, proofs.Lists.one_line, specs.LineByLine.TakesAt, specs.Lines.kind_from, specs.Lines.line_from}
use Rattle.script_codec.specs.declared.script_line.Line.{Line}
use Rattle.cci_codec.specs.dcd_base.proofs.Fields.{IsBytes}

pub takes_at : (n hosts lanes : ℕ) (bytes : List ℕ) → IsBytes bytes → (place : ℕ) (kind : ℕ × ℕ) (found : Line × ℕ) → 0 < n → kind_from bytes place ≡ Ok kind → eqb kind.0 0 ≡ false → line_from kind.0 hosts lanes bytes kind.1 ≡ Ok found → found.1 ≤ length bytes → TakesAt n hosts lanes bytes place found
takes_at n hosts lanes bytes small place kind found some e goes here within =
    let more : n ≡ suc (n - 1) = omega (arith, some) in
    let few = (kind_sound bytes small hosts lanes place kind e).1 in
    record {
      is = one_line n (n - 1) hosts lanes bytes place kind found more e goes here;
      some = some;
      sound = (line_sound bytes small hosts lanes kind.0 kind.1 found goes few here).sound;
      within = within;
    }
