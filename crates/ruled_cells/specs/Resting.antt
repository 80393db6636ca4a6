-- What the rule says once all turns are given back.
use Rattle.std.specs.Prelude.{◌≡◌, ℕ, suc, ◌≤◌, List, length}
use mathlib.Core.Option.{some}
use lib.ListN.{get_elem?}
use Rattle.dcd_base.specs.declared.steps.Stamp.{Stamp}
use Rattle.journal_core.specs.declared.entries.Entry.{Entry}
use Rattle.ruled_cells.specs.{declared.about.About.About, Stamps.Rise, Stamps.IsControlLog, Laws.Tidy, Ruling.Names, Ruling.IsOwn, Booking.Fits, Booking.IsRisingTo, Telling.values}

module _ {F S : Type 0} (w : Names F S) where
  -- the cell k is x, and right for the journal
  pub record IsShardAtRest (about : About) (log : List Entry) (k : ℕ) (x : S) : Type 0 where
    pub config_is : w.config_of x ≡ about.config
    pub own : (i : ℕ) (e : Entry) → get_elem? (w.entries x) i ≡ some e → IsOwn w about k e
    pub rise : Rise (w.entries x)
    pub tidy : Tidy w.entries w.clock x
    pub low : (w.clock x).number ≤ length log
    pub right : w.right k x log

  pub record IsAtRest (about : About) (first : F) (row : List S) : Type 0 where
    pub about_is : w.about first ≡ about
    pub sound : w.sound first
    pub control : IsControlLog (w.journal first)
    pub actors : (k : ℕ) (e : Entry) → get_elem? (w.journal first) k ≡ some e → get_elem? about.actors e.pass ≡ some e.actor
    pub shard : (i : ℕ) (x : S) → get_elem? row i ≡ some x → IsShardAtRest about (w.journal first) (suc i) x

  -- the calls are the entries of that seat in the journal and in all cells, in the order of their stamps
  pub record Accounts (first : F) (row : List S) (number : ℕ) (calls : List Entry) : Type 0 where
    pub fits : Fits w (w.journal first) (values first row) number calls
    pub rising : (seen : Stamp) × IsRisingTo calls seen
