-- The rule of the cells, but for the books on who made which call. Cell 0 is the first one, and cell i + 1 that of index i.
-- The words are the turns of the cells and, behind them, the count.
use Rattle.std.specs.Prelude.{◌≡◌, ◌≢◌, ℕ, zero, suc, ◌+◌, ◌<◌, ◌≤◌, Bool, true, false, List, length, slice_index, Option, None}
use mathlib.Core.Option.{some}
use lib.ListN.{get_elem?}
use Rattle.dcd_base.specs.declared.steps.{Stamp.Stamp, Actor.Actor}
use Rattle.region_config.specs.Configurations.{Configuration}
use Rattle.journal_core.specs.{declared.entries.Entry.Entry, Entries.is_control}
use Rattle.ruled_cells.specs.{Laws.Tidy, Reads.ChiefReads, Reads.MemberReads, Reads.about_of, Stamps.Rise, Stamps.IsControlLog, Stamps.stamps_after, Stamps.pending, declared.about.About.About}
use Rattle.ruled_cells.specs.declared.{about.SeatView.SeatView, cell_value.CellValue.CellValue, cell_value.CellValue.TheVariants.First, cell_value.CellValue.TheVariants.Rest}

-- what the two traits name, by the number of a cell
pub record Names (F S : Type 0) : Type 1 where
  pub journal : F → List Entry
  pub about : F → About
  pub sound : F → Type 0
  pub config_of : S → Configuration
  pub entries : S → List Entry
  pub clock : S → Stamp
  pub touches : ℕ → Entry → Bool
  pub belongs : Configuration → ℕ → Entry → Type 0
  pub right : ℕ → S → List Entry → Type 0

-- of the cell k what is said of its index. Of the first cell, which has none, there is nothing to say
abbrev pub AtCell : (ℕ → Type 0) → ℕ → Type 0
AtCell P zero = Unit {0}
AtCell P (suc i) = P i

abbrev pub touches_cell : (ℕ → Entry → Bool) → ℕ → Entry → Bool
touches_cell touches zero e = false
touches_cell touches (suc i) e = touches i e

abbrev pub access_cell : {S : Type 0} → (ℕ → ℕ → Actor → S → S → Type 0) → ℕ → ℕ → Actor → S → S → Type 0
access_cell access zero seat actor x y = ⊥
access_cell access (suc i) seat actor x y = access i seat actor x y

abbrev pub names : {F S : Type 0} → ChiefReads F → MemberReads S → Names F S
names chief member = record {
  journal = chief.journal;
  about = about_of chief;
  sound = chief.sound;
  config_of = member.config;
  entries = member.entries;
  clock = member.clock;
  touches = touches_cell member.touches;
  belongs = λ c k e. AtCell (λ i. member.belongs c i e) k;
  right = λ k x log. AtCell (λ i. member.right i x log) k;
}

module _ {F S : Type 0} (w : Names F S) (about : About) where
  -- an entry of the cell k: a load or store that belongs to it, of the actor of its seat
  pub record IsOwn (k : ℕ) (e : Entry) : Type 0 where
    pub belongs : w.belongs about.config k e
    pub access : is_control e.act ≡ false
    pub counted : 0 < e.stamp.count
    pub actor : get_elem? about.actors e.pass ≡ some e.actor

  -- the cell k, whose value is x. The entry is the one that was noted and still has to change cells, and `before` the journal without it
  pub record IsShard (words : List ℕ) (before log : List Entry) (entry : Option Entry) (changed : List ℕ) (k : ℕ) (x : S) : Type 0 where
    pub config_is : w.config_of x ≡ about.config
    pub own : (i : ℕ) (e : Entry) → get_elem? (w.entries x) i ≡ some e → IsOwn k e
    pub rise : Rise (w.entries x)
    pub tidy : Tidy w.entries w.clock x
    pub low : (w.clock x).number ≤ length log
    pub steady : pending w.touches entry changed k ≡ false → w.right k x log
    pub late : pending w.touches entry changed k ≡ true → w.right k x before × ((w.clock x).number ≤ length before) × (slice_index words k ≡ slice_index words 0)

  -- log is the journal of the rule: that of the first cell at home, or the one that the seat with its turn names
  pub record Ruled (log : List Entry) (words : List ℕ) (vals : List (CellValue F S)) (views : List SeatView) : Type 0 where
    pub first : F
    pub entry : Option Entry
    pub changed : List ℕ
    pub log_is : log ≡ stamps_after (w.journal first) entry
    pub wide : length words ≡ length vals + 1
    pub chief : get_elem? vals 0 ≡ some (First first)
    pub rest : (k : ℕ) (x : CellValue F S) → 0 < k → get_elem? vals k ≡ some x → (s : S) × (x ≡ Rest s)
    pub about_is : w.about first ≡ about
    pub sound : w.sound first
    -- the journal is that of a first cell that is sound, be it not yet given back
    pub whole : F
    pub whole_journal : w.journal whole ≡ log
    pub whole_sound : w.sound whole
    pub control : IsControlLog log
    pub actors : (k : ℕ) (e : Entry) → get_elem? log k ≡ some e → get_elem? about.actors e.pass ≡ some e.actor
    pub count : slice_index words (length vals) ≡ length log
    pub at_rest : slice_index words 0 ≡ 0 → entry ≡ None
    pub at_work : (j : ℕ) (v : SeatView) → get_elem? views j ≡ some v → slice_index words 0 ≡ j + 1 → (v.entry ≡ entry) × (v.changed ≡ changed)
    pub quiet : (j : ℕ) (v : SeatView) → get_elem? views j ≡ some v → slice_index words 0 ≢ j + 1 → v.entry ≡ None
    pub shard : (k : ℕ) (x : S) → get_elem? vals k ≡ some (Rest x) → IsShard words (w.journal first) log entry changed k x
    pub informed : (j : ℕ) (v : SeatView) → get_elem? views j ≡ some v → v.spent ≡ false → (v.about ≡ about) × (v.seen.number ≤ length log) × (v.number ≡ j)
