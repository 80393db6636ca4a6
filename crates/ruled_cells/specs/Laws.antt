-- What a member has to keep. S is the type of a cell, k its index, and a journal is that of the first cell.
use Rattle.std.specs.Prelude.{◌≡◌, ℕ, ◌<◌, ◌≤◌, Bool, false, List, [], ◌∷◌, ◌++◌, length}
use mathlib.Core.Option.{some}
use lib.ListN.{get_elem?}
use Rattle.dcd_base.specs.declared.steps.{Stamp.Stamp, Actor.Actor}
use Rattle.region_config.specs.Configurations.{Configuration}
use Rattle.journal_core.specs.{declared.entries.Entry.Entry, Entries.is_control}
use Rattle.ruled_cells.specs.Stamps.{Below, IsControlLog}

module _ {S : Type 0} where
  -- no entry of x has a stamp above its clock
  abbrev pub Tidy : (S → List Entry) → (S → Stamp) → S → Type 0
  Tidy entries clock x = (k : ℕ) (e : Entry) → get_elem? (entries x) k ≡ some e → ¬ Below (clock x) e.stamp

  -- y is x with one more entry, a load or store of that seat and its actor, and the clock is that entry's stamp
  pub record EntersOne (config : S → Configuration) (entries : S → List Entry) (clock : S → Stamp) (belongs : Configuration → ℕ → Entry → Type 0) (k seat : ℕ) (actor : Actor) (x y : S) : Type 0 where
    pub entry : Entry
    pub config_is : config y ≡ config x
    pub entries_are : entries y ≡ entries x ++ entry ∷ []
    pub belongs_here : belongs (config x) k entry
    pub access : is_control entry.act ≡ false
    pub counted : 0 < entry.stamp.count
    pub pass : entry.pass ≡ seat
    pub actor_is : entry.actor ≡ actor
    pub clock_is : clock y ≡ entry.stamp

  -- y has the entries of x, and its clock is the stamp of e
  pub record Changes (config : S → Configuration) (entries : S → List Entry) (clock : S → Stamp) (e : Entry) (x y : S) : Type 0 where
    pub config_is : config y ≡ config x
    pub entries_are : entries y ≡ entries x
    pub clock_is : clock y ≡ e.stamp

  -- what an access is
  abbrev pub AccessEnters : (S → Configuration) → (S → List Entry) → (S → Stamp) → (Configuration → ℕ → Entry → Type 0) → (ℕ → ℕ → Actor → S → S → Type 0) → Type 0
  AccessEnters config entries clock belongs access = (k seat : ℕ) (actor : Actor) (x y : S) → access k seat actor x y → EntersOne config entries clock belongs k seat actor x y

  -- what a change is
  abbrev pub ChangeIs : (S → Configuration) → (S → List Entry) → (S → Stamp) → (Entry → S → S → Type 0) → Type 0
  ChangeIs config entries clock change = (e : Entry) (x y : S) → change e x y → Changes config entries clock e x y

  -- the first law: an entry that touches nothing of it leaves a cell right
  abbrev pub Stays : (S → List Entry) → (S → Stamp) → (ℕ → Entry → Bool) → (ℕ → S → List Entry → Type 0) → Type 0
  Stays entries clock touches right = (k : ℕ) (x : S) (log : List Entry) (e : Entry) → IsControlLog (log ++ e ∷ []) → Tidy entries clock x → (clock x).number ≤ length log → touches k e ≡ false → right k x log → right k x (log ++ e ∷ [])

  -- the second law: an access above the clock leaves it right
  abbrev pub AccessKeeps : (S → List Entry) → (S → Stamp) → (ℕ → S → List Entry → Type 0) → (ℕ → ℕ → Actor → S → S → Type 0) → Type 0
  AccessKeeps entries clock right access = (k seat : ℕ) (actor : Actor) (x y : S) (log : List Entry) → IsControlLog log → Tidy entries clock x → Below (clock x) (clock y) → access k seat actor x y → right k x log → right k y log

  -- the third law: a change by an entry makes it right for the journal with that entry
  abbrev pub ChangeMakes : (S → List Entry) → (S → Stamp) → (ℕ → S → List Entry → Type 0) → (Entry → S → S → Type 0) → Type 0
  ChangeMakes entries clock right change = (k : ℕ) (x y : S) (log : List Entry) (e : Entry) → IsControlLog (log ++ e ∷ []) → Tidy entries clock x → Below (clock x) e.stamp → change e x y → right k x log → right k y (log ++ e ∷ [])
