-- Lists whose stamps rise: their first entry and what is behind it.
use Rattle.std.proofs.Common.{◌≡◌, suc, List, [], ◌∷◌, drop, subst, arith}
use Rattle.std.specs.Prelude.{All, IsFalse}
use Rattle.journal_core.specs.{declared.entries.Entry.Entry, Merging.Rising, Merging.is_later}

-- no list rises behind its first entry alone
pub rising_tail : (e : Entry) (entries : List Entry) → Rising (e ∷ entries) → Rising entries
rising_tail e entries up = λ i j d first under. up (suc i) (suc j) d (omega (arith, first)) (omega (arith, under))

-- none behind it is earlier
pub rising_head : (e : Entry) (entries : List Entry) → Rising (e ∷ entries) → All (λ (f : Entry). IsFalse (is_later e.stamp f.stamp)) entries
rising_head e entries up = λ k d under. up 0 (suc k) d (omega arith) (omega (arith, under))

pub rises_on : (entries rest : List Entry) (e : Entry) → entries ≡ e ∷ rest → Rising entries → Rising rest
rises_on entries rest e is up = rising_tail e rest (subst Rising is up)

pub rising_drop : (entries : List Entry) → Rising entries → Rising (drop 1 entries)
rising_drop [] up = up
rising_drop (e ∷ entries) up = rising_tail e entries up

pub rising_none : Rising []
rising_none = λ i j d first under. absurd (omega (arith, under))
