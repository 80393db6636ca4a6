-- The entries of a journal: their effects, the next one, who may do what, and what holds of each.
use Rattle.std.specs.Prelude.{ℕ, ◌+◌, nat_lt, true, false, Bool, List, flat_map, length, [], ◌∷◌, ◌++◌}
use Rattle.journal_core.specs.declared.{outcome.Effect.Effect, entries.Entry.Entry, acts.Act.Act, acts.Reply.Reply}
use Rattle.cci_codec.specs.dcd_base.specs.declared.steps.{Actor.Actor, Stamp.Stamp}

-- the effects of the entries, in order
abbrev pub effects : List Entry → List Effect
effects journal = flat_map (λ e. e.effects) journal

-- the stamp of the next command or scrub behind some
abbrev pub next_stamp : List Entry → Stamp
next_stamp entries = record { number = length entries + 1; count = 0 }

-- the entry of a command or a scrub behind some, by what is answered to it: its reply and its effects
abbrev pub next_entry : List Entry → ℕ → ℕ → Actor → Act → Reply × List Effect → Entry
next_entry entries pass line actor act answered = record {
  pass = pass;
  line = line;
  actor = actor;
  act = act;
  reply = answered.0;
  effects = answered.1;
  stamp = next_stamp entries;
}

-- a command or a scrub, and no access
abbrev pub is_control : Act → Bool
is_control (Act.Command q) = true
is_control (Act.Scrub n) = true
is_control (Act.Load d) = false
is_control (Act.Store d value) = false

-- who may do what: a host of the device commands, loads and stores, the manager commands, the sanitizer scrubs
abbrev pub fits : ℕ → Actor → Act → Bool
fits hosts (Actor.Host h) (Act.Command q) = nat_lt h hosts
fits hosts (Actor.Host h) (Act.Load d) = nat_lt h hosts
fits hosts (Actor.Host h) (Act.Store d value) = nat_lt h hosts
fits hosts (Actor.Host h) (Act.Scrub n) = false
fits hosts Actor.Manager (Act.Command q) = true
fits hosts Actor.Manager act = false
fits hosts Actor.Sanitizer (Act.Scrub n) = true
fits hosts Actor.Sanitizer act = false

-- P holds of each entry, with these and the entries in front of it before it.
abbrev pub EachFrom : List Entry → (List Entry → Entry → Type 0) → List Entry → Type 0
EachFrom before P [] = Unit {0}
EachFrom before P (e ∷ journal) = P before e × EachFrom (before ++ e ∷ []) P journal

-- P holds of each entry and the entries before it.
abbrev pub Each : (List Entry → Entry → Type 0) → List Entry → Type 0
Each P journal = EachFrom [] P journal
