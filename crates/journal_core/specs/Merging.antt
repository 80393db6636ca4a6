-- The order of a whole journal.
use Rattle.std.specs.Prelude.{ℕ, ◌+◌, All, Bool, ◌&&◌, ◌||◌, ◌==◌, nat_le, nat_lt, List, [], ◌∷◌, ◌++◌, count_by, flat_map, fold, if◌then◌else◌, IsTrue, IsFalse, AllPairs, map, filter}
use Rattle.cci_codec.specs.dcd_base.specs.declared.steps.Stamp.{Stamp}
use Rattle.journal_core.specs.{declared.acts.Act.Act, declared.entries.Entry.Entry, declared.acts.Reply.Reply, Entries.Each, Entries.is_control}

-- whether the stamp of e comes after that of f
abbrev pub is_later : Stamp → Stamp → Bool
is_later e f = nat_lt f.number e.number || ((f.number == e.number) && nat_lt f.count e.count)

-- whether the entry has the stamp
abbrev pub has_stamp : Stamp → Entry → Bool
has_stamp s e = (e.stamp.number == s.number) && (e.stamp.count == s.count)

-- no stamp is later than one behind it
abbrev pub Rising : List Entry → Type 0
Rising journal = AllPairs (λ (e f : Entry). IsFalse (is_later e.stamp f.stamp)) journal

-- The stamps of each list rise.
abbrev pub AllRise : List (List Entry) → Type 0
AllRise lists = All Rising lists

-- an entry goes behind all whose stamp is not later
abbrev pub insert_entry : Entry → List Entry → List Entry
insert_entry e [] = e ∷ []
insert_entry e (f ∷ journal) = if is_later f.stamp e.stamp then e ∷ f ∷ journal else f ∷ insert_entry e journal

-- the entries in the order of their stamps; those of one stamp stay in their order
abbrev pub in_order : List Entry → List Entry
in_order entries = fold (λ journal e. insert_entry e journal) [] entries

-- All entries in the order of their stamps. Of equal stamps those of the control come first,
-- then those of the shards in the order of the shards.
abbrev pub merged : List Entry → List (List Entry) → List Entry
merged control shards = in_order (control ++ flat_map (λ entries. entries) shards)

-- how many commands and scrubs there are
abbrev pub commands_in : List Entry → ℕ
commands_in journal = count_by (λ (e : Entry). is_control e.act) journal

-- The stamp is (k, 0) for the k-th command or scrub; for an access it counts those before it, and then from 1.
abbrev pub IsStamped : List Entry → Entry → Type 0
IsStamped before e =
    IsTrue (if is_control e.act
    then (e.stamp.number == commands_in before + 1) && (e.stamp.count == 0)
    else (e.stamp.number == commands_in before) && nat_le 1 e.stamp.count)

-- Each entry is stamped, and no stamp is later than one behind it.
pub record Numbered (journal : List Entry) : Type 0 where
  pub stamped : Each IsStamped journal
  pub rising : Rising journal

-- ---- passes

-- a call of a pass: an entry without its pass, actor and effects
pub record Call : Type 0 where
  pub line : ℕ
  pub act : Act
  pub reply : Reply
  pub stamp : Stamp

-- the call that an entry is of its pass
abbrev pub call_of : Entry → Call
call_of e = record { line = e.line; act = e.act; reply = e.reply; stamp = e.stamp }

-- the calls of the pass in a journal, in order
abbrev pub calls_of : ℕ → List Entry → List Call
calls_of pass journal = map call_of (filter (λ e. e.pass == pass) journal)
