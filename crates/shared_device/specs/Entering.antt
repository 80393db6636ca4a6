-- A command or a scrub, while its seat has the turn of the control.
use Rattle.std.specs.Prelude.{◌≡◌, ℕ, suc, ◌^◌, ◌<◌, ◌≤◌, true, false, All, List, [], ◌∷◌, ◌++◌, length, None}
use mathlib.Core.Option.{some}
use lib.ListN.{get_elem?}
use Rattle.control_core.specs.{Deciding.IsShort, Steps.IsNextEntry, declared.plan.Plan.Plan, device_rules.specs.ChangedRuns.AreChanges, device_rules.specs.ChangedRuns.LiesIn}
use Rattle.control_core.specs.device_rules.specs.Legal.{Legal}
use Rattle.dcd_base.specs.declared.steps.{Actor.Actor, Stamp.Stamp}
use Rattle.block_shard.specs.journal_core.specs.{Entries.effects, declared.acts.Act.Act, declared.acts.Reply.Reply, declared.entries.Entry.Entry}
use Rattle.block_shard.specs.ruled_cells.specs.{Reads.about_of, Seats.HasCell, Seats.HasFirst, Seats.NoCell, Seats.seat_number, Seats.seat_view, Stamps.Below, Stamps.has_index}
use Rattle.block_shard.specs.ruled_cells.specs.{Telling.begun, Telling.noted_view, declared.about.SeatView.SeatView, declared.seat.Seat.Seat}
use Rattle.block_shard.specs.shard_laws.specs.{Belonging.touches_shard, Stripes.Stripe}
use Rattle.region_config.specs.Granules.{granule_total}
use Rattle.shared_device.specs.Commanding.{Commanding, commanding_reads}

-- ---- plans

-- the plan is the next step of the control, which has the memory that it needs
pub record IsNextStep (c : Commanding) (plan : Plan) : Type 0 where
  pub room : 0 < c.spare
  pub next : IsNextEntry (record { config = c.config; entries = c.entries; spare = c.spare }) plan.entry
  pub short : IsShort plan.entry.reply
  pub changes : AreChanges c.config (effects c.entries) plan.entry.effects plan.changes
  pub inside : All (LiesIn (granule_total c.config)) plan.changes

-- the entry is that of a call
pub record IsOfCall (pass line : ℕ) (actor : Actor) (act : Act) (e : Entry) : Type 0 where
  pub pass_is : e.pass ≡ pass
  pub line_is : e.line ≡ line
  pub actor_is : e.actor ≡ actor
  pub act_is : e.act ≡ act

-- d is the control c but for its room
pub record IsSameControl (c d : Commanding) : Type 0 where
  pub config_is : d.config ≡ c.config
  pub actors_are : d.actors ≡ c.actors
  pub entries_are : d.entries ≡ c.entries

-- d is the control c with one more entry
pub record HasOneMore (c d : Commanding) (e : Entry) : Type 0 where
  pub config_is : d.config ≡ c.config
  pub actors_are : d.actors ≡ c.actors
  pub entries_are : d.entries ≡ c.entries ++ e ∷ []
  pub legal : Legal d.config d.entries

-- ---- turns

-- The seat has the turn of the control, whose value is now c, and may make the plan's entry a call of its own.
pub record MayEnterStep (s : Seat Commanding Stripe) (c : Commanding) (plan : Plan) : Type 0 where
  pub taken : Commanding
  pub turn : HasFirst s taken
  pub about_is : about_of commanding_reads taken ≡ (seat_view s).about
  pub same : IsSameControl taken c
  pub step : IsNextStep c plan
  pub idle : (seat_view s).entry ≡ None
  pub pass_is : plan.entry.pass ≡ seat_number s
  pub actor_is : get_elem? (seat_view s).about.actors (seat_number s) ≡ some plan.entry.actor
  pub room : length (seat_view s).calls < 2 ^ 32

-- The seat has the turn of the control and no other, and the control has the entries that it had.
pub record HasOnlyFirst (s : Seat Commanding Stripe) (c : Commanding) : Type 0 where
  pub taken : Commanding
  pub turn : HasFirst s taken
  pub same : IsSameControl taken c
  pub legal : Legal taken.config taken.entries
  pub no_others : (k : ℕ) → NoCell s k

-- the entry touches no shard from an index on, below another
abbrev pub AreApart : ℕ → ℕ → Entry → Type 0
AreApart from until e = (k : ℕ) → from ≤ k → k < until → touches_shard k e ≡ false

-- of the shards below an index the seat has the turns of those that the entry touches, and it has none from the index on
pub record HasTouched (s : Seat Commanding Stripe) (index : ℕ) (e : Entry) : Type 0 where
  pub below : (k : ℕ) → k < index → touches_shard k e ≡ true → (x : Stripe) × HasCell s k x
  pub no_others : (k : ℕ) → index ≤ k → NoCell s k

-- The seat noted the entry, and then gave back the shards from an index on that it touches, as it changes them.
pub record HasNoted (index : ℕ) (e : Entry) (v v' : SeatView) : Type 0 where
  pub changed : List ℕ
  pub view_is : v' ≡ record (noted_view e v) { changed = changed }
  pub above : Below v.seen e.stamp
  pub done : (k : ℕ) → index ≤ k → k < 16 → touches_shard k e ≡ true → has_index (suc k) changed ≡ true
  pub not_yet : (k : ℕ) → k < index → has_index (suc k) changed ≡ false

-- ---- calls

-- the seat made one more call, of this line, act, reply and stamp
pub record HasCommanded (line : ℕ) (act : Act) (reply : Reply) (stamp : Stamp) (v v' : SeatView) : Type 0 where
  pub entry : Entry
  pub view_is : v' ≡ begun (noted_view entry v)
  pub line_is : entry.line ≡ line
  pub act_is : entry.act ≡ act
  pub reply_is : entry.reply ≡ reply
  pub stamp_is : entry.stamp ≡ stamp
  pub above : Below v.seen stamp
