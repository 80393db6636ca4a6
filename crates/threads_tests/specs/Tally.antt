-- A counter with its history: a small value of a cell, for the tests.
-- It counts its accesses, and the scrubs of the journal that name its index.
use Rattle.std.specs.Prelude.{◌≡◌, ℕ, ◌+◌, ◌<◌, Bool, false, ◌==◌, List, [], ◌∷◌, ◌++◌, length, if◌then◌else◌, max, ◌⊎◌, None}
use Rattle.std.proofs.{Common.refl, Common.ap, Common.◌∙◌, Common.arith, Common.cond, lemmas.List.length_push}
use mathlib.Core.Option.{some}
use lib.ListN.{get_elem?}
use Rattle.dcd_base.specs.declared.steps.{Stamp.Stamp, Actor.Actor}
use Rattle.region_config.specs.Configurations.{Configuration}
use Rattle.journal_core.specs.{declared.acts.Act.Act, declared.entries.Entry.Entry, Entries.is_control}
use Rattle.script_runner.specs.shared_device.specs.ruled_cells.specs.{Booking.weigh, Laws.AccessEnters, Laws.ChangeIs, Laws.Stays, Laws.AccessKeeps, Laws.ChangeMakes}
use Rattle.script_runner.specs.shared_device.specs.ruled_cells.specs.{Reads.ChiefReads, Reads.MemberReads, Stamps.stamp, declared.about.SeatView.SeatView}

pub record Tally : Type 0 where
  pub index : ℕ
  pub value : ℕ
  pub entries : List Entry
  pub clock : Stamp

abbrev pub no_config : Configuration
no_config = record { hosts = 0; regions = []; bases = [] }

-- the scrub turns the counter of the index
abbrev pub scrubs : ℕ → Act → Bool
scrubs index (Act.Command q) = false
scrubs index (Act.Load d) = false
scrubs index (Act.Store d value) = false
scrubs index (Act.Scrub n) = n == index

abbrev pub turns : ℕ → Entry → Bool
turns index e = scrubs index e.act

abbrev pub turned : ℕ → Entry → ℕ
turned index e = if turns index e then 1 else 0

-- the counter has counted its accesses and the scrubs that name it
abbrev pub counts : ℕ → Tally → List Entry → Type 0
counts index x log = (x.index ≡ index) × (x.value ≡ length x.entries + weigh (turned index) log)

-- one access is counted
pub record Adds (index seat : ℕ) (actor : Actor) (x y : Tally) : Type 0 where
  pub entry : Entry
  pub is : y ≡ record x { value = x.value + 1; entries = x.entries ++ entry ∷ []; clock = entry.stamp }
  pub access : is_control entry.act ≡ false
  pub counted : 0 < entry.stamp.count
  pub pass : entry.pass ≡ seat
  pub actor_is : entry.actor ≡ actor

-- a scrub is counted, if it names the counter
abbrev pub follows : Entry → Tally → Tally → Type 0
follows e x y = y ≡ record x { value = x.value + turned x.index e; clock = e.stamp }

abbrev pub anywhere : Configuration → ℕ → Entry → Type 0
anywhere c index e = Unit {0}

-- what the rule of the cells reads of it
abbrev pub tally_reads : MemberReads Tally
tally_reads = record {
  config = λ x. no_config;
  entries = λ x. x.entries;
  clock = λ x. x.clock;
  touches = turns;
  belongs = anywhere;
  right = counts;
  access = Adds;
  change = follows;
}

-- what it reads of a journal of scrubs
abbrev pub ledger_reads : ChiefReads (List Entry)
ledger_reads = record {
  journal = λ ledger. ledger;
  config = λ ledger. no_config;
  actors = λ ledger. Actor.Sanitizer ∷ Actor.Sanitizer ∷ [];
  sound = λ ledger. Unit {0};
}

-- the first stamp above both whose number is one of theirs
abbrev pub above_both : Stamp → Stamp → Stamp
above_both s t = record { number = max s.number t.number; count = max s.count t.count + 1 }

-- one access of the seat is counted, above what it has seen
pub record IsAdded (seat : ℕ) (seen : Stamp) (x y : Tally) : Type 0 where
  pub adds : Adds x.index seat Actor.Sanitizer x y
  pub clock_is : y.clock ≡ above_both seen x.clock

-- nothing was done, or one access
abbrev pub MayHaveAdded : ℕ → Stamp → Tally → Tally → Stamp → Type 0
MayHaveAdded seat seen x y after = ((y ≡ x) × (after ≡ seen)) ⊎ (IsAdded seat seen x y × (after ≡ y.clock))

-- the seat may work: it is in the midst of no command, and has an actor
pub record IsIdle (number : ℕ) (seen : Stamp) (v : SeatView) : Type 0 where
  pub entry : v.entry ≡ None
  pub actor : get_elem? v.about.actors number ≡ some Actor.Sanitizer
  pub seen_is : seen ≡ v.seen

-- the seat has made no call yet
abbrev pub IsUnused : SeatView → Type 0
IsUnused v = (v.seen ≡ stamp 0 0) × (v.calls ≡ [])

-- ---- the laws

weigh-more : (h : Entry → ℕ) (log : List Entry) (e : Entry) → weigh h (log ++ e ∷ []) ≡ weigh h log + h e
weigh-more h [] e = omega arith
weigh-more h (x ∷ log) e = let q = weigh-more h log e in omega (arith, q)

pub tally_enters : AccessEnters (λ (x : Tally). no_config) (λ x. x.entries) (λ x. x.clock) anywhere Adds
tally_enters k seat actor x y h = record {
  entry = h.entry;
  config_is = refl;
  entries_are = ap (λ (t : Tally). t.entries) h.is;
  belongs_here = tt;
  access = h.access;
  counted = h.counted;
  pass = h.pass;
  actor_is = h.actor_is;
  clock_is = ap (λ (t : Tally). t.clock) h.is;
}

pub tally_changes : ChangeIs (λ (x : Tally). no_config) (λ x. x.entries) (λ x. x.clock) follows
tally_changes e x y h = record { config_is = refl; entries_are = ap (λ (t : Tally). t.entries) h; clock_is = ap (λ (t : Tally). t.clock) h }

pub tally_stays : Stays (λ (x : Tally). x.entries) (λ x. x.clock) turns counts
tally_stays k x log e control tidy low apart right =
    let w = weigh-more (turned k) log e in
    let z : turned k e ≡ 0 = ap (λ b. cond b 1 0) apart in
    let v = right.1 in (right.0, omega (arith, w, z, v))

pub tally_keeps : AccessKeeps (λ (x : Tally). x.entries) (λ x. x.clock) counts Adds
tally_keeps k seat actor x y log control tidy above h right =
    let v = right.1 in
    let value : y.value ≡ x.value + 1 = ap (λ (t : Tally). t.value) h.is in
    let long : length y.entries ≡ length x.entries + 1 = ap (λ (t : Tally). length t.entries) h.is ∙ length_push x.entries h.entry in
    (ap (λ (t : Tally). t.index) h.is ∙ right.0, omega (arith, v, value, long))

pub tally_makes : ChangeMakes (λ (x : Tally). x.entries) (λ x. x.clock) counts follows
tally_makes k x y log e control tidy above h right =
    let w = weigh-more (turned k) log e in
    let v = right.1 in
    let value : y.value ≡ x.value + turned k e = ap (λ (t : Tally). t.value) h ∙ ap (λ (i : ℕ). x.value + turned i e) right.0 in
    let same : length y.entries ≡ length x.entries = ap (λ (t : Tally). length t.entries) h in
    (ap (λ (t : Tally). t.index) h ∙ right.0, omega (arith, w, v, value, same))
