-- What the cells leave once all turns are given back is one journal, with the calls of each pass in it.
use Rattle.std.proofs.Common.{◌≡◌, inl, inr, ℕ, zero, suc, ◌<◌, true, ◌&&◌, ◌==◌, List, [], ◌∷◌, map, refl, sym, ap, ◌∙◌, subst, eq-eqb, arith}
use Rattle.std.{specs.Prelude.All, specs.Prelude.flat_map, specs.Prelude.nat_lt, proofs.lemmas.Bool.and_from, proofs.lemmas.Bool.lt-ltb, proofs.lemmas.Bool.or_left, proofs.lemmas.Bool.or_right}
use mathlib.Core.Logic.{dite}
use mathlib.Core.Option.{some, some-injective, some-ne-none}
use native.Mathlib.Decide.{dec_lt}
use lib.ListN.{get_elem?, length-map}
use Rattle.dcd_base.specs.declared.steps.Stamp.{Stamp}
use Rattle.control_core.specs.device_rules.{specs.Legal.Legal, proofs.ExclusiveHolding.legal_exclusive}
use Rattle.block_shard.specs.journal_core.proofs.{Filters.all_flat, MergedFilters.merged-all, Splits.all_at, Splits.all_from_places}
use Rattle.block_shard.specs.journal_core.specs.{Merging.AllRise, Merging.Numbered, Merging.Rising, Merging.call_of, Merging.calls_of, Merging.is_later, Merging.merged, declared.entries.Entry.Entry}
use Rattle.block_shard.specs.ruled_cells.{proofs.Places.map_at, proofs.Weights.own-same, specs.Booking.Fits, specs.Booking.own, specs.Booking.weigh, specs.Booking.weigh_all, specs.Booking.weight_one}
use Rattle.block_shard.specs.ruled_cells.specs.{Calls.AccountFor, Calls.AreAll, Calls.IsOf, Calls.NoOthers, Calls.opened_with, Calls.seats_of, Reads.about_of, Resting.Accounts, Resting.IsAtRest}
use Rattle.block_shard.specs.ruled_cells.specs.{Ruling.Names, Ruling.names, Seats.NoTurns, Seats.seat_view, Stamps.Below, Stamps.Rise, Telling.values, declared.about.About.About}
use Rattle.block_shard.specs.{ruled_cells.specs.declared.cell_value.CellValue.TheVariants.Rest, ruled_cells.specs.declared.seat.Seat.Seat, shard_laws.proofs.AtRest.rests_lawful}
use Rattle.block_shard.specs.shard_laws.{proofs.ControlLogs.control_of_merged, proofs.LawfulMerge.merges_legally, proofs.ShardParts.all_accesses, specs.Lawful.AreShardLogs, specs.Lawful.IsShardLog}
use Rattle.block_shard.specs.shard_laws.specs.{Right.stripe_reads, Stripes.Stripe}
use Rattle.region_config.specs.Soundness.{IsSound}
use Rattle.shared_device.proofs.WeighedCalls.{Climbs, calls_in_merge, weigh_append, weigh_merged, weighs_least}
use Rattle.shared_device.specs.{Closing.AreAllPasses, Closing.HasCalls, Closing.IsClosed, Commanding.Commanding, Commanding.commanding_reads, Passing.pass_actor, Passing.pass_number}
use Rattle.shared_device.specs.declared.{pass.Pass.Pass, shared.Shared.Shared}

-- ---- the seats of the passes

at_mapped : {A B : Type 0} (f : A → B) (xs : List A) (k : ℕ) (x : A) → get_elem? xs k ≡ some x → get_elem? (map f xs) k ≡ some (f x)
at_mapped f [] k x at = absurd (some-ne-none x (sym at))
at_mapped f (y ∷ xs) zero x at = ap (λ z. some (f z)) (some-injective y x at)
at_mapped f (y ∷ xs) (suc k) x at = at_mapped f xs k x at

abbrev pub seat_list : List Pass → List (Seat Commanding Stripe)
seat_list passes = map (λ (p : Pass). p.seat) passes

pub are_all_seats : (s : Shared) (passes : List Pass) → AreAllPasses s passes → AreAll s.cells (seat_list passes)
are_all_seats s passes all = record {
  some_seat = let some_pass = all.some_pass in let l = length-map passes (λ (p : Pass). p.seat) in omega (arith, some_pass, l);
  of = λ k seat at. let found = map_at (λ (p : Pass). p.seat) passes k seat at in subst (λ z. IsOf s.cells z) found.2 (all.of k found.0 found.1).seat;
  no_turns = λ k seat at. let found = map_at (λ (p : Pass). p.seat) passes k seat at in subst (λ (z : Seat Commanding Stripe). NoTurns z) found.2 found.0.resting;
  each = λ i under. let found = all.each i under in (found.0, found.1.seat, at_mapped (λ (p : Pass). p.seat) passes found.0 found.1 found.2, found.3);
}

-- ---- stamps

later_of : (s t : Stamp) → Below s t → is_later t s ≡ true
later_of s t (inl less) = or_left (nat_lt s.number t.number) ((s.number == t.number) && nat_lt s.count t.count) (lt-ltb s.number t.number less)
later_of s t (inr at) = or_right (nat_lt s.number t.number) ((s.number == t.number) && nat_lt s.count t.count) (and_from (s.number == t.number) (nat_lt s.count t.count) (eq-eqb s.number t.number at.0) (lt-ltb s.count t.count at.1))

climbs_of : (calls : List Entry) → Rise calls → Climbs calls
climbs_of [] rise = tt
climbs_of (e ∷ calls) rise = (
  all_from_places (λ (f : Entry). is_later f.stamp e.stamp ≡ true) calls (λ k f at. later_of e.stamp f.stamp (rise 0 (suc k) e f (omega arith) refl at)),
  climbs_of calls (λ i k f g under p q. rise (suc i) (suc k) f g (omega (arith, under)) p q),
)

-- ---- what is left

abbrev w : Names Commanding Stripe
w = names commanding_reads stripe_reads

abbrev pub entry_lists : List Stripe → List (List Entry)
entry_lists row = map (λ (x : Stripe). x.entries) row

weigh_row : (h : Entry → ℕ) (row : List Stripe) → weigh_all w h (map (λ x. Rest x) row) ≡ weigh h (flat_map (λ shard. shard) (entry_lists row))
weigh_row h [] = refl
weigh_row h (x ∷ row) = let q = weigh_row h row in let r = weigh_append h x.entries (flat_map (λ shard. shard) (entry_lists row)) in omega (arith, q, r)

module _ (about : About) (first : Commanding) (row : List Stripe) (rest : IsAtRest w about first row) where
  abbrev journal : List Entry
  journal = merged first.entries (entry_lists row)

  are_logs : AreShardLogs about.config first.entries (entry_lists row)
  are_logs k entries at =
      let found = map_at (λ (x : Stripe). x.entries) row k entries at in
      subst (λ es. IsShardLog about.config first.entries k es) found.2 (rests_lawful commanding_reads about first.entries k found.0 (rest.shard k found.0 found.1))

  pub lists_rise : AllRise (entry_lists row)
  lists_rise = all_from_places Rising (entry_lists row) (λ k entries at. (are_logs k entries at).rising)

  control_legal : Legal about.config first.entries
  control_legal = subst (λ (a : About). Legal a.config first.entries) rest.about_is rest.sound

  law : Legal about.config journal × Numbered journal
  law = merges_legally about.config first.entries (entry_lists row) rest.control control_legal are_logs

  -- each entry has the actor of the pass with its number
  abbrev HasItsActor : Entry → Type 0
  HasItsActor e = get_elem? about.actors e.pass ≡ some e.actor

  their_actors : All HasItsActor journal
  their_actors =
      merged-all HasItsActor first.entries (entry_lists row)
      (all_from_places HasItsActor first.entries rest.actors)
      (all_flat HasItsActor (entry_lists row) (λ k entries at.
      let found = map_at (λ (x : Stripe). x.entries) row k entries at in
      subst (All HasItsActor) found.2 (all_from_places HasItsActor found.0.entries (λ j e there. ((rest.shard k found.0 found.1).own j e there).actor))))

  calls_are : (number : ℕ) (calls : List Entry) → Accounts w first row number calls → calls_of number journal ≡ map call_of calls
  calls_are number calls told =
      sym (calls_in_merge number first.entries (entry_lists row) calls (climbs_of calls told.rising.1.rise)
      (λ h. let q = told.fits h in let r = weigh_row (own number h) row in omega (arith, q, r)))

  has_calls : (p : Pass) → (seat_view p.seat).about ≡ about → (seat_view p.seat).number ≡ pass_number p → Accounts w first row (seat_view p.seat).number (seat_view p.seat).calls → HasCalls journal p
  has_calls p about_is number_is told = record {
    calls = ap (λ n. calls_of n journal) (sym number_is) ∙ calls_are (seat_view p.seat).number (seat_view p.seat).calls told;
    actor = λ k e at mine.
        some-injective e.actor (pass_actor p)
        (sym (all_at HasItsActor journal k e at their_actors) ∙ (λ i. get_elem? (sym about_is i).actors (mine i)) ∙ p.acts);
  }

  -- a number of no pass is that of no entry
  not_there : (number : ℕ) (k : ℕ) (e : Entry) → get_elem? journal k ≡ some e → e.pass ≡ number → Fits w first.entries (values first row) number [] → ⊥
  not_there number k e at mine none =
      let zero_all = none weight_one in
      let q = weigh_merged (own number weight_one) first.entries (entry_lists row) in
      let r = weigh_row (own number weight_one) row in
      let least = weighs_least (own number weight_one) journal k e at in
      let one : own number weight_one e ≡ 1 = own-same number weight_one e mine in
      omega (arith, zero_all, q, r, least, one)

-- what never changes of the cells of the device
abbrev pub about_device : Shared → About
about_device s = about_of commanding_reads (opened_with s.cells)

pub is_closed : (s : Shared) (passes : List Pass) (first : Commanding) (row : List Stripe) → IsSound s.config → AreAllPasses s passes → IsAtRest w (about_device s) first row →
    AccountFor commanding_reads stripe_reads first row (seat_list passes) → NoOthers commanding_reads stripe_reads s.cells first row → IsClosed s.config (seats_of s.cells) passes first.entries (entry_lists row)
is_closed s passes first row sound all rest calls others =
    subst (λ c. IsClosed c (seats_of s.cells) passes first.entries (entry_lists row)) s.config_is record {
      legal = (law (about_device s) first row rest).0;
      exclusive = legal_exclusive (about_device s).config (subst IsSound (sym s.config_is) sound) (journal (about_device s) first row rest) (law (about_device s) first row rest).0;
      numbered = (law (about_device s) first row rest).1;
      commands = control_of_merged first.entries (entry_lists row) rest.control (all_accesses (about_device s).config first.entries rest.control (entry_lists row) (are_logs (about_device s) first row rest));
      each = λ k p at. has_calls (about_device s) first row rest p (all.of k p at).about (all.of k p at).number (calls k p.seat (at_mapped (λ (p : Pass). p.seat) passes k p at));
      no_others = λ k e at. dite (dec_lt e.pass (seats_of s.cells)) (λ (under : e.pass < seats_of s.cells). under)
          (λ above. absurd (not_there (about_device s) first row rest e.pass k e at refl (others e.pass (omega (arith, above)))));
    }
