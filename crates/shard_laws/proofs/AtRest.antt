-- What the cells tell of a shard at the end is what the whole journal asks.
use Rattle.std.proofs.Common.{◌≡◌, inl, inr, ℕ, zero, suc, ◌<◌, ◌≤◌, get_or, false, List, [], ◌∷◌, length, refl, subst, arith}
use Rattle.std.proofs.lemmas.Bool.{cases_lt}
use mathlib.Core.Option.{some}
use lib.ListN.{get_elem?}
use Rattle.journal_core.{specs.declared.entries.Entry.Entry, specs.Entries.Each, specs.Entries.is_control, specs.Merging.Rising, specs.Merging.merged, proofs.Splits.all_from_places}
use Rattle.ruled_cells.specs.{declared.about.About.About, Reads.ChiefReads, Stamps.Rise}
use Rattle.shard_laws.{specs.Belonging.shard_in, specs.Owed.RestsLawful, specs.Right.AccessMeets, specs.Stripes.Stripe, proofs.NextStamps.below_not_later}

at_get : (entries : List Entry) (k : ℕ) (d : Entry) → k < length entries → get_elem? entries k ≡ some (get_or entries k d)
at_get [] k d under = absurd (omega (arith, under))
at_get (e ∷ entries) zero d under = refl
at_get (e ∷ entries) (suc k) d under = at_get entries k d (omega (arith, under))

rising_of : (entries : List Entry) → Rise entries → Rising entries
rising_of entries rise = λ i j d first under.
    below_not_later (get_or entries i d).stamp (get_or entries j d).stamp
    (rise i j (get_or entries i d) (get_or entries j d) first (at_get entries i d (omega (arith, first, under))) (at_get entries j d under))

pub rests_lawful : {F : Type 0} (chief : ChiefReads F) (about : About) (log : List Entry) (k : ℕ) (x : Stripe) → RestsLawful chief about log k x
rests_lawful chief about log k x rest = record {
  access = all_from_places (λ (e : Entry). is_control e.act ≡ false) x.entries (λ j e at. (rest.own j e at).access);
  here = all_from_places (λ (e : Entry). shard_in about.config e ≡ k) x.entries (λ j e at. (rest.own j e at).belongs);
  low = all_from_places (λ (e : Entry). e.stamp.number ≤ length log) x.entries (λ j e at. elim (cases_lt x.clock.number e.stamp.number) [
    | inl above ↦ absurd (rest.tidy j e at (inl above))
    | inr under ↦ let most = rest.low in omega (arith, under, most)
  ]);
  counted = all_from_places (λ (e : Entry). 1 ≤ e.stamp.count) x.entries (λ j e at. let some_count = (rest.own j e at).counted in omega (arith, some_count));
  rising = rising_of x.entries rest.rise;
  meets = subst (λ c. Each (AccessMeets c) (merged log (x.entries ∷ []))) rest.config_is rest.right.1.meets;
}
