-- What the entries of a merge weigh, and the calls that weigh what a pass's entries of it weigh.
use Rattle.std.proofs.Common.{◌≡◌, inl, inr, ℕ, zero, suc, ◌+◌, ◌≤◌, Bool, true, false, cond, ◌==◌, List, [], ◌∷◌, ◌++◌, sym, ap, ◌∙◌, refl, arith}
use Rattle.std.proofs.lemmas.{Bool.cases_Bool, Bool.Decides.nat_tests, List.Elements.All-cons, List.Elements.All-head, List.Elements.All-nil, List.Elements.All-tail, List.Elements.All-weaker}
use Rattle.std.{proofs.lemmas.List.Kept.AllPairs-filter, specs.List.filter}
use Rattle.std.specs.Prelude.{fold, flat_map, map, All, IsFalse, if◌then◌else◌}
use mathlib.Core.Option.{some, some-injective, some-ne-none}
use lib.ListN.{get_elem?}
use Rattle.dcd_base.specs.declared.steps.Stamp.{Stamp}
use Rattle.block_shard.specs.journal_core.proofs.{Merges.merged-rising, Splits.pairs_head, Splits.pairs_tail}
use Rattle.block_shard.specs.journal_core.specs.{Merging.Rising, Merging.call_of, Merging.calls_of, Merging.insert_entry, Merging.is_later, Merging.merged, declared.entries.Entry.Entry}
use Rattle.block_shard.specs.ruled_cells.specs.Booking.{own, weigh, weight_one}
use Rattle.shared_device.proofs.ToldCalls.{same_call}

pub weigh_append : (h : Entry → ℕ) (a b : List Entry) → weigh h (a ++ b) ≡ weigh h a + weigh h b
weigh_append h [] b = omega arith
weigh_append h (e ∷ a) b = let q = weigh_append h a b in omega (arith, q)

weigh_inserted : (h : Entry → ℕ) (e : Entry) (j : List Entry) → weigh h (insert_entry e j) ≡ h e + weigh h j
weigh_inserted h e [] = refl
weigh_inserted h e (f ∷ j) = by (is_later f.stamp e.stamp) (weigh_inserted h e j)
  where
    by : (b : Bool) → weigh h (insert_entry e j) ≡ h e + weigh h j → weigh h (cond b (e ∷ f ∷ j) (f ∷ insert_entry e j)) ≡ h e + (h f + weigh h j)
    by true q = refl
    by false q = omega (arith, q)

weigh_folded : (h : Entry → ℕ) (done es : List Entry) → weigh h (fold (λ j e. insert_entry e j) done es) ≡ weigh h done + weigh h es
weigh_folded h done [] = omega arith
weigh_folded h done (e ∷ es) = let q = weigh_folded h (insert_entry e done) es in let r = weigh_inserted h e done in omega (arith, q, r)

pub weigh_merged : (h : Entry → ℕ) (control : List Entry) (shards : List (List Entry)) → weigh h (merged control shards) ≡ weigh h control + weigh h (flat_map (λ shard. shard) shards)
weigh_merged h control shards = let q = weigh_folded h [] (control ++ flat_map (λ shard. shard) shards) in let r = weigh_append h control (flat_map (λ shard. shard) shards) in omega (arith, q, r)

weigh_own : (j : ℕ) (h : Entry → ℕ) (es : List Entry) → weigh (own j h) es ≡ weigh h (filter (λ (e : Entry). e.pass == j) es)
weigh_own j h [] = refl
weigh_own j h (e ∷ es) = by (e.pass == j) (weigh_own j h es)
  where
    by : (b : Bool) → weigh (own j h) es ≡ weigh h (filter (λ (e : Entry). e.pass == j) es) →
        (if b then h e else 0) + weigh (own j h) es ≡ weigh h (cond b (e ∷ filter (λ (e : Entry). e.pass == j) es) (filter (λ (e : Entry). e.pass == j) es))
    by true q = omega (arith, q)
    by false q = omega (arith, q)

weighs_none : (g : Entry → ℕ) (es : List Entry) → All (λ (e : Entry). g e ≡ 0) es → weigh g es ≡ 0
weighs_none g [] all = refl
weighs_none g (e ∷ es) all = let q = All-head (λ (e : Entry). g e ≡ 0) e es all in let r = weighs_none g es (All-tail (λ (e : Entry). g e ≡ 0) e es all) in omega (arith, q, r)

none_weighs : (g : Entry → ℕ) (es : List Entry) → weigh g es ≡ 0 → All (λ (e : Entry). g e ≡ 0) es
none_weighs g [] is = All-nil (λ (e : Entry). g e ≡ 0)
none_weighs g (e ∷ es) is = All-cons (λ (e : Entry). g e ≡ 0) e es (omega (arith, is)) (none_weighs g es (omega (arith, is)))

-- an entry that weighs something makes the whole weigh as much at least
pub weighs_least : (h : Entry → ℕ) (es : List Entry) (k : ℕ) (e : Entry) → get_elem? es k ≡ some e → h e ≤ weigh h es
weighs_least h [] k e at = absurd (some-ne-none e (sym at))
weighs_least h (x ∷ es) zero e at = let q = ap h (some-injective x e at) in omega (arith, q)
weighs_least h (x ∷ es) (suc k) e at = let q = weighs_least h es k e at in omega (arith, q)

-- ---- in order

-- each stamp is below those behind it
abbrev pub Climbs : List Entry → Type 0
Climbs [] = Unit {0}
Climbs (e ∷ es) = All (λ (f : Entry). is_later f.stamp e.stamp ≡ true) es × Climbs es

-- a weight for those whose stamp is not later alone
abbrev upto : Stamp → (Entry → ℕ) → Entry → ℕ
upto s h e = if is_later e.stamp s then 0 else h e

not_itself : (s : Stamp) → is_later s s ≡ false
not_itself s = grind (arith, nat_tests)

later_still : (s t u : Stamp) → is_later t s ≡ true → IsFalse (is_later t u) → is_later u s ≡ true
later_still s t u first second = grind (arith, nat_tests)

counts : (s : Stamp) (h : Entry → ℕ) (e : Entry) → is_later e.stamp s ≡ false → upto s h e ≡ h e
counts s h e low = ap (λ b. if b then 0 else h e) low

counts_not : (s : Stamp) (h : Entry → ℕ) (es : List Entry) → All (λ (f : Entry). is_later f.stamp s ≡ true) es → weigh (upto s h) es ≡ 0
counts_not s h es all = weighs_none (upto s h) es (All-weaker (λ (f : Entry). is_later f.stamp s ≡ true) (λ (f : Entry). upto s h f ≡ 0) (λ f later. ap (λ b. if b then 0 else h f) later) es all)

no_zero : (s : Stamp) (f : Entry) → upto s weight_one f ≡ 0 → is_later f.stamp s ≡ true
no_zero s f none = elim (cases_Bool (is_later f.stamp s)) [
  | inl later ↦ later
  | inr low ↦ absurd (let q = counts s weight_one f low in omega (arith, q, none))
]

pub same_calls : (calls entries : List Entry) → Climbs calls → Rising entries → ((h : Entry → ℕ) → weigh h calls ≡ weigh h entries) → map call_of calls ≡ map call_of entries
same_calls [] [] climbs up same = refl
same_calls [] (x ∷ xs) climbs up same = absurd (let q = same weight_one in omega (arith, q))
same_calls (e ∷ cs) [] climbs up same = absurd (let q = same weight_one in omega (arith, q))
same_calls (e ∷ cs) (x ∷ xs) climbs up same = λ i. same_call e x alike i ∷ same_calls cs xs climbs.1 (pairs_tail (λ (a b : Entry). IsFalse (is_later a.stamp b.stamp)) x xs up) (λ h. let q = same h in let r = alike h in omega (arith, q, r)) i
  where
    behind : All (λ (y : Entry). IsFalse (is_later x.stamp y.stamp)) xs
    behind = pairs_head (λ (a b : Entry). IsFalse (is_later a.stamp b.stamp)) x xs up

    first : weigh (upto e.stamp weight_one) (e ∷ cs) ≡ 1
    first = let q = counts e.stamp weight_one e (not_itself e.stamp) in let r = counts_not e.stamp weight_one cs climbs.0 in omega (arith, q, r)

    low : is_later x.stamp e.stamp ≡ false
    low = elim (cases_Bool (is_later x.stamp e.stamp)) [
      | inr not_later ↦ not_later
      | inl later ↦ absurd (
          let none = counts_not e.stamp weight_one (x ∷ xs) (All-cons (λ (f : Entry). is_later f.stamp e.stamp ≡ true) x xs later
          (All-weaker (λ (y : Entry). IsFalse (is_later x.stamp y.stamp)) (λ (f : Entry). is_later f.stamp e.stamp ≡ true) (λ y b. later_still e.stamp x.stamp y.stamp later b) xs behind)) in
          let q = same (upto e.stamp weight_one) in let r = first in omega (arith, none, q, r))
    ]

    rest_later : All (λ (f : Entry). is_later f.stamp e.stamp ≡ true) xs
    rest_later =
        let q = same (upto e.stamp weight_one) in let r = first in let z = counts e.stamp weight_one x low in
        All-weaker (λ (f : Entry). upto e.stamp weight_one f ≡ 0) (λ (f : Entry). is_later f.stamp e.stamp ≡ true) (λ f none. no_zero e.stamp f none) xs (none_weighs (upto e.stamp weight_one) xs (omega (arith, q, r, z)))

    alike : (h : Entry → ℕ) → h e ≡ h x
    alike h =
        let q = same (upto e.stamp h) in
        let a = counts e.stamp h e (not_itself e.stamp) in
        let b = counts_not e.stamp h cs climbs.0 in
        let c = counts e.stamp h x low in
        let d = counts_not e.stamp h xs rest_later in omega (arith, q, a, b, c, d)

-- the calls of a pass are its entries of the merge, in order
pub calls_in_merge : (j : ℕ) (control : List Entry) (shards : List (List Entry)) (calls : List Entry) → Climbs calls →
    ((h : Entry → ℕ) → weigh h calls ≡ weigh (own j h) control + weigh (own j h) (flat_map (λ shard. shard) shards)) → map call_of calls ≡ calls_of j (merged control shards)
calls_in_merge j control shards calls climbs same =
    same_calls calls (filter (λ (e : Entry). e.pass == j) (merged control shards)) climbs
    (AllPairs-filter (λ (e f : Entry). IsFalse (is_later e.stamp f.stamp)) (λ (e : Entry). e.pass == j) (merged control shards) (merged-rising control shards))
    (λ h. same h ∙ sym (weigh_merged (own j h) control shards) ∙ weigh_own j h (merged control shards))
