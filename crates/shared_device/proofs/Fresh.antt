-- Fresh cells.
use Rattle.std.proofs.Common.{◌≡◌, ℕ, suc, ◌+◌, List, [], ◌∷◌, ◌++◌, length, sym, ap, ◌∙◌, subst, ⊎_elim, arith}
use mathlib.Core.Option.{some}
use lib.ListN.{get_elem?}
use Rattle.control_core.specs.device_rules.specs.Legal.{Legal}
use Rattle.region_config.specs.Configurations.{Configuration}
use Rattle.block_shard.specs.ruled_cells.{proofs.MakingSteps.each_front, proofs.Places.at_push, specs.Ruling.names, specs.Telling.MayOpen}
use Rattle.block_shard.specs.shard_laws.specs.{Changing.IsFreshStripe, Right.IsRight, Right.stripe_reads, Stripes.Stripe}
use Rattle.shared_device.specs.Commanding.{Commanding, commanding_reads}

-- what holds of each item and its place, once there is one more
pub each_more : {A : Type 0} (P : ℕ → A → Type 0) (l m : List A) (a : A) (n : ℕ) → m ≡ l ++ a ∷ [] → length l ≡ n → ((k : ℕ) (x : A) → get_elem? l k ≡ some x → P k x) → P n a
    → (k : ℕ) (x : A) → get_elem? m k ≡ some x → P k x
each_more {A} P l m a n is long each last k x e = ⊎_elim (λ (p : get_elem? l k ≡ some x). each k x p)
    (λ (p : (a ≡ x) × (k ≡ length l)). subst (λ (t : ℕ × A). P t.0 t.1) (λ i. (sym (p.1 ∙ long) i, p.0 i)) last)
    (at_push l a x k (ap (λ (z : List A). get_elem? z k) (sym is) ∙ e))

-- the same, once there is one more before the others, where the first has the number n
pub each_led : {A : Type 0} (P : ℕ → A → Type 0) (l m : List A) (a : A) (n next : ℕ) → m ≡ a ∷ l → next ≡ n + 1 → P n a → ((k : ℕ) (x : A) → get_elem? l k ≡ some x → P (next + k) x)
    → (k : ℕ) (x : A) → get_elem? m k ≡ some x → P (n + k) x
each_led {A} P l m a n next is one first rest k x e =
    let zero : n ≡ n + 0 = omega arith in
    each_front (λ j y. P (n + j) y) a l (subst (λ j. P j a) zero first)
    (λ j y at. let moved : next + j ≡ n + suc j = omega (arith, one) in subst (λ i. P i y) moved (rest j y at))
    k x (ap (λ (z : List A). get_elem? z k) (sym is) ∙ e)

pub may_open : (c : Configuration) (first : Commanding) (rest : List Stripe) → first.config ≡ c → first.entries ≡ [] → ((k : ℕ) (x : Stripe) → get_elem? rest k ≡ some x → IsFreshStripe c k x × IsRight k x [])
    → MayOpen (names commanding_reads stripe_reads) first rest
may_open c first rest config empty fresh = record {
  sound = subst (Legal first.config) (sym empty) tt;
  empty = empty;
  bare = λ k x at. let f = fresh k x at in (f.0.entries_are, f.0.clock_is, f.0.config_is ∙ sym config, f.1);
}
