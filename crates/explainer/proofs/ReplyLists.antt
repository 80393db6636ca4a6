-- Parts, hosts and items that are put one after another.
use Rattle.std.proofs.Common.{◌≡◌, ℕ, zero, suc, ◌+◌, ◌-◌, ◌*◌, ◌<◌, ◌≤◌, List, [], ◌∷◌, ◌++◌, take, drop, sym, ap, ◌∙◌, append-nil, append_assoc, arith}
use Rattle.std.{proofs.Math.Nat.mul-suc, specs.List.flat_map, specs.Prelude.OnOk, specs.declared.result.Result.Result}
use Rattle.std.specs.declared.result.Result.TheVariants.{Ok, Err}
use Rattle.dcd_base.specs.Layouts.{pieces}
use Rattle.explainer.specs.PartWords.{host_where, hosts_below}

-- ---- one part after another
pub put_then : {b c : List ℕ} (a x y : List ℕ) → b ≡ a ++ x → c ≡ b ++ y → c ≡ a ++ (x ++ y)
put_then a x y first next = next ∙ ap (λ (text : List ℕ). text ++ y) first ∙ append_assoc a x y

-- the last of them, which may not be put
pub put_last : {A E : Type 0} {b : List ℕ} (a x c y : List ℕ) (r : Result A E) → b ≡ a ++ x → OnOk r (c ≡ b ++ y) → OnOk r (c ≡ a ++ (x ++ y))
put_last a x c y (Ok done) first next = put_then a x y first next
put_last a x c y (Err fault) first next = tt

-- ---- hosts
pub no_host : (hosts : ℕ) (old : List ℕ) → old ≡ old ++ hosts_below hosts 0
unfolding hosts_below
no_host hosts old = sym (append-nil old)

pub one_host : (hosts n : ℕ) (old out new : List ℕ) → out ≡ old ++ hosts_below hosts n → new ≡ out ++ host_where hosts n → new ≡ old ++ hosts_below hosts (n + 1)
unfolding hosts_below
one_host hosts n old out new before is =
    let next : n + 1 ≡ suc n = omega arith in
    is ∙ ap (λ (text : List ℕ). text ++ host_where hosts n) before ∙ append_assoc old (hosts_below hosts n) (host_where hosts n) ∙ ap (λ k. old ++ hosts_below hosts k) (sym next)

-- ---- items

-- the text of one more item stands before that of those which are left
pub one_item : (f : List ℕ → List ℕ) (size n i : ℕ) (out new rest all : List ℕ) → i < n → new ≡ out ++ f (take size rest)
    → out ++ flat_map f (pieces size (n - i) rest) ≡ all → new ++ flat_map f (pieces size (n - (i + 1)) (drop size rest)) ≡ all
one_item f size n i out new rest all less is before =
    let more : n - i ≡ suc (n - (i + 1)) = omega (arith, less) in
    ap (λ (text : List ℕ). text ++ flat_map f (pieces size (n - (i + 1)) (drop size rest))) is
    ∙ append_assoc out (f (take size rest)) (flat_map f (pieces size (n - (i + 1)) (drop size rest)))
    ∙ ap (λ k. out ++ flat_map f (pieces size k rest)) (sym more) ∙ before

-- and so many bytes are left for those
pub items_left : (size n i have left : ℕ) → i < n → size * (n - i) ≤ have → left ≡ have - size → size * (n - (i + 1)) ≤ left
items_left size n i have left less enough is =
    let more : n - i ≡ suc (n - (i + 1)) = omega (arith, less) in
    omega (arith, enough, is, ap (λ k. size * k) more ∙ mul-suc size (n - (i + 1)))
