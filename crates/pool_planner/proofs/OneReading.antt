-- Bytes state one script and one list of demands.
use Rattle.std.proofs.Common.{◌≡◌, ◌≢◌, ℕ, List, [], ◌∷◌, Ok, Err, refl, sym, ap, subst, ◌∙◌}
use Rattle.std.{proofs.lemmas.Option.same_Some, specs.List.AllZip, specs.Prelude.codes, specs.Prelude.option_and_then}
use Rattle.serde_json.specs.{Data.Data, Find.as_array, Find.as_number, Find.as_u64}
use Rattle.plan_rules.specs.DemandTexts.{IsArrayOf, IsReadAsDemands, IsWhole, MemberIs, StatesDemand, StatesDemands, items_in}
use Rattle.plan_rules.specs.declared.{demand_faults.DemandFault.DemandFault, demands.Demand.Demand, demands.Demands.Demands}

one_number : (d : Data) (m n : ℕ) → IsWhole d m → IsWhole d n → m ≡ n
one_number d m n a b = same_Some m n (ap (λ x. option_and_then as_u64 (as_number x)) (sym a.value ∙ b.value))

one_member : {X : Type 0} (Is : X → Data → Type 0) → ((d : Data) (x y : X) → Is x d → Is y d → x ≡ y)
    → (d : Data) (key : List ℕ) (x y : X) → MemberIs d key (Is x) → MemberIs d key (Is y) → x ≡ y
one_member Is one d key x y a b = one b.0 x y (subst (Is x) (same_Some _ _ (sym a.1 ∙ b.1)) a.2) b.2

one_number_at : (d : Data) (key : List ℕ) (m n : ℕ) → MemberIs d key (λ found. IsWhole found m) → MemberIs d key (λ found. IsWhole found n) → m ≡ n
one_number_at = one_member (λ n found. IsWhole found n) one_number

one_demand : (d : Data) (x y : Demand) → StatesDemand d x → StatesDemand d y → x ≡ y
one_demand d x y a b = λ i. record {
  host = one_number_at d (codes "host") x.host y.host a.host b.host i;
  region = one_number_at d (codes "region") x.region y.region a.region b.region i;
  blocks = one_number_at d (codes "blocks") x.blocks y.blocks a.blocks b.blocks i;
}

one_list : {X : Type 0} (States : Data → X → Type 0) → ((d : Data) (x y : X) → States d x → States d y → x ≡ y)
    → (ds : List Data) (xs ys : List X) → AllZip States ds xs → AllZip States ds ys → xs ≡ ys
one_list States one [] [] [] a b = refl
one_list States one [] [] (y ∷ ys) a b = absurd b
one_list States one [] (x ∷ xs) ys a b = absurd a
one_list States one (d ∷ ds) [] ys a b = absurd a
one_list States one (d ∷ ds) (x ∷ xs) [] a b = absurd b
one_list States one (d ∷ ds) (x ∷ xs) (y ∷ ys) a b = λ i. one d x y a.0 b.0 i ∷ one_list States one ds xs ys a.1 b.1 i

one_array : {X : Type 0} (States : Data → X → Type 0) → ((d : Data) (x y : X) → States d x → States d y → x ≡ y)
    → (d : Data) (xs ys : List X) → IsArrayOf States xs d → IsArrayOf States ys d → xs ≡ ys
one_array States one d xs ys a b =
    let same : a.items ≡ b.items = same_Some _ _ (ap as_array (sym a.is ∙ b.is)) in
    one_list States one (items_in b.items) xs ys (subst (λ items. AllZip States (items_in items) xs) same a.each) b.each

one_stated : (d : Data) (p q : Demands) → StatesDemands d p → StatesDemands d q → p ≡ q
one_stated d p q a b = λ i. record {
  demands = one_member (IsArrayOf StatesDemand) (one_array StatesDemand one_demand) d (codes "demands") p.demands q.demands a.demands b.demands i;
  dead = one_member (IsArrayOf IsWhole) (one_array IsWhole one_number) d (codes "dead") p.dead q.dead a.dead b.dead i;
}

pub one_reading : (rest : List ℕ) (p q : Demands) → IsReadAsDemands rest (Ok p) → IsReadAsDemands rest (Ok q) → p ≡ q
one_reading rest p q a b =
    let same : a.0 ≡ b.0 = same_Some _ _ (sym a.1.value ∙ b.1.value) in
    one_stated b.0 p q (subst (λ d. StatesDemands d p) same a.2) b.2

pub no_fault : (rest : List ℕ) (q : Demands) (fault : DemandFault) → fault ≢ DemandFault.NoMemory → IsReadAsDemands rest (Ok q) → IsReadAsDemands rest (Err fault) → ⊥
no_fault rest q DemandFault.NoMemory known a b = known refl
no_fault rest q DemandFault.NotJson known a b = b a.0 a.1
no_fault rest q DemandFault.BadShape known a b =
    let same : a.0 ≡ b.0 = same_Some _ _ (sym a.1.value ∙ b.1.value) in
    b.2 q (subst (λ d. StatesDemands d q) same a.2)
