-- What a value states is told by its parts.
use Rattle.std.proofs.Common.{◌≡◌, ℕ, List, [], ◌∷◌, Some, Result, Ok, Err, map, sym, ◌∙◌, ap, subst, refl}
use Rattle.std.{proofs.lemmas.Option.none-some, proofs.lemmas.Option.same_Some, specs.List.AllZip}
use Rattle.serde_json.specs.{Data.Data, Data.null, Data.boolean, Data.number, Data.string, Data.array, Data.object, Data.Items, Find.as_array, Find.get, View.items_of, View.items_view, View.view}
use Rattle.serde_json.specs.declared.value.Value.{Value}
use Rattle.plan_rules.specs.{DemandTexts.IsArrayOf, DemandTexts.IsTold, DemandTexts.MemberIs, DemandTexts.items_in, declared.demand_faults.DemandFault.DemandFault}

-- it states nothing where a part of it states nothing
pub passed_on : {X Y : Type 0} (P : X → Type 0) (Q : Y → Type 0) (fault : DemandFault) → IsTold P (Err fault)
    → ((y : Y) → Q y → (x : X) × P x) → IsTold Q (Err fault)
passed_on P Q DemandFault.BadShape untold part = λ y stated. let p = part y stated in untold p.0 p.1
passed_on P Q DemandFault.NotJson untold part = untold
passed_on P Q DemandFault.NoMemory untold part = tt

-- the member of a key states what its value does
pub member_told : {X : Type 0} (Is : X → Data → Type 0) (d : Data) (key : List ℕ) (found : Data) (told : Result X DemandFault)
    → Some found ≡ get key d → IsTold (λ x. Is x found) told → IsTold (λ x. MemberIs d key (Is x)) told
member_told Is d key found (Ok x) got is = (found, sym got, is)
member_told Is d key found (Err DemandFault.BadShape) got is = λ x stated.
    is x (subst (Is x) (same_Some _ _ (sym stated.1 ∙ sym got)) stated.2)
member_told Is d key found (Err DemandFault.NotJson) got is = is
member_told Is d key found (Err DemandFault.NoMemory) got is = tt

array_is : (d : Data) (items : Items) → Some items ≡ as_array d → d ≡ array items
array_is null items got = absurd (none-some _ (sym got))
array_is (boolean b) items got = absurd (none-some _ (sym got))
array_is (number n) items got = absurd (none-some _ (sym got))
array_is (string s) items got = absurd (none-some _ (sym got))
array_is (array ds) items got = ap array (same_Some _ _ (sym got))
array_is (object ms) items got = absurd (none-some _ (sym got))

items_back : (ds : List Data) → items_in (items_of ds) ≡ ds
items_back [] = refl
items_back (d ∷ ds) = ap (λ rest. d ∷ rest) (items_back ds)

-- an array states what its items do
pub array_told : {X : Type 0} (States : Data → X → Type 0) (d : Data) (vs : List Value) (told : Result (List X) DemandFault)
    → Some (items_view vs) ≡ as_array d → IsTold (AllZip States (map view vs)) told → IsTold (λ xs. IsArrayOf States xs d) told
array_told States d vs (Ok xs) got each = record {
  items = items_view vs;
  is = array_is d _ got;
  each = subst (λ ds. AllZip States ds xs) (sym (items_back (map view vs))) each;
}
array_told States d vs (Err DemandFault.BadShape) got untold = λ xs stated.
    let same : items_view vs ≡ stated.items = same_Some _ _ (got ∙ ap as_array stated.is) in
    untold xs (subst (λ ds. AllZip States ds xs) (sym (ap items_in same) ∙ items_back (map view vs)) stated.each)
array_told States d vs (Err DemandFault.NotJson) got untold = untold
array_told States d vs (Err DemandFault.NoMemory) got untold = tt
