-- The demands that a JSON text states.
use Rattle.std.specs.Prelude.{◌≡◌, ℕ, suc, ◌^◌, ◌<◌, List, [], ◌∷◌, codes, Some, option_map, Result, Ok, Err}
use Rattle.std.specs.{List.AllZip, Str.IsUtf8}
use Rattle.serde_json.specs.Data.{Data, number, array, unsigned, Items, no_items, item, Members, no_members, member}
use Rattle.serde_json.specs.{Find.get, Find.as_object, Read.read}
use Rattle.plan_rules.specs.declared.{demands.Demand.Demand, demands.Demands.Demands, demand_faults.DemandFault.DemandFault}

-- ---- the value that bytes are

-- The bytes are UTF-8, and this value.
pub record HasReading (bytes : List ℕ) (d : Data) : Type 0 where
  pub text : IsUtf8 bytes
  pub value : read bytes ≡ Some d

-- ---- its shape

-- A whole number from 0 to 4294967295, written without a fraction or an exponent. (`-0` is a float.)
pub record IsWhole (d : Data) (n : ℕ) : Type 0 where
  pub value : d ≡ number (unsigned n)
  pub fits : n < 2 ^ 32

abbrev pub member_total : Members → ℕ
member_total no_members = 0
member_total (member k d ms) = suc (member_total ms)

-- An object with so many members.
abbrev pub HasMembers : ℕ → Data → Type 0
HasMembers n d = option_map member_total (as_object d) ≡ Some n

-- The member of this key is there, and is so.
abbrev pub MemberIs : Data → List ℕ → (Data → Type 0) → Type 0
MemberIs d key Is = (found : Data) × (get key d ≡ Some found) × Is found

-- An object with exactly the members `host`, `region` and `blocks`.
pub record StatesDemand (d : Data) (x : Demand) : Type 0 where
  pub members : HasMembers 3 d
  pub host : MemberIs d (codes "host") (λ found. IsWhole found x.host)
  pub region : MemberIs d (codes "region") (λ found. IsWhole found x.region)
  pub blocks : MemberIs d (codes "blocks") (λ found. IsWhole found x.blocks)

abbrev pub items_in : Items → List Data
items_in no_items = []
items_in (item d ds) = d ∷ items_in ds

-- An array whose items state these, in order.
pub record IsArrayOf {X : Type 0} (States : Data → X → Type 0) (xs : List X) (d : Data) : Type 0 where
  pub items : Items
  pub is : d ≡ array items
  pub each : AllZip States (items_in items) xs

-- An object with exactly the members `demands` and `dead`.
pub record StatesDemands (d : Data) (q : Demands) : Type 0 where
  pub members : HasMembers 2 d
  pub demands : MemberIs d (codes "demands") (IsArrayOf StatesDemand q.demands)
  pub dead : MemberIs d (codes "dead") (IsArrayOf IsWhole q.dead)

-- ---- what reading answers

-- What a value states, or that there is nothing of this kind that it states.
abbrev pub IsTold : {X : Type 0} → (X → Type 0) → Result X DemandFault → Type 0
IsTold States (Ok x) = States x
IsTold {X} States (Err DemandFault.BadShape) = (x : X) → States x → ⊥
IsTold States (Err DemandFault.NotJson) = ⊥
IsTold States (Err DemandFault.NoMemory) = Unit {0}

-- The demands that the bytes state; or that they have no reading; or that their value has not the shape.
abbrev pub IsReadAsDemands : List ℕ → Result Demands DemandFault → Type 0
IsReadAsDemands bytes (Ok q) = (d : Data) × HasReading bytes d × StatesDemands d q
IsReadAsDemands bytes (Err DemandFault.NotJson) = (d : Data) → HasReading bytes d → ⊥
IsReadAsDemands bytes (Err DemandFault.BadShape) = (d : Data) × HasReading bytes d × ((q : Demands) → StatesDemands d q → ⊥)
IsReadAsDemands bytes (Err DemandFault.NoMemory) = Unit {0}
