-- A list of acts that goes over some items, so that the acts of each touch some hosts' regions and leave all others still.
use Rattle.std.proofs.Common.{◌≡◌, ℕ, List, [], ◌∷◌, ◌++◌, refl, sym, ap, subst}
use Rattle.std.specs.{List.AllByRecursion, Prelude.flat_map}
use Rattle.dcd_base.specs.declared.ids.HostId.{HostId}
use Rattle.region_config.specs.Configurations.{Configuration}
use Rattle.journal_core.specs.{Entries.effects, declared.outcome.Effect.Effect, declared.entries.Entry.Entry}
use Rattle.isolation_laws.specs.device_rules.specs.Legal.{Legal}
use Rattle.plan_rules.proofs.{Stillness.Still, Stillness.still_self, Stillness.still_then, UnbrokenActs.stepped-append, UnbrokenActs.unbroken_parts}
use Rattle.plan_rules.specs.{ActsLeft.Unbroken, Holding.Step, Holding.stepped}

-- the acts of each item behind those of the items before it
abbrev pub walk : {X : Type 0} → Configuration → (List Entry → X → List Step) → List Entry → List X → List Step
walk c acts journal [] = []
walk c acts journal (x ∷ xs) = acts journal x ++ walk c acts (stepped c journal (acts journal x)) xs

-- where the acts of an item do not depend on those before it
pub walk_each : {X : Type 0} (c : Configuration) (acts : X → List Step) (journal : List Entry) (xs : List X) → flat_map acts xs ≡ walk c (λ before x. acts x) journal xs
walk_each c acts journal [] = refl
walk_each c acts journal (x ∷ xs) = ap (λ rest. acts x ++ rest) (walk_each c acts (stepped c journal (acts x)) xs)

-- What the acts of an item leave: its places are done, and all others are still.
pub record LeavesItem (c : Configuration) (touched : HostId → ℕ → Type 0) (IsDone : List Effect → List Effect → Type 0) (before : List Entry) (acts : List Step) : Type 0 where
  pub legal : Legal c (stepped c before acts)
  pub still : (h : HostId) (r : ℕ) → (touched h r → ⊥) → Still c h r (effects before) (effects (stepped c before acts))
  pub done : IsDone (effects before) (effects (stepped c before acts))

-- What is known of the items of a walk.
pub record IsWalk {X : Type 0} (c : Configuration) (acts : List Entry → X → List Step) (touches : X → HostId → ℕ → Type 0)
    (ready : X → List Effect → Type 0) (done : X → List Effect → List Effect → Type 0) : Type 0 where
  pub stays_ready : (x : X) (a b : List Effect) → ((h : HostId) (r : ℕ) → touches x h r → Still c h r a b) → ready x a → ready x b
  pub done_later : (x : X) (a b d : List Effect) → ((h : HostId) (r : ℕ) → touches x h r → Still c h r a b) → done x b d → done x a d
  pub stays_done : (x : X) (a b d : List Effect) → ((h : HostId) (r : ℕ) → touches x h r → Still c h r b d) → done x a b → done x a d
  pub one : (x : X) (journal : List Entry) → Legal c journal → ready x (effects journal) → Unbroken c journal (acts journal x) →
      LeavesItem c (touches x) (done x) journal (acts journal x)

-- No two items touch one place.
abbrev pub ApartFrom : {X : Type 0} → (X → HostId → ℕ → Type 0) → X → X → Type 0
ApartFrom touches x y = (h : HostId) (r : ℕ) → touches x h r → touches y h r → ⊥

abbrev pub AllApart : {X : Type 0} → (X → HostId → ℕ → Type 0) → List X → Type 0
AllApart touches [] = Unit {0}
AllApart touches (x ∷ xs) = AllByRecursion (ApartFrom touches x) xs × AllApart touches xs

-- What a walk leaves.
pub record LeavesAll {X : Type 0} (c : Configuration) (touches : X → HostId → ℕ → Type 0) (done : X → List Effect → List Effect → Type 0) (before : List Entry) (xs : List X) (after : List Entry) : Type 0 where
  pub legal : Legal c after
  pub still : (h : HostId) (r : ℕ) → AllByRecursion (λ x. touches x h r → ⊥) xs → Still c h r (effects before) (effects after)
  pub each : AllByRecursion (λ x. done x (effects before) (effects after)) xs

pub all_by : {X : Type 0} {P Q : X → Type 0} (xs : List X) → ((x : X) → P x → Q x) → AllByRecursion P xs → AllByRecursion Q xs
all_by [] step each = tt
all_by (x ∷ xs) step each = (step x each.0, all_by xs step each.1)

pub both_by : {X : Type 0} {P Q R : X → Type 0} (xs : List X) → ((x : X) → P x → Q x → R x) → AllByRecursion P xs → AllByRecursion Q xs → AllByRecursion R xs
both_by [] step one two = tt
both_by (x ∷ xs) step one two = (step x one.0 two.0, both_by xs step one.1 two.1)

module _ {X : Type 0} (c : Configuration) (acts : List Entry → X → List Step) (touches : X → HostId → ℕ → Type 0)
    (ready : X → List Effect → Type 0) (done : X → List Effect → List Effect → Type 0) (w : IsWalk c acts touches ready done) where
  pub walked : (xs : List X) (journal : List Entry) → Legal c journal → AllApart touches xs → AllByRecursion (λ x. ready x (effects journal)) xs → Unbroken c journal (walk c acts journal xs) →
      LeavesAll c touches done journal xs (stepped c journal (walk c acts journal xs))
  walked [] journal legal apart prepared none = record { legal = legal; still = λ h r out. still_self c h r (effects journal); each = tt }
  walked (x ∷ xs) journal legal apart prepared none =
      let parts = unbroken_parts c journal (acts journal x) (walk c acts middle xs) none in
      let first = w.one x journal legal prepared.0 parts.0 in
      let others : AllByRecursion (λ y. (h : HostId) (r : ℕ) → touches y h r → Still c h r (effects journal) (effects middle)) xs = all_by xs (λ y out h r at. first.still h r (λ own. out h r own at)) apart.0 in
      let rest = walked xs middle first.legal apart.1
      (both_by xs (λ y still. w.stays_ready y (effects journal) (effects middle) still) others prepared.1) parts.1 in
      subst (LeavesAll c touches done journal (x ∷ xs)) (sym (stepped-append c journal (acts journal x) (walk c acts middle xs)))
      (record {
        legal = rest.legal;
        still = λ h r out. still_then c h r (effects journal) (effects middle) (effects (end)) (first.still h r out.0) (rest.still h r out.1);
        each = (
          w.stays_done x (effects journal) (effects middle) (effects end) (λ h r own. rest.still h r (all_by xs (λ y out at. out h r own at) apart.0)) first.done,
          both_by xs (λ y still. w.done_later y (effects journal) (effects middle) (effects end) still) others rest.each,
        );
      })
    where
      middle : List Entry
      middle = stepped c journal (acts journal x)

      end : List Entry
      end = stepped c middle (walk c acts middle xs)
