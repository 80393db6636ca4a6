-- What others bring a host is none of its own acts.
use Rattle.std.proofs.Common.{◌≡◌, Bool, true, false, ◌&&◌, List, [], ◌∷◌, ◌++◌, refl, ap, ◌∙◌}
use Rattle.std.{specs.Prelude.filter_map, specs.List.list_all, proofs.lemmas.Bool.eqb-true, proofs.lemmas.Bool.false≢true, proofs.lemmas.List.Folds.list_all-append}
use Rattle.dcd_base.specs.declared.{capacity.Extent.Extent, ids.HostId.HostId, steps.Actor.Actor}
use Rattle.event_records.specs.declared.events.EventKind.{EventKind}
use Rattle.journal_core.specs.declared.outcome.Effect.{Effect}
use Rattle.isolation_laws.specs.{Solo.block_item, Solo.delivered, Solo.acts_for, Solo.item_of, Solo.extents_recorded, declared.items.Item.Item}

-- whoever is the host
pub actor_is : (h : HostId) (actor : Actor) → acts_for h actor ≡ true → actor ≡ Actor.Host h
actor_is h (Actor.Host k) own = ap Actor.Host (eqb-true k h own)
actor_is h Actor.Manager own = absurd (false≢true own)
actor_is h Actor.Sanitizer own = absurd (false≢true own)

abbrev pub is_brought : Item → Bool
is_brought (Item.Own act) = false
is_brought item = true

all_one : (make : List Extent → Item) → ((xs : List Extent) → is_brought (make xs) ≡ true) → (xs : List Extent) → list_all is_brought (item_of make xs) ≡ true
all_one make brought [] = refl
all_one make brought (x ∷ xs) = ap (λ b. b && true) (brought (x ∷ xs))

all_blocks : (new : List Effect) → list_all is_brought (filter_map block_item new) ≡ true
all_blocks [] = refl
all_blocks (Effect.Block r size ∷ new) = all_blocks new
all_blocks (e ∷ new) = all_blocks new

both : (xs ys : List Item) → list_all is_brought xs ≡ true → list_all is_brought ys ≡ true → list_all is_brought (xs ++ ys) ≡ true
both xs ys first second = list_all-append is_brought xs ys ∙ (λ i. first i && second i)

pub all_brought : (h : HostId) (new : List Effect) → list_all is_brought (delivered h new) ≡ true
all_brought h new =
    let given : List Item = item_of Item.Given (extents_recorded h EventKind.Add new) in
    let asked : List Item = item_of Item.Asked (extents_recorded h EventKind.Release new) in
    let taken : List Item = item_of Item.Taken (extents_recorded h EventKind.Forced new) in
    let blocks : List Item = filter_map block_item new in
    both (given ++ asked ++ taken) blocks
    (both (given ++ asked) taken
    (both given asked (all_one Item.Given (λ xs. refl) (extents_recorded h EventKind.Add new)) (all_one Item.Asked (λ xs. refl) (extents_recorded h EventKind.Release new)))
    (all_one Item.Taken (λ xs. refl) (extents_recorded h EventKind.Forced new)))
    (all_blocks new)
