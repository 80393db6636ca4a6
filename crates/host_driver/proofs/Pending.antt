-- The records that a driver has not treated yet: the offers, the removals, and what stands before what.
use Rattle.std.proofs.Common.{◌≡◌, Bool, true, false, not, List, [], ◌∷◌, ◌++◌, refl, sym, ap, subst, ◌∙◌, append_assoc, append-nil}
use Rattle.std.specs.{Prelude.fold, Prelude.flat_map, Prelude.if◌then◌else◌, List.AllByRecursion}
use Rattle.dcd_base.specs.declared.capacity.Extent.{Extent}
use Rattle.event_records.specs.declared.events.{Event.Event, EventKind.EventKind}
use Rattle.device_plain.specs.device_rules.proofs.ListSteps.{each-back, each-front}
use Rattle.host_driver.proofs.Exchanging.{Beside}

-- ---- words

-- an offer gathers its extents up to a record without More
abbrev pub gathers : List Extent → Extent → EventKind → List Extent
gathers g x EventKind.Add = g ++ x ∷ []
gathers g x other = g

abbrev pub ends : EventKind → Bool → Bool
ends EventKind.Add more = not more
ends other more = false

abbrev pub offers_in : List Extent → List Event → List (List Extent)
offers_in g [] = []
offers_in g (e ∷ es) = let now = gathers g e.extent e.kind in if ends e.kind e.more then now ∷ offers_in [] es else offers_in now es

-- what is gathered without an end
abbrev pub left_of : List Extent → List Event → List Extent
left_of g [] = g
left_of g (e ∷ es) = let now = gathers g e.extent e.kind in if ends e.kind e.more then left_of [] es else left_of now es

-- the extents that are taken by force
abbrev pub forced : Extent → EventKind → List Extent → List Extent
forced x EventKind.Forced rest = x ∷ rest
forced x other rest = rest

abbrev pub forced_in : List Event → List Extent
forced_in [] = []
forced_in (e ∷ es) = forced e.extent e.kind (forced_in es)

-- these offered extents, and those of the records
abbrev pub offered_with : List Extent → List Event → List Extent
offered_with before es = fold (λ g (e : Event). gathers g e.extent e.kind) before es

-- The range of the removal shares no address with an extent, and with none of some.
abbrev pub IsBeside : Extent → Extent → Type 0
IsBeside p x = Beside p.start p.length x.start x.length

abbrev pub AreBeside : Extent → List Extent → Type 0
AreBeside p xs = AllByRecursion (IsBeside p) xs

-- No removal shares an address with an offered extent that stands before it.
abbrev pub BehindBy : List Extent → Extent → EventKind → Type 0 → Type 0
BehindBy before x EventKind.Forced rest = AreBeside x before × rest
BehindBy before x other rest = rest

abbrev pub AreBehind : List Extent → List Event → Type 0
AreBehind before [] = Unit {0}
AreBehind before (e ∷ es) = BehindBy before e.extent e.kind (AreBehind (gathers before e.extent e.kind) es)

-- ---- more records behind

offers-append_by : (now : List Extent) (es fs : List Event) (b : Bool) → offers_in [] (es ++ fs) ≡ offers_in [] es ++ offers_in (left_of [] es) fs
    → offers_in now (es ++ fs) ≡ offers_in now es ++ offers_in (left_of now es) fs
    → (if b then now ∷ offers_in [] (es ++ fs) else offers_in now (es ++ fs))
    ≡ (if b then now ∷ offers_in [] es else offers_in now es) ++ offers_in (if b then left_of [] es else left_of now es) fs
offers-append_by now es fs true fresh more = ap (λ os. now ∷ os) fresh
offers-append_by now es fs false fresh more = more

pub offers-append : (g : List Extent) (es fs : List Event) → offers_in g (es ++ fs) ≡ offers_in g es ++ offers_in (left_of g es) fs
offers-append g [] fs = refl
offers-append g (e ∷ es) fs = offers-append_by (gathers g e.extent e.kind) es fs (ends e.kind e.more) (offers-append [] es fs) (offers-append (gathers g e.extent e.kind) es fs)

left-append_by : (now : List Extent) (es fs : List Event) (b : Bool) → left_of [] (es ++ fs) ≡ left_of (left_of [] es) fs → left_of now (es ++ fs) ≡ left_of (left_of now es) fs
    → (if b then left_of [] (es ++ fs) else left_of now (es ++ fs)) ≡ left_of (if b then left_of [] es else left_of now es) fs
left-append_by now es fs true fresh more = fresh
left-append_by now es fs false fresh more = more

pub left-append : (g : List Extent) (es fs : List Event) → left_of g (es ++ fs) ≡ left_of (left_of g es) fs
left-append g [] fs = refl
left-append g (e ∷ es) fs = left-append_by (gathers g e.extent e.kind) es fs (ends e.kind e.more) (left-append [] es fs) (left-append (gathers g e.extent e.kind) es fs)

forced_by-append : (x : Extent) (k : EventKind) (xs ys : List Extent) → forced x k (xs ++ ys) ≡ forced x k xs ++ ys
forced_by-append x EventKind.Forced xs ys = refl
forced_by-append x other xs ys = refl

pub forced-append : (es fs : List Event) → forced_in (es ++ fs) ≡ forced_in es ++ forced_in fs
forced-append [] fs = refl
forced-append (e ∷ es) fs = ap (forced e.extent e.kind) (forced-append es fs) ∙ forced_by-append e.extent e.kind (forced_in es) (forced_in fs)

gathers_from : (a b : List Extent) (x : Extent) (k : EventKind) → gathers (a ++ b) x k ≡ a ++ gathers b x k
gathers_from a b x EventKind.Add = append_assoc a b (x ∷ [])
gathers_from a b x other = refl

pub offered_from : (a b : List Extent) (es : List Event) → offered_with (a ++ b) es ≡ a ++ offered_with b es
offered_from a b [] = refl
offered_from a b (e ∷ es) = ap (λ g. offered_with g es) (gathers_from a b e.extent e.kind) ∙ offered_from a (gathers b e.extent e.kind) es

offered_by : (now : List Extent) (es : List Event) (b : Bool) → offered_with [] es ≡ flat_map (λ xs. xs) (offers_in [] es) ++ left_of [] es
    → offered_with now es ≡ flat_map (λ xs. xs) (offers_in now es) ++ left_of now es
    → offered_with now es ≡ flat_map (λ xs. xs) (if b then now ∷ offers_in [] es else offers_in now es) ++ (if b then left_of [] es else left_of now es)
offered_by now es true fresh more =
    sym (ap (λ g. offered_with g es) (append-nil now)) ∙ offered_from now [] es ∙ ap (λ os. now ++ os) fresh
    ∙ sym (append_assoc now (flat_map (λ xs. xs) (offers_in [] es)) (left_of [] es))
offered_by now es false fresh more = more

-- all that is offered stands in the offers and in what is left
pub offered_is : (g : List Extent) (es : List Event) → offered_with g es ≡ flat_map (λ xs. xs) (offers_in g es) ++ left_of g es
offered_is g [] = refl
offered_is g (e ∷ es) = offered_by (gathers g e.extent e.kind) es (ends e.kind e.more) (offered_is [] es) (offered_is (gathers g e.extent e.kind) es)

-- ---- removals behind offers

pub behind-append : (before : List Extent) (es fs : List Event) → AreBehind before es → AreBehind (offered_with before es) fs → AreBehind before (es ++ fs)
behind-append before [] fs first second = second
behind-append before (e ∷ es) fs first second = by e.kind (λ all. behind-append (gathers before e.extent e.kind) es fs all second) first
  where
    by : {P Q : Type 0} (k : EventKind) → (P → Q) → BehindBy before e.extent k P → BehindBy before e.extent k Q
    by EventKind.Forced changed here = (here.0, changed here.1)
    by other changed here = changed here

-- fewer offers stand before them
fewer : (a b : List Extent) (x : Extent) (k : EventKind) {P Q : Type 0} → (P → Q) → BehindBy (a ++ b) x k P → BehindBy b x k Q
fewer a b x EventKind.Forced changed here = (each-back (IsBeside x) a b here.0, changed here.1)
fewer a b x other changed here = changed here

pub behind_less : (a b : List Extent) (es : List Event) → AreBehind (a ++ b) es → AreBehind b es
behind_less a b [] all = tt
behind_less a b (e ∷ es) all =
    fewer a b e.extent e.kind (λ more. behind_less a (gathers b e.extent e.kind) es (subst (λ g. AreBehind g es) (gathers_from a b e.extent e.kind) more)) all

behind_by : (a b : List Extent) (x : Extent) (k : EventKind) (xs : List Extent) {P : Type 0} → (P → AllByRecursion (λ p. AreBeside p a) xs) → BehindBy (a ++ b) x k P
    → AllByRecursion (λ p. AreBeside p a) (forced x k xs)
behind_by a b x EventKind.Forced xs rest here = (each-front (IsBeside x) a b here.0, rest here.1)
behind_by a b x other xs rest here = rest here

-- each is beside all that stands before all of them
pub behind_each : (a b : List Extent) (es : List Event) → AreBehind (a ++ b) es → AllByRecursion (λ p. AreBeside p a) (forced_in es)
behind_each a b [] all = tt
behind_each a b (e ∷ es) all =
    behind_by a b e.extent e.kind (forced_in es) (λ more. behind_each a (gathers b e.extent e.kind) es (subst (λ g. AreBehind g es) (gathers_from a b e.extent e.kind) more)) all
