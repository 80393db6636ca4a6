-- Effects by which nothing is offered, taken or zeroed: a granule is held and offered after them only where it was before.
use Rattle.std.proofs.Common.{◌≡◌, ℕ, Bool, true, false, ◌&&◌, ◌==◌, List, [], ◌∷◌, drop, refl}
use Rattle.std.{specs.Prelude.fold, specs.Prelude.if◌then◌else◌, specs.List.list_all, specs.List.list_any, proofs.lemmas.Bool.and_parts, proofs.lemmas.Bool.false≢true, proofs.lemmas.Bool.or_right}
use Rattle.dcd_base.specs.{Words.has_granule, declared.capacity.Extent.Extent, declared.ids.HostId.HostId}
use Rattle.journal_core.specs.{Holders.holding_after, Holders.taking_after, declared.outcome.Effect.Effect}
use Rattle.device_rules.{specs.Hosts.offers_after, proofs.Leaving.over-leaving}
use Rattle.isolation_laws.specs.Laws.{Writers, writers_by}

-- no offer, and nothing taken or zeroed
abbrev pub is_calm : Effect → Bool
is_calm (Effect.Offer h xs) = false
is_calm (Effect.Take h run) = false
is_calm (Effect.Zero run) = false
is_calm e = true

-- what holds after effects that pass a test held before them
back_over : {B : Type 0} (f : B → Effect → B) (test : Effect → Bool) (P : B → Type 0) (step : (b : B) (e : Effect) → test e ≡ true → P (f b e) → P b)
    (b : B) (new : List Effect) → list_all test new ≡ true → P (fold f b new) → P b
back_over f test P step b [] all after = after
back_over f test P step b (e ∷ new) all after =
    let parts = and_parts (test e) (list_all test new) all in
    step b e parts.0 (back_over f test P step (f b e) new parts.1 after)

-- ---- who holds it

was_held : (gone b : Bool) → (if gone then false else b) ≡ true → b ≡ true
was_held true b held = absurd (false≢true held)
was_held false b held = held

held_still : (h : HostId) (g : ℕ) (b : Bool) (e : Effect) → is_calm e ≡ true → holding_after h g b e ≡ true → b ≡ true
held_still h g b (Effect.Take k run) calm held = absurd (false≢true calm)
held_still h g b (Effect.Leave k run) calm held = was_held ((k == h) && has_granule run g) b held
held_still h g b e calm held = held

pub calm_held : (h : HostId) (g : ℕ) (b : Bool) (new : List Effect) → list_all is_calm new ≡ true → fold (holding_after h g) b new ≡ true → b ≡ true
calm_held h g b new calm held = back_over (holding_after h g) is_calm (λ b. b ≡ true) (held_still h g) b new calm held

-- ---- to whom it is offered

-- what is in a later offer is in an offer
pub in_later : (has : List Extent → Bool) (answered : Bool) (offers : List (List Extent)) → list_any has (if answered then drop 1 offers else offers) ≡ true → list_any has offers ≡ true
in_later has true [] some = some
in_later has true (offer ∷ later) some = or_right (has offer) (list_any has later) some
in_later has false offers some = some

offered_still : (h : HostId) (has : List Extent → Bool) (offers : List (List Extent)) (e : Effect) → is_calm e ≡ true → list_any has (offers_after h offers e) ≡ true → list_any has offers ≡ true
offered_still h has offers (Effect.Offer k xs) calm some = absurd (false≢true calm)
offered_still h has offers (Effect.Answer k xs) calm some = in_later has (k == h) offers some
offered_still h has offers e calm some = some

pub calm_offered : (h : HostId) (has : List Extent → Bool) (offers : List (List Extent)) (new : List Effect) → list_all is_calm new ≡ true →
    list_any has (fold (offers_after h) offers new) ≡ true → list_any has offers ≡ true
calm_offered h has offers new calm some = back_over (offers_after h) is_calm (λ offers. list_any has offers ≡ true) (offered_still h has) offers new calm some

-- ---- whether it was taken, and who has stored into it

taken_still : (g : ℕ) (b : Bool) (e : Effect) → is_calm e ≡ true → taking_after g b e ≡ b
taken_still g b (Effect.Take k run) calm = absurd (false≢true calm)
taken_still g b (Effect.Zero run) calm = absurd (false≢true calm)
taken_still g b e calm = refl

pub calm_taken : (g : ℕ) (b : Bool) (new : List Effect) → list_all is_calm new ≡ true → fold (taking_after g) b new ≡ b
calm_taken g b new calm = over-leaving (taking_after g) is_calm (taken_still g) b new calm

writers_still : (g : ℕ) (w : Writers) (e : Effect) → is_calm e ≡ true → writers_by g w e ≡ w
writers_still g w (Effect.Take k run) calm = absurd (false≢true calm)
writers_still g w (Effect.Zero run) calm = absurd (false≢true calm)
writers_still g w e calm = refl

pub calm_writers : (g : ℕ) (w : Writers) (new : List Effect) → list_all is_calm new ≡ true → fold (writers_by g) w new ≡ w
calm_writers g w new calm = over-leaving (writers_by g) is_calm (writers_still g) w new calm
