-- The lists of one host: what each effect finds, and what those of others leave.
use Rattle.std.proofs.Common.{◌≡◌, ◌≢◌, ℕ, zero, suc, ◌+◌, ◌<◌, ◌≤◌, List, [], ◌∷◌, ◌++◌, drop, get_or, length, take, subst, sym, ◌∙◌, arith}
use Rattle.std.specs.Prelude.{fold}
use Rattle.cci_codec.specs.dcd_base.specs.declared.{capacity.Extent.Extent, media.Run.Run, ids.HostId.HostId}
use Rattle.extent_list.specs.{ExtentLists.count_in, ExtentLists.cut, HostLists.Lists, media_map.specs.Places.bytes_of_run, media_map.specs.Places.start_of}
use Rattle.extent_list.specs.media_map.specs.region_config.specs.Configurations.{Configuration}
use Rattle.journal_core.specs.declared.outcome.{Effect.Effect, HeldKind.HeldKind}
use Rattle.device_state.specs.EnteredLists.{Fits, HasOwnPlaces, HasPlaces, OwnFits, all_lists_by, held_of, lists_by, room_by, with_held}
use Rattle.device_state.proofs.Listed.{IsOf, own_answer, own_hold, own_leave, own_offer, own_unhold}

-- an effect that finds its places among all hosts' lists finds them in those of its host
pub own_places : (c : Configuration) (lists : HostId → Lists) (room : ℕ) (h : HostId) (e : Effect) → HasPlaces c lists room e → HasOwnPlaces c h (lists h) e
own_places c lists room h (Effect.Offer k xs) places =
    λ same. subst (λ (m : HostId). (length (lists m).offers < 64) × (count_in (lists m).offers + length xs ≤ 64)) same (places.1, places.2)
own_places c lists room h (Effect.Answer k xs) places = λ same. subst (λ (m : HostId). length (lists m).accepted + length xs ≤ 128) same places
own_places c lists room h (Effect.Leave k run) places = λ same. (subst (λ (m : HostId). length (lists m).accepted < 128) same places.0, places.1)
own_places c lists room h (Effect.Hold k kind xs) places = λ same. subst (λ (m : HostId). length (held_of kind (lists m)) + length xs ≤ 64) same places
own_places c lists room h (Effect.Take k run) places = tt
own_places c lists room h (Effect.Zero run) places = tt
own_places c lists room h (Effect.Soil run) places = tt
own_places c lists room h (Effect.Unhold k kind) places = tt
own_places c lists room h (Effect.Logged l event) places = tt
own_places c lists room h (Effect.Missed l) places = tt
own_places c lists room h (Effect.Cleared l n) places = tt
own_places c lists room h (Effect.Reset l) places = tt
own_places c lists room h (Effect.Ref t on) places = tt
own_places c lists room h (Effect.TagEnd t) places = tt
own_places c lists room h (Effect.Block r size) places = tt

pub own_fits : (c : Configuration) (lists : HostId → Lists) (room : ℕ) (h : HostId) (new : List Effect) → Fits c lists room new → OwnFits c h (lists h) new
own_fits c lists room h [] fits = tt
own_fits c lists room h (e ∷ new) fits = (own_places c lists room h e fits.0, own_fits c (all_lists_by c lists e) (room_by room e) h new fits.1)

-- each finds them when its turn comes
pub own_fits_at : (c : Configuration) (h : HostId) (l : Lists) (es : List Effect) (i : ℕ) (d : Effect) → i < length es → OwnFits c h l es →
    HasOwnPlaces c h (fold (lists_by c h) l (take i es)) (get_or es i d)
own_fits_at c h l [] i d below fits = absurd (omega (arith, below))
own_fits_at c h l (e ∷ es) zero d below fits = fits.0
own_fits_at c h l (e ∷ es) (suc i) d below fits = own_fits_at c h (lists_by c h l e) es i d (omega (arith, below)) fits.1

-- those behind find theirs too
pub own_fits_behind : (c : Configuration) (h : HostId) (l : Lists) (i : ℕ) (es : List Effect) → OwnFits c h l es → OwnFits c h (fold (lists_by c h) l (take i es)) (drop i es)
own_fits_behind c h l zero es fits = fits
own_fits_behind c h l (suc i) [] fits = tt
own_fits_behind c h l (suc i) (e ∷ es) fits = own_fits_behind c h (lists_by c h l e) i es fits.1

-- what fits with more behind it fits alone
pub fits_front : (c : Configuration) (lists : HostId → Lists) (room : ℕ) (new more : List Effect) → Fits c lists room (new ++ more) → Fits c lists room new
fits_front c lists room [] more fits = tt
fits_front c lists room (e ∷ new) more fits = (fits.0, fits_front c (all_lists_by c lists e) (room_by room e) new more fits.1)

-- ---- what an effect makes of the lists of its own host, and of another's

module _ (c : Configuration) (h k : HostId) (l : Lists) where
  pub enters_offer : (xs : List Extent) → k ≡ h → record l { offers = l.offers ++ xs ∷ [] } ≡ lists_by c h l (Effect.Offer k xs)
  enters_offer xs same = sym (own_offer c h l xs) ∙ (λ i. lists_by c h l (Effect.Offer (sym same i) xs))

  pub enters_answer : (xs : List Extent) → k ≡ h → record l { accepted = l.accepted ++ xs; offers = drop 1 l.offers } ≡ lists_by c h l (Effect.Answer k xs)
  enters_answer xs same = sym (own_answer c h l xs) ∙ (λ i. lists_by c h l (Effect.Answer (sym same i) xs))

  pub enters_leave : (run : Run) → k ≡ h → record l { accepted = cut (start_of c h run) (bytes_of_run c run) l.accepted } ≡ lists_by c h l (Effect.Leave k run)
  enters_leave run same = sym (own_leave c h l run) ∙ (λ i. lists_by c h l (Effect.Leave (sym same i) run))

  pub enters_hold : (kind : HeldKind) (xs : List Extent) → k ≡ h → with_held kind (held_of kind l ++ xs) l ≡ lists_by c h l (Effect.Hold k kind xs)
  enters_hold kind xs same = own_hold c h l kind xs ∙ (λ i. lists_by c h l (Effect.Hold (sym same i) kind xs))

  pub enters_unhold : (kind : HeldKind) → k ≡ h → with_held kind [] l ≡ lists_by c h l (Effect.Unhold k kind)
  enters_unhold kind same = own_unhold c h l kind ∙ (λ i. lists_by c h l (Effect.Unhold (sym same i) kind))

  pub of_another : (e : Effect) → IsOf c k e → k ≢ h → l ≡ lists_by c h l e
  of_another e of other = sym (of.others h l other)
