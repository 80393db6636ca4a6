-- The machine values of a place. Assumes `Logic`.
use Rattle.std.proofs.{Common.◌≡◌, Common.List, Common.[], Common.◌∷◌, Common.◌++◌, Common.refl, Common.subst, lemmas.Bool.false≢true}
use Rattle.std.specs.Prelude.{IsTrue, Option, Some, None}
use seplogic.Ra.Ura.{Ura}
use mir.Val.{Val, vstruct, vcons, vnil, of_list}
use types.Logic.{Logic}
use types.Kit.{Item, Goal, Seq, Step, step, ‵, ◌$◌, drop, fsplit, fjoin, fpick, fpack, feq_i, feq_l}
use denote.RattleType.{RattleType, Valss}
use denote.Builtin.{RawPtr}
use denote.RawPtr.{Ptr, ptr_val}
use denote.Steps.{nothing}
use denote.Struct.Struct.{within}
use denote.Struct.Owning.{shape}
use Rattle.dcd_c.specs.{Places.has_device, Places.place_owns, declared.sessions.Session.Session}
use Rattle.dcd_c.specs.contracts.places.Place as place

abbrev pub Place : RattleType
Place = place.the_row

abbrev pub single : Val → Val
single v = vstruct (vcons v vnil)

module _ {M : Type 1} {𝓤 : Ura M} {𝓛 : Logic 𝓤} {K : Type 0} {Γ : List (Item 𝓤)} {G : Goal 𝓤 𝓛.H} where
  pub place_out : K → (d : Place.Denot) (vs : List Val)
      → (vs ≡ single (ptr_val d.at) ∷ [] → Seq K 𝓛 (‵ (place_owns d.at d.device) ∷ Γ) G)
      → Seq K 𝓛 (‵ (Place.own_val d vs) ∷ Γ) G
  place_out t d vs k =
      fsplit t $ fpick t (λ vss. fsplit t $ feq_l t (λ ev. fsplit t $ feq_l t (λ ep. drop t $
      k (subst (λ (ps : List Val). vs ≡ vstruct (of_list (ps ++ [])) ∷ []) ep ev))))

  pub place_in : K → (p : Ptr) (x : Option Session)
      → Step K 𝓛 (‵ (Place.own_val (record { at = p; device = x }) (single (ptr_val p) ∷ [])) ∷ Γ) G (‵ (place_owns p x) ∷ Γ) G
  place_in t p x = step (λ s. let v : Val = single (ptr_val p) in
      nothing t $ feq_i t (List Val) (ptr_val p ∷ []) (ptr_val p ∷ []) refl $ fjoin t $ feq_i t (List Val) (v ∷ []) (v ∷ []) refl $ fjoin t $
      fpack t (Valss (RawPtr ∷ [])) (within (shape place.the_type) (p, tt) (v ∷ [])) (ptr_val p ∷ [], tt) $ fjoin t $ s)

-- the device of a place that has one
pub found : (o : Option Session) → IsTrue (has_device o) → (x : Session) × (o ≡ Some x)
found None never = absurd (false≢true never)
found (Some x) has = (x, refl)
