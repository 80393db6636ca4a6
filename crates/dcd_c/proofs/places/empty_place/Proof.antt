-- `empty_place` makes a place that owns nothing.
use Rattle.std.{proofs.Common.◌≡◌, proofs.Common.[], proofs.Common.◌∷◌, proofs.Common.refl, proofs.Common.lit<, proofs.raw_atomic.Walks.proved_at, proofs.raw_atomic.Walks.leaves, specs.Prelude.None}
use Rattle.std.specs.Prelude.{Option}
use mir.Val.{Val}
use base.Logic.{SProp, emp}
use base.Fml.{ftrue}
use types.Kit.{‵, raw, ◌⊛◌, ◌$◌, ◌∵◌, !, qed, by, keep, split, use0}
use types.Run.{lit, no_more, and_then, returns, enter}
use types.ByLocal.{alloc_all, pass_all, free_all, look_at, sets}
use types.Part.{agg}
use contract.Monad.{fact, fact_i}
use contract.Running.{tables}
use denote.RattleType.{owns}
use denote.Signature.{types_at}
use denote.RawPtr.{null_ptr, ptr_val}
use denote.Steps.{nothing}
use denote.Triple.Walked.{Stays, walk_of}
use Rattle.dcd_c.proofs.{PlaceValues.single, PlaceValues.place_in, places.empty_place.Statement.statement}
use Rattle.dcd_c.specs.{contracts.places.empty_place.ended, contracts.places.empty_place.clauses, contracts.places.empty_place.Key.name as #self, declared.sessions.Session.Session}
use Rattle.dcd_c.proofs.places.empty_place.Code as code

pub empty_place_spec : {M : Type 1} → statement M
empty_place_spec 𝓤 𝓛 𝓜 𝓡 wired =
    let H = 𝓛.H in let 𝓣 = tables 𝓤 H 𝓜 𝓡 𝓡.env in
    let c = clauses 𝓛 𝓜.mem 𝓡.returns in let fn = code.function in
    let hs : Stays ended.signature.params ended.kept = tt in let empty : Option Session = None in
    proved_at 𝓛 ended hs c 𝓜 𝓡 tt #self fn (code.unfolded 𝓤 H 𝓜 𝓡 wired) (λ z are.
    let κs = z.0.0 in let Post : Val → SProp 𝓤 = (walk_of 𝓛 ended hs c).post z in let made : Val = single (ptr_val null_ptr) in
    qed 𝓛 ((‵ ftrue ⊛ ‵ (owns (types_at ended.signature.params κs) z.0.3 z.0.4)) ∷ raw ((c κs z.0.3).requires z.1) ∷ []) ∵ split ! $
    enter ! 𝓣.C 𝓣.Λ fn [] Post $ alloc_all ! (λ l. pass_all ! refl tt $
    sets ! (agg ! (and_then ! (lit ! tt) (no_more !))) refl (tt, (record { fits = lit< tt }, tt)) $
    nothing ! $ place_in ! null_ptr empty $
    use0 𝓛 (raw (fact 𝓤 (empty ≡ empty))) (fact_i 𝓤 (empty ≡ empty) (emp 𝓤) refl) $ nothing ! $
    -- [no parameters; the fact; the place; the tokens]
    returns ! (look_at ! 0 refl) $ free_all ! refl $ keep ! (3 ∷ 0 ∷ 2 ∷ 1 ∷ []) $ by ! (leaves 𝓛 ended hs c z made (record { at = null_ptr; device = empty }) tt tt)))
