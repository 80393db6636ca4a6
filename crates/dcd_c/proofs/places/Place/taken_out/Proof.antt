-- `taken_out` moves what the place owns to the parts.
use Rattle.std.proofs.Common.{◌≡◌, List, [], ◌∷◌, ◌++◌, refl, sym, ap, subst, ◌∙◌}
use Rattle.std.{specs.Prelude.IsTrue, specs.Prelude.Option, specs.Prelude.Some, specs.contracts.impls.GlobalAllocator.TheImpl.ghosts, proofs.raw_atomic.Walks.proved_at, proofs.raw_atomic.Walks.leaves}
use mir.Val.{Val, vptr}
use mir.Raw.{raw as bare}
use base.Logic.{SProp, ent, emp, id⊢, never, fst∗}
use base.Fml.{ftrue}
use prog.Wp.{WpFn}
use types.Logic.{sem}
use types.Kit.{‵, raw, ◌⊛◌, ◌$◌, ◌∵◌, !, qed, by, move, keep, split, fsplit3, fjoin, suffices, use0, rewrite}
use types.Run.{stop, fld, of_opd, no_more, and_then, returns, enter}
use types.ByLocal.{alloc_all, pass_all, free_all, look_at, get, get_in, sets}
use types.Part.{agg, sub, whole}
use contract.Monad.{fact, fact_i}
use contract.Running.{tables}
use denote.Exit.{yes}
use denote.RattleType.{RattleType, owns}
use denote.Signature.{types_at, plain}
use denote.Memory.{lone}
use denote.Param.{layout}
use denote.RawPtr.{Ptr, block_ptr, null_ptr, ptr_val, in_a_block}
use denote.Steps.{nothing, heard}
use denote.Triple.Walked.{Stays, stay_dropped, walk_of, Goes-dropped}
use Rattle.core.proofs.cell.Inside.{one}
use Rattle.std_alloc.specs.Box.Ownership.{box_owns}
use Rattle.std.specs.contracts.alloc.Global as heap
use Rattle.std.proofs.alloc.Global.TheLaws as heap_laws
use Rattle.dcd_c.specs.contracts.sessions.Session as device
use Rattle.dcd_c.proofs.{LooseValues.both, LooseValues.loose_good, LooseValues.loose_in, PlaceValues.Place, PlaceValues.found, PlaceValues.single, PlaceValues.place_out}
use Rattle.dcd_c.{proofs.places.Place.taken_out.Statement.statement, specs.Places.has_device, specs.Places.place_owns}
use Rattle.dcd_c.specs.{contracts.places.Place.taken_out.ended, contracts.places.Place.taken_out.clauses, contracts.places.Place.taken_out.Key.name as #self, declared.sessions.Session.Session}
use Rattle.dcd_c.proofs.places.Place.taken_out.Code as code

pub taken_out_spec : {M : Type 1} → statement M
taken_out_spec 𝓤 𝓛 𝓜 𝓡 wired =
    let H = 𝓛.H in let 𝓣 = tables 𝓤 H 𝓜 𝓡 𝓡.env in let R : RattleType = device.the_row in let Z : RattleType = heap.the_row in let LZ = heap_laws.the_row_laws in
    let c = clauses 𝓛 𝓜.mem 𝓡.returns in let fn = code.function in
    let hs : Stays ended.signature.params ended.kept = (stay_dropped (plain (λ _. Place)) yes, (stay_dropped (plain (λ _. Z)) yes, tt)) in
    proved_at 𝓛 ended hs c 𝓜 𝓡 (Goes-dropped 𝓛 0 (plain (λ _. Place)) yes (λ κs x f. refl), (Goes-dropped 𝓛 0 (plain (λ _. Z)) yes (λ κs x f. refl), tt)) #self fn (code.unfolded 𝓤 H 𝓜 𝓡 wired) (λ z are.
    let κs = z.0.0 in let p = z.0.3.0 in let a = z.0.3.1.0 in let Post : Val → SProp 𝓤 = (walk_of 𝓛 ended hs c).post z in let Run : List Val → SProp 𝓤 = λ ws. WpFn 𝓤 H 𝓣.C 𝓣.Λ fn ws Post in
    let h = one (layout Z) z.0.4.1.0 ((LZ.lawful 𝓛).typed a z.0.4.1.0 are.1.0) in
    qed 𝓛 ((‵ ftrue ⊛ ‵ (owns (types_at ended.signature.params κs) z.0.3 z.0.4)) ∷ raw (fact 𝓤 (IsTrue (has_device p.device))) ∷ []) ∵ move ! (1 ∷ []) $ heard ! (IsTrue (has_device p.device)) (λ has. let x = (found p.device has).0 in let is = (found p.device has).1 in split ! $ move ! (1 ∷ []) $ fsplit3 ! $
    rewrite ! 1 (λ (us : List Val). ‵ (Z.own_val a us)) h.1 refl $
    place_out ! p z.0.4.0 (λ ws. rewrite ! 0 (λ (o : Option Session). ‵ (place_owns p.at o)) is refl $
    in_a_block ! p.at (λ q. box_owns (ghosts.dealloc_token a) R q x) (fst∗ 𝓤 (never 𝓤) (sem 𝓛 (ghosts.dealloc_token a (bare (lone R.mir)) null_ptr))) (λ b o e.
    let w : Val = single (vptr b o) in let typed = loose_good R Z LZ ghosts b o h.0 h.2 in let made : Val = both (vptr b o) h.0 in
    let told : z.0.4.0 ≡ w ∷ [] = ws ∙ ap (λ (q : Ptr). single (ptr_val q) ∷ []) e in
    suffices ! (Run (w ∷ h.0 ∷ [])) (subst (λ (us : List Val). ent 𝓤 (Run (w ∷ h.0 ∷ [])) (Run us)) (sym (λ i. told i ++ (h.1 i ++ []))) (id⊢ 𝓤 (Run (w ∷ h.0 ∷ [])))) $
    enter ! 𝓣.C 𝓣.Λ fn (w ∷ h.0 ∷ []) Post $ alloc_all ! (λ l. pass_all ! refl ((tt, (tt, tt)), (h.2, tt)) $
    sets ! (of_opd ! (get_in ! (fld ! refl (stop !)) (sub ! 0 refl (whole !)))) refl (tt, tt) $
    sets ! (of_opd ! (get ! refl)) refl (tt, tt) $ sets ! (agg ! (and_then ! (get ! refl) (and_then ! (get ! refl) (no_more !)))) refl typed $
    loose_in R Z LZ ghosts ! b o h.0 a x $
    use0 𝓛 (raw (fact 𝓤 (p.device ≡ Some x))) (fact_i 𝓤 (p.device ≡ Some x) (emp 𝓤) is) $ nothing ! $ nothing ! $ fjoin ! $ nothing ! $ fjoin ! $
    -- [what is left of the parameters; the fact; the parts; the end of the parameters; the tokens]
    returns ! (look_at ! 0 refl) $ free_all ! refl $ keep ! (4 ∷ 0 ∷ 2 ∷ 1 ∷ []) $ by ! (leaves 𝓛 ended hs c z made (record { at = block_ptr b o; alloc = a; value = x }) (tt, (tt, tt)) (tt, (tt, tt))))))))
