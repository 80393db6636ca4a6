-- Each kind of step keeps the books.
use Rattle.std.proofs.Common.{◌≡◌, ◌≢◌, ℕ, zero, suc, ◌+◌, ◌^◌, ◌<◌, true, false, List, [], ◌∷◌, ◌++◌, length, set, sym, refl, ap, ◌∙◌, subst, ⊎_elim, inl, inr, arith, length-set}
use Rattle.std.proofs.lemmas.List.{length_push}
use mathlib.Core.Logic.{dite}
use mathlib.Core.Option.{some, some-injective}
use native.Mathlib.Decide.{ℕ_discrete}
use lib.ListN.{get_elem?}
use Rattle.dcd_base.specs.declared.steps.Stamp.{Stamp}
use Rattle.journal_core.specs.declared.entries.Entry.{Entry}
use Rattle.ruled_cells.proofs.{Order.below_trans, Order.rise_push, Order.never, Places.at_below, Places.at_push, RuleSteps.each_set}
use Rattle.ruled_cells.proofs.Weights.{weigh-push, weigh-one, own-same, own-other, Keeps, Gains}
use Rattle.ruled_cells.specs.{Booking.own, Booking.weight_one, Booking.total, Booking.Fits, Booking.IsRisingTo, Booking.IsKept, Booking.IsBooked, Booking.Books, Ruling.Names, Stamps.Below}
use Rattle.ruled_cells.specs.{Telling.next_view, Telling.joint_view, Telling.spent_view, declared.about.SeatView.SeatView, declared.cell_value.CellValue.CellValue}

-- what stands in two lists put together stands in one of them
append_at : {A : Type 0} (P : A → Type 0) (l m : List A) → ((k : ℕ) (a : A) → get_elem? l k ≡ some a → P a) → ((k : ℕ) (a : A) → get_elem? m k ≡ some a → P a) → (k : ℕ) (a : A) → get_elem? (l ++ m) k ≡ some a → P a
append_at P [] m p q k a e = q k a e
append_at P (x ∷ l) m p q zero a e = p zero a e
append_at P (x ∷ l) m p q (suc k) a e = append_at P l m (λ i b f. p (suc i) b f) q k a e

first_or : {A : Type 0} (P : A → Type 0) (x : A) (l : List A) → P x → ((k : ℕ) (a : A) → get_elem? l k ≡ some a → P a) → (k : ℕ) (a : A) → get_elem? (x ∷ l) k ≡ some a → P a
first_or P x l p q zero a e = subst P (some-injective x a e) p
first_or P x l p q (suc k) a e = q k a e

pub rising_push : (calls : List Entry) (seen : Stamp) (e : Entry) → IsRisingTo calls seen → Below seen e.stamp → IsRisingTo (calls ++ e ∷ []) e.stamp
rising_push calls seen e r above =
    let each : (k : ℕ) (f : Entry) → get_elem? calls k ≡ some f → Below f.stamp e.stamp = λ k f h. ⊎_elim (λ (b : Below f.stamp seen). below_trans f.stamp seen e.stamp b above) (λ (q : f.stamp ≡ seen). subst (λ (z : Stamp). Below z e.stamp) (sym q) above) (r.last k f h) in record {
      rise = rise_push calls e r.rise each;
      last = λ k f h. ⊎_elim (λ (q : get_elem? calls k ≡ some f). inl (each k f q)) (λ (q : (e ≡ f) × (k ≡ length calls)). inr (ap (λ (z : Entry). z.stamp) (sym q.0))) (at_push calls e f k h);
    }

pub rising_none : (seen : Stamp) → IsRisingTo [] seen
rising_none seen = record { rise = λ i k e f lt p q. absurd (let b = at_below [] i e p in omega (arith, b)); last = λ k e h. absurd (let b = at_below [] k e h in omega (arith, b)) }

module _ {F S : Type 0} (w : Names F S) where
  abbrev Vals : Type 0
  Vals = List (CellValue F S)

  fits_keeps : (log log' : List Entry) (vals vals' : Vals) (j : ℕ) (calls : List Entry) → Keeps w log vals log' vals' → Fits w log vals j calls → Fits w log' vals' j calls
  fits_keeps log log' vals vals' j calls k f h = f h ∙ sym (k (own j h))

  fits_other : (log log' : List Entry) (vals vals' : Vals) (j : ℕ) (calls : List Entry) (e : Entry) → Gains w e log vals log' vals' → e.pass ≢ j → Fits w log vals j calls → Fits w log' vals' j calls
  fits_other log log' vals vals' j calls e g ne f h = let a = f h in let b = g (own j h) in let c = own-other j h e ne in omega (arith, a, b, c)

  fits_gains : (log log' : List Entry) (vals vals' : Vals) (j : ℕ) (calls : List Entry) (e : Entry) → Gains w e log vals log' vals' → e.pass ≡ j → Fits w log vals j calls → Fits w log' vals' j (calls ++ e ∷ [])
  fits_gains log log' vals vals' j calls e g is f h = let a = f h in let b = g (own j h) in let c = own-same j h e is in let d = weigh-push h calls e in omega (arith, a, b, c, d)

  module _ (log : List Entry) (vals : Vals) (views : List SeatView) (b : Books w log vals views) where
    -- no entry is added, and a seat's view changes in nothing that the books name
    pub books_keep : (log' : List Entry) (vals' : Vals) → Keeps w log vals log' vals' → (id : ℕ) (v v' : SeatView) → get_elem? views id ≡ some v → v.spent ≡ false → v'.calls ≡ v.calls → v'.seen ≡ v.seen → v'.kept ≡ v.kept → v'.spent ≡ v.spent → Books w log' vals' (set views id v')
    books_keep log' vals' k id v v' at used calls seen kept spent =
        let long : length (set views id v') ≡ length views = length-set views id v' in
        let moved : (i : ℕ) (cs : List Entry) → IsKept w log vals views i cs → IsKept w log' vals' (set views id v') i cs = λ i cs o. record {
          fits = fits_keeps log log' vals vals' i cs k o.fits;
          rising = o.rising;
          gone = λ u h. each_set (λ j y. j ≡ i → y.spent ≡ true) views id v' (λ q. spent ∙ o.gone v (ap (get_elem? views) (sym q) ∙ at)) (λ j y ne f q. o.gone y (ap (get_elem? views) (sym q) ∙ f)) i u h refl;
          below = let c = o.below in omega (arith, long, c);
        } in
        let as_before : (j : ℕ) (y : SeatView) → IsBooked w log vals views j y → IsBooked w log' vals' (set views id v') j y = λ j y o. record {
          fits = fits_keeps log log' vals vals' j y.calls k o.fits;
          rising = o.rising;
          kept = λ c i cs h. moved i cs (o.kept c i cs h);
        } in record {
          each = each_set (λ j y. y.spent ≡ false → IsBooked w log' vals' (set views id v') j y) views id v'
              (λ _. let o = as_before id v (b.each id v at used) in record {
                fits = subst (Fits w log' vals' id) (sym calls) o.fits;
                rising = subst (λ (z : List Entry × Stamp). IsRisingTo z.0 z.1) (λ i. (sym calls i, sym seen i)) o.rising;
                kept = λ c i cs h. o.kept c i cs (ap (λ z. get_elem? z c) (sym kept) ∙ h);
              })
              (λ j y ne f q. as_before j y (b.each j y f q));
          later = λ j le. fits_keeps log log' vals vals' j [] k (b.later j (omega (arith, long, le)));
          few = λ j. let q = b.few j in let p = k (own j weight_one) in omega (arith, p, q);
        }

    -- an entry of the seat id is added
    pub books_gain : (log' : List Entry) (vals' : Vals) (e : Entry) → Gains w e log vals log' vals' → (id : ℕ) (v v' : SeatView) → get_elem? views id ≡ some v → v.spent ≡ false → e.pass ≡ id → Below v.seen e.stamp → length v.calls < 2 ^ 32
        → v'.calls ≡ v.calls ++ e ∷ [] → v'.seen ≡ e.stamp → v'.kept ≡ v.kept → v'.spent ≡ false → Books w log' vals' (set views id v')
    books_gain log' vals' e g id v v' at used pass above room calls seen kept spent =
        let long : length (set views id v') ≡ length views = length-set views id v' in
        let inside : id < length views = at_below views id v at in
        let moved : (i : ℕ) (cs : List Entry) → IsKept w log vals views i cs → IsKept w log' vals' (set views id v') i cs = λ i cs o.
        let away : i ≢ id = λ q. never v.spent (o.gone v (ap (get_elem? views) q ∙ at)) used in record {
          fits = fits_other log log' vals vals' i cs e g (λ q. away (sym q ∙ pass)) o.fits;
          rising = o.rising;
          gone = λ u h. each_set (λ j y. j ≡ i → y.spent ≡ true) views id v' (λ q. absurd (away (sym q))) (λ j y ne f q. o.gone y (ap (get_elem? views) (sym q) ∙ f)) i u h refl;
          below = let c = o.below in omega (arith, long, c);
        } in
        let mine = b.each id v at used in
        let many : total w (own id weight_one) log vals ≡ length v.calls = sym (mine.fits weight_one) ∙ weigh-one v.calls in record {
          each = each_set (λ j y. y.spent ≡ false → IsBooked w log' vals' (set views id v') j y) views id v'
              (λ _. record {
                fits = subst (Fits w log' vals' id) (sym calls) (fits_gains log log' vals vals' id v.calls e g pass mine.fits);
                rising = subst (λ (z : List Entry × Stamp). IsRisingTo z.0 z.1) (λ i. (sym calls i, sym seen i)) (rising_push v.calls v.seen e mine.rising above);
                kept = λ c i cs h. moved i cs (mine.kept c i cs (ap (λ z. get_elem? z c) (sym kept) ∙ h));
              })
              (λ j y ne f q. let o = b.each j y f q in record { fits = fits_other log log' vals vals' j y.calls e g (λ z. ne (sym z ∙ pass)) o.fits; rising = o.rising; kept = λ c i cs h. moved i cs (o.kept c i cs h) });
          later = λ j le. fits_other log log' vals vals' j [] e g (λ z. let y = sym z ∙ pass in omega (arith, long, le, inside, y)) (b.later j (omega (arith, long, le)));
          few = λ j. let q = b.few j in let p = g (own j weight_one) in dite (ℕ_discrete j id)
              (λ (z : j ≡ id). let y = own-same j weight_one e (pass ∙ sym z) in let m : total w (own j weight_one) log vals ≡ length v.calls = ap (λ (i : ℕ). total w (own i weight_one) log vals) z ∙ many in omega (arith, p, y, m, room))
              (λ ne. let y = own-other j weight_one e (λ z. ne (sym z ∙ pass)) in omega (arith, p, q, y));
        }

    -- a seat is made
    pub books_admit : (v : SeatView) → Books w log vals (views ++ next_view (length views) v ∷ [])
    books_admit v =
        let u : SeatView = next_view (length views) v in
        let long : length (views ++ u ∷ []) ≡ length views + 1 = length_push views u in
        let moved : (i : ℕ) (cs : List Entry) → IsKept w log vals views i cs → IsKept w log vals (views ++ u ∷ []) i cs = λ i cs o. record {
          fits = o.fits;
          rising = o.rising;
          gone = λ y h. ⊎_elim (λ (p : get_elem? views i ≡ some y). o.gone y p) (λ (p : (u ≡ y) × (i ≡ length views)). absurd (let c = o.below in let z = p.1 in omega (arith, c, z))) (at_push views u y i h);
          below = let c = o.below in omega (arith, long, c);
        } in record {
          each = λ j y h q. ⊎_elim (λ (p : get_elem? views j ≡ some y). let o = b.each j y p q in record { fits = o.fits; rising = o.rising; kept = λ c i cs f. moved i cs (o.kept c i cs f) })
              (λ (p : (u ≡ y) × (j ≡ length views)). subst (λ (z : ℕ × SeatView). IsBooked w log vals (views ++ u ∷ []) z.0 z.1) (λ i. (sym p.1 i, p.0 i))
              record { fits = b.later (length views) (omega arith); rising = rising_none u.seen; kept = λ c i cs f. absurd (let z = at_below [] c (i, cs) f in omega (arith, z)) })
              (at_push views u y j h);
          later = λ j le. b.later j (omega (arith, long, le));
          few = b.few;
        }

    -- a seat is taken in
    pub books_merge : (id other : ℕ) (v u : SeatView) → get_elem? views id ≡ some v → other ≢ id → get_elem? views other ≡ some u → v.spent ≡ false → u.spent ≡ false → u.number ≡ other → Books w log vals (set (set views id (joint_view v u)) other spent_view)
    books_merge id other v u at ne at' used used' named =
        let both : SeatView = joint_view v u in
        let fewer : List SeatView = set (set views id both) other spent_view in
        let long : length fewer ≡ length views = length-set (set views id both) other spent_view ∙ length-set views id both in
        let moved : (i : ℕ) (cs : List Entry) → IsKept w log vals views i cs → IsKept w log vals fewer i cs = λ i cs o. record {
          fits = o.fits;
          rising = o.rising;
          gone = λ y h. let P : ℕ → SeatView → Type 0 = λ j z. j ≡ i → z.spent ≡ true in
              each_set P (set views id both) other spent_view (λ _. refl) (λ j z _ f. each_set P views id both (λ q. o.gone v (ap (get_elem? views) (sym q) ∙ at)) (λ j z _ f q. o.gone z (ap (get_elem? views) (sym q) ∙ f)) j z f) i y h refl;
          below = let c = o.below in omega (arith, long, c);
        } in
        let ov = b.each id v at used in
        let ou = b.each other u at' used' in
        let taken : IsKept w log vals fewer u.number u.calls = record {
          fits = subst (λ (z : ℕ). Fits w log vals z u.calls) (sym named) ou.fits;
          rising = (u.seen, ou.rising);
          gone = λ y h. each_set (λ j z. j ≡ other → z.spent ≡ true) (set views id both) other spent_view (λ _. refl) (λ j z away f q. absurd (away q)) u.number y h named;
          below = let c = at_below views other u at' in omega (arith, long, c, named);
        } in
        let P : ℕ → SeatView → Type 0 = λ j y. y.spent ≡ false → IsBooked w log vals fewer j y in
        let as_before : (j : ℕ) (y : SeatView) → get_elem? views j ≡ some y → P j y = λ j y f q. let o = b.each j y f q in record { fits = o.fits; rising = o.rising; kept = λ c i cs h. moved i cs (o.kept c i cs h) } in record {
          each = each_set P (set views id both) other spent_view (λ q. absurd (let z : true ≡ false = q in (cc)))
              (λ j y _ f. each_set P views id both
              (λ _. record {
                fits = ov.fits;
                rising = ov.rising;
                kept = λ c i cs h. append_at (λ (z : ℕ × List Entry). IsKept w log vals fewer z.0 z.1) ((u.number, u.calls) ∷ v.kept) u.kept
                    (first_or (λ (z : ℕ × List Entry). IsKept w log vals fewer z.0 z.1) (u.number, u.calls) v.kept taken (λ c z h. moved z.0 z.1 (ov.kept c z.0 z.1 h))) (λ c z h. moved z.0 z.1 (ou.kept c z.0 z.1 h)) c (i, cs) h;
              })
              (λ j y _ f. as_before j y f) j y f);
          later = λ j le. b.later j (omega (arith, long, le));
          few = b.few;
        }
