-- Making cells and seats, and taking them apart.
use Rattle.std.proofs.Common.{◌≡◌, ◌≢◌, ◌⊎◌, ℕ, zero, suc, ◌+◌, ◌^◌, ◌<◌, ◌≤◌, true, false, List, [], ◌∷◌, ◌++◌, map, length, replicate, get_or, set, sym, refl, ap, ◌∙◌, subst, ⊎_elim, inl, inr, arith, Option, Some, None, length-set, get_or-set_same, get_or-set_other}
use Rattle.std.proofs.lemmas.List.{length_push}
use mathlib.Core.Logic.{dite}
use mathlib.Core.Option.{some}
use mathlib.Core.Option as maybe
use mathlib.Core.List.{map-append}
use native.Mathlib.Decide.{ℕ_discrete}
use lib.ListN.{get_elem?, length-map, length-replicate, get_or-replicate}
use lib.Seq.{map-set}
use Rattle.atomic_table.proofs.Lists.{at_set, set_here, set_else, set_again, at_map, at_longer}
use Rattle.atomic_table.specs.Table.{State, Splits, Joins, opening, Final, Seen}
use Rattle.ruled_cells.specs.declared.turns.seat_state.SeatState.{SeatState}
use Rattle.ruled_cells.specs.Turning.{HasTurn, NoTurn, Has, IsIn, Knows, client, Tied, Admits, Merges, Settled, opener, enrolled, newcomer, joint, gone}
use Rattle.ruled_cells.proofs.Places.{at_below, at_there, at_same, at_replicate, replicate_at, at_front, at_push, map_at, same_somes}

only : {A : Type 0} (K : ℕ → A → Type 0) (a : A) (j : ℕ) (b : A) → K 0 a → get_elem? (a ∷ []) j ≡ some b → K j b
only K a zero b k e = subst (K 0) (maybe.some-injective a b e) k
only K a (suc j) b k e = absurd (maybe.some-ne-none b (sym e))

module _ {X V : Type 0} (n seats : ℕ) (holds : List ℕ → List X → List V → Type 0) where
  abbrev D : Type 0
  D = SeatState X V

  abbrev St : Type 0
  St = State (Option X) D

  abbrev Rule : St → Type 0
  Rule = Tied n seats holds

  -- a word that names a seat names one of the list
  named_below : (s : St) → Rule s → (k j : ℕ) → k < n → get_or s.words k 0 ≡ j + 1 → j < length s.views
  named_below s t k j lt w = let o = t.owned k lt (λ z. omega (arith, z, w)) in
      let b : o.0 < length s.views = at_below s.views o.0 o.1 o.4 in omega (arith, b, o.3, w)

  -- ---- seat 0 makes another

  module _ (s : St) (t : Rule s) (id : ℕ) (d : D) (at : get_elem? s.views id ≡ some d) (live : d.live ≡ true) (makes : d.makes ≡ true) (room : d.made < d.among) (new : ℕ → V → V) where
    abbrev m : D
    m = newcomer new d

    abbrev front : List D
    front = set s.views id (enrolled d)

    abbrev more : List D
    more = front ++ m ∷ []

    kn : Knows n seats s.words t.vals s.homes s.views id d
    kn = t.each id d at live

    long : length more ≡ length s.views + 1
    long = length_push front m ∙ ap (λ (z : ℕ). z + 1) (length-set s.views id (enrolled d))

    -- what stands in the longer list stood in the shorter one, but for the count of seat 0
    stood : (i : ℕ) (u : D) → i < length s.views → get_elem? more i ≡ some u → (u' : D) × (get_elem? s.views i ≡ some u') × (u'.live ≡ u.live)
    stood i u lt e =
        let f : get_elem? front i ≡ some u = sym (at_front front m i (subst (λ (z : ℕ). i < z) (sym (length-set s.views id (enrolled d))) lt)) ∙ e in
        ⊎_elim (λ (p : (i ≡ id) × (enrolled d ≡ u)). (d, ap (get_elem? s.views) p.0 ∙ at, ap (λ (z : D). z.live) p.1)) (λ (p : (i ≢ id) × (get_elem? s.views i ≡ some u)). (u, p.1, refl)) (at_set s.views id i (enrolled d) u f)

    old : (j : ℕ) (u v : D) → v.number ≡ u.number → v.among ≡ u.among → v.taken ≡ u.taken → v.moving ≡ u.moving → v.joined ≡ u.joined → Knows n seats s.words t.vals s.homes s.views j u
        → (v.makes ≡ true → (length more ≡ v.made) × (j ≡ 0)) → Knows n seats s.words t.vals s.homes more j v
    old j u v number among taken moving joined k now = record {
      number = number ∙ k.number;
      among = among ∙ k.among;
      sized = ap length taken ∙ k.sized;
      has = subst (λ (z : List (Option X)). Has j z s.words t.vals) (sym taken) k.has;
      empty = λ c x h away. k.empty c x (ap (λ (z : List (Option X)). get_elem? z c) (sym taken) ∙ h) (λ e. away (moving ∙ e));
      joined = λ i w is e. let is' : IsIn i u.joined = subst (IsIn i) joined is in let o = stood i w (k.joined_below i is') e in sym o.2 ∙ k.joined i o.0 is' o.1;
      joined_below = λ i is. let b = k.joined_below i (subst (IsIn i) joined is) in omega (arith, b, long);
      makes = now;
    }

    pub fresh : Knows n seats s.words t.vals s.homes more (length s.views) m
    fresh = record {
      number = sym (kn.makes makes).0;
      among = kn.among;
      sized = length-replicate (length d.taken) None ∙ kn.sized;
      has = record {
        turn = λ k x h. absurd (let e : None ≡ Some x = at_replicate (length d.taken) k None (Some x) h in (cc));
        no_turn = λ k h w. let lt : k < length (replicate (length d.taken) None) = at_below (replicate (length d.taken) None) k None h in
            let b = named_below s t k (length s.views) (subst (λ (z : ℕ). k < z) (length-replicate (length d.taken) None ∙ kn.sized) lt) w in omega (arith, b);
      };
      empty = λ k x h away. absurd (let e : None ≡ Some x = at_replicate (length d.taken) k None (Some x) h in (cc));
      joined = λ i u is. absurd (let b : is.0 < 0 = at_below [] is.0 i is.1 in omega (arith, b));
      joined_below = λ i is. absurd (let b : is.0 < 0 = at_below [] is.0 i is.1 in omega (arith, b));
      makes = λ q. absurd (let e : false ≡ true = q in (cc));
    }

    each : (j : ℕ) (u : D) → get_elem? more j ≡ some u → u.live ≡ true → Knows n seats s.words t.vals s.homes more j u
    each j u e l = ⊎_elim
        (λ (f : get_elem? front j ≡ some u). ⊎_elim
        (λ (p : (j ≡ id) × (enrolled d ≡ u)). subst (λ (z : ℕ × D). Knows n seats s.words t.vals s.homes more z.0 z.1) (λ i. (sym p.0 i, p.1 i))
        (old id d (enrolled d) refl refl refl refl refl kn (λ q. let f = kn.makes q in (long ∙ ap (λ (z : ℕ). z + 1) f.0, f.1))))
        (λ (p : (j ≢ id) × (get_elem? s.views j ≡ some u)). let k = t.each j u p.1 l in old j u u refl refl refl refl refl k (λ q. absurd (p.0 ((k.makes q).1 ∙ sym (kn.makes makes).1))))
        (at_set s.views id j (enrolled d) u f))
        (λ (p : (m ≡ u) × (j ≡ length front)). subst (λ (z : ℕ × D). Knows n seats s.words t.vals s.homes more z.0 z.1) (λ i. (sym (p.1 ∙ length-set s.views id (enrolled d)) i, p.0 i)) fresh)
        (at_push front m u j e)

    -- who had a turn has it
    owner : (k : ℕ) → k < n → get_or s.words k 0 ≢ 0 → (j : ℕ) × (u : D) × (x : X) × (get_or s.words k 0 ≡ j + 1) × (get_elem? more j ≡ some u) × (u.live ≡ true) × HasTurn u.taken k x
    owner k lt nz =
        let o = t.owned k lt nz in
        dite (ℕ_discrete o.0 id)
        (λ (q : o.0 ≡ id). let is : o.1 ≡ d = at_same s.views id o.1 d (ap (get_elem? s.views) (sym q) ∙ o.4) at in
        (id, enrolled d, o.2, o.3 ∙ ap (λ (z : ℕ). z + 1) q, at_longer front (m ∷ []) id (enrolled d) (set_here s.views id (enrolled d) (at_below s.views id d at)), live, ap (λ (z : D). get_elem? z.taken k) (sym is) ∙ o.6))
        (λ ne. (o.0, o.1, o.2, o.3, at_longer front (m ∷ []) o.0 o.1 (set_else s.views id o.0 (enrolled d) ne ∙ o.4), o.5, o.6))

    clients : map client more ≡ map client s.views ++ new (length (map client s.views)) d.client ∷ []
    clients = map-append client front (m ∷ []) ∙ (λ i.
        (map-set client s.views id (enrolled d) ∙ set_again (map client s.views) id d.client (at_map client s.views id d at)) i
        ++ new ((sym (kn.makes makes).0 ∙ sym (length-map s.views client)) i) d.client ∷ [])

    enrolls : Admits holds d.client new → Rule record { words = s.words; homes = s.homes; views = more }
    enrolls rule = record {
      vals = t.vals;
      wide = t.wide;
      deep = t.deep;
      full = t.full;
      crowd = let a = kn.among in let b = (kn.makes makes).0 in omega (arith, long, a, b, room);
      few = t.few;
      free = t.free;
      owned = owner;
      each = each;
      kept = subst (holds s.words t.vals) (sym clients) (rule s.words t.vals (map client s.views) t.kept
          (ap (get_elem? (map client s.views)) (sym (kn.makes makes).1) ∙ at_map client s.views id d at)
          (λ k lt w. let b = named_below s t k (length (map client s.views)) (subst (λ (z : ℕ). k < z) t.full lt) w in let l : length (map client s.views) ≡ length s.views = length-map s.views client in omega (arith, b, l)));
    }

  pub splits : (id : ℕ) (d : D) (new : ℕ → V → V) → d.live ≡ true → d.makes ≡ true → d.made < d.among → Admits holds d.client new → Splits Rule id d (enrolled d) (newcomer new d)
  splits id d new live makes room rule s t at = enrolls s t id d at live makes room new rule

  -- ---- a seat takes in another

  module _ (s : St) (t : Rule s) (id other : ℕ) (d e : D) (at : get_elem? s.views id ≡ some d) (apart : other ≢ id) (at_other : get_elem? s.views other ≡ some e) (live : d.live ≡ true) (live' : e.live ≡ true)
      (bare : (k : ℕ) → NoTurn e.taken k) (both : V → V → V) (spent : V) where
    abbrev j' : D
    j' = joint both d e

    abbrev g' : D
    g' = gone spent

    abbrev fewer : List D
    fewer = set (set s.views id j') other g'

    kd : Knows n seats s.words t.vals s.homes s.views id d
    kd = t.each id d at live

    ke : Knows n seats s.words t.vals s.homes s.views other e
    ke = t.each other e at_other live'

    as_long : length fewer ≡ length s.views
    as_long = length-set (set s.views id j') other g' ∙ length-set s.views id j'

    -- what stands there now is the spent view, or the joint one, or what stood there
    stands : (i : ℕ) (u : D) → get_elem? fewer i ≡ some u → ((i ≡ other) × (g' ≡ u)) ⊎ (((i ≡ id) × (j' ≡ u)) ⊎ ((i ≢ id) × (i ≢ other) × (get_elem? s.views i ≡ some u)))
    stands i u h = ⊎_elim (λ (p : (i ≡ other) × (g' ≡ u)). inl p)
        (λ (p : (i ≢ other) × (get_elem? (set s.views id j') i ≡ some u)). ⊎_elim (λ (q : (i ≡ id) × (j' ≡ u)). inr (inl q)) (λ (q : (i ≢ id) × (get_elem? s.views i ≡ some u)). inr (inr (q.0, p.0, q.1))) (at_set s.views id i j' u p.1))
        (at_set (set s.views id j') other i g' u h)

    -- who was taken in before is not used
    unused : (i : ℕ) (u : D) → ((w : D) → get_elem? s.views i ≡ some w → w.live ≡ false) → get_elem? fewer i ≡ some u → u.live ≡ false
    unused i u was h = ⊎_elim (λ (p : (i ≡ other) × (g' ≡ u)). ap (λ (z : D). z.live) (sym p.1))
        (λ (r : ((i ≡ id) × (j' ≡ u)) ⊎ ((i ≢ id) × (i ≢ other) × (get_elem? s.views i ≡ some u))). ⊎_elim
        (λ (q : (i ≡ id) × (j' ≡ u)). absurd (let f : d.live ≡ false = was d (ap (get_elem? s.views) q.0 ∙ at) in (cc)))
        (λ (q : (i ≢ id) × (i ≢ other) × (get_elem? s.views i ≡ some u)). was u q.2) r)
        (stands i u h)

    taken_in : (i : ℕ) (u : D) → IsIn i (e.number ∷ d.joined) → get_elem? fewer i ≡ some u → u.live ≡ false
    taken_in i u (zero, is) h = let q : i ≡ other = maybe.some-injective i e.number (sym is) ∙ ke.number in
        ap (λ (z : D). z.live) (at_same fewer other u g' (ap (get_elem? fewer) (sym q) ∙ h) (set_here (set s.views id j') other g' (subst (λ (z : ℕ). other < z) (sym (length-set s.views id j')) (at_below s.views other e at_other))))
    taken_in i u (suc k, is) h = unused i u (λ w f. kd.joined i w (k, is) f) h

    below : (i : ℕ) → IsIn i (e.number ∷ d.joined) → i < length s.views
    below i (zero, is) = let q : i ≡ other = maybe.some-injective i e.number (sym is) ∙ ke.number in subst (λ (z : ℕ). z < length s.views) (sym q) (at_below s.views other e at_other)
    below i (suc k, is) = kd.joined_below i (k, is)

    joins_id : Knows n seats s.words t.vals s.homes fewer id j'
    joins_id = record {
      number = kd.number;
      among = kd.among;
      sized = kd.sized;
      has = kd.has;
      empty = kd.empty;
      joined = taken_in;
      joined_below = λ i is. subst (λ (z : ℕ). i < z) (sym as_long) (below i is);
      makes = λ q. let f = kd.makes q in (as_long ∙ f.0, f.1);
    }

    joins_each : (j : ℕ) (u : D) → get_elem? fewer j ≡ some u → u.live ≡ true → Knows n seats s.words t.vals s.homes fewer j u
    joins_each j u h l = ⊎_elim (λ (p : (j ≡ other) × (g' ≡ u)). absurd (let f : false ≡ u.live = ap (λ (z : D). z.live) p.1 in (cc)))
        (λ (r : ((j ≡ id) × (j' ≡ u)) ⊎ ((j ≢ id) × (j ≢ other) × (get_elem? s.views j ≡ some u))). ⊎_elim
        (λ (q : (j ≡ id) × (j' ≡ u)). subst (λ (z : ℕ × D). Knows n seats s.words t.vals s.homes fewer z.0 z.1) (λ i. (sym q.0 i, q.1 i)) joins_id)
        (λ (q : (j ≢ id) × (j ≢ other) × (get_elem? s.views j ≡ some u)). let k = t.each j u q.2 l in record {
          number = k.number;
          among = k.among;
          sized = k.sized;
          has = k.has;
          empty = k.empty;
          joined = λ i w is f. unused i w (λ y. k.joined i y is) f;
          joined_below = λ i is. subst (λ (z : ℕ). i < z) (sym as_long) (k.joined_below i is);
          makes = λ q'. let f = k.makes q' in (as_long ∙ f.0, f.1);
        }) r)
        (stands j u h)

    -- no turn is the other's
    not_other : (k : ℕ) (o : ℕ) (u : D) (x : X) → get_elem? s.views o ≡ some u → HasTurn u.taken k x → o ≢ other
    not_other k o u x h turn q = bare k x (ap (λ (z : D). get_elem? z.taken k) (at_same s.views other e u at_other (ap (get_elem? s.views) (sym q) ∙ h)) ∙ turn)

    joins_owner : (k : ℕ) → k < n → get_or s.words k 0 ≢ 0 → (j : ℕ) × (u : D) × (x : X) × (get_or s.words k 0 ≡ j + 1) × (get_elem? fewer j ≡ some u) × (u.live ≡ true) × HasTurn u.taken k x
    joins_owner k lt nz =
        let o = t.owned k lt nz in
        let away : o.0 ≢ other = not_other k o.0 o.1 o.2 o.4 o.6 in
        dite (ℕ_discrete o.0 id)
        (λ (q : o.0 ≡ id). let is : o.1 ≡ d = at_same s.views id o.1 d (ap (get_elem? s.views) (sym q) ∙ o.4) at in
        (id, j', o.2, o.3 ∙ ap (λ (z : ℕ). z + 1) q, set_else (set s.views id j') other id g' (λ (z : id ≡ other). apart (sym z)) ∙ set_here s.views id j' (at_below s.views id d at), live, ap (λ (z : D). get_elem? z.taken k) (sym is) ∙ o.6))
        (λ ne. (o.0, o.1, o.2, o.3, set_else (set s.views id j') other o.0 g' away ∙ (set_else s.views id o.0 j' ne ∙ o.4), o.5, o.6))

    joins_kept : Merges holds id d.client other e.client (both d.client e.client) spent → holds s.words t.vals (map client fewer)
    joins_kept rule = subst (holds s.words t.vals) (sym (map-set client (set s.views id j') other g' ∙ ap (λ (z : List V). set z other spent) (map-set client s.views id j')))
        (rule s.words t.vals (map client s.views) t.kept (at_map client s.views id d at) apart (at_map client s.views other e at_other)
        (λ k lt w. let lt' : k < n = subst (λ (z : ℕ). k < z) t.full lt in let o = t.owned k lt' (λ z. omega (arith, z, w)) in not_other k o.0 o.1 o.2 o.4 o.6 (omega (arith, o.3, w))))

    pub joins_rule : Merges holds id d.client other e.client (both d.client e.client) spent → Rule record { words = s.words; homes = s.homes; views = fewer }
    joins_rule rule = record {
      vals = t.vals;
      wide = t.wide;
      deep = t.deep;
      full = t.full;
      crowd = subst (λ (z : ℕ). z ≤ seats) (sym as_long) t.crowd;
      few = t.few;
      free = t.free;
      owned = joins_owner;
      each = joins_each;
      kept = joins_kept rule;
    }

  pub joins : (id other : ℕ) (d e : D) (both : V → V → V) (spent : V) → d.live ≡ true → e.live ≡ true → ((k : ℕ) → NoTurn e.taken k) → Merges holds d.number d.client e.number e.client (both d.client e.client) spent
      → Joins Rule id d other e (joint both d e) (gone spent)
  joins id other d e both spent live live' bare rule s t at apart at' =
      let at_other : get_elem? s.views other ≡ some e = sym (set_else s.views id other (joint both d e) apart) ∙ at' in
      joins_rule s t id other d e at apart at_other live live' bare both spent
      (subst (λ (z : ℕ × ℕ). Merges holds z.0 d.client z.1 e.client (both d.client e.client) spent) (λ i. ((t.each id d at live).number i, (t.each other e at_other live').number i)) rule)

  -- ---- the start and the end

  pub opens : (words : List ℕ) (xs : List X) (v : V) → length words ≡ n + 1 → length xs ≡ n → 0 < seats → seats < 2 ^ 32 → ((k : ℕ) → k < n → get_or words k 0 ≡ 1) → holds words xs (v ∷ [])
      → Rule (opening words (replicate n None) (opener seats xs v))
  opens words xs v wide full some_seat few ones kept =
      let d : D = opener seats xs v in
      let homes : List (maybe.Option (Option X)) = map (λ (o : Option X). some o) (replicate n None) in record {
        vals = xs;
        wide = wide;
        deep = length-map (replicate n None) (λ (o : Option X). some o) ∙ length-replicate n None;
        full = full;
        crowd = omega (arith, some_seat);
        few = few;
        free = λ k lt z. absurd (let o = ones k lt in omega (arith, z, o));
        owned = λ k lt _. let x = at_there xs k (subst (λ (z : ℕ). k < z) (sym full) lt) in (0, d, x.0, ones k lt, refl, refl, at_map (λ (y : X). Some y) xs k x.0 x.1);
        each = λ j u e l. only (λ (i : ℕ) (w : D). Knows n seats words xs homes (d ∷ []) i w) d j u (record {
          number = refl;
          among = refl;
          sized = length-map xs (λ (y : X). Some y) ∙ full;
          has = record {
            turn = λ k x h. let o = map_at (λ (y : X). Some y) xs k (Some x) h in let lt : k < n = subst (λ (z : ℕ). k < z) full (at_below xs k o.0 o.1) in (ones k lt, o.1 ∙ ap some (let q : o.0 ≡ x = (let r = o.2 in cc) in q));
            no_turn = λ k h. let o = map_at (λ (y : X). Some y) xs k None h in absurd (let r : Some o.0 ≡ None = o.2 in (cc));
          };
          empty = λ k x h away. let o = map_at (λ (y : X). Some y) xs k (Some x) h in at_map (λ (o : Option X). some o) (replicate n None) k None (replicate_at n k None (subst (λ (z : ℕ). k < z) full (at_below xs k o.0 o.1)));
          joined = λ i w is. absurd (let b : is.0 < 0 = at_below [] is.0 i is.1 in omega (arith, b));
          joined_below = λ i is. absurd (let b : is.0 < 0 = at_below [] is.0 i is.1 in omega (arith, b));
          makes = λ _. (refl, refl);
        }) e;
        kept = kept;
      }

  module _ (s : St) (t : Rule s) (id : ℕ) (d : D) (at : get_elem? s.views id ≡ some d) (live : d.live ≡ true) (bare : (k : ℕ) → NoTurn d.taken k)
      (alone : (i : ℕ) → i < d.among → i ≢ d.number → IsIn i d.joined) where
    -- a seat that has a turn is this one
    sole : (j : ℕ) (u : D) → get_elem? s.views j ≡ some u → u.live ≡ true → Dec (j ≡ id) → u ≡ d
    sole j u h l (yes q) = at_same s.views id u d (ap (get_elem? s.views) (sym q) ∙ h) at
    sole j u h l (Dec.no q) =
        let kn = t.each id d at live in let a = kn.among in let c = t.crowd in let b : j < length s.views = at_below s.views j u h in
        absurd (let f : u.live ≡ false = kn.joined j u (alone j (omega (arith, a, b, c)) (λ z. q (z ∙ kn.number))) h in (cc))

    all_free : (k : ℕ) → k < n → Dec (get_or s.words k 0 ≡ 0) → get_or s.words k 0 ≡ 0
    all_free k lt (yes z) = z
    all_free k lt (Dec.no nz) = let o = t.owned k lt nz in absurd (bare k o.2 (ap (λ (u : D). get_elem? u.taken k) (sym (sole o.0 o.1 o.4 o.5 (ℕ_discrete o.0 id))) ∙ o.6))

    pub settles : (words : List ℕ) (slots : List (Option X)) → s.words ≡ words → length s.homes ≡ length slots → ((k : ℕ) (y : Option X) → get_elem? s.homes k ≡ some (some y) → get_elem? slots k ≡ some y)
        → Settled holds n d.among d.number d.client words slots
    settles words slots same as_deep homes = record {
      vals = t.vals;
      views = map client s.views;
      slots_are = same_somes slots t.vals (sym as_deep ∙ (t.deep ∙ sym t.full)) (λ k x h. let lt : k < n = subst (λ (z : ℕ). k < z) t.full (at_below t.vals k x h) in
          let f = t.free k lt (all_free k lt (ℕ_discrete (get_or s.words k 0) 0)) in homes k (Some x) (f.2 ∙ ap (λ (y : X). some (some (Some y))) (at_same t.vals k f.0 x f.1 h)));
      rule = subst (λ (ws : List ℕ). holds ws t.vals (map client s.views)) same t.kept;
      view = ap (get_elem? (map client s.views)) (t.each id d at live).number ∙ at_map client s.views id d at;
      full = t.full;
      few = let l : length (map client s.views) ≡ length s.views = length-map s.views client in let c = t.crowd in let a = (t.each id d at live).among in omega (arith, l, c, a);
      free = λ k lt. subst (λ (ws : List ℕ). get_or ws k 0 ≡ 0) same (all_free k lt (ℕ_discrete (get_or s.words k 0) 0));
    }

  pub closes : (id cells : ℕ) (d : D) (words : List ℕ) (slots : List (Option X)) → length slots ≡ cells → d.live ≡ true → ((k : ℕ) → NoTurn d.taken k) → ((i : ℕ) → i < d.among → i ≢ d.number → IsIn i d.joined)
      → Final (Seen Rule id d) words slots → Settled holds cells d.among d.number d.client words slots
  closes id cells d words slots long live bare alone f =
      subst (λ (z : ℕ). Settled holds z d.among d.number d.client words slots) (sym f.1.0.deep ∙ (f.3 ∙ long)) (settles f.0 f.1.0 id d f.1.1 live bare alone words slots f.2 f.3 f.4)

-- the words at first
abbrev pub first_words : ℕ → List ℕ
first_words n = set (replicate (n + 1) 1) n 0

long_words : (n : ℕ) → length (first_words n) ≡ n + 1
long_words n = length-set (replicate (n + 1) 1) n 0 ∙ length-replicate (n + 1) 1

ones : (n k : ℕ) → k < n → get_or (first_words n) k 0 ≡ 1
ones n k lt = get_or-set_other (replicate (n + 1) 1) n k 0 0 (λ e. omega (arith, e, lt)) ∙ get_or-replicate (n + 1) k 1 0 (omega (arith, lt))

last_word : (n : ℕ) → get_or (first_words n) n 0 ≡ 0
last_word n = let ws : List ℕ = replicate (n + 1) 1 in let l : length ws ≡ n + 1 = length-replicate (n + 1) 1 in get_or-set_same ws n 0 0 (omega (arith, l))

pub opens_at : {X V : Type 0} (seats : ℕ) (holds : List ℕ → List X → List V → Type 0) (cells : ℕ) (words : List ℕ) (xs : List X) (v : V) → cells ≡ length xs → words ≡ first_words cells → 0 < seats → seats < 2 ^ 32
    → ((ws : List ℕ) → length ws ≡ cells + 1 → ((k : ℕ) → k < cells → get_or ws k 0 ≡ 1) → get_or ws cells 0 ≡ 0 → holds ws xs (v ∷ []))
    → Tied (length xs) seats holds (opening words (replicate cells None) (opener seats xs v))
opens_at seats holds cells words xs v count are some_seat few rule =
    let starts = opens cells seats holds (first_words cells) xs v (long_words cells) (sym count) some_seat few (ones cells) (rule (first_words cells) (long_words cells) (ones cells) (last_word cells)) in
    subst (λ (z : ℕ × List ℕ). Tied z.0 seats holds (opening z.1 (replicate cells None) (opener seats xs v))) (λ i. (count i, sym are i)) starts
