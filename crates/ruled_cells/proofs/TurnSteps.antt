-- A step of one seat keeps the rule of the table: for each cell nothing of it changed, or its word was 0 or the seat's, and is so again.
use Rattle.std.proofs.Common.{◌≡◌, ◌≢◌, ◌⊎◌, ℕ, ◌+◌, ◌<◌, ◌≤◌, true, false, List, map, length, get_or, set, sym, ap, ◌∙◌, subst, ⊎_elim, inl, inr, arith, Option, Some, None, length-set}
use mathlib.Core.Logic.{dite}
use mathlib.Core.Option.{some}
use mathlib.Core.Option as maybe
use native.Mathlib.Decide.{ℕ_discrete}
use lib.ListN.{get_elem?}
use lib.Seq.{map-set}
use Rattle.atomic_table.{specs.Table.State, proofs.Lists.at_set, proofs.Lists.set_here, proofs.Lists.set_else}
use Rattle.ruled_cells.proofs.Places.{at_below, at_same, some_some, some_none}
use Rattle.ruled_cells.specs.{Turning.HasTurn, Turning.IsIn, Turning.Knows, Turning.client, Turning.Tied, declared.turns.seat_state.SeatState.SeatState}

-- what a step may change
pub record Look (X : Type 0) : Type 0 where
  pub words : List ℕ
  pub vals : List X
  pub homes : List (maybe.Option (Option X))
  pub taken : List (Option X)
  pub moving : Option ℕ

module _ {X : Type 0} where
  pub record Same (k : ℕ) (a b : Look X) : Type 0 where
    pub word : get_or b.words k 0 ≡ get_or a.words k 0
    pub val : get_elem? b.vals k ≡ get_elem? a.vals k
    pub home : get_elem? b.homes k ≡ get_elem? a.homes k
    pub turn : get_elem? b.taken k ≡ get_elem? a.taken k
    pub moves : b.moving ≢ Some k → a.moving ≢ Some k

  pub record IsFree (k : ℕ) (b : Look X) : Type 0 where
    pub value : X
    pub word : get_or b.words k 0 ≡ 0
    pub val : get_elem? b.vals k ≡ some value
    pub home : get_elem? b.homes k ≡ some (some (Some value))
    pub turn : get_elem? b.taken k ≡ some None

  pub record IsHeld (id k : ℕ) (b : Look X) : Type 0 where
    pub value : X
    pub word : get_or b.words k 0 ≡ id + 1
    pub val : get_elem? b.vals k ≡ some value
    pub turn : get_elem? b.taken k ≡ some (Some value)
    pub home : b.moving ≢ Some k → get_elem? b.homes k ≡ some (some None)

  pub record Mine (id k : ℕ) (a b : Look X) : Type 0 where
    pub was : (get_or a.words k 0 ≡ 0) ⊎ (get_or a.words k 0 ≡ id + 1)
    pub now : IsFree k b ⊎ IsHeld id k b

  abbrev pub Moves : ℕ → ℕ → Look X → Look X → Type 0
  Moves id k a b = Same k a b ⊎ Mine id k a b

  abbrev AtHome : ℕ → Look X → Type 0
  AtHome k a = (x : X) × (get_elem? a.vals k ≡ some x) × (get_elem? a.homes k ≡ some (some (Some x)))

  free_now : (id k : ℕ) (b : Look X) → IsFree k b ⊎ IsHeld id k b → get_or b.words k 0 ≡ 0 → AtHome k b
  free_now id k b (inl f) z = (f.value, f.val, f.home)
  free_now id k b (inr h) z = absurd (omega (arith, h.word, z))

  free_after : (id k : ℕ) (a b : Look X) → (get_or a.words k 0 ≡ 0 → AtHome k a) → Moves id k a b → get_or b.words k 0 ≡ 0 → AtHome k b
  free_after id k a b old (inl s) z = let o = old (sym s.word ∙ z) in (o.0, s.val ∙ o.1, s.home ∙ o.2)
  free_after id k a b old (inr m) z = free_now id k b m.now z

  -- a cell whose word names another seat has not changed
  anothers : (id j k : ℕ) (a b : Look X) → j ≢ id → Moves id k a b → get_or a.words k 0 ≡ j + 1 → Same k a b
  anothers id j k a b ne (inl s) e = s
  anothers id j k a b ne (inr m) e = absurd (⊎_elim (λ z. omega (arith, z, e)) (λ z. ne (omega (arith, z, e))) m.was)

  not_named : (id j k : ℕ) (b : Look X) → j ≢ id → IsFree k b ⊎ IsHeld id k b → get_or b.words k 0 ≢ j + 1
  not_named id j k b ne (inl f) e = omega (arith, f.word, e)
  not_named id j k b ne (inr h) e = ne (omega (arith, h.word, e))

  still_not : (id j k : ℕ) (a b : Look X) → j ≢ id → Moves id k a b → get_or a.words k 0 ≢ j + 1 → get_or b.words k 0 ≢ j + 1
  still_not id j k a b ne (inl s) nope = λ e. nope (sym s.word ∙ e)
  still_not id j k a b ne (inr m) nope = not_named id j k b ne m.now

  -- what the seat itself knows of its cells
  held_now : (id k : ℕ) (b : Look X) (x : X) → IsFree k b ⊎ IsHeld id k b → HasTurn b.taken k x → (get_or b.words k 0 ≡ id + 1) × (get_elem? b.vals k ≡ some x)
  held_now id k b x (inl f) t = absurd (some_none x (sym t ∙ f.turn))
  held_now id k b x (inr h) t = (h.word, h.val ∙ ap some (some_some h.value x (sym h.turn ∙ t)))

  held_after : (id k : ℕ) (a b : Look X) (x : X) → (HasTurn a.taken k x → (get_or a.words k 0 ≡ id + 1) × (get_elem? a.vals k ≡ some x)) → Moves id k a b → HasTurn b.taken k x
      → (get_or b.words k 0 ≡ id + 1) × (get_elem? b.vals k ≡ some x)
  held_after id k a b x old (inl s) t = let o = old (sym s.turn ∙ t) in (s.word ∙ o.0, s.val ∙ o.1)
  held_after id k a b x old (inr m) t = held_now id k b x m.now t

  unheld_now : (id k : ℕ) (b : Look X) → IsFree k b ⊎ IsHeld id k b → get_elem? b.taken k ≡ some None → get_or b.words k 0 ≢ id + 1
  unheld_now id k b (inl f) t e = omega (arith, f.word, e)
  unheld_now id k b (inr h) t e = some_none h.value (sym h.turn ∙ t)

  unheld_after : (id k : ℕ) (a b : Look X) → (get_elem? a.taken k ≡ some None → get_or a.words k 0 ≢ id + 1) → Moves id k a b → get_elem? b.taken k ≡ some None → get_or b.words k 0 ≢ id + 1
  unheld_after id k a b old (inl s) t = λ e. old (sym s.turn ∙ t) (sym s.word ∙ e)
  unheld_after id k a b old (inr m) t = unheld_now id k b m.now t

  empty_now : (id k : ℕ) (b : Look X) (x : X) → IsFree k b ⊎ IsHeld id k b → HasTurn b.taken k x → b.moving ≢ Some k → get_elem? b.homes k ≡ some (some None)
  empty_now id k b x (inl f) t nope = absurd (some_none x (sym t ∙ f.turn))
  empty_now id k b x (inr h) t nope = h.home nope

  empty_after : (id k : ℕ) (a b : Look X) (x : X) → (HasTurn a.taken k x → a.moving ≢ Some k → get_elem? a.homes k ≡ some (some None)) → Moves id k a b → HasTurn b.taken k x → b.moving ≢ Some k
      → get_elem? b.homes k ≡ some (some None)
  empty_after id k a b x old (inl s) t nope = s.home ∙ old (sym s.turn ∙ t) (s.moves nope)
  empty_after id k a b x old (inr m) t nope = empty_now id k b x m.now t nope

abbrev pub look : {X V : Type 0} → List ℕ → List X → List (maybe.Option (Option X)) → SeatState X V → Look X
look words vals homes d = record { words = words; vals = vals; homes = homes; taken = d.taken; moving = d.moving }

-- what a step of a seat leaves
pub record IsAlong {X V : Type 0} (d e : SeatState X V) : Type 0 where
  pub number : e.number ≡ d.number
  pub among : e.among ≡ d.among
  pub live : e.live ≡ d.live
  pub sized : length e.taken ≡ length d.taken
  pub joined : e.joined ≡ d.joined
  pub makes : e.makes ≡ d.makes
  pub made : e.made ≡ d.made

module _ {X V : Type 0} (n seats : ℕ) (holds : List ℕ → List X → List V → Type 0) where
  abbrev D : Type 0
  D = SeatState X V

  abbrev St : Type 0
  St = State (Option X) D

  abbrev Homes : Type 0
  Homes = List (maybe.Option (Option X))

  module _ (s : St) (t : Tied n seats holds s) (id : ℕ) (d e : D) (words : List ℕ) (vals : List X) (homes : Homes) where
    abbrev a : Look X
    a = look s.words t.vals s.homes d

    abbrev b : Look X
    b = look words vals homes e

    abbrev views : List D
    views = set s.views id e

    abbrev Each : Type 0
    Each = (k : ℕ) → k < n → Moves id k a b

    -- the seat itself
    mine : get_elem? s.views id ≡ some d → d.live ≡ true → IsAlong d e → Each → Knows n seats words vals homes views id e
    mine at live along moves =
        let kn : Knows n seats s.words t.vals s.homes s.views id d = t.each id d at live in
        let sized : length e.taken ≡ n = along.sized ∙ kn.sized in record {
          number = along.number ∙ kn.number;
          among = along.among ∙ kn.among;
          sized = sized;
          has = record {
            turn = λ k x h. held_after id k a b x (kn.has.turn k x) (moves k (subst (λ (z : ℕ). k < z) sized (at_below e.taken k (Some x) h))) h;
            no_turn = λ k h. unheld_after id k a b (kn.has.no_turn k) (moves k (subst (λ (z : ℕ). k < z) sized (at_below e.taken k None h))) h;
          };
          empty = λ k x h nope. empty_after id k a b x (kn.empty k x) (moves k (subst (λ (z : ℕ). k < z) sized (at_below e.taken k (Some x) h))) h nope;
          joined = λ i u is at'. let is' : IsIn i d.joined = subst (IsIn i) along.joined is in
              ⊎_elim (λ (p : (i ≡ id) × (e ≡ u)). absurd (let f : d.live ≡ false = kn.joined i d is' (ap (get_elem? s.views) p.0 ∙ at) in (cc)))
              (λ (p : (i ≢ id) × (get_elem? s.views i ≡ some u)). kn.joined i u is' p.1) (at_set s.views id i e u at');
          joined_below = λ i is. subst (λ (z : ℕ). i < z) (sym (length-set s.views id e)) (kn.joined_below i (subst (IsIn i) along.joined is));
          makes = λ m. let q = kn.makes (sym along.makes ∙ m) in (length-set s.views id e ∙ (q.0 ∙ sym along.made), q.1);
        }

    -- another seat
    others : get_elem? s.views id ≡ some d → d.live ≡ true → Each → (j : ℕ) (u : D) → j ≢ id → get_elem? s.views j ≡ some u → u.live ≡ true → Knows n seats words vals homes views j u
    others at live moves j u ne at' live' =
        let kn : Knows n seats s.words t.vals s.homes s.views j u = t.each j u at' live' in
        let same : (k : ℕ) (x : X) → HasTurn u.taken k x → Same k a b = λ k x h. anothers id j k a b ne (moves k (subst (λ (z : ℕ). k < z) kn.sized (at_below u.taken k (Some x) h))) (kn.has.turn k x h).0 in record {
          number = kn.number;
          among = kn.among;
          sized = kn.sized;
          has = record {
            turn = λ k x h. let m = same k x h in let q = kn.has.turn k x h in (m.word ∙ q.0, m.val ∙ q.1);
            no_turn = λ k h. still_not id j k a b ne (moves k (subst (λ (z : ℕ). k < z) kn.sized (at_below u.taken k None h))) (kn.has.no_turn k h);
          };
          empty = λ k x h nope. (same k x h).home ∙ kn.empty k x h nope;
          joined = λ i w is at''. ⊎_elim (λ (p : (i ≡ id) × (e ≡ w)). absurd (let f : d.live ≡ false = kn.joined i d is (ap (get_elem? s.views) p.0 ∙ at) in (cc)))
              (λ (p : (i ≢ id) × (get_elem? s.views i ≡ some w)). kn.joined i w is p.1) (at_set s.views id i e w at'');
          joined_below = λ i is. subst (λ (z : ℕ). i < z) (sym (length-set s.views id e)) (kn.joined_below i is);
          makes = λ m. let q = kn.makes m in (length-set s.views id e ∙ q.0, q.1);
        }

    -- who has the turn of the cell k
    abbrev Owner : ℕ → Type 0
    Owner k = (j : ℕ) × (u : D) × (x : X) × (get_or words k 0 ≡ j + 1) × (get_elem? views j ≡ some u) × (u.live ≡ true) × HasTurn u.taken k x

    owner_same : get_elem? s.views id ≡ some d → IsAlong d e → (k j : ℕ) (u : D) (x : X) → Same k a b → get_or s.words k 0 ≡ j + 1 → get_elem? s.views j ≡ some u → u.live ≡ true → HasTurn u.taken k x → Owner k
    owner_same at along k j u x m w at' live' h = dite (ℕ_discrete j id)
        (λ (q : j ≡ id). let is : u ≡ d = at_same s.views id u d (ap (get_elem? s.views) (sym q) ∙ at') at in
        (id, e, x, m.word ∙ (w ∙ ap (λ (z : ℕ). z + 1) q), set_here s.views id e (at_below s.views id d at), along.live ∙ (ap (λ (z : D). z.live) (sym is) ∙ live'), m.turn ∙ (ap (λ (z : D). get_elem? z.taken k) (sym is) ∙ h)))
        (λ ne. (j, u, x, m.word ∙ w, set_else s.views id j e ne ∙ at', live', h))

    owner_mine : get_elem? s.views id ≡ some d → d.live ≡ true → IsAlong d e → (k : ℕ) → IsFree k b ⊎ IsHeld id k b → get_or words k 0 ≢ 0 → Owner k
    owner_mine at live along k (inl f) nope = absurd (nope f.word)
    owner_mine at live along k (inr h) nope = (id, e, h.value, h.word, set_here s.views id e (at_below s.views id d at), along.live ∙ live, h.turn)

    owner : get_elem? s.views id ≡ some d → d.live ≡ true → IsAlong d e → (k : ℕ) → k < n → Moves id k a b → get_or words k 0 ≢ 0 → Owner k
    owner at live along k lt (inl m) nope = let o = t.owned k lt (λ z. nope (m.word ∙ z)) in owner_same at along k o.0 o.1 o.2 m o.3 o.4 o.5 o.6
    owner at live along k lt (inr m) nope = owner_mine at live along k m.now nope

    pub steps : get_elem? s.views id ≡ some d → d.live ≡ true → IsAlong d e → length words ≡ n + 1 → length vals ≡ n → length homes ≡ n → Each
        → holds words vals (set (map client s.views) id e.client) → Tied n seats holds record { words = words; homes = homes; views = set s.views id e }
    steps at live along wide full deep moves kept = record {
      vals = vals;
      wide = wide;
      deep = deep;
      full = full;
      crowd = subst (λ (z : ℕ). z ≤ seats) (sym (length-set s.views id e)) t.crowd;
      few = t.few;
      free = λ k lt z. free_after id k a b (t.free k lt) (moves k lt) z;
      owned = λ k lt nope. owner at live along k lt (moves k lt) nope;
      each = λ j u at' live'. ⊎_elim
          (λ (p : (j ≡ id) × (e ≡ u)). subst (λ (z : ℕ × D). Knows n seats words vals homes views z.0 z.1) (λ i. (sym p.0 i, p.1 i)) (mine at live along moves))
          (λ (p : (j ≢ id) × (get_elem? s.views j ≡ some u)). others at live moves j u p.0 p.1 live') (at_set s.views id j e u at');
      kept = subst (holds words vals) (sym (map-set client s.views id e)) kept;
    }
