-- Each step on a turn or on the user's word is allowed.
use Rattle.std.proofs.Common.{◌≡◌, ◌≢◌, ℕ, ◌+◌, ◌^◌, ◌<◌, eqb, true, List, [], ◌∷◌, map, length, get_or, set, sym, refl, ap, ◌∙◌, subst, inl, inr, arith, Option, Some, None, length-set, get_or-set_other, get_or-set_same}
use mathlib.Core.Logic.{dite}
use mathlib.Core.Option.{some, none}
use mathlib.Core.Option as maybe
use native.Mathlib.Decide.{ℕ_discrete}
use lib.ListN.{get_elem?, length-map}
use lib.Seq.{set-get_or}
use prog.Atomic.{either}
use Rattle.atomic_table.specs.Table.{State, Me, step, Act, keeps, takes, gives, Valid, stepped, carried_after, Allows}
use Rattle.atomic_table.proofs.Lists.{set_here, set_else, set_again, at_map, exchanged}
use Rattle.ruled_cells.proofs.{Places.at_below, Places.none_free, Places.some_some, Places.some_apart, Places.none_apart, TurnSteps.Moves, TurnSteps.look, TurnSteps.steps}
use Rattle.ruled_cells.specs.declared.turns.seat_state.SeatState.{SeatState}
use Rattle.ruled_cells.specs.Turning.{HasTurn, NoTurn, Knows, client, Tied, TakesTurn, GivesTurn, Marks, IsResting, IsMoving, took, missed, gave, still, moving_at, seat_told, Got, Missed, tried, laid_back, picked_up, given_back, marks_seat}

abbrev slot_of : {X : Type 0} → List (ℕ × Option X) → Option X
slot_of [] = None
slot_of (p ∷ ps) = p.1

module _ {X V : Type 0} (n seats : ℕ) (holds : List ℕ → List X → List V → Type 0) where
  abbrev D : Type 0
  D = SeatState X V

  abbrev St : Type 0
  St = State (Option X) D

  abbrev M : Type 0
  M = Me (Option X) D

  abbrev Rule : St → Type 0
  Rule = Tied n seats holds

  -- a step on the word k
  abbrev Goes : St → ℕ → ℕ → ℕ → M → (M → Type 0) → Type 0
  Goes s k w id m then = (e : D) × (a : Act (Option X)) × Valid s.homes m.1 a × Rule (stepped s k w id m.1 e a) × then (e, carried_after m.1 a)

  module _ (s : St) (t : Rule s) (id : ℕ) (d : D) (at : get_elem? s.views id ≡ some d) (live : d.live ≡ true) where
    kn : Knows n seats s.words t.vals s.homes s.views id d
    kn = t.each id d at live

    crowded : length (map client s.views) < 2 ^ 32
    crowded = let l : length (map client s.views) ≡ length s.views = length-map s.views client in let a = t.crowd in let b = t.few in omega (arith, l, a, b)

    seen : get_elem? (map client s.views) id ≡ some d.client
    seen = at_map client s.views id d at

    -- a load changes nope word
    same_word : (k j : ℕ) → get_or (set s.words k (get_or s.words k 0)) j 0 ≡ get_or s.words j 0
    same_word k j = ap (λ (ws : List ℕ). get_or ws j 0) (set-get_or s.words k 0)

    same_kept : (k : ℕ) → holds (set s.words k (get_or s.words k 0)) t.vals (set (map client s.views) id d.client)
    same_kept k = subst (λ (ws : List ℕ). holds ws t.vals (set (map client s.views) id d.client)) (sym (set-get_or s.words k 0)) (subst (holds s.words t.vals) (sym (set_again (map client s.views) id d.client seen)) t.kept)

    take_hit : (k : ℕ) (c : List (ℕ × Option X)) (then : ℕ → V → X → X → V → Type 0) → d.moving ≡ None → k < n → TakesTurn holds n id d.taken d.client k then → get_or s.words k 0 ≡ 0
        → Goes s k (id + 1) id (d, c) (Got then k (d, c))
    take_hit k c then quiet lt rule z =
        let o = t.free k lt z in
        let r = rule s.words t.vals (map client s.views) o.0 t.full crowded t.kept kn.has seen z o.1 in
        let e : D = took d k o.0 r.0 in
        let lt' : k < length d.taken = subst (λ (q : ℕ). k < q) (sym kn.sized) lt in (
          e,
          takes k (Some o.0),
          o.2,
          steps n seats holds s t id d e (set s.words k (id + 1)) t.vals (set s.homes k maybe.none) at live record { number = refl; among = refl; live = refl; sized = length-set d.taken k (Some o.0); joined = refl; makes = refl; made = refl }
              (length-set s.words k (id + 1) ∙ t.wide) t.full (length-set s.homes k maybe.none ∙ t.deep)
              (λ j jl. dite (ℕ_discrete j k)
              (λ (q : j ≡ k). subst (λ (y : ℕ). Moves id y (look s.words t.vals s.homes d) (look (set s.words k (id + 1)) t.vals (set s.homes k maybe.none) e)) (sym q)
              (inr record { was = inl z; now = inr record { value = o.0; word = get_or-set_same s.words k (id + 1) 0 (let w = t.wide in omega (arith, w, lt)); val = o.1; turn = set_here d.taken k (Some o.0) lt'; home = λ nope. absurd (nope refl) } }))
              (λ ne. inl record { word = get_or-set_other s.words k j (id + 1) 0 ne; val = refl; home = set_else s.homes k j maybe.none ne; turn = set_else d.taken k j (Some o.0) ne; moves = λ _. none_apart d.moving j quiet }))
              r.1,
          (o.0, r.0, refl, set_here d.taken k (Some o.0) lt', r.2),
        )

    take_miss : (k : ℕ) (c : List (ℕ × Option X)) → k < n → NoTurn d.taken k → get_or s.words k 0 ≢ 0
        → Goes s k (get_or s.words k 0) id (d, c) (Missed (d, c) k (get_or s.words k 0))
    take_miss k c lt nope nz =
        let w : ℕ = get_or s.words k 0 in
        let e : D = missed d k w in
        let o = t.owned k lt nz in
        let bound : o.0 < length s.views = at_below s.views o.0 o.1 o.4 in
        let crowd = t.crowd in let few = t.few in let among = kn.among in (
          e,
          keeps,
          tt,
          steps n seats holds s t id d e (set s.words k w) t.vals s.homes at live record { number = refl; among = refl; live = refl; sized = refl; joined = refl; makes = refl; made = refl }
              (length-set s.words k w ∙ t.wide) t.full t.deep
              (λ j jl. inl record { word = same_word k j; val = refl; home = refl; turn = refl; moves = λ h. h })
              (same_kept k),
          (refl, omega (arith, bound, crowd, among, o.3), omega (arith, bound, crowd, few, o.3), λ q. kn.has.no_turn k (none_free d.taken k (subst (λ (y : ℕ). k < y) (sym kn.sized) lt) nope) (q ∙ ap (λ (y : ℕ). y + 1) kn.number)),
        )

    lay : (k : ℕ) (x : X) → d.moving ≡ Some k → k < n → HasTurn d.taken k x → Goes s k (get_or s.words k 0) id (d, (k, None) ∷ []) (λ m. m ≡ (still d, []))
    lay k x is lt turn =
        let w : ℕ = get_or s.words k 0 in
        let has = kn.has.turn k x turn in (
          still d,
          gives,
          tt,
          steps n seats holds s t id d (still d) (set s.words k w) t.vals (set s.homes k (maybe.some None)) at live record { number = refl; among = refl; live = refl; sized = refl; joined = refl; makes = refl; made = refl }
              (length-set s.words k w ∙ t.wide) t.full (length-set s.homes k (maybe.some None) ∙ t.deep)
              (λ j jl. dite (ℕ_discrete j k)
              (λ (q : j ≡ k). subst (λ (y : ℕ). Moves id y (look s.words t.vals s.homes d) (look (set s.words k w) t.vals (set s.homes k (maybe.some None)) (still d))) (sym q)
              (inr record { was = inr has.0; now = inr record { value = x; word = same_word k k ∙ has.0; val = has.1; turn = turn; home = λ _. set_here s.homes k (maybe.some None) (let h = t.deep in omega (arith, h, lt)) } }))
              (λ ne. inl record { word = same_word k j; val = refl; home = set_else s.homes k j (maybe.some None) ne; turn = refl; moves = λ _ f. some_apart k j (λ q. ne (sym q)) (sym is ∙ f) }))
              (same_kept k),
          refl,
        )

    pick : (k : ℕ) (c : List (ℕ × Option X)) (x : X) → d.moving ≡ None → k < n → HasTurn d.taken k x → Goes s k (get_or s.words k 0) id (d, c) (λ m. m ≡ (moving_at k d, (k, None) ∷ c))
    pick k c x quiet lt turn =
        let w : ℕ = get_or s.words k 0 in
        let has = kn.has.turn k x turn in (
          moving_at k d,
          takes k None,
          kn.empty k x turn (none_apart d.moving k quiet),
          steps n seats holds s t id d (moving_at k d) (set s.words k w) t.vals (set s.homes k maybe.none) at live record { number = refl; among = refl; live = refl; sized = refl; joined = refl; makes = refl; made = refl }
              (length-set s.words k w ∙ t.wide) t.full (length-set s.homes k maybe.none ∙ t.deep)
              (λ j jl. dite (ℕ_discrete j k)
              (λ (q : j ≡ k). subst (λ (y : ℕ). Moves id y (look s.words t.vals s.homes d) (look (set s.words k w) t.vals (set s.homes k maybe.none) (moving_at k d))) (sym q)
              (inr record { was = inr has.0; now = inr record { value = x; word = same_word k k ∙ has.0; val = has.1; turn = turn; home = λ nope. absurd (nope refl) } }))
              (λ ne. inl record { word = same_word k j; val = refl; home = set_else s.homes k j maybe.none ne; turn = refl; moves = λ _. none_apart d.moving j quiet }))
              (same_kept k),
          refl,
        )

    give : (k : ℕ) (x y : X) (then : ℕ → V → X → X → V → Type 0) → d.moving ≡ Some k → k < n → HasTurn d.taken k x → GivesTurn holds n id d.taken d.client k x y then
        → Goes s k 0 id (d, (k, Some y) ∷ []) (λ m. (w : V) × (m ≡ (gave d k w, [])) × then k d.client x y w)
    give k x y then is lt turn rule =
        let has = kn.has.turn k x turn in
        let r = rule s.words t.vals (map client s.views) t.full crowded t.kept kn.has seen in
        let e : D = gave d k r.0 in
        let lt' : k < length d.taken = at_below d.taken k (Some x) turn in (
          e,
          gives,
          tt,
          steps n seats holds s t id d e (set s.words k 0) (set t.vals k y) (set s.homes k (maybe.some (Some y))) at live record { number = refl; among = refl; live = refl; sized = length-set d.taken k None; joined = refl; makes = refl; made = refl }
              (length-set s.words k 0 ∙ t.wide) (length-set t.vals k y ∙ t.full) (length-set s.homes k (maybe.some (Some y)) ∙ t.deep)
              (λ j jl. dite (ℕ_discrete j k)
              (λ (q : j ≡ k). subst (λ (z : ℕ). Moves id z (look s.words t.vals s.homes d) (look (set s.words k 0) (set t.vals k y) (set s.homes k (maybe.some (Some y))) e)) (sym q)
              (inr record {
                was = inr has.0;
                now = inl record {
                  value = y;
                  word = get_or-set_same s.words k 0 0 (let w = t.wide in omega (arith, w, lt));
                  val = set_here t.vals k y (let w = t.full in omega (arith, w, lt));
                  home = set_here s.homes k (maybe.some (Some y)) (let h = t.deep in omega (arith, h, lt));
                  turn = set_here d.taken k None lt';
                };
              }))
              (λ ne. inl record { word = get_or-set_other s.words k j 0 0 ne; val = set_else t.vals k j y ne; home = set_else s.homes k j (maybe.some (Some y)) ne; turn = set_else d.taken k j None ne; moves = λ _ f. some_apart k j (λ q. ne (sym q)) (sym is ∙ f) }))
              r.1,
          (r.0, refl, r.2),
        )

    mark : (c : List (ℕ × Option X)) (m : ℕ) (then : V → V → Type 0) → Marks holds n id d.taken d.client m then → Goes s n m id (d, c) (λ x. (w : V) × (x ≡ (seat_told d w, c)) × then d.client w)
    mark c m then rule =
        let r = rule s.words t.vals (map client s.views) t.full crowded t.kept kn.has seen in (
          seat_told d r.0,
          keeps,
          tt,
          steps n seats holds s t id d (seat_told d r.0) (set s.words n m) t.vals s.homes at live record { number = refl; among = refl; live = refl; sized = refl; joined = refl; makes = refl; made = refl }
              (length-set s.words n m ∙ t.wide) t.full t.deep
              (λ j jl. inl record { word = get_or-set_other s.words n j m 0 (λ q. omega (arith, q, jl)); val = refl; home = refl; turn = refl; moves = λ h. h })
              r.1,
          (r.0, refl, r.2),
        )

  -- ---- the same, as the table asks it

  slots_are : (s : St) → Rule s → (slots : ℕ) → length s.homes ≡ slots → slots ≡ n
  slots_are s t slots h = sym h ∙ t.deep

  pub tries : (m : M) (slots id number k : ℕ) (then : ℕ → V → X → X → V → Type 0) → IsResting number m → k < slots → NoTurn m.0.taken k → TakesTurn holds slots number m.0.taken m.0.client k then
      → Allows Rule slots id m k (λ w. either (eqb w 0) (number + 1) w) (tried then (step slots k 0 (number + 1) maybe.none) m)
  tries m slots id number k then rests lt nope rule s t deep at short =
      let w : ℕ = get_or s.words k 0 in
      let is : slots ≡ n = slots_are s t slots deep in
      let same : number ≡ id = sym rests.number ∙ (kn s t id m.0 at rests.live).number in
      let lt' : k < n = subst (λ (q : ℕ). k < q) is lt in
      let rule' : TakesTurn holds n id m.0.taken m.0.client k then = subst (λ (q : ℕ × ℕ). TakesTurn holds q.0 q.1 m.0.taken m.0.client k then) (λ i. (is i, same i)) rule in
      exchanged w 0 (number + 1) (λ f. Goes s k f id m (λ e. (w ≡ 0 → Got then k m e) × (w ≢ 0 → Missed m k w e)))
      (λ z. subst (λ (q : ℕ). Goes s k (q + 1) id m (λ e. (w ≡ 0 → Got then k m e) × (w ≢ 0 → Missed m k w e))) (sym same)
      (let g = take_hit s t id m.0 at rests.live k m.1 then rests.still lt' rule' z in (g.0, g.1, g.2, g.3, (λ _. g.4, λ nz. absurd (nz z)))))
      (λ nz. let g = take_miss s t id m.0 at rests.live k m.1 lt' nope nz in (g.0, g.1, g.2, g.3, (λ z. absurd (nz z), λ _. g.4)))

  pub lays : (m : M) (slots id k : ℕ) → IsMoving k None m → k < slots → Allows Rule slots id m k (λ w. w) (laid_back (step slots k 0 0 maybe.none) m)
  lays m slots id k moves lt =
      let whole : Allows Rule slots id (m.0, (k, None) ∷ []) k (λ w. w) (laid_back (step slots k 0 0 maybe.none) (m.0, (k, None) ∷ [])) =
      λ s t deep at short. lay s t id m.0 at moves.live k moves.turn.0 moves.moves (subst (λ (q : ℕ). k < q) (slots_are s t slots deep) lt) moves.turn.1 in
      subst (λ (c : List (ℕ × Option X)). Allows Rule slots id (m.0, c) k (λ w. w) (laid_back (step slots k 0 0 maybe.none) (m.0, c))) (sym moves.holds) whole

  pub picks : (m : M) (slots id number k : ℕ) (x : X) → IsResting number m → HasTurn m.0.taken k x → k < slots → Allows Rule slots id m k (λ w. w) (picked_up (step slots k 0 0 maybe.none) m)
  picks m slots id number k x rests turn lt s t deep at short = pick s t id m.0 at rests.live k m.1 x rests.still (subst (λ (q : ℕ). k < q) (slots_are s t slots deep) lt) turn

  given_is : (m e : M) (k : ℕ) (x y : X) (then : ℕ → V → X → X → V → Type 0) → HasTurn m.0.taken k x → m.1 ≡ (k, Some y) ∷ [] → (w : V) × (e ≡ (gave m.0 k w, [])) × then k m.0.client x y w
      → (x' y' : X) → HasTurn m.0.taken k x' → m.1 ≡ (k, Some y') ∷ [] → (w : V) × (e ≡ (gave m.0 k w, [])) × then k m.0.client x' y' w
  given_is m e k x y then turn holds r x' y' turn' holds' =
      let a : x ≡ x' = some_some x x' (sym turn ∙ turn') in
      let q : Some y ≡ Some y' = ap slot_of (sym holds ∙ holds') in
      let b : y ≡ y' = cc in
      (r.0, r.1, subst (λ (z : X × X). then k m.0.client z.0 z.1 r.0) (λ i. (a i, b i)) r.2)

  pub gives_back : (m : M) (slots id number k : ℕ) (x y : X) (then : ℕ → V → X → X → V → Type 0) → m.0.number ≡ number → IsMoving k (Some y) m → HasTurn m.0.taken k x → k < slots → GivesTurn holds slots number m.0.taken m.0.client k x y then
      → Allows Rule slots id m k (λ _. 0) (λ _. given_back then (step slots k 0 0 maybe.none) m 0)
  gives_back m slots id number k x y then named moves turn lt rule =
      let whole : (c : List (ℕ × Option X)) → c ≡ (k, Some y) ∷ [] → Allows Rule slots id (m.0, (k, Some y) ∷ []) k (λ _. 0) (λ _. given_back then (step slots k 0 0 maybe.none) (m.0, (k, Some y) ∷ []) 0) =
      λ c is s t deep at short.
      let is' : slots ≡ n = slots_are s t slots deep in
      let same : number ≡ id = sym named ∙ (kn s t id m.0 at moves.live).number in
      let g = give s t id m.0 at moves.live k x y then moves.moves (subst (λ (q : ℕ). k < q) is' lt) turn (subst (λ (q : ℕ × ℕ). GivesTurn holds q.0 q.1 m.0.taken m.0.client k x y then) (λ i. (is' i, same i)) rule) in
      (g.0, g.1, g.2, g.3, given_is (m.0, (k, Some y) ∷ []) (g.0, carried_after ((k, Some y) ∷ []) g.1) k x y then turn refl g.4) in
      subst (λ (c : List (ℕ × Option X)). Allows Rule slots id (m.0, c) k (λ _. 0) (λ _. given_back then (step slots k 0 0 maybe.none) (m.0, c) 0)) (sym moves.holds) (whole m.1 moves.holds)

  pub marks : (m : M) (slots id number v : ℕ) (then : V → V → Type 0) → IsResting number m → Marks holds slots number m.0.taken m.0.client v then
      → Allows Rule slots id m slots (λ _. v) (λ _. marks_seat then (step slots slots v 0 maybe.none) m v)
  marks m slots id number v then rests rule s t deep at short =
      let is : slots ≡ n = slots_are s t slots deep in
      let same : number ≡ id = sym rests.number ∙ (kn s t id m.0 at rests.live).number in
      subst (λ (q : ℕ). Goes s q v id m (λ x. (w : V) × (x ≡ (seat_told m.0 w, m.1)) × then m.0.client w)) (sym is)
      (mark s t id m.0 at rests.live m.1 v then (subst (λ (q : ℕ × ℕ). Marks holds q.0 q.1 m.0.taken m.0.client v then) (λ i. (is i, same i)) rule))
