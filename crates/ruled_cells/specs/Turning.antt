-- Cells that are taken in turns: what ties the words, the slots and the views to the values, and what each step tells.
-- Word k is the turn of cell k, 0 or the number of a seat plus 1. The word after the turns is the user's. They stand apart in the table: word k is its word 8 * k.
-- The value of a cell is the one at home, or the one that was taken.
use Rattle.std.specs.Prelude.{◌≡◌, ◌≢◌, ℕ, ◌+◌, ◌*◌, ◌/◌, ◌^◌, ◌<◌, ◌≤◌, true, false, List, [], ◌∷◌, ◌++◌, map, length, replicate, slice_index, slice_set, Option, Some, None}
use mathlib.Core.Option.{some}
use mathlib.Core.Option as maybe
use lib.ListN.{get_elem?}
use Rattle.atomic_table.specs.{Seated.TableId, Table.State, Table.Me, Table.Step, Table.rest}
use Rattle.ruled_cells.specs.declared.turns.seat_state.SeatState.{SeatState}

module _ {X : Type 0} where
  -- the seat has the turn k, and took x
  abbrev pub HasTurn : List (Option X) → ℕ → X → Type 0
  HasTurn taken k x = get_elem? taken k ≡ some (Some x)

  abbrev pub NoTurn : List (Option X) → ℕ → Type 0
  NoTurn taken k = (x : X) → get_elem? taken k ≢ some (Some x)

  -- what the seat id knows by its turns: which words name it, and what the values of those cells are
  pub record Has (id : ℕ) (taken : List (Option X)) (words : List ℕ) (vals : List X) : Type 0 where
    pub turn : (k : ℕ) (x : X) → HasTurn taken k x → (slice_index words k ≡ id + 1) × (get_elem? vals k ≡ some x)
    pub no_turn : (k : ℕ) → get_elem? taken k ≡ some None → slice_index words k ≢ id + 1

abbrev pub IsIn : ℕ → List ℕ → Type 0
IsIn i numbers = (k : ℕ) × (get_elem? numbers k ≡ some i)

-- what holds of the view d of a seat that is used
pub record Knows {X V : Type 0} (n seats : ℕ) (words : List ℕ) (vals : List X) (homes : List (maybe.Option (Option X))) (views : List (SeatState X V)) (j : ℕ) (d : SeatState X V) : Type 0 where
  pub number : d.number ≡ j
  pub among : d.among ≡ seats
  pub sized : length d.taken ≡ n
  pub has : Has j d.taken words vals
  pub empty : (k : ℕ) (x : X) → HasTurn d.taken k x → d.moving ≢ Some k → get_elem? homes k ≡ some (some None)
  pub joined : (i : ℕ) (u : SeatState X V) → IsIn i d.joined → get_elem? views i ≡ some u → u.live ≡ false
  pub joined_below : (i : ℕ) → IsIn i d.joined → i < length views
  pub makes : d.makes ≡ true → (length views ≡ d.made) × (j ≡ 0)

abbrev pub client : {X V : Type 0} → SeatState X V → V
client d = d.client

-- the rule, for the words side by side
pub record Tied {X V : Type 0} (n seats : ℕ) (holds : List ℕ → List X → List V → Type 0) (s : State (Option X) (SeatState X V)) : Type 0 where
  pub vals : List X
  pub wide : length s.words ≡ n + 1
  pub deep : length s.homes ≡ n
  pub full : length vals ≡ n
  pub crowd : length s.views ≤ seats
  pub few : seats < 2 ^ 32
  pub free : (k : ℕ) → k < n → slice_index s.words k ≡ 0 → (x : X) × (get_elem? vals k ≡ some x) × (get_elem? s.homes k ≡ some (some (Some x)))
  pub owned : (k : ℕ) → k < n → slice_index s.words k ≢ 0 → (j : ℕ) × (d : SeatState X V) × (x : X) × (slice_index s.words k ≡ j + 1) × (get_elem? s.views j ≡ some d) × (d.live ≡ true) × HasTurn d.taken k x
  pub each : (j : ℕ) (d : SeatState X V) → get_elem? s.views j ≡ some d → d.live ≡ true → Knows n seats s.words vals s.homes s.views j d
  pub kept : holds s.words vals (map client s.views)

-- ---- the words in the table, a line of the cache apart

-- what the table has at every eighth place are these words
pub record IsApart (n : ℕ) (table words : List ℕ) : Type 0 where
  pub wide : length table ≡ 8 * n + 1
  pub at : (k : ℕ) → k < n + 1 → slice_index table (8 * k) ≡ slice_index words k

-- the rule of the table
pub record TiedApart {X V : Type 0} (n seats : ℕ) (holds : List ℕ → List X → List V → Type 0) (s : State (Option X) (SeatState X V)) : Type 0 where
  pub words : List ℕ
  pub apart : IsApart n s.words words
  pub tied : Tied n seats holds record { words = words; homes = s.homes; views = s.views }

-- the table has room for a turn of each slot and for the user's word, and the numbers of its words do not overflow
abbrev pub HasWords : TableId → Type 0
HasWords t = (t.words ≡ 8 * t.slots + 1) × (t.slots < 2 ^ 60)

-- a step of the table, at the place that its word has side by side with the others
abbrev pub in_row : {S : Type 0} → Step S → Step S
in_row st = record st { word = st.word / 8 }

-- ---- what a user owes for each kind of step

module _ {X V : Type 0} (holds : List ℕ → List X → List V → Type 0) where
  -- whatever the cells are when the turn k is free and becomes this seat's
  abbrev pub TakesTurn : ℕ → ℕ → List (Option X) → V → ℕ → (ℕ → V → X → X → V → Type 0) → Type 0
  TakesTurn n id taken v k then = (words : List ℕ) (vals : List X) (views : List V) (x : X) → length vals ≡ n → length views < 2 ^ 32 → holds words vals views → Has id taken words vals → get_elem? views id ≡ some v
      → slice_index words k ≡ 0 → get_elem? vals k ≡ some x → (w : V) × holds (slice_set words k (id + 1)) vals (slice_set views id w) × then k v x x w

  -- the turn k, under which the value was x, is handed back with y
  abbrev pub GivesTurn : ℕ → ℕ → List (Option X) → V → ℕ → X → X → (ℕ → V → X → X → V → Type 0) → Type 0
  GivesTurn n id taken v k x y then = (words : List ℕ) (vals : List X) (views : List V) → length vals ≡ n → length views < 2 ^ 32 → holds words vals views → Has id taken words vals → get_elem? views id ≡ some v
      → (w : V) × holds (slice_set words k 0) (slice_set vals k y) (slice_set views id w) × then k v x y w

  -- the user's word becomes m
  abbrev pub Marks : ℕ → ℕ → List (Option X) → V → ℕ → (V → V → Type 0) → Type 0
  Marks n id taken v m then = (words : List ℕ) (vals : List X) (views : List V) → length vals ≡ n → length views < 2 ^ 32 → holds words vals views → Has id taken words vals → get_elem? views id ≡ some v
      → (w : V) × holds (slice_set words n m) vals (slice_set views id w) × then v w

  -- a seat joins the list of views, which no turn names yet
  abbrev pub Admits : V → (ℕ → V → V) → Type 0
  Admits v new = (words : List ℕ) (vals : List X) (views : List V) → holds words vals views → get_elem? views 0 ≡ some v → ((k : ℕ) → k < length vals → slice_index words k ≢ length views + 1)
      → holds words vals (views ++ new (length views) v ∷ [])

  -- a seat that no turn names is taken in
  abbrev pub Merges : ℕ → V → ℕ → V → V → V → Type 0
  Merges id v other w both spent = (words : List ℕ) (vals : List X) (views : List V) → holds words vals views → get_elem? views id ≡ some v → other ≢ id → get_elem? views other ≡ some w
      → ((k : ℕ) → k < length vals → slice_index words k ≢ other + 1) → holds words vals (slice_set (slice_set views id both) other spent)

  -- the rule holds at first: each turn is that of seat 0, which alone is there, and the user's word is 0
  abbrev pub HoldsAtFirst : ℕ → List X → V → Type 0
  HoldsAtFirst n vals v = (words : List ℕ) → length words ≡ n + 1 → ((k : ℕ) → k < n → slice_index words k ≡ 1) → slice_index words n ≡ 0 → holds words vals (v ∷ [])

  -- the seat d, under this number, hands back with y what it took of the turn k
  abbrev pub GivesFrom : ℕ → ℕ → SeatState X V → ℕ → X → (ℕ → V → X → X → V → Type 0) → Type 0
  GivesFrom n id d k y then = (x : X) × HasTurn d.taken k x × GivesTurn n id d.taken d.client k x y then

  -- the seat d takes in the seat e
  abbrev pub MergesSeats : SeatState X V → SeatState X V → (V → V → V) → V → Type 0
  MergesSeats d e both spent = Merges d.number d.client e.number e.client (both d.client e.client) spent

-- ---- what a seat knows, step by step

abbrev pub Seated : Type 0 → Type 0 → Type 0
Seated X V = Me (Option X) (SeatState X V)

module _ {X V : Type 0} where
  -- between two calls
  pub record IsResting (who : ℕ) (m : Seated X V) : Type 0 where
    pub number : m.0.number ≡ who
    pub live : m.0.live ≡ true
    pub still : m.0.moving ≡ None
    pub bare : m.1 ≡ []

  -- in the midst of a call, with the slot of the cell k out
  pub record IsMoving (k : ℕ) (o : Option X) (m : Seated X V) : Type 0 where
    pub live : m.0.live ≡ true
    pub moves : m.0.moving ≡ Some k
    pub holds : m.1 ≡ (k, o) ∷ []
    pub turn : (x : X) × HasTurn m.0.taken k x

  abbrev pub opener : ℕ → List X → V → SeatState X V
  opener seats xs v = record { number = 0; among = seats; live = true; taken = map (λ x. Some x) xs; moving = None; at = 0; saw = 0; tries = 0; joined = []; makes = true; made = 1; client = v }

  -- a seat is made, and a new one has the next number
  abbrev pub enrolled : SeatState X V → SeatState X V
  enrolled d = record d { made = d.made + 1 }

  abbrev pub newcomer : (ℕ → V → V) → SeatState X V → SeatState X V
  newcomer new d = record { number = d.made; among = d.among; live = true; taken = replicate (length d.taken) None; moving = None; at = 0; saw = 0; tries = 0; joined = []; makes = false; made = 0; client = new d.made d.client }

  -- a seat takes another in
  abbrev pub joint : (V → V → V) → SeatState X V → SeatState X V → SeatState X V
  joint both d e = record d { joined = e.number ∷ d.joined; client = both d.client e.client }

  abbrev pub gone : V → SeatState X V
  gone v = record { number = 0; among = 0; live = false; taken = []; moving = None; at = 0; saw = 0; tries = 0; joined = []; makes = false; made = 0; client = v }

  abbrev pub took : SeatState X V → ℕ → X → V → SeatState X V
  took d k x w = record d { taken = slice_set d.taken k (Some x); moving = Some k; at = k; saw = 0; tries = d.tries + 1; client = w }

  -- the turn was another's
  abbrev pub missed : SeatState X V → ℕ → ℕ → SeatState X V
  missed d k found = record d { at = k; saw = found; tries = d.tries + 1 }

  abbrev pub gave : SeatState X V → ℕ → V → SeatState X V
  gave d k w = record d { taken = slice_set d.taken k None; moving = None; client = w }

  abbrev pub still : SeatState X V → SeatState X V
  still d = record d { moving = None }

  abbrev pub moving_at : ℕ → SeatState X V → SeatState X V
  moving_at k d = record d { moving = Some k }

  abbrev pub seat_told : SeatState X V → V → SeatState X V
  seat_told d w = record d { client = w }

  -- the turn was free and is this seat's
  abbrev pub Got : (ℕ → V → X → X → V → Type 0) → ℕ → Seated X V → Seated X V → Type 0
  Got then k m m' = (x : X) × (w : V) × (m' ≡ (took m.0 k x w, (k, Some x) ∷ m.1)) × HasTurn (slice_set m.0.taken k (Some x)) k x × then k m.0.client x x w

  -- or it was another's
  abbrev pub Missed : Seated X V → ℕ → ℕ → Seated X V → Type 0
  Missed m k found m' = (m' ≡ (missed m.0 k found, m.1)) × (found ≤ m.0.among) × (found < 2 ^ 32) × (found ≢ m.0.number + 1)

  abbrev pub tried : (ℕ → V → X → X → V → Type 0) → Step (Option X) → Seated X V → ℕ → Seated X V → Type 0
  tried then st m found m' = (found ≡ 0 → Got then st.word m m') × (found ≢ 0 → Missed m st.word found m')

  abbrev pub laid_back : Step (Option X) → Seated X V → ℕ → Seated X V → Type 0
  laid_back st m found m' = m' ≡ (still m.0, rest m.1)

  abbrev pub picked_up : Step (Option X) → Seated X V → ℕ → Seated X V → Type 0
  picked_up st m found m' = m' ≡ (moving_at st.word m.0, (st.word, None) ∷ m.1)

  abbrev pub given_back : (ℕ → V → X → X → V → Type 0) → Step (Option X) → Seated X V → ℕ → Seated X V → Type 0
  given_back then st m found m' = (x y : X) → HasTurn m.0.taken st.word x → m.1 ≡ (st.word, Some y) ∷ [] → (w : V) × (m' ≡ (gave m.0 st.word w, [])) × then st.word m.0.client x y w

  abbrev pub marks_seat : (V → V → Type 0) → Step (Option X) → Seated X V → ℕ → Seated X V → Type 0
  marks_seat then st m found m' = (w : V) × (m' ≡ (seat_told m.0 w, m.1)) × then m.0.client w

  -- the turn was that of another seat
  abbrev pub IsMissed : Seated X V → ℕ → ℕ → Seated X V → Type 0
  IsMissed m k other m' = (m' ≡ (missed m.0 k (other + 1), [])) × (other < m.0.among) × (other + 1 < 2 ^ 32) × (other ≢ m.0.number)

  -- the same seat, however often it tried
  abbrev pub IsSameButTries : Seated X V → Seated X V → Type 0
  IsSameButTries m m' = (at saw tries : ℕ) × (m' ≡ (record m.0 { at = at; saw = saw; tries = tries }, m.1))

  -- it has the turn k, took x, and has been told of it
  abbrev pub HasTaken : (ℕ → V → X → X → V → Type 0) → ℕ → Seated X V → X → Seated X V → Type 0
  HasTaken then k m x m' = (w : V) × (m' ≡ (still (took m.0 k x w), [])) × HasTurn (slice_set m.0.taken k (Some x)) k x × then k m.0.client x x w

  -- the same, however often it tried
  abbrev pub IsTakenInTheEnd : (ℕ → V → X → X → V → Type 0) → ℕ → Seated X V → X → Seated X V → Type 0
  IsTakenInTheEnd then k m x m' = (at saw tries : ℕ) × HasTaken then k (record m.0 { at = at; saw = saw; tries = tries }, m.1) x m'

  -- it gave the turn k back with y, and has been told of it
  abbrev pub IsGiven : (ℕ → V → X → X → V → Type 0) → ℕ → Seated X V → X → Seated X V → Type 0
  IsGiven then k m y m' = (x : X) × (w : V) × HasTurn m.0.taken k x × (m' ≡ (gave m.0 k w, [])) × then k m.0.client x y w

-- at the end: no seat but one is left, and each cell has its value at home
pub record Settled {X V : Type 0} (holds : List ℕ → List X → List V → Type 0) (n among id : ℕ) (v : V) (words : List ℕ) (slots : List (Option X)) : Type 0 where
  pub vals : List X
  pub views : List V
  pub slots_are : slots ≡ map (λ x. Some x) vals
  pub rule : holds words vals views
  pub view : get_elem? views id ≡ some v
  pub full : length vals ≡ n
  pub few : length views ≤ among
  pub free : (k : ℕ) → k < n → slice_index words k ≡ 0

-- no seat but d is left
abbrev pub SettledBy : {X V : Type 0} → (List ℕ → List X → List V → Type 0) → ℕ → SeatState X V → List ℕ → List (Option X) → Type 0
SettledBy holds n d table slots = (words : List ℕ) × IsApart n table words × Settled holds n d.among d.number d.client words slots
