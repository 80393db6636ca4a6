-- A journal covers a script exactly where it follows it to the end.
use Rattle.std.proofs.Common.{◌⊎◌, inl, inr, ◌≡◌, Bool, true, false, ◌&&◌, not, get_or, ℕ, zero, suc, ◌+◌, ◌-◌, ◌<◌, ◌≤◌, cond, List, [], ◌∷◌, ◌++◌, length, take, count_by, Option, Some, None, refl, sym, ap, ◌∙◌, arith, zero-add}
use Rattle.std.proofs.lemmas.{Bool.and_parts, Bool.eq-eqb, Bool.eqb-true, Bool.false≢true, List.Elements.All-cons, List.Kept.AllPairs-cons, List.Sums.sum_by-append, Option.slice_get_within}
use Rattle.std.specs.{List.All, List.AllByRecursion, List.list_all, Prelude.slice_get}
use Rattle.journal_core.specs.declared.entries.Entry.{Entry}
use Rattle.report.specs.script_codec.specs.{declared.script_line.Line.Line, declared.scripts.Script.Script, Covering.is_line, Covering.pass_of, Covering.IsOfLine, Covering.Covers}
use Rattle.journal_check.specs.Following.{without_line, left_by_entry, has_pass, IsNextInPass, FollowsPasses, left_after}

-- ---- what std has no word for
abbrev out : {X : Type 0} → X → Option X → X
out d None = d
out d (Some x) = x

some_same : {X : Type 0} (a b : X) → Some a ≡ Some b → a ≡ b
some_same a b same = ap (out a) same

not_true : (b : Bool) → not b ≡ true → b ≡ false
not_true true e = sym e
not_true false e = refl

pub nat_cases : (m n : ℕ) → (m ≡ n) ⊎ (m ≡ n → ⊥)
nat_cases zero zero = inl refl
nat_cases zero (suc n) = inr (λ same. omega (arith, same))
nat_cases (suc m) zero = inr (λ same. omega (arith, same))
nat_cases (suc m) (suc n) = elim (nat_cases m n) [
  | inl same ↦ inl (ap (λ k. suc k) same)
  | inr other ↦ inr (λ same. other (omega (arith, same)))
]

pub lt_cases : (m n : ℕ) → (m < n) ⊎ (n ≤ m)
lt_cases zero zero = inr (omega arith)
lt_cases zero (suc n) = inl (omega arith)
lt_cases (suc m) zero = inr (omega arith)
lt_cases (suc m) (suc n) = elim (lt_cases m n) [
  | inl less ↦ inl (omega (arith, less))
  | inr least ↦ inr (omega (arith, least))
]

strictly : (m n : ℕ) → m ≤ n → (m ≡ n → ⊥) → m < n
strictly m n least apart = elim (lt_cases m n) [
  | inl less ↦ less
  | inr most ↦ absurd (apart (omega (arith, least, most)))
]

-- ---- a line taken out
counts : (line : Line) (lines : List Line) → count_by is_line (line ∷ lines) ≡ cond (is_line line) 1 0 + count_by is_line lines
counts line lines = sum_by-append (λ l. cond (is_line l) 1 0) (line ∷ []) lines ∙ ap (λ n. n + count_by is_line lines) (zero-add (cond (is_line line) 1 0))

none_there : (i : ℕ) (line : Line) → slice_get [] i ≡ Some line → ⊥
none_there i line found = omega (arith, slice_get_within [] i line found)

pub one_fewer : (lines : List Line) (i : ℕ) (line : Line) → slice_get lines i ≡ Some line → is_line line ≡ true
    → count_by is_line lines ≡ count_by is_line (without_line lines i) + 1
one_fewer [] i line found act = absurd (none_there i line found)
one_fewer (l ∷ lines) zero line found act =
    let same : is_line l ≡ true = ap is_line (some_same l line found) ∙ act in
    let one : 1 + count_by is_line lines ≡ cond (is_line l) 1 0 + count_by is_line lines = ap (λ b. cond b 1 0 + count_by is_line lines) (sym same) in
    omega (arith, counts l lines, one, counts Line.Mark lines)
one_fewer (l ∷ lines) (suc i) line found act =
    omega (arith, counts l lines, one_fewer lines i line found act, counts l (without_line lines i))

-- the others keep their places
pub others_kept : (lines : List Line) (i j : ℕ) → (i ≡ j → ⊥) → slice_get (without_line lines i) j ≡ slice_get lines j
others_kept [] i j other = refl
others_kept (line ∷ lines) zero zero other = absurd (other refl)
others_kept (line ∷ lines) zero (suc j) other = refl
others_kept (line ∷ lines) (suc i) zero other = refl
others_kept (line ∷ lines) (suc i) (suc j) other = others_kept lines i j (λ same. other (ap (λ n. suc n) same))

pub now_mark : (lines : List Line) (i : ℕ) (line : Line) → slice_get lines i ≡ Some line → slice_get (without_line lines i) i ≡ Some Line.Mark
now_mark [] i line found = absurd (none_there i line found)
now_mark (l ∷ lines) zero line found = refl
now_mark (l ∷ lines) (suc i) line found = now_mark lines i line found

-- ---- no item among the first
pub each_false : {X : Type 0} (p : X → Bool) (xs : List X) (n : ℕ) → list_all (λ x. not (p x)) (take n xs) ≡ true
    → (i : ℕ) (x : X) → i < n → slice_get xs i ≡ Some x → p x ≡ false
each_false p [] n all i x less found = absurd (omega (arith, slice_get_within [] i x found))
each_false p (y ∷ xs) zero all i x less found = absurd (omega (arith, less))
each_false p (y ∷ xs) (suc n) all zero x less found =
    ap p (sym (some_same y x found)) ∙ not_true (p y) (and_parts (not (p y)) (list_all (λ x. not (p x)) (take n xs)) all).0
each_false p (y ∷ xs) (suc n) all (suc i) x less found =
    each_false p xs n (and_parts (not (p y)) (list_all (λ x. not (p x)) (take n xs)) all).1 i x (omega (arith, less)) found

pub all_false : {X : Type 0} (p : X → Bool) (xs : List X) (n : ℕ) → ((i : ℕ) (x : X) → i < n → slice_get xs i ≡ Some x → p x ≡ false)
    → list_all (λ x. not (p x)) (take n xs) ≡ true
all_false p [] zero each = refl
all_false p [] (suc n) each = refl
all_false p (y ∷ xs) zero each = refl
all_false p (y ∷ xs) (suc n) each =
    ap (λ b. not b && list_all (λ x. not (p x)) (take n xs)) (each zero y (omega arith) refl)
    ∙ all_false p xs n (λ i x less found. each (suc i) x (omega (arith, less)) found)

-- ---- lines of entries
-- the pass of a line, where it is no mark
abbrev pub in_pass : ℕ → ℕ → Line → ℕ
in_pass hosts lanes (Line.Do actor lane act) = pass_of hosts lanes actor lane
in_pass hosts lanes Line.Mark = 0

of_left : (s : Script) (e f : Entry) → 0 < e.line → (e.line ≡ f.line → ⊥) → IsOfLine s f → IsOfLine (left_by_entry e s) f
of_left s e f counted other of = record {
  counted = of.counted;
  lane = of.lane;
  line = others_kept s.lines (e.line - 1) (f.line - 1) (λ same. other (omega (arith, same, counted, of.counted))) ∙ of.line;
  pass = of.pass;
}

of_whole : (s : Script) (e f : Entry) → 0 < e.line → (e.line ≡ f.line → ⊥) → IsOfLine (left_by_entry e s) f → IsOfLine s f
of_whole s e f counted other of = record {
  counted = of.counted;
  lane = of.lane;
  line = sym (others_kept s.lines (e.line - 1) (f.line - 1) (λ same. other (omega (arith, same, counted, of.counted)))) ∙ of.line;
  pass = of.pass;
}

-- ---- from a journal that covers the script
each_left : (s : Script) (e : Entry) → 0 < e.line → (rest : List Entry) → AllByRecursion (IsOfLine s) rest
    → All (λ (f : Entry). e.line ≡ f.line → ⊥) rest → AllByRecursion (IsOfLine (left_by_entry e s)) rest
each_left s e counted [] all apart = tt
each_left s e counted (f ∷ rest) all apart =
    (of_left s e f counted (apart zero f (omega arith)) all.0, each_left s e counted rest all.1 (λ k d under. apart (suc k) d (omega (arith, under))))

pub covers_rest : (s : Script) (e : Entry) (journal : List Entry) → Covers (e ∷ journal) s → Covers journal (left_by_entry e s)
covers_rest s e journal covers = record {
  count = omega (arith, covers.count, one_fewer s.lines (e.line - 1) (Line.Do e.actor covers.lines.0.lane e.act) covers.lines.0.line refl);
  once = λ i j d less under. covers.once (suc i) (suc j) d (omega (arith, less)) (omega (arith, under));
  lines = each_left s e covers.lines.0.counted journal covers.lines.1 (λ k d under. covers.once zero (suc k) d (omega arith) (omega (arith, under)));
  order = λ i j d less under. covers.order (suc i) (suc j) d (omega (arith, less)) (omega (arith, under));
}

-- where no line is left, there is none
none_counted : (lines : List Line) → count_by is_line lines ≡ 0 → (i : ℕ) (line : Line) → is_line line ≡ true → slice_get lines i ≡ Some line → ⊥
none_counted lines none i line act found = omega (arith, none, one_fewer lines i line found act)

-- Some entry is of the line of this index.
pub record HasEntry (journal : List Entry) (index : ℕ) : Type 0 where
  pub k : ℕ
  pub within : k < length journal
  pub is : (d : Entry) → (get_or journal k d).line ≡ index + 1

pub has_entry : (journal : List Entry) (s : Script) → Covers journal s → (i : ℕ) (line : Line) → is_line line ≡ true → slice_get s.lines i ≡ Some line → HasEntry journal i
has_entry [] s covers i line act found = absurd (none_counted s.lines (sym covers.count) i line act found)
has_entry (e ∷ journal) s covers i line act found = elim (nat_cases (e.line - 1) i) [
  | inl same ↦ record { k = zero; within = omega arith; is = λ d. omega (arith, same, covers.lines.0.counted) }
  | inr other ↦
      let rest : HasEntry journal i = has_entry journal (left_by_entry e s) (covers_rest s e journal covers) i line act (others_kept s.lines (e.line - 1) i other ∙ found) in
      record { k = suc rest.k; within = omega (arith, rest.within); is = λ d. rest.is d }
]

lane_of : (s : Script) (f : Entry) (of : IsOfLine s f) (line : Line) → slice_get s.lines (f.line - 1) ≡ Some line → has_pass s.config.hosts s.lanes f.pass line ≡ true
lane_of s f of line found =
    ap (has_pass s.config.hosts s.lanes f.pass) (some_same line (Line.Do f.actor of.lane f.act) (sym found ∙ of.line))
    ∙ eq-eqb (pass_of s.config.hosts s.lanes f.actor of.lane) f.pass (sym of.pass)

pass_is : (hosts lanes pass : ℕ) (line : Line) → has_pass hosts lanes pass line ≡ true → (is_line line ≡ true) × (in_pass hosts lanes line ≡ pass)
pass_is hosts lanes pass (Line.Do actor lane act) its_pass = (refl, eqb-true (pass_of hosts lanes actor lane) pass its_pass)
pass_is hosts lanes pass Line.Mark its_pass = absurd (false≢true its_pass)

not_yes : (b : Bool) → (b ≡ true → ⊥) → b ≡ false
not_yes true wrong = absurd (wrong refl)
not_yes false wrong = refl

each_of : {X : Type 0} (P : X → Type 0) (xs : List X) → AllByRecursion P xs → (k : ℕ) (d : X) → k < length xs → P (get_or xs k d)
each_of P [] all k d under = absurd (omega (arith, under))
each_of P (x ∷ xs) all zero d under = all.0
each_of P (x ∷ xs) all (suc k) d under = each_of P xs all.1 k d (omega (arith, under))

-- an entry of this line would stand behind one of a later line of its pass
clash_at : (s : Script) (e : Entry) (journal : List Entry) → Covers (e ∷ journal) s → (i : ℕ) (line : Line) → i < e.line - 1 → slice_get s.lines i ≡ Some line
    → has_pass s.config.hosts s.lanes e.pass line ≡ true → (k : ℕ) → k < length (e ∷ journal) → (get_or (e ∷ journal) k e).line ≡ i + 1 → ⊥
clash_at s e journal covers i line less found its_pass zero under is = omega (arith, less, is)
clash_at s e journal covers i line less found its_pass (suc k) under is =
    let f : Entry = get_or journal k e in
    let of : IsOfLine s f = each_of (IsOfLine s) journal covers.lines.1 k e (omega (arith, under)) in
    let place : f.line - 1 ≡ i = omega (arith, is) in
    let its : has_pass s.config.hosts s.lanes f.pass line ≡ true = lane_of s f of line (ap (slice_get s.lines) place ∙ found) in
    let same : e.pass ≡ f.pass = sym (pass_is s.config.hosts s.lanes e.pass line its_pass).1 ∙ (pass_is s.config.hosts s.lanes f.pass line its).1 in
    let later : e.line < f.line = covers.order zero (suc k) e (omega arith) under same in
    omega (arith, later, is, less)

pub covers_next : (s : Script) (e : Entry) (journal : List Entry) → Covers (e ∷ journal) s → IsNextInPass s e
covers_next s e journal covers = record {
  of_line = covers.lines.0;
  first = all_false (has_pass s.config.hosts s.lanes e.pass) s.lines (e.line - 1) (λ i line less found.
      not_yes (has_pass s.config.hosts s.lanes e.pass line) (λ its_pass.
      let entry : HasEntry (e ∷ journal) i = has_entry (e ∷ journal) s covers i line (pass_is s.config.hosts s.lanes e.pass line its_pass).0 found in
      clash_at s e journal covers i line less found its_pass entry.k entry.within (entry.is e)));
}

pub covers_follows : (journal : List Entry) (s : Script) → Covers journal s → FollowsPasses s journal
covers_follows [] s covers = tt
covers_follows (e ∷ journal) s covers = (covers_next s e journal covers, covers_follows journal (left_by_entry e s) (covers_rest s e journal covers))

-- ---- from a journal that follows the script
each_whole : (s : Script) (e : Entry) → 0 < e.line → (rest : List Entry) → AllByRecursion (IsOfLine (left_by_entry e s)) rest
    → All (λ (f : Entry). e.line ≡ f.line → ⊥) rest → AllByRecursion (IsOfLine s) rest
each_whole s e counted [] all apart = tt
each_whole s e counted (f ∷ rest) all apart =
    (of_whole s e f counted (apart zero f (omega arith)) all.0, each_whole s e counted rest all.1 (λ k d under. apart (suc k) d (omega (arith, under))))

not_twice : (s : Script) (e f : Entry) → IsOfLine s e → IsOfLine (left_by_entry e s) f → e.line ≡ f.line → ⊥
not_twice s e f of left same =
    let there : slice_get (without_line s.lines (e.line - 1)) (e.line - 1) ≡ Some (Line.Do f.actor left.lane f.act) =
    ap (λ n. slice_get (without_line s.lines (e.line - 1)) (n - 1)) same ∙ left.line in
    let mark : Line.Mark ≡ Line.Do f.actor left.lane f.act =
    some_same Line.Mark (Line.Do f.actor left.lane f.act) (sym (now_mark s.lines (e.line - 1) (Line.Do e.actor of.lane e.act) of.line) ∙ there) in
    false≢true (ap is_line mark)

apart_by : (s : Script) (e : Entry) → IsOfLine s e → (rest : List Entry) → AllByRecursion (IsOfLine (left_by_entry e s)) rest → All (λ (f : Entry). e.line ≡ f.line → ⊥) rest
apart_by s e of [] all = λ k d under. absurd (omega (arith, under))
apart_by s e of (f ∷ rest) all = All-cons (λ (f : Entry). e.line ≡ f.line → ⊥) f rest (not_twice s e f of all.0) (apart_by s e of rest all.1)

not_earlier : (s : Script) (e f : Entry) → IsNextInPass s e → IsOfLine s f → (e.line ≡ f.line → ⊥) → e.pass ≡ f.pass → e.line < f.line
not_earlier s e f next of other same = elim (lt_cases f.line e.line) [
  | inl less ↦
      let none : has_pass s.config.hosts s.lanes e.pass (Line.Do f.actor of.lane f.act) ≡ false =
      each_false (has_pass s.config.hosts s.lanes e.pass) s.lines (e.line - 1) next.first (f.line - 1) (Line.Do f.actor of.lane f.act) (omega (arith, less, of.counted)) of.line in
      absurd (false≢true (sym none ∙ eq-eqb (pass_of s.config.hosts s.lanes f.actor of.lane) e.pass (sym of.pass ∙ sym same)))
  | inr least ↦ elim (nat_cases e.line f.line) [
    | inl equal ↦ absurd (other equal)
    | inr apart ↦ strictly e.line f.line least apart
  ]
]

order_by : (s : Script) (e : Entry) → IsNextInPass s e → (rest : List Entry) → AllByRecursion (IsOfLine s) rest → All (λ (f : Entry). e.line ≡ f.line → ⊥) rest
    → All (λ (f : Entry). e.pass ≡ f.pass → e.line < f.line) rest
order_by s e next [] all apart = λ k d under. absurd (omega (arith, under))
order_by s e next (f ∷ rest) all apart =
    All-cons (λ (f : Entry). e.pass ≡ f.pass → e.line < f.line) f rest (not_earlier s e f next all.0 (apart zero f (omega arith)))
    (order_by s e next rest all.1 (λ k d under. apart (suc k) d (omega (arith, under))))

covers_more : (s : Script) (e : Entry) (journal : List Entry) → IsNextInPass s e → Covers journal (left_by_entry e s) → Covers (e ∷ journal) s
covers_more s e journal next covers =
    let apart : All (λ (f : Entry). e.line ≡ f.line → ⊥) journal = apart_by s e next.of_line journal covers.lines in
    let lines : AllByRecursion (IsOfLine s) journal = each_whole s e next.of_line.counted journal covers.lines apart in
    record {
      count = omega (arith, covers.count, one_fewer s.lines (e.line - 1) (Line.Do e.actor next.of_line.lane e.act) next.of_line.line refl);
      once = AllPairs-cons (λ (e f : Entry). e.line ≡ f.line → ⊥) e journal apart covers.once;
      lines = (next.of_line, lines);
      order = AllPairs-cons (λ (e f : Entry). e.pass ≡ f.pass → e.line < f.line) e journal (order_by s e next journal lines apart) covers.order;
    }

-- what follows a script and then covers what is left of it covers the whole
pub covers_after : (done rest : List Entry) (s : Script) → FollowsPasses s done → Covers rest (left_after s done) → Covers (done ++ rest) s
covers_after [] rest s follows covers = covers
covers_after (e ∷ done) rest s follows covers = covers_more s e (done ++ rest) follows.0 (covers_after done rest (left_by_entry e s) follows.1 covers)

-- a front of what follows a script follows it too
pub follows_front : (done rest : List Entry) (s : Script) → FollowsPasses s (done ++ rest) → FollowsPasses s done
follows_front [] rest s follows = tt
follows_front (e ∷ done) rest s follows = (follows.0, follows_front done rest (left_by_entry e s) follows.1)

-- one more
pub follows_more : (done : List Entry) (e : Entry) (s : Script) → FollowsPasses s done → IsNextInPass (left_after s done) e → FollowsPasses s (done ++ e ∷ [])
follows_more [] e s follows next = (next, tt)
follows_more (f ∷ done) e s follows next = (follows.0, follows_more done e (left_by_entry f s) follows.1 next)
