-- Such a journal covers the script.
use Rattle.std.proofs.Common.{◌≡◌, ◌⊎◌, inl, inr, ℕ, zero, suc, ◌+◌, ◌-◌, ◌*◌, ◌<◌, cond, List, [], ◌∷◌, ◌++◌, length, map, Option, Some, None, refl, sym, ap, ◌∙◌, subst, arith, append_assoc, length-append, zero-add, IsTrue}
use Rattle.std.specs.Prelude.{◌==◌, Bool, true, false, count_by, if◌then◌else◌, slice_get, slice_index_or, AllPairs}
use Rattle.std.proofs.lemmas.{Bool.and_parts, Bool.cases_eq, Bool.eq-eqb, Bool.eqb-true, Bool.ne_eqb, List.Elements.All-from_recursion, List.Elements.recursion_from_All, List.Kept.AllPairs-cons}
use Rattle.std.{proofs.lemmas.List.Sums.sum_by-append, specs.List.AllByRecursion, specs.List.filter, specs.List.list_all}
use Rattle.dcd_base.specs.declared.steps.Actor.{Actor}
use Rattle.journal_core.specs.{declared.acts.Act.Act, declared.entries.Entry.Entry, Merging.call_of, Merging.calls_of}
use Rattle.script_codec.{proofs.CoveringLaws.placed, specs.Covering.is_line, specs.Covering.pass_of, specs.Covering.IsOfLine, specs.Covering.Covers, specs.Scripts.is_sound_line}
use Rattle.script_codec.specs.declared.{script_line.Line.Line, scripts.Script.Script}
use Rattle.workers.{specs.Phases.Task, specs.Phases.task_of, specs.Phases.tasks, specs.Served.AllServed, specs.Served.passes_of, proofs.Parting.is_pass}

-- ---- lists with or without one item
keep_if : {X : Type 0} (P : X → Type 0) (b : Bool) (x : X) (xs : List X) → (b ≡ true → P x) → AllByRecursion P xs → AllByRecursion P (if b then x ∷ xs else xs)
keep_if P true x xs head tail = (head refl, tail)
keep_if P false x xs head tail = tail

both_hold : {X : Type 0} (P Q R : X → Type 0) (xs : List X) → ((x : X) → P x → Q x → R x) → AllByRecursion P xs → AllByRecursion Q xs → AllByRecursion R xs
both_hold P Q R [] gives ps qs = tt
both_hold P Q R (x ∷ xs) gives ps qs = (gives x ps.0 qs.0, both_hold P Q R xs gives ps.1 qs.1)

-- what the pass of a number did
abbrev done_by : ℕ → List Entry → List Task
done_by k xs = map task_of (calls_of k xs)

abbrev task_in : Entry → Task
task_in e = task_of (call_of e)

with_head : (P : Task → Type 0) (b : Bool) (e : Entry) (ys : List Entry) → AllByRecursion P (map task_of (map call_of (cond b (e ∷ ys) ys))) → AllByRecursion P (map task_of (map call_of ys))
with_head P true e ys all = all.1
with_head P false e ys all = all

-- ---- the lines of a pass rise
abbrev LinesRise : List Task → Type 0
LinesRise [] = Unit {0}
LinesRise (t ∷ ts) = AllByRecursion (λ (u : Task). t.line < u.line) ts × LinesRise ts

tasks_after : (hosts lanes k n m : ℕ) (lines : List Line) → m < n → AllByRecursion (λ (u : Task). m < u.line) (tasks hosts lanes k n lines)
tasks_after hosts lanes k n m [] low = tt
tasks_after hosts lanes k n m (Line.Mark ∷ lines) low = tasks_after hosts lanes k (n + 1) m lines (omega (arith, low))
tasks_after hosts lanes k n m (Line.Do actor lane act ∷ lines) low =
    keep_if (λ (u : Task). m < u.line) (pass_of hosts lanes actor lane == k) (record { line = n; act = act }) (tasks hosts lanes k (n + 1) lines) (λ own. low) (tasks_after hosts lanes k (n + 1) m lines (omega (arith, low)))

rise_if : (b : Bool) (t : Task) (ts : List Task) → AllByRecursion (λ (u : Task). t.line < u.line) ts → LinesRise ts → LinesRise (if b then t ∷ ts else ts)
rise_if true t ts later rise = (later, rise)
rise_if false t ts later rise = rise

tasks_rise : (hosts lanes k n : ℕ) (lines : List Line) → LinesRise (tasks hosts lanes k n lines)
tasks_rise hosts lanes k n [] = tt
tasks_rise hosts lanes k n (Line.Mark ∷ lines) = tasks_rise hosts lanes k (n + 1) lines
tasks_rise hosts lanes k n (Line.Do actor lane act ∷ lines) =
    rise_if (pass_of hosts lanes actor lane == k) (record { line = n; act = act }) (tasks hosts lanes k (n + 1) lines) (tasks_after hosts lanes k (n + 1) n lines (omega arith)) (tasks_rise hosts lanes k (n + 1) lines)

rise_rest : (b : Bool) (e : Entry) (ys : List Entry) → LinesRise (map task_of (map call_of (cond b (e ∷ ys) ys))) → LinesRise (map task_of (map call_of ys))
rise_rest true e ys rise = rise.1
rise_rest false e ys rise = rise

later_ones : (n k : ℕ) (xs : List Entry) → AllByRecursion (λ (u : Task). n < u.line) (done_by k xs) → AllByRecursion (λ (f : Entry). k ≡ f.pass → n < f.line) xs
later_ones n k [] all = tt
later_ones n k (f ∷ xs) all =
    (λ same. here (f.pass == k) (eq-eqb f.pass k (sym same)) all, later_ones n k xs (with_head (λ (u : Task). n < u.line) (f.pass == k) f (filter (λ (e : Entry). e.pass == k) xs) all))
  where
    here : (b : Bool) → b ≡ true → AllByRecursion (λ (u : Task). n < u.line) (map task_of (map call_of (cond b (f ∷ filter (λ (e : Entry). e.pass == k) xs) (filter (λ (e : Entry). e.pass == k) xs)))) → n < f.line
    here b own all = (subst (λ c. AllByRecursion (λ (u : Task). n < u.line) (map task_of (map call_of (cond c (f ∷ filter (λ (e : Entry). e.pass == k) xs) (filter (λ (e : Entry). e.pass == k) xs))))) own all).0

-- the first of them comes before the others of its pass
first_before : (e : Entry) (xs : List Entry) → LinesRise (done_by e.pass (e ∷ xs)) → AllByRecursion (λ (f : Entry). e.pass ≡ f.pass → e.line < f.line) xs
first_before e xs rise =
    later_ones e.line e.pass xs
    (subst (λ c. LinesRise (map task_of (map call_of (cond c (e ∷ filter (λ (f : Entry). f.pass == e.pass) xs) (filter (λ (f : Entry). f.pass == e.pass) xs))))) (eq-eqb e.pass e.pass refl) rise).0

in_order_by_pass : (n : ℕ) (xs : List Entry) → ((k : ℕ) → k < n → LinesRise (done_by k xs)) → AllByRecursion (λ (e : Entry). e.pass < n) xs → AllPairs (λ (e f : Entry). e.pass ≡ f.pass → e.line < f.line) xs
in_order_by_pass n [] rise low = λ i j d first under. absurd (omega (arith, under))
in_order_by_pass n (e ∷ xs) rise low =
    AllPairs-cons (λ (e f : Entry). e.pass ≡ f.pass → e.line < f.line) e xs
    (All-from_recursion (λ (f : Entry). e.pass ≡ f.pass → e.line < f.line) xs (first_before e xs (rise e.pass low.0)))
    (in_order_by_pass n xs (λ k under. rise_rest (e.pass == k) e (filter (λ (f : Entry). f.pass == k) xs) (rise k under)) low.1)

-- ---- the line of a task
record IsTaskOf (s : Script) (k : ℕ) (t : Task) : Type 0 where
  counted : 0 < t.line
  actor : Actor
  lane : ℕ
  line : slice_get s.lines (t.line - 1) ≡ Some (Line.Do actor lane t.act)
  pass : pass_of s.config.hosts s.lanes actor lane ≡ k
  sound : IsTrue (is_sound_line s.config.hosts s.lanes (Line.Do actor lane t.act))

tasks_placed : (s : Script) (front lines : List Line) (k n : ℕ) → s.lines ≡ front ++ lines → n ≡ length front + 1 → IsTrue (list_all (is_sound_line s.config.hosts s.lanes) lines)
    → AllByRecursion (IsTaskOf s k) (tasks s.config.hosts s.lanes k n lines)
tasks_placed s front [] k n whole at sound = tt
tasks_placed s front (Line.Mark ∷ lines) k n whole at sound =
    tasks_placed s (front ++ Line.Mark ∷ []) lines k (n + 1) (whole ∙ sym (append_assoc front (Line.Mark ∷ []) lines)) (omega (arith, at, length-append front (Line.Mark ∷ []))) sound
tasks_placed s front (Line.Do actor lane act ∷ lines) k n whole at sound =
    let parts = and_parts (is_sound_line s.config.hosts s.lanes (Line.Do actor lane act)) (list_all (is_sound_line s.config.hosts s.lanes) lines) sound in
    let place : n - 1 ≡ length front = omega (arith, at) in
    keep_if (IsTaskOf s k) (pass_of s.config.hosts s.lanes actor lane == k) (record { line = n; act = act }) (tasks s.config.hosts s.lanes k (n + 1) lines)
    (λ own. record {
      counted = omega (arith, at);
      actor = actor;
      lane = lane;
      line = ap (λ i. slice_get s.lines i) place ∙ (ap (λ ls. slice_get ls (length front)) whole ∙ placed front (Line.Do actor lane act) lines);
      pass = eqb-true (pass_of s.config.hosts s.lanes actor lane) k own;
      sound = parts.0;
    })
    (tasks_placed s (front ++ Line.Do actor lane act ∷ []) lines k (n + 1) (whole ∙ sym (append_assoc front (Line.Do actor lane act ∷ []) lines)) (omega (arith, at, length-append front (Line.Do actor lane act ∷ []))) parts.1)

-- what holds of the tasks of each pass holds of each entry
of_each : (P : ℕ → Task → Type 0) (n : ℕ) (xs : List Entry) → ((k : ℕ) → k < n → AllByRecursion (P k) (done_by k xs)) → AllByRecursion (λ (e : Entry). e.pass < n) xs
    → AllByRecursion (λ (e : Entry). P e.pass (task_in e)) xs
of_each P n [] each low = tt
of_each P n (e ∷ xs) each low = (
  (subst (λ c. AllByRecursion (P e.pass) (map task_of (map call_of (cond c (e ∷ filter (λ (f : Entry). f.pass == e.pass) xs) (filter (λ (f : Entry). f.pass == e.pass) xs))))) (eq-eqb e.pass e.pass refl) (each e.pass low.0)).0,
  of_each P n xs (λ k under. with_head (P k) (e.pass == k) e (filter (λ (f : Entry). f.pass == k) xs) (each k under)) low.1,
)

abbrev HasActor : Script → Entry → Type 0
HasActor s e = (actor : Actor) (lane : ℕ) (act : Act) → IsTrue (is_sound_line s.config.hosts s.lanes (Line.Do actor lane act)) → pass_of s.config.hosts s.lanes actor lane ≡ e.pass → e.actor ≡ actor

of_line : (s : Script) (e : Entry) → IsTaskOf s e.pass (task_in e) → HasActor s e → IsOfLine s e
of_line s e t has =
    let same = has t.actor t.lane e.act t.sound t.pass in
    record {
      counted = t.counted;
      lane = t.lane;
      line = t.line ∙ ap (λ a. Some (Line.Do a t.lane e.act)) (sym same);
      pass = sym t.pass ∙ ap (λ a. pass_of s.config.hosts s.lanes a t.lane) (sym same);
    }

-- ---- a line has one pass
abbrev pass_at : ℕ → ℕ → Option Line → ℕ
pass_at hosts lanes (Some (Line.Do actor lane act)) = pass_of hosts lanes actor lane
pass_at hosts lanes (Some Line.Mark) = 0
pass_at hosts lanes None = 0

one_pass : (s : Script) (e f : Entry) → IsOfLine s e → IsOfLine s f → e.line ≡ f.line → e.pass ≡ f.pass
one_pass s e f is_e is_f same =
    is_e.pass ∙ (ap (pass_at s.config.hosts s.lanes) (sym is_e.line ∙ (ap (λ n. slice_get s.lines (n - 1)) same ∙ is_f.line)) ∙ sym is_f.pass)

-- ---- how many there are
abbrev add_up : (ℕ → ℕ) → ℕ → ℕ
add_up f zero = 0
add_up f (suc n) = add_up f n + f n

add_up_same : (f g : ℕ → ℕ) (n : ℕ) → ((k : ℕ) → k < n → f k ≡ g k) → add_up f n ≡ add_up g n
add_up_same f g zero same = refl
add_up_same f g (suc n) same =
    let rest = add_up_same f g n (λ k low. same k (omega (arith, low))) in
    let last = same n (omega arith) in
    omega (arith, rest, last)

add_up_none : (n : ℕ) → add_up (λ k. 0) n ≡ 0
add_up_none zero = refl
add_up_none (suc n) = let rest = add_up_none n in omega (arith, rest)

-- one more of one pass
add_up_one : (f g : ℕ → ℕ) (p n : ℕ) → p < n → ((k : ℕ) → f k ≡ cond (p == k) 1 0 + g k) → add_up f n ≡ suc (add_up g n)
add_up_one f g p zero low one = absurd (omega (arith, low))
add_up_one f g p (suc n) low one = by_last (cases_eq p n) (λ apart. add_up_one f g p n (omega (arith, low, apart)) one)
  where
    by_last : (p ≡ n) ⊎ (p ≡ n → ⊥) → ((p ≡ n → ⊥) → add_up f n ≡ suc (add_up g n)) → add_up f n + f n ≡ suc (add_up g n + g n)
    by_last (inl same) before =
        let rest = add_up_same f g n (λ k under. one k ∙ (ap (λ b. cond b 1 0 + g k) (ne_eqb p k (λ e. absurd (omega (arith, e, same, under)))) ∙ zero-add (g k))) in
        let last = one n ∙ ap (λ b. cond b 1 0 + g n) (eq-eqb p n same) in
        omega (arith, rest, last)
    by_last (inr apart) before =
        let rest = before apart in
        let last = one n ∙ (ap (λ b. cond b 1 0 + g n) (ne_eqb p n apart) ∙ zero-add (g n)) in
        omega (arith, rest, last)

entries_counted : (n : ℕ) (xs : List Entry) → AllByRecursion (λ (e : Entry). e.pass < n) xs → length xs ≡ add_up (λ k. length (done_by k xs)) n
entries_counted n [] low = sym (add_up_none n)
entries_counted n (e ∷ xs) low =
    let rest = entries_counted n xs low.1 in
    let one = add_up_one (λ k. length (done_by k (e ∷ xs))) (λ k. length (done_by k xs)) e.pass n low.0 (λ k. by_pass (e.pass == k) (filter (λ (f : Entry). f.pass == k) xs)) in
    omega (arith, rest, one)
  where
    by_pass : (b : Bool) (ys : List Entry) → length (map task_of (map call_of (cond b (e ∷ ys) ys))) ≡ cond b 1 0 + length (map task_of (map call_of ys))
    by_pass true ys = omega arith
    by_pass false ys = omega arith

counts : (line : Line) (lines : List Line) → count_by is_line (line ∷ lines) ≡ cond (is_line line) 1 0 + count_by is_line lines
counts line lines = sum_by-append (λ l. cond (is_line l) 1 0) (line ∷ []) lines ∙ ap (λ n. n + count_by is_line lines) (zero-add (cond (is_line line) 1 0))

lines_counted : (hosts lanes n : ℕ) (lines : List Line) → IsTrue (list_all (is_sound_line hosts lanes) lines) → count_by is_line lines ≡ add_up (λ k. length (tasks hosts lanes k n lines)) (hosts * lanes + 2)
lines_counted hosts lanes n [] sound = sym (add_up_none (hosts * lanes + 2))
lines_counted hosts lanes n (Line.Mark ∷ lines) sound = counts Line.Mark lines ∙ (zero-add (count_by is_line lines) ∙ lines_counted hosts lanes (n + 1) lines sound)
lines_counted hosts lanes n (Line.Do actor lane act ∷ lines) sound =
    let parts = and_parts (is_sound_line hosts lanes (Line.Do actor lane act)) (list_all (is_sound_line hosts lanes) lines) sound in
    let rest = lines_counted hosts lanes (n + 1) lines parts.1 in
    let more = counts (Line.Do actor lane act) lines in
    let one =
    add_up_one (λ k. length (tasks hosts lanes k n (Line.Do actor lane act ∷ lines))) (λ k. length (tasks hosts lanes k (n + 1) lines)) (pass_of hosts lanes actor lane) (hosts * lanes + 2)
    (is_pass hosts lanes actor lane act parts.0) (λ k. by_pass (pass_of hosts lanes actor lane == k) (tasks hosts lanes k (n + 1) lines)) in
    omega (arith, rest, more, one)
  where
    by_pass : (b : Bool) (ts : List Task) → length (if b then record { line = n; act = act } ∷ ts else ts) ≡ cond b 1 0 + length ts
    by_pass true ts = omega arith
    by_pass false ts = omega arith

-- ---- the law
pub served_cover : (s : Script) (journal : List Entry) → AllServed s journal → Covers journal s
served_cover s journal served =
    let low = recursion_from_All (λ (e : Entry). e.pass < passes_of s) journal served.inside in
    let order = in_order_by_pass (passes_of s) journal (λ k under. subst LinesRise (sym (served.each k under)) (tasks_rise s.config.hosts s.lanes k 1 s.lines)) low in
    let of_tasks = of_each (IsTaskOf s) (passes_of s) journal
    (λ k under. subst (λ ts. AllByRecursion (IsTaskOf s k) ts) (sym (served.each k under)) (tasks_placed s [] s.lines k 1 refl refl served.sound)) low in
    let lines = both_hold (λ (e : Entry). IsTaskOf s e.pass (task_in e)) (HasActor s) (IsOfLine s) journal (of_line s) of_tasks (recursion_from_All (HasActor s) journal served.actors) in
    let at = All-from_recursion (IsOfLine s) journal lines in
    record {
      count =
          entries_counted (passes_of s) journal low
          ∙ (add_up_same (λ k. length (done_by k journal)) (λ k. length (tasks s.config.hosts s.lanes k 1 s.lines)) (passes_of s) (λ k under. ap length (served.each k under))
          ∙ sym (lines_counted s.config.hosts s.lanes 1 s.lines served.sound));
      once = λ i j d first under. λ same.
          let pass = one_pass s (slice_index_or journal i d) (slice_index_or journal j d) (at i d (omega (arith, first, under))) (at j d under) same in
          absurd (omega (arith, order i j d first under pass, same));
      lines = lines;
      order = order;
    }
