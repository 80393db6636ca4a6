-- One more line of a serial run, and the whole of it.
use Rattle.std.proofs.Common.{◌≡◌, Bool, true, ◌&&◌, ℕ, ◌+◌, ◌-◌, ◌<◌, ◌≤◌, cond, List, [], ◌∷◌, ◌++◌, length, take, count_by, Some, Err, refl, sym, ap, subst, ◌∙◌, append-nil, arith, zero-add}
use Rattle.std.proofs.{Common.get_or, Math.Seq.get_or-append_seam, lemmas.Bool.and_parts}
use Rattle.std.proofs.lemmas.List.{append_assoc, length-append, length_push, take_all, take_more, Elements.All-push, Folds.list_all-append, Quantifiers.all_pairs_push, Sums.sum_by-append}
use Rattle.std.{proofs.lemmas.Option.slice_get_read, specs.List.AllByRecursion, specs.List.list_all, specs.Prelude.slice_get}
use Rattle.dcd_base.specs.declared.steps.Actor.{Actor}
use Rattle.region_config.specs.Configurations.{Configuration}
use Rattle.journal_core.specs.declared.{acts.Act.Act, entries.Entry.Entry}
use Rattle.script_gen.specs.script_codec.specs.Covering.{Covers, IsOfLine, is_line, pass_of}
use Rattle.script_gen.specs.script_codec.specs.{LineByLine.Begins, LineByLine.FailsInHead, LineByLine.head_then, LineByLine.with_head, Reading.fault_of, Reading.first_fault, Unread.Unread}
use Rattle.script_gen.specs.script_codec.specs.declared.{faults.ScriptFault.ScriptFault, heads.Head.Head, script_line.Line.Line, scripts.Script.Script}
use Rattle.script_runner.specs.Fronts.{AddsEntry, CoversFront, RanAll, RanLines, RanRest, RanScript, RunsLine, RunsLines}

all_push : {X : Type 0} (P : X → Type 0) (xs : List X) (x : X) → AllByRecursion P xs → P x → AllByRecursion P (xs ++ x ∷ [])
all_push P [] x all last = (last, tt)
all_push P (y ∷ xs) x all last = (all.0, all_push P xs x all.1 last)

count_push : (xs : List Line) (x : Line) → count_by is_line (xs ++ x ∷ []) ≡ count_by is_line xs + (cond (is_line x) 1 0)
count_push xs x = sum_by-append (λ y. cond (is_line y) 1 0) xs (x ∷ []) ∙ ap (λ n. count_by is_line xs + n) (zero-add (cond (is_line x) 1 0))

-- a line that is no mark
front_entry : (s : Script) (i : ℕ) (old new : List Entry) (actor : Actor) (lane : ℕ) (act : Act) → i < length s.lines
    → Line.Do actor lane act ≡ get_or s.lines i (Line.Do actor lane act) → CoversFront s i old
    → AddsEntry s.config.hosts s.lanes (i + 1) actor lane act old new → CoversFront s (i + 1) new
front_entry s i old new actor lane act lt is front adds =
    let e : Entry = adds.entry in
    let l : Line = Line.Do actor lane act in
    let place : e.line - 1 ≡ i = omega (arith, adds.line) in
    let more : take (i + 1) s.lines ≡ take i s.lines ++ l ∷ [] =
    take_more s.lines i l lt ∙ ap (λ x. take i s.lines ++ x ∷ []) (sym is) in
    let counts : count_by is_line (take (i + 1) s.lines) ≡ count_by is_line (take i s.lines) + 1 =
    ap (λ xs. count_by is_line xs) more ∙ count_push (take i s.lines) l in
    let of_line : IsOfLine s e = record {
      counted = omega (arith, adds.line);
      lane = lane;
      line = ap (λ n. slice_get s.lines n) place
          ∙ slice_get_read s.lines (length s.lines) i l refl lt is
          ∙ ap (λ a. Some (Line.Do a lane act)) (sym adds.actor)
          ∙ ap (λ b. Some (Line.Do e.actor lane b)) (sym adds.act);
      pass = adds.pass ∙ ap (λ a. pass_of s.config.hosts s.lanes a lane) (sym adds.actor);
    } in
    let whole : CoversFront s (i + 1) (old ++ e ∷ []) = record {
      counted = omega (arith, length_push old e, front.counted, counts);
      lines = all_push (IsOfLine s) old e front.lines of_line;
      below = All-push (λ (x : Entry). x.line ≤ i + 1) old e (λ k d under. omega (arith, front.below k d under)) (omega (arith, adds.line));
      rising = all_pairs_push (λ (x y : Entry). x.line < y.line) old e front.rising (λ k d under. omega (arith, front.below k d under, adds.line));
    } in
    subst (λ journal. CoversFront s (i + 1) journal) (sym adds.added) whole

-- a mark
front_mark : (s : Script) (i : ℕ) (old new : List Entry) → i < length s.lines → Line.Mark ≡ get_or s.lines i Line.Mark
    → CoversFront s i old → new ≡ old → CoversFront s (i + 1) new
front_mark s i old new lt is front same =
    let more : take (i + 1) s.lines ≡ take i s.lines ++ Line.Mark ∷ [] =
    take_more s.lines i Line.Mark lt ∙ ap (λ x. take i s.lines ++ x ∷ []) (sym is) in
    let counts : count_by is_line (take (i + 1) s.lines) ≡ count_by is_line (take i s.lines) + 0 =
    ap (λ xs. count_by is_line xs) more ∙ count_push (take i s.lines) Line.Mark in
    let whole : CoversFront s (i + 1) old = record {
      counted = omega (arith, front.counted, counts);
      lines = front.lines;
      below = λ k d under. omega (arith, front.below k d under);
      rising = front.rising;
    } in
    subst (λ journal. CoversFront s (i + 1) journal) (sym same) whole

pub front_line : (s : Script) (i : ℕ) (l : Line) (old new : List Entry) → i < length s.lines → l ≡ get_or s.lines i l → CoversFront s i old
    → RunsLine s.config.hosts s.lanes (i + 1) l old new → CoversFront s (i + 1) new
front_line s i (Line.Do actor lane act) old new lt is front ran = front_entry s i old new actor lane act lt is front ran
front_line s i Line.Mark old new lt is front ran = front_mark s i old new lt is front ran

none : (k : ℕ) → k < 0 → ⊥
none k under = omega (arith, under)

rises_apart : (a b : ℕ) → a < b → a ≡ b → ⊥
rises_apart a b less same = omega (arith, less, same)

-- before the first line
pub front_start : (s : Script) → CoversFront s 0 []
front_start s = record { counted = refl; lines = tt; below = λ k d under. absurd (none k under); rising = λ i j d less under. absurd (none j under) }

-- behind the last line
pub front_end : (s : Script) (journal : List Entry) (count : ℕ) → length s.lines ≤ count → CoversFront s count journal → Covers journal s
front_end s journal count past front = record {
  count = front.counted ∙ ap (λ xs. count_by is_line xs) (take_all count s.lines past);
  once = λ i j d less under same. rises_apart _ _ (front.rising i j d less under) same;
  lines = front.lines;
  order = λ i j d less under same. front.rising i j d less under;
}

-- ---- a list of which some items are done, one is at hand, and others are left

pub item_at : (lines done rest : List Line) (l : Line) → lines ≡ done ++ l ∷ rest → l ≡ get_or lines (length done) l
item_at lines done rest l parts = sym (get_or-append_seam done l rest l) ∙ ap (λ xs. get_or xs (length done) l) (sym parts)

pub item_within : (lines done rest : List Line) (l : Line) → lines ≡ done ++ l ∷ rest → length done < length lines
item_within lines done rest l parts = omega (arith, ap length parts, length-append done (l ∷ rest))

pub item_passes : (p : Line → Bool) (lines done rest : List Line) (l : Line) → lines ≡ done ++ l ∷ rest → list_all p lines ≡ true → p l ≡ true
item_passes p lines done rest l parts all =
    let both : (list_all p done && list_all p (l ∷ rest)) ≡ true = sym (list_all-append p done (l ∷ rest)) ∙ ap (list_all p) (sym parts) ∙ all in
    (and_parts (p l) (list_all p rest) (and_parts (list_all p done) (list_all p (l ∷ rest)) both).1).0

pub front_item : (s : Script) (done rest : List Line) (l : Line) (number : ℕ) (old new : List Entry) → s.lines ≡ done ++ l ∷ rest → number ≡ length done
    → CoversFront s (length done) old → RunsLine s.config.hosts s.lanes (number + 1) l old new → CoversFront s (length (done ++ l ∷ [])) new
front_item s done rest l number old new parts counted front ran =
    let here : RunsLine s.config.hosts s.lanes (length done + 1) l old new = subst (λ n. RunsLine s.config.hosts s.lanes (n + 1) l old new) counted ran in
    let next : CoversFront s (length done + 1) new = front_line s (length done) l old new (item_within s.lines done rest l parts) (item_at s.lines done rest l parts) front here in
    subst (λ n. CoversFront s n new) (sym (length_push done l)) next

-- ---- lines that are read one by one

pub ran_none : (hosts lanes : ℕ) (journal : List Entry) → journal ≡ [] → RanLines hosts lanes [] journal
ran_none hosts lanes journal fresh = record { front = λ s rest parts hosts_are lanes_are. subst (CoversFront s 0) (sym fresh) (front_start s) }

pub ran_one_more : (hosts lanes : ℕ) (done : List Line) (l : Line) (number : ℕ) (old new : List Entry) → number ≡ length done
    → RanLines hosts lanes done old → RunsLine hosts lanes (number + 1) l old new → RanLines hosts lanes (done ++ l ∷ []) new
ran_one_more hosts lanes done l number old new counted before ran = record {
  front = λ s rest parts hosts_are lanes_are.
      let here : s.lines ≡ done ++ l ∷ rest = parts ∙ append_assoc done (l ∷ []) rest in
      let its : RunsLine s.config.hosts s.lanes (number + 1) l old new =
      subst (λ n. RunsLine n s.lanes (number + 1) l old new) (sym hosts_are) (subst (λ n. RunsLine hosts n (number + 1) l old new) (sym lanes_are) ran) in
      front_item s done rest l number old new here counted (before.front s (l ∷ rest) here hosts_are lanes_are) its;
}

-- ---- lines of a list, behind others

pub runs_none : (hosts lanes behind : ℕ) (journal : List Entry) → RunsLines hosts lanes behind [] journal journal
runs_none hosts lanes behind journal = record { goes_on = λ done counted ran. subst (λ xs. RanLines hosts lanes xs journal) (sym (append-nil done)) ran }

pub runs_one_more : (hosts lanes behind : ℕ) (lines : List Line) (l : Line) (number : ℕ) (start old new : List Entry) → number ≡ behind + length lines
    → RunsLines hosts lanes behind lines start old → RunsLine hosts lanes (number + 1) l old new → RunsLines hosts lanes behind (lines ++ l ∷ []) start new
runs_one_more hosts lanes behind lines l number start old new counted before ran = record {
  goes_on = λ done is its.
      subst (λ xs. RanLines hosts lanes xs new) (append_assoc done lines (l ∷ []))
      (ran_one_more hosts lanes (done ++ lines) l number old new (omega (arith, counted, is, length-append done lines)) (before.goes_on done is its) ran);
}

-- all lines of a script that was made and not read
pub ran_all : (s : Script) (done : List Line) (config : Configuration) (journal : List Entry) → config ≡ s.config → s.lines ≡ done
    → RanLines config.hosts s.lanes done journal → RanAll s config journal
ran_all s done config journal config_is whole ran =
    let front : CoversFront s (length done) journal = ran.front s [] (whole ∙ sym (append-nil done)) (ap (λ (k : Configuration). k.hosts) (sym config_is)) refl in
    record {
      config_is = config_is;
      covers = front_end s journal (length done) (omega (arith, ap length whole)) front;
      rising = front.rising;
    }

-- what was read and what was done make the script
pub ran_script : (input : List ℕ) (head : Head) (unread : Unread) (config : Configuration) (journal : List Entry) → Begins input head unread
    → config ≡ head.config → RanRest config.hosts head.lanes unread.rest journal → RanScript input config journal
ran_script input head unread config journal begun config_is ran =
    let s : Script = with_head head ran.lines in
    let hosts : s.config.hosts ≡ config.hosts = ap (λ (k : Configuration). k.hosts) (sym config_is) in
    let front : CoversFront s (length ran.lines) journal = ran.ran.front s [] (sym (append-nil ran.lines)) hosts refl in
    record {
      script = s;
      reads = begun.reads s (begun.is ∙ ap (head_then head) ran.whole);
      config_is = config_is;
      covers = front_end s journal (length ran.lines) (omega arith) front;
      rising = front.rising;
    }

pub head_fault : (input : List ℕ) (fault : ScriptFault) → FailsInHead input fault → first_fault input ≡ Some fault
head_fault input fault fails = ap fault_of fails.1

pub fault_behind : (input : List ℕ) (head : Head) (unread : Unread) (fault : ScriptFault) → Begins input head unread → unread.rest ≡ Err fault
    → first_fault input ≡ Some fault
fault_behind input head unread fault begun bad = ap fault_of (begun.is ∙ ap (head_then head) bad)
