-- The sweep that parts the lines, from the last to the first.
use Rattle.std.proofs.Common.{◌≡◌, ◌⊎◌, inl, inr, ℕ, suc, ◌+◌, ◌*◌, ◌<◌, ◌≤◌, List, ◌∷◌, length, get_or, set, drop, replicate, refl, ap, sym, subst, ◌∙◌, arith, IsTrue}
use Rattle.std.proofs.{Math.Nat.mul_comm, lemmas.Bool.and_parts, lemmas.Bool.both_ways, lemmas.Bool.cases_eq, lemmas.Bool.eqb-true, lemmas.Bool.eq-eqb, lemmas.Bool.ltb-true, lemmas.Bool.ne_eqb}
use Rattle.std.proofs.lemmas.{List.drop_more, List.get_or-replicate, List.length-replicate, List.length-set, List.get_or-set_same, List.get_or-set_other, List.get_or_default, Nat.mul-add-lt}
use Rattle.std.{proofs.lemmas.Option.get_or_from_slice_get, proofs.lemmas.Option.slice_get_within, specs.List.list_all}
use Rattle.std.specs.Prelude.{Some, slice_get, slice_index, nat_lt, false, if◌then◌else◌}
use Rattle.dcd_base.specs.declared.steps.Actor.{Actor}
use Rattle.journal_core.specs.{Entries.fits, declared.acts.Act.Act}
use Rattle.script_codec.specs.{declared.script_line.Line.Line, Covering.pass_of, Scripts.is_sound_line}
use Rattle.workers.{specs.Phases.is_line_of, specs.Phases.tasks, proofs.Standing.all_at, specs.Worklists.IsPlaceOf, specs.Worklists.IsNextOf, specs.Worklists.ArePartedFrom}

host_fits : (hosts h : ℕ) (act : Act) → IsTrue (fits hosts (Actor.Host h) act) → h < hosts
host_fits hosts h (Act.Command q) is = ltb-true h hosts is
host_fits hosts h (Act.Load d) is = ltb-true h hosts is
host_fits hosts h (Act.Store d value) is = ltb-true h hosts is
host_fits hosts h (Act.Scrub n) is = absurd (both_ways false refl is)

-- a sound line has one of the passes
pub is_pass : (hosts lanes : ℕ) (actor : Actor) (lane : ℕ) (act : Act) → IsTrue (is_sound_line hosts lanes (Line.Do actor lane act)) → pass_of hosts lanes actor lane < hosts * lanes + 2
is_pass hosts lanes (Actor.Host h) lane act sound =
    let parts = and_parts (fits hosts (Actor.Host h) act) (nat_lt lane lanes) sound in
    let place = mul-add-lt h lanes lane hosts (host_fits hosts h act parts.0) (ltb-true lane lanes parts.1) in
    let turned = mul_comm lanes hosts in
    omega (arith, place, turned)
is_pass hosts lanes Actor.Manager lane act sound = omega arith
is_pass hosts lanes Actor.Sanitizer lane act sound = omega arith

-- so has the first of sound lines, if it is no mark
pub first_inside : (hosts lanes : ℕ) (lines : List Line) (line : Line) (actor : Actor) (lane : ℕ) (act : Act) → Some line ≡ slice_get lines 0 → line ≡ Line.Do actor lane act
    → IsTrue (list_all (is_sound_line hosts lanes) lines) → pass_of hosts lanes actor lane < hosts * lanes + 2
first_inside hosts lanes lines line actor lane act at is sound =
    let here = all_at (is_sound_line hosts lanes) lines 0 line (slice_get_within lines 0 line (sym at)) (sym (get_or_from_slice_get lines 0 line line (sym at))) sound in
    is_pass hosts lanes actor lane act (subst (λ x. IsTrue (is_sound_line hosts lanes x)) is here)

module _ (hosts lanes : ℕ) (lines : List Line) where
  -- the place itself
  next_itself : (pass place : ℕ) → IsPlaceOf hosts lanes lines pass place → IsNextOf hosts lanes lines pass place place
  next_itself pass place there = record { there = there; behind = omega arith; skips = λ first. refl }

  no_place : (pass : ℕ) → IsPlaceOf hosts lanes lines pass (length lines)
  no_place pass = record { within = omega arith; own = λ d lt. absurd (omega (arith, lt)) }

  -- before the sweep no line is parted
  pub none_parted : (passes : ℕ) → passes ≡ hosts * lanes + 2
      → ArePartedFrom hosts lanes lines (length lines) (replicate passes (length lines)) (replicate (length lines) (length lines))
  none_parted passes is = record {
    head = λ i lt.
        let low : i < passes = subst (λ n. i < n) (length-replicate passes (length lines)) lt in
        let at : slice_index (replicate passes (length lines)) i ≡ length lines = get_or-replicate passes i (length lines) 0 low in
        subst (λ n. IsNextOf hosts lanes lines i (length lines) n) (sym at) (next_itself i (length lines) (no_place i));
    link = λ i pass d from lt own. absurd (omega (arith, from, lt));
    passes = length-replicate passes (length lines) ∙ is;
    links = length-replicate (length lines) (length lines);
  }

  -- a line that is not the pass's is skipped
  skipped : (pass place : ℕ) (line : Line) → place < length lines → line ≡ get_or lines place line → is_line_of hosts lanes pass line ≡ false
      → (first : ℕ) → tasks hosts lanes pass (first + place) (drop place lines) ≡ tasks hosts lanes pass (first + suc place) (drop (suc place) lines)
  skipped pass place line lt is other first =
      let number : first + place + 1 ≡ first + suc place = omega arith in
      let behind : place + 1 ≡ suc place = omega arith in
      ap (λ xs. tasks hosts lanes pass (first + place) xs) (drop_more lines place line lt ∙ ap (λ y. y ∷ drop (place + 1) lines) (sym is))
      ∙ (without line other (drop (place + 1) lines)
      ∙ (ap (λ n. tasks hosts lanes pass n (drop (place + 1) lines)) number
      ∙ ap (λ n. tasks hosts lanes pass (first + suc place) (drop n lines)) behind))
    where
      without : (x : Line) → is_line_of hosts lanes pass x ≡ false → (rest : List Line) → tasks hosts lanes pass (first + place) (x ∷ rest) ≡ tasks hosts lanes pass (first + place + 1) rest
      without Line.Mark no_line rest = refl
      without (Line.Do actor lane act) no_line rest =
          ap (λ b. if b then record { line = first + place; act = act } ∷ tasks hosts lanes pass (first + place + 1) rest else tasks hosts lanes pass (first + place + 1) rest) no_line

  -- what is next from behind the line is next from it on
  earlier : (pass place : ℕ) (line : Line) → place < length lines → line ≡ get_or lines place line → is_line_of hosts lanes pass line ≡ false
      → (n : ℕ) → IsNextOf hosts lanes lines pass (suc place) n → IsNextOf hosts lanes lines pass place n
  earlier pass place line lt is other n next =
      let behind = next.behind in
      record { there = next.there; behind = omega (arith, behind); skips = λ first. skipped pass place line lt is other first ∙ next.skips first }

  pub mark_linked : (place : ℕ) (heads next : List ℕ) → place < length lines → Line.Mark ≡ get_or lines place Line.Mark
      → ArePartedFrom hosts lanes lines (suc place) heads next → ArePartedFrom hosts lanes lines place heads next
  mark_linked place heads next lt is parted = record {
    head = λ i low. earlier i place Line.Mark lt is refl (slice_index heads i) (parted.head i low);
    link = λ i pass d from inside own. linked i pass d from inside own (cases_eq i place);
    passes = parted.passes;
    links = parted.links;
  }
    where
      linked : (i pass : ℕ) (d : Line) → place ≤ i → i < length lines → IsTrue (is_line_of hosts lanes pass (get_or lines i d)) → (i ≡ place) ⊎ (i ≡ place → ⊥) → IsNextOf hosts lanes lines pass (suc i) (slice_index next i)
      linked i pass d from inside own (inl same) =
          let mark : get_or lines i d ≡ Line.Mark = ap (λ n. get_or lines n d) same ∙ (get_or_default lines place d Line.Mark lt ∙ sym is) in
          absurd (both_ways false refl (sym (ap (λ x. is_line_of hosts lanes pass x) mark) ∙ own))
      linked i pass d from inside own (inr apart) = parted.link i pass d (omega (arith, from, apart)) inside own

  pub line_linked : (actor : Actor) (lane : ℕ) (act : Act) (pass place : ℕ) (heads next : List ℕ) → place < length lines → Line.Do actor lane act ≡ get_or lines place (Line.Do actor lane act)
      → pass ≡ pass_of hosts lanes actor lane → pass < length heads
      → ArePartedFrom hosts lanes lines (suc place) heads next → ArePartedFrom hosts lanes lines place (set heads pass place) (set next place (slice_index heads pass))
  line_linked actor lane act pass place heads next lt is number low parted = record {
    head = λ i inside. headed i inside (cases_eq i pass);
    link = λ i p d from inside own. linked i p d from inside own (cases_eq i place);
    passes = length-set heads pass place ∙ parted.passes;
    links = length-set next place (slice_index heads pass) ∙ parted.links;
  }
    where
      room : place < length next
      room = let links = parted.links in omega (arith, links, lt)

      read : (i : ℕ) → i ≡ place → (d : Line) → get_or lines i d ≡ Line.Do actor lane act
      read i same d = ap (λ n. get_or lines n d) same ∙ (get_or_default lines place d (Line.Do actor lane act) lt ∙ sym is)

      here : (i : ℕ) → i ≡ pass → IsNextOf hosts lanes lines i place place
      here i same = next_itself i place (record {
        within = omega (arith, lt);
        own = λ d inside. ap (λ x. is_line_of hosts lanes i x) (read place refl d) ∙ eq-eqb (pass_of hosts lanes actor lane) i (omega (arith, same, number));
      })

      other : (i : ℕ) → (i ≡ pass → ⊥) → is_line_of hosts lanes i (Line.Do actor lane act) ≡ false
      other i apart = ne_eqb (pass_of hosts lanes actor lane) i (λ e. apart (omega (arith, e, number)))

      headed : (i : ℕ) → i < length (set heads pass place) → (i ≡ pass) ⊎ (i ≡ pass → ⊥) → IsNextOf hosts lanes lines i place (slice_index (set heads pass place) i)
      headed i inside (inl same) =
          let at : slice_index (set heads pass place) i ≡ place = ap (λ m. get_or (set heads pass place) m 0) same ∙ get_or-set_same heads pass place 0 low in
          subst (λ n. IsNextOf hosts lanes lines i place n) (sym at) (here i same)
      headed i inside (inr apart) =
          let old : i < length heads = subst (λ n. i < n) (length-set heads pass place) inside in
          let at : slice_index (set heads pass place) i ≡ slice_index heads i = get_or-set_other heads pass i place 0 apart in
          subst (λ n. IsNextOf hosts lanes lines i place n) (sym at) (earlier i place (Line.Do actor lane act) lt is (other i apart) (slice_index heads i) (parted.head i old))

      linked : (i p : ℕ) (d : Line) → place ≤ i → i < length lines → IsTrue (is_line_of hosts lanes p (get_or lines i d)) → (i ≡ place) ⊎ (i ≡ place → ⊥)
          → IsNextOf hosts lanes lines p (suc i) (slice_index (set next place (slice_index heads pass)) i)
      linked i p d from inside own (inl same) =
          let mine : p ≡ pass = sym (eqb-true (pass_of hosts lanes actor lane) p (sym (ap (λ x. is_line_of hosts lanes p x) (read i same d)) ∙ own)) ∙ sym number in
          let at : slice_index (set next place (slice_index heads pass)) i ≡ slice_index heads pass = ap (λ m. get_or (set next place (slice_index heads pass)) m 0) same ∙ get_or-set_same next place (slice_index heads pass) 0 room in
          subst (λ n. IsNextOf hosts lanes lines p (suc i) n) (sym at)
          (subst (λ m. IsNextOf hosts lanes lines p (suc m) (slice_index heads pass)) (sym same) (subst (λ m. IsNextOf hosts lanes lines m (suc place) (slice_index heads pass)) (sym mine) (parted.head pass low)))
      linked i p d from inside own (inr apart) =
          let at : slice_index (set next place (slice_index heads pass)) i ≡ slice_index next i = get_or-set_other next place i (slice_index heads pass) 0 apart in
          subst (λ n. IsNextOf hosts lanes lines p (suc i) n) (sym at) (parted.link i p d (omega (arith, from, apart)) inside own)

  -- the same, as the code reads the line
  pub act_linked : (line : Line) (actor : Actor) (lane : ℕ) (act : Act) (pass place : ℕ) (heads next : List ℕ) → place < length lines → line ≡ get_or lines place line → line ≡ Line.Do actor lane act
      → pass ≡ pass_of hosts lanes actor lane → pass < length heads
      → ArePartedFrom hosts lanes lines (suc place) heads next → ArePartedFrom hosts lanes lines place (set heads pass place) (set next place (slice_index heads pass))
  act_linked line actor lane act pass place heads next lt at is number low parted =
      line_linked actor lane act pass place heads next lt (subst (λ x. x ≡ get_or lines place x) is at) number low parted

  pub pass_inside : (line : Line) (actor : Actor) (lane : ℕ) (act : Act) (place : ℕ) (heads next : List ℕ) → place < length lines → line ≡ get_or lines place line → line ≡ Line.Do actor lane act
      → IsTrue (list_all (is_sound_line hosts lanes) lines) → ArePartedFrom hosts lanes lines (suc place) heads next → pass_of hosts lanes actor lane < length heads
  pass_inside line actor lane act place heads next lt at is sound parted =
      let own = subst (λ x. IsTrue (is_sound_line hosts lanes x)) is (all_at (is_sound_line hosts lanes) lines place line lt at sound) in
      subst (λ n. pass_of hosts lanes actor lane < n) (sym parted.passes) (is_pass hosts lanes actor lane act own)
