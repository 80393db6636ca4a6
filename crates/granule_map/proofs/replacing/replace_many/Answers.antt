use Rattle.std.proofs.Common.{◌≡◌, ◌+◌, ◌-◌, ◌<◌, ◌≤◌, ◌∙◌, Bool, cond, List, ℕ, length, get_or, set, take, drop, refl, ap, subst, sym, inl, inr, arith, rules}
use Rattle.std.{proofs.lemmas.Bool.cases_lt, specs.Prelude.count_by}
use Rattle.dcd_base.specs.declared.media.Run.{Run}
use Rattle.memchr.specs.Find.{is_byte}
use Rattle.granule_map.proofs.PartsReplaced.{counted_alike, most_if, replaced, replaced_more, replaced_next, replaced_on, replaced_past}
use Rattle.granule_map.proofs.replacing.replace_many.Goals.{then-loop-i-3-test+else-marks-first, else-loop-i-3-test}
use Rattle.granule_map.proofs.replacing.replace_many.Goals as goal

pub loop-i-2-init : goal.loop-i-2-init
loop-i-2-init c = record {
  begun = omega arith;
  within = omega (arith, c.loop-i-test.true);
  marks = c.loop-i.invariant.marks;
  hosts = c.loop-i.invariant.hosts;
  alike = λ k from below. absurd (omega (arith, from, below));
}

pub loop-i-2-preserved : goal.loop-i-2-preserved
loop-i-2-preserved c =
    let first = c.run.inside.0.0.0 in
    let i = c.loop-i-2.i in
    let marks = c.args.marks.now in
    let hosts = c.args.hosts.now in
    let whole = subst (λ (run : Run). run.first + run.count ≤ length marks) (sym c.run.view_is) c.requires.marks in
    let hosts_whole = subst (λ (run : Run). run.first + run.count ≤ length hosts) (sym c.run.view_is) c.requires.hosts in
    let room = c.loop-i-2-test.true in
    let marks_within : first + i + 16 ≤ length marks = omega (arith, whole, room) in
    let hosts_within : first + i + 16 ≤ length hosts = omega (arith, hosts_whole, room) in
    record {
      begun = omega (arith, c.loop-i-2.invariant.begun);
      within = omega (arith, room);
      marks = c.fill_16.ensures ∙ ap (λ (ms : List ℕ). replaced (first + i) 16 c.args.mark ms) c.loop-i-2.invariant.marks ∙ replaced_on marks first i 16 c.args.mark marks_within;
      hosts = c.fill_16-in-loop-i-2.ensures ∙ ap (λ (hs : List ℕ). replaced (first + i) 16 c.args.host hs) c.loop-i-2.invariant.hosts ∙ replaced_on hosts first i 16 c.args.host hosts_within;
      alike = λ k from below. elim (cases_lt k (first + i)) [
        | inl earlier ↦ c.loop-i-2.invariant.alike k from earlier
        | inr later ↦
            sym (ap (λ (ms : List ℕ). get_or ms k 0) c.loop-i-2.invariant.marks ∙ replaced_past marks first i c.args.mark (omega (arith, marks_within)) k 0 later)
            ∙ c.if-are_alike.ensures refl k later (omega (arith, below))
      ];
    }

pub loop-i-3-preserved : goal.loop-i-3-preserved
loop-i-3-preserved c =
    let first = c.run.inside.0.0.0 in
    let i = c.loop-i-3.i in
    let marks = c.args.marks.now in
    let marks_within : first + i < length marks = search rules in
    let hosts = c.args.hosts.now in
    let hosts_within : first + i < length hosts = search rules in
    let same : get_or c.loop-i-3.marks (first + i) 0 ≡ get_or marks (first + i) 0 =
    ap (λ (ms : List ℕ). get_or ms (first + i) 0) c.loop-i-3.invariant.marks ∙ replaced_next marks first i c.args.mark marks_within 0 in
    record {
      begun = omega (arith, c.loop-i-3.invariant.begun);
      within = omega (arith, c.loop-i-3-test.true);
      marks = ap (λ (ms : List ℕ). set ms (first + i) c.args.mark) c.loop-i-3.invariant.marks ∙ replaced_more marks first i c.args.mark marks_within;
      hosts = ap (λ (hs : List ℕ). set hs (first + i) c.args.host) c.loop-i-3.invariant.hosts ∙ replaced_more hosts first i c.args.host hosts_within;
      alike = λ k from below. elim (cases_lt k (first + i)) [
        | inl earlier ↦ c.loop-i-3.invariant.alike k from earlier
        | inr last ↦ (let here : k ≡ first + i = omega (arith, last, below) in
            ap (λ n. get_or marks n 0) here ∙ sym same ∙ c.if-marks-first.true)
      ];
    }

pub loop-i-smaller : goal.loop-i-smaller
loop-i-smaller c =
    let first = c.run.inside.0.0.0 in
    let begun = c.loop-i.i in
    let i = c.loop-i-3.i in
    let marks = c.args.marks.now in
    let whole = subst (λ (run : Run). run.first + run.count ≤ length marks) (sym c.run.view_is) c.requires.marks in
    elim c.loop-i-3-test.branch [
      | else-loop-i-3-test w ↦ omega (arith, c.loop-i-test.true, w.loop-i-3-test.false)
      | then-loop-i-3-test+else-marks-first w ↦ elim (cases_lt begun i) [
        | inl later ↦ omega (arith, c.loop-i-test.true, later)
        | inr none ↦ (let here : i ≡ begun = omega (arith, none, c.loop-i-3.invariant.begun) in
            let within : first + begun < length marks = omega (arith, whole, c.loop-i-test.true) in
            let within_3 : first + i < length marks = omega (arith, here, within) in
            let was = ap (λ (ms : List ℕ). get_or ms (first + begun) 0) c.loop-i.invariant.marks ∙ replaced_next marks first begun c.args.mark within 0 in
            let now = ap (λ (ms : List ℕ). get_or ms (first + i) 0) c.loop-i-3.invariant.marks ∙ replaced_next marks first i c.args.mark within_3 0 in
            absurd (w.if-marks-first.false (now ∙ ap (λ n. get_or marks (first + n) 0) here ∙ sym was)))
      ]
    ]

pub loop-i-preserved : goal.loop-i-preserved
loop-i-preserved c =
    let first = c.run.inside.0.0.0 in
    let begun = c.loop-i.i in
    let i = c.loop-i-3.i in
    let marks = c.args.marks.now in
    let was = get_or c.loop-i.marks (first + begun) 0 in
    let later = c.loop-i-3.invariant.begun in
    let within = c.loop-i-3.invariant.within in
    let span : begun + (i - begun) ≡ i = omega (arith, later) in
    let whole = subst (λ (run : Run). run.first + run.count ≤ length marks) (sym c.run.view_is) c.requires.marks in
    let fits : first + begun + (i - begun) ≤ length marks = omega (arith, later, within, whole) in
    let counted : (p : ℕ → Bool) → count_by p (take i (drop first marks)) ≡ count_by p (take begun (drop first marks)) + cond (p was) (i - begun) 0 =
    λ p. ap (λ m. count_by p (take m (drop first marks))) (sym span)
    ∙ counted_alike p marks first begun (i - begun) was fits (λ k from below. c.loop-i-3.invariant.alike k from (omega (arith, later, below))) in
    record {
      within = within;
      marks = c.loop-i-3.invariant.marks;
      hosts = c.loop-i-3.invariant.hosts;
      free = omega (arith, c.loop-i.invariant.free, c.all_if-free.ensures, counted (is_byte 0));
      dirty = omega (arith, c.loop-i.invariant.dirty, c.all_if-dirty.ensures, counted (is_byte 4));
      free_few = omega (arith, c.loop-i.invariant.free_few, c.all_if-free.ensures, most_if (is_byte 0 was) (i - begun), later);
      dirty_few = omega (arith, c.loop-i.invariant.dirty_few, c.all_if-dirty.ensures, most_if (is_byte 4 was) (i - begun), later);
    }
