use Rattle.std.proofs.Common.{◌+◌, ◌≤◌, ◌∙◌, ap, drop, length, refl, sym, subst, take}
use Rattle.std.specs.Prelude.{count_by}
use Rattle.dcd_base.specs.declared.media.Run.{Run}
use Rattle.memchr.specs.Find.{is_byte}
use Rattle.granule_map.proofs.PartsReplaced.{counted_all}
use Rattle.granule_map.proofs.replacing.replace_both.Goals as goal

pub returns-then-are_few_alike-clause-free : goal.returns-then-are_few_alike-clause-free
returns-then-are_few_alike-clause-free c =
    let marks = c.args.marks.now in
    let first = c.run.inside.0.0.0 in
    let count = c.run.inside.0.1.0 in
    let within = subst (λ (run : Run). run.first + run.count ≤ length marks) (sym c.run.view_is) c.requires.marks in
    c.all_if.ensures ∙ sym (counted_all (is_byte 0) marks first count within (λ k from below. c.if-are_few_alike.ensures.alike refl k from below))
    ∙ ap (λ (run : Run). count_by (is_byte 0) (take run.count (drop run.first marks))) c.run.view_is

pub returns-then-are_few_alike-clause-dirty : goal.returns-then-are_few_alike-clause-dirty
returns-then-are_few_alike-clause-dirty c =
    let marks = c.args.marks.now in
    let first = c.run.inside.0.0.0 in
    let count = c.run.inside.0.1.0 in
    let within = subst (λ (run : Run). run.first + run.count ≤ length marks) (sym c.run.view_is) c.requires.marks in
    c.all_if-then-are_few_alike.ensures ∙ sym (counted_all (is_byte 4) marks first count within (λ k from below. c.if-are_few_alike.ensures.alike refl k from below))
    ∙ ap (λ (run : Run). count_by (is_byte 4) (take run.count (drop run.first marks))) c.run.view_is
