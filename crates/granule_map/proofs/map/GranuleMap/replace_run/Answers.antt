use Rattle.std.proofs.Common.{◌≡◌, ◌+◌, ◌≤◌, ◌++◌, ◌∙◌, List, ℕ, ap, length, subst, sym, take, drop, arith, rules}
use Rattle.std.proofs.Math.Seq.{take-append_seam}
use Rattle.dcd_base.specs.declared.capacity.Tag.{Tag}
use Rattle.granule_map.proofs.{Kept.kept_by, Kept.length_by, Kept.states_by, Kept.states_long, Marked.dirty_counted, Marked.free_counted, NoneFree.none_after}
use Rattle.granule_map.specs.{StateLists.States, StateLists.mark_of, StateLists.with_run, Told.NoneBelow, Told.states_of, Told.tags_with, Told.with_item, declared.states.GranuleState.GranuleState}
use Rattle.granule_map.proofs.map.GranuleMap.replace_run.Goals as goal

pub invariant_of-self : goal.invariant_of-self
invariant_of-self c =
    let all_marks : c.self.inside.marks.len ≡ length c.replace_both.new.marks = search rules in
    let all_hosts : c.self.inside.hosts.len ≡ length c.replace_both.new.hosts = search rules in
    let all_tags : c.self.inside.tags.len ≡ length c.write_tag.new.tags = search rules in
    let marks = ap (λ n. take n (c.replace_both.new.marks ++ drop (length c.replace_both.new.marks) c.self.inside.marks.items)) all_marks
    ∙ take-append_seam c.replace_both.new.marks (drop (length c.replace_both.new.marks) c.self.inside.marks.items) ∙ c.replace_both.ensures.marks
    ∙ ap (λ (old : List ℕ). with_item c.args.run c.mark-mark.result old) c.as_mut_slice-2.ensures.value
    ∙ ap (λ m. with_item c.args.run m c.self.inside.marks.items) c.mark-mark.ensures in
    let hosts = ap (λ n. take n (c.replace_both.new.hosts ++ drop (length c.replace_both.new.hosts) c.self.inside.hosts.items)) all_hosts
    ∙ take-append_seam c.replace_both.new.hosts (drop (length c.replace_both.new.hosts) c.self.inside.hosts.items) ∙ c.replace_both.ensures.hosts
    ∙ ap (λ (old : List ℕ). with_item c.args.run c.host.result old) c.as_mut_slice-3.ensures.value
    ∙ ap (λ h. with_item c.args.run h c.self.inside.hosts.items) c.host.ensures in
    let tags = ap (λ n. take n (c.write_tag.new.tags ++ drop (length c.write_tag.new.tags) c.self.inside.tags.items)) all_tags
    ∙ take-append_seam c.write_tag.new.tags (drop (length c.write_tag.new.tags) c.self.inside.tags.items) ∙ c.write_tag.ensures
    ∙ ap (λ (old : List Tag). tags_with c.args.run c.args.state old) c.as_mut_slice.ensures.value in
    let seen = ap (λ (s : States). s.states) c.self.view_is in
    let within : c.args.run.first + c.args.run.count ≤ length c.self.inside.marks.items = omega (arith, c.requires.within, ap (λ (ss : List GranuleState). length ss) seen, states_long c.self.inside.marks.items c.self.inside.hosts.items c.self.inside.tags.items) in
    record {
      kept = kept_by c.self.inside.marks.items c.self.inside.hosts.items c.self.inside.tags.items c.args.run c.args.state c.self.invariant.kept within _ _ _ marks hosts tags;
      none_below = subst (λ (ms : List ℕ). NoneBelow ms c.lowest_after-self-inside.result) (sym marks)
          (none_after c.self.inside.marks.items c.args.run (mark_of c.args.state) c.self.inside.lowest c.lowest_after-self-inside.result within c.self.invariant.none_below
          (λ is. c.lowest_after-self-inside.ensures.free (c.mark-mark.ensures ∙ is)) c.lowest_after-self-inside.ensures.covered c.lowest_after-self-inside.ensures.ends);
    }

pub returns-clause-states : goal.returns-clause-states
returns-clause-states c =
    let all_marks : c.self.inside.marks.len ≡ length c.replace_both.new.marks = search rules in
    let all_hosts : c.self.inside.hosts.len ≡ length c.replace_both.new.hosts = search rules in
    let all_tags : c.self.inside.tags.len ≡ length c.write_tag.new.tags = search rules in
    let marks = ap (λ n. take n (c.replace_both.new.marks ++ drop (length c.replace_both.new.marks) c.self.inside.marks.items)) all_marks
    ∙ take-append_seam c.replace_both.new.marks (drop (length c.replace_both.new.marks) c.self.inside.marks.items) ∙ c.replace_both.ensures.marks
    ∙ ap (λ (old : List ℕ). with_item c.args.run c.mark-mark.result old) c.as_mut_slice-2.ensures.value
    ∙ ap (λ m. with_item c.args.run m c.self.inside.marks.items) c.mark-mark.ensures in
    let hosts = ap (λ n. take n (c.replace_both.new.hosts ++ drop (length c.replace_both.new.hosts) c.self.inside.hosts.items)) all_hosts
    ∙ take-append_seam c.replace_both.new.hosts (drop (length c.replace_both.new.hosts) c.self.inside.hosts.items) ∙ c.replace_both.ensures.hosts
    ∙ ap (λ (old : List ℕ). with_item c.args.run c.host.result old) c.as_mut_slice-3.ensures.value
    ∙ ap (λ h. with_item c.args.run h c.self.inside.hosts.items) c.host.ensures in
    let tags = ap (λ n. take n (c.write_tag.new.tags ++ drop (length c.write_tag.new.tags) c.self.inside.tags.items)) all_tags
    ∙ take-append_seam c.write_tag.new.tags (drop (length c.write_tag.new.tags) c.self.inside.tags.items) ∙ c.write_tag.ensures
    ∙ ap (λ (old : List Tag). tags_with c.args.run c.args.state old) c.as_mut_slice.ensures.value in
    let seen = ap (λ (s : States). s.states) c.self.view_is in
    let within : c.args.run.first + c.args.run.count ≤ length c.self.inside.marks.items = omega (arith, c.requires.within, ap (λ (ss : List GranuleState). length ss) seen, states_long c.self.inside.marks.items c.self.inside.hosts.items c.self.inside.tags.items) in
    states_by c.self.inside.marks.items c.self.inside.hosts.items c.self.inside.tags.items c.args.run c.args.state c.self.invariant.kept within _ _ _ marks hosts tags
    ∙ ap (λ (ss : List GranuleState). with_run ss c.args.run c.args.state) seen

pub returns-clause-granules : goal.returns-clause-granules
returns-clause-granules c =
    let all_marks : c.self.inside.marks.len ≡ length c.replace_both.new.marks = search rules in
    let marks = ap (λ n. take n (c.replace_both.new.marks ++ drop (length c.replace_both.new.marks) c.self.inside.marks.items)) all_marks
    ∙ take-append_seam c.replace_both.new.marks (drop (length c.replace_both.new.marks) c.self.inside.marks.items) ∙ c.replace_both.ensures.marks
    ∙ ap (λ (old : List ℕ). with_item c.args.run c.mark-mark.result old) c.as_mut_slice-2.ensures.value in
    let seen = ap (λ (s : States). s.states) c.self.view_is in
    length_by c.self.inside.marks.items c.self.inside.hosts.items c.self.inside.tags.items c.args.self.now.states c.args.run c.mark-mark.result seen c.requires.within _ _ _ marks

pub returns-clause-free : goal.returns-clause-free
returns-clause-free c =
    c.replace_both.ensures.free
    ∙ free_counted (states_of c.self.inside.marks.items c.self.inside.hosts.items c.self.inside.tags.items) c.args.self.now.states c.self.inside.marks.items c.as_mut_slice-2.result.now c.self.invariant.kept.marked
    (ap (λ (s : States). s.states) c.self.view_is) c.as_mut_slice-2.ensures.value c.args.run

pub returns-clause-dirty : goal.returns-clause-dirty
returns-clause-dirty c =
    c.replace_both.ensures.dirty
    ∙ dirty_counted (states_of c.self.inside.marks.items c.self.inside.hosts.items c.self.inside.tags.items) c.args.self.now.states c.self.inside.marks.items c.as_mut_slice-2.result.now c.self.invariant.kept.marked
    (ap (λ (s : States). s.states) c.self.view_is) c.as_mut_slice-2.ensures.value c.args.run
