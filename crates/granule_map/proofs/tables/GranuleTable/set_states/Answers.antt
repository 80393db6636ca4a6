use Rattle.std.proofs.Common.{◌≡◌, ◌+◌, ◌≤◌, ◌∙◌, List, length, refl, subst, cond, ap, sym, arith, rules}
use Rattle.granule_map.{proofs.Counting.recounts_dirty, proofs.Counting.recounts_free, proofs.TableRanges.states_changed, specs.Parts.flags_in}
use Rattle.granule_map.specs.{StateLists.is_free_state, StateLists.is_dirty_state, StateLists.with_run, Tables.CellTable, Tables.IsChanged, Tables.given, declared.states.GranuleState.GranuleState}
use Rattle.granule_map.proofs.tables.GranuleTable.set_states.Goals as goal

pub recounted-self-inside-requires-clause-counted : goal.recounted-self-inside-requires-clause-counted
recounted-self-inside-requires-clause-counted c =
    let kept : length (with_run c.self.inside.map.states c.args.run.now c.args.state.now) ≡ length c.self.inside.map.states = ap (λ (ss : List GranuleState). length ss) (sym c.replace_run-was.ensures.states) ∙ c.replace_run-was.ensures.granules in
    let now : c.all_or_none.result ≡ cond (is_free_state c.args.state.now) c.args.run.now.count 0 = search rules in
    let free = recounts_free c.self.inside.map.states c.args.run.now c.args.state.now c.replace_run-was.result.free c.all_or_none.result c.self.invariant.few kept c.replace_run-was.ensures.free now in
    omega (arith, free.counted, c.self.invariant.free_is)

pub recounted-self-inside-requires-clause-fits : goal.recounted-self-inside-requires-clause-fits
recounted-self-inside-requires-clause-fits c =
    let kept : length (with_run c.self.inside.map.states c.args.run.now c.args.state.now) ≡ length c.self.inside.map.states = ap (λ (ss : List GranuleState). length ss) (sym c.replace_run-was.ensures.states) ∙ c.replace_run-was.ensures.granules in
    let now : c.all_or_none.result ≡ cond (is_free_state c.args.state.now) c.args.run.now.count 0 = search rules in
    let free = recounts_free c.self.inside.map.states c.args.run.now c.args.state.now c.replace_run-was.result.free c.all_or_none.result c.self.invariant.few kept c.replace_run-was.ensures.free now in
    omega (arith, free.fits, c.self.invariant.free_is)

pub recounted-self-inside-requires-2-clause-counted : goal.recounted-self-inside-requires-2-clause-counted
recounted-self-inside-requires-2-clause-counted c =
    let kept : length (with_run c.self.inside.map.states c.args.run.now c.args.state.now) ≡ length c.self.inside.map.states = ap (λ (ss : List GranuleState). length ss) (sym c.replace_run-was.ensures.states) ∙ c.replace_run-was.ensures.granules in
    let now : c.all_or_none-2.result ≡ cond (is_dirty_state c.args.state.now) c.args.run.now.count 0 = search rules in
    let dirty = recounts_dirty c.self.inside.map.states c.args.run.now c.args.state.now c.replace_run-was.result.dirty c.all_or_none-2.result c.self.invariant.few kept c.replace_run-was.ensures.dirty now in
    omega (arith, dirty.counted, c.self.invariant.dirty_is)

pub recounted-self-inside-requires-2-clause-fits : goal.recounted-self-inside-requires-2-clause-fits
recounted-self-inside-requires-2-clause-fits c =
    let kept : length (with_run c.self.inside.map.states c.args.run.now c.args.state.now) ≡ length c.self.inside.map.states = ap (λ (ss : List GranuleState). length ss) (sym c.replace_run-was.ensures.states) ∙ c.replace_run-was.ensures.granules in
    let now : c.all_or_none-2.result ≡ cond (is_dirty_state c.args.state.now) c.args.run.now.count 0 = search rules in
    let dirty = recounts_dirty c.self.inside.map.states c.args.run.now c.args.state.now c.replace_run-was.result.dirty c.all_or_none-2.result c.self.invariant.few kept c.replace_run-was.ensures.dirty now in
    omega (arith, dirty.fits, c.self.invariant.dirty_is)

pub invariant_of-self : goal.invariant_of-self
invariant_of-self c =
    let kept : length (with_run c.self.inside.map.states c.args.run.now c.args.state.now) ≡ length c.self.inside.map.states = ap (λ (ss : List GranuleState). length ss) (sym c.replace_run-was.ensures.states) ∙ c.replace_run-was.ensures.granules in
    let free_now : c.all_or_none.result ≡ cond (is_free_state c.args.state.now) c.args.run.now.count 0 = search rules in
    let free = recounts_free c.self.inside.map.states c.args.run.now c.args.state.now c.replace_run-was.result.free c.all_or_none.result c.self.invariant.few kept c.replace_run-was.ensures.free free_now in
    let dirty_now : c.all_or_none-2.result ≡ cond (is_dirty_state c.args.state.now) c.args.run.now.count 0 = search rules in
    let dirty = recounts_dirty c.self.inside.map.states c.args.run.now c.args.state.now c.replace_run-was.result.dirty c.all_or_none-2.result c.self.invariant.few kept c.replace_run-was.ensures.dirty dirty_now in
    record {
      each = c.self.invariant.each ∙ sym c.replace_run-was.ensures.granules;
      few = omega (arith, c.replace_run-was.ensures.granules, c.self.invariant.few);
      spare = omega (arith, c.replace_run-was.ensures.spare, c.self.invariant.spare);
      free_is = rw c.replace_run-was.ensures.states (omega (arith, free.after, c.self.invariant.free_is, c.recounted-self-inside.ensures));
      dirty_is = rw c.replace_run-was.ensures.states (omega (arith, dirty.after, c.self.invariant.dirty_is, c.recounted-self-inside-2.ensures));
    }

pub returns-clause-changed : goal.returns-clause-changed
returns-clause-changed c =
    let old : CellTable = record { states = c.self.inside.map.states; unclean = flags_in c.self.inside.unclean.items } in
    let new : CellTable = record { states = c.replace_run-was.new.self.states; unclean = flags_in c.self.inside.unclean.items } in
    let within : c.args.run.now.first + c.args.run.now.count ≤ length c.self.inside.map.states =
    subst (λ (t : CellTable). c.args.run.now.first + c.args.run.now.count ≤ length t.states) (sym c.self.view_is) c.requires in
    subst (λ (t : CellTable). IsChanged (given c.args.state.now) c.args.run.now t new) c.self.view_is
    (states_changed old new c.args.run.now c.args.state.now within c.replace_run-was.ensures.granules c.replace_run-was.ensures.states refl)
