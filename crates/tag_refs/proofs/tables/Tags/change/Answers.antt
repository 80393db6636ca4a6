use Rattle.std.{proofs.Common.◌≡◌, proofs.Common.sym, proofs.Common.◌∙◌, proofs.Common.ap, proofs.Common.is_some, proofs.Common.false, specs.Map.values_of}
use Rattle.tag_refs.proofs.{Changing.tag_stays, Stores.after_write, Stores.found_live, Tagged.none_changed, tables.Tags.change.Goals.in-Some, tables.Tags.change.Goals.in_default}
use Rattle.tag_refs.specs.{Changes.entry_changed, Tables.has_entry}
use Rattle.tag_refs.proofs.tables.Tags.change.Goals as goal

pub invariant_of-self : goal.invariant_of-self
invariant_of-self c = elim c.match-get_mut.branch [
  | in-Some w ↦
      let now = after_write c.args.tag.now (entry_changed c.args.change) (tag_stays c.args.change) _ c.self.invariant.0 c.get_mut.ensures.unique _ _
      w.in-Some.ensures.value w.apply.ensures _ (c.get_mut.follows.holds w.apply.new.self).0 in
      rw w.self-inside-is (now.as_stored, c.self.invariant.1)
  | in_default w ↦ rw (w.self-inside-is, c.get_mut.follows.holds-at-none) c.self.invariant
]

pub returns-clause-changed : goal.returns-clause-changed
returns-clause-changed c = elim c.match-get_mut.branch [
  | in-Some w ↦
      let now = after_write c.args.tag.now (entry_changed c.args.change) (tag_stays c.args.change) _ c.self.invariant.0 c.get_mut.ensures.unique _ _
      w.in-Some.ensures.value w.apply.ensures _ (c.get_mut.follows.holds w.apply.new.self).0 in
      rw (w.self-inside-is, ← c.self.view_is) now.entries
  | in_default w ↦
      let entries = c.self.inside.entries.entries in
      let none : has_entry c.args.tag.now (values_of entries) ≡ false = found_live c.args.tag.now entries c.self.invariant.0 ∙ ap is_some (sym w.in_default.ensures.value) in
      rw (w.self-inside-is, c.get_mut.follows.holds-at-none, ← c.self.view_is) (none_changed c.args.tag.now (entry_changed c.args.change) (values_of entries) none)
]
