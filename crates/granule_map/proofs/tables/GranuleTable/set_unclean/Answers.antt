use Rattle.std.proofs.Common.{◌≡◌, ◌+◌, ◌≤◌, ◌∙◌, ◌++◌, take, drop, ℕ, List, length, refl, subst, sym, ap, arith, rules}
use Rattle.std.{proofs.Math.Seq.take-append_seam, specs.Vec.with_items}
use Rattle.granule_map.{proofs.Flags.flags_long, proofs.Flags.flags_with_part, proofs.TableRanges.flags_changed, specs.Parts.flags_in, specs.Parts.marked_unclean, specs.Parts.with_part}
use Rattle.granule_map.specs.Tables.{CellTable, IsChanged}
use Rattle.granule_map.proofs.tables.GranuleTable.set_unclean.Goals as goal

pub returns-clause-changed : goal.returns-clause-changed
returns-clause-changed c =
    let bytes = c.self.inside.unclean.items in
    let old : CellTable = record { states = c.self.inside.map.states; unclean = flags_in c.self.inside.unclean.items } in
    let new : CellTable = record { states = c.self.inside.map.states; unclean = flags_in (with_items c.self.inside.unclean c.fill_bytes.new.bytes).items } in
    let within : c.args.run.now.first + c.args.run.now.count ≤ length c.self.inside.map.states =
    subst (λ (t : CellTable). c.args.run.now.first + c.args.run.now.count ≤ length t.states) (sym c.self.view_is) c.requires in
    let all : c.self.inside.unclean.len ≡ length c.fill_bytes.new.bytes = search rules in
    let written : (with_items c.self.inside.unclean c.fill_bytes.new.bytes).items ≡ with_part c.args.run.now c.byte_of.result c.self.inside.unclean.items =
    ap (λ n. take n (c.fill_bytes.new.bytes ++ drop (length c.fill_bytes.new.bytes) c.self.inside.unclean.items)) all
    ∙ take-append_seam c.fill_bytes.new.bytes (drop (length c.fill_bytes.new.bytes) c.self.inside.unclean.items) ∙ c.fill_bytes.ensures
    ∙ ap (λ (bytes : List ℕ). with_part c.args.run.now c.byte_of.result bytes) c.as_mut_slice.ensures.value in
    subst (λ (t : CellTable). IsChanged (marked_unclean c.args.unclean) c.args.run.now t new) c.self.view_is
    (flags_changed old new c.args.run.now c.args.unclean (omega (arith, within, c.self.invariant.each, flags_long bytes)) refl
    (ap flags_in written ∙ flags_with_part c.args.run.now c.args.unclean c.byte_of.result bytes c.byte_of.ensures))
