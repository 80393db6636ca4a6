use Rattle.std.proofs.Common.{◌≡◌, List, [], ◌∷◌, length, arith, refl, sym, ◌∙◌, ap, None}
use Rattle.std.{specs.Map.lookup, proofs.lemmas.Bool.eqb-true}
use Rattle.dcd_base.specs.{declared.capacity.Tag.Tag, Words.same_tag}
use Rattle.tag_refs.{proofs.Tagged.lookup_stored, specs.Tables.TagTable, specs.Tables.entry_with, specs.declared.entries.TagEntry.TagEntry}
use Rattle.tag_refs.proofs.tables.Tags.find.Goals as goal

pub returns : goal.returns
returns c =
    c.get.ensures.value ∙ ap (lookup (same_tag c.args.tag.now)) c.self.invariant.0
    ∙ rw (ap (λ (t : TagTable). t.entries) c.self.view_is) (lookup_stored c.args.tag.now _)

-- where no tag is live none is found
none_found : (t : Tag) (entries : List TagEntry) → length entries ≡ 0 → None ≡ entry_with t entries
none_found t [] none = refl
none_found t (e ∷ entries) none = absurd (omega (arith, none))

pub returns-then-is_empty : goal.returns-then-is_empty
returns-then-is_empty c =
    let entries = c.args.self.now.entries in
    none_found c.args.tag.now entries (eqb-true (length entries) 0 (sym c.is_empty.ensures ∙ c.if-is_empty.true))
