use Rattle.std.proofs.Common.{◌≡◌, ◌∙◌, ◌++◌, Bool, List, [], ◌∷◌, ap, append-nil, length, arith, map, refl, sym}
use Rattle.std.{specs.List.list_any, proofs.lemmas.Bool.eqb-true, proofs.lemmas.Result.on_ok_weaker}
use Rattle.cci_codec.specs.dcd_base.specs.declared.{capacity.Tag.Tag, ids.HostId.HostId}
use Rattle.extent_list.specs.ExtentLists.{has_extent_of}
use Rattle.journal_core.specs.declared.outcome.Effect.{Effect}
use Rattle.device_commands.specs.device_rules.specs.TagTable.{ending}
use Rattle.tag_refs.specs.declared.entries.TagEntry.{TagEntry}
use Rattle.control_core.proofs.host_steps.append_ended.Goals as goal

-- where no tag is open none ends
none_ends : (h : HostId) (held offered : Tag → Bool) (entries : List TagEntry) → length entries ≡ 0 → (tags : List Tag) → ending h held offered entries tags ≡ []
none_ends h held offered [] none [] = refl
none_ends h held offered [] none (t ∷ tags) = none_ends h held offered [] none tags
none_ends h held offered (e ∷ entries) none tags = absurd (omega (arith, none))

pub returns-then-is_empty : goal.returns-then-is_empty
returns-then-is_empty c =
    let l = c.args.lists.now in
    let entries = c.args.state.now.tags.entries in
    let old = c.args.effects.now in
    let none = none_ends c.args.host (λ t. has_extent_of t l.accepted) (λ t. list_any (has_extent_of t) l.offers) entries (eqb-true (length entries) 0 (sym c.is_empty.ensures ∙ c.if-is_empty.true)) c.args.tags.now in
    sym (append-nil old) ∙ ap (λ tags. old ++ map Effect.TagEnd tags) (sym none)

pub returns : goal.returns
returns c = on_ok_weaker c.append_ends.result (λ put. put ∙ ap (λ tags. c.args.effects.now ++ map Effect.TagEnd tags) (c.as_slice.ensures ∙ c.in_ok-ended.ensures)) c.append_ends.ensures
