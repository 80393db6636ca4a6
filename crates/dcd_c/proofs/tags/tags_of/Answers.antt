use Rattle.std.proofs.Common.{◌≡◌, ◌∙◌, [], ap, arith, drop, map, refl, rules, sym, take}
use Rattle.std.proofs.lemmas.{List.length-map, List.length-set, List.take_all, Option.get_or_from_slice_get, Option.slice_get_within}
use Rattle.tag_refs.specs.Tables.{tag_view}
use Rattle.dcd_c.proofs.{Filling.filled, Filling.put_behind, Filling.put_mapped, TagSteps.tag_kept, TagSteps.tags_count, TagSteps.tags_kept, TagSteps.tags_number}
use Rattle.dcd_c.specs.Lists.{tag_told}
use Rattle.dcd_c.proofs.tags.tags_of.Goals as goal

pub returns-then-count-room : goal.returns-then-count-room
returns-then-count-room c = (
  refl,
  search rules,
  tags_count c.args.device.now c.first_config-sound.ensures.alive c.control-kept.result.now c.control-kept.ensures.config c.control-kept.ensures.pasts c.tags-count.result c.tags-count.ensures,
)

pub tag-view-requires : goal.tag-view-requires
tag-view-requires c =
    let number = tags_number c.args.device.now c.first_config-sound.ensures.alive c.control-kept.result.now c.control-kept.ensures.config c.control-kept.ensures.pasts c.tags-count.result c.tags-count.ensures in
    omega (arith, number, c.loop-i-test.true)

pub loop-i-preserved : goal.loop-i-preserved
loop-i-preserved c =
    let shown = map tag_view c.control-kept.result.now.state.tags.entries in
    let view = c.tag-view.result in
    let i = c.loop-i.i in
    let is = tag_kept c.args.device.now c.first_config-sound.ensures.alive c.control-kept.result.now c.control-kept.ensures.config c.control-kept.ensures.pasts i view c.tag-view.ensures in
    record {
      put = put_mapped tag_told c.loop-i.room [] shown i _ i _ view (omega arith) (omega (arith, c.loop-i.invariant.size, c.if-count-room.false, c.loop-i-test.true))
          (slice_get_within shown i view is) c.loop-i.invariant.put (c.tag_told.ensures ∙ ap tag_told (sym (get_or_from_slice_get shown i view view is)));
      rest = put_behind c.loop-i.room c.args.room.now i _ _ (omega arith) c.loop-i.invariant.rest;
      size = length-set _ _ _ ∙ c.loop-i.invariant.size;
    }

pub returns : goal.returns
returns c = λ life leads.
    let d = c.args.device.now in
    let alive = c.first_config-sound.ensures.alive in
    let k = c.control-kept.result.now in
    let shown = map tag_view k.state.tags.entries in
    let n = c.tags-count.result in
    let number = tags_number d alive k c.control-kept.ensures.config c.control-kept.ensures.pasts n c.tags-count.ensures in
    let all = take_all n shown (omega (arith, number, length-map k.state.tags.entries tag_view)) in
    let end : c.loop-i.i ≡ n = omega (arith, c.loop-i.auto.i-end, c.loop-i-test.false) in (
      tags_count d alive k c.control-kept.ensures.config c.control-kept.ensures.pasts n c.tags-count.ensures life leads,
      filled _ c.args.room.now _ n
          (ap (λ i. take i c.loop-i.room) (sym end) ∙ c.loop-i.invariant.put ∙ ap (λ i. map tag_told (take i shown)) end ∙ ap (map tag_told) all
          ∙ tags_kept d alive k c.control-kept.ensures.config c.control-kept.ensures.pasts life leads)
          (ap (λ i. drop i c.loop-i.room) (sym end) ∙ c.loop-i.invariant.rest ∙ ap (λ i. drop i c.args.room.now) end),
    )
