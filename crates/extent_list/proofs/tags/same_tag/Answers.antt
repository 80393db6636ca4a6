use Rattle.std.proofs.Common.{rules, sym, ◌∙◌}
use Rattle.extent_list.proofs.TagHalves.{IsTagBytes, second_decides}
use Rattle.extent_list.proofs.tags.same_tag.Goals as goal

pub returns-then-number_of : goal.returns-then-number_of
returns-then-number_of c =
    let tag : IsTagBytes c.args.tag.now.0 = record { sixteen = search rules; small = c.number_of.ensures.bytes } in
    let other : IsTagBytes c.args.other.now.0 = record { sixteen = search rules; small = c.number_of-2.ensures.bytes } in
    rw (c.number_of-then-number_of.ensures.value, c.number_of-then-number_of-2.ensures.value)
    (second_decides c.args.tag.now.0 c.args.other.now.0 tag other (sym c.number_of.ensures.value ∙ c.if-number_of.true ∙ c.number_of-2.ensures.value))
