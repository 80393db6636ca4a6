use Rattle.std.proofs.{Common.◌<◌, Common.length, Common.refl, lemmas.List.take_more, lemmas.Option.get_or_from_slice_get, lemmas.Option.slice_get_within}
use Rattle.tag_refs.proofs.Tagged.{absent_before}
use Rattle.tag_refs.proofs.tables.Tags.copy.Goals as goal

pub push-requires : goal.push-requires
push-requires c =
    rw (c.in_ok-copy.ensures, c.loop-i.invariant) (absent_before c.args.self.now.entries c.loop-i.i c.entry.result.now c.len-i-end.ensures.tags c.entry.ensures)

pub loop-i-preserved : goal.loop-i-preserved
loop-i-preserved c =
    let within : c.loop-i.i < length c.args.self.now.entries = slice_get_within c.args.self.now.entries c.loop-i.i c.entry.result.now c.entry.ensures in
    let e = c.entry.result.now in
    rw (c.in_ok-push.ensures.pushed, c.in_ok-copy.ensures, c.loop-i.invariant, take_more c.args.self.now.entries c.loop-i.i e within, get_or_from_slice_get c.args.self.now.entries c.loop-i.i e e c.entry.ensures) refl
