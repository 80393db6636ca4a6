use Rattle.script_text.proofs.PrintedParts.{extents_adds}
use Rattle.script_text.proofs.lists.write_extents.Goals as goal

pub returns : goal.returns
returns c = extents_adds c.args.most c.args.extents.now c.requires.few c.in_ok-write_all_extents.ensures
