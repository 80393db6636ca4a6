use Rattle.script_text.proofs.PrintedParts.{handles_none, handles_some}
use Rattle.script_text.proofs.lists.write_handles.Goals as goal

pub returns-then-handles-eq0 : goal.returns-then-handles-eq0
returns-then-handles-eq0 c = handles_none c.args.out.now c.args.handles.now (c.if-handles-eq0.true)

pub returns : goal.returns
returns c = handles_some c.args.handles.now c.if-handles-eq0.false c.requires c.in_ok-write_key.ensures c.in_ok-write_all_handles.ensures
