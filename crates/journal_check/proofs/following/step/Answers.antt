use Rattle.std.proofs.{Common.◌≡◌, Common.◌-◌, Common.◌<◌, Common.length, Common.Some, Common.ap, Common.arith, lemmas.Option.slice_get_within}
use Rattle.std.specs.Prelude.{slice_get}
use Rattle.report.specs.script_codec.specs.declared.script_line.Line.{Line}
use Rattle.journal_check.proofs.{Due.line_read, Due.mark_read, Passing.line_fits, Stepping.mark_no_act, Stepping.stepped}
use Rattle.journal_check.proofs.following.step.Goals as goal

pub enter-requires : goal.enter-requires
enter-requires c =
    let s = c.args.script.now in
    let within : c.args.number - 1 < length c.as_slice.result.now =
    omega (arith, slice_get_within s.lines (c.args.number - 1) (Line.Do c.requires.line.actor c.requires.line.lane c.requires.line.act) c.requires.line.line, ap length c.as_slice.ensures) in
    let found : slice_get s.lines (c.args.number - 1) ≡ Some (Line.Do c.in-Do.actor c.in-Do.lane c.in-Do.act) =
    line_read s c.as_slice.result.now (c.args.number - 1) c.index-as_slice-number.result c.in-Do.actor c.in-Do.lane c.in-Do.act c.as_slice.ensures within c.index-as_slice-number.is c.in-Do.is in
    rw (c.requires.config, c.in_ok-copy-in-Do.ensures) (line_fits s (c.args.number - 1) c.in-Do.actor c.in-Do.lane c.in-Do.act c.requires.sound found)

pub unreachable-requires : goal.unreachable-requires
unreachable-requires c =
    let s = c.args.script.now in
    let within : c.args.number - 1 < length c.as_slice.result.now =
    omega (arith, slice_get_within s.lines (c.args.number - 1) (Line.Do c.requires.line.actor c.requires.line.lane c.requires.line.act) c.requires.line.line, ap length c.as_slice.ensures) in
    mark_no_act s c.args.number c.args.pass c.requires.line
    (mark_read s c.as_slice.result.now (c.args.number - 1) c.index-as_slice-number.result c.as_slice.ensures within c.index-as_slice-number.is c.in-Mark.is)

pub returns : goal.returns
returns c =
    let s = c.args.script.now in
    let within : c.args.number - 1 < length c.as_slice.result.now =
    omega (arith, slice_get_within s.lines (c.args.number - 1) (Line.Do c.requires.line.actor c.requires.line.lane c.requires.line.act) c.requires.line.line, ap length c.as_slice.ensures) in
    let found : slice_get s.lines (c.args.number - 1) ≡ Some (Line.Do c.in-Do.actor c.in-Do.lane c.in-Do.act) =
    line_read s c.as_slice.result.now (c.args.number - 1) c.index-as_slice-number.result c.in-Do.actor c.in-Do.lane c.in-Do.act c.as_slice.ensures within c.index-as_slice-number.is c.in-Do.is in
    stepped s c.args.device.now c.enter.new.self c.args.number c.args.pass c.in-Do.actor c.in-Do.lane c.in-Do.act c.in_ok-copy-in-Do.field-0 c.enter.result c.requires.line found
    c.in_ok-copy-in-Do.ensures c.enter.ensures.entered
