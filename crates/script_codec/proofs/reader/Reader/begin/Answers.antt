use Rattle.std.proofs.Common.{subst, sym}
use Rattle.script_codec.specs.{LineByLine.Begins, Lines.lines_from, Reading.most_lines}
use Rattle.script_codec.proofs.reader.Reader.begin.Goals as goal

pub returns : goal.returns
returns c =
    subst (λ h. Begins c.args.bytes.now c.in_ok-head.head (record { hosts = h; lanes = c.in_ok-head.head.lanes; left = most_lines; rest = lines_from most_lines h c.in_ok-head.head.lanes c.args.bytes.now c.in_ok-head.place }))
    (sym c.hosts-hosts.ensures.value) c.in_ok-head.ensures.begun
