use Rattle.script_text.proofs.PrintedScripts.{lines_then, one_line, printed_says, printed_text}
use Rattle.script_text.proofs.printing.print.Goals as goal

pub returns-clause-text : goal.returns-clause-text
returns-clause-text c =
    printed_text c.args.script.now c.args.out.now c.write_hosts.new.out c.write_lines.new.out
    (lines_then (one_line c.in_ok-write_start.ensures) (lines_then c.in_ok-write_regions.ensures c.in_ok-write_hosts.ensures))
    (rw (c.hosts.ensures.value, c.as_slice.ensures) at c.in_ok-write_lines.ensures)

pub returns-clause-says : goal.returns-clause-says
returns-clause-says c =
    printed_says c.args.script.now c.args.out.now c.write_hosts.new.out c.write_lines.new.out c.requires
    (lines_then (one_line c.in_ok-write_start.ensures) (lines_then c.in_ok-write_regions.ensures c.in_ok-write_hosts.ensures))
    (rw (c.hosts.ensures.value, c.as_slice.ensures) at c.in_ok-write_lines.ensures)
