use Rattle.std.proofs.Common.{arith}
use Rattle.script_gen.{specs.Generated.give_back_line, specs.Generated.give_back_lines, proofs.Stepping.puts_one_more}
use Rattle.script_gen.proofs.rounds.append_give_backs.Goals as goal

pub loop-host-preserved : goal.loop-host-preserved
loop-host-preserved c =
    puts_one_more (give_back_line c.args.round) c.loop-host.host c.args.lines.now.items c.loop-host.lines.items c.append_line.new.lines.items _ c.loop-host.invariant c.in_ok-give_back.ensures c.in_ok-append_line.ensures

pub returns : goal.returns
unfolding give_back_lines
returns c = grind (arith, c.loop-host.invariant)
