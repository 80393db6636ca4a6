use Rattle.std.specs.Prelude.{codes}
use Rattle.explainer.{specs.Faults.config_text, proofs.Puts.puts_then}
use Rattle.explainer.proofs.faults.write_bad_config.Goals as goal

pub returns : goal.returns
returns c =
    puts_then c.args.out.now c.extend_from_slice.new.self c.write_config.new.out (codes "the configuration is refused for ") (config_text c.args.fault.now)
    (rw c.as_slice.ensures at c.in_ok-extend_from_slice.ensures.extended) c.in_ok-write_config.ensures
