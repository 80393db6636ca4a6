use Rattle.std.proofs.Common.{arith}
use Rattle.script_text.proofs.PrintedPolicies.{other_flags_add}
use Rattle.script_text.proofs.policies.write_other_flags.Goals as goal

pub returns : goal.returns
returns c =
    other_flags_add c.args.flags c.requires (omega (arith, c.ranges.flags)) c.law_hexadecimal.ensures.reads c.law_hexadecimal.ensures.word
    c.in_ok-write_key.ensures c.in_ok-push.ensures.pushed c.in_ok-write_hexadecimal.ensures
