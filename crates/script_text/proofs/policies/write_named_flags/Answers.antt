use Rattle.std.proofs.Common.{◌++◌, ap, ◌∙◌}
use Rattle.text_lines.specs.Words.{spaced}
use Rattle.script_text.proofs.PrintedPolicies.{is_named, named_flags_add}
use Rattle.script_text.proofs.policies.write_named_flags.Goals as goal

pub release_policy_name-requires : goal.release_policy_name-requires
release_policy_name-requires c = (is_named c.args.flags c.requires).policy

pub returns : goal.returns
returns c =
    named_flags_add c.args.flags c.requires (c.in_ok-write_word.ensures ∙ ap (λ name. c.args.out.now ++ spaced name) c.release_policy_name.ensures)
    c.in_ok-write_flag.ensures c.in_ok-write_flag-2.ensures
