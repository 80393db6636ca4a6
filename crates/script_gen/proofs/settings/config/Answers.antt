use Rattle.std.proofs.Common.{◌≡◌, Some, None, sym, ◌∙◌, rules}
use Rattle.script_gen.proofs.Configured.{faultless}
use Rattle.script_gen.proofs.settings.config.Goals as goal

pub unreachable-requires : goal.unreachable-requires
unreachable-requires c =
    let e : Some c.in-Err.field-0 ≡ None = sym (c.in-Err.ensures (search rules)) ∙ faultless in cc
