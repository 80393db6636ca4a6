use Rattle.std.proofs.Common.{◌≡◌, subst}
use Rattle.journal_core.specs.Entries.{effects}
use Rattle.device_commands.specs.device_rules.specs.Adding.{is_free_now, present, region_free_blocks}
use Rattle.control_core.{specs.Steps.Controlled, proofs.Entering.past_held}
use Rattle.control_core.proofs.control.Control.free_blocks.Goals as goal

pub returns : goal.returns
returns c = subst (λ (d : Controlled). c.free_blocks.result ≡ region_free_blocks (present d.config (effects d.entries)) (is_free_now d.config (effects d.entries)) c.args.region) c.self.view_is
    (c.free_blocks.ensures c.self.inside.entries.entries (past_held c.self.inside.live.config c.self.inside.entries.entries c.self.inside.live.state c.self.invariant))
