-- A turn of the sanitizer is the answer to a scrub.
use Rattle.std.proofs.Common.{ℕ, List, ap}
use Rattle.cci_codec.specs.dcd_base.specs.declared.steps.Actor.{Actor}
use Rattle.extent_list.specs.media_map.specs.region_config.specs.Configurations.{Configuration}
use Rattle.journal_core.specs.declared.{acts.Act.Act, acts.Reply.Reply, outcome.Effect.Effect}
use Rattle.control_core.specs.Deciding.{IsDecided}
use Rattle.manager_commands.specs.{device_state.specs.declared.state.State.State, Scrub.IsZeroed, declared.scrub.Zeroed.Zeroed}

-- A scrub comes to this.
pub is_scrub : (c : Configuration) (s : State) (n : ℕ) (z : Zeroed) → IsZeroed c s n z →
    IsDecided c s Actor.Sanitizer (Act.Scrub n) (record { reply = Reply.Scrubbed z.granules; effects = z.changes })
is_scrub c s n z is = λ before legal kept.
    let answers = is before legal kept in
    record {
      reply = ap (λ (p : Reply × List Effect). p.0) answers;
      effects = ap (λ (p : Reply × List Effect). p.1) answers;
      short = tt;
    }
