-- What was gathered in memory.
use Rattle.std.proofs.Common.{◌≡◌, ℕ, ◌≤◌, List, [], length, drop, Some, ap, sym, ◌∙◌, append-nil, length-append, arith}
use Rattle.std.proofs.lemmas.Option.{same_Some}
use Rattle.dcd_base.specs.Streams.{Passes}
use Rattle.region_config.specs.Configurations.{Configuration}
use Rattle.journal_core.specs.declared.entries.Entry.{Entry}
use Rattle.report.specs.Texts.{first_line, summary}
use Rattle.pool_planner.specs.PlanPrinting.{plan_state}

-- what was gathered in memory is the whole text
pub all_gathered : (new text : List ℕ) → Passes (Some []) (Some new) [] text → new ≡ text
all_gathered new text passes = same_Some _ _ passes.took ∙ sym (passes.parts ∙ append-nil passes.sent)

-- a summary is its first line, of six bytes, and the state
pub state_within : (bytes : List ℕ) (c : Configuration) (journal : List Entry) → bytes ≡ summary c journal → 6 ≤ length bytes
unfolding summary first_line
state_within bytes c journal is = omega (arith, ap length is, length-append first_line (plan_state c journal))

pub state_behind : (bytes : List ℕ) (c : Configuration) (journal : List Entry) → bytes ≡ summary c journal → drop 6 bytes ≡ plan_state c journal
unfolding summary first_line
state_behind bytes c journal is = ap (drop 6) is
