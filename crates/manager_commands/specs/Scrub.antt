-- What a turn of the sanitizer zeroes.
use Rattle.std.specs.Prelude.{◌≡◌, ℕ, List}
use Rattle.journal_core.specs.declared.{acts.Act.Act, acts.Reply.Reply, entries.Entry.Entry}
use Rattle.extent_list.specs.media_map.specs.region_config.specs.Configurations.{Configuration}
use Rattle.device_state.specs.{device_rules.specs.Answers.scrub_answer, device_rules.specs.Legal.Legal, StateAfter.IsStateAfter, declared.state.State.State}
use Rattle.manager_commands.specs.declared.scrub.Zeroed.{Zeroed}

-- So many granules are zeroed as a scrub of at most so many zeroes, by every legal journal that leads to what is kept.
abbrev pub IsZeroed : Configuration → State → ℕ → Zeroed → Type 0
IsZeroed c s most z = (before : List Entry) → Legal c before → IsStateAfter c before s →
    (Reply.Scrubbed z.granules, z.changes) ≡ scrub_answer c before (Act.Scrub most)
