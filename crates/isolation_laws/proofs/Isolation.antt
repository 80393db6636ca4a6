-- Every legal journal is isolated, where nothing of one host is left for another.
use Rattle.std.proofs.Common.{List}
use Rattle.journal_core.specs.declared.entries.Entry.{Entry}
use Rattle.extent_list.specs.media_map.specs.region_config.specs.{Configurations.Configuration, Soundness.IsSound}
use Rattle.device_rules.specs.Legal.{Legal}
use Rattle.isolation_laws.{specs.Laws.Clean, specs.Solo.Isolated, proofs.HostReplies.isolated_with, proofs.OwnWords.own_words}

pub isolated_by : (c : Configuration) → IsSound c → ((journal : List Entry) → Legal c journal → Clean c journal) → (journal : List Entry) → Legal c journal → Isolated c journal
isolated_by c sound cleaned = isolated_with c sound (λ journal legal h host d p at private zeroed held. own_words c sound cleaned h host d p at private zeroed journal legal held)
