-- The text of a run of the script that the input is, and the summary of a generated one.
use Rattle.std.{proofs.Common.◌≡◌, proofs.Common.ℕ, proofs.Common.List, proofs.Common.ap, proofs.Common.subst, specs.Prelude.◌<◌, specs.Prelude.AllPairs}
use Rattle.region_config.specs.Configurations.{Configuration}
use Rattle.journal_core.specs.{declared.entries.Entry.Entry, Merging.merged}
use Rattle.device_plain.specs.{device_rules.specs.Legal.Exclusive, device_rules.specs.Legal.Legal, isolation_laws.specs.Solo.Isolated}
use Rattle.report.specs.Texts.{summary, text}
use Rattle.script_gen.specs.{script_codec.specs.Covering.Covers, script_codec.specs.declared.scripts.Script.Script, Generated.generated}
use Rattle.script_runner.specs.{Fronts.RanAll, Fronts.RanScript, Planning.IsSummaryOf, Planning.IsTextOf, Running.IsLawful, Running.IsScriptRun, Threads.RanInThreads, Threads.RanInput}
use Rattle.script_runner.specs.declared.words.Mode.{Mode}

-- ---- on the serial device

serial : (s : Script) (config : Configuration) (journal : List Entry) → config ≡ s.config → IsLawful config journal → Covers journal s
    → AllPairs (λ (e f : Entry). e.line < f.line) journal → IsScriptRun Mode.Serial s journal
serial s config journal is lawful covers rising = record {
  legal = subst (λ (k : Configuration). Legal k journal) is lawful.legal;
  exclusive = subst (λ (k : Configuration). Exclusive k journal) is lawful.exclusive;
  numbered = lawful.numbered;
  isolated = subst (λ (k : Configuration). Isolated k journal) is lawful.isolated;
  covers = covers;
  rising = rising;
}

pub text_of_input : (input : List ℕ) (config : Configuration) (journal : List Entry) → RanScript input config journal → IsLawful config journal
    → IsTextOf Mode.Serial input (text config journal)
text_of_input input config journal ran lawful = record {
  script = ran.script;
  journal = journal;
  reads = ran.reads;
  runs = serial ran.script config journal ran.config_is lawful ran.covers ran.rising;
  is = ap (λ k. text k journal) ran.config_is;
}

pub summary_of_seed : (seed : ℕ) (config : Configuration) (journal : List Entry) → RanAll (generated seed) config journal → IsLawful config journal
    → IsSummaryOf Mode.Serial seed (summary config journal)
summary_of_seed seed config journal ran lawful = record {
  journal = journal;
  runs = serial (generated seed) config journal ran.config_is lawful ran.covers ran.rising;
  is = ap (λ k. summary k journal) ran.config_is;
}

-- ---- in threads

in_threads : (s : Script) (config : Configuration) (entries : List Entry) (shards : List (List Entry)) → RanInThreads s config entries shards
    → IsScriptRun Mode.Threads s (merged entries shards)
in_threads s config entries shards ran = record {
  legal = ran.runs.legal;
  exclusive = ran.runs.exclusive;
  numbered = ran.runs.numbered;
  isolated = ran.runs.isolated;
  covers = ran.runs.covers;
  rising = tt;
}

pub text_of_threads : (input : List ℕ) (config : Configuration) (entries : List Entry) (shards : List (List Entry)) → RanInput input config entries shards
    → IsTextOf Mode.Threads input (text config (merged entries shards))
text_of_threads input config entries shards ran = record {
  script = ran.script;
  journal = merged entries shards;
  reads = ran.reads;
  runs = in_threads ran.script config entries shards ran.ran;
  is = ap (λ k. text k (merged entries shards)) ran.ran.config_is;
}

pub summary_of_threads : (seed : ℕ) (config : Configuration) (entries : List Entry) (shards : List (List Entry)) → RanInThreads (generated seed) config entries shards
    → IsSummaryOf Mode.Threads seed (summary config (merged entries shards))
summary_of_threads seed config entries shards ran = record {
  journal = merged entries shards;
  runs = in_threads (generated seed) config entries shards ran;
  is = ap (λ k. summary k (merged entries shards)) ran.config_is;
}
