-- The entries of a legal journal fit, so that they can be taken again.
use Rattle.std.{proofs.Common.List, specs.Prelude.All, specs.Prelude.IsTrue}
use Rattle.region_config.specs.Configurations.{Configuration}
use Rattle.journal_core.{specs.Entries.fits, specs.declared.entries.Entry.Entry, proofs.EachPlaces.Each-all}
use Rattle.device_plain.specs.device_rules.specs.Legal.{Legal, Meets}

pub all_fit : (c : Configuration) (journal : List Entry) → Legal c journal → All (λ (e : Entry). IsTrue (fits c.hosts e.actor e.act)) journal
all_fit c journal legal = Each-all (Meets c) (λ (e : Entry). IsTrue (fits c.hosts e.actor e.act)) (λ before e meets. meets.allowed) journal legal
