-- The journal of a device is a function of its configuration and of what it is sent.
use Rattle.std.proofs.Common.{◌≡◌, ℕ, List, [], ◌∷◌, ◌++◌, refl, sym, ap, ◌∙◌, subst}
use Rattle.std.specs.{Prelude.map, Prelude.Option, Prelude.Some, Prelude.None, List.AllByRecursion}
use Rattle.dcd_base.specs.declared.steps.Stamp.{Stamp}
use Rattle.journal_core.specs.{declared.acts.Reply.Reply, declared.outcome.Effect.Effect, declared.entries.Entry.Entry, Entries.EachFrom}
use Rattle.region_config.specs.Configurations.{Configuration}
use Rattle.device_plain.specs.{device_rules.specs.Legal.Meets, device_rules.specs.Legal.right_answer, Devices.Plain, Numbering.IsCounted, Numbering.stamp_behind}
use Rattle.report.specs.script_codec.specs.Covering.{pass_of}
use Rattle.tunnel_fabric.specs.{declared.fabric_scripts.FabricScript.FabricScript, Sending.DidAllSent, Sending.HasOnePass, Sending.Sent, Sending.sent, Sending.sent_of, Worlds.SameJournals}

module _ (c : Configuration) where
  -- the one entry behind these that is of what was sent
  abbrev entry_behind : List Entry → Sent → Entry
  entry_behind before s = record {
    pass = pass_of c.hosts 1 s.actor 0;
    line = s.line;
    actor = s.actor;
    act = s.act;
    reply = (right_answer c before s.actor s.act).0;
    effects = (right_answer c before s.actor s.act).1;
    stamp = stamp_behind before s.act;
  }

  abbrev journal_behind : List Entry → List Sent → List Entry
  journal_behind before [] = []
  journal_behind before (s ∷ more) = entry_behind before s ∷ journal_behind (before ++ entry_behind before s ∷ []) more

  entry_is : (before : List Entry) (e : Entry) → Meets c before e → IsCounted before e → HasOnePass c.hosts e → e ≡ entry_behind before (sent_of e)
  entry_is before e meets counted pass =
      ap (λ p. with_parts p e.reply e.effects e.stamp) pass
      ∙ ap (λ r. with_parts (pass_of c.hosts 1 e.actor 0) r e.effects e.stamp) meets.reply
      ∙ ap (λ xs. with_parts (pass_of c.hosts 1 e.actor 0) (right_answer c before e.actor e.act).0 xs e.stamp) meets.effects
      ∙ ap (λ s. with_parts (pass_of c.hosts 1 e.actor 0) (right_answer c before e.actor e.act).0 (right_answer c before e.actor e.act).1 s) counted
    where
      with_parts : ℕ → Reply → List Effect → Stamp → Entry
      with_parts p r xs s = record { pass = p; line = e.line; actor = e.actor; act = e.act; reply = r; effects = xs; stamp = s }

  journal_is : (before journal : List Entry) → EachFrom before (Meets c) journal → EachFrom before IsCounted journal → AllByRecursion (HasOnePass c.hosts) journal → journal ≡ journal_behind before (map sent_of journal)
  journal_is before [] legal counted passes = refl
  journal_is before (e ∷ journal) legal counted passes =
      let first = entry_is before e legal.0 counted.0 passes.0 in
      let rest = journal_is (before ++ e ∷ []) journal legal.1 counted.1 passes.1 in
      ap (λ tail. e ∷ tail) rest ∙ ap (λ x. x ∷ journal_behind (before ++ x ∷ []) (map sent_of journal)) first

  -- the journal of the device is the one of what it was sent
  sent_alone : (f : FabricScript) (number : ℕ) (device : Plain) → device.config ≡ c → DidAllSent f number device → device.journal ≡ journal_behind [] (sent f number)
  sent_alone f number device same did =
      journal_is [] device.journal (subst (λ k. EachFrom [] (Meets k) device.journal) same did.legal) did.counted
      (subst (λ k. AllByRecursion (HasOnePass k.hosts) device.journal) same did.passes)
      ∙ ap (journal_behind []) did.entries

-- the configuration, if there is one
abbrev or_else : Configuration → Option Configuration → Configuration
or_else c None = c
or_else c (Some k) = k

pub same_journals : (left right : FabricScript) (number : ℕ) → SameJournals left right number
same_journals left right number configs sents one other did too =
    let same : Some other.config ≡ Some one.config = sym too.config ∙ sym configs ∙ did.config in
    sent_alone one.config left number one refl did
    ∙ ap (journal_behind one.config []) sents
    ∙ sym (sent_alone one.config right number other (ap (or_else one.config) same) too)
