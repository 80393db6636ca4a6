-- Acts one after another: the journal behind them, that it is legal, and that none of them breaks a rule.
use Rattle.std.proofs.Common.{◌≡◌, ℕ, suc, ◌<◌, List, [], ◌∷◌, ◌++◌, length, None, refl, arith}
use Rattle.std.proofs.lemmas.Bool.{lt-ltb}
use Rattle.dcd_base.specs.declared.{ids.HostId.HostId, steps.Actor.Actor}
use Rattle.fm_payloads.specs.declared.requests.FmRequest.{FmRequest}
use Rattle.host_payloads.specs.declared.requests.HostRequest.{HostRequest}
use Rattle.region_config.specs.Configurations.{Configuration}
use Rattle.journal_core.{specs.declared.acts.Act.Act, specs.declared.entries.Entry.Entry, proofs.EachSteps.Each-push}
use Rattle.isolation_laws.specs.device_rules.specs.Legal.{Legal, Meets}
use Rattle.plan_rules.{proofs.Succeeding.none_broken, specs.ActsLeft.Unbroken, specs.ActsLeft.journal_behind, specs.Holding.Step, specs.Holding.entry_of_step, specs.Holding.stepped}
use Rattle.plan_rules.specs.{Listing.by_host, Listing.by_manager, Planning.broken_at, Planning.refused_in}

module _ (c : Configuration) where
  -- ---- two lists of acts

  pub stepped-append : (journal : List Entry) (first more : List Step) → stepped c journal (first ++ more) ≡ stepped c (stepped c journal first) more
  stepped-append journal [] more = refl
  stepped-append journal (s ∷ first) more = stepped-append (journal_behind c journal s) first more

  pub unbroken_parts : (journal : List Entry) (first more : List Step) → Unbroken c journal (first ++ more) → Unbroken c journal first × Unbroken c (stepped c journal first) more
  unbroken_parts journal [] more each = (tt, each)
  unbroken_parts journal (s ∷ first) more each = let rest = unbroken_parts (journal_behind c journal s) first more each.1 in ((each.0, rest.0), rest.1)

  -- ---- one more act

  module _ (journal : List Entry) (legal : Legal c journal) where
    pub host_legal : (h : HostId) → h < c.hosts → (q : HostRequest) → Legal c (journal_behind c journal (by_host h q))
    host_legal h host q = Each-push (Meets c) journal (entry_of_step c journal (by_host h q)) legal (record { allowed = lt-ltb h c.hosts host; reply = refl; effects = refl })

    pub manager_legal : (q : FmRequest) → Legal c (journal_behind c journal (by_manager q))
    manager_legal q = Each-push (Meets c) journal (entry_of_step c journal (by_manager q)) legal (record { allowed = refl; reply = refl; effects = refl })

    pub scrub_legal : (n : ℕ) → Legal c (journal_behind c journal (Actor.Sanitizer, Act.Scrub n))
    scrub_legal n = Each-push (Meets c) journal (entry_of_step c journal (Actor.Sanitizer, Act.Scrub n)) legal (record { allowed = refl; reply = refl; effects = refl })

  -- ---- no act is refused

  unbroken_by : (journal : List Entry) (acts : List Step) → ((k : ℕ) → k < length acts → broken_at c journal acts k ≡ None) → Unbroken c journal acts
  unbroken_by journal [] none = tt
  unbroken_by journal (s ∷ acts) none = (none 0 (omega arith), unbroken_by (journal_behind c journal s) acts (λ k below. none (suc k) (omega (arith, below))))

  pub none_refused : (journal : List Entry) (acts : List Step) → refused_in c journal acts ≡ None → Unbroken c journal acts
  none_refused journal acts none = unbroken_by journal acts (none_broken c journal acts none)
