-- What each act of a plan leaves behind a legal journal.
use Rattle.std.proofs.Common.{◌≡◌, ℕ, ◌<◌, Bool, true, false, ◌==◌, List, [], ◌++◌, length, Option, Some, None, refl, sym, subst, arith}
use Rattle.std.specs.{Prelude.if◌then◌else◌, Prelude.slice_index, declared.result.Result.TheVariants.Ok, declared.result.Result.TheVariants.Err}
use Rattle.dcd_base.specs.{EventCommands.clear_length, EventCommands.handles_in, Layouts.spelling, Payloads.has_flag, declared.faults.PayloadFault.PayloadFault, declared.ids.HostId.HostId}
use Rattle.dcd_base.specs.declared.steps.{Actor.Actor, LogId.LogId}
use Rattle.dcd_codes.specs.declared.rules.Rule.{Rule}
use Rattle.host_payloads.specs.{HostPayloads.clear_asked, HostPayloads.host_fields, HostPayloads.host_request, declared.requests.HostRequest.HostRequest}
use Rattle.region_config.specs.{Configurations.Configuration, Soundness.IsSound}
use Rattle.journal_core.{specs.Entries.effects, specs.declared.acts.Act.Act, specs.declared.outcome.HeldKind.HeldKind, specs.declared.entries.Entry.Entry, proofs.JournalSteps.effects-push}
use Rattle.isolation_laws.{proofs.RemovalViews.no_block as leaves_blocks, specs.device_rules.proofs.EffectKinds.clear_passes}
use Rattle.isolation_laws.specs.device_rules.specs.{Answers.effects_with, Answers.host_outcome, Answers.host_result, Answers.host_rule, Answers.unless, Hosts.held_of, Hosts.offers_of, Legal.Legal}
use Rattle.isolation_laws.specs.device_rules.specs.{Outcomes.Outcome, Views.View, Views.view_of}
use Rattle.plan_rules.proofs.{Heard.response_heard, Keeping.blocks_over, Keeping.host_kept, Keeping.leaves_host, Keeping.outcome_blocks, Keeping.outcome_host_kept}
use Rattle.plan_rules.{proofs.LettingGo.lets_offers_go, proofs.LettingGo.scrubs_keep, specs.ActsLeft.OldestOfferGoes, specs.ActsLeft.journal_behind, specs.Holding.Step, specs.Holding.entry_of_step}
use Rattle.plan_rules.specs.{Kept.KeepsHosts, Kept.effects_behind, Listing.by_host}

-- the effects behind an act are those before it and those of its answer
pub behind_is : (c : Configuration) (journal : List Entry) (s : Step) → effects (journal_behind c journal s) ≡ effects_behind c journal s.0 s.1
behind_is c journal s = effects-push journal (entry_of_step c journal s)

-- ---- a log is cleared: whatever the message reads as, no list changes

module _ (c : Configuration) (journal : List Entry) (h : HostId) where
  keeps_nothing : KeepsHosts c (effects journal) (effects journal ++ [])
  keeps_nothing = record { hosts = λ k. host_kept c k (effects journal) [] refl; blocks = λ r. blocks_over c r (effects journal) [] refl }

  cleared_by : (number : ℕ) (all : Bool) (handles : List ℕ) (rule : Option Rule) →
      KeepsHosts c (effects journal) (effects journal ++ effects_with c (effects journal) [] (unless rule (host_outcome c h (view_of c h journal) (HostRequest.ClearEvents number all handles))))
  cleared_by number all handles (Some rule) = keeps_nothing
  cleared_by number all handles None =
      let v : View = view_of c h journal in
      let o : Outcome = host_outcome c h v (HostRequest.ClearEvents number all handles) in
      record {
        hosts = λ k. outcome_host_kept c k (effects journal) o (clear_passes (leaves_host k) (LogId.Host h) (record { cleared = λ n. refl; reset = refl }) number v.log all handles);
        blocks = λ r. outcome_blocks c r (effects journal) o (clear_passes leaves_blocks (LogId.Host h) (record { cleared = λ n. refl; reset = refl }) number v.log all handles);
      }

  cleared_as : (sizes : Bool) (number : ℕ) (all : Bool) (handles : List ℕ) (fault : PayloadFault) →
      KeepsHosts c (effects journal) (effects journal ++ effects_with c (effects journal) [] (host_result c h (view_of c h journal) (if sizes then Ok (HostRequest.ClearEvents number all handles) else Err fault)))
  cleared_as true number all handles fault = cleared_by number all handles (host_rule c h (view_of c h journal) (HostRequest.ClearEvents number all handles))
  cleared_as false number all handles fault = keeps_nothing

  pub clearing_keeps : (handles : List ℕ) → KeepsHosts c (effects journal) (effects (journal_behind c journal (by_host h (HostRequest.ClearEvents 4 false handles))))
  unfolding host_request clear_asked
  clearing_keeps handles =
      let bytes : List ℕ = spelling (host_fields (HostRequest.ClearEvents 4 false handles)) in
      subst (KeepsHosts c (effects journal)) (sym (behind_is c journal (by_host h (HostRequest.ClearEvents 4 false handles))))
      (cleared_as (length bytes == clear_length bytes) (slice_index bytes 0) (has_flag bytes 1) (handles_in bytes) (PayloadFault.WrongLength (clear_length bytes) (length bytes)))

-- ---- an offer is refused

pub refusal_leaves : (c : Configuration) → IsSound c → (journal : List Entry) → Legal c journal → (h : HostId) → held_of h HeldKind.Responses (effects journal) ≡ [] → 0 < length (offers_of h (effects journal)) →
    OldestOfferGoes c h (effects journal) (effects (journal_behind c journal (by_host h (HostRequest.AddResponse false []))))
refusal_leaves c sound journal legal h held some =
    let left = lets_offers_go c sound journal legal h (record { tag = 0; opcode = 0x4802; payload = spelling (host_fields (HostRequest.AddResponse false [])) }) held some (response_heard [] (omega arith) tt) in
    subst (OldestOfferGoes c h (effects journal)) (sym (behind_is c journal (by_host h (HostRequest.AddResponse false []))))
    (record { keeps = left.keeps; accepted = left.accepted; offers = left.offers })

-- ---- a scrub

pub scrub_leaves : (c : Configuration) (journal : List Entry) (n : ℕ) → KeepsHosts c (effects journal) (effects (journal_behind c journal (Actor.Sanitizer, Act.Scrub n)))
scrub_leaves c journal n = subst (KeepsHosts c (effects journal)) (sym (behind_is c journal (Actor.Sanitizer, Act.Scrub n))) (scrubs_keep c journal n).keeps
