-- All acts of a plan leave what they are to leave, and so a plan without a fault leaves what was demanded.
use Rattle.std.proofs.Common.{◌≡◌, List, None}
use Rattle.region_config.specs.{Configurations.Configuration, Soundness.IsSound}
use Rattle.journal_core.specs.{Entries.effects, declared.entries.Entry.Entry}
use Rattle.isolation_laws.specs.device_rules.specs.Legal.{Legal}
use Rattle.plan_rules.proofs.{Acts.clearing_keeps, Acts.refusal_leaves, Acts.scrub_leaves, Meeting.plan_meets_by, PartsGivenBack.giving_leaves, Providing.providing_leaves}
use Rattle.plan_rules.{proofs.RegionsEmptied.emptying_leaves, specs.ActsLeft.ActsLeaveAll, specs.Holding.stepped, specs.Listing.planned, specs.Meeting.MeetsDemands, specs.Planning.plan_fault}
use Rattle.plan_rules.specs.declared.demands.Demands.{Demands}

pub acts_leave : (c : Configuration) → IsSound c → ActsLeaveAll c
acts_leave c sound journal legal = record {
  clears = clearing_keeps c journal;
  refuses = λ h host held some. refusal_leaves c sound journal legal h held some;
  empties = λ h r host known some none. emptying_leaves c sound journal legal h host r known some none;
  gives = λ x n plain some few held none. giving_leaves c sound journal legal x n plain held;
  scrubs = scrub_leaves c journal;
  provides = λ x n plain some fits offers held none. providing_leaves c sound journal legal x n plain fits (none.0, tt) offers held;
}

pub plan_meets : (c : Configuration) → IsSound c → (journal : List Entry) → Legal c journal → (q : Demands) → plan_fault c journal q ≡ None →
    MeetsDemands c (effects journal) (effects (stepped c journal (planned c journal q))) q
plan_meets c sound = plan_meets_by c sound (acts_leave c sound)
