-- What a command comes to that breaks no rule, and how its message is read.
use Rattle.std.specs.{Prelude.◌≡◌, Prelude.◌<◌, Prelude.List, Prelude.◌++◌, declared.result.Result.Result, declared.result.Result.TheVariants.Err}
use Rattle.cci_codec.specs.{declared.messages.Request.Request, dcd_base.specs.declared.ids.HostId.HostId, dcd_base.specs.declared.steps.Actor.Actor}
use Rattle.extent_list.specs.dcd_codes.specs.declared.{codes.Code.Code, refusals.Refusal.Refusal, rules.Rule.Rule}
use Rattle.extent_list.specs.media_map.specs.region_config.specs.Configurations.{Configuration}
use Rattle.journal_core.specs.{declared.acts.Act.Act, Entries.effects, declared.entries.Entry.Entry}
use Rattle.control_core.specs.{Deciding.IsDecidedBy, declared.decided.Decided.Decided}
use Rattle.host_commands.specs.HostMessages.{IsDrafted}
use Rattle.device_commands.specs.{Drafts.Drafts, declared.draft.Draft.Draft, device_rules.specs.Answers.host_result_in, device_rules.specs.Answers.response}
use Rattle.device_commands.specs.device_rules.specs.{Hosts.accepted_of, Hosts.offers_of, Legal.Legal, Outcomes.Outcome, Outcomes.effects_of, Outcomes.ended}
use Rattle.device_commands.specs.device_rules.specs.{TagTable.IsTable, TagTable.among, TagTable.among_offers, TagTable.ending, Views.view_of}
use Rattle.manager_commands.specs.device_state.specs.{StateAfter.IsStateAfter, declared.state.State.State}
use Rattle.tag_refs.specs.declared.entries.TagEntry.{TagEntry}

-- It answers the outcome, and has its effects.
pub record IsDone (c : Configuration) (before : List Entry) (q : Request) (o : Outcome) (d : Decided) : Type 0 where
  pub reply : d.reply ≡ response q Code.Success o.payload
  pub effects : d.effects ≡ effects_of c (effects before) o

-- Of the tags that may end by the outcome, those end that neither others nor the lists of this host after its changes keep.
pub record IsOfHost (c : Configuration) (before : List Entry) (h : HostId) (o : Outcome) : Type 0 where
  pub host : h < c.hosts
  pub ended_are : (entries : List TagEntry) → IsTable c (effects before) entries → ended c (effects before) o.changes o.tags
      ≡ ending h (among (accepted_of c h (effects before ++ o.changes))) (among_offers (offers_of h (effects before ++ o.changes))) entries o.tags

-- The draft is done: for each outcome of the host that it is, by every journal that leads to what is kept.
abbrev pub Does : Configuration → State → HostId → Request → Draft → Decided → Type 0
Does c s h q draft d = (before : List Entry) (o : Outcome) → IsStateAfter c before s → IsOfHost c before h o →
    Drafts c h (view_of c h before) o draft → IsDone c before q o d

-- ---- a host's message

-- By every legal journal that leads to what is kept, the message is drafted so, or refused by this rule.
abbrev pub Drafted : Configuration → State → HostId → Request → Result Draft Refusal → Type 0
Drafted c s h q result = (before : List Entry) → Legal c before → IsStateAfter c before s → IsDrafted c h (view_of c h before) q result

-- ---- a host's message that is refused

-- A message that breaks the rule first comes to this.
abbrev pub Refuses : Configuration → State → HostId → Request → Rule → Decided → Type 0
Refuses c s h q rule d = (before : List Entry) → Legal c before → IsStateAfter c before s → host_result_in c h (view_of c h before) q ≡ Err rule →
    IsDecidedBy c before (Actor.Host h) (Act.Command q) d
