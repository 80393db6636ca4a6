-- What a refused command changes: one held list of its sender at most.
use Rattle.std.specs.Prelude.{◌≡◌, ◌≢◌, ◌⊎◌, ℕ, ◌==◌, List, [], ◌∷◌, ◌++◌, if◌then◌else◌}
use Rattle.cci_codec.specs.dcd_base.specs.declared.{capacity.Tag.Tag, ids.HostId.HostId, steps.Actor.Actor, steps.LogId.LogId}
use Rattle.extent_list.specs.{dcd_codes.specs.Rules.number_of, dcd_codes.specs.declared.codes.Code.Code, media_map.specs.region_config.specs.Configurations.Configuration}
use Rattle.journal_core.specs.{Entries.effects, Holders.holds, Holders.is_soiled, Holders.is_taken, declared.acts.Act.Act, declared.acts.Reply.Reply, declared.entries.Entry.Entry}
use Rattle.journal_core.specs.declared.outcome.{Effect.Effect, HeldKind.HeldKind}
use Rattle.device_rules.specs.{Hosts.block_of, Legal.word_of, Logs.log_of, Tags.is_referenced, Tags.last_offer, Tags.open_tags, Tags.status, Views.View, Views.view_of}

-- The command was refused: the code of its response is another than Success.
abbrev pub IsRefusal : Reply → Type 0
IsRefusal (Reply.Answer response) = response.code ≢ number_of Code.Success
IsRefusal reply = ⊥

-- the opcode of the commands whose extents the list of this kind holds
abbrev pub opcode_for : HeldKind → ℕ
opcode_for HeldKind.Responses = 0x4802
opcode_for HeldKind.Releases = 0x4803

-- The effects are none, or one: the sender's held list of the kind that the opcode names ends.
abbrev pub EndsHeldAtMost : Actor → Act → List Effect → Type 0
EndsHeldAtMost (Actor.Host h) (Act.Command q) new = (new ≡ []) ⊎ ((kind : HeldKind) × (q.opcode ≡ opcode_for kind) × (new ≡ Effect.Unhold h kind ∷ []))
EndsHeldAtMost actor act new = new ≡ []

-- the view without the held list of the kind that the opcode names
abbrev pub without_list_of : ℕ → View → View
without_list_of opcode v = record v {
  responses = if opcode == opcode_for HeldKind.Responses then [] else v.responses;
  releases = if opcode == opcode_for HeldKind.Releases then [] else v.releases;
}

-- what host k sees once the act is refused, having seen this: the sender loses its held list, and no other host anything
abbrev pub seen_refused : Actor → Act → HostId → View → View
seen_refused (Actor.Host h) (Act.Command q) k v = if h == k then without_list_of q.opcode v else v
seen_refused actor act k v = v

abbrev pub IsSeenRefused : Configuration → List Entry → Entry → HostId → Type 0
IsSeenRefused c before e k = view_of c k (before ++ e ∷ []) ≡ seen_refused e.actor e.act k (view_of c k before)

-- All else is the same after both journals: who holds which granule, each granule's status, whether it was taken or soiled
-- since it was zeroed, the logs, the open tags, each tag's last offer and reference, the block sizes, the words of the memory.
pub record KeepsRest (c : Configuration) (old new : List Entry) : Type 0 where
  pub holders : (h : HostId) (g : ℕ) → holds h g (effects new) ≡ holds h g (effects old)
  pub statuses : (g : ℕ) → status c g (effects new) ≡ status c g (effects old)
  pub taken : (g : ℕ) → is_taken g (effects new) ≡ is_taken g (effects old)
  pub soiled : (g : ℕ) → is_soiled g (effects new) ≡ is_soiled g (effects old)
  pub logs : (l : LogId) → log_of l (effects new) ≡ log_of l (effects old)
  pub tags : open_tags c (effects new) ≡ open_tags c (effects old)
  pub last_offers : (t : Tag) → last_offer t (effects new) ≡ last_offer t (effects old)
  pub references : (t : Tag) → is_referenced t (effects new) ≡ is_referenced t (effects old)
  pub blocks : (r : ℕ) → block_of c r (effects new) ≡ block_of c r (effects old)
  pub words : (g w : ℕ) → word_of c new g w ≡ word_of c old g w
