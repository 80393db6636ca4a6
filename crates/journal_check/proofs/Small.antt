-- The numbers of each entry of a legal journal that covers a script have 64 bits.
use Rattle.std.proofs.Common.{Bool, true, false, ℕ, ◌-◌, ◌<◌, ◌≤◌, ◌^◌, List, [], ◌∷◌, ◌++◌, length, Ok, Err, sym, subst, arith}
use Rattle.std.proofs.lemmas.{Bool.ltb-true, List.length-take, List.FromFn.length-range_with_len, List.Sums.count_by-le-length, List.Sums.length-filter, Option.slice_get_within}
use Rattle.std.specs.{List.AllByRecursion, List.range_with_len, Prelude.IsTrue, Prelude.Result, Prelude.if◌then◌else◌}
use Rattle.dcd_base.specs.declared.{failures.AccessFault.AccessFault, ids.HostId.HostId, media.Place.Place, steps.Actor.Actor}
use Rattle.dcd_codes.specs.declared.rules.Rule.{Rule}
use Rattle.cci_codec.specs.declared.messages.Request.{Request}
use Rattle.media_map.specs.Places.{locate}
use Rattle.region_config.specs.{Configurations.Configuration, Granules.granule_total, Soundness.IsSound}
use Rattle.journal_core.specs.{Entries.effects, Entries.EachFrom, Entries.fits, Holders.holds, declared.acts.Act.Act, declared.acts.Reply.Reply, declared.entries.Entry.Entry}
use Rattle.journal_core.specs.declared.outcome.Effect.{Effect}
use Rattle.report.specs.script_codec.specs.{declared.script_line.Line.Line, declared.scripts.Script.Script, Covering.Covers, Covering.IsOfLine}
use Rattle.device_plain.specs.device_rules.specs.Answers.{host_result_in, manager_result, reply_with, scrubbed}
use Rattle.device_plain.specs.device_rules.specs.{Legal.Legal, Legal.Meets, Legal.access_at, Legal.granted_reply, Legal.right_answer, Outcomes.Outcome, Tags.dirty_granules, Tags.is_dirty, Tags.status}
use Rattle.device_plain.specs.device_rules.specs.Views.{view_of}
use Rattle.fm_payloads.specs.ManagerPayloads.{manager_request}
use Rattle.journal_check.proofs.EntryLines.{IsSmall, IsSmallActor, IsSmallReply}

-- ---- the actor
small_actor : (hosts : ℕ) (actor : Actor) (act : Act) → hosts ≤ 16 → IsTrue (fits hosts actor act) → IsSmallActor actor
small_actor hosts (Actor.Host h) (Act.Command q) few fit = omega (arith, few, ltb-true h hosts fit)
small_actor hosts (Actor.Host h) (Act.Load d) few fit = omega (arith, few, ltb-true h hosts fit)
small_actor hosts (Actor.Host h) (Act.Store d value) few fit = omega (arith, few, ltb-true h hosts fit)
small_actor hosts (Actor.Host h) (Act.Scrub n) few fit = absurd (never fit)
  where
    never : IsTrue false → ⊥
    never e = cc
small_actor hosts Actor.Manager act few fit = tt
small_actor hosts Actor.Sanitizer act few fit = tt

-- ---- the reply
small_response : (q : Request) (result : Result Outcome Rule) → IsSmallReply (reply_with q result)
small_response q (Ok o) = tt
small_response q (Err rule) = tt

small_choice : (b : Bool) (one other : Reply) → IsSmallReply one → IsSmallReply other → IsSmallReply (if b then one else other)
small_choice true one other small more = small
small_choice false one other small more = more

small_load : (c : Configuration) (before : List Entry) (h : HostId) (d : ℕ) (at : Result Place AccessFault) → IsSmallReply (access_at c before h (Act.Load d) at)
small_load c before h d (Ok p) =
    small_choice (holds h p.granule (effects before)) (granted_reply c before p (Act.Load d)) (Reply.Refused AccessFault.NotGranted) tt tt
small_load c before h d (Err fault) = tt

small_store : (c : Configuration) (before : List Entry) (h : HostId) (d value : ℕ) (at : Result Place AccessFault) → IsSmallReply (access_at c before h (Act.Store d value) at)
small_store c before h d value (Ok p) =
    small_choice (holds h p.granule (effects before)) (granted_reply c before p (Act.Store d value)) (Reply.Refused AccessFault.NotGranted) tt tt
small_store c before h d value (Err fault) = tt

few_scrubbed : (c : Configuration) (past : List Effect) (n : ℕ) → IsSound c → length (scrubbed c past n) < 2 ^ 64
few_scrubbed c past n sound =
    omega (
      arith,
      sound.granules,
      length-take n (dirty_granules c past),
      length-filter (λ g. is_dirty (status c g past)) (range_with_len 0 (granule_total c)),
      count_by-le-length (λ g. is_dirty (status c g past)) (range_with_len 0 (granule_total c)),
      length-range_with_len 0 (granule_total c),
    )

small_reply : (c : Configuration) (before : List Entry) (actor : Actor) (act : Act) → IsSound c → IsSmallReply (right_answer c before actor act).0
small_reply c before (Actor.Host h) (Act.Command q) sound = small_response q (host_result_in c h (view_of c h before) q)
small_reply c before (Actor.Host h) (Act.Load d) sound = small_load c before h d (locate c h d)
small_reply c before (Actor.Host h) (Act.Store d value) sound = small_store c before h d value (locate c h d)
small_reply c before (Actor.Host h) (Act.Scrub n) sound = tt
small_reply c before Actor.Manager (Act.Command q) sound = small_response q (manager_result c before (manager_request q.opcode q.payload))
small_reply c before Actor.Manager (Act.Load d) sound = tt
small_reply c before Actor.Manager (Act.Store d value) sound = tt
small_reply c before Actor.Manager (Act.Scrub n) sound = tt
small_reply c before Actor.Sanitizer (Act.Command q) sound = tt
small_reply c before Actor.Sanitizer (Act.Load d) sound = tt
small_reply c before Actor.Sanitizer (Act.Store d value) sound = tt
small_reply c before Actor.Sanitizer (Act.Scrub n) sound = few_scrubbed c (effects before) n sound

-- ---- an entry
small_entry : (s : Script) (before : List Entry) (e : Entry) → IsSound s.config → length s.lines ≤ 65536 → Meets s.config before e → IsOfLine s e → IsSmall e
small_entry s before e sound few met of = record {
  line = omega (arith, few, slice_get_within s.lines (e.line - 1) (Line.Do e.actor of.lane e.act) of.line);
  actor = small_actor s.config.hosts e.actor e.act sound.hosts met.allowed;
  reply = subst IsSmallReply (sym met.reply) (small_reply s.config before e.actor e.act sound);
}

small_from : (s : Script) (before journal : List Entry) → IsSound s.config → length s.lines ≤ 65536 → EachFrom before (Meets s.config) journal → AllByRecursion (IsOfLine s) journal
    → AllByRecursion IsSmall journal
small_from s before [] sound few each of = tt
small_from s before (e ∷ journal) sound few each of =
    (small_entry s before e sound few each.0 of.0, small_from s (before ++ e ∷ []) journal sound few each.1 of.1)

pub small : (s : Script) (journal : List Entry) → IsSound s.config → length s.lines ≤ 65536 → Legal s.config journal → Covers journal s → AllByRecursion IsSmall journal
small s journal sound few legal covers = small_from s [] journal sound few legal covers.lines

-- those of a front too
pub small_front : (one other : List Entry) → AllByRecursion IsSmall (one ++ other) → AllByRecursion IsSmall one
small_front [] other all = tt
small_front (e ∷ one) other all = (all.0, small_front one other all.1)
