-- Effects that leave what one host sees.
use Rattle.std.proofs.Common.{◌≡◌, ℕ, ◌+◌, Bool, true, false, ◌&&◌, ◌||◌, not, List, [], ◌∷◌, ◌++◌, drop, refl, ap, ◌∙◌}
use Rattle.std.{specs.Prelude.◌==◌, specs.Prelude.if◌then◌else◌, specs.List.list_all, specs.List.list_any, proofs.lemmas.Bool.and_parts, proofs.lemmas.Bool.false≢true, proofs.lemmas.Bool.not-true}
use Rattle.cci_codec.specs.dcd_base.specs.{Words.is_empty, declared.capacity.Extent.Extent, declared.ids.HostId.HostId, declared.steps.LogId.LogId}
use Rattle.event_log.specs.Logs.{Log, cleared_of, missed_by, reset}
use Rattle.journal_core.specs.declared.{entries.Entry.Entry, outcome.Effect.Effect, outcome.HeldKind.HeldKind}
use Rattle.extent_list.specs.{ExtentLists.cut, media_map.specs.Places.bytes_of_run, media_map.specs.Places.start_of, media_map.specs.region_config.specs.Configurations.Configuration}
use Rattle.device_rules.proofs.{EffectKinds.PassRecords, EffectKinds.outcome_passes, EffectKinds.tells, Leaving.over-leaving, ViewSteps.view_of-push}
use Rattle.device_rules.specs.{Hosts.accepted_after, Hosts.block_after, Hosts.held_after, Hosts.moves, Hosts.offers_after, Hosts.same_kind, Logs.log_after, Logs.same_log}
use Rattle.device_rules.specs.{Outcomes.Outcome, Outcomes.effects_of, Views.View, Views.view_after, Views.view_of}

-- The effect is none of this host's, no record of its log, and no block size.
abbrev pub leaves_view : HostId → Effect → Bool
leaves_view k (Effect.Offer h xs) = not (h == k)
leaves_view k (Effect.Answer h xs) = not (h == k)
leaves_view k (Effect.Leave h run) = not (h == k)
leaves_view k (Effect.Hold h kind xs) = not (h == k)
leaves_view k (Effect.Unhold h kind) = not (h == k)
leaves_view k (Effect.Logged l event) = not (same_log l (LogId.Host k))
leaves_view k (Effect.Missed l) = not (same_log l (LogId.Host k))
leaves_view k (Effect.Cleared l n) = not (same_log l (LogId.Host k))
leaves_view k (Effect.Reset l) = not (same_log l (LogId.Host k))
leaves_view k (Effect.Block r size) = false
leaves_view k e = true

-- ---- what such an effect leaves

else_is : {X : Type 0} (b : Bool) (x y : X) → not b ≡ true → (if b then x else y) ≡ y
else_is true x y none = absurd (false≢true none)
else_is false x y none = refl

both_else : {X : Type 0} (b other : Bool) (x y : X) → not b ≡ true → (if b && other then x else y) ≡ y
both_else true other x y none = absurd (false≢true none)
both_else false other x y none = refl

offers-kept : (k : HostId) (offers : List (List Extent)) (e : Effect) → leaves_view k e ≡ true → offers_after k offers e ≡ offers
offers-kept k offers (Effect.Offer h xs) left = else_is (h == k) (offers ++ xs ∷ []) offers left
offers-kept k offers (Effect.Answer h xs) left = else_is (h == k) (drop 1 offers) offers left
offers-kept k offers e left = refl

accepted-kept : (c : Configuration) (k : HostId) (accepted : List Extent) (e : Effect) → leaves_view k e ≡ true → accepted_after c k accepted e ≡ accepted
accepted-kept c k accepted (Effect.Answer h xs) left = else_is (h == k) (accepted ++ xs) accepted left
accepted-kept c k accepted (Effect.Leave h run) left = else_is (h == k) (cut (start_of c k run) (bytes_of_run c run) accepted) accepted left
accepted-kept c k accepted e left = refl

held-kept : (k : HostId) (kind : HeldKind) (held : List Extent) (e : Effect) → leaves_view k e ≡ true → held_after k kind held e ≡ held
held-kept k kind held (Effect.Hold h other xs) left = both_else (h == k) (same_kind other kind) (held ++ xs) held left
held-kept k kind held (Effect.Unhold h other) left = both_else (h == k) (same_kind other kind) [] held left
held-kept k kind held e left = refl

log-kept : (k : HostId) (log : Log) (e : Effect) → leaves_view k e ≡ true → log_after (LogId.Host k) log e ≡ log
log-kept k log (Effect.Logged l event) left = else_is (same_log l (LogId.Host k)) (record log { ever = log.ever ++ event ∷ [] }) log left
log-kept k log (Effect.Missed l) left = else_is (same_log l (LogId.Host k)) (missed_by log) log left
log-kept k log (Effect.Cleared l n) left = else_is (same_log l (LogId.Host k)) (cleared_of n log) log left
log-kept k log (Effect.Reset l) left = else_is (same_log l (LogId.Host k)) (reset log) log left
log-kept k log e left = refl

block-kept : (k : HostId) (r size : ℕ) (e : Effect) → leaves_view k e ≡ true → block_after r size e ≡ size
block-kept k r size (Effect.Block s new) left = absurd (false≢true left)
block-kept k r size e left = refl

still : (k : HostId) (e : Effect) → leaves_view k e ≡ true → moves k e ≡ false
still k (Effect.Answer h xs) left = ap (λ b. b && not (is_empty xs)) (not-true (h == k) left)
still k (Effect.Leave h run) left = not-true (h == k) left
still k e left = refl

all_still : (k : HostId) (new : List Effect) → list_all (leaves_view k) new ≡ true → list_any (moves k) new ≡ false
all_still k [] all = refl
all_still k (e ∷ new) all =
    let parts = and_parts (leaves_view k e) (list_all (leaves_view k) new) all in
    ap (λ b. b || list_any (moves k) new) (still k e parts.0) ∙ all_still k new parts.1

-- So the host sees what it saw.
pub view_after-left : (c : Configuration) (k : HostId) (v : View) (new : List Effect) → list_all (leaves_view k) new ≡ true → view_after c k v new ≡ v
view_after-left c k v new all = λ i. record {
  offers = over-leaving (offers_after k) (leaves_view k) (offers-kept k) v.offers new all i;
  accepted = over-leaving (accepted_after c k) (leaves_view k) (accepted-kept c k) v.accepted new all i;
  changes = if all_still k new all i then v.changes + 1 else v.changes;
  responses = over-leaving (held_after k HeldKind.Responses) (leaves_view k) (held-kept k HeldKind.Responses) v.responses new all i;
  releases = over-leaving (held_after k HeldKind.Releases) (leaves_view k) (held-kept k HeldKind.Releases) v.releases new all i;
  log = over-leaving (log_after (LogId.Host k)) (leaves_view k) (log-kept k) v.log new all i;
  block = λ r. over-leaving (block_after r) (leaves_view k) (block-kept k r) (v.block r) new all i;
}

pub view_of-left : (c : Configuration) (k : HostId) (journal : List Entry) (e : Entry) → list_all (leaves_view k) e.effects ≡ true → view_of c k (journal ++ e ∷ []) ≡ view_of c k journal
view_of-left c k journal e all = view_of-push c k journal e ∙ view_after-left c k (view_of c k journal) e.effects all

-- ---- the effects of a command

-- the log is not the host's
abbrev pub is_other_log : HostId → LogId → Bool
is_other_log k l = not (same_log l (LogId.Host k))

pub others_records : (k : HostId) (l : LogId) → is_other_log k l ≡ true → PassRecords (leaves_view k) l
others_records k l other = record { logged = λ event. other; missed = other }

-- A command whose changes and records leave a host's view leaves it, whatever tags end.
pub outcome-leaves : (c : Configuration) (k : HostId) (past : List Effect) (o : Outcome) → list_all (leaves_view k) o.changes ≡ true → tells (is_other_log k) o.log_records ≡ true →
    list_all (leaves_view k) (effects_of c past o) ≡ true
outcome-leaves c k past o changes others = outcome_passes (leaves_view k) (is_other_log k) (others_records k) (λ t. refl) c past o changes others
