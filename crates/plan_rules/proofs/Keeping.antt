-- Effects that leave the hosts' lists and the block sizes, and what a command's changes make of them.
use Rattle.std.proofs.Common.{◌≡◌, ℕ, Bool, true, false, not, ◌&&◌, ◌==◌, List, [], ◌∷◌, ◌++◌, refl, ap, sym, ◌∙◌}
use Rattle.std.proofs.lemmas.{Bool.eqb-true, Bool.false≢true, Bool.false_from_ne_true, Bool.not-true, List.Sums.fold-append}
use Rattle.std.specs.{List.list_all, Prelude.drop, Prelude.fold, Prelude.if◌then◌else◌}
use Rattle.media_map.specs.Places.{bytes_of_run, start_of}
use Rattle.extent_list.specs.ExtentLists.{cut}
use Rattle.dcd_base.specs.declared.{capacity.Extent.Extent, ids.HostId.HostId}
use Rattle.region_config.specs.{Configurations.Configuration, Granules.region_spec}
use Rattle.journal_core.specs.{Holders.holding_after, Holders.holds, declared.outcome.Effect.Effect, declared.outcome.HeldKind.HeldKind}
use Rattle.isolation_laws.specs.device_rules.specs.Hosts.{accepted_after, accepted_of, block_after, block_of, held_after, held_of, offers_after, offers_of, same_kind}
use Rattle.isolation_laws.{proofs.RemovalViews.no_block as leaves_blocks, specs.device_rules.proofs.Leaving.over-leaving, specs.device_rules.proofs.OutcomeSteps.after-outcome}
use Rattle.isolation_laws.specs.device_rules.specs.Outcomes.{Outcome, effects_of}
use Rattle.plan_rules.specs.Kept.{KeepsHost, KeepsOthers}

-- the effect changes no list of the host
abbrev pub leaves_host : HostId → Effect → Bool
leaves_host h (Effect.Offer k xs) = not (k == h)
leaves_host h (Effect.Answer k xs) = not (k == h)
leaves_host h (Effect.Leave k run) = not (k == h)
leaves_host h (Effect.Hold k kind xs) = not (k == h)
leaves_host h (Effect.Unhold k kind) = not (k == h)
leaves_host h e = true

-- no held list, and no block size
abbrev pub leaves_held : Effect → Bool
leaves_held (Effect.Hold k kind xs) = false
leaves_held (Effect.Unhold k kind) = false
leaves_held e = true

other : (k h : HostId) → not (k == h) ≡ true → (k == h) ≡ false
other k h e = not-true (k == h) e

offers-kept : (h : HostId) (offers : List (List Extent)) (e : Effect) → leaves_host h e ≡ true → offers_after h offers e ≡ offers
offers-kept h offers (Effect.Offer k xs) left = ap (λ b. if b then offers ++ xs ∷ [] else offers) (other k h left)
offers-kept h offers (Effect.Answer k xs) left = ap (λ b. if b then drop 1 offers else offers) (other k h left)
offers-kept h offers e left = refl

accepted-kept : (c : Configuration) (h : HostId) (accepted : List Extent) (e : Effect) → leaves_host h e ≡ true → accepted_after c h accepted e ≡ accepted
accepted-kept c h accepted (Effect.Answer k xs) left = ap (λ b. if b then accepted ++ xs else accepted) (other k h left)
accepted-kept c h accepted (Effect.Leave k run) left = ap (λ b. if b then cut (start_of c h run) (bytes_of_run c run) accepted else accepted) (other k h left)
accepted-kept c h accepted e left = refl

held-kept : (h : HostId) (kind : HeldKind) (held : List Extent) (e : Effect) → leaves_host h e ≡ true → held_after h kind held e ≡ held
held-kept h kind held (Effect.Hold k of xs) left = ap (λ b. if b && same_kind of kind then held ++ xs else held) (other k h left)
held-kept h kind held (Effect.Unhold k of) left = ap (λ b. if b && same_kind of kind then [] else held) (other k h left)
held-kept h kind held e left = refl

held-left : (h : HostId) (kind : HeldKind) (held : List Extent) (e : Effect) → leaves_held e ≡ true → held_after h kind held e ≡ held
held-left h kind held (Effect.Hold k of xs) left = absurd (false≢true left)
held-left h kind held (Effect.Unhold k of) left = absurd (false≢true left)
held-left h kind held e left = refl

block-left : (r size : ℕ) (e : Effect) → leaves_blocks e ≡ true → block_after r size e ≡ size
block-left r size (Effect.Block s new) left = absurd (false≢true left)
block-left r size e left = refl

-- ---- over effects

pub host_kept : (c : Configuration) (h : HostId) (past new : List Effect) → list_all (leaves_host h) new ≡ true → KeepsHost c h past (past ++ new)
host_kept c h past new all = record {
  accepted = fold-append (accepted_after c h) [] past new ∙ over-leaving (accepted_after c h) (leaves_host h) (accepted-kept c h) (accepted_of c h past) new all;
  offers = fold-append (offers_after h) [] past new ∙ over-leaving (offers_after h) (leaves_host h) (offers-kept h) (offers_of h past) new all;
  held = λ kind. fold-append (held_after h kind) [] past new ∙ over-leaving (held_after h kind) (leaves_host h) (held-kept h kind) (held_of h kind past) new all;
}

pub held_over : (h : HostId) (kind : HeldKind) (past new : List Effect) → list_all leaves_held new ≡ true → held_of h kind (past ++ new) ≡ held_of h kind past
held_over h kind past new all = fold-append (held_after h kind) [] past new ∙ over-leaving (held_after h kind) leaves_held (held-left h kind) (held_of h kind past) new all

pub blocks_over : (c : Configuration) (r : ℕ) (past new : List Effect) → list_all leaves_blocks new ≡ true → block_of c r (past ++ new) ≡ block_of c r past
blocks_over c r past new all = fold-append (block_after r) (region_spec c r).block past new ∙ over-leaving (block_after r) leaves_blocks (block-left r) (block_of c r past) new all

-- ---- over a command: its changes alone count

pub outcome_host_kept : (c : Configuration) (h : HostId) (past : List Effect) (o : Outcome) → list_all (leaves_host h) o.changes ≡ true → KeepsHost c h past (past ++ effects_of c past o)
outcome_host_kept c h past o all =
    let k = host_kept c h past o.changes all in record {
      accepted = after-outcome (accepted_after c h) (λ b t. refl) (λ b l e. refl) (λ b l. refl) c [] past o ∙ sym (fold-append (accepted_after c h) [] past o.changes) ∙ k.accepted;
      offers = after-outcome (offers_after h) (λ b t. refl) (λ b l e. refl) (λ b l. refl) c [] past o ∙ sym (fold-append (offers_after h) [] past o.changes) ∙ k.offers;
      held = λ kind. after-outcome (held_after h kind) (λ b t. refl) (λ b l e. refl) (λ b l. refl) c [] past o ∙ sym (fold-append (held_after h kind) [] past o.changes) ∙ k.held kind;
    }

pub outcome_held : (c : Configuration) (h : HostId) (kind : HeldKind) (past : List Effect) (o : Outcome) → list_all leaves_held o.changes ≡ true → held_of h kind (past ++ effects_of c past o) ≡ held_of h kind past
outcome_held c h kind past o all =
    after-outcome (held_after h kind) (λ b t. refl) (λ b l e. refl) (λ b l. refl) c [] past o ∙ sym (fold-append (held_after h kind) [] past o.changes) ∙ held_over h kind past o.changes all

pub outcome_blocks : (c : Configuration) (r : ℕ) (past : List Effect) (o : Outcome) → list_all leaves_blocks o.changes ≡ true → block_of c r (past ++ effects_of c past o) ≡ block_of c r past
outcome_blocks c r past o all =
    after-outcome (block_after r) (λ b t. refl) (λ b l e. refl) (λ b l. refl) c (region_spec c r).block past o ∙ sym (fold-append (block_after r) (region_spec c r).block past o.changes) ∙ blocks_over c r past o.changes all

pub outcome_accepted : (c : Configuration) (h : HostId) (past : List Effect) (o : Outcome) → accepted_of c h (past ++ effects_of c past o) ≡ fold (accepted_after c h) (accepted_of c h past) o.changes
outcome_accepted c h past o = after-outcome (accepted_after c h) (λ b t. refl) (λ b l e. refl) (λ b l. refl) c [] past o

pub outcome_offers : (c : Configuration) (h : HostId) (past : List Effect) (o : Outcome) → offers_of h (past ++ effects_of c past o) ≡ fold (offers_after h) (offers_of h past) o.changes
outcome_offers c h past o = after-outcome (offers_after h) (λ b t. refl) (λ b l e. refl) (λ b l. refl) c [] past o

pub outcome_holds : (c : Configuration) (h : HostId) (g : ℕ) (past : List Effect) (o : Outcome) → holds h g (past ++ effects_of c past o) ≡ fold (holding_after h g) (holds h g past) o.changes
outcome_holds c h g past o = after-outcome (holding_after h g) (λ b t. refl) (λ b l e. refl) (λ b l. refl) c false past o

-- ---- what a command's changes leave, where all are of one host

pub others_kept : (c : Configuration) (h : HostId) (past : List Effect) (o : Outcome) → ((k : HostId) → (h == k) ≡ false → list_all (leaves_host k) o.changes ≡ true)
    → ((kind : HeldKind) → held_of h kind (past ++ effects_of c past o) ≡ held_of h kind past) → list_all leaves_blocks o.changes ≡ true → KeepsOthers c h past (past ++ effects_of c past o)
others_kept c h past o mine held blocks = record {
  others = λ k apart. outcome_host_kept c k past o (mine k (false_from_ne_true (h == k) (λ same. apart (eqb-true h k same))));
  held = held;
  blocks = λ r. outcome_blocks c r past o blocks;
}
