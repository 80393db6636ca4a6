-- A refused command ends one held list of its sender at most, and leaves all else.
use Rattle.std.proofs.Common.{◌≡◌, ℕ, Bool, true, false, List, [], ◌∷◌, ◌++◌, None, inl, inr, refl, sym, ap, subst, ◌∙◌}
use Rattle.std.proofs.lemmas.{Bool.cases_eq, Bool.eq-eqb, Bool.eqb-true, Bool.ne_eqb, List.Sums.fold_push}
use Rattle.std.specs.{List.list_all, List.list_any, Prelude.◌⊎◌, Prelude.◌==◌, Prelude.fold, Prelude.if◌then◌else◌, declared.result.Result.Result}
use Rattle.std.specs.declared.result.Result.TheVariants.{Ok, Err}
use Rattle.cci_codec.specs.{declared.messages.Request.Request, dcd_base.specs.declared.capacity.Extent.Extent, dcd_base.specs.declared.ids.HostId.HostId, dcd_base.specs.declared.steps.Actor.Actor}
use Rattle.extent_list.specs.{dcd_codes.specs.declared.rules.Rule.Rule, media_map.specs.region_config.specs.Configurations.Configuration, media_map.specs.region_config.specs.Granules.region_spec}
use Rattle.fm_payloads.specs.ManagerPayloads.{manager_request}
use Rattle.journal_core.{proofs.JournalSteps.effects-push, proofs.JournalSteps.over-push, specs.Entries.effects, specs.Holders.holding_after, specs.Holders.soil_after, specs.Holders.taking_after}
use Rattle.journal_core.specs.declared.{acts.Act.Act, acts.Reply.Reply, entries.Entry.Entry, outcome.Effect.Effect, outcome.HeldKind.HeldKind}
use Rattle.event_log.specs.Logs.{empty_log}
use Rattle.device_rules.proofs.{Leaving.is_quiet, StatusParts.status-quiet, ViewCommands.after_refusal, ViewCommands.view_after-dropped, ViewOthers.dropped-leaves, ViewSteps.view_of-push}
use Rattle.device_rules.{proofs.ViewsLeft.view_after-left, specs.Answers.dropped, specs.Answers.effects_with, specs.Answers.host_result_in, specs.Answers.manager_result, specs.Answers.reply_with}
use Rattle.device_rules.specs.{Hosts.block_after, Legal.Meets, Legal.is_zeroing, Legal.right_answer, Legal.word_after, Legal.word_by, Legal.word_of, Logs.log_after, Outcomes.Outcome}
use Rattle.device_rules.specs.Refusals.{EndsHeldAtMost, IsRefusal, IsSeenRefused, KeepsRest, opcode_for, seen_refused, without_list_of}
use Rattle.device_rules.specs.{ResponseOutcomes.unhold, Tags.last_offer_after, Tags.reference_after, Tags.status, Tags.tags_after, Views.View, Views.view_after, Views.view_of}

-- ---- the effects of a refused entry

-- the list that a host's command drops, and nothing else
abbrev IsDropped : Configuration → List Entry → Actor → Act → List Effect → Type 0
IsDropped c before (Actor.Host h) (Act.Command q) new = new ≡ dropped h (view_of c h before) q.opcode
IsDropped c before actor act new = new ≡ []

refused_is : (c : Configuration) (past refused : List Effect) (q : Request) (result : Result Outcome Rule) → IsRefusal (reply_with q result) → effects_with c past refused result ≡ refused
refused_is c past refused q (Ok o) is = absurd (is refl)
refused_is c past refused q (Err rule) is = refl

module _ (c : Configuration) (before : List Entry) where
  answer_refused : (actor : Actor) (act : Act) → IsRefusal (right_answer c before actor act).0 → IsDropped c before actor act (right_answer c before actor act).1
  answer_refused (Actor.Host h) (Act.Command q) is = refused_is c (effects before) (dropped h (view_of c h before) q.opcode) q (host_result_in c h (view_of c h before) q) is
  answer_refused Actor.Manager (Act.Command q) is = refused_is c (effects before) [] q (manager_result c before (manager_request q.opcode q.payload)) is
  answer_refused Actor.Sanitizer (Act.Scrub n) is = absurd is
  answer_refused actor act is = refl

  entry_refused : (e : Entry) → Meets c before e → IsRefusal e.reply → IsDropped c before e.actor e.act e.effects
  entry_refused e meets is = subst (IsDropped c before e.actor e.act) (sym meets.effects) (answer_refused e.actor e.act (subst IsRefusal meets.reply is))

-- ---- they end one held list at most

unhold_ends : (h : HostId) (q : Request) (kind : HeldKind) (xs : List Extent) → q.opcode ≡ opcode_for kind → EndsHeldAtMost (Actor.Host h) (Act.Command q) (unhold h kind xs)
unhold_ends h q kind [] is = inl refl
unhold_ends h q kind (x ∷ xs) is = inr (kind, is, refl)

dropped_ends : (h : HostId) (q : Request) (v : View) → EndsHeldAtMost (Actor.Host h) (Act.Command q) (dropped h v q.opcode)
dropped_ends h q v = by (q.opcode == 0x4802) (q.opcode == 0x4803) (eqb-true q.opcode 0x4802) (eqb-true q.opcode 0x4803)
  where
    by : (a b : Bool) → (a ≡ true → q.opcode ≡ 0x4802) → (b ≡ true → q.opcode ≡ 0x4803) →
        EndsHeldAtMost (Actor.Host h) (Act.Command q) (if a then unhold h HeldKind.Responses v.responses else if b then unhold h HeldKind.Releases v.releases else [])
    by true b first second = unhold_ends h q HeldKind.Responses v.responses (first refl)
    by false true first second = unhold_ends h q HeldKind.Releases v.releases (second refl)
    by false false first second = inl refl

at_most : (c : Configuration) (before : List Entry) (actor : Actor) (act : Act) (new : List Effect) → IsDropped c before actor act new → EndsHeldAtMost actor act new
at_most c before (Actor.Host h) (Act.Command q) new is = subst (EndsHeldAtMost (Actor.Host h) (Act.Command q)) (sym is) (dropped_ends h q (view_of c h before))
at_most c before actor act new is = is

pub refused_ends : (c : Configuration) (before : List Entry) (e : Entry) → Meets c before e → IsRefusal e.reply → EndsHeldAtMost e.actor e.act e.effects
refused_ends c before e meets is = at_most c before e.actor e.act e.effects (entry_refused c before e meets is)

-- ---- what each host sees then

own_list : (opcode : ℕ) (v : View) → after_refusal opcode v ≡ without_list_of opcode v
own_list opcode v = elim (cases_eq opcode 0x4802) [
  | inl is ↦ subst (λ n. after_refusal n v ≡ without_list_of n v) (sym is) refl
  | inr other ↦ elim (cases_eq opcode 0x4803) [
    | inl is ↦ subst (λ n. after_refusal n v ≡ without_list_of n v) (sym is) refl
    | inr neither ↦ rw (ne_eqb opcode 0x4802 other, ne_eqb opcode 0x4803 neither) refl
  ]
]

module _ (c : Configuration) (before : List Entry) (k : HostId) where
  sender_sees : (q : Request) → view_after c k (view_of c k before) (dropped k (view_of c k before) q.opcode) ≡ seen_refused (Actor.Host k) (Act.Command q) k (view_of c k before)
  sender_sees q =
      view_after-dropped c k (view_of c k before) q.opcode
      ∙ own_list q.opcode (view_of c k before)
      ∙ ap (λ own. if own then without_list_of q.opcode (view_of c k before) else view_of c k before) (sym (eq-eqb k k refl))

  host_sees : (h : HostId) (q : Request) → view_after c k (view_of c k before) (dropped h (view_of c h before) q.opcode) ≡ seen_refused (Actor.Host h) (Act.Command q) k (view_of c k before)
  host_sees h q = elim (cases_eq h k) [
    | inl same ↦ subst (λ i. view_after c k (view_of c k before) (dropped i (view_of c i before) q.opcode) ≡ seen_refused (Actor.Host i) (Act.Command q) k (view_of c k before)) (sym same) (sender_sees q)
    | inr other ↦ view_after-left c k (view_of c k before) (dropped h (view_of c h before) q.opcode) (dropped-leaves c h k other (view_of c h before) q.opcode)
        ∙ ap (λ own. if own then without_list_of q.opcode (view_of c k before) else view_of c k before) (sym (ne_eqb h k other))
  ]

  sees : (actor : Actor) (act : Act) (new : List Effect) → IsDropped c before actor act new → view_after c k (view_of c k before) new ≡ seen_refused actor act k (view_of c k before)
  sees (Actor.Host h) (Act.Command q) new is = ap (view_after c k (view_of c k before)) is ∙ host_sees h q
  sees actor act new is = ap (view_after c k (view_of c k before)) is

  pub refused_seen : (e : Entry) → Meets c before e → IsRefusal e.reply → IsSeenRefused c before e k
  refused_seen e meets is = view_of-push c k before e ∙ sees e.actor e.act e.effects (entry_refused c before e meets is)

-- ---- and all else

-- no effect, or the end of a held list
abbrev IsEnd : List Effect → Type 0
IsEnd new = (new ≡ []) ⊎ ((h : HostId) × (kind : HeldKind) × (new ≡ Effect.Unhold h kind ∷ []))

is_end : (actor : Actor) (act : Act) (new : List Effect) → EndsHeldAtMost actor act new → IsEnd new
is_end (Actor.Host h) (Act.Command q) new (inl none) = inl none
is_end (Actor.Host h) (Act.Command q) new (inr one) = inr (h, one.0, one.2)
is_end actor act new none = inl none

-- what the end of a held list leaves stays
end_leaves : {B : Type 0} (f : B → Effect → B) → ((b : B) (h : HostId) (kind : HeldKind) → f b (Effect.Unhold h kind) ≡ b) → (b : B) (new : List Effect) → IsEnd new → fold f b new ≡ b
end_leaves f leaves b new (inl none) = ap (fold f b) none
end_leaves f leaves b new (inr one) = ap (fold f b) one.2 ∙ leaves b one.0 one.1

end_quiet : (new : List Effect) → IsEnd new → list_all is_quiet new ≡ true
end_quiet new (inl none) = ap (list_all is_quiet) none
end_quiet new (inr one) = ap (list_all is_quiet) one.2

end_zeroes : (g : ℕ) (new : List Effect) → IsEnd new → list_any (is_zeroing g) new ≡ false
end_zeroes g new (inl none) = ap (list_any (is_zeroing g)) none
end_zeroes g new (inr one) = ap (list_any (is_zeroing g)) one.2

unwritten : (c : Configuration) (g w value : ℕ) (actor : Actor) (act : Act) (reply : Reply) → IsRefusal reply → word_by c g w value actor act reply ≡ value
unwritten c g w value (Actor.Host h) (Act.Store d new) Reply.Stored is = absurd is
unwritten c g w value actor act reply is = refl

pub refused_keeps : (c : Configuration) (before : List Entry) (e : Entry) → Meets c before e → IsRefusal e.reply → KeepsRest c before (before ++ e ∷ [])
refused_keeps c before e meets is =
    let ends : IsEnd e.effects = is_end e.actor e.act e.effects (refused_ends c before e meets is) in
    let past : List Effect = effects before in record {
      holders = λ h g. over-push (holding_after h g) false before e ∙ end_leaves (holding_after h g) (λ b k kind. refl) (fold (holding_after h g) false past) e.effects ends;
      statuses = λ g. ap (status c g) (effects-push before e) ∙ status-quiet c g past e.effects (end_quiet e.effects ends);
      taken = λ g. over-push (taking_after g) false before e ∙ end_leaves (taking_after g) (λ b k kind. refl) (fold (taking_after g) false past) e.effects ends;
      soiled = λ g. over-push (soil_after g) false before e ∙ end_leaves (soil_after g) (λ b k kind. refl) (fold (soil_after g) false past) e.effects ends;
      logs = λ l. over-push (log_after l) empty_log before e ∙ end_leaves (log_after l) (λ b k kind. refl) (fold (log_after l) empty_log past) e.effects ends;
      tags = over-push (tags_after c) [] before e ∙ end_leaves (tags_after c) (λ b k kind. refl) (fold (tags_after c) [] past) e.effects ends;
      last_offers = λ t. over-push (last_offer_after t) None before e ∙ end_leaves (last_offer_after t) (λ b k kind. refl) (fold (last_offer_after t) None past) e.effects ends;
      references = λ t. over-push (reference_after t) false before e ∙ end_leaves (reference_after t) (λ b k kind. refl) (fold (reference_after t) false past) e.effects ends;
      blocks = λ r. over-push (block_after r) (region_spec c r).block before e ∙ end_leaves (block_after r) (λ b k kind. refl) (fold (block_after r) (region_spec c r).block past) e.effects ends;
      words = λ g w. fold_push (word_after c g w) 0 before e
          ∙ ap (λ zeroed. if zeroed then 0 else word_by c g w (word_of c before g w) e.actor e.act e.reply) (end_zeroes g e.effects ends)
          ∙ unwritten c g w (word_of c before g w) e.actor e.act e.reply is;
    }
