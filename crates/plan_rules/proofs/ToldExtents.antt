-- In every legal journal the extents of all hosts have tags of sixteen numbers and sequences of two bytes.
use Rattle.std.proofs.Common.{◌≡◌, ℕ, ◌+◌, ◌*◌, ◌-◌, ◌/◌, ◌≤◌, Bool, true, false, ◌&&◌, ◌==◌, List, [], ◌∷◌, ◌++◌, length, map, drop, Option, Some, None, refl, ap, ◌∙◌, inl, inr, arith, ltb}
use Rattle.std.proofs.lemmas.{Bool.and_from, Bool.and_parts, Bool.cases_Bool, Bool.eq-eqb, Bool.eqb-true, Bool.lt-ltb, Bool.ltb-false, List.length-drop, List.length-map, List.length-take}
use Rattle.std.{proofs.lemmas.List.Folds.list_all-append, proofs.lemmas.List.FromFn.length-enumerate_from, specs.Int.w32, specs.List.enumerate_from, specs.List.list_all}
use Rattle.std.specs.{Prelude.fold, Prelude.if◌then◌else◌, Prelude.nat_lt, declared.result.Result.Result, declared.result.Result.TheVariants.Ok, declared.result.Result.TheVariants.Err}
use Rattle.dcd_base.specs.{Layouts.number_at, Layouts.pieces, Payloads.has_flag, Payloads.tag_at, declared.capacity.Extent.Extent, declared.capacity.Tag.Tag, declared.faults.PayloadFault.PayloadFault}
use Rattle.dcd_base.specs.declared.{ids.HostId.HostId, steps.Actor.Actor, steps.LogId.LogId}
use Rattle.dcd_codes.specs.declared.rules.Rule.{Rule}
use Rattle.host_payloads.specs.HostPayloads.{clear_asked, configuration_asked, events_asked, extents_asked, host_request, list_length, listed_extent, listed_extents, listed_in, of_list}
use Rattle.host_payloads.specs.declared.requests.HostRequest.{HostRequest}
use Rattle.fm_payloads.specs.ManagerPayloads.{info_asked, lists_asked, made_of, manager_clear_asked, manager_events_asked, manager_request, placed_in, placed_length, regions_asked, setting_asked, tag_in, tags_asked, to_add, to_remove}
use Rattle.fm_payloads.specs.declared.{placing.Placed.Placed, requests.FmRequest.FmRequest}
use Rattle.region_config.specs.{Configurations.Configuration, Granules.region_spec}
use Rattle.media_map.specs.Places.{bytes_of_run, run_of, start_of}
use Rattle.extent_list.specs.ExtentLists.{cut, has_range, lies_in, marked, owner_of, piece, without}
use Rattle.journal_core.{proofs.JournalSteps.effects-push, specs.Entries.effects, specs.declared.acts.Act.Act, specs.declared.entries.Entry.Entry, specs.declared.outcome.Effect.Effect}
use Rattle.journal_core.specs.declared.outcome.HeldKind.{HeldKind}
use Rattle.isolation_laws.specs.device_rules.proofs.Adding.{row_of}
use Rattle.isolation_laws.specs.device_rules.proofs.EffectKinds.{any_log, clear_passes, outcome_passes, reference_passes, removals_pass, tells_any, zeroes_pass}
use Rattle.isolation_laws.specs.device_rules.proofs.{Leaving.both_pass, Leaving.map_passes, LegalSteps.by_steps}
use Rattle.isolation_laws.specs.device_rules.specs.Adding.{add_rule, chosen, is_free_now, offered, present}
use Rattle.isolation_laws.specs.device_rules.specs.Hosts.{accepted_after, accepted_of, held_after, held_of, offers_after, offers_of, same_kind}
use Rattle.isolation_laws.specs.device_rules.specs.{Legal.Legal, Legal.right_answer, Logs.log_of, Outcomes.Outcome, Outcomes.effects_of}
use Rattle.isolation_laws.specs.device_rules.specs.ReleaseOutcomes.{is_cleaning, is_forced, leaves, removed}
use Rattle.isolation_laws.specs.device_rules.specs.ResponseOutcomes.{answered, hold, respond_changes, unhold}
use Rattle.isolation_laws.specs.device_rules.specs.{Tags.is_referenced, Tags.last_offer, Tags.tag_runs, Views.View, Views.view_of}
use Rattle.isolation_laws.specs.device_rules.specs.Answers.{dropped, effects_with, host_outcome, host_result, host_rule, manager_outcome, manager_result, manager_rule, scrubbed, unless}

-- whether the tag has sixteen numbers and the sequence two bytes
abbrev pub is_tellable : Extent → Bool
is_tellable x = (length x.tag.0 == 16) && nat_lt x.sequence 65536

-- whether so do all extents of which the effect tells
abbrev pub is_told : Effect → Bool
is_told (Effect.Offer h xs) = list_all is_tellable xs
is_told (Effect.Answer h xs) = list_all is_tellable xs
is_told (Effect.Hold h kind xs) = list_all is_tellable xs
is_told e = true

-- ---- the lists that told effects leave

both_tellable : (xs ys : List Extent) → list_all is_tellable xs ≡ true → list_all is_tellable ys ≡ true → list_all is_tellable (xs ++ ys) ≡ true
both_tellable xs ys first second = list_all-append is_tellable xs ys ∙ and_from (list_all is_tellable xs) (list_all is_tellable ys) first second

over_told : {B : Type 0} (f : B → Effect → B) (P : B → Type 0) → ((b : B) (e : Effect) → is_told e ≡ true → P b → P (f b e)) → (b : B) (past : List Effect) → list_all is_told past ≡ true → P b → P (fold f b past)
over_told f P step b [] told p = p
over_told f P step b (e ∷ past) told p = let parts = and_parts (is_told e) (list_all is_told past) told in over_told f P step (f b e) past parts.1 (step b e parts.0 p)

piece_tellable : (x : Extent) (from to : ℕ) → is_tellable x ≡ true → list_all is_tellable (piece x from to) ≡ true
piece_tellable x from to is = by (ltb from to)
  where
    by : (some : Bool) → list_all is_tellable (if some then record x { start = from; length = to - from } ∷ [] else []) ≡ true
    by true = ap (λ b. b && true) is
    by false = refl

cut_tellable : (start bytes : ℕ) (xs : List Extent) → list_all is_tellable xs ≡ true → list_all is_tellable (cut start bytes xs) ≡ true
cut_tellable start bytes [] all = refl
cut_tellable start bytes (x ∷ xs) all =
    let parts = and_parts (is_tellable x) (list_all is_tellable xs) all in
    by (has_range start bytes x) parts.0 parts.1 (cut_tellable start bytes xs parts.1)
  where
    by : (here : Bool) → is_tellable x ≡ true → list_all is_tellable xs ≡ true → list_all is_tellable (cut start bytes xs) ≡ true →
        list_all is_tellable (if here then without x start bytes ++ xs else x ∷ cut start bytes xs) ≡ true
    by true one rest later = both_tellable (without x start bytes) xs
        (both_tellable (piece x x.start start) (piece x (start + bytes) (x.start + x.length)) (piece_tellable x x.start start one) (piece_tellable x (start + bytes) (x.start + x.length) one)) rest
    by false one rest later = and_from (is_tellable x) (list_all is_tellable (cut start bytes xs)) one later

if_kept : {B : Type 0} (P : B → Type 0) (test : Bool) (x y : B) → P x → P y → P (if test then x else y)
if_kept P true x y p q = p
if_kept P false x y p q = q

module _ (c : Configuration) (h : HostId) where
  accepted_step : (xs : List Extent) (e : Effect) → is_told e ≡ true → list_all is_tellable xs ≡ true → list_all is_tellable (accepted_after c h xs e) ≡ true
  accepted_step xs (Effect.Answer k ys) told all = if_kept (λ zs. list_all is_tellable zs ≡ true) (k == h) (xs ++ ys) xs (both_tellable xs ys all told) all
  accepted_step xs (Effect.Leave k run) told all = if_kept (λ zs. list_all is_tellable zs ≡ true) (k == h) (cut (start_of c h run) (bytes_of_run c run) xs) xs (cut_tellable (start_of c h run) (bytes_of_run c run) xs all) all
  accepted_step xs e told all = all

  offers_step : (os : List (List Extent)) (e : Effect) → is_told e ≡ true → list_all (list_all is_tellable) os ≡ true → list_all (list_all is_tellable) (offers_after h os e) ≡ true
  offers_step os (Effect.Offer k ys) told all = if_kept (λ zs. list_all (list_all is_tellable) zs ≡ true) (k == h) (os ++ ys ∷ []) os
      (list_all-append (list_all is_tellable) os (ys ∷ []) ∙ and_from (list_all (list_all is_tellable) os) (list_all is_tellable ys && true) all (ap (λ b. b && true) told)) all
  offers_step os (Effect.Answer k ys) told all = if_kept (λ zs. list_all (list_all is_tellable) zs ≡ true) (k == h) (drop 1 os) os (later os all) all
    where
      later : (os : List (List Extent)) → list_all (list_all is_tellable) os ≡ true → list_all (list_all is_tellable) (drop 1 os) ≡ true
      later [] all = refl
      later (o ∷ os) all = (and_parts (list_all is_tellable o) (list_all (list_all is_tellable) os) all).1
  offers_step os e told all = all

  held_step : (kind : HeldKind) (xs : List Extent) (e : Effect) → is_told e ≡ true → list_all is_tellable xs ≡ true → list_all is_tellable (held_after h kind xs e) ≡ true
  held_step kind xs (Effect.Hold k other ys) told all = if_kept (λ zs. list_all is_tellable zs ≡ true) ((k == h) && same_kind other kind) (xs ++ ys) xs (both_tellable xs ys all told) all
  held_step kind xs (Effect.Unhold k other) told all = if_kept (λ zs. list_all is_tellable zs ≡ true) ((k == h) && same_kind other kind) [] xs refl all
  held_step kind xs e told all = all

  module _ (past : List Effect) (told : list_all is_told past ≡ true) where
    pub accepted_tellable : list_all is_tellable (accepted_of c h past) ≡ true
    accepted_tellable = over_told (accepted_after c h) (λ xs. list_all is_tellable xs ≡ true) accepted_step [] past told refl

    offers_tellable : list_all (list_all is_tellable) (offers_of h past) ≡ true
    offers_tellable = over_told (offers_after h) (λ os. list_all (list_all is_tellable) os ≡ true) offers_step [] past told refl

    held_tellable : (kind : HeldKind) → list_all is_tellable (held_of h kind past) ≡ true
    held_tellable kind = over_told (held_after h kind) (λ xs. list_all is_tellable xs ≡ true) (held_step kind) [] past told refl

-- ---- what a payload asks

-- a host lists no tags
asks_tellable : HostRequest → Bool
asks_tellable (HostRequest.AddResponse more xs) = list_all is_tellable xs
asks_tellable (HostRequest.GiveBack more xs) = list_all is_tellable xs
asks_tellable q = true

-- and the manager gives a tag of sixteen bytes
gives_tag : FmRequest → Bool
gives_tag (FmRequest.Add host policy r bytes tag xs) = length tag.0 == 16
gives_tag q = true

passes : {Q : Type 0} → (Q → Bool) → Result Q PayloadFault → Bool
passes test (Ok q) = test q
passes test (Err fault) = true

if_passes : {Q : Type 0} (test : Q → Bool) (b : Bool) (r s : Result Q PayloadFault) → passes test r ≡ true → passes test s ≡ true → passes test (if b then r else s) ≡ true
if_passes test true r s one two = one
if_passes test false r s one two = two

listed_tellable : (ps : List (List ℕ)) → list_all is_tellable (map listed_extent ps) ≡ true
listed_tellable [] = refl
listed_tellable (p ∷ ps) = listed_tellable ps

response_passes : (fits more : Bool) (xs : List Extent) (fault : PayloadFault) → list_all is_tellable xs ≡ true → passes asks_tellable (of_list (λ more xs. HostRequest.AddResponse more xs) (if fits then Ok (more, xs) else Err fault)) ≡ true
unfolding passes asks_tellable
response_passes true more xs fault all = all
response_passes false more xs fault all = refl

return_passes : (fits more : Bool) (xs : List Extent) (fault : PayloadFault) → list_all is_tellable xs ≡ true → passes asks_tellable (of_list (λ more xs. HostRequest.GiveBack more xs) (if fits then Ok (more, xs) else Err fault)) ≡ true
unfolding passes asks_tellable
return_passes true more xs fault all = all
return_passes false more xs fault all = refl

asked_tellable : (opcode : ℕ) (payload : List ℕ) → passes asks_tellable (host_request opcode payload) ≡ true
unfolding host_request events_asked clear_asked configuration_asked extents_asked listed_in passes asks_tellable
asked_tellable opcode payload =
    if_passes asks_tellable (opcode == 0x0100) _ _ (if_passes asks_tellable (length payload == 1) _ _ refl refl) (
    if_passes asks_tellable (opcode == 0x0101) _ _ (if_passes asks_tellable (length payload == _) _ _ refl refl) (
    if_passes asks_tellable (opcode == 0x4800) _ _ (if_passes asks_tellable (length payload == 2) _ _ refl refl) (
    if_passes asks_tellable (opcode == 0x4801) _ _ (if_passes asks_tellable (length payload == 8) _ _ refl refl) (
    if_passes asks_tellable (opcode == 0x4802) _ _ (response_passes (length payload == list_length payload) (has_flag payload 4) (listed_extents payload) _ (listed_tellable (pieces 24 ((length payload - 8) / 24) (drop 8 payload)))) (
    if_passes asks_tellable (opcode == 0x4803) _ _ (return_passes (length payload == list_length payload) (has_flag payload 4) (listed_extents payload) _ (listed_tellable (pieces 24 ((length payload - 8) / 24) (drop 8 payload)))) refl)))))

-- a payload that places extents has thirty-two bytes at least
long_placed : (payload : List ℕ) → (length payload == placed_length payload) ≡ true → 32 ≤ length payload
long_placed payload is = by (ltb (length payload) 32) refl
  where
    by : (short : Bool) → ltb (length payload) 32 ≡ short → 32 ≤ length payload
    by true less = omega (arith, eqb-true (length payload) (placed_length payload) is, ap (λ b. if b then 32 else 32 + 40 * number_at w32 payload 28) less)
    by false more = ltb-false (length payload) 32 more

add_passes : (payload : List ℕ) (p : Placed) → p.tag ≡ tag_at payload 12 → (fits : Bool) (fault : PayloadFault) → (length payload == placed_length payload) ≡ fits → passes gives_tag (made_of to_add (if fits then Ok p else Err fault)) ≡ true
unfolding passes gives_tag
add_passes payload p tag true fault is = eq-eqb (length p.tag.0) 16 (ap (λ (t : Tag). length t.0) tag ∙ omega (arith, length-take 16 (drop 12 payload), length-drop 12 payload, long_placed payload is))
add_passes payload p tag false fault is = refl

remove_passes : (fits : Bool) (p : Placed) (fault : PayloadFault) → passes gives_tag (made_of to_remove (if fits then Ok p else Err fault)) ≡ true
unfolding passes gives_tag
remove_passes true p fault = refl
remove_passes false p fault = refl

tag_passes : (make : Tag → FmRequest) → ((t : Tag) → gives_tag (make t) ≡ true) → (fits : Bool) (t : Tag) (fault : PayloadFault) → passes gives_tag (made_of make (if fits then Ok t else Err fault)) ≡ true
unfolding passes
tag_passes make each true t fault = each t
tag_passes make each false t fault = refl

given_tag : (opcode : ℕ) (payload : List ℕ) → passes gives_tag (manager_request opcode payload) ≡ true
unfolding manager_request manager_events_asked manager_clear_asked info_asked regions_asked setting_asked lists_asked placed_in tag_in tags_asked passes gives_tag
given_tag opcode payload =
    if_passes gives_tag (opcode == 0x0100) _ _ (if_passes gives_tag (length payload == 1) _ _ refl refl) (
    if_passes gives_tag (opcode == 0x0101) _ _ (if_passes gives_tag (length payload == _) _ _ refl refl) (
    if_passes gives_tag (opcode == 0x5600) _ _ (if_passes gives_tag (length payload == 0) _ _ refl refl) (
    if_passes gives_tag (opcode == 0x5601) _ _ (if_passes gives_tag (length payload == 4) _ _ refl refl) (
    if_passes gives_tag (opcode == 0x5602) _ _ (if_passes gives_tag (length payload == 16) _ _ refl refl) (
    if_passes gives_tag (opcode == 0x5603) _ _ (if_passes gives_tag (length payload == 12) _ _ refl refl) (
    if_passes gives_tag (opcode == 0x5604) _ _ (add_passes payload _ refl (length payload == placed_length payload) _ refl) (
    if_passes gives_tag (opcode == 0x5605) _ _ (remove_passes (length payload == placed_length payload) _ _) (
    if_passes gives_tag (opcode == 0x5606) _ _ (tag_passes (λ t. FmRequest.AddReference t) (λ t. refl) (length payload == 16) _ _) (
    if_passes gives_tag (opcode == 0x5607) _ _ (tag_passes (λ t. FmRequest.RemoveReference t) (λ t. refl) (length payload == 16) _ _) (
    if_passes gives_tag (opcode == 0x5608) _ _ (if_passes gives_tag (length payload == 8) _ _ refl refl) refl))))))))))

-- ---- what a command tells

outcome_told : (c : Configuration) (past : List Effect) (o : Outcome) → list_all is_told o.changes ≡ true → list_all is_told (effects_of c past o) ≡ true
outcome_told c past o changes = outcome_passes is_told any_log (λ l is. record { logged = λ event. refl; missed = refl }) (λ t. refl) c past o changes (tells_any o.log_records)

unhold_told : (h : HostId) (kind : HeldKind) (xs : List Extent) → list_all is_told (unhold h kind xs) ≡ true
unhold_told h kind [] = refl
unhold_told h kind (x ∷ xs) = refl

hold_told : (h : HostId) (kind : HeldKind) (xs : List Extent) → list_all is_tellable xs ≡ true → list_all is_told (hold h kind xs) ≡ true
hold_told h kind [] all = refl
hold_told h kind (x ∷ xs) all = ap (λ b. b && true) all

dropped_told : (h : HostId) (v : View) (opcode : ℕ) → list_all is_told (dropped h v opcode) ≡ true
dropped_told h v opcode = if_kept (λ es. list_all is_told es ≡ true) (opcode == 0x4802) (unhold h HeldKind.Responses v.responses) _ (unhold_told h HeldKind.Responses v.responses)
    (if_kept (λ es. list_all is_told es ≡ true) (opcode == 0x4803) (unhold h HeldKind.Releases v.releases) [] (unhold_told h HeldKind.Releases v.releases) refl)

owner_tellable : (owners : List Extent) (x : Extent) → list_all is_tellable owners ≡ true → is_tellable x ≡ true → is_tellable (owner_of owners x) ≡ true
owner_tellable [] x all one = one
owner_tellable (y ∷ ys) x all one =
    let parts = and_parts (is_tellable y) (list_all is_tellable ys) all in
    elim (cases_Bool (lies_in x y)) [
      | inl here ↦ (let it : owner_of (y ∷ ys) x ≡ y = rw here refl in ap is_tellable it ∙ parts.0)
      | inr other ↦ (let it : owner_of (y ∷ ys) x ≡ owner_of ys x = rw other refl in ap is_tellable it ∙ owner_tellable ys x parts.1 one)
    ]

marked_tellable : (owners xs : List Extent) → list_all is_tellable owners ≡ true → list_all is_tellable xs ≡ true → list_all is_tellable (map (marked owners) xs) ≡ true
marked_tellable owners [] own all = refl
marked_tellable owners (x ∷ xs) own all =
    let parts = and_parts (is_tellable x) (list_all is_tellable xs) all in
    and_from (is_tellable (marked owners x)) (list_all is_tellable (map (marked owners) xs)) (owner_tellable owners x own parts.0) (marked_tellable owners xs own parts.1)

numbered_tellable : (shareable : Bool) (tag : Tag) → (length tag.0 == 16) ≡ true → (n : ℕ) (xs : List Extent) → n + length xs ≤ 65536 →
    list_all is_tellable (map (λ (x : ℕ × Extent). record x.1 { tag = tag; sequence = if shareable then x.0 else 0 }) (enumerate_from n xs)) ≡ true
numbered_tellable shareable tag long n [] few = refl
numbered_tellable shareable tag long n (x ∷ xs) few =
    and_from ((length tag.0 == 16) && nat_lt (if shareable then n else 0) 65536) _ (and_from (length tag.0 == 16) _ long (small shareable)) (numbered_tellable shareable tag long (n + 1) xs (omega (arith, few)))
  where
    small : (shareable : Bool) → nat_lt (if shareable then n else 0) 65536 ≡ true
    small true = lt-ltb n 65536 (omega (arith, few))
    small false = refl

module _ (c : Configuration) (journal : List Entry) (told : list_all is_told (effects journal) ≡ true) where
  abbrev past : List Effect
  past = effects journal

  module _ (h : HostId) where
    abbrev v : View
    v = view_of c h journal

    responded : (more : Bool) (xs : List Extent) → list_all is_tellable xs ≡ true → (offers : List (List Extent)) → list_all (list_all is_tellable) offers ≡ true →
        list_all is_told (respond_changes c h offers (view_of c h journal).responses more xs) ≡ true
    responded true xs all offers known = hold_told h HeldKind.Responses xs all
    responded false xs all [] known = both_pass is_told (unhold h HeldKind.Responses v.responses) [] (unhold_told h HeldKind.Responses v.responses) refl
    responded false xs all (offer ∷ later) known =
        let parts = and_parts (list_all is_tellable offer) (list_all (list_all is_tellable) later) known in
        both_pass is_told (unhold h HeldKind.Responses v.responses) (answered c h (offer ∷ later) (v.responses ++ xs)) (unhold_told h HeldKind.Responses v.responses)
        (and_from (list_all is_tellable (map (marked offer) (v.responses ++ xs))) _ (marked_tellable offer (v.responses ++ xs) parts.0 (both_tellable v.responses xs (held_tellable c h past told HeldKind.Responses) all))
        (map_passes is_told (λ x. Effect.Take h (run_of c h x)) (λ x. refl) (v.responses ++ xs)))

    given_back : (more : Bool) (xs : List Extent) → list_all is_tellable xs ≡ true → list_all is_told (host_outcome c h (view_of c h journal) (HostRequest.GiveBack more xs)).changes ≡ true
    given_back true xs all = hold_told h HeldKind.Releases xs all
    given_back false xs all = both_pass is_told (unhold h HeldKind.Releases v.releases) (leaves c h (v.releases ++ xs)) (unhold_told h HeldKind.Releases v.releases)
        (map_passes is_told (λ x. Effect.Leave h (run_of c h x)) (λ x. refl) (v.releases ++ xs))

    host_changes : (q : HostRequest) → asks_tellable q ≡ true → list_all is_told (host_outcome c h (view_of c h journal) q).changes ≡ true
    unfolding asks_tellable
    host_changes (HostRequest.GetEvents log) asks = refl
    host_changes (HostRequest.ClearEvents number all handles) asks = clear_passes is_told (LogId.Host h) (record { cleared = λ n. refl; reset = refl }) number v.log all handles
    host_changes (HostRequest.GetConfiguration count first) asks = refl
    host_changes (HostRequest.GetExtents count first) asks = refl
    host_changes (HostRequest.AddResponse more xs) asks = responded more xs asks v.offers (offers_tellable c h past told)
    host_changes (HostRequest.GiveBack more xs) asks = given_back more xs asks

    host_told : (opcode : ℕ) (read : Result HostRequest PayloadFault) → passes asks_tellable read ≡ true → list_all is_told (effects_with c (effects journal) (dropped h (view_of c h journal) opcode) (host_result c h (view_of c h journal) read)) ≡ true
    unfolding passes
    host_told opcode (Err fault) asks = dropped_told h v opcode
    host_told opcode (Ok q) asks = by (host_rule c h v q)
      where
        by : (rule : Option Rule) → list_all is_told (effects_with c (effects journal) (dropped h (view_of c h journal) opcode) (unless rule (host_outcome c h (view_of c h journal) q))) ≡ true
        by None = outcome_told c past (host_outcome c h v q) (host_changes q asks)
        by (Some rule) = dropped_told h v opcode

  added_told : (host policy r bytes : ℕ) (tag : Tag) (xs : List Extent) → (length tag.0 == 16) ≡ true → add_rule c (effects journal) (λ k. view_of c k journal) host policy r bytes tag xs ≡ None →
      list_all is_told (Effect.Offer host (offered c (effects journal) host policy r bytes tag xs) ∷ []) ≡ true
  added_told host policy r bytes tag xs long row =
      let few = (row_of c journal host policy r bytes tag xs row).few in
      let list : List Extent = chosen (present c past) (is_free_now c past) (tag_runs c (last_offer tag past)) host policy r bytes xs in
      let size : length (offered c past host policy r bytes tag xs) ≡ length list = length-map (enumerate_from 1 list) _ ∙ length-enumerate_from 1 list in
      ap (λ b. b && true) (numbered_tellable (region_spec c r).shareable tag long 1 list (omega (arith, few, size)))

  manager_changes : (q : FmRequest) → gives_tag q ≡ true → manager_rule c (effects journal) (λ k. view_of c k journal) q ≡ None → list_all is_told (manager_outcome c (effects journal) (λ k. view_of c k journal) q).changes ≡ true
  unfolding gives_tag
  manager_changes (FmRequest.GetEvents log) tag row = refl
  manager_changes (FmRequest.ClearEvents number all handles) tag row = clear_passes is_told LogId.Manager (record { cleared = λ n. refl; reset = refl }) number (log_of LogId.Manager past) all handles
  manager_changes FmRequest.GetInfo tag row = refl
  manager_changes (FmRequest.GetRegions host count first) tag row = refl
  manager_changes (FmRequest.SetRegion r sanitize size) tag row = refl
  manager_changes (FmRequest.GetExtentLists host count first) tag row = refl
  manager_changes (FmRequest.Add host policy r bytes name xs) tag row = added_told host policy r bytes name xs tag row
  manager_changes (FmRequest.Remove host flags r bytes name xs) tag row = removals_pass is_told host (λ run. refl) (λ run. refl) c (is_forced flags) (is_cleaning flags) (removed (view_of c host journal).accepted flags name xs)
  manager_changes (FmRequest.AddReference name) tag row = reference_passes is_told name refl (is_referenced name past)
  manager_changes (FmRequest.RemoveReference name) tag row = refl
  manager_changes (FmRequest.ListTags first count) tag row = refl

  manager_told : (read : Result FmRequest PayloadFault) → passes gives_tag read ≡ true → list_all is_told (effects_with c (effects journal) [] (manager_result c journal read)) ≡ true
  unfolding passes
  manager_told (Err fault) tag = refl
  manager_told (Ok q) tag = by (manager_rule c past (λ k. view_of c k journal) q) refl
    where
      by : (rule : Option Rule) → manager_rule c (effects journal) (λ k. view_of c k journal) q ≡ rule →
          list_all is_told (effects_with c (effects journal) [] (unless rule (manager_outcome c (effects journal) (λ k. view_of c k journal) q))) ≡ true
      by None row = outcome_told c past (manager_outcome c past (λ k. view_of c k journal) q) (manager_changes q tag row)
      by (Some rule) row = refl

  answer_told : (actor : Actor) (act : Act) → list_all is_told (right_answer c journal actor act).1 ≡ true
  answer_told (Actor.Host h) (Act.Load d) = refl
  answer_told (Actor.Host h) (Act.Store d value) = refl
  answer_told (Actor.Host h) (Act.Command q) = host_told h q.opcode (host_request q.opcode q.payload) (asked_tellable q.opcode q.payload)
  answer_told (Actor.Host h) (Act.Scrub n) = refl
  answer_told Actor.Manager (Act.Load d) = refl
  answer_told Actor.Manager (Act.Store d value) = refl
  answer_told Actor.Manager (Act.Command q) = manager_told (manager_request q.opcode q.payload) (given_tag q.opcode q.payload)
  answer_told Actor.Manager (Act.Scrub n) = refl
  answer_told Actor.Sanitizer (Act.Load d) = refl
  answer_told Actor.Sanitizer (Act.Store d value) = refl
  answer_told Actor.Sanitizer (Act.Command q) = refl
  answer_told Actor.Sanitizer (Act.Scrub n) = zeroes_pass is_told (λ run. refl) c (scrubbed c past n)

-- Every legal journal tells of such extents alone.
pub legal_told : (c : Configuration) (journal : List Entry) → Legal c journal → list_all is_told (effects journal) ≡ true
legal_told c = by_steps c (λ journal. list_all is_told (effects journal) ≡ true) refl (λ before e legal told meets.
    ap (list_all is_told) (effects-push before e ∙ ap (λ new. effects before ++ new) meets.effects)
    ∙ both_pass is_told (effects before) (right_answer c before e.actor e.act).1 told (answer_told c before told e.actor e.act))
