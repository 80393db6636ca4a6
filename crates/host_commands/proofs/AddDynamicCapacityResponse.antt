-- A response that breaks no rule is its outcome.
use Rattle.std.proofs.Common.{◌≡◌, ℕ, ◌<◌, Bool, true, false, List, [], ◌∷◌, ◌++◌, length, map, None, refl, ap, sym, subst, ◌∙◌, append-nil, arith}
use Rattle.std.specs.Prelude.{All}
use Rattle.cci_codec.specs.dcd_base.specs.declared.{ids.HostId.HostId, capacity.Extent.Extent, steps.LogId.LogId}
use Rattle.event_records.specs.declared.events.EventKind.{EventKind}
use Rattle.extent_list.specs.{ExtentLists.marked, ExtentLists.tags_of, HostLists.Lists, media_map.specs.Places.run_of, media_map.specs.region_config.specs.Configurations.Configuration}
use Rattle.extent_list.specs.media_map.specs.region_config.specs.{Granules.with_blocks, Soundness.IsSound}
use Rattle.journal_core.specs.declared.outcome.{Effect.Effect, HeldKind.HeldKind}
use Rattle.offer_core.specs.{Offerings.oldest_of, Responses.respond_rule}
use Rattle.device_commands.specs.{Drafts.Drafts, ListDrafts.Tells, declared.draft.Draft.Draft, device_rules.proofs.Homes.run_same, device_rules.specs.Outcomes.records_of_extents}
use Rattle.device_commands.specs.device_rules.specs.ResponseOutcomes.{hold, respond_changes, respond_outcome, response_records, unhold}
use Rattle.device_commands.specs.device_rules.specs.Views.{View, view_after, lists_in}
use Rattle.host_commands.proofs.ListedExtents.{Granular, marked_granular, response_granular}
use Rattle.host_commands.specs.AddDynamicCapacityResponse.{IsAnswered, takes, told_extents, told_of}

-- the same runs are taken
takes_same : (c : Configuration) (b : ℕ → ℕ) (h : HostId) (offer xs : List Extent) → takes (with_blocks c b) h (map (marked offer) xs) ≡ map (λ x. Effect.Take h (run_of c h x)) xs
takes_same c b h offer [] = refl
takes_same c b h offer (x ∷ xs) = λ i. Effect.Take h (run_same c b h x i) ∷ takes_same c b h offer xs i

-- the same is told
told_same : (c : Configuration) (h : HostId) (w : View) (offer : List Extent) (later : List (List Extent)) (all : List Extent)
    → (LogId.Manager, told_of h w (map (marked offer) all)) ∷ [] ≡ response_records c h w (offer ∷ later) all
told_same c h w offer later [] = refl
told_same c h w offer later (x ∷ xs) = refl

-- what is told of, and what is told of that
pub told_each : (h : HostId) (w : View) (accepted : List Extent) → records_of_extents h w EventKind.AddResponse (told_extents accepted) ≡ told_of h w accepted
told_each h w [] = refl
told_each h w (x ∷ xs) = refl

-- what is accepted of the oldest of these offers
abbrev accepted_of : List (List Extent) → List Extent → List Extent
accepted_of offers all = map (marked (oldest_of offers)) all

-- the draft, where there is an offer
answers : (c : Configuration) (h : HostId) (v : View) (offers : List (List Extent)) (list : List Extent) (d : Draft) → 0 < length offers
    → Tells (unhold h HeldKind.Responses v.responses ++ Effect.Answer h (accepted_of offers (v.responses ++ list)) ∷ takes (with_blocks c v.block) h (accepted_of offers (v.responses ++ list)))
    (tags_of (oldest_of offers)) LogId.Manager (λ w. told_of h w (accepted_of offers (v.responses ++ list))) d
    → Drafts c h (record v { offers = offers }) (respond_outcome c h (record v { offers = offers }) false list) d
answers c h v [] list d some t = absurd (omega (arith, some))
answers c h v (offer ∷ later) list d some t =
    let all : List Extent = v.responses ++ list in
    let w : View = view_after c h (record v { offers = offer ∷ later }) (respond_changes c h (offer ∷ later) v.responses false list) in
    let same = ap (λ es. unhold h HeldKind.Responses v.responses ++ Effect.Answer h (map (marked offer) all) ∷ es) (takes_same c v.block h offer all) in
    record {
      payload = t.payload;
      changes = t.changes_are ∙ same;
      tags = t.tags_are;
      log_records = t.log_records w ∙ told_same c h w offer later all;
    }

-- the oldest offer is answered
pub answered_drafts : (c p : Configuration) (h : HostId) (v : View) (lists : Lists) (list accepted : List Extent) (more : Bool) (d : Draft)
    → p ≡ with_blocks c v.block → lists ≡ lists_in v → more ≡ false → 0 < length lists.offers → accepted ≡ map (marked (oldest_of lists.offers)) (lists.responses ++ list)
    → IsAnswered p h lists accepted d → Drafts c h v (respond_outcome c h v more list) d
answered_drafts c p h v lists list accepted more d present shows last some marks tells =
    let some_now : 0 < length v.offers = subst (λ (ls : Lists). 0 < length ls.offers) shows some in
    let marks_now : accepted ≡ map (marked (oldest_of v.offers)) (v.responses ++ list) = marks ∙ ap (λ (ls : Lists). map (marked (oldest_of ls.offers)) (ls.responses ++ list)) shows in
    let told = subst (λ (q : Configuration × (List Extent × Lists)). Tells (unhold h HeldKind.Responses q.1.1.responses ++ Effect.Answer h q.1.0 ∷ takes q.0 h q.1.0) (tags_of (oldest_of q.1.1.offers)) LogId.Manager (λ w. told_of h w q.1.0) d)
    (λ i. (present i, (marks_now i, shows i))) tells in
    subst (λ (b : Bool). Drafts c h v (respond_outcome c h v b list) d) (sym last) (answers c h v v.offers list d some_now told)

-- more is to come
pub held_response : (c : Configuration) (h : HostId) (v : View) (list : List Extent) (more : Bool) (d : Draft)
    → more ≡ true → d ≡ record { payload = []; changes = hold h HeldKind.Responses list; tags = []; log_records = [] } → Drafts c h v (respond_outcome c h v more list) d
held_response c h v list more d goes_on is =
    subst (λ (b : Bool). Drafts c h v (respond_outcome c h v b list) d) (sym goes_on)
    (subst (λ (e : Draft). Drafts c h v (respond_outcome c h v true list) e) (sym is) (record { payload = refl; changes = refl; tags = refl; log_records = refl }))

-- there is no offer
nothing : (c : Configuration) (h : HostId) (v : View) (offers : List (List Extent)) (list : List Extent) (d : Draft) → length offers ≡ 0
    → d ≡ record { payload = []; changes = unhold h HeldKind.Responses v.responses; tags = []; log_records = [] } → Drafts c h (record v { offers = offers }) (respond_outcome c h (record v { offers = offers }) false list) d
nothing c h v [] list d none is =
    subst (λ (e : Draft). Drafts c h (record v { offers = [] }) (respond_outcome c h (record v { offers = [] }) false list) e) (sym is)
    (record { payload = refl; changes = sym (append-nil (unhold h HeldKind.Responses v.responses)); tags = refl; log_records = refl })
nothing c h v (offer ∷ later) list d none is = absurd (omega (arith, none))

pub nothing_response : (c : Configuration) (h : HostId) (v : View) (lists : Lists) (list : List Extent) (more : Bool) (d : Draft)
    → lists ≡ lists_in v → more ≡ false → length lists.offers ≡ 0 → d ≡ record { payload = []; changes = unhold h HeldKind.Responses lists.responses; tags = []; log_records = [] }
    → Drafts c h v (respond_outcome c h v more list) d
nothing_response c h v lists list more d shows last none is =
    subst (λ (b : Bool). Drafts c h v (respond_outcome c h v b list) d) (sym last)
    (nothing c h v v.offers list d (subst (λ (ls : Lists). length ls.offers ≡ 0) shows none)
    (is ∙ ap (λ (ls : Lists). record { payload = []; changes = unhold h HeldKind.Responses ls.responses; tags = []; log_records = [] }) shows))

-- accepted extents are made of granules
pub accepted_granular : (p : Configuration) (h : HostId) (lists : Lists) (list accepted : List Extent) (more : Bool) → respond_rule p h (length lists.accepted) lists.offers lists.responses more list ≡ None
    → IsSound p → h < p.hosts → more ≡ false → accepted ≡ map (marked (oldest_of lists.offers)) (lists.responses ++ list) → All (Granular p h) accepted
accepted_granular p h lists list accepted more row sound host last marks =
    subst (λ xs. All (Granular p h) xs) (sym marks)
    (marked_granular p h (oldest_of lists.offers) (lists.responses ++ list)
    (response_granular p h sound host (length lists.accepted) lists.offers lists.responses list
    (subst (λ m. respond_rule p h (length lists.accepted) lists.offers lists.responses m list ≡ None) last row)))
