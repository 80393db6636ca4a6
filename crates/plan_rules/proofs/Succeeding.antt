-- Where a plan has no fault, each act of its list is answered Success.
use Rattle.std.proofs.Common.{◌≡◌, ℕ, zero, suc, ◌<◌, Bool, true, ◌&&◌, List, [], ◌∷◌, ◌++◌, length, Option, Some, None, refl, sym, ap, subst, ◌∙◌, append_assoc, append-nil, arith}
use Rattle.std.specs.Prelude.{All, false, replicate, IsTrue, drop, flat_map, if◌then◌else◌, is_some, map, option_and_then, option_map, ◌==◌}
use Rattle.std.proofs.{Math.Seq.drop-append_seam, lemmas.Bool.and_parts, lemmas.List.Elements.All-cons, lemmas.List.Elements.All-nil, lemmas.List.Folds.list_all-append}
use Rattle.std.specs.{List.find, List.list_all, List.range_with_len, Result.result_err, declared.result.Result.Result, declared.result.Result.TheVariants.Ok, declared.result.Result.TheVariants.Err}
use Rattle.dcd_base.specs.{Words.◌or◌, Words.is_empty, declared.ids.HostId.HostId, declared.steps.LogId.LogId, declared.steps.Actor.Actor}
use Rattle.event_records.specs.declared.events.Event.{Event}
use Rattle.dcd_codes.specs.declared.rules.Rule.{Rule}
use Rattle.cci_codec.specs.declared.messages.Request.{Request}
use Rattle.media_map.proofs.PlaceLemmas.{none_found}
use Rattle.region_config.specs.{Configurations.Configuration, Granules.regions_of}
use Rattle.journal_core.specs.{Entries.effects, declared.acts.Act.Act, declared.entries.Entry.Entry, declared.outcome.Effect.Effect}
use Rattle.isolation_laws.specs.device_rules.specs.{Answers.answer, Answers.broken, Answers.host_result_in, Answers.manager_result, Answers.reply_with, Counts.dirty_count, Counts.records_of}
use Rattle.isolation_laws.specs.device_rules.specs.{Hosts.offers_of, Outcomes.Outcome, Views.view_of}
use Rattle.fm_payloads.specs.ManagerPayloads.{manager_request}
use Rattle.plan_rules.specs.Holding.{Step, entry_of_step, extents_in_region, gain, is_planned_step, stepped, surplus}
use Rattle.plan_rules.specs.{Planning.AllSucceed, Planning.broken_at, Planning.is_success, Planning.plan_fault, Planning.refused_in, declared.demands.Demand.Demand, declared.demands.Demands.Demands}
use Rattle.plan_rules.specs.declared.faults.PlanFault.{PlanFault}
use Rattle.plan_rules.specs.Listing.{refusal_step, clearing, gained, gaining, give_back_surplus, let_go, losing, planned, ready, refusals, removal, zeroing}

-- ---- small steps

both : (xs ys : List Step) → list_all is_planned_step xs ≡ true → list_all is_planned_step ys ≡ true → list_all is_planned_step (xs ++ ys) ≡ true
both xs ys first second = list_all-append is_planned_step xs ys ∙ (λ i. first i && second i)

if_empty : {X : Type 0} (xs : List X) (acts : List Step) → list_all is_planned_step acts ≡ true → list_all is_planned_step (if is_empty xs then [] else acts) ≡ true
if_empty [] acts each = refl
if_empty (x ∷ xs) acts each = each

if_else : (test : Bool) (acts : List Step) → list_all is_planned_step acts ≡ true → list_all is_planned_step (if test then [] else acts) ≡ true
if_else true acts each = refl
if_else false acts each = each

-- ---- what an act that breaks no rule is answered

success : (q : Request) (r : Result Outcome Rule) → result_err r ≡ None → IsTrue (is_success (reply_with q r))
success q (Ok o) none = refl
success q (Err rule) none = absurd (cc)

succeeds : (c : Configuration) (before : List Entry) (s : Step) → is_planned_step s ≡ true → broken c before s.0 s.1 ≡ None → IsTrue (is_success (answer c before s.0 s.1).0)
succeeds c before (Actor.Host h, Act.Command q) is none = success q (host_result_in c h (view_of c h before) q) none
succeeds c before (Actor.Manager, Act.Command q) is none = success q (manager_result c before (manager_request q.opcode q.payload)) none
succeeds c before (Actor.Sanitizer, Act.Scrub n) is none = refl
succeeds c before (Actor.Host h, Act.Load d) is none = absurd (cc)
succeeds c before (Actor.Host h, Act.Store d value) is none = absurd (cc)
succeeds c before (Actor.Host h, Act.Scrub n) is none = absurd (cc)
succeeds c before (Actor.Manager, Act.Load d) is none = absurd (cc)
succeeds c before (Actor.Manager, Act.Store d value) is none = absurd (cc)
succeeds c before (Actor.Manager, Act.Scrub n) is none = absurd (cc)
succeeds c before (Actor.Sanitizer, Act.Command q) is none = absurd (cc)
succeeds c before (Actor.Sanitizer, Act.Load d) is none = absurd (cc)
succeeds c before (Actor.Sanitizer, Act.Store d value) is none = absurd (cc)

-- ---- the entries of a list of acts

new_entries : Configuration → List Entry → List Step → List Entry
new_entries c journal [] = []
new_entries c journal (s ∷ acts) = entry_of_step c journal s ∷ new_entries c (journal ++ entry_of_step c journal s ∷ []) acts

stepped_is : (c : Configuration) (journal : List Entry) (acts : List Step) → stepped c journal acts ≡ journal ++ new_entries c journal acts
unfolding new_entries
stepped_is c journal [] = sym (append-nil journal)
stepped_is c journal (s ∷ acts) = stepped_is c (journal ++ entry_of_step c journal s ∷ []) acts
    ∙ append_assoc journal (entry_of_step c journal s ∷ []) (new_entries c (journal ++ entry_of_step c journal s ∷ []) acts)

Succeeded : Entry → Type 0
Succeeded e = IsTrue (is_success e.reply)

new_succeed : (c : Configuration) (journal : List Entry) (acts : List Step) → list_all is_planned_step acts ≡ true →
    ((k : ℕ) → k < length acts → broken_at c journal acts k ≡ None) → All Succeeded (new_entries c journal acts)
unfolding new_entries Succeeded
new_succeed c journal [] each none = All-nil Succeeded
new_succeed c journal (s ∷ acts) each none = All-cons Succeeded (entry_of_step c journal s) (new_entries c next acts)
    (succeeds c journal s (and_parts (is_planned_step s) (list_all is_planned_step acts) each).0 (none 0 (omega arith)))
    (new_succeed c next acts (and_parts (is_planned_step s) (list_all is_planned_step acts) each).1 (λ k below. none (suc k) (omega (arith, below))))
  where
    next : List Entry
    next = journal ++ entry_of_step c journal s ∷ []

-- ---- what kind of acts a list has

each_of : {X : Type 0} (f : X → List Step) (xs : List X) → ((x : X) → list_all is_planned_step (f x) ≡ true) → list_all is_planned_step (flat_map f xs) ≡ true
each_of f [] each = refl
each_of f (x ∷ xs) each = both (f x) (flat_map f xs) (each x) (each_of f xs each)

clearing_acts : (h : HostId) (past : List Effect) → list_all is_planned_step (clearing h past) ≡ true
clearing_acts h past = if_empty (map (λ (e : Event). e.handle) (records_of (LogId.Host h) past)) _ refl

refusals_acts : (h : HostId) (n : ℕ) → list_all is_planned_step (replicate n (refusal_step h)) ≡ true
refusals_acts h zero = refl
refusals_acts h (suc n) = refusals_acts h n

let_go_acts : (c : Configuration) (past : List Effect) (h : HostId) → list_all is_planned_step (let_go c past h) ≡ true
let_go_acts c past h =
    both (clearing h past ++ refusals h past) (flat_map (removal c h past) (regions_of c))
    (both (clearing h past) (refusals h past) (clearing_acts h past) (refusals_acts h (length (offers_of h past))))
    (each_of (removal c h past) (regions_of c) (λ r. if_empty (extents_in_region c h r past) _ refl))

given_acts : (c : Configuration) (past : List Effect) (x : Demand) → list_all is_planned_step (give_back_surplus c past x) ≡ true
given_acts c past x = if_else (surplus c past x == 0) _ refl

losing_acts : (c : Configuration) (past : List Effect) (q : Demands) → list_all is_planned_step (losing c past q) ≡ true
losing_acts c past q = both (flat_map (let_go c past) q.dead) (flat_map (give_back_surplus c past) q.demands)
    (each_of (let_go c past) q.dead (let_go_acts c past)) (each_of (give_back_surplus c past) q.demands (given_acts c past))

gaining_acts : (c : Configuration) (before : List Effect) (journal : List Entry) (xs : List Demand) → list_all is_planned_step (gaining c before journal xs) ≡ true
gaining_acts c before journal [] = refl
gaining_acts c before journal (x ∷ xs) = both (gained c before journal x) (gaining c before (stepped c journal (gained c before journal x)) xs)
    (if_else (gain c before x == 0) _ refl) (gaining_acts c before (stepped c journal (gained c before journal x)) xs)

planned_acts : (c : Configuration) (journal : List Entry) (q : Demands) → list_all is_planned_step (planned c journal q) ≡ true
planned_acts c journal q =
    both (losing c (effects journal) q ++ zeroing c (effects (stepped c journal (losing c (effects journal) q)))) (gaining c (effects journal) (ready c journal q) q.demands)
    (both (losing c (effects journal) q) (zeroing c (effects (stepped c journal (losing c (effects journal) q)))) (losing_acts c (effects journal) q)
    (if_else (dirty_count c (effects (stepped c journal (losing c (effects journal) q))) == 0) _ refl))
    (gaining_acts c (effects journal) (ready c journal q) q.demands)

-- ---- no fault

-- the last of the faults is none
last_none : {X : Type 0} (a b : Option X) → (a or b) ≡ None → b ≡ None
last_none None b none = none
last_none (Some x) b none = absurd (cc)

not_none : {X : Type 0} (x : X) → Some x ≡ None → ⊥
not_none x e = cc

-- where no act's fault is found, no act has one
none_found_at : {F : Type 0} (b : ℕ → Option Rule) (fault : ℕ → Rule → F) (ks : List ℕ) →
    option_and_then (λ i. option_map (fault i) (b i)) (find (λ i. is_some (b i)) ks) ≡ None → find (λ i. is_some (b i)) ks ≡ None
none_found_at b fault [] none = refl
none_found_at b fault (k ∷ ks) none = found_at (b k) refl (find (λ i. is_some (b i)) ks) none (none_found_at b fault ks)
  where
    found_at : (r : Option Rule) → b k ≡ r → (rest : Option ℕ) →
        option_and_then (λ i. option_map (fault i) (b i)) (if is_some r then Some k else rest) ≡ None →
        (option_and_then (λ i. option_map (fault i) (b i)) rest ≡ None → rest ≡ None) → (if is_some r then Some k else rest) ≡ None
    found_at None is rest none more = more none
    found_at (Some rule) is rest none more = absurd (not_none (fault k rule) (sym (ap (option_map (fault k)) is) ∙ none))

is_none_by : (r : Option Rule) → is_some r ≡ false → r ≡ None
is_none_by None is = refl
is_none_by (Some rule) is = absurd (cc)

pub none_broken : (c : Configuration) (journal : List Entry) (acts : List Step) → refused_in c journal acts ≡ None → (k : ℕ) → k < length acts → broken_at c journal acts k ≡ None
none_broken c journal acts none k below = is_none_by (broken_at c journal acts k)
    (none_found (λ i. is_some (broken_at c journal acts i)) 0 (length acts) (none_found_at (broken_at c journal acts) PlanFault.Refused (range_with_len 0 (length acts)) none) k (omega arith) (omega (arith, below)))

pub all_succeed : (c : Configuration) (journal : List Entry) (q : Demands) → plan_fault c journal q ≡ None → AllSucceed c journal (planned c journal q)
unfolding new_entries Succeeded
all_succeed c journal q none =
    subst (λ entries. All Succeeded (drop (length journal) entries)) (sym (stepped_is c journal acts))
    (subst (All Succeeded) (sym (drop-append_seam journal (new_entries c journal acts)))
    (new_succeed c journal acts (planned_acts c journal q) (none_broken c journal acts (last_none _ _ none))))
  where
    acts : List Step
    acts = planned c journal q
