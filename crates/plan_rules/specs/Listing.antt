-- The list of a plan, part by part.
use Rattle.std.specs.Prelude.{ℕ, ◌+◌, ◌-◌, ◌*◌, ◌==◌, false, List, [], ◌∷◌, ◌++◌, length, map, flat_map, min, replicate, take, reverse, if◌then◌else◌}
use Rattle.dcd_base.specs.{Layouts.spelling, Words.is_empty, Words.zero_tag, declared.capacity.Extent.Extent, declared.ids.HostId.HostId, declared.steps.Actor.Actor, declared.steps.LogId.LogId}
use Rattle.event_records.specs.declared.events.Event.{Event}
use Rattle.host_payloads.specs.{declared.requests.HostRequest.HostRequest, HostPayloads.host_fields, HostPayloads.host_opcode}
use Rattle.fm_payloads.specs.{declared.requests.FmRequest.FmRequest, ManagerPayloads.manager_fields, ManagerPayloads.manager_opcode}
use Rattle.region_config.specs.{Configurations.Configuration, Granules.regions_of}
use Rattle.journal_core.specs.{Entries.effects, declared.acts.Act.Act, declared.outcome.Effect.Effect, declared.entries.Entry.Entry}
use Rattle.isolation_laws.specs.device_rules.specs.{Counts.dirty_count, Counts.records_of, Hosts.block_of, Hosts.offers_of}
use Rattle.plan_rules.specs.{Holding.Step, Holding.extents_in_region, Holding.gain, Holding.stepped, Holding.surplus, declared.demands.Demand.Demand, declared.demands.Demands.Demands}

-- ---- messages; all have the message tag 0

abbrev pub by_host : HostId → HostRequest → Step
by_host h q = (Actor.Host h, Act.Command (record { tag = 0; opcode = host_opcode q; payload = spelling (host_fields q) }))

abbrev pub by_manager : FmRequest → Step
by_manager q = (Actor.Manager, Act.Command (record { tag = 0; opcode = manager_opcode q; payload = spelling (manager_fields q) }))

-- what a host's message says of an extent
abbrev pub listed : Extent → Extent
listed x = record x { tag = zero_tag; sequence = 0 }

-- an act, but for an empty list
abbrev pub for_some : {X : Type 0} → List X → Step → List Step
for_some xs act = if is_empty xs then [] else act ∷ []

-- ---- part 1: a dead host lets all go

-- 0101h with these handles of its log
abbrev pub clear_step : HostId → List ℕ → Step
clear_step h handles = by_host h (HostRequest.ClearEvents 4 false handles)

-- an empty 4802h
abbrev pub refusal_step : HostId → Step
refusal_step h = by_host h (HostRequest.AddResponse false [])

-- 5605h: these extents of a region are forced out as they stand in its list
abbrev pub removal_step : HostId → ℕ → List Extent → Step
removal_step h r xs = by_manager (FmRequest.Remove h 17 r 0 zero_tag xs)

-- 0101h with all handles, where there are any; an empty 4802h for each offer; 5605h with all extents of a region, where
-- there are any
abbrev pub clearing : HostId → List Effect → List Step
clearing h past = let handles = map (λ (e : Event). e.handle) (records_of (LogId.Host h) past) in for_some handles (clear_step h handles)

abbrev pub refusals : HostId → List Effect → List Step
refusals h past = replicate (length (offers_of h past)) (refusal_step h)

abbrev pub removal : Configuration → HostId → List Effect → ℕ → List Step
removal c h past r = let xs = extents_in_region c h r past in for_some xs (removal_step h r xs)

abbrev pub let_go : Configuration → List Effect → HostId → List Step
let_go c past h = clearing h past ++ refusals h past ++ flat_map (removal c h past) (regions_of c)

-- ---- part 2: a host gives back what it has above its demand

-- so many of the last bytes of an extent, or all where it has no more
abbrev pub last_part : ℕ → Extent → Extent
last_part n x = let part = min n x.length in record (listed x) { start = x.start + (x.length - part); length = part }

-- so many of the last bytes of extents that stand with the last one first: each whole but the last that is listed
abbrev pub last_bytes : ℕ → List Extent → List Extent
last_bytes n [] = []
last_bytes n (x ∷ xs) = if n == 0 then [] else last_part n x ∷ last_bytes (n - x.length) xs

-- 4803h with so many of the last bytes of these extents
abbrev pub return_step : HostId → ℕ → List Extent → Step
return_step h n xs = by_host h (HostRequest.GiveBack false (last_bytes n (reverse xs)))

abbrev pub give_back_surplus : Configuration → List Effect → Demand → List Step
give_back_surplus c past x = let n = surplus c past x in
    if n == 0 then []
    else return_step x.host (n * block_of c x.region past) (extents_in_region c x.host x.region past) ∷ []

-- parts 1 and 2: both are read off the journal before the list
abbrev pub losing : Configuration → List Effect → Demands → List Step
losing c past q = flat_map (let_go c past) q.dead ++ flat_map (give_back_surplus c past) q.demands

-- ---- part 3: all that is dirty then is zeroed

abbrev pub zeroing : Configuration → List Effect → List Step
zeroing c past = let n = dirty_count c past in
    if n == 0 then [] else (Actor.Sanitizer, Act.Scrub n) ∷ []

-- the first three parts, and the journal after them
abbrev pub prepared : Configuration → List Entry → Demands → List Step
prepared c journal q = let first = losing c (effects journal) q in
    first ++ zeroing c (effects (stepped c journal first))

abbrev pub ready : Configuration → List Entry → Demands → List Entry
ready c journal q = stepped c journal (prepared c journal q)

-- ---- part 4: a host is offered what it has below its demand, and takes it

-- 5604h Free of so many bytes of a region, with no tag
abbrev pub add_step : HostId → ℕ → ℕ → Step
add_step h r bytes = by_manager (FmRequest.Add h 0 r bytes zero_tag [])

-- 4802h with all of these extents
abbrev pub accept_step : HostId → List Extent → Step
accept_step h offer = by_host h (HostRequest.AddResponse false (map listed offer))

abbrev pub added : Configuration → List Effect → Demand → Step
added c past x = add_step x.host x.region (gain c past x * block_of c x.region past)

-- all extents of the oldest offer
abbrev pub offer_taken : HostId → List Effect → Step
offer_taken h past = accept_step h (flat_map (λ offer. offer) (take 1 (offers_of h past)))

-- the two acts of a demand behind this journal; what is gained is told by `before`, the effects before the list
abbrev pub gained : Configuration → List Effect → List Entry → Demand → List Step
gained c before journal x = let add = added c before x in
    if gain c before x == 0 then []
    else add ∷ offer_taken x.host (effects (stepped c journal (add ∷ []))) ∷ []

abbrev pub gaining : Configuration → List Effect → List Entry → List Demand → List Step
gaining c before journal [] = []
gaining c before journal (x ∷ xs) = let acts = gained c before journal x in
    acts ++ gaining c before (stepped c journal acts) xs

-- ---- the list

abbrev pub planned : Configuration → List Entry → Demands → List Step
planned c journal q = prepared c journal q ++ gaining c (effects journal) (ready c journal q) q.demands
