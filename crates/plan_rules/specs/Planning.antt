-- Why there is no plan, and what planning answers.
use Rattle.std.specs.Prelude.{◌≡◌, ℕ, Bool, true, false, ◌==◌, ◌&&◌, ◌||◌, not, nat_le, nat_lt, List, length, take, drop, sum_by, Option, Some, None, is_some, option_map, option_and_then, slice_get, slice_index_or, if◌then◌else◌, Result, Ok, Err, IsTrue, All}
use Rattle.std.specs.List.{find, list_any, range_with_len}
use Rattle.dcd_base.specs.{Words.◌or◌, Words.is_empty, declared.ids.HostId.HostId}
use Rattle.dcd_codes.specs.declared.rules.Rule.{Rule}
use Rattle.region_config.specs.{Configurations.Configuration, Granules.region_spec}
use Rattle.journal_core.specs.{Entries.effects, declared.acts.Reply.Reply, declared.entries.Entry.Entry, declared.outcome.Effect.Effect, declared.outcome.HeldKind.HeldKind}
use Rattle.isolation_laws.specs.device_rules.specs.{Adding.region_free_blocks, Adding.is_free_now, Adding.present, Answers.broken, Hosts.held_of, Hosts.offers_of}
use Rattle.plan_rules.specs.{Holding.Step, Holding.gain, Holding.stepped, Listing.planned, Listing.ready, declared.demands.Demand.Demand, declared.demands.Demands.Demands}
use Rattle.plan_rules.specs.declared.faults.PlanFault.{PlanFault}

-- the first number below n of which it is true
abbrev pub lowest_below : (ℕ → Bool) → ℕ → Option ℕ
lowest_below is n = find is (range_with_len 0 n)

abbrev pub has_number : List ℕ → ℕ → Bool
has_number ns n = list_any (λ m. m == n) ns

-- ---- 1 and 2: what is named

abbrev pub no_demand : Demand
no_demand = record { host = 0; region = 0; blocks = 0 }

abbrev pub same_place : Demand → Demand → Bool
same_place x y = (x.host == y.host) && (x.region == y.region)

-- the demand names no host, no region or a shareable one, repeats one before it, or names a dead host
abbrev pub is_bad_demand : Configuration → Demands → ℕ → Bool
is_bad_demand c q i = let x = slice_index_or q.demands i no_demand in
    nat_le c.hosts x.host || nat_le (length c.regions) x.region || (region_spec c x.region).shareable
    || list_any (same_place x) (take i q.demands) || has_number q.dead x.host

-- the member names no host, or repeats one before it
abbrev pub is_bad_dead : Configuration → Demands → ℕ → Bool
is_bad_dead c q i = let h = slice_index_or q.dead i 0 in
    nat_le c.hosts h || has_number (take i q.dead) h

-- ---- 3: what is open

abbrev pub is_demanded : Demands → HostId → Bool
is_demanded q h = list_any (λ (x : Demand). x.host == h) q.demands

abbrev pub has_held : HostId → List Effect → Bool
has_held h past = not (is_empty (held_of h HeldKind.Responses past)) || not (is_empty (held_of h HeldKind.Releases past))

-- a held list of a dead or demanded host, or an unanswered offer of a demanded one
abbrev pub is_open : List Effect → Demands → HostId → Bool
is_open past q h = (has_held h past && (has_number q.dead h || is_demanded q h)) || (is_demanded q h && not (is_empty (offers_of h past)))

-- ---- 4: what is short

-- the blocks to gain in a region
abbrev pub need_in : Configuration → List Effect → Demands → ℕ → ℕ
need_in c past q r = sum_by (λ x. if x.region == r then gain c past x else 0) q.demands

-- the free blocks of a region
abbrev pub free_in : Configuration → List Effect → ℕ → ℕ
free_in c past r = region_free_blocks (present c past) (is_free_now c past) r

-- the blocks that are free once what is to be lost is lost and all is zeroed
abbrev pub have_in : Configuration → List Entry → Demands → ℕ → ℕ
have_in c journal q r = free_in c (effects (ready c journal q)) r

-- ---- 5: what is refused

abbrev pub broken_by : Configuration → List Entry → Option Step → Option Rule
broken_by c before None = None
broken_by c before (Some s) = broken c before s.0 s.1

-- the rule that an act of the list breaks behind those before it
abbrev pub broken_at : Configuration → List Entry → List Step → ℕ → Option Rule
broken_at c journal acts i = broken_by c (stepped c journal (take i acts)) (slice_get acts i)

abbrev pub refused_in : Configuration → List Entry → List Step → Option PlanFault
refused_in c journal acts = option_and_then (λ i. option_map (PlanFault.Refused i) (broken_at c journal acts i))
    (lowest_below (λ i. is_some (broken_at c journal acts i)) (length acts))

-- too many extents, or a full log
abbrev pub is_room_rule : Rule → Bool
is_room_rule (Rule.TooManyExtents n) = true
is_room_rule (Rule.LogFull h need have) = true
is_room_rule rule = false

abbrev pub IsOfRoom : PlanFault → Type 0
IsOfRoom (PlanFault.Refused i rule) = IsTrue (is_room_rule rule)
IsOfRoom fault = Unit {0}

-- ---- the first fault

abbrev pub named_fault : Configuration → Demands → Option PlanFault
named_fault c q =
    option_map PlanFault.BadDemand (lowest_below (is_bad_demand c q) (length q.demands))
    or option_map PlanFault.BadDead (lowest_below (is_bad_dead c q) (length q.dead))

abbrev pub short_fault : Configuration → List Entry → Demands → Option PlanFault
short_fault c journal q = let past = effects journal in
    option_map (λ r. PlanFault.Short r (need_in c past q r) (have_in c journal q r))
    (lowest_below (λ r. nat_lt (have_in c journal q r) (need_in c past q r)) (length c.regions))

abbrev pub plan_fault : Configuration → List Entry → Demands → Option PlanFault
plan_fault c journal q =
    named_fault c q
    or option_map PlanFault.Open (lowest_below (is_open (effects journal) q) c.hosts)
    or short_fault c journal q
    or refused_in c journal (planned c journal q)

-- ---- what planning answers

-- The list where there is no fault, else the first fault. Memory may be wanting at any time.
abbrev pub IsPlan : Configuration → List Entry → Demands → Result (List Step) PlanFault → Type 0
IsPlan c journal q (Ok acts) = (plan_fault c journal q ≡ None) × (acts ≡ planned c journal q)
IsPlan c journal q (Err PlanFault.NoMemory) = Unit {0}
IsPlan c journal q (Err fault) = plan_fault c journal q ≡ Some fault

-- the reply of a command or a scrub that was done
abbrev pub is_success : Reply → Bool
is_success (Reply.Answer s) = s.code == 0
is_success (Reply.Scrubbed n) = true
is_success reply = false

-- Each of the acts is answered Success.
abbrev pub AllSucceed : Configuration → List Entry → List Step → Type 0
AllSucceed c journal acts = All (λ (e : Entry). IsTrue (is_success e.reply)) (drop (length journal) (stepped c journal acts))
