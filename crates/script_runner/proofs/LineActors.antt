-- The pass that does a line has the line's actor.
use Rattle.std.proofs.Common.{◌≡◌, ℕ, zero, suc, ◌+◌, ◌*◌, ◌<◌, List, [], ◌∷◌, ◌++◌, length, refl, ap, ◌∙◌, zero-add, append_assoc, arith, IsTrue}
use Rattle.std.proofs.{Math.Nat.suc-mul, lemmas.Bool.and_parts, lemmas.Bool.both_ways, lemmas.Bool.ltb-true, lemmas.List.length-append, lemmas.List.length-replicate, lemmas.List.Concat.flat_map-cons}
use Rattle.std.{proofs.lemmas.List.FromFn.length-range_with_len, specs.List.range_with_len, specs.Prelude.false, specs.Prelude.flat_map, specs.Prelude.nat_lt, specs.Prelude.replicate}
use mathlib.Core.Option.{some}
use lib.ListN.{get_elem?}
use Rattle.atomic_table.proofs.Lists.{at_longer}
use Rattle.dcd_base.specs.declared.steps.Actor.{Actor}
use Rattle.journal_core.specs.{declared.acts.Act.Act, Entries.fits}
use Rattle.region_config.specs.{Configurations.Configuration, Granules.hosts_of}
use Rattle.shared_device.specs.{ruled_cells.proofs.Places.replicate_at, Commanding.actors_of}
use Rattle.script_gen.specs.script_codec.specs.{declared.script_line.Line.Line, Covering.pass_of, Scripts.is_sound_line}

-- the lanes of each of these hosts
abbrev lanes_of : ℕ → List ℕ → List Actor
lanes_of lanes hosts = flat_map (λ h. replicate lanes (Actor.Host h)) hosts

-- as many as the hosts have lanes
lanes_count : (lanes : ℕ) (hosts : List ℕ) → length (lanes_of lanes hosts) ≡ length hosts * lanes
lanes_count lanes [] = let none : 0 ≡ 0 * lanes = omega arith in none
lanes_count lanes (h ∷ hosts) =
    let a = ap length (flat_map-cons (λ h. replicate lanes (Actor.Host h)) h hosts) ∙ length-append (replicate lanes (Actor.Host h)) (lanes_of lanes hosts) in
    let b = length-replicate lanes (Actor.Host h) in
    let c = lanes_count lanes hosts in
    let d = suc-mul (length hosts) lanes in
    omega (arith, a, b, c, d)

lanes_below : (lanes n : ℕ) → length (lanes_of lanes (range_with_len 0 n)) ≡ n * lanes
lanes_below lanes n = lanes_count lanes (range_with_len 0 n) ∙ ap (λ m. m * lanes) (length-range_with_len 0 n)

-- what stands behind a list
at_beyond : {A : Type 0} (l m : List A) (k : ℕ) → get_elem? (l ++ m) (length l + k) ≡ get_elem? m k
at_beyond [] m k = ap (λ n. get_elem? m n) (zero-add k)
at_beyond (x ∷ l) m k = let next : length (x ∷ l) + k ≡ suc (length l + k) = omega arith in ap (λ n. get_elem? ((x ∷ l) ++ m) n) next ∙ at_beyond l m k

-- the lanes of a host behind those of the hosts before it, the first of which has this number
lane_at : (lanes base n h lane : ℕ) (rest : List Actor) → h < n → lane < lanes → get_elem? (lanes_of lanes (range_with_len base n) ++ rest) (h * lanes + lane) ≡ some (Actor.Host (base + h))
lane_at lanes base zero h lane rest under within = absurd (omega (arith, under))
lane_at lanes base (suc n) zero lane rest under within =
    let first = replicate lanes (Actor.Host base) in
    let others = lanes_of lanes (range_with_len (base + 1) n) in
    let none : 0 * lanes + lane ≡ lane = omega arith in
    let host : base ≡ base + 0 = omega arith in
    (λ i. get_elem? (flat_map-cons (λ h. replicate lanes (Actor.Host h)) base (range_with_len (base + 1) n) i ++ rest) (none i))
    ∙ (at_longer (first ++ others) rest lane (Actor.Host base) (at_longer first others lane (Actor.Host base) (replicate_at lanes lane (Actor.Host base) within))
    ∙ ap (λ b. some (Actor.Host b)) host)
lane_at lanes base (suc n) (suc h) lane rest under within =
    let first = replicate lanes (Actor.Host base) in
    let others = lanes_of lanes (range_with_len (base + 1) n) in
    let turn = suc-mul h lanes in
    let long = length-replicate lanes (Actor.Host base) in
    let place : suc h * lanes + lane ≡ length first + (h * lanes + lane) = omega (arith, turn, long) in
    let host : (base + 1) + h ≡ base + suc h = omega arith in
    (λ i. get_elem? (flat_map-cons (λ h. replicate lanes (Actor.Host h)) base (range_with_len (base + 1) n) i ++ rest) (place i))
    ∙ (ap (λ l. get_elem? l (length first + (h * lanes + lane))) (append_assoc first others rest)
    ∙ (at_beyond first (others ++ rest) (h * lanes + lane)
    ∙ (lane_at lanes (base + 1) n h lane rest (omega (arith, under)) within
    ∙ ap (λ b. some (Actor.Host b)) host)))

pub host_fits : (hosts h : ℕ) (act : Act) → IsTrue (fits hosts (Actor.Host h) act) → h < hosts
host_fits hosts h (Act.Command q) is = ltb-true h hosts is
host_fits hosts h (Act.Load d) is = ltb-true h hosts is
host_fits hosts h (Act.Store d value) is = ltb-true h hosts is
host_fits hosts h (Act.Scrub n) is = absurd (both_ways false refl is)

pub line_actor : (c : Configuration) (lanes : ℕ) (actor : Actor) (lane : ℕ) (act : Act) → IsTrue (is_sound_line c.hosts lanes (Line.Do actor lane act))
    → get_elem? (actors_of c lanes) (pass_of c.hosts lanes actor lane) ≡ some actor
line_actor c lanes (Actor.Host h) lane act sound =
    let parts = and_parts (fits c.hosts (Actor.Host h) act) (nat_lt lane lanes) sound in
    lane_at lanes 0 c.hosts h lane (Actor.Manager ∷ Actor.Sanitizer ∷ []) (host_fits c.hosts h act parts.0) (ltb-true lane lanes parts.1)
    ∙ ap (λ b. some (Actor.Host b)) (zero-add h)
line_actor c lanes Actor.Manager lane act sound =
    let long = lanes_below lanes c.hosts in
    let place : c.hosts * lanes ≡ length (lanes_of lanes (hosts_of c)) + 0 = omega (arith, long) in
    ap (λ n. get_elem? (actors_of c lanes) n) place ∙ at_beyond (lanes_of lanes (hosts_of c)) (Actor.Manager ∷ Actor.Sanitizer ∷ []) 0
line_actor c lanes Actor.Sanitizer lane act sound =
    let long = lanes_below lanes c.hosts in
    let place : c.hosts * lanes + 1 ≡ length (lanes_of lanes (hosts_of c)) + 1 = omega (arith, long) in
    ap (λ n. get_elem? (actors_of c lanes) n) place ∙ at_beyond (lanes_of lanes (hosts_of c)) (Actor.Manager ∷ Actor.Sanitizer ∷ []) 1
