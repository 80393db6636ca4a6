-- What a script that may be written is, line by line.
use Rattle.std.proofs.Common.{◌≡◌, ℕ, ◌+◌, ◌*◌, ◌<◌, ◌≤◌, inl, inr, Bool, true, false, ◌&&◌, ◌==◌, List, [], ◌∷◌, length, Some, None, refl, sym, ◌∙◌, arith}
use Rattle.std.{specs.Prelude.IsTrue, specs.Prelude.nat_lt, specs.List.list_all, specs.List.All, proofs.lemmas.Bool.Decides.nat_tests, proofs.lemmas.Bool.lt-ltb, proofs.lemmas.List.Elements.All-cons}
use borrow.Author.Tests.{ltb-true}
use Rattle.cci_codec.specs.dcd_base.specs.declared.steps.Actor.{Actor}
use Rattle.region_config.{proofs.Faultless.GoodCount, proofs.Faultless.count_found, proofs.Faultless.good_count, specs.Configurations.Configuration, specs.Setups.config_fault, specs.Setups.bad_count}
use Rattle.region_config.specs.declared.faults.ConfigFault.{ConfigFault}
use Rattle.journal_core.{specs.declared.acts.Act.Act, proofs.Sorting.two}
use Rattle.script_codec.specs.{Scripts.is_sound_line, Scripts.are_lanes, Scripts.bad_version, Writing.IsWritable, Writing.has_spelling, Writing.has_short_message, declared.script_line.Line.Line}
use Rattle.script_codec.specs.declared.scripts.Script.{Script}

-- both tests hold
pub both_first : (a b : Bool) → (a && b) ≡ true → a ≡ true
both_first true b e = refl
both_first false b e = cc

pub both_second : (a b : Bool) → (a && b) ≡ true → b ≡ true
both_second true b e = e
both_second false b e = cc

-- a configuration without fault has so many hosts and regions
pub count_good : (c : Configuration) → config_fault c ≡ None → bad_count c.hosts (length c.regions) ≡ false
count_good c none =
    elim (two (bad_count c.hosts (length c.regions))) [
      | inl bad ↦ let e : Some ConfigFault.Count ≡ None = sym (count_found c bad) ∙ none in cc
      | inr good ↦ good
    ]

pub counted : (c : Configuration) → config_fault c ≡ None → GoodCount c.hosts (length c.regions)
counted c none = good_count c.hosts (length c.regions) (count_good c none)

-- a script has one to four lanes, and version 1 or 2
pub record GoodLanes (version lanes : ℕ) : Type 0 where
  pub some : 0 < lanes
  pub few : lanes ≤ 4
  pub known : bad_version version ≡ false
  pub one : (version == 2) ≡ false → lanes ≡ 1

pub laned : (version lanes : ℕ) → IsTrue (are_lanes version lanes) → GoodLanes version lanes
laned version lanes good = record {
  some = grind (arith, nat_tests);
  few = grind (arith, nat_tests);
  known = grind (arith, nat_tests);
  one = grind (arith, nat_tests);
}

small_byte : (h lane hosts lanes : ℕ) → hosts ≤ 16 → lanes ≤ 4 → nat_lt h hosts ≡ true → nat_lt lane lanes ≡ true → nat_lt (h + 16 * lane) 256 ≡ true
small_byte h lane hosts lanes few_hosts few_lanes host_is lane_is =
    let p : h < hosts = ltb-true h hosts host_is in
    let q : lane < lanes = ltb-true lane lanes lane_is in
    lt-ltb (h + 16 * lane) 256 (omega arith)

-- a sound line with a short message has a spelling
line_spelled : (hosts lanes : ℕ) (line : Line) → hosts ≤ 16 → lanes ≤ 4 → is_sound_line hosts lanes line ≡ true → has_short_message line ≡ true → has_spelling line ≡ true
line_spelled hosts lanes Line.Mark few_hosts few_lanes sound short = refl
line_spelled hosts lanes (Line.Do Actor.Manager lane act) few_hosts few_lanes sound short = short
line_spelled hosts lanes (Line.Do Actor.Sanitizer lane act) few_hosts few_lanes sound short = short
line_spelled hosts lanes (Line.Do (Actor.Host h) lane (Act.Command q)) few_hosts few_lanes sound short =
    rw (small_byte h lane hosts lanes few_hosts few_lanes (both_first (nat_lt h hosts) (nat_lt lane lanes) sound) (both_second (nat_lt h hosts) (nat_lt lane lanes) sound)) short
line_spelled hosts lanes (Line.Do (Actor.Host h) lane (Act.Load d)) few_hosts few_lanes sound short =
    rw (small_byte h lane hosts lanes few_hosts few_lanes (both_first (nat_lt h hosts) (nat_lt lane lanes) sound) (both_second (nat_lt h hosts) (nat_lt lane lanes) sound)) refl
line_spelled hosts lanes (Line.Do (Actor.Host h) lane (Act.Store d value)) few_hosts few_lanes sound short =
    rw (small_byte h lane hosts lanes few_hosts few_lanes (both_first (nat_lt h hosts) (nat_lt lane lanes) sound) (both_second (nat_lt h hosts) (nat_lt lane lanes) sound)) refl
line_spelled hosts lanes (Line.Do (Actor.Host h) lane (Act.Scrub n)) few_hosts few_lanes sound short = cc

lines_spelled : (hosts lanes : ℕ) (lines : List Line) → hosts ≤ 16 → lanes ≤ 4 → list_all (is_sound_line hosts lanes) lines ≡ true → list_all has_short_message lines ≡ true → All (λ line. IsTrue (has_spelling line)) lines
lines_spelled hosts lanes [] few_hosts few_lanes sound short = λ k d under. absurd (omega (arith, under))
lines_spelled hosts lanes (line ∷ lines) few_hosts few_lanes sound short =
    All-cons (λ line. IsTrue (has_spelling line)) line lines
    (line_spelled hosts lanes line few_hosts few_lanes (both_first _ _ sound) (both_first _ _ short))
    (lines_spelled hosts lanes lines few_hosts few_lanes (both_second _ _ sound) (both_second _ _ short))

pub writable_lines : (s : Script) → IsWritable s → All (λ line. IsTrue (has_spelling line)) s.lines
writable_lines s may =
    lines_spelled s.config.hosts s.lanes s.lines (counted s.config may.script.configured).few_hosts (laned s.version s.lanes may.script.versioned).few may.script.sound may.messages
