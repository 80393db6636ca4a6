-- The device of hosts, regions and bases: that of the head that spells them.
use Rattle.std.specs.Prelude.{◌≡◌, ℕ, ◌*◌, ◌%◌, ◌==◌, nat_lt, Bool, true, false, List, ◌++◌, codes, flat_map, length, replicate, Option, Some, None, Result, Err, if◌then◌else◌}
use Rattle.dcd_base.specs.Layouts.{u8_bytes, u16_bytes, u32_bytes, u64_bytes}
use Rattle.dcd_c.specs.{Calls.OpensPlace, Sessions.IsIdle, declared.faults.Fault.Fault, declared.heads.RegionTold.RegionTold, declared.sessions.Session.Session}

-- what stands before the regions: more than 255 of them are spelled as 255, which no head may have
abbrev pub counts_spelled : ℕ → ℕ → List ℕ
counts_spelled hosts regions =
    codes "DCDS" ++ u16_bytes 1 ++ u16_bytes 0 ++ u8_bytes hosts ++ u8_bytes (if nat_lt regions 255 then regions else 255) ++ replicate 6 0

-- a region, whose two lowest flags alone are spelled
unfoldable pub region_spelled : RegionTold → List ℕ
region_spelled r = u64_bytes r.decode_units ++ u64_bytes r.length ++ u64_bytes r.block ++ u64_bytes r.sizes ++ u32_bytes r.handle ++ u32_bytes (r.flags % 4)

unfoldable pub head_spelled : ℕ → List RegionTold → List ℕ → List ℕ
head_spelled hosts regions bases = counts_spelled hosts (length regions) ++ flat_map region_spelled regions ++ flat_map u64_bytes bases

abbrev pub bases_fit : ℕ → ℕ → ℕ → Bool
bases_fit hosts regions bases = hosts * regions == bases

-- The place keeps its device, and its last call changed nothing.
abbrev pub StaysIdle : Option Session → Option Session → Type 0
StaysIdle (Some old) (Some new) = IsIdle old new
StaysIdle old new = ⊥

-- What opening a place with hosts, regions and bases does.
abbrev pub OpensWith : ℕ → List RegionTold → List ℕ → Option Session → Option Session → Result (Unit {0}) Fault → Type 0
OpensWith hosts regions bases (Some old) new outcome = (outcome ≡ Err Fault.Opened) × StaysIdle (Some old) new
OpensWith hosts regions bases None new (Err Fault.BadCount) = (new ≡ None) × (bases_fit hosts (length regions) (length bases) ≡ false)
OpensWith hosts regions bases None new outcome =
    (bases_fit hosts (length regions) (length bases) ≡ true) × OpensPlace (head_spelled hosts regions bases) None new outcome
