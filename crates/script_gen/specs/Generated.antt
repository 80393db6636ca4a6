-- The script of a seed: 256 rounds of four hosts that are given capacity, use it and give it back.
use Rattle.std.specs.Prelude.{ℕ, zero, suc, ◌+◌, ◌*◌, ◌%◌, ◌^◌, true, false, nat_lt, List, [], ◌∷◌, ◌++◌, map, flat_map, take, drop, replicate, if◌then◌else◌}
use Rattle.std.specs.List.{range_with_len}
use Rattle.dcd_base.specs.{declared.capacity.Extent.Extent, declared.steps.Actor.Actor, Layouts.spelling, Words.zero_tag}
use Rattle.host_payloads.specs.{declared.requests.HostRequest.HostRequest, HostPayloads.host_opcode, HostPayloads.host_fields}
use Rattle.fm_payloads.specs.{declared.requests.FmRequest.FmRequest, ManagerPayloads.manager_opcode, ManagerPayloads.manager_fields}
use Rattle.region_config.specs.Configurations.{Configuration}
use Rattle.journal_core.specs.declared.acts.Act.{Act}
use Rattle.script_codec.specs.declared.{script_line.Line.Line, scripts.Script.Script}

-- each draw is a step of this generator, beginning at the seed
unfoldable pub next_draw : ℕ → ℕ
next_draw x = (x * 6364136223846793005 + 1442695040888963407) % 2 ^ 64

-- the draws from a state on, so many
unfoldable pub draws : ℕ → ℕ → List ℕ
draws x zero = []
draws x (suc n) = next_draw x ∷ draws (next_draw x) n

abbrev pub big_block : ℕ
big_block = 2 ^ 28

-- four hosts and one region of 256 blocks, which sanitizes
abbrev pub generated_config : Configuration
generated_config = record {
  hosts = 4;
  regions = record { decode_units = 256; length = 2 ^ 36; block = big_block; sizes = 0x10000000; handle = 0; sanitize = true; shareable = false } ∷ [];
  bases = replicate 4 0;
}

-- the extent of host h in round k: eight blocks
abbrev pub share : ℕ → ℕ → Extent
share k h = record { start = (64 * h + 8 * (k % 8)) * big_block; length = 8 * big_block; tag = zero_tag; sequence = 0 }

-- an actor's command, with the message tag 0
abbrev pub sends : Actor → ℕ → List ℕ → Line
sends actor opcode payload = Line.Do actor 0 (Act.Command (record { tag = 0; opcode = opcode; payload = payload }))

abbrev pub host_sends : ℕ → HostRequest → Line
host_sends h q = sends (Actor.Host h) (host_opcode q) (spelling (host_fields q))

abbrev pub manager_sends : FmRequest → Line
manager_sends q = sends Actor.Manager (manager_opcode q) (spelling (manager_fields q))

-- the manager offers host h its extent, by policy 2
unfoldable pub offer_line : ℕ → ℕ → Line
offer_line k h = manager_sends (FmRequest.Add h 2 0 0 zero_tag (share k h ∷ []))

-- host h takes its extent
unfoldable pub take_line : ℕ → ℕ → Line
take_line k h = host_sends h (HostRequest.AddResponse false (share k h ∷ []))

-- host h clears the record of the offer, the one of the round
unfoldable pub clear_line : ℕ → ℕ → Line
clear_line k h = host_sends h (HostRequest.ClearEvents 4 false ((k + 1) ∷ []))

-- host h gives its extent back
unfoldable pub give_back_line : ℕ → ℕ → Line
give_back_line k h = host_sends h (HostRequest.GiveBack false (share k h ∷ []))

-- the word that a draw names in the extent
abbrev pub place : ℕ → ℕ → ℕ → ℕ
place k h d = (share k h).start + 8 * (d % 2 ^ 28)

-- a store and a load of one word: one draw says which word, the next which value
unfoldable pub access_lines : ℕ → ℕ → ℕ → ℕ → List Line
access_lines k h d value =
    Line.Do (Actor.Host h) 0 (Act.Store (place k h d) value) ∷ Line.Do (Actor.Host h) 0 (Act.Load (place k h d)) ∷ []

-- such accesses, two draws for each
unfoldable pub accesses : ℕ → ℕ → List ℕ → List Line
accesses k h [] = []
accesses k h (d ∷ []) = []
accesses k h (d ∷ value ∷ rest) = access_lines k h d value ++ accesses k h rest

unfoldable pub offers_lines : ℕ → List Line
offers_lines k = map (offer_line k) (range_with_len 0 4)

-- what host h does with its extent, with its part of the draws
abbrev pub use_lines : ℕ → List ℕ → ℕ → List Line
use_lines k numbers h = take_line k h ∷ clear_line k h ∷ accesses k h (take 32 (drop (32 * (4 * k + h)) numbers))

unfoldable pub give_back_lines : ℕ → List Line
give_back_lines k = map (give_back_line k) (range_with_len 0 4)

-- all but the last round end with what the hosts gave back being zeroed
unfoldable pub end_lines : ℕ → List Line
end_lines k =
    if nat_lt k 255
    then give_back_lines k ++ Line.Mark ∷ Line.Do Actor.Sanitizer 0 (Act.Scrub 32) ∷ Line.Mark ∷ []
    else []

abbrev pub round_lines : List ℕ → ℕ → List Line
round_lines numbers k =
    offers_lines k ++ Line.Mark ∷ flat_map (use_lines k numbers) (range_with_len 0 4) ++ Line.Mark ∷ end_lines k

-- 256 rounds
unfoldable pub generated_lines : ℕ → List Line
generated_lines seed = flat_map (round_lines (draws seed (256 * 128))) (range_with_len 0 256)

-- the script of a seed
unfoldable pub generated : ℕ → Script
generated seed = record { version = 1; lanes = 1; config = generated_config; lines = generated_lines seed }
