-- How the head of a text is read: its version, its regions and its hosts.
use Rattle.std.specs.Prelude.{ℕ, zero, suc, ◌+◌, ◌-◌, ◌/◌, ◌%◌, ◌^◌, ◌==◌, Bool, List, [], ◌∷◌, ◌++◌, Option, Some, None, Result, Ok, Err, if◌then◌else◌, codes}
use lib.Pointwise.{pointwise}
use Rattle.region_config.specs.declared.region_spec.RegionSpec.{RegionSpec}
use Rattle.text_lines.specs.{Chains.◌>>!◌ as ◌>>=◌, Layouts.most_64, Sizes.sizes_said, Unread.UnreadWords, Unread.first_unread, declared.faults.Cause.Cause, declared.faults.TextFault.TextFault}
use Rattle.text_lines.specs.declared.{faults.Wanted.Wanted, keywords.Keyword.Keyword}
use Rattle.text_lines.specs.Fields.{begins, end_ahead, flag_ahead, keyword_ahead, may_ahead, named_ahead, number_ahead, number_of_word, one_word}

-- ---- the first line

abbrev pub version_of_word : List ℕ → Result ℕ Cause
version_of_word word =
    if pointwise ◌==◌ word (codes "1") then Ok 1
    else if pointwise ◌==◌ word (codes "2") then Ok 2
    else Err (Cause.Wanted Wanted.Version)

abbrev pub version_ahead : UnreadWords → Result (ℕ × UnreadWords) TextFault
version_ahead u = one_word Wanted.Version u (version_of_word (first_unread u))

abbrev pub some_lanes : Result ℕ Cause → Result ℕ Cause
some_lanes (Ok lanes) = if lanes == 0 then Err (Cause.OutOfForm Wanted.Lanes) else Ok lanes
some_lanes (Err cause) = Err cause

unfoldable pub told_lanes_ahead : UnreadWords → Result (ℕ × UnreadWords) TextFault
told_lanes_ahead u = do
  begun ← keyword_ahead Keyword.Lanes u
  one_word Wanted.Number begun.1 (some_lanes (number_of_word 4 (first_unread begun.1)))

-- version 1 has one lane and does not say so
abbrev pub lanes_ahead : ℕ → UnreadWords → Result (ℕ × UnreadWords) TextFault
lanes_ahead version u = if version == 2 then told_lanes_ahead u else Ok (1, u)

-- the version and the lanes
unfoldable pub start_ahead : UnreadWords → Result (ℕ × ℕ) TextFault
start_ahead u = do
  begun ← keyword_ahead Keyword.Script u
  version ← version_ahead begun.1
  lanes ← lanes_ahead version.0 version.1
  end ← end_ahead lanes.1
  Ok (version.0, lanes.0)

-- ---- regions

-- the number of a region or of a host, which is the next one
abbrev pub in_turn : ℕ → Result ℕ Cause → Result ℕ Cause
in_turn turn (Ok n) = if n == turn then Ok n else Err (Cause.OutOfTurn turn)
in_turn turn (Err cause) = Err cause

unfoldable pub turn_ahead : Keyword → ℕ → UnreadWords → Result (ℕ × UnreadWords) TextFault
turn_ahead keyword turn u = do
  begun ← keyword_ahead keyword u
  one_word Wanted.Number begun.1 (in_turn turn (number_of_word 254 (first_unread begun.1)))

abbrev pub sizes_or : Option ℕ → Result ℕ Cause
sizes_or (Some mask) = Ok mask
sizes_or None = Err (Cause.OutOfForm Wanted.Sizes)

unfoldable pub sizes_ahead : UnreadWords → Result (ℕ × UnreadWords) TextFault
sizes_ahead u = do
  begun ← keyword_ahead Keyword.Sizes u
  one_word Wanted.Sizes begun.1 (sizes_or (sizes_said (first_unread begun.1)))

-- a decode length in bytes as units of 256 MiB
abbrev pub in_units : Result ℕ Cause → Result ℕ Cause
in_units (Ok n) = if n % 2 ^ 28 == 0 then Ok (n / 2 ^ 28) else Err (Cause.OutOfForm Wanted.Decode)
in_units (Err cause) = Err cause

unfoldable pub decode_ahead : UnreadWords → Result (ℕ × UnreadWords) TextFault
decode_ahead u = do
  begun ← keyword_ahead Keyword.Decode u
  one_word Wanted.Number begun.1 (in_units (number_of_word most_64 (first_unread begun.1)))

-- what is said of a region up to its decode length
unfoldable pub extent_of_region_ahead : ℕ → UnreadWords → Result (RegionSpec × UnreadWords) TextFault
extent_of_region_ahead turn u = do
  number ← turn_ahead Keyword.Region turn u
  size ← named_ahead Keyword.Length most_64 number.1
  block ← named_ahead Keyword.Block most_64 size.1
  sizes ← sizes_ahead block.1
  decode ← decode_ahead sizes.1
  Ok (record { decode_units = decode.0; length = size.0; block = block.0; sizes = sizes.0; handle = 0; sanitize = Bool.false; shareable = Bool.false }, decode.1)

-- and what may be said behind that
unfoldable pub region_ahead : ℕ → UnreadWords → Result RegionSpec TextFault
region_ahead turn u = do
  region ← extent_of_region_ahead turn u
  handle ← may_ahead Keyword.Handle (2 ^ 32 - 1) region.1
  let sanitize = flag_ahead Keyword.Sanitize handle.1 in
      let shareable = flag_ahead Keyword.Shareable sanitize.1 in (do
        end ← end_ahead shareable.1
        Ok (record region.0 { handle = handle.0; sanitize = sanitize.0; shareable = shareable.0 }))

-- regions before those that are still to come
abbrev pub regions_behind : List RegionSpec → Result (List RegionSpec × List UnreadWords) TextFault → Result (List RegionSpec × List UnreadWords) TextFault
regions_behind before (Ok regions) = Ok (before ++ regions.0, regions.1)
regions_behind before (Err fault) = Err fault

-- the lines of regions, of which so many stand before them, and the lines behind them
unfoldable pub regions_at : ℕ → List UnreadWords → Result (List RegionSpec × List UnreadWords) TextFault
regions_at turn [] = Ok ([], [])
regions_at turn (u ∷ us) =
    if begins Keyword.Region u then (do
      region ← region_ahead turn u
      regions_behind (region ∷ []) (regions_at (turn + 1) us))
    else Ok ([], u ∷ us)

-- ---- hosts

-- bases behind those before them
abbrev pub bases_behind : List ℕ → Result (List ℕ × UnreadWords) TextFault → Result (List ℕ × UnreadWords) TextFault
bases_behind before (Ok bases) = Ok (before ++ bases.0, bases.1)
bases_behind before (Err fault) = Err fault

-- so many bases
unfoldable pub bases_at : ℕ → UnreadWords → Result (List ℕ × UnreadWords) TextFault
bases_at zero u = Ok ([], u)
bases_at (suc n) u = do
  base ← number_ahead most_64 u
  bases_behind (base.0 ∷ []) (bases_at n base.1)

abbrev pub base_list_behind : List ℕ → Result (List ℕ) TextFault → Result (List ℕ) TextFault
base_list_behind before (Ok bases) = Ok (before ++ bases)
base_list_behind before (Err fault) = Err fault

unfoldable pub host_line_ahead : ℕ → ℕ → UnreadWords → Result (List ℕ) TextFault
host_line_ahead regions turn u = do
  number ← turn_ahead Keyword.Host turn u
  begun ← keyword_ahead Keyword.Bases number.1
  bases ← bases_at regions begun.1
  end ← end_ahead bases.1
  Ok bases.0

-- bases of hosts before those that are still to come
abbrev pub hosts_behind : List ℕ → Result ((ℕ × List ℕ) × List UnreadWords) TextFault → Result ((ℕ × List ℕ) × List UnreadWords) TextFault
hosts_behind before (Ok hosts) = Ok ((hosts.0.0, before ++ hosts.0.1), hosts.1)
hosts_behind before (Err fault) = Err fault

-- how many hosts there are, their bases host by host, and the lines behind them
unfoldable pub host_lines_at : ℕ → ℕ → List UnreadWords → Result ((ℕ × List ℕ) × List UnreadWords) TextFault
host_lines_at regions turn [] = Ok ((turn, []), [])
host_lines_at regions turn (u ∷ us) =
    if begins Keyword.Host u then (do
      bases ← host_line_ahead regions turn u
      hosts_behind bases (host_lines_at regions (turn + 1) us))
    else Ok ((turn, []), u ∷ us)
