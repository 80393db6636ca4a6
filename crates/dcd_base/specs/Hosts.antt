-- A set of hosts as a number: bit h stands where host h is in it.
use Rattle.std.specs.{Prelude.ℕ, Prelude.◌+◌, Prelude.◌-◌, Prelude.◌^◌, Prelude.◌==◌, Prelude.Bool, Prelude.if◌then◌else◌, Int.bit_at}

abbrev pub has_host : ℕ → ℕ → Bool
has_host hosts h = bit_at hosts h == 1

-- the hosts with this one
abbrev pub with_host : ℕ → ℕ → ℕ
with_host hosts h = if has_host hosts h then hosts else hosts + 2 ^ h

-- the hosts without this one
abbrev pub without_host : ℕ → ℕ → ℕ
without_host hosts h = if has_host hosts h then hosts - 2 ^ h else hosts
