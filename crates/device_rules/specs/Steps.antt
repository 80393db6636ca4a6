-- What a host's step leaves of the others, and a scrub of the granules that it does not zero.
use Rattle.std.specs.Prelude.{◌≡◌, ◌≢◌, ℕ, ◌==◌, List, [], ◌∷◌, ◌++◌, if◌then◌else◌}
use Rattle.std.specs.List.{list_any}
use Rattle.cci_codec.specs.dcd_base.specs.declared.{ids.HostId.HostId, steps.Actor.Actor}
use Rattle.journal_core.specs.declared.{entries.Entry.Entry, outcome.Effect.Effect}
use Rattle.extent_list.specs.media_map.specs.region_config.specs.Configurations.{Configuration}
use Rattle.device_rules.specs.{Answers.scrubbed, Answers.zeroes, Tags.Free, Tags.status, Views.view_of}

-- A step of one host leaves what another host sees.
abbrev pub IsUnseen : Configuration → List Entry → Entry → HostId → HostId → Type 0
IsUnseen c before e h k = h ≢ k → e.actor ≡ Actor.Host h → view_of c k (before ++ e ∷ []) ≡ view_of c k before

-- After a scrub of at most n granules those that it zeroed are free, and the status of each other one is as it was.
abbrev pub IsScrubbed : Configuration → List Effect → ℕ → ℕ → Type 0
IsScrubbed c past n g =
    status c g (past ++ zeroes c (scrubbed c past n)) ≡ (if list_any (λ m. m == g) (scrubbed c past n) then Free else status c g past)
