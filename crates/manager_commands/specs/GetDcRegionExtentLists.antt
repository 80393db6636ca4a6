-- What is replied of the extents of a host, 5603h.
use Rattle.std.specs.Prelude.{◌≡◌, ℕ, List}
use Rattle.device_state.specs.{device_rules.specs.Settings.lists_reply, device_rules.specs.Views.View, device_rules.specs.Views.lists_in, StateAfter.part_of, declared.state.State.State}

-- The payload is the reply, for each view that the lists of the host show.
abbrev pub IsListsReply : State → ℕ → ℕ → ℕ → List ℕ → Type 0
IsListsReply s h count first payload = (v : View) → (part_of s h).lists ≡ lists_in v → payload ≡ lists_reply (λ _. v) h count first
