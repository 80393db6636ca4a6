-- The row of a response that is not too long, and to which no more is to come.
use Rattle.std.proofs.Common.{◌≡◌, ℕ, ◌+◌, ◌≤◌, Bool, false, List, ◌++◌, length, length-append, Some, refl, arith}
use Rattle.std.{specs.Prelude.nat_lt, proofs.lemmas.Bool.le-ltb}
use Rattle.extent_list.specs.dcd_codes.specs.{Rules.each_in, dcd_base.specs.declared.capacity.Extent.Extent, dcd_base.specs.declared.ids.HostId.HostId, declared.rules.Rule.Rule}
use Rattle.extent_list.specs.media_map.specs.region_config.specs.Configurations.{Configuration}
use Rattle.offer_core.specs.{Offerings.oldest_of, Responses.extent_rule, Responses.response_list_rule, Responses.respond_rule}

module _ (c : Configuration) (h : HostId) (accepted : ℕ) (offers : List (List Extent)) where
  -- the whole list is tried
  pub whole_tried : (held list whole : List Extent) → whole ≡ held ++ list → length held + length list ≤ 64 → (more : Bool) → more ≡ false
      → response_list_rule c h accepted offers whole ≡ respond_rule c h accepted offers held more list
  whole_tried held list whole is few more last =
      let listed : nat_lt 64 (length (held ++ list)) ≡ false = le-ltb 64 (length (held ++ list)) (omega (arith, few, length-append held list)) in
      rw (last, is, listed) refl

  -- where an extent breaks a rule, the whole list does
  pub one_broken : (whole : List Extent) (rule : Rule) → each_in whole (extent_rule c h (oldest_of offers)) ≡ Some rule → response_list_rule c h accepted offers whole ≡ Some rule
  one_broken whole rule broken = rw broken refl
