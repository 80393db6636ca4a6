-- What every legal journal keeps of the extents of a host, in numbers.
use Rattle.std.proofs.Common.{Bool, inl, inr, ◌≡◌, ◌+◌, ◌^◌, ◌<◌, ◌≤◌, List, [], ◌∷◌, ◌++◌, length, arith, refl}
use Rattle.std.proofs.lemmas.{Bool.cases_Bool, List.length-append, List.Elements.All-cons, List.Elements.All-nil, List.FromFn.length-range_with_len}
use Rattle.std.specs.{List.AllByRecursion, List.filter, Prelude.All, Prelude.flat_map}
use Rattle.dcd_base.specs.declared.{capacity.Extent.Extent, ids.HostId.HostId, steps.LogId.LogId}
use Rattle.event_log.specs.Logs.{places_in, state_of}
use Rattle.region_config.{specs.Configurations.Configuration, specs.Granules.granule_total, specs.Soundness.IsSound, proofs.Faultless.region_ends}
use Rattle.journal_core.specs.{Entries.effects, declared.entries.Entry.Entry, declared.outcome.Effect.Effect}
use Rattle.device_plain.specs.device_rules.{proofs.LegalSound.legal_is_sound, specs.Counts.dirty_count, specs.Counts.records_of, specs.Hosts.accepted_of, specs.Hosts.offers_of, specs.Legal.Legal}
use Rattle.device_plain.specs.device_rules.specs.{Logs.log_of, Pictures.Picture, Pictures.picture_of, Standing.IsHome, Tags.all_granules, Tags.is_dirty, Tags.status}

Ends : Extent → Type 0
Ends x = x.start + x.length < 2 ^ 64

end_of : (c : Configuration) (p : Picture) (h : HostId) (x : Extent) → IsSound c → h < c.hosts → IsHome c p h x → Ends x
unfolding Ends
end_of c p h x sound host home = omega (arith, home.made.within, region_ends c h home.region sound host home.made.known)

ends_of : (c : Configuration) (p : Picture) (h : HostId) → IsSound c → h < c.hosts → (xs ys : List Extent) → AllByRecursion (IsHome c p h) (xs ++ ys) → All Ends xs
ends_of c p h sound host [] ys home = All-nil Ends
ends_of c p h sound host (x ∷ xs) ys home = All-cons Ends x xs (end_of c p h x sound host home.0) (ends_of c p h sound host xs ys home.1)

module _ (c : Configuration) (sound : IsSound c) (journal : List Entry) (legal : Legal c journal) (h : HostId) where
  pub accepted_few : length (accepted_of c h (effects journal)) ≤ 64
  accepted_few = omega (arith, (legal_is_sound c sound journal legal).stands.few h, length-append (accepted_of c h (effects journal)) (flat_map (λ (xs : List Extent). xs) (offers_of h (effects journal))))

  pub offers_few : length (flat_map (λ (xs : List Extent). xs) (offers_of h (effects journal))) ≤ 64
  offers_few = omega (arith, (legal_is_sound c sound journal legal).stands.few h, length-append (accepted_of c h (effects journal)) (flat_map (λ (xs : List Extent). xs) (offers_of h (effects journal))))

  pub accepted_ends : h < c.hosts → All (λ (x : Extent). x.start + x.length < 2 ^ 64) (accepted_of c h (effects journal))
  unfolding Ends
  accepted_ends host = ends_of c (picture_of c (effects journal)) h sound host (accepted_of c h (effects journal)) (flat_map (λ (xs : List Extent). xs) (offers_of h (effects journal)))
      ((legal_is_sound c sound journal legal).stands.home h)

-- the records that a log shows
pub records_are : (l : LogId) (past : List Effect) → (state_of (places_in l) (log_of l past)).records ≡ records_of l past
unfolding records_of
records_are l past = refl

filter_few : {X : Type 0} (p : X → Bool) (xs : List X) → length (filter p xs) ≤ length xs
filter_few p [] = omega arith
filter_few p (x ∷ xs) = elim (cases_Bool (p x)) [
  | inl passes ↦ rw passes (omega (arith, filter_few p xs))
  | inr fails ↦ rw fails (omega (arith, filter_few p xs))
]

pub dirty_few : (c : Configuration) (past : List Effect) → dirty_count c past ≤ granule_total c
unfolding dirty_count
dirty_few c past = omega (arith, filter_few (λ g. is_dirty (status c g past)) (all_granules c), length-range_with_len 0 (granule_total c))
