-- What a host's 4803h leaves that gives back the last blocks of its extents in a region.
use Rattle.std.proofs.Common.{◌≡◌, ℕ, ◌+◌, ◌-◌, ◌*◌, ◌^◌, ◌<◌, ◌≤◌, Bool, true, false, ◌==◌, List, [], ◌∷◌, length, refl, sym, ap, subst, arith}
use Rattle.std.{specs.Prelude.if◌then◌else◌, specs.Prelude.reverse, specs.List.AllByRecursion, specs.List.filter, specs.List.list_all, proofs.lemmas.List.length-reverse, proofs.Math.Nat.mul-mod_left}
use Rattle.dcd_base.specs.{declared.capacity.Extent.Extent, declared.ids.HostId.HostId, Layouts.spelling}
use Rattle.host_payloads.specs.{HostPayloads.FitsListed, HostPayloads.host_fields, HostPayloads.is_untagged, declared.requests.HostRequest.HostRequest}
use Rattle.region_config.{specs.Configurations.Configuration, specs.Soundness.IsSound, proofs.Faultless.region_ends}
use Rattle.media_map.specs.Places.{region_at}
use Rattle.journal_core.specs.{Entries.effects, declared.outcome.HeldKind.HeldKind, declared.entries.Entry.Entry}
use Rattle.isolation_laws.specs.device_rules.{proofs.LegalSound.legal_is_sound, proofs.ListSteps.each-change, specs.Hosts.accepted_of, specs.Hosts.block_of, specs.Hosts.held_of, specs.Legal.Legal}
use Rattle.isolation_laws.specs.device_rules.specs.{Pictures.picture_of, Standing.IsHome}
use Rattle.plan_rules.proofs.{Acts.behind_is, Emptying.accepted_few, Filters.fewer, GivingBack.gives_last_bytes_back, Heard.release_heard}
use Rattle.plan_rules.proofs.{LastBytes.each-reverse, LastBytes.last_few, LastBytes.same_last, Stillness.homes_before}
use Rattle.plan_rules.specs.{ActsLeft.BytesLeave, ActsLeft.IsPlain, ActsLeft.Unbroken, ActsLeft.giving_back, ActsLeft.journal_behind, GivingBack.IsGivenBack, Holding.extents_in_region}
use Rattle.plan_rules.specs.{Listing.last_bytes, Listing.last_part, declared.demands.Demand.Demand}
use Rattle.cci_codec.specs.declared.messages.Request.{Request}

-- ---- the last bytes of a list

last_untagged : (n : ℕ) (xs : List Extent) → list_all is_untagged (last_bytes n xs) ≡ true
last_untagged n [] = refl
last_untagged n (x ∷ xs) = by (n == 0) (last_untagged (n - x.length) xs)
  where
    by : (none : Bool) → list_all is_untagged (last_bytes (n - x.length) xs) ≡ true → list_all is_untagged (if none then [] else last_part n x ∷ last_bytes (n - x.length) xs) ≡ true
    by true rest = refl
    by false rest = rest

last_some : (n : ℕ) (xs : List Extent) → length (last_bytes n xs) ≤ length xs
last_some n xs = omega (arith, ap length (same_last n xs), last_few n xs)

-- Its end is an address of 64 bits.
abbrev pub EndsLow : Extent → Type 0
EndsLow x = x.start + x.length < 2 ^ 64

last_fit : (n : ℕ) (xs : List Extent) → AllByRecursion EndsLow xs → AllByRecursion FitsListed (last_bytes n xs)
last_fit n [] low = tt
last_fit n (x ∷ xs) low = by (n == 0) (last_fit (n - x.length) xs low.1)
  where
    by : (none : Bool) → AllByRecursion FitsListed (last_bytes (n - x.length) xs) → AllByRecursion FitsListed (if none then [] else last_part n x ∷ last_bytes (n - x.length) xs)
    by true rest = tt
    by false rest = ((omega (arith, low.0), omega (arith, low.0)), rest)

-- ---- a host's extents

pub each_filter : (P : Extent → Type 0) (test : Extent → Bool) (xs : List Extent) → AllByRecursion P xs → AllByRecursion P (filter test xs)
each_filter P test [] each = tt
each_filter P test (x ∷ xs) each = by (test x) (each_filter P test xs each.1)
  where
    by : (b : Bool) → AllByRecursion P (filter test xs) → AllByRecursion P (if b then x ∷ filter test xs else filter test xs)
    by true rest = (each.0, rest)
    by false rest = rest

module _ (c : Configuration) (sound : IsSound c) (journal : List Entry) (legal : Legal c journal) (h : HostId) (host : h < c.hosts) where
  pub ends_low : (x : Extent) → IsHome c (picture_of c (effects journal)) h x → x.start + x.length < 2 ^ 64
  ends_low x home = omega (arith, home.made.within, region_ends c h home.region sound host home.made.known)

  pub region_low : (r : ℕ) → AllByRecursion EndsLow (extents_in_region c h r (effects journal))
  region_low r =
      let is = legal_is_sound c sound journal legal in
      each_filter EndsLow (λ (x : Extent). region_at c h x.start == r) (accepted_of c h (effects journal))
      (each-change (IsHome c (picture_of c (effects journal)) h) EndsLow ends_low (accepted_of c h (effects journal))
      (homes_before c sound (picture_of c (effects journal)) h (accepted_of c h (effects journal)) _ (is.stands.home h)))

  pub region_few : (r : ℕ) → length (extents_in_region c h r (effects journal)) ≤ 64
  region_few r = omega (arith, fewer (λ (x : Extent). region_at c h x.start == r) (accepted_of c h (effects journal)), accepted_few c sound (picture_of c (effects journal)) (legal_is_sound c sound journal legal) h host)

-- ---- the act

module _ (c : Configuration) (sound : IsSound c) (journal : List Entry) (legal : Legal c journal) (x : Demand) (n : ℕ) (plain : IsPlain c x) (held : held_of x.host HeldKind.Releases (effects journal) ≡ []) where
  abbrev listed_last : List Extent
  listed_last = last_bytes (n * block_of c x.region (effects journal)) (reverse (extents_in_region c x.host x.region (effects journal)))

  abbrev message : Request
  message = record { tag = 0; opcode = 0x4803; payload = spelling (host_fields (HostRequest.GiveBack false listed_last)) }

  given : IsGivenBack c journal x.host x.region (n * block_of c x.region (effects journal)) message
  given =
      let own : List Extent = extents_in_region c x.host x.region (effects journal) in
      let bytes : ℕ = n * block_of c x.region (effects journal) in
      let read = release_heard listed_last (last_untagged bytes (reverse own)) (omega (arith, last_some bytes (reverse own), length-reverse own, region_few c sound journal legal x.host plain.host x.region))
      (last_fit bytes (reverse own) (each-reverse EndsLow own (region_low c sound journal legal x.host plain.host x.region))) in
      gives_last_bytes_back c sound journal legal x.host x.region bytes message plain.host plain.region plain.private held (mul-mod_left n (block_of c x.region (effects journal))) read

  pub giving_allowed : Unbroken c journal (giving_back c x n (effects journal) ∷ [])
  giving_allowed = (given.succeeds.unbroken, tt)

  pub giving_leaves : BytesLeave c x (n * block_of c x.region (effects journal)) (effects journal) (effects (journal_behind c journal (giving_back c x n (effects journal))))
  giving_leaves =
      subst (BytesLeave c x (n * block_of c x.region (effects journal)) (effects journal)) (sym (behind_is c journal (giving_back c x n (effects journal)))) (record {
        only = record { keeps = given.keeps; offers = given.offers; elsewhere = λ s other. given.elsewhere s (λ is. other (sym is)) };
        less = given.long;
        falls = λ g inside at holds. given.holders x.host g holds;
      })
