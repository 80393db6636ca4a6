-- What a load or a store stored, and what it is to the cells.
use Rattle.std.proofs.Common.{◌≡◌, ℕ, ◌/◌, ◌%◌, ◌<◌, Bool, true, false, ◌&&◌, ◌==◌, List, [], ◌∷◌, ◌++◌, refl, sym, ap, ◌∙◌, subst}
use Rattle.std.specs.{Prelude.IfOk, Prelude.if◌then◌else◌, declared.result.Result.Result, declared.result.Result.TheVariants.Ok, declared.result.Result.TheVariants.Err}
use Rattle.dcd_base.specs.{Hosts.has_host, declared.failures.AccessFault.AccessFault, declared.ids.HostId.HostId, declared.media.Place.Place, declared.steps.Actor.Actor, declared.steps.Stamp.Stamp}
use Rattle.shard_laws.proofs.{NextStamps.next_counted, OwnGranules.same_number}
use Rattle.shard_laws.specs.Accessing.{AddsAccess, IsAccess, StoresOwn, StoresIn, held_place, refusal_of, said_at, stripe_reply}
use Rattle.shard_laws.specs.{Belonging.asked_at, Belonging.shard_at, Clocks.next_stamp, Stripes.Stripe}
use Rattle.shard_laws.specs.device_rules.specs.Legal.{stored_at, word_by, written_by}
use Rattle.granule_mem.specs.Contents.{Media, holders_in, word_in}
use Rattle.journal_core.specs.{declared.acts.Act.Act, declared.entries.Entry.Entry, Accesses.access_entry, Accesses.stored_unless, Entries.is_control}
use Rattle.media_map.specs.Places.{locate}
use Rattle.region_config.specs.{Configurations.Configuration, Granules.granule_total}

-- ---- words

module _ (c : Configuration) (h : HostId) (old new : Media) (g w : ℕ) where
  abbrev left : ℕ
  left = word_in old (g / 16) w

  stored : (p : Place) (value : ℕ) (held : Bool) → p.granule % 16 ≡ g % 16 → StoresOwn old new (if held then Ok p else Err AccessFault.NotGranted) value → (d : ℕ) → Ok p ≡ locate c h d →
      word_in new (g / 16) w ≡ written_by c h g w left (Act.Store d value) (stored_unless (refusal_of (if held then Ok p else Err AccessFault.NotGranted)))
  stored p value true same stores d is =
      stores (g / 16) w
      ∙ ap (λ b. if b && (p.word == w) then value else left) (same_number p.granule g same)
      ∙ ap (λ r. stored_at g w left r value) is
  stored p value false same stores d is = ap (λ (m : Media). word_in m (g / 16) w) stores

  -- the words after a load or a store are those that its entry makes
  pub stored_right : (act : Act) (at : Result Place AccessFault) → is_control act ≡ false → at ≡ locate c h (asked_at act) → g % 16 ≡ shard_at at → StoresIn old new act (held_place old h at) →
      word_in new (g / 16) w ≡ word_by c g w left (Actor.Host h) act (said_at old act (held_place old h at))
  stored_right (Act.Load d) at access is same stores = ap (λ (m : Media). word_in m (g / 16) w) stores
  stored_right (Act.Command q) at access is same stores = ap (λ (m : Media). word_in m (g / 16) w) stores
  stored_right (Act.Scrub n) at access is same stores = ap (λ (m : Media). word_in m (g / 16) w) stores
  stored_right (Act.Store d value) (Ok p) access is same stores = stored p value (has_host (holders_in old (p.granule / 16)) h) (sym same) stores d is
  stored_right (Act.Store d value) (Err fault) access is same stores = ap (λ (m : Media). word_in m (g / 16) w) stores

-- what the shard is then
pub adds_access : (index : ℕ) (c : Configuration) (old new : Media) (entries : List Entry) (clock stamp : Stamp) (pass line : ℕ) (h : HostId) (act : Act) (at : Result Place AccessFault) →
    is_control act ≡ false → at ≡ locate c h (asked_at act) → StoresIn old new act (held_place old h at) → new.holders ≡ old.holders →
    AddsAccess (record { index = index; config = c; media = old; entries = entries; clock = clock })
    (record { index = index; config = c; media = new; entries = entries ++ access_entry pass line h act (said_at old act (held_place old h at)) stamp ∷ []; clock = stamp })
    (access_entry pass line h act (said_at old act (held_place old h at)) stamp)
adds_access index c old new entries clock stamp pass line h act at access is stores holders = record {
  index_is = refl;
  config_is = refl;
  entries_are = refl;
  clock_is = refl;
  holders = holders;
  words = λ g w same. stored_right c h old new g w act at access is (same ∙ ap shard_at (sym is)) stores;
}

-- ---- the cells

pub entered_is_access : (x y : Stripe) (pass line : ℕ) (h : HostId) (act : Act) (at : Result Place AccessFault) (seen : Stamp) → is_control act ≡ false → h < x.config.hosts → at ≡ locate x.config h (asked_at act) →
    IfOk at (λ (p : Place). p.granule < granule_total x.config) → AddsAccess x y (access_entry pass line h act (stripe_reply x h act at) (next_stamp seen x.clock)) →
    IsAccess (shard_at at) pass (Actor.Host h) x y
entered_is_access x y pass line h act at seen access known is inside adds = record {
  entry = access_entry pass line h act (stripe_reply x h act at) (next_stamp seen x.clock);
  host = h;
  known = known;
  from = refl;
  actor_is = refl;
  pass = refl;
  access = access;
  counted = next_counted seen x.clock;
  here = ap shard_at (sym is);
  inside = subst (λ r. IfOk r (λ (p : Place). p.granule < granule_total x.config)) is inside;
  reply = ap (stripe_reply x h act) is;
  none = refl;
  adds = adds;
}
