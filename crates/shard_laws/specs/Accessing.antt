-- What a load or a store makes of a shard.
use Rattle.std.specs.Prelude.{◌≡◌, ℕ, ◌/◌, ◌%◌, ◌<◌, false, [], ◌∷◌, ◌++◌, Option, Some, None, IfOk, if◌then◌else◌}
use Rattle.std.specs.declared.result.Result.{Result, TheVariants.Ok, TheVariants.Err}
use Rattle.dcd_base.specs.{Hosts.has_host, declared.failures.AccessFault.AccessFault, declared.ids.HostId.HostId, declared.media.Place.Place, declared.steps.Actor.Actor}
use Rattle.device_rules.specs.Legal.{word_by}
use Rattle.granule_mem.specs.Contents.{Media, Stores, holders_in, word_in}
use Rattle.journal_core.specs.{declared.acts.Act.Act, declared.acts.Reply.Reply, declared.entries.Entry.Entry, Accesses.load_said, Accesses.stored_unless, Entries.is_control}
use Rattle.media_map.specs.Places.{locate}
use Rattle.region_config.specs.Granules.{granule_total}
use Rattle.shard_laws.specs.{Belonging.asked_at, Belonging.shard_in, Stripes.Stripe, Stripes.stripe_word}

-- the place, where the host is among the holders of its granule
abbrev pub held_place : Media → HostId → Result Place AccessFault → Result Place AccessFault
held_place m h (Ok p) = if has_host (holders_in m (p.granule / 16)) h then Ok p else Err AccessFault.NotGranted
held_place m h (Err fault) = Err fault

-- the word at a place, and why there is no place
abbrev pub word_found : Media → Result Place AccessFault → Result ℕ AccessFault
word_found m (Ok p) = Ok (word_in m (p.granule / 16) p.word)
word_found m (Err fault) = Err fault

abbrev pub refusal_of : Result Place AccessFault → Option AccessFault
refusal_of (Ok p) = None
refusal_of (Err fault) = Some fault

-- what is replied to a load or a store of a place that is held, and where there is none
abbrev pub said_at : Media → Act → Result Place AccessFault → Reply
said_at m (Act.Load d) at = load_said (word_found m at)
said_at m act at = stored_unless (refusal_of at)

abbrev pub stripe_reply : Stripe → HostId → Act → Result Place AccessFault → Reply
stripe_reply x h act at = said_at x.media act (held_place x.media h at)

-- a store of a place that is held writes its word, and nothing else writes
abbrev pub StoresOwn : Media → Media → Result Place AccessFault → ℕ → Type 0
StoresOwn old new (Ok p) value = Stores old new (p.granule / 16) p.word value
StoresOwn old new (Err fault) value = new ≡ old

abbrev pub StoresIn : Media → Media → Act → Result Place AccessFault → Type 0
StoresIn old new (Act.Store d value) at = StoresOwn old new at value
StoresIn old new act at = new ≡ old

-- y is x with the entry of one more load or store, and with the word that it stored. The clock is its stamp. Of words it
-- speaks in the shard that the entry is of.
pub record AddsAccess (x y : Stripe) (e : Entry) : Type 0 where
  pub index_is : y.index ≡ x.index
  pub config_is : y.config ≡ x.config
  pub entries_are : y.entries ≡ x.entries ++ e ∷ []
  pub clock_is : y.clock ≡ e.stamp
  pub holders : y.media.holders ≡ x.media.holders
  pub words : (g w : ℕ) → g % 16 ≡ shard_in x.config e → stripe_word y g w ≡ word_by x.config g w (stripe_word x g w) e.actor e.act e.reply

-- As the cells have it: y is x with one more load or store of shard k, by a seat and its actor.
pub record IsAccess (k seat : ℕ) (actor : Actor) (x y : Stripe) : Type 0 where
  pub entry : Entry
  pub host : HostId
  pub known : host < x.config.hosts
  pub from : actor ≡ Actor.Host host
  pub actor_is : entry.actor ≡ actor
  pub pass : entry.pass ≡ seat
  pub access : is_control entry.act ≡ false
  pub counted : 0 < entry.stamp.count
  pub here : shard_in x.config entry ≡ k
  pub inside : IfOk (locate x.config host (asked_at entry.act)) (λ (p : Place). p.granule < granule_total x.config)
  pub reply : entry.reply ≡ stripe_reply x host entry.act (locate x.config host (asked_at entry.act))
  pub none : entry.effects ≡ []
  pub adds : AddsAccess x y entry
