-- A load or a store of a shard that is right is answered as the journal before it says.
use Rattle.std.proofs.Common.{◌≡◌, ℕ, ◌%◌, ◌<◌, Bool, true, false, List, [], refl, ◌∙◌}
use Rattle.std.{proofs.lemmas.Bool.lt-ltb, specs.Prelude.IfOk, specs.Prelude.IsTrue, specs.Prelude.if◌then◌else◌, specs.declared.result.Result.Result}
use Rattle.std.specs.declared.result.Result.TheVariants.{Ok, Err}
use Rattle.dcd_base.specs.{Hosts.has_host, declared.failures.AccessFault.AccessFault, declared.ids.HostId.HostId, declared.media.Place.Place, declared.steps.Actor.Actor}
use Rattle.device_rules.specs.Legal.{access_at, right_answer, word_of}
use Rattle.journal_core.specs.{declared.acts.Act.Act, declared.acts.Reply.Reply, declared.entries.Entry.Entry, Entries.effects, Entries.fits, Entries.is_control, Holders.holds}
use Rattle.media_map.specs.Places.{locate}
use Rattle.region_config.specs.{Configurations.Configuration, Granules.granule_total}
use Rattle.shard_laws.{proofs.LeftOut.not_both, specs.Accessing.said_at, specs.Accessing.stripe_reply, specs.Belonging.asked_at, specs.Belonging.shard_at}
use Rattle.shard_laws.specs.Stripes.{Stripe, holders_at, stripe_word}

-- where holders and words of the shard are those of a journal
pub replies : (c : Configuration) (x : Stripe) (before : List Entry) (h : HostId) (act : Act) (r : Result Place AccessFault) → is_control act ≡ false → IfOk r (λ (p : Place). p.granule < granule_total c) →
    ((g : ℕ) → g < granule_total c → g % 16 ≡ shard_at r → has_host (holders_at x g) h ≡ holds h g (effects before)) →
    ((g w : ℕ) → g < granule_total c → g % 16 ≡ shard_at r → stripe_word x g w ≡ word_of c before g w) → stripe_reply x h act r ≡ access_at c before h act r
replies c x before h (Act.Load d) (Err fault) access inside held words = refl
replies c x before h (Act.Store d value) (Err fault) access inside held words = refl
replies c x before h (Act.Load d) (Ok p) access inside held words =
    by (has_host (holders_at x p.granule) h)
    ∙ (λ i. if held p.granule inside refl i then Reply.Word (words p.granule p.word inside refl i) else Reply.Refused AccessFault.NotGranted)
  where
    by : (b : Bool) → said_at x.media (Act.Load d) (if b then Ok p else Err AccessFault.NotGranted) ≡ (if b then Reply.Word (stripe_word x p.granule p.word) else Reply.Refused AccessFault.NotGranted)
    by true = refl
    by false = refl
replies c x before h (Act.Store d value) (Ok p) access inside held words =
    by (has_host (holders_at x p.granule) h)
    ∙ (λ i. if held p.granule inside refl i then Reply.Stored else Reply.Refused AccessFault.NotGranted)
  where
    by : (b : Bool) → said_at x.media (Act.Store d value) (if b then Ok p else Err AccessFault.NotGranted) ≡ (if b then Reply.Stored else Reply.Refused AccessFault.NotGranted)
    by true = refl
    by false = refl
replies c x before h (Act.Command q) r access inside held words = not_both (is_control (Act.Command q)) refl access
replies c x before h (Act.Scrub n) r access inside held words = not_both (is_control (Act.Scrub n)) refl access

pub accessed : (c : Configuration) (before : List Entry) (h : HostId) (act : Act) → is_control act ≡ false → right_answer c before (Actor.Host h) act ≡ (access_at c before h act (locate c h (asked_at act)), [])
accessed c before h (Act.Load d) access = refl
accessed c before h (Act.Store d value) access = refl
accessed c before h (Act.Command q) access = not_both (is_control (Act.Command q)) refl access
accessed c before h (Act.Scrub n) access = not_both (is_control (Act.Scrub n)) refl access

pub may_access : (hosts h : ℕ) (act : Act) → is_control act ≡ false → h < hosts → IsTrue (fits hosts (Actor.Host h) act)
may_access hosts h (Act.Load d) access under = lt-ltb h hosts under
may_access hosts h (Act.Store d value) access under = lt-ltb h hosts under
may_access hosts h (Act.Command q) access under = not_both (is_control (Act.Command q)) refl access
may_access hosts h (Act.Scrub n) access under = not_both (is_control (Act.Scrub n)) refl access
