-- What the proof of isolation carries over a legal journal, and what follows for two journals.
use Rattle.std.specs.Prelude.{◌≡◌, ℕ, ◌<◌, Bool, true, false, ◌||◌, ◌==◌, List, [], ◌∷◌, ◌++◌, fold, take, slice_get, Some, if◌then◌else◌, IsTrue, IsFalse}
use Rattle.std.specs.{List.list_all, declared.result.Result.Result, declared.result.Result.TheVariants.Ok, declared.result.Result.TheVariants.Err}
use Rattle.dcd_base.specs.{declared.ids.HostId.HostId, declared.media.Place.Place, declared.steps.Actor.Actor, declared.failures.AccessFault.AccessFault, Words.has_granule}
use Rattle.extent_list.specs.media_map.specs.{region_config.specs.Configurations.Configuration, region_config.specs.Granules.region_spec, region_config.specs.Granules.region_of, Places.locate}
use Rattle.journal_core.specs.{declared.acts.Act.Act, declared.acts.Reply.Reply, declared.outcome.Effect.Effect, declared.entries.Entry.Entry, Entries.effects, Holders.holds, Holders.is_taken}
use Rattle.isolation_laws.specs.{declared.items.Item.Item, declared.items.SoloReply.SoloReply, Unlawful.IsUnlawful, Solo.acts_for, Solo.items_of, Solo.own_items, Solo.solo_view, Solo.solo}
use Rattle.device_rules.specs.{Views.view_of, Tags.Status, Tags.status, Tags.is_free, Legal.word_of}

-- who has stored into the granule since it was zeroed, before it was last taken and after that
pub record Writers : Type 0 where
  pub before : List HostId
  pub since : List HostId

abbrev pub writers_by : ℕ → Writers → Effect → Writers
writers_by g w (Effect.Take h run) = if has_granule run g then record { before = w.before ++ w.since; since = [] } else w
writers_by g w (Effect.Zero run) = if has_granule run g then record { before = []; since = [] } else w
writers_by g w e = w

-- whether the place is in the granule
abbrev pub is_in_granule : ℕ → Result Place AccessFault → Bool
is_in_granule g (Ok p) = p.granule == g
is_in_granule g (Err fault) = false

abbrev pub stores_in : Configuration → ℕ → Actor → Act → Reply → List HostId
stores_in c g (Actor.Host h) (Act.Store d value) Reply.Stored =
    if is_in_granule g (locate c h d) then h ∷ [] else []
stores_in c g actor act reply = []

abbrev pub writers_after : Configuration → ℕ → Writers → Entry → Writers
writers_after c g w e = let v = fold (writers_by g) w e.effects in record v { since = v.since ++ stores_in c g e.actor e.act e.reply }

abbrev pub writers_of : Configuration → List Entry → ℕ → Writers
writers_of c journal g = fold (writers_after c g) (record { before = []; since = [] }) journal

abbrev pub is_offered_status : Status → Bool
is_offered_status Status.Offered = true
is_offered_status s = false

-- In a sanitized region a granule that is free or offered was zeroed since it was last taken, and has words 0 until it is
-- taken again. In one that is not shareable, nothing of one host is left for another; where hosts share a granule, each sees
-- what the others stored.
pub record Clean (c : Configuration) (journal : List Entry) : Type 0 where
  pub zero : (g : ℕ) (w : ℕ) → IsTrue (region_spec c (region_of c g)).sanitize → IsFalse (is_taken g (effects journal)) → word_of c journal g w ≡ 0
  pub untaken : (g : ℕ) → IsTrue (region_spec c (region_of c g)).sanitize → IsTrue (is_free (status c g (effects journal)) || is_offered_status (status c g (effects journal))) → IsFalse (is_taken g (effects journal))
  pub own : (g : ℕ) (h : HostId) → IsTrue (region_spec c (region_of c g)).sanitize → IsFalse (region_spec c (region_of c g)).shareable → IsTrue (holds h g (effects journal)) →
      ((writers_of c journal g).before ≡ []) × IsTrue (list_all (λ k. k == h) (writers_of c journal g).since)

-- The view of a host is the one that it has alone, after its own items. It is so of the hosts of the device:
-- another number has no log that is told of new block sizes, and solo tells it.
abbrev pub SeesAlone : Configuration → HostId → List Entry → Type 0
SeesAlone c h journal = view_of c h journal ≡ solo_view c h (own_items h journal)

abbrev pub AllSeeAlone : Configuration → List Entry → Type 0
AllSeeAlone c journal = (h : HostId) → h < c.hosts → SeesAlone c h journal

-- No item that the journal brings the host is unlawful, after those before it.
abbrev pub AreLawful : Configuration → HostId → List Item → Type 0
AreLawful c h items = (i : ℕ) (item : Item) → slice_get items i ≡ Some item → ¬ IsUnlawful c h (solo_view c h (take i items)) item

-- a reply, where something is said alone
abbrev pub hushed : SoloReply → Reply → SoloReply
hushed (SoloReply.Said said) reply = SoloReply.Said reply
hushed SoloReply.Unsaid reply = SoloReply.Unsaid

abbrev pub replies_with : Configuration → HostId → List Item → List Entry → List SoloReply
replies_with c h items [] = []
replies_with c h items (e ∷ journal) =
    (if acts_for h e.actor then hushed (solo c h items e.act) e.reply ∷ [] else []) ++ replies_with c h (items ++ items_of h e) journal

-- the replies to the host, in order, where a granted load in a shareable or unsanitized region is left out
abbrev pub told_to : Configuration → HostId → List Entry → List SoloReply
told_to c h journal = replies_with c h [] journal

-- Two journals that bring a host the same items bring it the same replies.
abbrev pub SameReplies : Configuration → HostId → List Entry → List Entry → Type 0
SameReplies c h left right = own_items h left ≡ own_items h right → told_to c h left ≡ told_to c h right
