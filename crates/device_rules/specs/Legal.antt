-- Words and legal journals.
use Rattle.std.specs.Prelude.{◌≡◌, ℕ, Bool, false, ◌&&◌, ◌==◌, List, [], ◌++◌, map, filter, fold, if◌then◌else◌, IsTrue, IsFalse}
use Rattle.std.specs.{List.list_any, declared.result.Result.Result, declared.result.Result.TheVariants.Ok, declared.result.Result.TheVariants.Err}
use Rattle.cci_codec.specs.dcd_base.specs.{Words.same_tag, Words.has_granule, Words.has_in_runs, declared.capacity.Tag.Tag, declared.failures.AccessFault.AccessFault, declared.ids.HostId.HostId}
use Rattle.cci_codec.specs.dcd_base.specs.declared.{media.Place.Place, steps.Actor.Actor}
use Rattle.extent_list.specs.media_map.specs.{Places.locate, Places.run_of, region_config.specs.Configurations.Configuration}
use Rattle.extent_list.specs.media_map.specs.region_config.specs.Granules.{region_spec, region_of}
use Rattle.journal_core.specs.{Entries.effects, Entries.Each, Entries.fits, Holders.holds, declared.acts.Act.Act, declared.acts.Reply.Reply, declared.entries.Entry.Entry}
use Rattle.journal_core.specs.declared.outcome.Effect.{Effect}
use Rattle.device_rules.specs.{Hosts.accepted_of, Answers.answer}

-- ---- what a word of the memory is

abbrev pub stored_at : ℕ → ℕ → ℕ → Result Place AccessFault → ℕ → ℕ
stored_at g w value (Ok p) new = if (p.granule == g) && (p.word == w) then new else value
stored_at g w value (Err fault) new = value

-- the value after an entry of a host: a store that was answered Stored writes
abbrev pub written_by : Configuration → HostId → ℕ → ℕ → ℕ → Act → Reply → ℕ
written_by c h g w value (Act.Store d new) Reply.Stored = stored_at g w value (locate c h d) new
written_by c h g w value act reply = value

abbrev pub is_zeroing : ℕ → Effect → Bool
is_zeroing g (Effect.Zero run) = has_granule run g
is_zeroing g e = false

abbrev pub word_by : Configuration → ℕ → ℕ → ℕ → Actor → Act → Reply → ℕ
word_by c g w value (Actor.Host h) act reply = written_by c h g w value act reply
word_by c g w value actor act reply = value

abbrev pub word_after : Configuration → ℕ → ℕ → ℕ → Entry → ℕ
word_after c g w value e = if list_any (is_zeroing g) e.effects then 0 else word_by c g w value e.actor e.act e.reply

-- the value of the last store to the word since its granule was zeroed, else 0
abbrev pub word_of : Configuration → List Entry → ℕ → ℕ → ℕ
word_of c journal g w = fold (word_after c g w) 0 journal

-- ---- loads and stores

-- what is replied where the host holds the place
abbrev pub granted_reply : Configuration → List Entry → Place → Act → Reply
granted_reply c journal p (Act.Load d) = Reply.Word (word_of c journal p.granule p.word)
granted_reply c journal p act = Reply.Stored

abbrev pub access_at : Configuration → List Entry → HostId → Act → Result Place AccessFault → Reply
access_at c journal h act (Err fault) = Reply.Refused fault
access_at c journal h act (Ok p) =
    if holds h p.granule (effects journal) then granted_reply c journal p act else Reply.Refused AccessFault.NotGranted

-- the reply to a load or a store of this address
abbrev pub access_reply : Configuration → List Entry → HostId → Act → ℕ → Reply
access_reply c journal h act d = access_at c journal h act (locate c h d)

-- ---- a legal journal

-- An access replies as the journal before it says, and has no effects.
-- A command or a scrub has the reply and the effects of the answer.
abbrev pub right_answer : Configuration → List Entry → Actor → Act → Reply × List Effect
right_answer c before (Actor.Host h) (Act.Load d) = (access_reply c before h (Act.Load d) d, [])
right_answer c before (Actor.Host h) (Act.Store d value) = (access_reply c before h (Act.Store d value) d, [])
right_answer c before actor act = answer c before actor act

pub record Meets (c : Configuration) (before : List Entry) (e : Entry) : Type 0 where
  pub allowed : IsTrue (fits c.hosts e.actor e.act)
  pub reply : e.reply ≡ (right_answer c before e.actor e.act).0
  pub effects : e.effects ≡ (right_answer c before e.actor e.act).1

-- Each entry meets what the entries before it ask.
abbrev pub Legal : Configuration → List Entry → Type 0
Legal c journal = Each (Meets c) journal

-- ---- exclusive holding

-- The extents of the host with this tag have the granule.
abbrev pub HasUnder : Configuration → HostId → Tag → ℕ → List Effect → Type 0
HasUnder c h t g past = IsTrue (has_in_runs (map (run_of c h) (filter (λ x. same_tag x.tag t) (accepted_of c h past))) g)

-- A granule of a non-shareable region has one holder at most,
-- and all holders of one of a shareable region have it under one tag.
pub record Apart (c : Configuration) (past : List Effect) : Type 0 where
  pub alone : (g : ℕ) (h k : HostId) → IsFalse (region_spec c (region_of c g)).shareable →
      IsTrue (holds h g past) → IsTrue (holds k g past) → h ≡ k
  pub shared : (g : ℕ) → IsTrue (region_spec c (region_of c g)).shareable →
      (t : Tag) × ((h : HostId) → IsTrue (holds h g past) → HasUnder c h t g past)

-- So it is at every moment.
abbrev pub Exclusive : Configuration → List Entry → Type 0
Exclusive c journal = (before after : List Entry) → journal ≡ before ++ after → Apart c (effects before)
