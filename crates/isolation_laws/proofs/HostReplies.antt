-- What a host is replied is what it would be replied alone.
use Rattle.std.proofs.Common.{◌≡◌, ℕ, ◌<◌, Bool, true, false, ◌&&◌, not, List, Result, Ok, Err, refl, sym, ap, subst, ◌∙◌}
use Rattle.std.{specs.Prelude.IsTrue, specs.Prelude.if◌then◌else◌, specs.List.list_any, proofs.lemmas.Bool.false≢true, proofs.lemmas.Bool.ltb-true}
use Rattle.dcd_base.specs.declared.{failures.AccessFault.AccessFault, ids.HostId.HostId, media.Place.Place, steps.Actor.Actor}
use Rattle.journal_core.{proofs.EachSteps.Each-push, specs.Entries.effects, specs.Entries.fits, specs.Holders.holds, specs.declared.acts.Act.Act, specs.declared.acts.Reply.Reply}
use Rattle.journal_core.specs.declared.entries.Entry.{Entry}
use Rattle.extent_list.specs.media_map.specs.{Places.locate, region_config.specs.Configurations.Configuration, region_config.specs.Granules.region_spec, region_config.specs.Soundness.IsSound}
use Rattle.device_rules.{proofs.LegalSound.legal_is_sound, proofs.LegalSteps.by_steps, specs.Answers.host_result_in, specs.Answers.reply_with}
use Rattle.device_rules.specs.Legal.{Legal, access_at, granted_reply, right_answer, word_of}
use Rattle.isolation_laws.{proofs.AllSee.all_see_alone, proofs.GrantedPlaces.held_has, proofs.GrantedPlaces.place_of, specs.Laws.SeesAlone, specs.declared.items.Item.Item}
use Rattle.isolation_laws.specs.declared.items.SoloReply.{SoloReply}
use Rattle.isolation_laws.specs.Solo.{Agrees, AgreesAlone, Isolated, has_byte, own_items, solo, solo_access, solo_granted, solo_load, solo_view, solo_word}

-- Where a host holds a place of a region that is sanitized and not shared, the word is the one that it has alone.
abbrev pub HasOwnWords : Configuration → HostId → List Entry → Type 0
HasOwnWords c h journal = (d : ℕ) (p : Place) → locate c h d ≡ Ok p → (region_spec c p.region).shareable ≡ false → (region_spec c p.region).sanitize ≡ true →
    holds h p.granule (effects journal) ≡ true → word_of c journal p.granule p.word ≡ solo_word c h d (own_items h journal)

module _ (c : Configuration) (sound : IsSound c) (before : List Entry) (legal : Legal c before) (h : HostId) (host : h < c.hosts) (words : HasOwnWords c h before) where
  abbrev items : List Item
  items = own_items h before

  alone : SeesAlone c h before
  alone = all_see_alone c sound before legal h host

  -- the host holds what it is granted alone
  granted : (d : ℕ) (p : Place) → locate c h d ≡ Ok p → holds h p.granule (effects before) ≡ list_any (has_byte d) (solo_view c h items).accepted
  granted d p at = held_has c sound h host d p (place_of c h d p at) (effects before) (legal_is_sound c sound before legal).stands ∙ ap (λ v. list_any (has_byte d) v.accepted) alone

  -- a load that is granted
  loaded : (d : ℕ) (p : Place) → locate c h d ≡ Ok p → holds h p.granule (effects before) ≡ true →
      Agrees (solo_load c h items d (region_spec c p.region)) (Reply.Word (word_of c before p.granule p.word))
  loaded d p at here = by (region_spec c p.region).shareable (region_spec c p.region).sanitize refl refl
    where
      by : (shared zeroed : Bool) → (region_spec c p.region).shareable ≡ shared → (region_spec c p.region).sanitize ≡ zeroed →
          Agrees (if not shared && zeroed then SoloReply.Said (Reply.Word (solo_word c h d items)) else SoloReply.Unsaid) (Reply.Word (word_of c before p.granule p.word))
      by true zeroed is are = tt
      by false false is are = tt
      by false true is are = ap Reply.Word (words d p at is are here)

  -- a load or a store, by its place
  at_place : (act : Act) (d : ℕ) → ((p : Place) → locate c h d ≡ Ok p → holds h p.granule (effects before) ≡ true → Agrees (solo_granted c h items act d (region_spec c p.region)) (granted_reply c before p act)) →
      (found : Result Place AccessFault) → locate c h d ≡ found → Agrees (solo_access c h items act d found) (access_at c before h act found)
  at_place act d fine (Err fault) at = refl
  at_place act d fine (Ok p) at = by (holds h p.granule (effects before)) (list_any (has_byte d) (solo_view c h items).accepted) refl (granted d p at)
    where
      by : (held has : Bool) → holds h p.granule (effects before) ≡ held → holds h p.granule (effects before) ≡ has →
          Agrees (if has then solo_granted c h items act d (region_spec c p.region) else SoloReply.Said (Reply.Refused AccessFault.NotGranted))
          (if held then granted_reply c before p act else Reply.Refused AccessFault.NotGranted)
      by true true is same = fine p at is
      by false false is same = refl
      by true false is same = absurd (false≢true (sym same ∙ is))
      by false true is same = absurd (false≢true (sym is ∙ same))

  agrees : (act : Act) → Agrees (solo c h items act) (right_answer c before (Actor.Host h) act).0
  agrees (Act.Command q) = ap (λ v. reply_with q (host_result_in c h v q)) alone
  agrees (Act.Load d) = at_place (Act.Load d) d (λ p at here. loaded d p at here) (locate c h d) refl
  agrees (Act.Store d value) = at_place (Act.Store d value) d (λ p at here. refl) (locate c h d) refl
  agrees (Act.Scrub n) = tt

-- only hosts of the device act
acts : (hosts : ℕ) (h : HostId) (act : Act) → IsTrue (fits hosts (Actor.Host h) act) → h < hosts
acts hosts h (Act.Command q) fit = ltb-true h hosts fit
acts hosts h (Act.Load d) fit = ltb-true h hosts fit
acts hosts h (Act.Store d value) fit = ltb-true h hosts fit
acts hosts h (Act.Scrub n) fit = absurd (false≢true fit)

-- Where the words of each host are its own, every legal journal is isolated.
pub isolated_with : (c : Configuration) → IsSound c → ((journal : List Entry) → Legal c journal → (h : HostId) → h < c.hosts → HasOwnWords c h journal) →
    (journal : List Entry) → Legal c journal → Isolated c journal
isolated_with c sound words = by_steps c (Isolated c) (λ h. tt) (λ before e legal each meets h. Each-push (AgreesAlone c h) before e (each h) (λ actor.
    (let host : h < c.hosts = acts c.hosts h e.act (subst (λ a. IsTrue (fits c.hosts a e.act)) actor meets.allowed) in
    subst (Agrees (solo c h (own_items h before) e.act)) (sym (meets.reply ∙ ap (λ a. (right_answer c before a e.act).0) actor))
    (agrees c sound before legal h host (words before legal h host) e.act))))
