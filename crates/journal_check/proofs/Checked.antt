-- The answer of a check, over the device that took the steps which the text claims.
use Rattle.std.proofs.Common.{◌≡◌, Ok, Err, Option, Bool, true, false, ℕ, ◌+◌, ◌≤◌, min, List, length, take, sym, subst, arith}
use Rattle.std.{specs.Prelude.IfOk, specs.declared.result.Result.Result, proofs.lemmas.List.Sums.count_by-le-length}
use Rattle.region_config.specs.Configurations.{Configuration}
use Rattle.region_config.proofs.Faultless
use Rattle.device_plain.specs.{Devices.Plain, device_rules.specs.Legal.Legal}
use Rattle.journal_core.specs.{Merging.Numbered, declared.entries.Entry.Entry}
use Rattle.report.specs.{script_codec.specs.declared.scripts.Script.Script, script_codec.specs.Covering.is_line, script_codec.specs.Scripts.IsScript, Texts.text}
use Rattle.journal_check.{proofs.Deciding.covers_whole, proofs.Deciding.no_all, proofs.Deciding.no_some, proofs.Feeds.feeds, specs.Claims.behind_line}
use Rattle.journal_check.specs.{FirstWrong.IsFirstWrong, FirstWrong.IsJournalOf, FirstWrong.IsRightText, Following.IsFollowed, Parting.PartAt, Replaying.IsCompared, Replaying.IsDeviceOf}

-- it took no more steps than there are lines
pub few_steps : (s : Script) (given : List ℕ) (journal : List Entry) (all : Bool) → length s.lines ≤ 65536 → IsFollowed s given journal all → length journal ≤ 65536
few_steps s given journal true few followed = omega (arith, few, followed.ends, count_by-le-length is_line s.lines)
few_steps s given journal false few followed = omega (arith, few, followed.ends.fewer, count_by-le-length is_line s.lines)

module _ (s : Script) (is : IsScript s) (given : List ℕ) (c : Configuration) (config : c ≡ s.config) (journal : List Entry) (legal : Legal c journal) (agreed : ℕ) where
  its_legal : Legal s.config journal
  its_legal = subst (λ k. Legal k journal) config legal

  its_part : (same : Bool) → PartAt given (text c journal) agreed same → PartAt given (text s.config journal) agreed same
  its_part same part = subst (λ k. PartAt given (text k journal) agreed same) config part

  pub checked_yes : (all same : Bool) → all ≡ true → same ≡ true → Numbered journal → IsFollowed s (behind_line given) journal all → PartAt given (text c journal) agreed same
      → IsJournalOf s given journal
  checked_yes all same whole alike numbered followed part =
      let it : IsFollowed s (behind_line given) journal true = subst (IsFollowed s (behind_line given) journal) whole followed in
      let parts : PartAt given (text s.config journal) agreed true = subst (PartAt given (text s.config journal) agreed) alike (its_part same part) in
      record { legal = its_legal; numbered = numbered; covers = covers_whole s journal it.follows it.ends; is = parts.parts.0 }

  pub checked_no : (all same : Bool) → all ≡ true → same ≡ false → IsFollowed s (behind_line given) journal all → PartAt given (text c journal) agreed same
      → IsFirstWrong s given (feeds (take agreed given) + 1)
  checked_no all same whole apart followed part =
      let it : IsFollowed s (behind_line given) journal true = subst (IsFollowed s (behind_line given) journal) whole followed in
      no_all s (Faultless.sound s.config is.configured) is.sound is.few given journal its_legal it.follows it.claims it.ends agreed
      (subst (PartAt given (text s.config journal) agreed) apart (its_part same part))

  pub checked_some : (all same : Bool) → all ≡ false → IsFollowed s (behind_line given) journal all → PartAt given (text c journal) agreed same
      → IsFirstWrong s given (min (feeds (take agreed given) + 1) (length journal + 2))
  checked_some all same some followed part =
      let it : IsFollowed s (behind_line given) journal false = subst (IsFollowed s (behind_line given) journal) some followed in
      no_some s (Faultless.sound s.config is.configured) is.sound is.few given journal its_legal it.follows it.claims it.ends agreed same (its_part same part)

-- ---- the number in 32 bits
pub compared_short : {E : Type 0} (s : Script) (given : List ℕ) (journal : List Entry) (first : Option ℕ) (found : Result (Option ℕ) E) → IfOk found (λ short. short ≡ first)
    → IsCompared s given journal first → IfOk found (λ short. IsCompared s given journal short)
compared_short s given journal first (Ok short) is compared = subst (IsCompared s given journal) (sym is) compared
compared_short s given journal first (Err e) is compared = tt

-- the text of the journal of a device is right
pub right_text : (s : Script) (given : List ℕ) (device : Plain) → IsDeviceOf s given device → IsRightText s given
right_text s given device is = record { journal = device.journal; legal = is.journal.legal; covers = is.journal.covers; is = is.journal.is }
