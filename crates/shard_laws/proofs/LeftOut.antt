-- What stays the same where loads and stores, which have no effects, are left out of a journal.
use Rattle.std.proofs.Common.{◌≡◌, ◌≢◌, inl, inr, ℕ, ◌+◌, ◌%◌, Bool, true, false, ◌&&◌, ◌==◌, List, [], ◌∷◌, ◌++◌, refl, sym, ap, ◌∙◌, ne_eqb}
use Rattle.std.proofs.lemmas.{Bool.cases_Bool, Bool.true≢false, List.Elements.All-head, List.Elements.All-tail, List.Elements.All-weaker}
use Rattle.std.specs.{List.filter, List.list_any, Prelude.fold, Prelude.All, Prelude.IsTrue, Prelude.if◌then◌else◌, declared.result.Result.Result}
use Rattle.std.specs.declared.result.Result.TheVariants.{Ok, Err}
use Rattle.dcd_base.specs.declared.{failures.AccessFault.AccessFault, ids.HostId.HostId, media.Place.Place, steps.Actor.Actor}
use Rattle.device_rules.{proofs.Answered.answer_same, specs.Hosts.changes_of, specs.Hosts.moves}
use Rattle.device_rules.specs.Legal.{Meets, access_at, right_answer, stored_at, word_by, word_of, written_by}
use Rattle.journal_core.{proofs.Filters.filter_dropped, proofs.Filters.filter_kept, specs.Entries.effects, specs.Entries.fits, specs.Entries.is_control, specs.Holders.holds}
use Rattle.journal_core.specs.declared.{acts.Act.Act, acts.Reply.Reply, entries.Entry.Entry}
use Rattle.media_map.specs.Places.{locate}
use Rattle.region_config.specs.Configurations.{Configuration}
use Rattle.shard_laws.specs.Belonging.{shard_at, shard_by}

pub not_both : {A : Type 0} (b : Bool) → b ≡ true → b ≡ false → A
not_both b is is_not = absurd (true≢false (sym is ∙ is_not))

never : {A : Type 0} → IsTrue false → A
never is = not_both false is refl

-- ---- folds

pub effects_kept : (p : Entry → Bool) (a : List Entry) → All (λ (e : Entry). p e ≡ false → e.effects ≡ []) a → effects (filter p a) ≡ effects a
effects_kept p [] all = refl
effects_kept p (e ∷ a) all =
    let rest = effects_kept p a (All-tail (λ (e : Entry). p e ≡ false → e.effects ≡ []) e a all) in
    elim (cases_Bool (p e)) [
      | inl kept ↦ ap effects (filter_kept p e a kept) ∙ ap (λ es. e.effects ++ es) rest
      | inr dropped ↦ ap effects (filter_dropped p e a dropped) ∙ rest
          ∙ sym (ap (λ es. es ++ effects a) (All-head (λ (e : Entry). p e ≡ false → e.effects ≡ []) e a all dropped))
    ]

pub fold_kept : {B : Type 0} (f : B → Entry → B) (p : Entry → Bool) (a : List Entry) (z : B) → All (λ (e : Entry). p e ≡ false → (v : B) → f v e ≡ v) a → fold f z (filter p a) ≡ fold f z a
fold_kept f p [] z all = refl
fold_kept {B} f p (e ∷ a) z all =
    let rest = All-tail (λ (e : Entry). p e ≡ false → (v : B) → f v e ≡ v) e a all in
    elim (cases_Bool (p e)) [
      | inl kept ↦ ap (fold f z) (filter_kept p e a kept) ∙ fold_kept f p a (f z e) rest
      | inr dropped ↦ ap (fold f z) (filter_dropped p e a dropped) ∙ fold_kept f p a z rest
          ∙ sym (ap (λ y. fold f y a) (All-head (λ (e : Entry). p e ≡ false → (v : B) → f v e ≡ v) e a all dropped z))
    ]

pub changes_kept : (h : HostId) (p : Entry → Bool) (a : List Entry) → All (λ (e : Entry). p e ≡ false → e.effects ≡ []) a → changes_of h (filter p a) ≡ changes_of h a
changes_kept h p a all =
    fold_kept (λ n (e : Entry). if list_any (moves h) e.effects then n + 1 else n) p a 0
    (All-weaker (λ (e : Entry). p e ≡ false → e.effects ≡ []) (λ (e : Entry). p e ≡ false → (n : ℕ) → (if list_any (moves h) e.effects then n + 1 else n) ≡ n)
    (λ e none dropped n. ap (λ es. if list_any (moves h) es then n + 1 else n) (none dropped)) a all)

-- ---- words

elsewhere : (g w value new : ℕ) (r : Result Place AccessFault) → shard_at r ≢ g % 16 → stored_at g w value r new ≡ value
elsewhere g w value new (Ok p) other = ap (λ b. if b && (p.word == w) then new else value) (ne_eqb p.granule g (λ same. other (ap (λ n. n % 16) same)))
elsewhere g w value new (Err fault) other = refl

by_reply : (c : Configuration) (h : HostId) (g w value d new : ℕ) (reply : Reply) → shard_at (locate c h d) ≢ g % 16 → written_by c h g w value (Act.Store d new) reply ≡ value
by_reply c h g w value d new Reply.Stored other = elsewhere g w value new (locate c h d) other
by_reply c h g w value d new (Reply.Answer r) other = refl
by_reply c h g w value d new (Reply.Word x) other = refl
by_reply c h g w value d new (Reply.Refused fault) other = refl
by_reply c h g w value d new (Reply.Scrubbed n) other = refl

-- a load or a store of another shard leaves a word
pub word_elsewhere : (c : Configuration) (g w value : ℕ) (actor : Actor) (act : Act) (reply : Reply) → shard_by c actor act ≢ g % 16 → word_by c g w value actor act reply ≡ value
word_elsewhere c g w value (Actor.Host h) (Act.Command q) reply other = refl
word_elsewhere c g w value (Actor.Host h) (Act.Load d) reply other = refl
word_elsewhere c g w value (Actor.Host h) (Act.Store d new) reply other = by_reply c h g w value d new reply other
word_elsewhere c g w value (Actor.Host h) (Act.Scrub n) reply other = refl
word_elsewhere c g w value Actor.Manager act reply other = refl
word_elsewhere c g w value Actor.Sanitizer act reply other = refl

-- a command or a scrub stores nothing
pub stores_nothing : (c : Configuration) (g w value : ℕ) (actor : Actor) (act : Act) (reply : Reply) → is_control act ≡ true → word_by c g w value actor act reply ≡ value
stores_nothing c g w value (Actor.Host h) (Act.Command q) reply is = refl
stores_nothing c g w value (Actor.Host h) (Act.Load d) reply is = never is
stores_nothing c g w value (Actor.Host h) (Act.Store d new) reply is = never is
stores_nothing c g w value (Actor.Host h) (Act.Scrub n) reply is = refl
stores_nothing c g w value Actor.Manager act reply is = refl
stores_nothing c g w value Actor.Sanitizer act reply is = refl

-- ---- answers

module _ (c : Configuration) (b a : List Entry) (same : effects b ≡ effects a) where
  at_place : (h : HostId) (act : Act) (r : Result Place AccessFault) → is_control act ≡ false → ((g w : ℕ) → g % 16 ≡ shard_at r → word_of c b g w ≡ word_of c a g w) →
      access_at c b h act r ≡ access_at c a h act r
  at_place h act (Err fault) access words = refl
  at_place h (Act.Load d) (Ok p) access words = λ i. if holds h p.granule (same i) then Reply.Word (words p.granule p.word refl i) else Reply.Refused AccessFault.NotGranted
  at_place h (Act.Store d new) (Ok p) access words = λ i. if holds h p.granule (same i) then Reply.Stored else Reply.Refused AccessFault.NotGranted
  at_place h (Act.Command q) (Ok p) access words = not_both (is_control (Act.Command q)) refl access
  at_place h (Act.Scrub n) (Ok p) access words = not_both (is_control (Act.Scrub n)) refl access

  module _ (moved : (h : HostId) → changes_of h b ≡ changes_of h a) where
    pub command_answered : (actor : Actor) (act : Act) → is_control act ≡ true → right_answer c b actor act ≡ right_answer c a actor act
    command_answered (Actor.Host h) (Act.Command q) is = answer_same c b a same moved (Actor.Host h) (Act.Command q)
    command_answered (Actor.Host h) (Act.Load d) is = never is
    command_answered (Actor.Host h) (Act.Store d new) is = never is
    command_answered (Actor.Host h) (Act.Scrub n) is = answer_same c b a same moved (Actor.Host h) (Act.Scrub n)
    command_answered Actor.Manager act is = answer_same c b a same moved Actor.Manager act
    command_answered Actor.Sanitizer act is = answer_same c b a same moved Actor.Sanitizer act

    pub access_answered : (actor : Actor) (act : Act) → is_control act ≡ false → ((g w : ℕ) → g % 16 ≡ shard_by c actor act → word_of c b g w ≡ word_of c a g w) →
        right_answer c b actor act ≡ right_answer c a actor act
    access_answered (Actor.Host h) (Act.Load d) is words = λ i. (at_place h (Act.Load d) (locate c h d) is words i, [])
    access_answered (Actor.Host h) (Act.Store d new) is words = λ i. (at_place h (Act.Store d new) (locate c h d) is words i, [])
    access_answered (Actor.Host h) (Act.Command q) is words = not_both (is_control (Act.Command q)) refl is
    access_answered (Actor.Host h) (Act.Scrub n) is words = not_both (is_control (Act.Scrub n)) refl is
    access_answered Actor.Manager act is words = answer_same c b a same moved Actor.Manager act
    access_answered Actor.Sanitizer act is words = answer_same c b a same moved Actor.Sanitizer act

-- what an entry meets, it meets behind entries that answer it alike
pub meets_too : (c : Configuration) (b a : List Entry) (e : Entry) → right_answer c b e.actor e.act ≡ right_answer c a e.actor e.act → Meets c b e → Meets c a e
meets_too c b a e same m = record { allowed = m.allowed; reply = m.reply ∙ ap (λ r. r.0) same; effects = m.effects ∙ ap (λ r. r.1) same }

-- a load or a store that meets what is asked has no effects
pub no_effects : (c : Configuration) (a : List Entry) (actor : Actor) (act : Act) → is_control act ≡ false → IsTrue (fits c.hosts actor act) → (right_answer c a actor act).1 ≡ []
no_effects c a (Actor.Host h) (Act.Load d) is may = refl
no_effects c a (Actor.Host h) (Act.Store d new) is may = refl
no_effects c a (Actor.Host h) (Act.Command q) is may = not_both (is_control (Act.Command q)) refl is
no_effects c a (Actor.Host h) (Act.Scrub n) is may = not_both (is_control (Act.Scrub n)) refl is
no_effects c a Actor.Manager (Act.Load d) is may = never may
no_effects c a Actor.Manager (Act.Store d new) is may = never may
no_effects c a Actor.Manager (Act.Command q) is may = not_both (is_control (Act.Command q)) refl is
no_effects c a Actor.Manager (Act.Scrub n) is may = not_both (is_control (Act.Scrub n)) refl is
no_effects c a Actor.Sanitizer (Act.Load d) is may = never may
no_effects c a Actor.Sanitizer (Act.Store d new) is may = never may
no_effects c a Actor.Sanitizer (Act.Command q) is may = not_both (is_control (Act.Command q)) refl is
no_effects c a Actor.Sanitizer (Act.Scrub n) is may = not_both (is_control (Act.Scrub n)) refl is
