-- A shard after one more load or store, which is put behind all that is not later.
use Rattle.std.proofs.Common.{◌≡◌, ⊎_elim, ℕ, ◌<◌, ◌≤◌, ◌/◌, ◌%◌, true, false, List, [], ◌∷◌, ◌++◌, sym, ap, ◌∙◌, subst, append-nil, append_assoc, arith}
use Rattle.std.proofs.lemmas.List.{Elements.All-head, Elements.All-push, Elements.All-tail, Elements.All-weaker, Sums.fold-append}
use Rattle.std.specs.{List.list_any, Prelude.All, Prelude.IsTrue, Prelude.slice_index, Prelude.if◌then◌else◌}
use mathlib.Core.Option.{some}
use lib.ListN.{get_elem?}
use Rattle.dcd_base.specs.declared.{ids.HostId.HostId, steps.Actor.Actor, steps.Stamp.Stamp}
use Rattle.device_rules.specs.Legal.{Meets, access_at, is_zeroing, right_answer, word_after, word_by, word_of}
use Rattle.journal_core.proofs.{EachSteps.Each-front, HoldingSteps.holds-append, Inserting.IsPut, Inserting.insert_entry-put, JournalSteps.effects-append, MergedFilters.merged-all}
use Rattle.journal_core.proofs.{Merges.merged-rising, Pushing.merged-shard_push, Splits.all_at, Splits.all_behind, Splits.all_both, Splits.all_from_places}
use Rattle.journal_core.specs.{Entries.Each, Entries.EachFrom, Entries.effects, Entries.fits, Entries.is_control, Holders.holds, Merging.insert_entry, Merging.is_later, Merging.merged}
use Rattle.journal_core.specs.declared.entries.Entry.{Entry}
use Rattle.media_map.specs.Places.{locate}
use Rattle.region_config.specs.Configurations.{Configuration}
use Rattle.ruled_cells.specs.{Laws.AccessKeeps, Stamps.Below, Stamps.IsControlLog}
use Rattle.shard_laws.proofs.{AccessReplies.accessed, AccessReplies.may_access, AccessReplies.replies, ControlLogs.effects_of_both, ControlLogs.flat_one, LeftOut.not_both}
use Rattle.shard_laws.proofs.{NextStamps.later_number, NextStamps.later_than, NextStamps.one_way, Untouched.LeavesShard, Untouched.holders_left, Untouched.words_left}
use Rattle.shard_laws.specs.{Accessing.IsAccess, Belonging.asked_at, Belonging.shard_at, Belonging.shard_by, Belonging.touches_shard, Right.AccessMeets, Right.IsRight, Right.IsRightBy}
use Rattle.shard_laws.specs.Stripes.{Stripe, holders_at, stripe_word}

each_then : (before front rest : List Entry) (P : List Entry → Entry → Type 0) → EachFrom before P front → EachFrom (before ++ front) P rest → EachFrom before P (front ++ rest)
each_then before [] rest P first next = subst (λ b. EachFrom b P rest) (append-nil before) next
each_then before (e ∷ front) rest P first next = (first.0, each_then (before ++ e ∷ []) front rest P first.1 (subst (λ b. EachFrom b P rest) (sym (append_assoc before (e ∷ []) front)) next))

-- nothing is asked of commands and scrubs
commands_meet : (c : Configuration) (before rest : List Entry) → All (λ (e : Entry). is_control e.act ≡ true) rest → EachFrom before (AccessMeets c) rest
commands_meet c before [] all = tt
commands_meet c before (e ∷ rest) all = (
  (λ access. not_both (is_control e.act) (All-head (λ (e : Entry). is_control e.act ≡ true) e rest all) access),
  commands_meet c (before ++ e ∷ []) rest (All-tail (λ (e : Entry). is_control e.act ≡ true) e rest all),
)

module _ (k seat : ℕ) (actor : Actor) (x y : Stripe) (log : List Entry) (is : IsControlLog log) (r : IsRightBy x.config k (holders_at x) (stripe_word x) x.entries x.clock log)
    (tidy : (j : ℕ) (e : Entry) → get_elem? x.entries j ≡ some e → ¬ Below x.clock e.stamp) (a : IsAccess k seat actor x y) (above : Below x.clock a.entry.stamp) where
  abbrev f : Entry
  f = a.entry

  abbrev whole : List Entry
  whole = merged log (x.entries ∷ [])

  clock_low : x.clock.number ≤ f.stamp.number
  clock_low = ⊎_elim (λ (less : x.clock.number < f.stamp.number). omega (arith, less)) (λ (at : (x.clock.number ≡ f.stamp.number) × (x.clock.count < f.stamp.count)). let same = at.0 in omega (arith, same)) above

  -- what is later than the access is a command or a scrub that touches nothing of the shard
  abbrev Behind : Entry → Type 0
  Behind e = is_later e.stamp f.stamp ≡ true → LeavesShard k e

  behind : All Behind whole
  behind = merged-all Behind log (x.entries ∷ [])
      (all_from_places Behind log (λ j e at later. let s = is j e at in
      let low = clock_low in
      let up = later_number e.stamp f.stamp later (ap (λ (t : Stamp). t.count) s.0) in
      (s.1, all_at (λ (e : Entry). x.clock.number < e.stamp.number → touches_shard k e ≡ false) log j e at r.quiet (omega (arith, up, low)))))
      (flat_one Behind x.entries (all_from_places Behind x.entries (λ j e at later.
      not_both (is_later e.stamp f.stamp) later (one_way f.stamp e.stamp (later_than x.clock f.stamp e.stamp (tidy j e at) above)))))

  put : IsPut f whole (insert_entry f whole)
  put = insert_entry-put f whole (merged-rising log (x.entries ∷ []))

  rest_leaves : All (LeavesShard k) put.rest
  rest_leaves =
      All-weaker (λ (e : Entry). Behind e × (is_later e.stamp f.stamp ≡ true)) (LeavesShard k) (λ e b. b.0 b.1) put.rest
      (all_both Behind (λ (e : Entry). is_later e.stamp f.stamp ≡ true) put.rest (all_behind Behind put.front put.rest (subst (All Behind) put.was behind)) put.later)

  now : merged log ((x.entries ++ f ∷ []) ∷ []) ≡ put.front ++ f ∷ put.rest
  now = merged-shard_push log x.entries f ∙ put.now

  -- ---- before the access

  held_before : (g : ℕ) → g % 16 ≡ k → (h : HostId) → holds h g (effects put.front) ≡ holds h g (effects log)
  held_before g same h =
      sym (holders_left k g same h (holds h g (effects put.front)) put.rest rest_leaves)
      ∙ sym (holds-append h g (effects put.front) (effects put.rest))
      ∙ sym (ap (holds h g) (effects-append put.front put.rest))
      ∙ ap (λ (j : List Entry). holds h g (effects j)) (sym put.was)
      ∙ ap (holds h g) (effects_of_both log x.entries is r.accesses r.plain)

  word_before : (g w : ℕ) → g % 16 ≡ k → word_of x.config put.front g w ≡ word_of x.config whole g w
  word_before g w same =
      sym (words_left k g same x.config w (word_of x.config put.front g w) put.rest rest_leaves)
      ∙ sym (fold-append (word_after x.config g w) 0 put.front put.rest)
      ∙ ap (λ (j : List Entry). word_of x.config j g w) (sym put.was)

  actor_is : f.actor ≡ Actor.Host a.host
  actor_is = a.actor_is ∙ a.from

  place : shard_at (locate x.config a.host (asked_at f.act)) ≡ k
  place = sym (ap (λ z. shard_by x.config z f.act) actor_is) ∙ a.here

  answer : right_answer x.config put.front f.actor f.act ≡ (access_at x.config put.front a.host f.act (locate x.config a.host (asked_at f.act)), [])
  answer = ap (λ z. right_answer x.config put.front z f.act) actor_is ∙ accessed x.config put.front a.host f.act a.access

  meets_here : Meets x.config put.front f
  meets_here = record {
    allowed = subst (λ z. IsTrue (fits x.config.hosts z f.act)) (sym actor_is) (may_access x.config.hosts a.host f.act a.access a.known);
    reply = a.reply
        ∙ replies x.config x put.front a.host f.act (locate x.config a.host (asked_at f.act)) a.access a.inside
        (λ g under same. r.holders g under (same ∙ place) a.host a.known ∙ sym (held_before g (same ∙ place) a.host))
        (λ g w under same. r.words g w under (same ∙ place) ∙ sym (word_before g w (same ∙ place)))
        ∙ sym (ap (λ z. z.0) answer);
    effects = a.none ∙ sym (ap (λ z. z.1) answer);
  }

  -- ---- after it

  kept : IsRightBy x.config k (holders_at x) (stripe_word y) (x.entries ++ f ∷ []) f.stamp log
  kept = record {
    accesses = All-push (λ (e : Entry). is_control e.act ≡ false) x.entries f r.accesses a.access;
    plain = All-push (λ (e : Entry). e.effects ≡ []) x.entries f r.plain a.none;
    holders = r.holders;
    words = λ g w under same.
        a.adds.words g w (same ∙ sym a.here)
        ∙ ap (λ v. word_by x.config g w v f.actor f.act f.reply) (r.words g w under same ∙ sym (word_before g w same))
        ∙ sym (ap (λ es. if list_any (is_zeroing g) es then 0 else word_by x.config g w (word_of x.config put.front g w) f.actor f.act f.reply) a.none)
        ∙ sym (words_left k g same x.config w (word_after x.config g w (word_of x.config put.front g w) f) put.rest rest_leaves)
        ∙ sym (fold-append (word_after x.config g w) 0 put.front (f ∷ put.rest))
        ∙ sym (ap (λ (j : List Entry). word_of x.config j g w) now);
    quiet = All-weaker (λ (e : Entry). x.clock.number < e.stamp.number → touches_shard k e ≡ false) (λ (e : Entry). f.stamp.number < e.stamp.number → touches_shard k e ≡ false)
        (λ e q up. let low = clock_low in q (omega (arith, up, low))) log r.quiet;
    meets = subst (Each (AccessMeets x.config)) (sym now) (each_then [] put.front (f ∷ put.rest) (AccessMeets x.config)
        (Each-front (AccessMeets x.config) put.front put.rest (subst (Each (AccessMeets x.config)) put.was r.meets))
        ((λ _. meets_here), commands_meet x.config (put.front ++ f ∷ []) put.rest (All-weaker (LeavesShard k) (λ (e : Entry). is_control e.act ≡ true) (λ e l. l.0) put.rest rest_leaves)));
  }

-- the second law
pub stripe_keeps : AccessKeeps (λ (x : Stripe). x.entries) (λ x. x.clock) IsRight IsAccess
stripe_keeps k seat actor x y log is tidy above a right =
    let up : Below x.clock a.entry.stamp = subst (λ (s : Stamp). Below x.clock s) a.adds.clock_is above in (
      a.adds.index_is ∙ right.0,
      subst (λ (t : Configuration × List Entry × Stamp × List ℕ). IsRightBy t.0 k (λ g. slice_index t.3 (g / 16)) (stripe_word y) t.1 t.2 log)
          (λ i. (sym a.adds.config_is i, sym a.adds.entries_are i, sym a.adds.clock_is i, sym a.adds.holders i))
          (kept k seat actor x y log is right.1 tidy a up),
    )
