-- Each entry of a merge meets what stands before it, since it does so in the merge of the control and its own shard.
use Rattle.std.proofs.Common.{◌≡◌, inl, inr, ℕ, ◌%◌, Bool, true, false, ◌||◌, ◌==◌, List, [], ◌∷◌, ◌++◌, refl, sym, ap, ◌∙◌, subst, eq-eqb, arith}
use Rattle.std.{proofs.lemmas.Bool.cases_Bool, proofs.lemmas.Bool.eqb-false, proofs.lemmas.Bool.or_parts, proofs.lemmas.List.Elements.All-weaker, specs.List.filter, specs.List.list_any}
use Rattle.std.specs.Prelude.{All, if◌then◌else◌}
use Rattle.device_rules.specs.Legal.{Legal, Meets, is_zeroing, word_after, word_by, word_of}
use Rattle.journal_core.{proofs.EachPlaces.Each-at, proofs.EachPlaces.Each-from_places, proofs.Filters.filter_split, proofs.Splits.all_before, proofs.Splits.all_behind, specs.Entries.is_control}
use Rattle.journal_core.specs.{Merging.merged, declared.entries.Entry.Entry}
use Rattle.region_config.specs.Configurations.{Configuration}
use Rattle.ruled_cells.specs.Stamps.{IsControlLog}
use Rattle.shard_laws.proofs.ControlLogs.{IsAccessEntry, control_of_merged}
use Rattle.shard_laws.proofs.LeftOut.{access_answered, changes_kept, command_answered, effects_kept, fold_kept, meets_too, word_elsewhere}
use Rattle.shard_laws.proofs.ShardParts.{HasShard, all_accesses, each_has_shard, is_of, part_of_merged, plain_accesses}
use Rattle.shard_laws.specs.{Belonging.shard_by, Belonging.shard_in, Lawful.AreShardLogs, Right.AccessMeets}

-- a load or a store has no effects
abbrev IsQuiet : Entry → Type 0
IsQuiet e = IsAccessEntry e → e.effects ≡ []

abbrev commands_in_front : List Entry → List Entry
commands_in_front a = filter (λ (x : Entry). is_control x.act) a

module _ (c : Configuration) where
  -- a command meets what stands before it where it does so without the loads and stores
  as_command : (a : List Entry) (e : Entry) → is_control e.act ≡ true → All IsQuiet a → Meets c (commands_in_front a) e → Meets c a e
  as_command a e is quiet m =
      meets_too c (commands_in_front a) a e
      (command_answered c (commands_in_front a) a (effects_kept (λ (x : Entry). is_control x.act) a quiet) (λ h. changes_kept h (λ (x : Entry). is_control x.act) a quiet) e.actor e.act is) m

  -- a load or a store, without those of other shards
  as_access : (a : List Entry) (e : Entry) → is_control e.act ≡ false → All IsQuiet a → Meets c (filter (is_of c (shard_in c e)) a) e → Meets c a e
  as_access a e is quiet m =
      meets_too c (filter own a) a e
      (access_answered c (filter own a) a (effects_kept own a dropped) (λ h. changes_kept h own a dropped) e.actor e.act is words) m
    where
      own : Entry → Bool
      own x = is_control x.act || (shard_in c x == shard_in c e)

      dropped : All (λ (x : Entry). own x ≡ false → x.effects ≡ []) a
      dropped = All-weaker IsQuiet (λ (x : Entry). own x ≡ false → x.effects ≡ [])
          (λ x none not_own. none (or_parts (is_control x.act) (shard_in c x == shard_in c e) not_own).0) a quiet

      words : (g w : ℕ) → g % 16 ≡ shard_by c e.actor e.act → word_of c (filter own a) g w ≡ word_of c a g w
      words g w here = fold_kept (word_after c g w) own a 0
          (All-weaker (λ (x : Entry). own x ≡ false → x.effects ≡ []) (λ (x : Entry). own x ≡ false → (v : ℕ) → word_after c g w v x ≡ v)
          (λ x none not_own v. ap (λ es. if list_any (is_zeroing g) es then 0 else word_by c g w v x.actor x.act x.reply) (none not_own)
          ∙ word_elsewhere c g w v x.actor x.act x.reply (λ same. eqb-false (shard_in c x) (shard_in c e) (or_parts (is_control x.act) (shard_in c x == shard_in c e) not_own).1 (same ∙ here))) a dropped)

  module _ (control : List Entry) (shards : List (List Entry)) (log : IsControlLog control) (parts : AreShardLogs c control shards) where
    pub merged_legal : Legal c control → Legal c (merged control shards)
    merged_legal legal = Each-from_places (Meets c) (merged control shards) at
      where
        at : (a : List Entry) (e : Entry) (b : List Entry) → merged control shards ≡ a ++ e ∷ b → Meets c a e
        at a e b is = elim (cases_Bool (is_control e.act)) [
          | inl command ↦ as_command a e command quiet (Each-at (Meets c) control (commands_in_front a) e (commands_in_front b)
              (sym (control_of_merged control shards log (all_accesses c control log shards parts)) ∙ ap commands_in_front is ∙ filter_split (λ (x : Entry). is_control x.act) a e b command) legal)
          | inr access ↦
              let k = shard_in c e in
              let found = all_behind (HasShard c control log shards parts) a (e ∷ b) (subst (All (HasShard c control log shards parts)) is (each_has_shard c control log shards parts)) 0 e (omega arith) access in
              as_access a e access quiet (Each-at (AccessMeets c) (merged control (found.0 ∷ [])) (filter (is_of c k) a) e (filter (is_of c k) b)
              (sym (part_of_merged c control log shards parts k found.0 found.1) ∙ ap (filter (is_of c k)) is
              ∙ filter_split (is_of c k) a e b (ap (λ z. z || (k == k)) access ∙ eq-eqb k k refl))
              (parts k found.0 found.1).meets access)
        ]
          where
            quiet : All IsQuiet a
            quiet = all_before IsQuiet a (e ∷ b) (subst (All IsQuiet) is (plain_accesses c control log shards parts))
