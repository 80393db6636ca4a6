-- Changes that are made one after another to the granules of a shard.
use Rattle.std.proofs.Common.{◌≡◌, ℕ, ◌+◌, ◌/◌, ◌<◌, Bool, true, false, ◌&&◌, ◌||◌, List, [], ◌∷◌, ◌++◌, length, refl, sym, ap, subst, ◌∙◌, take, get_or}
use Rattle.std.{specs.Prelude.if◌then◌else◌, specs.List.list_any, proofs.lemmas.List.take_more, proofs.lemmas.List.Folds.list_any-append, proofs.lemmas.List.Sums.fold_push}
use Rattle.dcd_base.specs.{Words.has_granule, declared.media.Change.Change}
use Rattle.shard_laws.{specs.device_rules.specs.ChangedRuns.holders_after, specs.Changing.AreMadeIn, specs.Stripes.own_below, proofs.OwnGranules.own_granule}
use Rattle.granule_mem.specs.Contents.{Media, SetsHolders, holders_in, word_in}

abbrev zeroes : ℕ → Change → Bool
zeroes g change = change.zero && has_granule change.run g

-- one change, by the numbers in the shard
pub made_one : (k : ℕ) (old new : Media) (change own : Change) → own.run.first ≡ own_below k change.run.first → own.run.first + own.run.count ≡ own_below k (change.run.first + change.run.count) →
    own.holders ≡ change.holders → own.zero ≡ change.zero → length new.holders ≡ length old.holders → SetsHolders old new own.run own.holders →
    ((g w : ℕ) → word_in new g w ≡ (if own.zero && has_granule own.run g then 0 else word_in old g w)) → AreMadeIn k old new (change ∷ [])
made_one k old new change own first end holders zero granules sets words = record {
  granules = granules;
  holders = λ g same. sets (g / 16) ∙ (λ i. if own_granule k g same change.run own.run first end i then holders i else holders_in old (g / 16));
  words = λ g w same. words (g / 16) w
      ∙ (λ i. if zero i && own_granule k g same change.run own.run first end i then 0 else word_in old (g / 16) w)
      ∙ ap (λ b. if b then 0 else word_in old (g / 16) w) (sym (or_false (zeroes g change)));
}
  where
    or_false : (b : Bool) → b || false ≡ b
    or_false true = refl
    or_false false = refl

-- one more
made_push : (k : ℕ) (old mid new : Media) (changes : List Change) (change : Change) → AreMadeIn k old mid changes → AreMadeIn k mid new (change ∷ []) → AreMadeIn k old new (changes ++ change ∷ [])
made_push k old mid new changes change so_far one = record {
  granules = one.granules ∙ so_far.granules;
  holders = λ g same. one.holders g same ∙ ap (λ bits. holders_after g bits change) (so_far.holders g same) ∙ sym (fold_push (holders_after g) (holders_in old (g / 16)) changes change);
  words = λ g w same.
      one.words g w same
      ∙ ap (λ value. if zeroes g change || false then 0 else value) (so_far.words g w same)
      ∙ either (zeroes g change) (list_any (zeroes g) changes) (word_in old (g / 16) w)
      ∙ ap (λ b. if b then 0 else word_in old (g / 16) w) (sym (list_any-append (zeroes g) changes (change ∷ [])));
}
  where
    either : (a b : Bool) (value : ℕ) → (if a || false then 0 else (if b then 0 else value)) ≡ (if b || (a || false) then 0 else value)
    either true true value = refl
    either true false value = refl
    either false true value = refl
    either false false value = refl

-- the first i + 1 of them
pub made_more : (k : ℕ) (old mid new : Media) (changes : List Change) (i : ℕ) (d : Change) → i < length changes → AreMadeIn k old mid (take i changes) → AreMadeIn k mid new (get_or changes i d ∷ []) → AreMadeIn k old new (take (i + 1) changes)
made_more k old mid new changes i d below so_far one =
    subst (AreMadeIn k old new) (sym (take_more changes i d below)) (made_push k old mid new (take i changes) (get_or changes i d) so_far one)
