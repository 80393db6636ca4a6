-- What a new state of a run makes of how many granules are of a kind.
use Rattle.std.proofs.Common.{◌≡◌, ℕ, ◌+◌, ◌*◌, ◌<◌, ◌≤◌, ◌^◌, Bool, true, false, cond, List, ◌++◌, length, take, drop, replicate, refl, ap, ◌∙◌, arith}
use Rattle.std.proofs.lemmas.List.{drop-drop, Folds.sum_by-replicate, Sums.count_by-le-length, Sums.sum_by-append, Sums.sum_by-take-drop}
use Rattle.std.specs.Prelude.{count_by}
use Rattle.dcd_base.specs.declared.media.Run.{Run}
use Rattle.granule_map.specs.StateLists.{count_of, is_dirty_state, is_free_state, part_of, same_state, with_run}
use Rattle.granule_map.specs.declared.states.GranuleState.{GranuleState, TheVariants.Free, TheVariants.Reserved, TheVariants.Held, TheVariants.Tagged, TheVariants.Dirty}

-- what the count of a kind becomes where so many granules were of it, and so many are of it now
pub record Recounts (k : GranuleState) (states : List GranuleState) (run : Run) (now : GranuleState) (was is : ℕ) : Type 0 where
  pub counted : was ≤ count_of states k
  pub fits : count_of states k + is < 2 ^ 32 + was
  pub after : count_of (with_run states run now) k + was ≡ count_of states k + is

times : (b : Bool) (n : ℕ) → n * cond b 1 0 ≡ cond b n 0
times true n = omega arith
times false n = omega arith

recounts : (k : GranuleState) (states : List GranuleState) (run : Run) (now : GranuleState) (was is : ℕ) → length states < 2 ^ 32 → length (with_run states run now) ≡ length states
    → was ≡ count_by (same_state k) (part_of states run) → is ≡ cond (same_state k now) run.count 0 → Recounts k states run now was is
recounts k states run now was is few kept was_is is_is =
    let one : GranuleState → ℕ = λ s. cond (same_state k s) 1 0 in
    let front = sum_by-take-drop (λ s. cond (same_state k s) 1 0) states run.first in
    let behind = sum_by-take-drop (λ s. cond (same_state k s) 1 0) (drop run.first states) run.count in
    let rest : count_by (same_state k) (drop run.count (drop run.first states)) ≡ count_by (same_state k) (drop (run.first + run.count) states) = ap (count_by (same_state k)) (drop-drop run.count run.first states) in
    let outer = sum_by-append (λ s. cond (same_state k s) 1 0) (take run.first states ++ replicate run.count now) (drop (run.first + run.count) states) in
    let inner = sum_by-append (λ s. cond (same_state k s) 1 0) (take run.first states) (replicate run.count now) in
    let new = sum_by-replicate (λ s. cond (same_state k s) 1 0) run.count now ∙ times (same_state k now) run.count in
    let most = count_by-le-length (same_state k) (with_run states run now) in
    record {
      counted = omega (arith, front, behind, was_is);
      fits = omega (arith, front, behind, rest, outer, inner, new, was_is, is_is, most, kept, few);
      after = omega (arith, front, behind, rest, outer, inner, new, was_is, is_is);
    }

free_kind : (s : GranuleState) → is_free_state s ≡ same_state Free s
free_kind Free = refl
free_kind (Reserved h) = refl
free_kind (Held h) = refl
free_kind (Tagged t) = refl
free_kind Dirty = refl

dirty_kind : (s : GranuleState) → is_dirty_state s ≡ same_state Dirty s
dirty_kind Free = refl
dirty_kind (Reserved h) = refl
dirty_kind (Held h) = refl
dirty_kind (Tagged t) = refl
dirty_kind Dirty = refl

pub recounts_free : (states : List GranuleState) (run : Run) (now : GranuleState) (was is : ℕ) → length states < 2 ^ 32 → length (with_run states run now) ≡ length states
    → was ≡ count_by is_free_state (part_of states run) → is ≡ cond (is_free_state now) run.count 0 → Recounts Free states run now was is
recounts_free states run now was is few kept was_is is_is =
    let same : is_free_state ≡ same_state Free = λ i s. free_kind s i in
    recounts Free states run now was is few kept (was_is ∙ ap (λ (q : GranuleState → Bool). count_by q (part_of states run)) same) (is_is ∙ ap (λ b. cond b run.count 0) (free_kind now))

pub recounts_dirty : (states : List GranuleState) (run : Run) (now : GranuleState) (was is : ℕ) → length states < 2 ^ 32 → length (with_run states run now) ≡ length states
    → was ≡ count_by is_dirty_state (part_of states run) → is ≡ cond (is_dirty_state now) run.count 0 → Recounts Dirty states run now was is
recounts_dirty states run now was is few kept was_is is_is =
    let same : is_dirty_state ≡ same_state Dirty = λ i s. dirty_kind s i in
    recounts Dirty states run now was is few kept (was_is ∙ ap (λ (q : GranuleState → Bool). count_by q (part_of states run)) same) (is_is ∙ ap (λ b. cond b run.count 0) (dirty_kind now))
