-- Passes of a device of two hosts.
use Rattle.std.proofs.Common.{◌≡◌, ◌≢◌, ℕ, zero, suc, ◌+◌, ◌<◌, IsTrue, List, [], ◌∷◌, length, length-set, get_or, get_or-set_other, get_or-set_same, set, refl, sym, ap, ◌∙◌, subst, arith}
use Rattle.std.proofs.lemmas.List.{length-map}
use mathlib.Core.Logic.{dite}
use native.Mathlib.Decide.{ℕ_discrete}
use mathlib.Core.Option.{some, some-injective, some-ne-none}
use lib.ListN.{get_elem?}
use Rattle.script_runner.specs.{device_plain.specs.control_core.specs.Steps.MayStep, shared_device.specs.Closing.AreAllPasses}
use Rattle.script_runner.specs.shared_device.specs.{Passing.IsNewPass, Passing.IsOneOf, Passing.IsSamePass, Passing.pass_calls, Passing.pass_number, declared.pass.Pass.Pass}
use Rattle.script_runner.specs.shared_device.specs.{declared.shared.Shared.Shared, ruled_cells.specs.Calls.seats_of, ruled_cells.specs.Seats.seat_view}
use Rattle.dcd_base.specs.declared.{ids.HostId.HostId, steps.Actor.Actor}
use Rattle.journal_core.{specs.declared.acts.Act.Act, specs.Entries.fits, specs.Entries.is_control, specs.Merging.call_of, proofs.Splits.at_some}
use Rattle.threads_tests.specs.Hosting.{AreByNumber, IsHostOf, IsPassAt}

-- a pass has as many calls as entries that it saw entered
pub calls_counted : (p : Pass) → length (pass_calls p) ≡ length (seat_view p.seat).calls
calls_counted p = length-map (seat_view p.seat).calls call_of

pub same_itself : (s : Shared) (p : Pass) → IsOneOf s p → IsSamePass s p p
same_itself s p of = record { of = of; number = refl; actor = refl }

pub same_again : (s : Shared) (p q r : Pass) → IsSamePass s p q → IsSamePass s q r → IsSamePass s p r
same_again s p q r h k = record { of = k.of; number = k.number ∙ h.number; actor = k.actor ∙ h.actor }

pub is_host : (actor : Actor) (h : HostId) → actor ≡ Actor.Host h → h < 2 → IsHostOf 2 actor
is_host actor h is low = (h, is, low)

-- a command or a scrub that its actor may do on a device of two hosts
pub may_step : (s : Shared) (actor : Actor) (act : Act) → s.config.hosts ≡ 2 → IsTrue (fits 2 actor act) → IsTrue (is_control act) → MayStep s.config actor act
may_step s actor act hosts fit control = record { fits = subst (λ (n : ℕ). IsTrue (fits n actor act)) (sym hosts) fit; control = control }

pub may_access : (s : Shared) (actor : Actor) (act : Act) → s.config.hosts ≡ 2 → IsTrue (fits 2 actor act) → IsTrue (fits s.config.hosts actor act)
may_access s actor act hosts fit = subst (λ (n : ℕ). IsTrue (fits n actor act)) (sym hosts) fit

pub may_try : (s : Shared) (actor : Actor) → s.config.hosts ≡ 2 → IsHostOf 2 actor → IsHostOf s.config.hosts actor
may_try s actor hosts is = subst (λ (n : ℕ). IsHostOf n actor) (sym hosts) is

-- it stays the pass of its number
still_at : (s : Shared) (k : ℕ) (p q : Pass) → IsPassAt s k p → IsSamePass s p q → IsPassAt s k q
still_at s k p q at same = record { of = same.of; number = same.number ∙ at.number }

-- what is read at a place stands there
stands_read : (d : Pass) (l : List Pass) (i : ℕ) → i < length l → get_elem? l i ≡ some (get_or l i d)
stands_read d [] i lt = absurd (omega (arith, lt))
stands_read d (x ∷ xs) zero lt = refl
stands_read d (x ∷ xs) (suc i) lt = stands_read d xs i (omega (arith, lt))

-- and what stands at a place is read there
read_stands : (d p : Pass) (l : List Pass) (i : ℕ) → get_elem? l i ≡ some p → (i < length l) × (get_or l i d ≡ p)
read_stands d p [] i e = absurd (some-ne-none p (sym e))
read_stands d p (x ∷ xs) zero e = (omega arith, some-injective x p e)
read_stands d p (x ∷ xs) (suc i) e = let r = read_stands d p xs i e in (omega (arith, r.0), r.1)

-- the passes of a fresh device
pub all_new : (s : Shared) (actors : List Actor) (l : List Pass) (n : ℕ) → length l ≡ n + 2 → seats_of s.cells ≡ length l → ((k : ℕ) (p : Pass) → get_elem? l k ≡ some p → IsNewPass s actors k p) → AreByNumber s l
all_new s actors l n count seats each = record {
  seats = seats;
  some_pass = omega (arith, count);
  each = λ k d lt. let new = each k (get_or l k d) (stands_read d l k lt) in record { of = new.of; number = new.number };
}

-- the pass at a place is one of the device
pub one_at : (s : Shared) (l : List Pass) (i : ℕ) (d : Pass) → i < length l → AreByNumber s l → IsOneOf s (get_or l i d)
one_at s l i d low all = (all.each i d low).of

-- all stay in their order after a call of one
pub all_after : (s : Shared) (l : List Pass) (i : ℕ) (d q : Pass) → i < length l → AreByNumber s l → IsSamePass s (get_or l i d) q → AreByNumber s (set l i q)
all_after s l i d q low all same = record {
  seats = all.seats ∙ sym (length-set l i q);
  some_pass = omega (arith, length-set l i q, low);
  each = λ k e lt. dite (ℕ_discrete k i)
      (λ (is : k ≡ i). subst (λ (m : ℕ). IsPassAt s m (get_or (set l i q) m e)) (sym is)
      (subst (IsPassAt s i) (sym (get_or-set_same l i q e low)) (still_at s i (get_or l i d) q (all.each i d low) same)))
      (λ (n : k ≢ i). subst (IsPassAt s k) (sym (get_or-set_other l i k q e n)) (all.each k e (omega (arith, length-set l i q, lt))));
}

-- and after calls of each
pub all_each : (s : Shared) (l m : List Pass) → length m ≡ length l → ((k : ℕ) (d : Pass) → k < length l → IsSamePass s (get_or l k d) (get_or m k d)) → AreByNumber s l → AreByNumber s m
all_each s l m len same all = record {
  seats = all.seats ∙ sym len;
  some_pass = omega (arith, len, all.some_pass);
  each = λ k d lt. let low : k < length l = omega (arith, len, lt) in still_at s k (get_or l k d) (get_or m k d) (all.each k d low) (same k d low);
}

-- so a device can be taken apart with them
pub all_passes : (s : Shared) (l : List Pass) → AreByNumber s l → AreAllPasses s l
all_passes s l all = record {
  some_pass = all.some_pass;
  of = λ k p e. let r = read_stands p p l k e in subst (IsOneOf s) r.1 (all.each k p r.0).of;
  each = λ i lt.
      let p = at_some l i (subst (λ (n : ℕ). i < n) all.seats lt) in
      let r = read_stands p.0 p.0 l i p.1 in
      (i, p.0, p.1, ap pass_number (sym r.1) ∙ (all.each i p.0 r.0).number);
}

-- and the same device with the same passes
pub all_again : (s t : Shared) (l m : List Pass) → t ≡ s → m ≡ l → AreByNumber s l → AreAllPasses t m
all_again s t l m device passes all = all_passes t m (subst (λ (x : Shared). AreByNumber x m) (sym device) (subst (AreByNumber s) (sym passes) all))
