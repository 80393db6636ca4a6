-- Passes of a device of sixteen hosts.
use Rattle.std.proofs.{Common.◌≡◌, Common.ℕ, Common.IsTrue, Common.List, Common.length, Common.sym, Common.subst, lemmas.List.length-map}
use Rattle.std.specs.List.{All}
use mathlib.Core.Option.{some}
use lib.ListN.{get_elem?}
use Rattle.device_plain.specs.control_core.specs.Steps.{MayStep}
use Rattle.dcd_base.specs.declared.steps.Actor.{Actor}
use Rattle.journal_core.{proofs.Splits.all_from_places, specs.declared.acts.Act.Act, specs.Entries.fits, specs.Entries.is_control, specs.Merging.call_of}
use Rattle.shared_device.specs.{ruled_cells.specs.Seats.seat_view, declared.pass.Pass.Pass, declared.shared.Shared.Shared, Passing.IsNewPass, Passing.IsOneOf, Passing.pass_calls}

pub calls_counted : (p : Pass) → length (pass_calls p) ≡ length (seat_view p.seat).calls
calls_counted p = length-map (seat_view p.seat).calls call_of

-- a command or a scrub that its actor may do on a device of sixteen hosts
pub may_step : (s : Shared) (actor : Actor) (act : Act) → s.config.hosts ≡ 16 → IsTrue (fits 16 actor act) → IsTrue (is_control act) → MayStep s.config actor act
may_step s actor act hosts fit control = record { fits = subst (λ (n : ℕ). IsTrue (fits n actor act)) (sym hosts) fit; control = control }

pub may_access : (s : Shared) (actor : Actor) (act : Act) → s.config.hosts ≡ 16 → IsTrue (fits 16 actor act) → IsTrue (fits s.config.hosts actor act)
may_access s actor act hosts fit = subst (λ (n : ℕ). IsTrue (fits n actor act)) (sym hosts) fit

-- all passes that a device was made with are of it
pub all_of : (s : Shared) (actors : List Actor) (l : List Pass) → ((k : ℕ) (p : Pass) → get_elem? l k ≡ some p → IsNewPass s actors k p) → All (λ p. IsOneOf s p) l
all_of s actors l each = all_from_places (λ p. IsOneOf s p) l (λ k p e. (each k p e).of)
