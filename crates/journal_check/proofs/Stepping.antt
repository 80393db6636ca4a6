-- The step of a line is of the line.
use Rattle.std.proofs.Common.{◌≡◌, Ok, Err, ℕ, ◌-◌, Some, sym, ap, ◌∙◌}
use Rattle.std.{specs.Prelude.slice_get, specs.Prelude.OnOk, specs.declared.result.Result.Result, proofs.lemmas.Option.same_Some}
use Rattle.dcd_base.specs.declared.steps.Actor.{Actor}
use Rattle.device_plain.specs.Devices.{Appends, Plain}
use Rattle.journal_core.specs.declared.acts.Act.{Act}
use Rattle.report.specs.script_codec.specs.{declared.script_line.Line.Line, declared.scripts.Script.Script, Covering.pass_of}
use Rattle.journal_check.{specs.Following.IsNumbered, specs.Following.StepsLine, proofs.Due.actor_of, proofs.Due.lane_of}

apart : (actor : Actor) (lane : ℕ) (act : Act) → Line.Mark ≡ Line.Do actor lane act → ⊥
apart actor lane act same = cc

pub mark_no_act : (s : Script) (number pass : ℕ) → IsNumbered s number pass → slice_get s.lines (number - 1) ≡ Some Line.Mark → ⊥
mark_no_act s number pass is mark =
    apart is.actor is.lane is.act (same_Some Line.Mark (Line.Do is.actor is.lane is.act) (sym mark ∙ is.line))

entered : (s : Script) (old new : Plain) (number pass : ℕ) (actor : Actor) (lane : ℕ) (act copy : Act) → IsNumbered s number pass → slice_get s.lines (number - 1) ≡ Some (Line.Do actor lane act)
    → copy ≡ act → Appends old new pass number actor copy → StepsLine s old new number pass
entered s old new number pass actor lane act copy is found same (reply, enters) =
    let line : Line.Do is.actor is.lane is.act ≡ Line.Do actor lane act = same_Some (Line.Do is.actor is.lane is.act) (Line.Do actor lane act) (sym is.line ∙ found) in
    record {
      entry = enters.entry;
      line_is = enters.line;
      pass_is = enters.pass;
      of_line = record {
        counted = rw enters.line is.counted;
        lane = lane;
        line = ap (λ n. slice_get s.lines (n - 1)) enters.line ∙ found ∙ (λ i. Some (Line.Do (sym enters.actor i) lane ((sym same ∙ sym enters.act) i)));
        pass = enters.pass ∙ is.pass_is ∙ (λ i. pass_of s.config.hosts s.lanes (actor_of is.actor (line i)) (lane_of (line i)))
            ∙ ap (λ a. pass_of s.config.hosts s.lanes a lane) (sym enters.actor);
      };
      config = enters.config;
      journal = enters.journal;
    }

pub stepped : {T E : Type 0} (s : Script) (old new : Plain) (number pass : ℕ) (actor : Actor) (lane : ℕ) (act copy : Act) (result : Result T E) → IsNumbered s number pass
    → slice_get s.lines (number - 1) ≡ Some (Line.Do actor lane act) → copy ≡ act → OnOk result (Appends old new pass number actor copy) → OnOk result (StepsLine s old new number pass)
stepped s old new number pass actor lane act copy (Ok x) is found same enters = entered s old new number pass actor lane act copy is found same enters
stepped s old new number pass actor lane act copy (Err e) is found same enters = tt
