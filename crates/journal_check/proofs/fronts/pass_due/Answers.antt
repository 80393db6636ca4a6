use Rattle.std.{proofs.Common.◌≡◌, proofs.Common.◌-◌, proofs.Common.length, proofs.Common.Some, proofs.Common.ap, proofs.Common.◌∙◌, proofs.Common.arith, specs.Prelude.slice_get}
use Rattle.report.specs.script_codec.specs.{declared.script_line.Line.Line, Covering.pass_of}
use Rattle.journal_check.proofs.Due.{known, line_read, mark_read, none_elsewhere, none_mark, none_past, none_zero}
use Rattle.journal_check.proofs.fronts.pass_due.Goals.{then-number-eq0-via-then-number-eq0, then-number-eq0-via-else-number-eq0+then-number-lines}
use Rattle.journal_check.proofs.fronts.pass_due.Goals as goal

pub returns-then-number-eq0-clause-none : goal.returns-then-number-eq0-clause-none
returns-then-number-eq0-clause-none c = elim c.then-number-eq0.branch [
  | then-number-eq0-via-then-number-eq0 w ↦ none_zero c.args.script.now c.args.fronts.now c.requires.fronts c.requires.sound c.args.number (omega arith)
  | then-number-eq0-via-else-number-eq0+then-number-lines w ↦
      none_past c.args.script.now c.args.fronts.now c.requires.fronts c.requires.sound c.args.number (omega (arith, ap length c.as_slice-lines.ensures))
]

pub bounds-fronts-pass : goal.bounds-fronts-pass
bounds-fronts-pass c =
    let s = c.args.script.now in
    let found : slice_get s.lines (c.args.number - 1) ≡ Some (Line.Do c.in-Do.actor c.in-Do.lane c.in-Do.act) =
    line_read s c.as_slice-lines.result.now (c.args.number - 1) c.index-lines-index.result c.in-Do.actor c.in-Do.lane c.in-Do.act c.as_slice-lines.ensures (omega arith) c.index-lines-index.is c.in-Do.is in
    let pass : c.pass_of-pass.result ≡ pass_of s.config.hosts s.lanes c.in-Do.actor c.in-Do.lane =
    c.pass_of-pass.ensures ∙ ap (λ h. pass_of h s.lanes c.in-Do.actor c.in-Do.lane) c.hosts.ensures.value in
    known s c.args.fronts.now c.requires.fronts c.requires.sound c.args.number c.pass_of-pass.result c.in-Do.actor c.in-Do.lane c.in-Do.act found pass

pub returns-then-fronts-pass-clause-due : goal.returns-then-fronts-pass-clause-due
returns-then-fronts-pass-clause-due c =
    let s = c.args.script.now in
    let found : slice_get s.lines (c.args.number - 1) ≡ Some (Line.Do c.in-Do.actor c.in-Do.lane c.in-Do.act) =
    line_read s c.as_slice-lines.result.now (c.args.number - 1) c.index-lines-index.result c.in-Do.actor c.in-Do.lane c.in-Do.act c.as_slice-lines.ensures (omega arith) c.index-lines-index.is c.in-Do.is in
    let pass : c.pass_of-pass.result ≡ pass_of s.config.hosts s.lanes c.in-Do.actor c.in-Do.lane =
    c.pass_of-pass.ensures ∙ ap (λ h. pass_of h s.lanes c.in-Do.actor c.in-Do.lane) c.hosts.ensures.value in
    record {
      numbered = record { counted = omega arith; actor = c.in-Do.actor; lane = c.in-Do.lane; act = c.in-Do.act; line = found; pass_is = pass };
      known = known s c.args.fronts.now c.requires.fronts c.requires.sound c.args.number c.pass_of-pass.result c.in-Do.actor c.in-Do.lane c.in-Do.act found pass;
      front = c.if-fronts-pass.true;
    }

pub returns-else-fronts-pass-clause-none : goal.returns-else-fronts-pass-clause-none
returns-else-fronts-pass-clause-none c =
    let s = c.args.script.now in
    let found : slice_get s.lines (c.args.number - 1) ≡ Some (Line.Do c.in-Do.actor c.in-Do.lane c.in-Do.act) =
    line_read s c.as_slice-lines.result.now (c.args.number - 1) c.index-lines-index.result c.in-Do.actor c.in-Do.lane c.in-Do.act c.as_slice-lines.ensures (omega arith) c.index-lines-index.is c.in-Do.is in
    let pass : c.pass_of-pass.result ≡ pass_of s.config.hosts s.lanes c.in-Do.actor c.in-Do.lane =
    c.pass_of-pass.ensures ∙ ap (λ h. pass_of h s.lanes c.in-Do.actor c.in-Do.lane) c.hosts.ensures.value in
    none_elsewhere s c.args.fronts.now c.requires.fronts c.requires.sound c.args.number c.pass_of-pass.result c.in-Do.actor c.in-Do.lane c.in-Do.act found pass
    c.if-fronts-pass.false

pub returns-in-Mark-clause-none : goal.returns-in-Mark-clause-none
returns-in-Mark-clause-none c =
    none_mark c.args.script.now c.args.fronts.now c.requires.fronts c.requires.sound c.args.number
    (mark_read c.args.script.now c.as_slice-lines.result.now (c.args.number - 1) c.index-lines-index.result c.as_slice-lines.ensures (omega arith) c.index-lines-index.is c.in-Mark.is)
