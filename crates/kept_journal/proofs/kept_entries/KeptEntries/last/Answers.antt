use Rattle.std.proofs.Common.{◌-◌, ◌+◌, Some, ap, arith, drop, length, sym, ◌∙◌}
use Rattle.kept_journal.proofs.Keepings.{is_last, last_within, none_last, some_last}
use Rattle.kept_journal.specs.Keeping.{Keeping, kept_entry, width_of}
use Rattle.kept_journal.proofs.kept_entries.KeptEntries.last.Goals as goal

pub overflow_sub-bytes : goal.overflow_sub-bytes
overflow_sub-bytes c =
    omega (
      arith,
      c.width.ensures,
      ap length c.as_slice-bytes.ensures.value,
      last_within c.self.inside.kept.items c.in-Some.before.now c.in-Some.last.now c.self.inside.coder.bytes.items
          (sym c.as_slice.ensures.value ∙ c.in-Some.ensures.cases.0) c.self.invariant,
    )

pub returns-in-Some-clause-last : goal.returns-in-Some-clause-last
returns-in-Some-clause-last c = λ before e ends.
    ap Some (c.lend.ensures
    ∙ ap (kept_entry (length c.in-Some.before.now + 1) c.in-Some.last.now) (c.split_at.ensures.back
    ∙ ap (λ n. drop (length c.as_slice-bytes.result.now - n) c.as_slice-bytes.result.now) c.width.ensures
    ∙ ap (λ b. drop (length b - width_of c.in-Some.last.now) b) c.as_slice-bytes.ensures.value)
    ∙ is_last c.self.inside.kept.items c.in-Some.before.now c.in-Some.last.now c.self.inside.coder.bytes.items c.args.self.now.entries before e
    (sym c.as_slice.ensures.value ∙ c.in-Some.ensures.cases.0) c.self.invariant (ap (λ (v : Keeping). v.entries) c.self.view_is) ends)

pub returns-in-None-clause-last : goal.returns-in-None-clause-last
returns-in-None-clause-last c = λ before e ends.
    absurd (none_last c.self.inside.kept.items c.self.inside.coder.bytes.items c.args.self.now.entries before e
    (ap length (sym c.as_slice.ensures.value) ∙ c.in-None.ensures.cases) (ap (λ (v : Keeping). v.entries) c.self.view_is) ends)

pub returns-in-Some-clause-none : goal.returns-in-Some-clause-none
returns-in-Some-clause-none c = λ none.
    absurd (some_last c.self.inside.kept.items c.in-Some.before.now c.in-Some.last.now c.self.inside.coder.bytes.items c.args.self.now.entries
    (sym c.as_slice.ensures.value ∙ c.in-Some.ensures.cases.0) (ap (λ (v : Keeping). v.entries) c.self.view_is) none)
