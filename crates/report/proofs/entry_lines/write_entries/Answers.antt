use Rattle.std.proofs.{Common.◌++◌, Common.◌+◌, Common.[], Common.◌∷◌, Common.sym, Common.ap, Common.◌∙◌, Common.arith, lemmas.List.length_push}
use Rattle.std.specs.List.{enumerate_from}
use Rattle.control_core.specs.{Deciding.IsShort, kept_journal.specs.Lending.lent, kept_journal.specs.Lending.lent_entry, kept_journal.proofs.Lists.next_has, kept_journal.proofs.Lists.one_more_done}
use Rattle.journal_core.specs.declared.entries.Entry.{Entry}
use Rattle.report.{specs.Texts.entry_line, proofs.Parts.entries_push, proofs.Parts.prints_each}
use Rattle.report.proofs.entry_lines.write_entries.Goals as goal

pub loop-entry-preserved : goal.loop-entry-preserved
loop-entry-preserved g c =
    let done = c.loop-entry.invariant.done in
    let rest = g.J.Lender.rest c.loop-entry.journal in
    let e : Entry = lent_entry c.in-Some.entry in
    let first = ap lent (sym c.in-Some.is) ∙ c.peek.ensures in
    record {
      done = done ++ e ∷ [];
      count = omega (arith, c.loop-entry.invariant.count, length_push done e);
      parts = one_more_done done rest (g.J.Lender.rest c.skip.new.self) (g.J.Lender.rest c.args.journal.now) e first c.skip.ensures c.loop-entry.invariant.parts;
      puts = prints_each entry_line (enumerate_from 1 done) (c.loop-entry.count + 1, e) c.loop-entry.invariant.puts c.write_entry.ensures
          (entries_push done e ∙ ap (λ n. enumerate_from 1 done ++ (n + 1, e) ∷ []) (sym c.loop-entry.invariant.count));
    }

pub write_entry-requires : goal.write_entry-requires
write_entry-requires g c =
    next_has (λ (e : Entry). IsShort e.reply) c.loop-entry.invariant.done (g.J.Lender.rest c.loop-entry.journal) (g.J.Lender.rest c.args.journal.now)
    (lent_entry c.in-Some.entry) (ap lent (sym c.in-Some.is) ∙ c.peek.ensures) c.loop-entry.invariant.parts c.requires.short
