use Rattle.explainer.proofs.faults.write_config.Goals as goal

pub returns-in-Overlap : goal.returns-in-Overlap
returns-in-Overlap c = rw c.in-Overlap.is (rw c.as_slice-in-Overlap.ensures at c.write_of_seat-in-Overlap.ensures)

pub returns-in-TooManyGranules : goal.returns-in-TooManyGranules
returns-in-TooManyGranules c = rw c.in-TooManyGranules.is (rw c.as_slice-in-TooManyGranules.ensures at c.write_counted.ensures)
