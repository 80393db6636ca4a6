use Rattle.ruled_cells.specs.Telling.{last_of}
use Rattle.ruled_cells.proofs.cells.Cells.note.Given as goal

abbrev pub ghosts-write : goal.ghosts-write
ghosts-write g a = record { entry = last_of (g.F.Chief.reads.journal a.first.now) }
