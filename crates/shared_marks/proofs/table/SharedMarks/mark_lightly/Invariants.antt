use Rattle.shared_marks.proofs.table.SharedMarks.mark_lightly.Given as goal

abbrev pub ghosts-note : goal.ghosts-note
ghosts-note a = record { place = a.place; count = a.self.now.table.words }
