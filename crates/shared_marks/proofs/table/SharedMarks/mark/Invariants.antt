use Rattle.shared_marks.proofs.table.SharedMarks.mark.Given as goal

abbrev pub ghosts-put : goal.ghosts-put
ghosts-put a = record { place = a.place; count = a.self.now.table.words }
