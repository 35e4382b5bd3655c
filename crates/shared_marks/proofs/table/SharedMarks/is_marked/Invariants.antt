use Rattle.shared_marks.proofs.table.SharedMarks.is_marked.Given as goal

abbrev pub ghosts-look : goal.ghosts-look
ghosts-look a = record { place = a.place; count = a.self.now.table.words }
