use Rattle.std.proofs.Common.{◌≡◌, take}
use Rattle.suite_forms.specs.Pieces.{name_pieces}
use Rattle.suite_forms.proofs.cell_pieces.name_pieces.Given as goal

abbrev pub invariant-loop-name : goal.invariant-loop-name
invariant-loop-name l = l.pieces ≡ take l.name-index (name_pieces l.form l.model l.place l.value)
