use Rattle.std.proofs.Common.{◌≡◌, take}
use Rattle.suite_forms.specs.Pieces.{value_pieces}
use Rattle.suite_forms.proofs.cell_pieces.value_pieces.Given as goal

abbrev pub invariant-loop-value : goal.invariant-loop-value
invariant-loop-value l = l.pieces ≡ take l.value-index (value_pieces l.form l.model l.place)
