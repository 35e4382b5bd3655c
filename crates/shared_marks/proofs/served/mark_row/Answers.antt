use Rattle.std.proofs.Common.{[], ◌∷◌}
use Rattle.shared_marks.proofs.AddingLemmas.{marks_same}
use Rattle.shared_marks.proofs.PlaceLemmas.{between_all}
use Rattle.shared_marks.proofs.served.mark_row.Goals as goal

pub returns : goal.returns
returns c = marks_same _ _ _ _ c.mark_sets.ensures (between_all c.args.model.now (c.args.cells.now ∷ []))
