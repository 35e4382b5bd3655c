use Rattle.shared_marks.specs.Digits.{IsPlacing, own_slice}
use Rattle.shared_marks.proofs.digits.place_in_slice.Given as goal

abbrev pub invariant-loop-p : goal.invariant-loop-p
invariant-loop-p l = IsPlacing (own_slice l.model l.cells) l.cells l.members l.p-index l.place
