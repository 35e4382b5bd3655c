use Rattle.shared_marks.specs.Digits.{ArePut}
use Rattle.shared_marks.proofs.digits.put_digits.Given as goal

abbrev pub invariant-loop-p : goal.invariant-loop-p
invariant-loop-p l = ArePut l.model l.cells l.p l.into
