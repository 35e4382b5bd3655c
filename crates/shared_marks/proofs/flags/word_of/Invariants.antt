use Rattle.shared_marks.proofs.FlagLemmas.{AreFirst}
use Rattle.shared_marks.proofs.flags.word_of.Given as goal

abbrev pub invariant-loop-bit : goal.invariant-loop-bit
invariant-loop-bit l = AreFirst l.word l.bit l.flags
