use Rattle.std.proofs.Common.{◌+◌, arith, subst, sym}
use Rattle.shared_marks.proofs.FlagLemmas.{AreFirst, first_clear, first_set}
use Rattle.shared_marks.proofs.flags.word_of.Goals as goal
use Rattle.shared_marks.proofs.flags.word_of.Goals.{then-flags-bit, else-flags-bit}

pub loop-bit-preserved : goal.loop-bit-preserved
loop-bit-preserved c =
    let word = c.loop-bit.word in
    let bit = c.loop-bit.bit in
    let flags = c.args.flags.now in
    elim c.if-flags-bit.branch [
      | then-flags-bit w ↦
          subst (λ next. AreFirst next (bit + 1) flags) (sym w.word-is)
          (first_set word bit flags (omega (arith, c.loop-bit-test.true, c.requires)) c.loop-bit.invariant w.if-flags-bit.true)
      | else-flags-bit w ↦
          subst (λ next. AreFirst next (bit + 1) flags) (sym w.word-is) (first_clear word bit flags c.loop-bit.invariant w.if-flags-bit.false)
    ]
