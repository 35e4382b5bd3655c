use Rattle.std.proofs.Common.{arith}
use Rattle.shared_marks.proofs.AddingLemmas.{marks_none, marks_same, marks_then}
use Rattle.shared_marks.proofs.GatherLemmas.{words_begin, words_end, words_more}
use Rattle.shared_marks.proofs.ranks.mark_words.Goals as goal

pub overflow_cast-at : goal.overflow_cast-at
overflow_cast-at c = omega (arith, c.requires.within, c.assert_invariant.ensures, c.loop-at-test.true)

pub overflow_add-first : goal.overflow_add-first
overflow_add-first c = omega (arith, c.requires.within, c.assert_invariant.ensures, c.loop-at-test.true)

pub loop-at-init : goal.loop-at-init
loop-at-init c = marks_none _ c.args.seat.now (words_begin c.args.first c.args.words.now)

pub loop-at-preserved : goal.loop-at-preserved
loop-at-preserved c =
    marks_then _ _ _ _ _ _ c.loop-at.invariant c.mark_bits.ensures (λ place. words_more c.args.first c.loop-at.at place c.args.words.now)

pub returns : goal.returns
returns c =
    marks_same _ _ _ _ c.loop-at.invariant (λ place. words_end c.args.first c.loop-at.at place c.args.words.now (omega (arith, c.loop-at-test.false)))
