use Rattle.std.proofs.Common.{◌+◌, ◌-◌, arith}
use Rattle.shared_marks.proofs.CountLemmas.{few_counted, more_counted}
use Rattle.shared_marks.proofs.bits.Bits.count_marked.Goals as goal

pub overflow_add-marked : goal.overflow_add-marked
overflow_add-marked c =
    let more = more_counted c.args.self.now c.args.from c.loop-place.place c.min-near.result c.marks_in_word.result c.loop-place.marked c.loop-place.invariant.0
    (omega (arith, c.min-near.ensures, c.loop-place-test.true, c.requires)) c.marks_in_word.ensures c.loop-place.invariant.2 in
    let few = few_counted c.args.self.now c.args.from (c.loop-place.place + c.min-near.result - c.args.from) in
    omega (arith, more, few, c.min-near.ensures, c.loop-place-test.true, c.ranges.count.fits)

pub loop-place-preserved : goal.loop-place-preserved
loop-place-preserved c = (
  omega (arith, c.loop-place.invariant.0),
  omega (arith, c.min-near.ensures, c.loop-place-test.true),
  more_counted c.args.self.now c.args.from c.loop-place.place c.min-near.result c.marks_in_word.result c.loop-place.marked c.loop-place.invariant.0
      (omega (arith, c.min-near.ensures, c.loop-place-test.true, c.requires)) c.marks_in_word.ensures c.loop-place.invariant.2,
)
