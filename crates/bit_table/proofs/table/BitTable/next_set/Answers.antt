use Rattle.std.proofs.Common.{arith}
use Rattle.bit_table.proofs.NextLemmas.{first_found, goes_on, none_found, word_done}
use Rattle.bit_table.proofs.table.BitTable.next_set.Goals as goal

pub bounds-words-place : goal.bounds-words-place
bounds-words-place c =
    (goes_on c.as_slice-words.result.now c.self.inside.words.items c.self.inside.size c.args.self.now c.args.from c.args.to c.loop-place.place
    c.as_slice-words.ensures.value c.self.invariant.0 c.self.view_is c.requires.within c.loop-place-test.true c.loop-place.invariant).inside

pub returns-then-first-end : goal.returns-then-first-end
returns-then-first-end c =
    let goes = goes_on c.as_slice-words.result.now c.self.inside.words.items c.self.inside.size c.args.self.now c.args.from c.args.to c.loop-place.place
    c.as_slice-words.ensures.value c.self.invariant.0 c.self.view_is c.requires.within c.loop-place-test.true c.loop-place.invariant in
    first_found c.as_slice-words.result.now c.self.inside.size c.args.self.now c.args.from c.args.to c.loop-place.place goes
    (omega (arith, c.if-rest-ne0.true)) c.if-first-end.true

pub returns-else-first-end : goal.returns-else-first-end
returns-else-first-end c =
    let goes = goes_on c.as_slice-words.result.now c.self.inside.words.items c.self.inside.size c.args.self.now c.args.from c.args.to c.loop-place.place
    c.as_slice-words.ensures.value c.self.invariant.0 c.self.view_is c.requires.within c.loop-place-test.true c.loop-place.invariant in
    none_found c.as_slice-words.result.now c.self.inside.size c.args.self.now c.args.from c.args.to c.loop-place.place goes
    (omega (arith, c.if-rest-ne0.true)) c.if-first-end.false

pub loop-place-preserved : goal.loop-place-preserved
loop-place-preserved c =
    let goes = goes_on c.as_slice-words.result.now c.self.inside.words.items c.self.inside.size c.args.self.now c.args.from c.args.to c.loop-place.place
    c.as_slice-words.ensures.value c.self.invariant.0 c.self.view_is c.requires.within c.loop-place-test.true c.loop-place.invariant in (
      omega (arith, c.loop-place.invariant.0),
      word_done c.as_slice-words.result.now c.self.inside.size c.args.self.now c.args.from c.args.to c.loop-place.place goes c.if-rest-ne0.false,
      c.loop-place.invariant.2,
    )
