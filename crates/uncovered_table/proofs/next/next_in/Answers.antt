use Rattle.std.proofs.Common.{◌+◌, arith, subst}
use Rattle.bit_table.specs.Marks.{IsFirstSet, NoneSet}
use Rattle.uncovered_table.proofs.NextLemmas.{found_place, next_known, no_place}
use Rattle.uncovered_table.proofs.next.next_in.Goals as goal

pub skipped-requires : goal.skipped-requires
skipped-requires c =
    let k = next_known c.args.sets.now.model c.args.sets.now.slice c.args.set c.args.column c.args.from c.block-block.result c.requires.set
    c.block-block.ensures c.requires.from c.requires.least in
    omega (arith, k.low, k.few, c.assert_invariant.ensures.few)

pub overflow_add-low : goal.overflow_add-low
overflow_add-low c =
    let k = next_known c.args.sets.now.model c.args.sets.now.slice c.args.set c.args.column c.args.from c.block-block.result c.requires.set
    c.block-block.ensures c.requires.from c.requires.least in
    omega (arith, k.low, k.few, c.assert_invariant.ensures.few, c.skipped.ensures)

pub overflow_add-block : goal.overflow_add-block
overflow_add-block c =
    let k = next_known c.args.sets.now.model c.args.sets.now.slice c.args.set c.args.column c.args.from c.block-block.result c.requires.set
    c.block-block.ensures c.requires.from c.requires.least in
    omega (arith, k.few, c.assert_invariant.ensures.few)

pub next_set-requires-clause-ordered : goal.next_set-requires-clause-ordered
next_set-requires-clause-ordered c =
    let k = next_known c.args.sets.now.model c.args.sets.now.slice c.args.set c.args.column c.args.from c.block-block.result c.requires.set
    c.block-block.ensures c.requires.from c.requires.least in
    omega (arith, k.low, c.skipped.ensures)

pub next_set-requires-clause-within : goal.next_set-requires-clause-within
next_set-requires-clause-within c =
    let k = next_known c.args.sets.now.model c.args.sets.now.slice c.args.set c.args.column c.args.from c.block-block.result c.requires.set
    c.block-block.ensures c.requires.from c.requires.least in
    omega (arith, k.few, c.requires.bits)

pub overflow_add-result : goal.overflow_add-result
overflow_add-result c =
    let k = next_known c.args.sets.now.model c.args.sets.now.slice c.args.set c.args.column c.args.from c.block-block.result c.requires.set
    c.block-block.ensures c.requires.from c.requires.least in
    let first = c.block-block.result.first in
    let there = subst (λ s. IsFirstSet c.args.bits.now (first + s) (first + c.block-block.result.count) c.in-Some.bit) c.skipped.ensures c.in-Some.ensures in
    let f = found_place c.args.sets.now.model c.args.sets.now.slice c.args.bits.now c.args.set c.args.column c.in-Some.bit c.args.from c.block-block.result
    c.assert_invariant.ensures.kept c.assert_invariant.ensures.own
    c.requires.set c.block-block.ensures k there in
    omega (arith, f.few)

pub returns-in-Some-clause-value : goal.returns-in-Some-clause-value
returns-in-Some-clause-value c =
    let k = next_known c.args.sets.now.model c.args.sets.now.slice c.args.set c.args.column c.args.from c.block-block.result c.requires.set
    c.block-block.ensures c.requires.from c.requires.least in
    let first = c.block-block.result.first in
    let there = subst (λ s. IsFirstSet c.args.bits.now (first + s) (first + c.block-block.result.count) c.in-Some.bit) c.skipped.ensures c.in-Some.ensures in
    let f = found_place c.args.sets.now.model c.args.sets.now.slice c.args.bits.now c.args.set c.args.column c.in-Some.bit c.args.from c.block-block.result
    c.assert_invariant.ensures.kept c.assert_invariant.ensures.own
    c.requires.set c.block-block.ensures k there in
    f.value

pub returns-in-Some-clause-own : goal.returns-in-Some-clause-own
returns-in-Some-clause-own c =
    let k = next_known c.args.sets.now.model c.args.sets.now.slice c.args.set c.args.column c.args.from c.block-block.result c.requires.set
    c.block-block.ensures c.requires.from c.requires.least in
    let first = c.block-block.result.first in
    let there = subst (λ s. IsFirstSet c.args.bits.now (first + s) (first + c.block-block.result.count) c.in-Some.bit) c.skipped.ensures c.in-Some.ensures in
    let f = found_place c.args.sets.now.model c.args.sets.now.slice c.args.bits.now c.args.set c.args.column c.in-Some.bit c.args.from c.block-block.result
    c.assert_invariant.ensures.kept c.assert_invariant.ensures.own
    c.requires.set c.block-block.ensures k there in
    f.own

pub returns-in-None-clause-value : goal.returns-in-None-clause-value
returns-in-None-clause-value c =
    let k = next_known c.args.sets.now.model c.args.sets.now.slice c.args.set c.args.column c.args.from c.block-block.result c.requires.set
    c.block-block.ensures c.requires.from c.requires.least in
    let first = c.block-block.result.first in
    no_place c.args.sets.now.model c.args.sets.now.slice c.args.bits.now c.args.set c.args.from c.block-block.result c.block-block.ensures k
    (subst (λ s. NoneSet c.args.bits.now (first + s) (first + c.block-block.result.count)) c.skipped.ensures c.in-None.ensures)
