use Rattle.std.proofs.Common.{◌+◌, ◌*◌, arith, refl}
use Rattle.uncovered_table.proofs.NumberLemmas.{IsBitOf, bit-first, bit-last}
use Rattle.uncovered_table.proofs.sets.SliceSets.pair_bit.Goals as goal

-- the bit where the other parameter is declared first, and where it isn't
first : (c : goal.After-digit_count) → IsBitOf c.args.self.now.model c.args.self.now.slice c.args.column c.args.digit c.args.set c.args.p c.args.other
    (c.args.first + c.from.result * c.digit_count.result + c.args.digit)
first c =
    bit-first c.args.self.now.model c.args.self.now.slice c.args.column c.args.digit c.args.set c.args.p c.args.other c.args.first c.from.result
    c.digit_count.result c.args.digit c.assert_invariant.ensures.kept c.requires.partner c.if-p-column.true c.requires.digit c.requires.other
    c.requires.first c.from.ensures c.digit_count.ensures refl

last : (c : goal.After-digit_count-else-p-column) → IsBitOf c.args.self.now.model c.args.self.now.slice c.args.column c.args.digit c.args.set c.args.p c.args.other
    (c.args.first + c.from-else-p-column.result * c.digit_count-else-p-column.result + c.args.other)
last c =
    bit-last c.args.self.now.model c.args.self.now.slice c.args.column c.args.digit c.args.set c.args.p c.args.other c.args.first
    c.from-else-p-column.result c.digit_count-else-p-column.result c.args.other c.assert_invariant.ensures.kept c.requires.partner c.if-p-column.false
    c.requires.digit c.requires.other c.requires.first c.from-else-p-column.ensures c.digit_count-else-p-column.ensures refl

whole_first : (c : goal.After-from-then-p-column) → IsBitOf c.args.self.now.model c.args.self.now.slice c.args.column c.args.digit c.args.set c.args.p c.args.other
    (c.args.first + c.from.result * c.digit_count.result + c.from-then-p-column.result)
whole_first c =
    bit-first c.args.self.now.model c.args.self.now.slice c.args.column c.args.digit c.args.set c.args.p c.args.other c.args.first c.from.result
    c.digit_count.result c.from-then-p-column.result c.assert_invariant.ensures.kept c.requires.partner c.if-p-column.true c.requires.digit c.requires.other
    c.requires.first c.from.ensures c.digit_count.ensures c.from-then-p-column.ensures

whole_last : (c : goal.After-from-else-p-column-2) → IsBitOf c.args.self.now.model c.args.self.now.slice c.args.column c.args.digit c.args.set c.args.p c.args.other
    (c.args.first + c.from-else-p-column.result * c.digit_count-else-p-column.result + c.from-else-p-column-2.result)
whole_last c =
    bit-last c.args.self.now.model c.args.self.now.slice c.args.column c.args.digit c.args.set c.args.p c.args.other c.args.first
    c.from-else-p-column.result c.digit_count-else-p-column.result c.from-else-p-column-2.result c.assert_invariant.ensures.kept c.requires.partner
    c.if-p-column.false c.requires.digit c.requires.other c.requires.first c.from-else-p-column.ensures c.digit_count-else-p-column.ensures
    c.from-else-p-column-2.ensures

pub overflow_mul-result : goal.overflow_mul-result
overflow_mul-result c = omega (arith, (first c).within, c.assert_invariant.ensures.few)

pub overflow_add-result : goal.overflow_add-result
overflow_add-result c = omega (arith, (first c).within, c.assert_invariant.ensures.few)

pub overflow_add-result-then-p-column : goal.overflow_add-result-then-p-column
overflow_add-result-then-p-column c = omega (arith, (whole_first c).within, c.assert_invariant.ensures.few)

pub overflow_mul-result-else-p-column : goal.overflow_mul-result-else-p-column
overflow_mul-result-else-p-column c = omega (arith, (last c).within, c.assert_invariant.ensures.few)

pub overflow_add-result-else-p-column : goal.overflow_add-result-else-p-column
overflow_add-result-else-p-column c = omega (arith, (last c).within, c.assert_invariant.ensures.few)

pub overflow_add-result-else-p-column-2 : goal.overflow_add-result-else-p-column-2
overflow_add-result-else-p-column-2 c = omega (arith, (whole_last c).within, c.assert_invariant.ensures.few)

pub returns-then-p-column-clause-value : goal.returns-then-p-column-clause-value
returns-then-p-column-clause-value c = (whole_first c).value

pub returns-then-p-column-clause-within : goal.returns-then-p-column-clause-within
returns-then-p-column-clause-within c = (whole_first c).within

pub returns-else-p-column-clause-value : goal.returns-else-p-column-clause-value
returns-else-p-column-clause-value c = (whole_last c).value

pub returns-else-p-column-clause-within : goal.returns-else-p-column-clause-within
returns-else-p-column-clause-within c = (whole_last c).within
