use Rattle.std.proofs.Common.{◌+◌, ◌*◌, ◌<◌, ◌∙◌, All, None, ap, arith, drop, get_or, length, subst, sym}
use Rattle.std.specs.Prelude.{IfSome}
use Rattle.std.proofs.lemmas.List.{length-drop}
use Rattle.cov_model.specs.believed.Sound.{param_at}
use Rattle.uncovered_table.specs.Bits.{bit_count, line_bit}
use Rattle.uncovered_table.proofs.ValueLemmas.{bits_fit, bits_of_line, bits_within, digit_from, digits_long, value_line}
use Rattle.uncovered_table.proofs.held.add_set.Goals as goal

pub from_value-digits-requires : goal.from_value-digits-requires
from_value-digits-requires c =
    let v = c.args.sets.now in
    omega (arith, ap length c.digits.ensures, digits_long v.model v.slice c.args.column, c.requires.values)

pub add_line-requires-clause-room : goal.add_line-requires-clause-room
add_line-requires-clause-room c =
    let v = c.args.sets.now in
    omega (
      arith,
      ap length c.from_value-digits.ensures,
      length-drop c.args.from c.digits.result.now,
      ap length c.digits.ensures,
      digits_long v.model v.slice c.args.column,
      c.requires.values,
    )

pub add_line-requires-clause-within : goal.add_line-requires-clause-within
add_line-requires-clause-within c =
    let v = c.args.sets.now in
    let same = c.from_value-digits.ensures ∙ ap (drop c.args.from) c.digits.ensures in
    subst (All (λ digit. IfSome digit (λ d. c.in-Some.line.first + d * c.in-Some.line.step < length c.args.bits.now))) (sym same)
    (bits_within v.model v.slice c.args.column c.args.from (length c.args.bits.now) c.in-Some.line
    (λ d below. (let inside = c.in-Some.ensures.within d below in omega (arith, inside, c.requires.bits))))

pub add_bits-requires-clause-within : goal.add_bits-requires-clause-within
add_bits-requires-clause-within c =
    let v = c.args.sets.now in
    λ some.
    bits_fit v.model v.slice c.args.column c.args.from (length c.args.scores.now) (length c.args.bits.now) c.in-Some.line
    (c.requires.all c.if-all.true) c.if-line-eq1.true c.requires.values some
    (λ d below. (let inside = c.in-Some.ensures.within d below in omega (arith, inside, c.requires.bits)))

pub returns-then-line-eq1-clause-each : goal.returns-then-line-eq1-clause-each
returns-then-line-eq1-clause-each c =
    let v = c.args.sets.now in
    λ i within.
    let inside : c.args.from + i < length (param_at v.model.params c.args.column).values = omega (arith, within, c.requires.values) in
    c.add_bits.ensures.each i within
    ∙ ap (λ k. get_or c.args.scores.now i 0 + k)
    (bits_of_line v.model v.slice c.args.bits.now c.args.column c.args.from i c.in-Some.line (c.requires.all c.if-all.true) c.if-line-eq1.true inside
    ∙ value_line v.model v.slice c.args.bits.now c.args.cells.now c.args.column (c.args.from + i) c.args.set c.in-Some.line c.in-Some.ensures.value)

pub returns-else-all-clause-each : goal.returns-else-all-clause-each
returns-else-all-clause-each c =
    let v = c.args.sets.now in
    let same = c.from_value-digits.ensures ∙ ap (drop c.args.from) c.digits.ensures in
    λ i within.
    let inside : c.args.from + i < length (param_at v.model.params c.args.column).values = omega (arith, within, c.requires.values) in
    c.add_line.ensures.each i within
    ∙ ap (λ ds. get_or c.args.scores.now i 0 + bit_count c.args.bits.now (line_bit c.in-Some.line (get_or ds i None))) same
    ∙ ap (λ o. get_or c.args.scores.now i 0 + bit_count c.args.bits.now (line_bit c.in-Some.line o))
    (digit_from v.model v.slice c.args.column c.args.from i inside)
    ∙ ap (λ k. get_or c.args.scores.now i 0 + k)
    (value_line v.model v.slice c.args.bits.now c.args.cells.now c.args.column (c.args.from + i) c.args.set c.in-Some.line c.in-Some.ensures.value)
