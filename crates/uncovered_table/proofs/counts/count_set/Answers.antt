use Rattle.std.proofs.Common.{◌≡◌, ◌+◌, ◌*◌, ◌∙◌, ℕ, Some, ap, arith, get_or, length, subst}
use Rattle.std.specs.Prelude.{option_map}
use Rattle.std.proofs.lemmas.List.{get_or_default}
use Rattle.uncovered_table.specs.Bits.{bit_count, held_bit, value_held}
use Rattle.uncovered_table.specs.Digits.{cell_digit, own_values, with_digit}
use Rattle.uncovered_table.proofs.LaneLemmas.{counted_by}
use Rattle.uncovered_table.proofs.ValueLemmas.{bits_fit, bits_of_line, value_line}
use Rattle.uncovered_table.proofs.counts.count_set.Goals as goal

pub overflow_add-line : goal.overflow_add-line
overflow_add-line c =
    let v = c.args.sets.now in
    let fit = bits_fit v.model v.slice c.args.column c.args.from c.args.count (length c.args.bits.now) c.in-Some.line c.requires.all c.if-line-eq1.true c.requires.values
    c.requires.some (λ d below. (let inside = c.in-Some.ensures.within d below in omega (arith, inside, c.requires.bits))) in
    omega (arith, fit, c.requires.bits, c.assert_invariant.ensures.few, c.from.ensures)

pub with_marks-requires-clause-within : goal.with_marks-requires-clause-within
with_marks-requires-clause-within c =
    let v = c.args.sets.now in
    let fit = bits_fit v.model v.slice c.args.column c.args.from c.args.count (length c.args.bits.now) c.in-Some.line c.requires.all c.if-line-eq1.true c.requires.values
    c.requires.some (λ d below. (let inside = c.in-Some.ensures.within d below in omega (arith, inside, c.requires.bits))) in
    omega (arith, fit, c.from.ensures)

pub returns-in-Some : goal.returns-in-Some
returns-in-Some c =
    let v = c.args.sets.now in
    let set = get_or c.args.lines.now.sets.items c.args.k 0 in
    λ done.
    counted_by (λ i. bit_count c.args.bits.now (Some (c.in-Some.line.first + c.from.result + i)))
    (λ i. value_held v.model v.slice c.args.bits.now c.args.cells.now c.args.column (c.args.from + i) set)
    c.args.count c.args.counts.now c.with_marks.result
    (λ i within.
    ap (λ n. bit_count c.args.bits.now (Some (c.in-Some.line.first + n + i))) c.from.ensures
    ∙ bits_of_line v.model v.slice c.args.bits.now c.args.column c.args.from i c.in-Some.line c.requires.all c.if-line-eq1.true (omega (arith, within, c.requires.values))
    ∙ value_line v.model v.slice c.args.bits.now c.args.cells.now c.args.column (c.args.from + i) set c.in-Some.line
    (subst (λ s. (d : ℕ) → held_bit v.model v.slice (with_digit (cell_digit (own_values v.model v.slice) c.args.cells.now) c.args.column d) s
    ≡ option_map (λ line. line.first + d * line.step) (Some c.in-Some.line))
    (c.index-set.ensures ∙ get_or_default c.args.lines.now.sets.items c.args.k c.index-set.result.now 0 c.requires.k) c.in-Some.ensures.value))
    c.with_marks.ensures
