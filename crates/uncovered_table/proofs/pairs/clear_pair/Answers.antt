use Rattle.std.proofs.Common.{◌≡◌, ◌∙◌, ◌+◌, Some, None, ap, arith, get_or, refl, sym}
use Rattle.uncovered_table.specs.Bits.{cleared}
use Rattle.uncovered_table.specs.Digits.{cell_digit, own_values, with_digit}
use Rattle.uncovered_table.specs.Masks.{begin_at}
use Rattle.uncovered_table.specs.Pairs.{digit_count}
use Rattle.uncovered_table.specs.Words.{bit_in}
use Rattle.uncovered_table.proofs.DigitLemmas.{cell_digits}
use Rattle.uncovered_table.proofs.MaskLemmas.{without-digit}
use Rattle.uncovered_table.proofs.PairLemmas.{other_digit, own_column, partner-none}
use Rattle.uncovered_table.proofs.pairs.clear_pair.Goals as goal

pub pair_bit-requires-clause-other : goal.pair_bit-requires-clause-other
pair_bit-requires-clause-other c =
    let v = c.args.sets.now in
    cell_digits (own_values v.model v.slice) c.args.cells.now c.args.p c.in-Some.other (sym c.digit_in.ensures ∙ c.in-Some.is)

pub returns-then-clear_bit-clause-bits : goal.returns-then-clear_bit-clause-bits
returns-then-clear_bit-clause-bits c =
    let v = c.args.sets.now in
    let digits = cell_digit (own_values v.model v.slice) c.args.cells.now in
    c.clear.ensures
    ∙ ap (λ o. cleared o c.args.bits.now) (sym (c.pair_bit.ensures.value (with_digit digits c.args.column c.args.digit) (own_column digits c.args.column c.args.digit)
    (other_digit digits c.args.column c.args.digit c.args.p c.requires.partner.apart ∙ sym c.digit_in.ensures ∙ c.in-Some.is)))

pub returns-then-clear_bit-clause-block : goal.returns-then-clear_bit-clause-block
returns-then-clear_bit-clause-block c =
    without-digit (digit_count c.args.sets.now.model c.args.sets.now.slice) (cell_digit (own_values c.args.sets.now.model c.args.sets.now.slice) c.args.cells.now)
    c.args.p (get_or c.args.begins.now c.args.p 0) c.in-Some.other c.args.block.now.items c.clear_bit.new.words.items (sym c.digit_in.ensures ∙ c.in-Some.is)
    (c.requires.begins.each c.args.p 0 (let less = c.requires.partner.exists in omega (arith, less))) c.clear_bit.ensures.long c.clear_bit.ensures.each

pub returns-else-clear_bit-clause-bits : goal.returns-else-clear_bit-clause-bits
returns-else-clear_bit-clause-bits c =
    let v = c.args.sets.now in
    let begin = c.requires.begins.each c.args.p 0 (let less = c.requires.partner.exists in omega (arith, less)) in
    let place : begin_at (digit_count v.model v.slice) c.args.p + c.in-Some.other ≡ get_or c.args.begins.now c.args.p 0 + c.in-Some.other = omega (arith, begin) in
    sym (c.requires.none c.in-Some.other (sym c.digit_in.ensures ∙ c.in-Some.is)
    (ap (bit_in c.args.block.now.items) place ∙ c.clear_bit.ensures.none c.if-clear_bit.false))

pub returns-else-clear_bit-clause-block : goal.returns-else-clear_bit-clause-block
returns-else-clear_bit-clause-block c =
    without-digit (digit_count c.args.sets.now.model c.args.sets.now.slice) (cell_digit (own_values c.args.sets.now.model c.args.sets.now.slice) c.args.cells.now)
    c.args.p (get_or c.args.begins.now c.args.p 0) c.in-Some.other c.args.block.now.items c.clear_bit.new.words.items (sym c.digit_in.ensures ∙ c.in-Some.is)
    (c.requires.begins.each c.args.p 0 (let less = c.requires.partner.exists in omega (arith, less))) c.clear_bit.ensures.long c.clear_bit.ensures.each

pub returns-in-None-clause-bits : goal.returns-in-None-clause-bits
returns-in-None-clause-bits c =
    let v = c.args.sets.now in
    let digits = cell_digit (own_values v.model v.slice) c.args.cells.now in
    sym (ap (λ o. cleared o c.args.bits.now) (partner-none v.model v.slice c.args.column c.args.digit c.args.set c.args.p digits c.requires.partner
    (sym c.digit_in.ensures ∙ c.in-None.is)))

pub returns-in-None-clause-block : goal.returns-in-None-clause-block
returns-in-None-clause-block c = record {
  long = refl;
  none = λ none k. refl;
  some = λ d is k. absurd (let never : None ≡ Some d = sym c.in-None.is ∙ c.digit_in.ensures ∙ is in cc);
}
