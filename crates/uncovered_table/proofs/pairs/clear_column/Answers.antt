use Rattle.std.proofs.Common.{◌∙◌, None, arith, subst, sym}
use Rattle.std.specs.Prelude.{IfSome}
use Rattle.std.proofs.lemmas.List.{get_or_default}
use Rattle.uncovered_table.specs.Digits.{cell_digit, own_values, with_digit}
use Rattle.uncovered_table.specs.Pairs.{HasPairs}
use Rattle.uncovered_table.proofs.DigitLemmas.{cell_digits, with_digits}
use Rattle.uncovered_table.proofs.PartnerLemmas.{kept-closed}
use Rattle.uncovered_table.proofs.pairs.clear_column.Goals as goal

pub index_mut-kept-requires : goal.index_mut-kept-requires
index_mut-kept-requires c = omega (arith, c.requires.column, c.requires.kept.many, c.args.columns.now.ok.0)

pub clear_kept-requires-clause-pairs : goal.clear_kept-requires-clause-pairs
clear_kept-requires-clause-pairs c =
    let v = c.args.sets.now in
    let columns = c.args.columns.now.items in
    let read = c.index_mut-kept.ensures.value
    ∙ get_or_default columns c.args.column c.index_mut-kept.result.now None (omega (arith, c.requires.column, c.requires.kept.many)) in
    subst (λ o. IfSome o (HasPairs v.model v.slice c.args.bits.now c.args.column)) (sym read) (c.requires.kept.each c.args.column c.requires.column)

pub returns-clause-kept : goal.returns-clause-kept
returns-clause-kept c =
    let v = c.args.sets.now in
    let values = own_values v.model v.slice in
    let digits = cell_digit values c.args.cells.now in
    kept-closed v.model v.slice (with_digit digits c.args.column c.args.digit) c.args.bits.now c.args.column c.args.columns.now.items c.clear_kept.new.kept
    c.assert_invariant.ensures.kept (with_digits values digits c.args.column c.args.digit (cell_digits values c.args.cells.now) c.requires.digit) c.requires.kept
    c.clear_kept.ensures.pairs
