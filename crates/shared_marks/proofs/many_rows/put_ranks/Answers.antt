use Rattle.std.proofs.Common.{◌<◌, ◌∙◌, ap, arith, length, sym}
use Rattle.std.proofs.lemmas.List.{length-map}
use Rattle.tuple_index.specs.Plan.{set_at}
use Rattle.shared_marks.specs.TestColumns.{digit_in, place_in}
use Rattle.shared_marks.specs.OpenSets.{front}
use Rattle.shared_marks.proofs.LineLemmas.{last_exists, line_at, ranks_known}
use Rattle.shared_marks.proofs.many_rows.put_ranks.Goals as goal

pub fill-requires-clause-param : goal.fill-requires-clause-param
fill-requires-clause-param c = last_exists c.args.model.now c.args.plan.now c.args.line c.requires.plan c.requires.line

pub radix_of-requires-clause-param : goal.radix_of-requires-clause-param
radix_of-requires-clause-param c = last_exists c.args.model.now c.args.plan.now c.args.line c.requires.plan c.requires.line

pub column-requires : goal.column-requires
column-requires c =
    omega (arith, last_exists c.args.model.now c.args.plan.now c.args.line c.requires.plan c.requires.line, c.in_ok-fill.ensures.columns.wide)

pub add_digits-requires-clause-long : goal.add_digits-requires-clause-long
add_digits-requires-clause-long c =
    let tests = c.args.columns.now.tests in
    ap length (c.column.ensures ∙ c.in_ok-fill.ensures.column) ∙ length-map tests (digit_in c.args.model.now c.args.line.last)
    ∙ sym (ap length (c.copy_from_slice.ensures.after ∙ c.requires.fronts) ∙ length-map tests _)

pub add_digits-requires-clause-few : goal.add_digits-requires-clause-few
add_digits-requires-clause-few c at within =
    let m = c.args.model.now in
    let tests = c.args.columns.now.tests in
    let fronts = c.copy_from_slice.ensures.after ∙ c.requires.fronts in
    let inside : at < length tests =
    omega (arith, within, ap length fronts, length-map tests (place_in m (front (set_at c.args.plan.now c.args.line.set)))) in
    (line_at m c.args.plan.now tests c.args.line c.copy_from_slice.new.self c.column.result.now c.radix_of.result at c.requires.plan
    c.assert_invariant.ensures c.requires.columns.plain c.requires.line fronts c.radix_of.ensures.value (c.column.ensures ∙ c.in_ok-fill.ensures.column) inside).few

pub returns-clause-ranks : goal.returns-clause-ranks
returns-clause-ranks c =
    ranks_known c.args.model.now c.args.plan.now c.args.columns.now.tests c.args.line c.copy_from_slice.new.self c.column.result.now c.add_digits.new.numbers
    c.radix_of.result c.requires.plan c.assert_invariant.ensures c.requires.columns.plain c.requires.line (c.copy_from_slice.ensures.after ∙ c.requires.fronts)
    c.radix_of.ensures.value (c.column.ensures ∙ c.in_ok-fill.ensures.column) c.add_digits.ensures.long c.add_digits.ensures.each
