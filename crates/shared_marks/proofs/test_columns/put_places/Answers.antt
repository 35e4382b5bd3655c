use Rattle.std.proofs.Common.{◌∙◌, ap, arith, get_or, map}
use Rattle.shared_marks.specs.TestColumns.{digit_in}
use Rattle.shared_marks.proofs.ColumnLemmas.{ArePlaced, places_end, places_joined, places_more}
use Rattle.shared_marks.proofs.test_columns.put_places.Goals as goal

pub add_digits-requires-clause-few : goal.add_digits-requires-clause-few
add_digits-requires-clause-few c at within =
    let m = c.args.model.now in
    let tests = c.args.columns.now.tests in
    let members = c.args.members.now in
    let placed : ArePlaced m tests members = record { exist = c.requires.exist; few = c.requires.few; some = c.requires.some } in
    (places_joined m tests members c.loop-p.into c.column.result.now c.loop-p.p-index 0 c.radix_of.result c.requires.columns.plain placed c.loop-p-test.true
    c.loop-p.invariant.2 c.radix_of.ensures.value
    (c.column.ensures ∙ c.in_ok-fill.ensures.column ∙ ap (map (digit_in m (get_or members c.loop-p.p-index 0))) c.loop-p.invariant.0) at
    (omega (arith, within, c.loop-p.invariant.2.long))).few

pub loop-p-preserved : goal.loop-p-preserved
loop-p-preserved c =
    let m = c.args.model.now in
    let tests = c.args.columns.now.tests in
    let members = c.args.members.now in
    let placed : ArePlaced m tests members = record { exist = c.requires.exist; few = c.requires.few; some = c.requires.some } in (
      c.in_ok-fill.ensures.tests ∙ c.loop-p.invariant.0,
      c.in_ok-fill.ensures.columns,
      places_more m tests members c.loop-p.into c.column.result.now c.add_digits.new.numbers c.loop-p.p-index 0 c.radix_of.result c.requires.columns.plain placed
          c.loop-p-test.true c.loop-p.invariant.2 c.radix_of.ensures.value
          (c.column.ensures ∙ c.in_ok-fill.ensures.column ∙ ap (map (digit_in m (get_or members c.loop-p.p-index 0))) c.loop-p.invariant.0)
          c.add_digits.ensures.long c.add_digits.ensures.each,
    )

pub returns-clause-places : goal.returns-clause-places
returns-clause-places c =
    places_end c.args.model.now c.args.columns.now.tests c.args.members.now c.loop-p.into c.loop-p.p-index c.loop-p-test.false c.loop-p.invariant.2
