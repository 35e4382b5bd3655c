use Rattle.std.proofs.Common.{◌∙◌, Bor, List, Option, ℕ, map, [], ap, arith, sym}
use Rattle.std.proofs.lemmas.List.{get_or-map, length-map}
use Rattle.shared_marks.specs.TestColumns.{digit_in}
use Rattle.shared_marks.proofs.ColumnLemmas.{place_pushed, test_at}
use Rattle.shared_marks.proofs.test_columns.push_places.Goals as goal

pub digit_of-requires-clause-row : goal.digit_of-requires-clause-row
digit_of-requires-clause-row c =
    (test_at c.args.model.now c.args.tests.now c.loop-test.test-index c.test-item.result c.requires.plain c.loop-test-test.true c.test-item.is).valid

pub digit_of-requires-clause-slice : goal.digit_of-requires-clause-slice
digit_of-requires-clause-slice c =
    sym (test_at c.args.model.now c.args.tests.now c.loop-test.test-index c.test-item.result c.requires.plain c.loop-test-test.true c.test-item.is).positive

pub loop-test-preserved : goal.loop-test-preserved
loop-test-preserved c =
    let now = λ (t : Bor (List (Option ℕ))). t.now in
    let tests = c.args.tests.now in
    let i = c.loop-test.test-index in
    let digit = digit_in c.args.model.now c.args.p in
    place_pushed digit c.args.column.now.items c.loop-test.column.items c.push.new.self.items (map now tests) i c.digit_of.result.place []
    (omega (arith, c.loop-test-test.true, length-map tests now)) c.loop-test.invariant
    (c.digit_of.ensures.place
    ∙ ap digit (ap now c.test-item.is ∙ sym (get_or-map now tests i c.test-item.result [] c.loop-test-test.true))) c.in_ok-push.ensures.items
