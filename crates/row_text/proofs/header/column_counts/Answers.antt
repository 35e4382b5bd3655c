use Rattle.std.proofs.Common.{◌≡◌, ◌<◌, ◌≤◌, None, length, get_or, ap, ◌∙◌, arith, subst}
use Rattle.std.specs.Prelude.{IfSome}
use Rattle.std.specs.List.{count_by}
use Rattle.std.proofs.lemmas.List.{get_or_default, take_all}
use Rattle.std.proofs.lemmas.List.FromFn.{fill_by_all}
use Rattle.row_text.proofs.ColumnSteps.{column_counted, column_skipped, count_within, is_of}
use Rattle.row_text.proofs.header.column_counts.Goals as goal
use Rattle.row_text.proofs.header.column_counts.Goals.{in-Some, in_default}

pub overflow_add-index_mut : goal.overflow_add-index_mut
overflow_add-index_mut c =
    let few : c.loop-column.column-index < length c.args.columns.now = c.loop-column-test.true in
    let inside : c.in-Some.p < c.args.params = subst (λ o. IfSome o (λ p. p < c.args.params)) c.in-Some.is (c.requires c.loop-column.column-index None few) in
    let at : c.index_mut.result.now ≡ get_or c.loop-column.counts.items c.in-Some.p 0 =
    c.index_mut.ensures.value ∙ get_or_default c.loop-column.counts.items c.in-Some.p c.index_mut.result.now 0 (omega (arith, inside, c.loop-column.invariant.long)) in
    let small = count_within c.args.params c.args.columns.now c.loop-column.column-index c.loop-column.counts.items c.in-Some.p c.loop-column.invariant (omega arith) inside in
    omega (arith, at, small, few)

pub loop-column-preserved : goal.loop-column-preserved
loop-column-preserved c =
    let few : c.loop-column.column-index < length c.args.columns.now = c.loop-column-test.true in
    elim c.match-column.branch [
      | in-Some w ↦
          let inside : w.in-Some.p < c.args.params = subst (λ o. IfSome o (λ p. p < c.args.params)) w.in-Some.is (c.requires c.loop-column.column-index None few) in
          let at : w.index_mut.result.now ≡ get_or c.loop-column.counts.items w.in-Some.p 0 =
          w.index_mut.ensures.value ∙ get_or_default c.loop-column.counts.items w.in-Some.p w.index_mut.result.now 0 (omega (arith, inside, c.loop-column.invariant.long)) in
          column_counted c.args.params c.args.columns.now c.loop-column.column-index c.loop-column.counts.items c.match-column.counts.items w.in-Some.p w.index_mut.result.now
          c.loop-column.invariant few w.in-Some.is inside at (ap (λ counts. counts.items) w.counts-is)
      | in_default w ↦
          rw w.counts-is (column_skipped c.args.params c.args.columns.now c.loop-column.column-index c.loop-column.counts.items c.loop-column.invariant few w.in_default.is)
    ]

pub returns : goal.returns
returns c =
    let all : length c.args.columns.now ≤ c.loop-column.column-index = omega arith in
    fill_by_all (λ p. count_by (is_of p) c.args.columns.now) c.loop-column.counts.items c.args.params 0 c.loop-column.invariant.long
    (λ p within. c.loop-column.invariant.each p within ∙ ap (count_by (is_of p)) (take_all c.loop-column.column-index c.args.columns.now all))
