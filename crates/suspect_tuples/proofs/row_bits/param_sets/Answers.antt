use Rattle.std.proofs.Common.{◌+◌, ◌<◌, ◌∙◌, length, ap, arith, subst, sym}
use Rattle.suspect_tuples.specs.RowTables.{AreParamSets}
use Rattle.suspect_tuples.specs.ValueRows.{AreValueRows}
use Rattle.suspect_tuples.proofs.RowBitLemmas.{params_more}
use Rattle.suspect_tuples.proofs.SetLemmas.{few_values}
use Rattle.suspect_tuples.proofs.row_bits.param_sets.Goals as goal

pub loop-param-preserved : goal.loop-param-preserved
loop-param-preserved c =
    let m = c.args.model.now in
    let rows = c.args.rows.now in
    let p = c.loop-param.param in
    let same = c.as_slice-params.ensures ∙ c.params.ensures.value in
    let exists : p < length m.params = omega (arith, c.loop-param-test.true, c.loop-param.auto.param-end, ap length same) in
    let count = few_values m p c.len-count.result c.index-params-param.result c.as_slice-params.result.now c.params.ensures.sound same exists c.len-count.ensures in
    subst (AreParamSets m rows (p + 1)) (sym c.in_ok-push.ensures.ok)
    (params_more m rows p c.loop-param.sets c.in_ok-value_rows.field-0 c.loop-param.invariant
    (subst (λ n. AreValueRows rows p n c.in_ok-value_rows.field-0) count.1 c.in_ok-value_rows.ensures))
