use Rattle.std.proofs.Common.{◌<◌, ℕ, None, IfSome, [], get_or, length, sym, subst, arith}
use Rattle.ipog_grow.specs.UnfilledRows.{HasUnfilled}
use Rattle.ipog_grow.proofs.UnfilledLemmas.{unfilled-next, unfilled-none}
use Rattle.ipog_grow.proofs.unfilled.UnfilledRows.among.Goals as goal

pub loop-i-init : goal.loop-i-init
loop-i-init c =
    subst (HasUnfilled c.args.columns.now c.args.column c.args.count []) (sym c.in_ok-unfilled.ensures)
    (unfilled-none c.args.columns.now c.args.column c.args.count)

pub push_row-requires-clause-value : goal.push_row-requires-clause-value
push_row-requires-clause-value c =
    let within : c.loop-i.i < length c.args.rows.now = omega arith in
    subst (λ (n : ℕ). IfSome (get_or c.row.result.now c.args.column None) (λ v. v < n)) (sym c.loop-i.invariant.values)
    (subst (λ row. IfSome (get_or row c.args.column None) (λ v. v < c.args.count)) (sym c.row.ensures)
    (c.requires.values c.loop-i.i [] within))

pub loop-i-preserved : goal.loop-i-preserved
loop-i-preserved c =
    let within : c.loop-i.i < length c.args.rows.now = omega arith in
    unfilled-next c.args.columns.now c.args.column c.args.count c.args.rows.now c.loop-i.unfilled c.push_row.new.self c.loop-i.i c.row.result.now within
    (subst (λ row. IfSome (get_or row c.args.column None) (λ v. v < c.args.count)) (sym c.row.ensures) (c.requires.values c.loop-i.i [] within))
    c.loop-i.invariant c.row.ensures c.in_ok-push_row.ensures
