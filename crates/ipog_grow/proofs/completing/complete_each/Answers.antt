use Rattle.std.proofs.Common.{ℕ, ◌<◌, ◌∷◌, [], length, get_or, ◌∙◌, arith}
use Rattle.std.proofs.lemmas.Result.{err_from_is_err_and}
use Rattle.ipog_grow.specs.Asking.{first_spent}
use Rattle.ipog_grow.proofs.Asking.{told-err}
use Rattle.ipog_grow.proofs.Completed.{completes-grows, completes-next, completes-spent}
use Rattle.ipog_grow.proofs.completing.complete_each.Goals as goal

pub complete_row-requires-clause-grows : goal.complete_row-requires-clause-grows
complete_row-requires-clause-grows c =
    let within : c.loop-i.i < length c.args.rows.now = omega (arith, c.loop-i-test.true, c.loop-i.auto.i-end, c.len-i-end.ensures) in
    completes-grows c.args.asker.now.context c.loop-i.asker.context c.loop-i.invariant.context c.args.rows.now c.loop-i.rows c.loop-i.i
    c.loop-i.count c.loop-i.room c.loop-i.invariant.completes within c.requires.grows

pub returns-in_err-count-clause-asked : goal.returns-in_err-count-clause-asked
returns-in_err-count-clause-asked c =
    let within : c.loop-i.i < length c.args.rows.now = omega (arith, c.loop-i-test.true, c.loop-i.auto.i-end, c.len-i-end.ensures) in
    let p = err_from_is_err_and c.from_residual-in_err-count.result c.from_residual-in_err-count.ensures.1 in
    rw (p.1, p.2) (told-err ℕ (Unit {0}) c.in_err-count.field-0.0 c.complete_row.new.asker.question
    (first_spent c.loop-i.asker.context (get_or c.loop-i.rows c.loop-i.i [] ∷ [])) (first_spent c.args.asker.now.context c.args.rows.now)
    (completes-spent c.args.asker.now.context c.loop-i.asker.context c.loop-i.invariant.context c.args.rows.now c.loop-i.rows c.loop-i.i
    c.loop-i.count c.loop-i.room c.loop-i.invariant.completes within c.complete_row.new.asker.question)
    c.in_err-count.ensures.asked)

pub loop-i-preserved : goal.loop-i-preserved
loop-i-preserved c =
    let within : c.loop-i.i < length c.args.rows.now = omega (arith, c.loop-i-test.true, c.loop-i.auto.i-end, c.len-i-end.ensures) in
    record {
      context = c.in_ok-count.ensures.same ∙ c.loop-i.invariant.context;
      partial = c.in_ok-count.ensures.partial ∙ c.loop-i.invariant.partial;
      completes = completes-next c.args.asker.now.context c.loop-i.asker.context c.loop-i.invariant.context c.args.rows.now c.loop-i.rows c.loop-i.i
          c.loop-i.count c.loop-i.room c.loop-i.invariant.completes within c.complete_row.new.rows c.in_ok-count.count c.complete_row.new.room
          c.in_ok-count.ensures.asked c.in_ok-count.ensures.done c.in_ok-count.ensures.long c.in_ok-count.ensures.room;
    }
