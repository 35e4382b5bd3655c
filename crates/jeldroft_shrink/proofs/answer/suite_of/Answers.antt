use Rattle.std.proofs.Common.{◌≡◌, ◌⊎◌, true, All, sym, subst, ◌∙◌}
use Rattle.std.specs.Prelude.{IfErr}
use Rattle.value_text.proofs.ListLemmas.{is_err}
use Rattle.cov_model.specs.believed.Valid.{is_valid}
use Rattle.row_text.specs.RowFiles.{seeds_seen}
use Rattle.jeldroft_shrink.specs.believed.Causes.{status_of}
use Rattle.jeldroft_shrink.specs.believed.Runs.{HeldFiles, Holds, LackRows}
use Rattle.jeldroft_shrink.proofs.ReadLemmas.{lack_limit, lack_memory}
use Rattle.jeldroft_shrink.proofs.Tables.{rows_seen}
use Rattle.jeldroft_shrink.proofs.answer.suite_of.Goals as goal

pub table_of-requires-clause-valid : goal.table_of-requires-clause-valid
table_of-requires-clause-valid g c = subst (All (λ row. is_valid c.args.model.now row ≡ true)) (sym c.in_ok-rows.ensures) c.in_ok-tests.ensures.valid

pub returns-clause-table : goal.returns-clause-table
returns-clause-table g c = λ held holds.
    let tests = c.in_ok-tests.tests in
    record {
      given = seeds_seen tests.given;
      seeds = seeds_seen tests.seeds;
      have = c.in_ok-tests.ensures.tests held holds c.in_ok-plan.ensures.within;
      is = c.in_ok-table.ensures.table (seeds_seen tests.given) (c.in_ok-rows.ensures ∙ sym (rows_seen tests.given));
    }

pub returns-in_err-plan-clause-stops : goal.returns-in_err-plan-clause-stops
returns-in_err-plan-clause-stops g c =
    subst
    (λ r. IfErr r (λ failure. (held : HeldFiles) → Holds (g.F.Folder.seen c.args.files.now).files c.args.args.now held
    → (status_of failure.cause ≡ 3) ⊎ LackRows c.args.args.now held c.args.model.now failure.cause))
    (sym (is_err c.from_residual.ensures.1)) (λ held holds.
    lack_limit c.args.args.now held c.args.model.now c.in_err-plan.field-0.0.cause c.in_err-plan.ensures.stops)

pub returns-in_err-tests-clause-stops : goal.returns-in_err-tests-clause-stops
returns-in_err-tests-clause-stops g c =
    subst
    (λ r. IfErr r (λ failure. (held : HeldFiles) → Holds (g.F.Folder.seen c.args.files.now).files c.args.args.now held
    → (status_of failure.cause ≡ 3) ⊎ LackRows c.args.args.now held c.args.model.now failure.cause))
    (sym (is_err c.from_residual-in_err-tests.ensures.1)) (λ held holds. c.in_err-tests.ensures.stops held holds c.in_ok-plan.ensures.within)

pub returns-in_err-table-clause-stops : goal.returns-in_err-table-clause-stops
returns-in_err-table-clause-stops g c =
    lack_memory c.args.args.now (g.F.Folder.seen c.args.files.now).files c.args.model.now c.from_residual-in_err-table.result c.from_residual-in_err-table.ensures.1

pub returns-in_err-rows-clause-stops : goal.returns-in_err-rows-clause-stops
returns-in_err-rows-clause-stops g c =
    lack_memory c.args.args.now (g.F.Folder.seen c.args.files.now).files c.args.model.now c.from_residual-in_err-rows.result c.from_residual-in_err-rows.ensures.1
