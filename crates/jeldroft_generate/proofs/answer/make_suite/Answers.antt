use Rattle.std.proofs.Common.{◌≡◌, true, ℕ, List, Option, map, sym, subst}
use Rattle.std.specs.Prelude.{All}
use Rattle.std.proofs.lemmas.Simd.{map-map}
use Rattle.cov_model.specs.Fits.{FitsModel}
use Rattle.cov_model.specs.believed.Valid.{is_valid}
use Rattle.row_text.specs.RowFiles.{row_seen, seeds_seen, suite_seen}
use Rattle.jeldroft_generate.specs.believed.Asked.{AreRowsFor, effort_of, orders_of, rows_of}
use Rattle.jeldroft_generate.specs.Numbers.{AreNumbersFor}
use Rattle.jeldroft_generate.proofs.Headline.{rows_fit, rows_valid}
use Rattle.jeldroft_generate.proofs.Steps.{proof_made}
use Rattle.jeldroft_generate.proofs.answer.make_suite.Goals as goal

pub tests_of-requires-clause-valid : goal.tests_of-requires-clause-valid
tests_of-requires-clause-valid g c =
    subst (All (λ row. is_valid c.args.model.now row ≡ true)) (sym c.in_ok-grown.ensures.suite.rows)
    (rows_valid c.args.args.now c.args.model.now (seeds_seen c.args.seeds.now) c.assert_invariant.ensures)

pub tests_of-requires-clause-fit : goal.tests_of-requires-clause-fit
tests_of-requires-clause-fit g c =
    subst (All (FitsModel c.args.model.now)) (sym c.in_ok-grown.ensures.suite.rows)
    (rows_fit c.args.args.now c.args.model.now (seeds_seen c.args.seeds.now) c.assert_invariant.ensures)

pub returns-clause-made : goal.returns-clause-made
returns-clause-made g c =
    let m = c.args.model.now in
    let args = c.args.args.now in
    let seeds = seeds_seen c.args.seeds.now in
    let rows = c.in_ok-tests.tests.rows in
    let without_lines : map (λ (line : ℕ × List (Option ℕ)). line.1) seeds ≡ suite_seen c.args.seeds.now =
    map-map (λ (line : ℕ × List (Option ℕ)). line.1) row_seen c.args.seeds.now.rows in
    record {
      sound = c.assert_invariant.ensures;
      within = c.requires.within;
      table = record {
        rows = rows;
        are = subst (λ known. AreRowsFor args.shrinking m (rows_of args m seeds) known rows) (sym without_lines)
            (subst (λ grown. AreRowsFor args.shrinking m grown (suite_seen c.args.seeds.now) rows) c.in_ok-grown.ensures.suite.rows c.in_ok-tests.ensures.are);
        is = c.in_ok-made.ensures.table;
      };
      proof =
          proof_made m (orders_of args m) seeds (effort_of args.budget) args.proof c.in_ok-grown.grown c.in_ok-made.made.proof.items
          c.in_ok-grown.ensures.suite c.in_ok-made.ensures.proof;
      numbers =
          subst (AreNumbersFor args.shrinking m (rows_of args m seeds) rows) (sym c.in_ok-made.ensures.numbers)
          (subst (λ grown. AreNumbersFor args.shrinking m grown rows c.in_ok-tests.tests.fewer) c.in_ok-grown.ensures.suite.rows c.in_ok-tests.ensures.numbers);
    }
