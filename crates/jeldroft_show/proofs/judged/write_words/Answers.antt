use Rattle.std.proofs.Common.{◌<◌, ◌≤◌, All, length, map, ap, subst, sym, ◌∙◌}
use Rattle.std.specs.Prelude.{IfSome, option_map}
use Rattle.suite_facts.specs.Coverages.{set_seen}
use Rattle.suite_facts.proofs.RoundLemmas.{rounds_rise, rounds_within}
use Rattle.tuple_index.specs.Plan.{PlanView}
use Rattle.row_text.specs.RowFiles.{suite_seen}
use Rattle.refutation.specs.Proofs.{omission_meant}
use Rattle.jeldroft_show.specs.believed.Words.{suite_words}
use Rattle.jeldroft_show.proofs.WordLemmas.{words_are}
use Rattle.jeldroft_show.proofs.judged.write_words.Goals as goal

pub covered_after-requires-clause-rising : goal.covered_after-requires-clause-rising
covered_after-requires-clause-rising g c = rounds_rise c.len.result c.as_slice.result.now (c.as_slice.ensures.value ∙ c.in_ok-counts.ensures)

pub covered_after-requires-clause-within : goal.covered_after-requires-clause-within
covered_after-requires-clause-within g c =
    subst (λ k. All (λ n. n ≤ k) c.as_slice.result.now) c.len.ensures (rounds_within c.len.result c.as_slice.result.now (c.as_slice.ensures.value ∙ c.in_ok-counts.ensures))

pub suite_words-requires-clause-exists : goal.suite_words-requires-clause-exists
suite_words-requires-clause-exists g c =
    subst (λ (p : PlanView). IfSome c.in_ok-coverage.coverage.largest (λ found. found.set < length p.sets)) (sym c.requires.plan) c.in_ok-coverage.ensures.exists

pub returns : goal.returns
returns g c =
    let m = c.args.model.now in
    words_are m c.args.tests.now.rows c.numbers_of-numbers.result (option_map (set_seen m) c.in_ok-coverage.coverage.largest) c.as_slice-2.result.now
    c.as_slice.result.now c.len.result c.is_some.result (map omission_meant c.args.omissions.now.omissions) c.args.verdict.now c.in_ok-text.text.items c.numbers_of-numbers.ensures c.in_ok-coverage.ensures.largest
    (c.as_slice-2.ensures.value ∙ c.in_ok-points.ensures) (c.as_slice.ensures.value ∙ c.in_ok-counts.ensures) c.len.ensures c.in_ok-text.ensures
    ∙ ap (λ named. suite_words m (suite_seen c.args.tests.now) named (map omission_meant c.args.omissions.now.omissions) c.args.verdict.now) c.is_some.ensures
