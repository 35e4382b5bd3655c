use Rattle.std.proofs.Common.{◌<◌, ◌∙◌, ap, is_some, length, map, subst, sym}
use Rattle.std.specs.Prelude.{IfSome}
use Rattle.refutation.specs.Proofs.{omission_meant}
use Rattle.row_text.specs.RowFiles.{suite_seen}
use Rattle.suite_facts.specs.believed.Coverages.{numbers_of}
use Rattle.suite_facts.specs.believed.Facts.{largest_of}
use Rattle.tuple_index.specs.Plan.{PlanView}
use Rattle.jeldroft_show.specs.believed.Words.{coverage_words, least_words, proof_words}
use Rattle.jeldroft_show.proofs.PageLemmas.{same_page}
use Rattle.jeldroft_show.proofs.page_words.write_suite_page.Goals as goal

pub least_text-requires-clause-exists : goal.least_text-requires-clause-exists
least_text-requires-clause-exists g c =
    subst (λ (p : PlanView). IfSome c.in_ok-coverage.coverage.largest (λ found. found.set < length p.sets)) (sym c.requires.plan) c.in_ok-coverage.ensures.exists

pub returns : goal.returns
returns g c =
    let m = c.args.model.now in
    let rows = suite_seen c.args.tests.now in
    let accepted = c.is_accepted-accepted.ensures in
    c.in_ok-text.ensures
    ∙ same_page m rows (map omission_meant c.args.omissions.now) c.as_str.ensures.value accepted
    (c.as_slice.ensures.value ∙ c.in_ok-verdict.ensures)
    (c.as_slice-2.ensures.value ∙ c.in_ok-remark.ensures
    ∙ ap (λ named. proof_words named c.is_accepted-accepted.result) c.is_some.ensures ∙ ap (proof_words (is_some c.args.args.now.proof)) accepted)
    (c.as_slice-3.ensures.value ∙ c.in_ok-size.ensures
    ∙ ap (λ numbers. coverage_words numbers c.is_accepted-accepted.result) c.numbers_of-numbers.ensures ∙ ap (coverage_words (numbers_of m rows)) accepted)
    (c.as_slice-4.ensures.value ∙ c.in_ok-least.ensures
    ∙ ap (λ largest. least_words m largest c.is_accepted-accepted.result) c.in_ok-coverage.ensures.largest ∙ ap (least_words m (largest_of m rows)) accepted)
