use Rattle.std.proofs.Common.{◌≡◌, ℕ, List, map, ap, subst, sym, is_some, ◌∙◌}
use Rattle.std.specs.Prelude.{IfOk}
use Rattle.refutation.specs.Proofs.{omission_meant}
use Rattle.row_text.specs.RowFiles.{suite_seen}
use Rattle.jeldroft_show.specs.believed.Pages.{suite_page}
use Rattle.jeldroft_show.proofs.PageLemmas.{shown_as_page, shown_in_words}
use Rattle.jeldroft_show.proofs.judged.write_text.Goals as goal

pub returns-then-is_page : goal.returns-then-is_page
returns-then-is_page g c =
    let args = c.args.args.now in
    let m = c.args.model.now in
    let rows = suite_seen c.args.tests.now in
    subst (λ (shown : List ℕ). IfOk c.write_suite_page.result (λ text. text.items ≡ shown))
    (ap (λ listed. suite_page args.model.name m rows (is_some args.proof) (map omission_meant listed) c.args.verdict.now) c.as_slice.ensures
    ∙ shown_as_page args m rows (map omission_meant c.args.omissions.now.omissions) c.args.verdict.now (sym c.is_page.ensures ∙ c.if-is_page.true))
    c.write_suite_page.ensures

pub returns-else-is_page : goal.returns-else-is_page
returns-else-is_page g c =
    subst (λ (shown : List ℕ). IfOk c.write_words.result (λ text. text.items ≡ shown))
    (shown_in_words c.args.args.now c.args.model.now (suite_seen c.args.tests.now) (map omission_meant c.args.omissions.now.omissions) c.args.verdict.now
    (sym c.is_page.ensures ∙ c.if-is_page.false)) c.write_words.ensures
