use Rattle.std.proofs.Common.{ap, ◌∙◌}
use Rattle.row_text.specs.RowFiles.{suite_seen}
use Rattle.definitions.specs.believed.ProofText.{omissions_of}
use Rattle.jeldroft_show.specs.believed.Due.{text_shown}
use Rattle.jeldroft_show.specs.believed.Words.{is_accepted, omissions_told}
use Rattle.jeldroft_show.proofs.WordLemmas.{shown_with}
use Rattle.jeldroft_show.proofs.judged.judge.Goals as goal

pub returns : goal.returns
returns g c =
    let m = c.args.model.now in
    let rows = suite_seen c.args.tests in
    let args = c.args.args.now in
    let proof = omissions_of m c.args.proof.now in
    ap (λ text. shown_with text c.is_accepted.result) c.in_ok-text.ensures
    ∙ ap (shown_with (text_shown args m rows (omissions_told c.in_ok-verdict.verdict proof) c.in_ok-verdict.verdict)) c.is_accepted.ensures
    ∙ ap (λ given. shown_with (text_shown args m rows (omissions_told given proof) given) (is_accepted given)) c.in_ok-verdict.ensures
