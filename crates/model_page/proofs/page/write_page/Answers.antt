use Rattle.std.proofs.Common.{[], ◌++◌, ◌∙◌, map, ap}
use Rattle.html_page.specs.believed.Pieces.{pieces_text}
use Rattle.html_page.specs.Trees.{content_text}
use Rattle.refutation.specs.Proofs.{omission_meant}
use Rattle.row_text.specs.RowFiles.{suite_seen}
use Rattle.suite_page.specs.Document.{closing}
use Rattle.suite_page.proofs.Wholes.{three, two_behind, trees_whole}
use Rattle.model_page.specs.Parts.{head_text, omitted_part, tests_part}
use Rattle.model_page.specs.Seen.{words_seen}
use Rattle.model_page.specs.believed.Pages.{suite_of}
use Rattle.model_page.proofs.page.write_page.Goals as goal

pub returns : goal.returns
returns c =
    let m = c.args.model.now in
    let rows = suite_seen c.args.file.now in
    let omissions = map omission_meant c.args.omissions.now in
    let words = words_seen c.args.words.now in
    let h = head_text m rows words in
    let t = content_text (tests_part m rows) in
    let l = content_text (omitted_part m omissions) in
    c.into_bytes.ensures
    ∙ two_behind [] (h ++ t ++ l) (pieces_text closing) c.put_omitted.new.page c.put_closing.new.page
    (three [] h t l c.put_head.new.page c.put_tests.new.page c.put_omitted.new.page
    (c.in_ok-put_head.ensures ∙ ap (λ bytes. bytes ++ h) c.new-page.ensures) c.in_ok-put_tests.ensures c.in_ok-put_omitted.ensures)
    c.in_ok-put_closing.ensures
    ∙ trees_whole (suite_of m rows omissions words)
