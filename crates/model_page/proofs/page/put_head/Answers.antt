use Rattle.std.proofs.Common.{◌++◌, ◌∙◌, map}
use Rattle.html_page.specs.believed.Pieces.{pieces_text}
use Rattle.html_page.specs.Trees.{content_text}
use Rattle.row_text.specs.RowFiles.{suite_seen}
use Rattle.suite_page.specs.Document.{opening}
use Rattle.suite_page.specs.believed.Pictures.{picture_tree}
use Rattle.suite_page.specs.believed.Verdicts.{numbers_tree, verdict_tree}
use Rattle.suite_page.proofs.Wholes.{three, two_behind}
use Rattle.model_page.specs.Seen.{words_seen}
use Rattle.model_page.specs.believed.Curves.{picture_of}
use Rattle.model_page.proofs.page.put_head.Goals as goal

pub returns : goal.returns
returns c =
    let words = words_seen c.args.words.now in
    let o = pieces_text (opening words.name) in
    let v = content_text (verdict_tree words.name words.accepted words.verdict words.remark) in
    let n = content_text (numbers_tree words.numbers) in
    let p = content_text (picture_tree (picture_of c.args.model.now (suite_seen c.args.file.now) words.accepted)) in
    two_behind c.args.page.now (o ++ v ++ n) p c.put_numbers.new.page c.put_curve.new.page
    (three c.args.page.now o v n c.put_opening.new.page c.put_verdict.new.page c.put_numbers.new.page
    c.in_ok-put_opening.ensures c.in_ok-put_verdict.ensures c.in_ok-put_numbers.ensures)
    c.in_ok-put_curve.ensures
