use Rattle.std.proofs.Common.{[], ◌∷◌}
use Rattle.std.specs.Prelude.{decimal}
use Rattle.html_page.specs.believed.Pieces.{Text}
use Rattle.html_page.proofs.TreeTexts.{behind}
use Rattle.suite_page.proofs.section.put_counted.Goals as goal

pub returns : goal.returns
returns c =
    behind (Text (decimal c.args.number) ∷ []) (Text c.args.words.now ∷ []) c.args.page.now c.put_number.new.page c.put.new.self
    c.in_ok-put_number.ensures c.in_ok-put.ensures
