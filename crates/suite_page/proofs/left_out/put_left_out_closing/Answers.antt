use Rattle.std.proofs.Common.{[], ◌∷◌}
use Rattle.html_page.specs.believed.Pieces.{End}
use Rattle.html_page.specs.believed.Trees.{pieces_of}
use Rattle.html_page.specs.declared.tag.Tag.TheVariants as tag
use Rattle.html_page.proofs.TreeTexts.{behind}
use Rattle.suite_page.specs.believed.LeftOut.{more_combinations}
use Rattle.suite_page.proofs.left_out.put_left_out_closing.Goals as goal

pub returns : goal.returns
returns c =
    behind (pieces_of (more_combinations c.args.more)) (End tag.Section ∷ []) c.args.page.now c.put_more.new.page c.put.new.self
    c.in_ok-put_more.ensures c.in_ok-put.ensures
