use Rattle.std.proofs.Common.{[], ◌∷◌}
use Rattle.html_page.specs.believed.Pieces.{Start, End}
use Rattle.html_page.specs.believed.Trees.{followed_by}
use Rattle.html_page.specs.declared.tag.Tag.TheVariants as tag
use Rattle.html_page.proofs.TreeTexts.{around, tree_behind}
use Rattle.suite_page.specs.believed.Verdicts.{heading_tree, reason_tree}
use Rattle.suite_page.proofs.verdict.put_verdict.Goals as goal

pub returns : goal.returns
returns c =
    let heading = heading_tree c.args.name.now in
    let reason = reason_tree c.args.accepted c.args.verdict.now c.args.remark.now in
    around (Start tag.Header [] ∷ []) (followed_by heading reason) (End tag.Header ∷ []) c.args.page.now c.put.new.self c.put_reason.new.page c.put-2.new.self
    c.in_ok-put.ensures
    (tree_behind heading reason c.put.new.self c.put_heading.new.page c.put_reason.new.page c.in_ok-put_heading.ensures c.in_ok-put_reason.ensures)
    c.in_ok-put-2.ensures
