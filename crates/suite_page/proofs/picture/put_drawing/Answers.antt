use Rattle.std.proofs.Common.{◌++◌, ◌∙◌, ap}
use Rattle.html_page.specs.Trees.{content_text}
use Rattle.html_page.specs.believed.Trees.{followed_by}
use Rattle.html_page.proofs.TreeTexts.{tree_behind}
use Rattle.suite_page.specs.believed.Pictures.{axes, curve_tree, description, labels, points_text}
use Rattle.suite_page.specs.Seen.{picture_seen}
use Rattle.suite_page.proofs.picture.put_drawing.Goals as goal

pub returns : goal.returns
returns c =
    let picture = picture_seen c.args.picture.now in
    let page = c.args.page.now in
    let one = description picture in
    let curve = curve_tree (points_text picture) in
    tree_behind (followed_by (followed_by one axes) curve) (labels picture) page c.put_curve.new.page c.put_labels.new.page
    (tree_behind (followed_by one axes) curve page c.put_axes.new.page c.put_curve.new.page
    (tree_behind one axes page c.put_description.new.page c.put_axes.new.page c.in_ok-put_description.ensures c.in_ok-put_axes.ensures)
    (c.in_ok-put_curve.ensures ∙ ap (λ points. c.put_axes.new.page ++ content_text (curve_tree points)) c.requires))
    c.in_ok-put_labels.ensures
