use Rattle.std.proofs.Common.{[], codes}
use Rattle.html_page.specs.believed.Trees.{followed_by}
use Rattle.html_page.proofs.TreeTexts.{tree_behind}
use Rattle.suite_page.specs.believed.Pictures.{label_tree, tests_label, total_label}
use Rattle.suite_page.proofs.picture.put_labels.Goals as goal

pub returns : goal.returns
returns c =
    let page = c.args.page.now in
    let one = label_tree (codes "50") (codes "200") (codes "start") (codes "covered combinations") [] in
    let two = total_label c.args.picture.now.total in
    let three = label_tree (codes "50") (codes "2100") (codes "start") (codes "0") [] in
    let four = tests_label c.args.picture.now.tests in
    tree_behind (followed_by (followed_by one two) three) four page c.put_label-2.new.page c.put_tests.new.page
    (tree_behind (followed_by one two) three page c.put_total.new.page c.put_label-2.new.page
    (tree_behind one two page c.put_label.new.page c.put_total.new.page c.in_ok-put_label.ensures c.in_ok-put_total.ensures)
    c.in_ok-put_label-2.ensures)
    c.in_ok-put_tests.ensures
