use Rattle.std.proofs.Common.{arith}
use Rattle.html_page.proofs.TreeTexts.{all_put}
use Rattle.suite_page.specs.believed.LeftOut.{item_tree}
use Rattle.suite_page.proofs.left_out.put_items.Goals as goal

pub returns : goal.returns
returns c =
    all_put item_tree (λ item. item.items) c.args.texts.now c.loop-text.text-index c.args.page.now c.loop-text.page c.loop-text.invariant
    (omega (arith, c.loop-text-test.false))
