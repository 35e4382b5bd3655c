use Rattle.std.proofs.Common.{◌≡◌, ◌++◌, take}
use Rattle.std.specs.List.{flat_map}
use Rattle.html_page.specs.Trees.{content_text}
use Rattle.suite_page.specs.believed.LeftOut.{item_tree}
use Rattle.suite_page.proofs.left_out.put_items.Given as goal

abbrev pub invariant-loop-text : goal.invariant-loop-text
invariant-loop-text l = l.page ≡ l.fn.page ++ flat_map (λ item. content_text (item_tree item.items)) (take l.text-index l.texts)
