use Rattle.std.proofs.Common.{[], ◌∷◌, ◌++◌, map, codes}
use Rattle.std.specs.Prelude.{decimal}
use Rattle.html_page.specs.believed.Pieces.{Start, End, Text}
use Rattle.html_page.specs.believed.Trees.{all_of}
use Rattle.html_page.specs.declared.tag.Tag.TheVariants as tag
use Rattle.html_page.proofs.TreeTexts.{around, behind}
use Rattle.suite_page.specs.believed.LeftOut.{item_tree, of_constraints, opened}
use Rattle.suite_page.specs.LeftOut.{summary_opening}
use Rattle.suite_page.proofs.left_out.put_group_opening.Goals as goal

pub returns : goal.returns
returns c =
    let first = Start tag.Details opened ∷ Start tag.Summary [] ∷ Text (codes "Combinations left out: ") ∷ [] in
    let number = Text (decimal c.args.count) ∷ [] in
    let last = End tag.Summary ∷ Start tag.Ul of_constraints ∷ [] in
    around (summary_opening c.args.count) (all_of item_tree (map (λ text. text.items) c.args.constraints.now)) (End tag.Ul ∷ Start tag.Ul [] ∷ [])
    c.args.page.now c.put-2.new.self c.put_items.new.page c.put-3.new.self
    (behind (first ++ number) last c.args.page.now c.put_number.new.page c.put-2.new.self
    (behind first number c.args.page.now c.put.new.self c.put_number.new.page c.in_ok-put.ensures c.in_ok-put_number.ensures)
    c.in_ok-put-2.ensures)
    c.in_ok-put_items.ensures c.in_ok-put-3.ensures
