use Rattle.std.proofs.Common.{ap, sym, ◌∙◌}
use Rattle.constraint_ast.specs.believed.RuleText.{all_has_parens, any_has_parens, tree_before, trees_before}
use Rattle.constraint_ast.specs.Trees.{tree_of, trees_in}
use Rattle.constraint_ast.specs.Writing.{closed_if, line_with, opened_if}
use Rattle.constraint_ast.specs.declared.token.RuleToken.TheVariants.{And, Or}
use Rattle.constraint_ast.specs.declared.writer.Place.TheVariants.{InAllOrNot, InAny}
use Rattle.constraint_ast.proofs.Parts.{each_is, either_is}
use Rattle.constraint_ast.proofs.Written.{ends, parens_are}
use Rattle.constraint_ast.proofs.writer.+write.Goals as goal

pub put_pred-returns-in_ok-put_parts-in-All : goal.put_pred-returns-in_ok-put_parts-in-All
put_pred-returns-in_ok-put_parts-in-All t c =
    let parts = trees_in c.in-All.parts in
    let parens = c.all_has_parens-parens.result in
    let old = c.args.line.now in
    ends c.put_close.result old c.put_parts.new.line c.put_close.new.line (tree_before c.args.place (tree_of c.args.pred.now)) (closed_if parens)
    (λ rest.
    ap (λ tree. line_with old (tree_before c.args.place tree rest)) (ap tree_of c.in-All.is ∙ each_is c.in-All.parts)
    ∙ (ap (λ tokens. line_with old tokens) (parens_are (all_has_parens c.args.place) (λ rest. trees_before And InAllOrNot parts rest) rest)
    ∙ (ap (λ parens. line_with old (opened_if parens (trees_before And InAllOrNot parts (closed_if parens rest)))) (sym c.all_has_parens-parens.ensures)
    ∙ (c.in_ok-put_open-in-All.ensures (trees_before And InAllOrNot parts (closed_if parens rest))
    ∙ (ap (λ list. line_with c.put_open.new.line (trees_before And InAllOrNot (trees_in list) (closed_if parens rest))) (sym c.as_slice.ensures)
    ∙ c.in_ok-put_parts-in-All.ensures (closed_if parens rest))))))
    c.put_close.ensures

pub put_pred-returns-in_ok-put_parts-in-Any : goal.put_pred-returns-in_ok-put_parts-in-Any
put_pred-returns-in_ok-put_parts-in-Any t c =
    let parts = trees_in c.in-Any.parts in
    let parens = c.any_has_parens-parens.result in
    let old = c.args.line.now in
    ends c.put_close-in-Any.result old c.put_parts-in-Any.new.line c.put_close-in-Any.new.line (tree_before c.args.place (tree_of c.args.pred.now)) (closed_if parens)
    (λ rest.
    ap (λ tree. line_with old (tree_before c.args.place tree rest)) (ap tree_of c.in-Any.is ∙ either_is c.in-Any.parts)
    ∙ (ap (λ tokens. line_with old tokens) (parens_are (any_has_parens c.args.place) (λ rest. trees_before Or InAny parts rest) rest)
    ∙ (ap (λ parens. line_with old (opened_if parens (trees_before Or InAny parts (closed_if parens rest)))) (sym c.any_has_parens-parens.ensures)
    ∙ (c.in_ok-put_open-in-Any.ensures (trees_before Or InAny parts (closed_if parens rest))
    ∙ (ap (λ list. line_with c.put_open-in-Any.new.line (trees_before Or InAny (trees_in list) (closed_if parens rest))) (sym c.as_slice-in-Any.ensures)
    ∙ c.in_ok-put_parts-in-Any.ensures (closed_if parens rest))))))
    c.put_close-in-Any.ensures
