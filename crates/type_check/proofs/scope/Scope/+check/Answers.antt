use Rattle.std.proofs.Common.{rules, arith}
use Rattle.std.proofs.lemmas.Grind.{common_steps}
use Rattle.constraint_ast.specs.Trees.{trees_in}
use Rattle.constraint_ast.proofs.Parts.{each_is, either_is}
use Rattle.type_check.proofs.Refusals.{each_of, either_of, next_part, part_refused}
use Rattle.type_check.proofs.scope.Scope.+check.Goals as goal

pub preds-returns-in_err-pred-clause-err : goal.preds-returns-in_err-pred-clause-err
preds-returns-in_err-pred-clause-err t c =
    let told = part_refused c.args.self.now.fold c.args.self.now.params.now c.args.parts.now c.loop-part.part-index c.part-item.result c.loop-part.preds c.in_err-pred.field-0.0
    (omega arith) c.part-item.is c.loop-part.invariant c.in_err-pred.ensures.err in
    search rules

pub preds-loop-part-preserved : goal.preds-loop-part-preserved
preds-loop-part-preserved t c =
    next_part c.args.self.now.fold c.args.self.now.params.now c.args.parts.now c.loop-part.part-index c.part-item.result c.loop-part.preds c.push.new.self c.in_ok-pred.field-0
    (omega arith) c.part-item.is c.loop-part.invariant c.in_ok-pred.ensures.ok c.in_ok-pred.ensures.unrefused c.in_ok-push.ensures.ok

pub pred-returns-in_err-preds-in-All-clause-err : goal.pred-returns-in_err-preds-in-All-clause-err
pred-returns-in_err-preds-in-All-clause-err t c = let e = each_is c.in-All.parts in first_of (search rules, grind (arith, common_steps))

pub pred-returns-in_err-preds-in-Any-clause-err : goal.pred-returns-in_err-preds-in-Any-clause-err
pred-returns-in_err-preds-in-Any-clause-err t c = let e = either_is c.in-Any.parts in first_of (search rules, grind (arith, common_steps))

pub pred-returns-in_ok-preds-in-All-clause-ok : goal.pred-returns-in_ok-preds-in-All-clause-ok
pred-returns-in_ok-preds-in-All-clause-ok t c =
    let e = each_is c.in-All.parts in
    let is = each_of c.args.self.now.fold c.args.self.now.params.now (trees_in c.in-All.parts) c.in_ok-preds-in-All.field-0 in
    grind (arith, common_steps)

pub pred-returns-in_ok-preds-in-Any-clause-ok : goal.pred-returns-in_ok-preds-in-Any-clause-ok
pred-returns-in_ok-preds-in-Any-clause-ok t c =
    let e = either_is c.in-Any.parts in
    let is = either_of c.args.self.now.fold c.args.self.now.params.now (trees_in c.in-Any.parts) c.in_ok-preds-in-Any.field-0 in
    grind (arith, common_steps)

pub pred-returns-in_ok-preds-in-All-clause-unrefused : goal.pred-returns-in_ok-preds-in-All-clause-unrefused
pred-returns-in_ok-preds-in-All-clause-unrefused t c = let e = each_is c.in-All.parts in first_of (search rules, grind (arith, common_steps))

pub pred-returns-in_ok-preds-in-Any-clause-unrefused : goal.pred-returns-in_ok-preds-in-Any-clause-unrefused
pred-returns-in_ok-preds-in-Any-clause-unrefused t c = let e = either_is c.in-Any.parts in first_of (search rules, grind (arith, common_steps))
