use Rattle.std.proofs.Common.{◌≡◌, ◌++◌, ◌∷◌, ◌∙◌, Bool, [], true, false, cond, length, map, sym, ap, arith, append-nil}
use Rattle.std.proofs.lemmas.Grind.{common_steps}
use Rattle.feasibility.specs.Tree.{is_named, naming, undecided_by}
use Rattle.feasibility.proofs.Naming.{named_some}
use Rattle.feasibility.proofs.constrained.put_named.Goals as goal

pub returns-then-is_empty-clause-list : goal.returns-then-is_empty-clause-list
returns-then-is_empty-clause-list c =
    let m = c.args.rules.now in
    let numbers : c.in_ok-numbers.numbers.items ≡ naming m c.args.p = c.in_ok-numbers.ensures ∙ ap (λ k. naming k c.args.p) c.model.ensures.value in
    let unnamed : is_named m c.args.p ≡ false =
    (named_some m c.args.p).1 (grind (arith, common_steps, ap length numbers, c.if-is_empty.true, c.is_empty.ensures)) in
    sym (append-nil c.args.list.now.items)
    ∙ ap (λ (b : Bool). c.args.list.now.items ++ map (undecided_by m) (cond b (c.args.p ∷ []) [])) (sym unnamed)

pub returns-clause-list : goal.returns-clause-list
returns-clause-list c =
    let m = c.args.rules.now in
    let numbers : c.in_ok-numbers.numbers.items ≡ naming m c.args.p = c.in_ok-numbers.ensures ∙ ap (λ k. naming k c.args.p) c.model.ensures.value in
    let named : is_named m c.args.p ≡ true =
    (named_some m c.args.p).0 (grind (arith, common_steps, ap length numbers, c.if-is_empty.false, c.is_empty.ensures)) in
    c.in_ok-push.ensures.items
    ∙ ap (λ lists. c.args.list.now.items ++ record { param = c.args.p; undecided = lists } ∷ []) c.in_ok-undecided.ensures.lists
    ∙ ap (λ (b : Bool). c.args.list.now.items ++ map (undecided_by m) (cond b (c.args.p ∷ []) [])) (sym named)
