use Rattle.std.proofs.Common.{◌≡◌, List, ℕ, Option, arith, subst}
use Rattle.std.specs.Prelude.{IfSome}
use Rattle.std.proofs.lemmas.Grind.{common_steps}
use Rattle.model_lint.specs.believed.Tests.{IsConflict, value_alone}
use Rattle.model_lint.proofs.Explained.{one_more}
use Rattle.model_lint.proofs.unused.Values.add_value.Goals as goal

pub returns-in_ok-push-clause-explained : goal.returns-in_ok-push-clause-explained
returns-in_ok-push-clause-explained g c =
    let m = c.args.self.now.model.now in
    let alone : c.set_cell.new.self ≡ value_alone m (c.args.p, c.args.v) = first_of (cc, grind (arith, common_steps)) in
    let conflict : IsConflict m c.slice_with-slice.result c.set_cell.new.self c.in-Some.constraints =
    subst (λ (found : Option (List ℕ)). IfSome found (IsConflict m c.slice_with-slice.result c.set_cell.new.self)) c.in-Some.is c.in_ok-constraints.ensures.conflict in
    one_more m c.args.list.now c.push.new.self c.args.p c.args.v c.slice_with-slice.result c.set_cell.new.self c.in-Some.constraints
    c.slice_with-slice.ensures.is alone conflict c.requires.explained c.in_ok-push.ensures.ok
