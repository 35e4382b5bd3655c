use Rattle.std.proofs.Common.{◌≡◌, ◌∙◌, sym, ap, arith}
use Rattle.feasibility.specs.declared.constrained.Constrained.{Constrained}
use Rattle.feasibility.specs.Tree.{undecided_by}
use Rattle.feasibility.proofs.Naming.{has_undecided, undecided_none}
use Rattle.feasibility.proofs.tree.SearchTree.undecided.Goals as goal

pub list-requires : goal.list-requires
list-requires c =
    let m = c.args.self.now.model in
    let is : c.constrained_at-named.result.now ≡ undecided_by m c.args.q =
    c.constrained_at-named.ensures
    ∙ ap (undecided_by m) (sym (ap (λ (entry : Constrained). entry.param) c.constrained_at-named.ensures) ∙ c.if-named-q.true) in
    (has_undecided m c.args.q c.args.v c.constrained_at-named.result.now c.assert_invariant.ensures.sound is c.requires.value).within

pub returns-then-named-q : goal.returns-then-named-q
returns-then-named-q c =
    let m = c.args.self.now.model in
    let is : c.constrained_at-named.result.now ≡ undecided_by m c.args.q =
    c.constrained_at-named.ensures
    ∙ ap (undecided_by m) (sym (ap (λ (entry : Constrained). entry.param) c.constrained_at-named.ensures) ∙ c.if-named-q.true) in
    c.list.ensures ∙ (has_undecided m c.args.q c.args.v c.constrained_at-named.result.now c.assert_invariant.ensures.sound is c.requires.value).list

pub returns : goal.returns
returns c =
    undecided_none c.args.self.now.model c.args.q c.args.v c.requires.parameter
    (λ k within. c.loop-i.invariant.1 k (omega (arith, within, c.loop-i.invariant.0)))
