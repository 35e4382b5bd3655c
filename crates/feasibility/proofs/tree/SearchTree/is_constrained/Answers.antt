use Rattle.std.proofs.Common.{◌≡◌, ◌||◌, ◌==◌, ◌∙◌, ℕ, List, sym, ap, arith, get_or, eq-eqb}
use Rattle.std.proofs.lemmas.Bool.{ne_eqb}
use Rattle.std.proofs.lemmas.List.{take_all}
use Rattle.std.proofs.lemmas.List.Folds.{list_any_at, list_any_more}
use Rattle.definitions.specs.believed.Demand.{is_among}
use Rattle.definitions.specs.believed.Search.{constrained_params}
use Rattle.feasibility.specs.declared.constrained.Constrained.{Constrained}
use Rattle.feasibility.proofs.tree.SearchTree.is_constrained.Goals as goal

pub returns-then-named-q : goal.returns-then-named-q
returns-then-named-q c =
    let params = constrained_params c.args.self.now.model in
    let here : get_or params c.loop-i.i 0 ≡ c.args.q =
    sym (ap (λ (entry : Constrained). entry.param) c.constrained_at-named.ensures) ∙ c.if-named-q.true in
    sym (list_any_at (λ k. k == c.args.q) params c.loop-i.i 0 (omega (arith, c.loop-i-test.true, c.loop-i.invariant.0))
    (eq-eqb (get_or params c.loop-i.i 0) c.args.q here))

pub loop-i-preserved : goal.loop-i-preserved
loop-i-preserved c =
    let params = constrained_params c.args.self.now.model in
    let apart : get_or params c.loop-i.i 0 ≡ c.args.q → ⊥ =
    λ here. c.if-named-q.false (ap (λ (entry : Constrained). entry.param) c.constrained_at-named.ensures ∙ here) in (
      c.loop-i.invariant.0,
      list_any_more (λ k. k == c.args.q) params c.loop-i.i 0 (omega (arith, c.loop-i-test.true, c.loop-i.invariant.0))
          ∙ ap (λ found. found || (get_or params c.loop-i.i 0 == c.args.q)) c.loop-i.invariant.1 ∙ ne_eqb (get_or params c.loop-i.i 0) c.args.q apart,
    )

pub returns : goal.returns
returns c =
    sym (ap (λ (params : List ℕ). is_among params c.args.q)
    (sym (take_all c.loop-i.i (constrained_params c.args.self.now.model) (omega (arith, c.loop-i-test.false, c.loop-i.invariant.0)))) ∙ c.loop-i.invariant.1)
