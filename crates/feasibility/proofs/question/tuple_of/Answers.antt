use Rattle.std.proofs.Common.{◌≡◌, ◌<◌, length, ℕ, [], ◌∷◌, ◌++◌, Option, ◌∙◌, sym, ap, subst, take, arith}
use Rattle.std.proofs.lemmas.Grind.{common_steps}
use Rattle.cov_model.specs.Tuples.{IsRising}
use Rattle.definitions.specs.believed.Pairs.{pairs_of}
use Rattle.definitions.proofs.PairLists.{pair_at, pairs_of-more, pairs_of-rise}
use Rattle.std.proofs.lemmas.List.{append-nil, take_all}
use Rattle.feasibility.proofs.question.tuple_of.Goals as goal
use Rattle.feasibility.proofs.question.tuple_of.Goals.{in-Some+in_ok-push, in_default}

pub loop-p-preserved : goal.loop-p-preserved
loop-p-preserved c =
    let within : c.loop-p.p < length c.args.cells.now = omega (arith, c.loop-p-test.true, c.loop-p.invariant.0) in
    let more = pairs_of-more c.args.cells.now c.loop-p.p within in (
      c.loop-p.invariant.0,
      elim c.match-get.branch [
        | in-Some+in_ok-push w ↦
            let pushed : w.push.new.self.items ≡ c.loop-p.pairs.items ++ (c.loop-p.p, w.in-Some.v) ∷ [] = grind (arith, common_steps) in
            ap (λ pairs. pairs.items) w.pairs-is ∙ pushed
            ∙ ap (λ pairs. pairs ++ (c.loop-p.p, w.in-Some.v) ∷ []) c.loop-p.invariant.1
            ∙ sym (more ∙ ap (λ (cell : Option ℕ). pairs_of (take c.loop-p.p c.args.cells.now) ++ pair_at c.loop-p.p cell) (sym c.get.ensures ∙ w.in-Some.is))
        | in_default w ↦ ap (λ pairs. pairs.items) w.pairs-is ∙ c.loop-p.invariant.1
            ∙ sym (more ∙ ap (λ (cell : Option ℕ). pairs_of (take c.loop-p.p c.args.cells.now) ++ pair_at c.loop-p.p cell)
            (sym c.get.ensures ∙ w.in_default.is) ∙ append-nil (pairs_of (take c.loop-p.p c.args.cells.now)))
      ],
    )

pub of-requires : goal.of-requires
of-requires c = subst IsRising (sym (c.as_slice.ensures.value ∙ c.loop-p.invariant.1
    ∙ ap pairs_of (take_all c.loop-p.p c.args.cells.now (omega (arith, c.loop-p-test.false, c.loop-p.invariant.0))))) (pairs_of-rise c.args.cells.now)
