use Rattle.std.proofs.Common.{[], ◌∷◌, ◌++◌, ℕ, arith, ◌≡◌, ◌∙◌, sym, ap}
use Rattle.std.proofs.lemmas.List.{map-id}
use Rattle.std.proofs.lemmas.Grind.{common_steps}
use Rattle.definitions.specs.believed.Demand.{is_among, rising}
use Rattle.tuple_index.proofs.ChoiceLemmas.{single_found, single_passed, single_end}
use Rattle.tuple_index.proofs.values.listed_params.Goals.{then-is_listed+in_ok-push, else-is_listed}
use Rattle.tuple_index.proofs.values.listed_params.Goals as goal

pub loop-p-preserved : goal.loop-p-preserved
loop-p-preserved c =
    let same : ℕ → ℕ = λ p. p in (
      c.loop-p.invariant.0,
      elim c.if-is_listed.branch [
        | then-is_listed+in_ok-push w ↦
            let pushed : c.if-is_listed.set.items ≡ c.loop-p.set.items ++ c.loop-p.p ∷ [] = grind (arith, common_steps) in
            single_found (is_among c.args.choice.now) same c.loop-p.p c.len-count.result c.loop-p.set.items c.if-is_listed.set.items _ c.loop-p-test.true
            (sym c.is_listed.ensures ∙ w.if-is_listed.true) pushed c.loop-p.invariant.1
        | else-is_listed w ↦
            single_passed (is_among c.args.choice.now) same c.loop-p.p c.len-count.result c.loop-p.set.items c.if-is_listed.set.items _ c.loop-p-test.true
            (sym c.is_listed.ensures ∙ w.if-is_listed.false) (ap (λ v. v.items) w.set-is) c.loop-p.invariant.1
      ],
    )

pub returns : goal.returns
returns c =
    let same : ℕ → ℕ = λ p. p in
    single_end (is_among c.args.choice.now) same c.loop-p.p c.len-count.result c.loop-p.set.items _ c.loop-p-test.false c.loop-p.invariant.1
    ∙ map-id (rising c.args.model.now c.args.choice.now)
