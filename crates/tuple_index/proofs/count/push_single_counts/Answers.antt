use Rattle.std.proofs.Common.{[], ◌∷◌, ◌++◌, ℕ, Bool, not, arith, ◌≡◌, ◌∙◌, sym, ap}
use Rattle.std.specs.List.{list_any}
use Rattle.std.proofs.lemmas.Grind.{common_steps}
use Rattle.definitions.specs.believed.Demand.{is_among}
use Rattle.tuple_index.proofs.ChoiceLemmas.{single_found, single_passed}
use Rattle.tuple_index.proofs.count.push_single_counts.Goals.{then-is_single+in_ok-push, else-is_single}
use Rattle.tuple_index.proofs.count.push_single_counts.Goals as goal

pub loop-p-preserved : goal.loop-p-preserved
loop-p-preserved c =
    let one : ℕ → ℕ = λ p. 1 in
    let test : ℕ → Bool = λ p. not (list_any (λ sub. is_among sub.members p) c.args.model.now.demand.subs) in (
      c.loop-p.invariant.0,
      elim c.if-is_single.branch [
        | then-is_single+in_ok-push w ↦
            let pushed : c.if-is_single.into.items ≡ c.loop-p.into.items ++ 1 ∷ [] = grind (arith, common_steps) in
            single_found test one c.loop-p.p c.len-count.result c.loop-p.into.items c.if-is_single.into.items _ c.loop-p-test.true
            (sym c.is_single.ensures ∙ w.if-is_single.true)
            pushed c.loop-p.invariant.1
        | else-is_single w ↦
            single_passed test one c.loop-p.p c.len-count.result c.loop-p.into.items c.if-is_single.into.items _ c.loop-p-test.true
            (sym c.is_single.ensures ∙ w.if-is_single.false)
            (ap (λ v. v.items) w.into-is) c.loop-p.invariant.1
      ],
    )
