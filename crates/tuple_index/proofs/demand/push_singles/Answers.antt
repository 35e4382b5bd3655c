use Rattle.std.proofs.Common.{[], ◌∷◌, List, ℕ, Bool, not, arith, ◌∙◌, sym}
use Rattle.std.specs.List.{list_any}
use Rattle.std.proofs.lemmas.Grind.{common_steps}
use Rattle.definitions.specs.believed.Demand.{is_among}
use Rattle.tuple_index.proofs.ChoiceLemmas.{single_found, single_passed}
use Rattle.tuple_index.proofs.demand.push_singles.Goals.{then-is_single+in_ok-single_way+in_ok-push, else-is_single}
use Rattle.tuple_index.proofs.demand.push_singles.Goals as goal

pub loop-p-preserved : goal.loop-p-preserved
loop-p-preserved c =
    let alone : ℕ → List (List ℕ) = λ p. (p ∷ []) ∷ [] in
    let test : ℕ → Bool = λ p. not (list_any (λ sub. is_among sub.members p) c.args.model.now.demand.subs) in (
      c.loop-p.invariant.0,
      elim c.if-is_single.branch [
        | then-is_single+in_ok-single_way+in_ok-push w ↦
            single_found test alone c.loop-p.p c.len-count.result c.loop-p.into c.if-is_single.into _ c.loop-p-test.true
            (sym c.is_single.ensures ∙ w.if-is_single.true)
            (grind (arith, common_steps)) c.loop-p.invariant.1
        | else-is_single w ↦
            single_passed test alone c.loop-p.p c.len-count.result c.loop-p.into c.if-is_single.into _ c.loop-p-test.true
            (sym c.is_single.ensures ∙ w.if-is_single.false)
            w.into-is c.loop-p.invariant.1
      ],
    )
