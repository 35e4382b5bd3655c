use Rattle.std.proofs.Common.{◌≡◌, ◌∙◌, ◌++◌, ◌∷◌, [], ℕ, map, length, ap, sym, arith}
use Rattle.std.specs.List.{range_with_len}
use Rattle.std.proofs.lemmas.Grind.{common_steps}
use Rattle.std.proofs.lemmas.List.FromFn.{map-range_with_len_more}
use Rattle.tuple_index.specs.Places.{values_in}
use Rattle.ipog_grow.proofs.order.value_counts.Goals as goal

pub loop-p-preserved : goal.loop-p-preserved
loop-p-preserved c =
    let numbers : ℕ → ℕ = λ p. length (values_in c.args.plan.now c.args.slice p) in
    let pushed : c.push.new.self.items ≡ c.loop-p.counts.items ++ c.value_count.result ∷ [] = grind (arith, common_steps) in
    pushed ∙ ap (λ list. list ++ c.value_count.result ∷ []) c.loop-p.invariant
    ∙ ap (λ n. map numbers (range_with_len 0 c.loop-p.p) ++ n ∷ []) c.value_count.ensures
    ∙ sym (map-range_with_len_more numbers 0 c.loop-p.p c.loop-p.p (omega arith))
