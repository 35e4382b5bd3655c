use Rattle.std.proofs.Common.{arith, ap, sym, subst, length, map, take, All, ◌<◌, ◌≡◌, ◌++◌, ◌∷◌, [], ◌∙◌}
use Rattle.std.proofs.lemmas.Grind.{common_steps}
use Rattle.std.proofs.lemmas.List.{map_more}
use Rattle.tuple_index.specs.Places.{tuple_count}
use Rattle.tuple_index.specs.believed.PlanFault.{saturated}
use Rattle.tuple_index.proofs.LoopLemmas.{exist_at, told_size}
use Rattle.tuple_index.proofs.plan.Plan.sizes_of.Goals as goal

pub count_tuples-count-requires : goal.count_tuples-count-requires
count_tuples-count-requires c =
    let within : c.loop-i.i < length c.args.sets.now = omega (arith, c.loop-i-test.true, c.loop-i.auto.i-end, c.len-i-end.ensures) in
    let e = length c.args.self.now.positives in
    subst (All (λ q. q < e)) (sym c.list.ensures) (exist_at e c.args.sets.now c.loop-i.i within c.requires.rising)

pub overflow_cast-count : goal.overflow_cast-count
overflow_cast-count c =
    let within : c.loop-i.i < length c.args.sets.now = omega (arith, c.loop-i-test.true, c.loop-i.auto.i-end, c.len-i-end.ensures) in
    let exact = told_size (tuple_count c.args.self.now) c.args.sets.now c.loop-i.i [] c.count_tuples-count.result within c.requires.within
    (c.count_tuples-count.ensures ∙ ap (λ set. saturated (tuple_count c.args.self.now set)) c.list.ensures) in
    omega (arith, exact.1)

pub loop-i-preserved : goal.loop-i-preserved
loop-i-preserved c =
    let within : c.loop-i.i < length c.args.sets.now = omega (arith, c.loop-i-test.true, c.loop-i.auto.i-end, c.len-i-end.ensures) in
    let exact = told_size (tuple_count c.args.self.now) c.args.sets.now c.loop-i.i [] c.count_tuples-count.result within c.requires.within
    (c.count_tuples-count.ensures ∙ ap (λ set. saturated (tuple_count c.args.self.now set)) c.list.ensures) in
    let pushed : c.push.new.self.items ≡ c.loop-i.sizes.items ++ c.count_tuples-count.result ∷ [] = grind (arith, common_steps) in
    pushed ∙ ap (λ sizes. sizes ++ c.count_tuples-count.result ∷ []) c.loop-i.invariant
    ∙ ap (λ n. map (tuple_count c.args.self.now) (take c.loop-i.i c.args.sets.now) ++ n ∷ []) exact.0
    ∙ sym (map_more (tuple_count c.args.self.now) c.args.sets.now c.loop-i.i [] within)
