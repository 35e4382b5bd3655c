use Rattle.std.proofs.Common.{◌≡◌, ◌<◌, ◌++◌, ◌∷◌, [], ◌-◌, ◌+◌, List, ℕ, get_or, map, drop, vec_len, ◌∙◌, ap, arith, append_assoc}
use Rattle.std.proofs.lemmas.Grind.{common_steps}
use Rattle.std.proofs.lemmas.List.{take_rest}
use Rattle.definitions.specs.believed.Demand.{choose, rising}
use Rattle.tuple_index.proofs.ListingLemmas.{map_same}
use Rattle.tuple_index.proofs.ChoiceLemmas.{made_step, made_end, taken_off}
use Rattle.tuple_index.proofs.sets.+push_choices.Goals as goal

pub loop-i-preserved : goal.loop-i-preserved
loop-i-preserved t c =
    let taken : List ℕ = c.args.taken.now.items in
    let item : ℕ = get_or c.args.items.now c.loop-i.i 0 in
    let set : List ℕ → List ℕ = λ rest. rising c.args.model.now (taken ++ rest) in
    let later : List (List ℕ) = choose (c.args.k - 1) (drop (c.loop-i.i + 1) c.args.items.now) in
    let some : 0 < c.args.k = omega (arith, c.if-k-eq0.false) in
    let pushed : c.push.new.self.items ≡ c.loop-i.taken.items ++ item ∷ [] = grind (arith, common_steps) in
    let longer : c.push.new.self.items ≡ taken ++ item ∷ [] = pushed ∙ ap (λ xs. xs ++ item ∷ []) c.loop-i.invariant.0 in (
      taken_off taken c.push_choices.new.taken.items c.pop.new.self.items item (vec_len c.push_choices.new.taken)
          (c.in_ok-push_choices.ensures.taken ∙ longer) c.push_choices.new.taken.ok.0 c.pop.ensures.rest,
      made_step set c.args.k c.loop-i.i c.args.items.now 0 c.loop-i.sets c.push_choices.new.sets _ some (omega arith)
          (c.in_ok-push_choices.ensures.sets
          ∙ ap (λ ys. c.loop-i.sets ++ map (λ rest. rising c.args.model.now (c.push.new.self.items ++ rest)) (choose (c.args.k - 1) ys))
          (take_rest c.args.items.now (c.loop-i.i + 1))
          ∙ ap (λ xs. c.loop-i.sets ++ map (λ rest. rising c.args.model.now (xs ++ rest)) later) longer
          ∙ ap (λ ys. c.loop-i.sets ++ ys) (map_same (λ rest. rising c.args.model.now ((taken ++ item ∷ []) ++ rest)) (λ rest. set (item ∷ rest)) later
          (λ rest. ap (rising c.args.model.now) (append_assoc taken (item ∷ []) rest))))
          c.loop-i.invariant.1,
    )

pub returns-clause-sets : goal.returns-clause-sets
returns-clause-sets t c =
    let set : List ℕ → List ℕ = λ rest. rising c.args.model.now (c.args.taken.now.items ++ rest) in
    let some : 0 < c.args.k = omega (arith, c.if-k-eq0.false) in
    made_end set c.args.k c.loop-i.i c.args.items.now c.loop-i.sets _ some (omega arith) c.loop-i.invariant.1
