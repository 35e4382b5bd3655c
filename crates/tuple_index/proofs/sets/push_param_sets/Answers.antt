use Rattle.std.proofs.Common.{◌≡◌, ◌++◌, OnOk, List, ℕ, min, map, length, ◌∙◌, sym, ap, subst, arith}
use Rattle.std.proofs.lemmas.Grind.{common_steps}
use Rattle.cov_model.specs.believed.Valid.{param_numbers}
use Rattle.definitions.specs.believed.Demand.{choose, rising}
use Rattle.tuple_index.proofs.PlainLemmas.{choices_plain}
use Rattle.tuple_index.proofs.sets.push_param_sets.Goals as goal

pub returns : goal.returns
returns c =
    let m = c.args.model.now in
    let long : c.in_ok-params.params.len ≡ length (param_numbers m) = c.in_ok-params.params.ok.0 ∙ ap length c.in_ok-params.ensures in
    let count : c.min-count.result ≡ min m.demand.order (length (param_numbers m)) = grind (arith, common_steps, long) in
    let listed : c.deref.result.now ≡ param_numbers m = c.deref.ensures.value ∙ c.in_ok-params.ensures in
    subst (λ sets. OnOk c.push_choices.result (c.push_choices.new.sets ≡ c.args.sets.now ++ sets))
    (ap (λ (taken : List ℕ). map (λ rest. rising m (taken ++ rest)) (choose c.min-count.result c.deref.result.now)) c.new.ensures.items
    ∙ ap (λ params. map (rising m) (choose c.min-count.result params)) listed
    ∙ ap (λ k. map (rising m) (choose k (param_numbers m))) count
    ∙ ap (map (rising m)) (sym (choices_plain m c.requires))) c.push_choices.ensures.sets
