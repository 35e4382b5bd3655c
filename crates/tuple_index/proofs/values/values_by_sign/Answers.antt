use Rattle.std.proofs.Common.{List, ℕ, ◌∷◌, ◌++◌, [], map, take, get_or, sym, ◌∙◌, ap, ap₂, arith}
use Rattle.std.proofs.lemmas.List.{map-append, take_all, take_more}
use Rattle.cov_model.specs.declared.parameter.Param.{Param}
use Rattle.tuple_index.specs.Signs.{values_of_sign}
use Rattle.tuple_index.proofs.values.values_by_sign.Goals as goal

pub loop-param-preserved : goal.loop-param-preserved
loop-param-preserved c =
    let values : Param → List ℕ = λ param. values_of_sign c.args.negative param.values in
    let params = c.as_slice-param-items.result.now in
    let at = c.loop-param.param-index in
    let param = c.param-item.result in
    let list = c.in_ok-list.ensures ∙ ap (values_of_sign c.args.negative) c.as_slice.ensures ∙ ap values c.param-item.is in
    ap (map (λ list. list.items)) c.in_ok-push.ensures.items ∙ map-append (λ list. list.items) c.loop-param.lists.items (c.in_ok-list.list ∷ [])
    ∙ ap₂ (λ (front : List (List ℕ)) (last : List ℕ). front ++ last ∷ []) c.loop-param.invariant list
    ∙ sym (ap (map values) (take_more params at param c.loop-param-test.true) ∙ map-append values (take at params) (get_or params at param ∷ []))

pub returns : goal.returns
returns c =
    let values : Param → List ℕ = λ param. values_of_sign c.args.negative param.values in
    c.loop-param.invariant ∙ ap (map values) (take_all c.loop-param.param-index c.as_slice-param-items.result.now (omega arith))
    ∙ ap (map values) (c.as_slice-param-items.ensures ∙ c.params.ensures.value)
