use Rattle.std.proofs.Common.{◌≡◌, ◌+◌, ◌<◌, ◌++◌, ◌∷◌, ◌∙◌, ℕ, Bool, All, [], cond, get_or, length, take, sym, ap, subst, arith, rules, append-nil}
use Rattle.std.specs.List.{filter}
use Rattle.std.proofs.lemmas.List.{take_all, take_more}
use Rattle.std.proofs.lemmas.List.Elements.{All-get_or, filter-append}
use Rattle.cov_model.specs.believed.Slices.{slice_values}
use Rattle.cov_model.specs.believed.Sound.{param_at}
use Rattle.definitions.specs.believed.Demand.{is_among}
use Rattle.feasibility.proofs.values.preferred.Goals as goal
use Rattle.feasibility.proofs.values.preferred.Goals.{then-is_in_slice+in_ok-push, else-is_in_slice}

pub is_in_slice-requires-clause-value : goal.is_in_slice-requires-clause-value
is_in_slice-requires-clause-value c =
    let exists = λ (v : ℕ). v < length (param_at c.args.model.now.params c.args.p).values in
    All-get_or exists c.of-v-items.result.now c.loop-v.v-index 0 c.loop-v-test.true
    (subst (All exists) (sym c.of-v-items.ensures) (c.requires.orders.exist c.args.p c.requires.parameter))

pub loop-v-preserved : goal.loop-v-preserved
loop-v-preserved c =
    let test = is_among (get_or (slice_values c.args.model.now c.args.slice) c.args.p []) in
    let values = c.of-v-items.result.now in
    let v = get_or values c.loop-v.v-index 0 in
    let done = filter test (take c.loop-v.v-index values) in
    let more : filter test (take (c.loop-v.v-index + 1) values) ≡ done ++ cond (test v) (v ∷ []) [] =
    ap (filter test) (take_more values c.loop-v.v-index 0 c.loop-v-test.true) ∙ filter-append test (take c.loop-v.v-index values) (v ∷ []) in
    elim c.if-is_in_slice.branch [
      | then-is_in_slice+in_ok-push w ↦
          let pushed : c.if-is_in_slice.list.items ≡ c.loop-v.list.items ++ v ∷ [] = search rules in
          pushed ∙ ap (λ list. list ++ v ∷ []) c.loop-v.invariant
          ∙ sym (more ∙ ap (λ (b : Bool). done ++ cond b (v ∷ []) []) (sym c.is_in_slice.ensures ∙ w.if-is_in_slice.true))
      | else-is_in_slice w ↦
          ap (λ list. list.items) w.list-is ∙ c.loop-v.invariant ∙ sym (append-nil done)
          ∙ sym (more ∙ ap (λ (b : Bool). done ++ cond b (v ∷ []) []) (sym c.is_in_slice.ensures ∙ w.if-is_in_slice.false))
    ]

pub returns : goal.returns
returns c =
    c.loop-v.invariant
    ∙ ap (filter (is_among (get_or (slice_values c.args.model.now c.args.slice) c.args.p [])))
    (take_all c.loop-v.v-index c.of-v-items.result.now (omega (arith, c.loop-v-test.false)) ∙ c.of-v-items.ensures)
