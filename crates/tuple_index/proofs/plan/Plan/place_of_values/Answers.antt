use Rattle.std.proofs.Common.{ℕ, ◌+◌, ◌∙◌, ap}
use Rattle.cov_model.specs.declared.slice.Slice.{Slice}
use Rattle.tuple_index.specs.Places.{place, start_of, values_in}
use Rattle.tuple_index.specs.believed.PlanFault.{saturated}
use Rattle.tuple_index.proofs.SaturatedLemmas.{saturated-both}
use Rattle.tuple_index.proofs.plan.Plan.place_of_values.Goals as goal

pub returns : goal.returns
returns c =
    let start : Slice → ℕ = start_of c.args.self.now c.args.members.now in
    let inside : Slice → ℕ = λ s. place (values_in c.args.self.now s) c.args.members.now c.args.values.now in
    let at : Slice = c.given_slice-slice.result in
    c.saturating_add.ensures
    ∙ ap (λ n. saturated (n + c.place.result)) c.start.ensures
    ∙ ap (λ n. saturated (saturated (start at) + n)) c.place.ensures
    ∙ saturated-both (start at) (inside at)
    ∙ ap (λ s. saturated (start s + inside s)) c.given_slice-slice.ensures.value
