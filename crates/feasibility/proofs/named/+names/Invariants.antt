use Rattle.std.proofs.Common.{◌≡◌, false, take}
use Rattle.std.specs.List.{list_any}
use Rattle.cov_model.specs.Views.{pred_view}
use Rattle.definitions.specs.believed.Demand.{is_among}
use Rattle.definitions.specs.believed.Search.{pred_params}
use Rattle.feasibility.proofs.named.+names.Given as goal

abbrev pub invariant-some_names-loop-part : goal.invariant-some_names-loop-part
invariant-some_names-loop-part l = list_any (λ part. is_among (pred_params (pred_view part)) l.p) (take l.part-index l.parts) ≡ false
