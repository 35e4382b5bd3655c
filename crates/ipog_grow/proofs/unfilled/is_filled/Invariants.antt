use Rattle.std.proofs.Common.{◌≡◌, true, take}
use Rattle.std.specs.List.{list_all}
use Rattle.cov_model.specs.believed.Rows.{is_assigned}
use Rattle.ipog_grow.proofs.unfilled.is_filled.Given as goal

-- the parameters so far have values
abbrev pub invariant-loop-p : goal.invariant-loop-p
invariant-loop-p l = list_all (is_assigned l.row) (take l.p-index l.columns) ≡ true
