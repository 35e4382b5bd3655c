use Rattle.std.proofs.Common.{[], ◌∙◌, not, sym, ap, get_or}
use Rattle.cov_model.specs.declared.slice.Slice.{Slice}
use Rattle.cov_model.specs.believed.Slices.{slice_values}
use Rattle.definitions.specs.believed.Demand.{is_among}
use Rattle.definitions.proofs.SliceValues.{slice_positive, slice_other, slice_fixed}
use Rattle.feasibility.proofs.values.is_in_slice.Goals as goal

pub returns-in-Positive : goal.returns-in-Positive
returns-in-Positive c =
    ap not c.is_negative.ensures ∙ slice_positive c.args.model.now c.args.p c.args.v c.requires.parameter c.requires.value
    ∙ ap (λ (s : Slice). is_among (get_or (slice_values c.args.model.now s) c.args.p []) c.args.v) (sym c.in-Positive.is)

pub returns-then-fixed-p : goal.returns-then-fixed-p
returns-then-fixed-p c =
    slice_fixed c.args.model.now c.in-Negative.fixed c.in-Negative.w c.args.p c.args.v c.if-fixed-p.true c.requires.parameter
    ∙ ap (λ (s : Slice). is_among (get_or (slice_values c.args.model.now s) c.args.p []) c.args.v) (sym c.in-Negative.is)

pub returns-else-fixed-p : goal.returns-else-fixed-p
returns-else-fixed-p c =
    ap not c.is_negative-in-Negative.ensures
    ∙ slice_other c.args.model.now c.in-Negative.fixed c.in-Negative.w c.args.p c.args.v c.if-fixed-p.false c.requires.parameter c.requires.value
    ∙ ap (λ (s : Slice). is_among (get_or (slice_values c.args.model.now s) c.args.p []) c.args.v) (sym c.in-Negative.is)
