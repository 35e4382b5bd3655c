use Rattle.std.proofs.Common.{◌≡◌, ℕ, List, [], ◌∙◌, sym, ap, subst, get_or, IfOk}
use Rattle.cov_model.specs.declared.slice.Slice.{Slice}
use Rattle.cov_model.specs.declared.slice.Slice.TheVariants.{Negative}
use Rattle.cov_model.specs.believed.Slices.{slice_values}
use Rattle.cov_model.proofs.CellLemmas.{slice_values-other, slice_values-own, slice_values-positive}
use Rattle.feasibility.proofs.values.declared.Goals as goal

pub returns-in-Positive : goal.returns-in-Positive
returns-in-Positive c =
    subst (λ (values : List ℕ). IfOk c.positives.result (λ list. list.items ≡ values))
    (sym (ap (λ (s : Slice). get_or (slice_values c.args.model.now s) c.args.p []) c.in-Positive.is
    ∙ slice_values-positive c.args.model.now c.args.p c.requires))
    c.positives.ensures

pub returns-then-fixed-p : goal.returns-then-fixed-p
returns-then-fixed-p c =
    subst (λ (values : List ℕ). IfOk c.one_value.result (λ list. list.items ≡ values))
    (sym (ap (λ (s : Slice). get_or (slice_values c.args.model.now s) c.args.p []) c.in-Negative.is
    ∙ ap (λ (q : ℕ). get_or (slice_values c.args.model.now (Negative q c.in-Negative.w)) c.args.p []) c.if-fixed-p.true
    ∙ slice_values-own c.args.model.now c.args.p c.in-Negative.w c.requires))
    c.one_value.ensures

pub returns-else-fixed-p : goal.returns-else-fixed-p
returns-else-fixed-p c =
    subst (λ (values : List ℕ). IfOk c.positives-in-Negative.result (λ list. list.items ≡ values))
    (sym (ap (λ (s : Slice). get_or (slice_values c.args.model.now s) c.args.p []) c.in-Negative.is
    ∙ slice_values-other c.args.model.now c.in-Negative.fixed c.in-Negative.w c.args.p c.requires (λ e. c.if-fixed-p.false (sym e))))
    c.positives-in-Negative.ensures
