use Rattle.std.proofs.Common.{◌≡◌, ◌∙◌, ◌^◌, ◌-◌, length, sym, ap, subst}
use Rattle.cov_model.specs.believed.Sound.{ModelView}
use Rattle.cov_model.specs.declared.slice.Slice.{Slice}
use Rattle.cov_model.specs.declared.slice.Slice.TheVariants.{Positive}
use Rattle.cov_model.specs.believed.Slices.{slice_of}
use Rattle.definitions.specs.believed.Completion.{is_extendable}
use Rattle.definitions.specs.believed.Covering.{IsUnserved}
use Rattle.cov_model.specs.believed.Tuples.{cells_of}
use Rattle.definitions.specs.believed.Search.{plain_cost}
use Rattle.definitions.specs.SliceRows.{IsOfSlice}
use Rattle.feasibility.specs.Answers.{answer_of}
use Rattle.feasibility.specs.Solving.{SolverView}
use Rattle.refute_tests.proofs.UnservedTuples.{positive_slice, unserved}
use Rattle.refute_tests.proofs.refuted.refuted_by.Goals as goal

pub refute-requires-clause-of : goal.refute-requires-clause-of
refute-requires-clause-of c =
    let m = c.args.model.now in
    let model = ap (λ (s : SolverView). s.model) c.ask.ensures.same ∙ c.requires.model in
    let slice = ap (λ (s : SolverView). s.slice) c.ask.ensures.same ∙ c.requires.slice in
    subst (λ (s : Slice). IsOfSlice c.ask.new.self.model s (cells_of (length c.ask.new.self.model.params) c.args.tuple.now)) (sym slice)
    (subst (λ (n : ModelView). IsOfSlice n Positive (cells_of (length n.params) c.args.tuple.now)) (sym model)
    (subst (IsOfSlice m Positive) c.in_ok-row.ensures (c.is_positive_row.ensures c.if-not-is_positive_row.false)))

pub refute-requires-clause-slice : goal.refute-requires-clause-slice
refute-requires-clause-slice c =
    let m = c.args.model.now in
    let model = ap (λ (s : SolverView). s.model) c.ask.ensures.same ∙ c.requires.model in
    let slice = ap (λ (s : SolverView). s.slice) c.ask.ensures.same ∙ c.requires.slice in
    let of : IsOfSlice m Positive (cells_of (length m.params) c.args.tuple.now) =
    subst (IsOfSlice m Positive) c.in_ok-row.ensures (c.is_positive_row.ensures c.if-not-is_positive_row.false) in
    subst (λ (n : ModelView). slice_of n (cells_of (length n.params) c.args.tuple.now) ≡ c.ask.new.self.slice) (sym model)
    (positive_slice m (cells_of (length m.params) c.args.tuple.now) of ∙ sym slice)

pub refute-requires-clause-unserved : goal.refute-requires-clause-unserved
refute-requires-clause-unserved c =
    let m = c.args.model.now in
    let row = c.in_ok-row.row in
    let of : IsOfSlice m Positive row = c.is_positive_row.ensures c.if-not-is_positive_row.false in
    let before : SolverView = c.args.solver.now in
    let cost = plain_cost before.model before.prefs before.slice row in
    let told : c.ask.result ≡ answer_of (is_extendable m Positive row) cost (2 ^ 64 - 1) =
    c.ask.ensures.answer
    ∙ ap (λ b. answer_of b cost (2 ^ 64 - 1))
    (ap (λ n. is_extendable n before.slice row) c.requires.model ∙ ap (λ s. is_extendable m s row) c.requires.slice) in
    subst (λ (n : ModelView). IsUnserved n (cells_of (length n.params) c.args.tuple.now))
    (sym (ap (λ (s : SolverView). s.model) c.ask.ensures.same ∙ c.requires.model))
    (subst (IsUnserved m) c.in_ok-row.ensures (unserved m row cost (2 ^ 64 - 1) c.ask.result of told c.in-No.is))
