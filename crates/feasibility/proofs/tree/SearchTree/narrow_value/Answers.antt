use Rattle.std.proofs.Common.{◌∙◌, ◌&&◌, Bool, sym, ap}
use Rattle.cov_model.specs.believed.Rows.{with_value}
use Rattle.feasibility.specs.Live.{no_on}
use Rattle.feasibility.proofs.NarrowedSets.{narrowed_keep, narrowed_take}
use Rattle.feasibility.proofs.tree.SearchTree.narrow_value.Goals as goal

pub returns-then-not-is_live-clause-narrowed : goal.returns-then-not-is_live-clause-narrowed
returns-then-not-is_live-clause-narrowed c =
    let m = c.args.self.now.model in
    narrowed_keep m c.args.rule c.args.q c.args.w c.args.cells.now c.args.sets.now c.requires.shape
    (ap (λ (b : Bool). b && no_on m (with_value c.args.cells.now c.args.q c.args.w) c.args.rule) (sym c.is_live.ensures ∙ c.if-not-is_live.true))

pub returns-then-is_no_with-clause-narrowed : goal.returns-then-is_no_with-clause-narrowed
returns-then-is_no_with-clause-narrowed c =
    let m = c.args.self.now.model in
    narrowed_take m c.args.rule c.args.q c.args.w c.args.cells.now c.args.sets.now c.take_away.new.self c.requires.parameter c.requires.value
    c.requires.shape (sym c.is_live.ensures ∙ c.if-not-is_live.false) (sym c.is_no_with.ensures.broken ∙ c.if-is_no_with.true) c.take_away.ensures

pub returns-else-is_no_with-clause-narrowed : goal.returns-else-is_no_with-clause-narrowed
returns-else-is_no_with-clause-narrowed c =
    let m = c.args.self.now.model in
    narrowed_keep m c.args.rule c.args.q c.args.w c.args.cells.now c.args.sets.now c.requires.shape
    (ap (λ (b : Bool). b && no_on m (with_value c.args.cells.now c.args.q c.args.w) c.args.rule) (sym c.is_live.ensures ∙ c.if-not-is_live.false)
    ∙ sym c.is_no_with.ensures.broken ∙ c.if-is_no_with.false)
