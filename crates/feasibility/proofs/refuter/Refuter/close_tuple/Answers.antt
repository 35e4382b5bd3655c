use Rattle.std.proofs.Common.{◌≡◌, ◌∷◌, ◌∙◌, [], ℕ, sym, ap, subst}
use Rattle.std.specs.Result.{OnOk}
use Rattle.definitions.specs.believed.Search.{Outcome, constrained_params, visit}
use Rattle.feasibility.specs.Refuting.{Closes}
use Rattle.feasibility.proofs.Deciding.{fails_stays}
use Rattle.feasibility.proofs.Paths.{failure_stays}
use Rattle.feasibility.proofs.Visits.{failing_outcome}
use Rattle.feasibility.proofs.refuter.Refuter.close_tuple.Goals as goal

pub close_failing-requires-clause-why : goal.close_failing-requires-clause-why
close_failing-requires-clause-why c =
    let r = c.args.self.now in
    failure_stays r.model r.lists c.args.cells.now c.args.sets.now c.requires.path.fits.as_long c.requires.listed c.requires.path.fits
    (c.requires.ready.why c.if-fails.true)

pub returns-then-fails-clause-closes : goal.returns-then-fails-clause-closes
returns-then-fails-clause-closes c =
    let r = c.args.self.now in
    let one : (visit r.model r.lists (constrained_params r.model) c.args.cells.now).cost ≡ 1 =
    ap (λ (outcome : Outcome). outcome.cost)
    (failing_outcome r.model r.lists (constrained_params r.model) c.args.cells.now
    (fails_stays r.model r.lists c.args.cells.now c.requires.path.fits.as_long c.requires.listed (sym c.requires.ready.fails ∙ c.if-fails.true))) in
    subst (λ (most : ℕ). OnOk c.close_failing.result (Closes r (c.args.cells.now ∷ []) most c.args.tokens.now c.close_failing.new.tokens)) (sym one)
    c.close_failing.ensures.closes
