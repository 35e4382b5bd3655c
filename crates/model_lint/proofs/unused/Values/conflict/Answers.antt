use Rattle.std.proofs.Common.{◌≡◌, false, sym, ◌∙◌}
use Rattle.std.proofs.lemmas.Bool.{false_from_ne_true, false≢true}
use Rattle.definitions.specs.believed.Completion.{is_extendable}
use Rattle.definitions.proofs.SliceValues.{slice_exists}
use Rattle.model_lint.specs.believed.Tests.{has_test}
use Rattle.model_lint.proofs.SliceTests.{slice_test}
use Rattle.model_lint.proofs.Steps.{ok_also}
use Rattle.model_lint.proofs.unused.Values.conflict.Goals as goal

pub returns-clause-none : goal.returns-clause-none
returns-clause-none g c =
    let m = c.args.self.now.model.now in
    let none : has_test m c.args.cells.now ≡ false = sym c.in_ok-is_in_test.ensures.found ∙ c.if-branch.false in
    let stuck : is_extendable m c.args.slice c.args.cells.now ≡ false =
    false_from_ne_true (is_extendable m c.args.slice c.args.cells.now)
    (λ extends. false≢true (sym none ∙ slice_test m c.args.slice c.args.cells.now (slice_exists m c.args.slice c.requires.slice) extends)) in
    ok_also c.conflict_of.result (λ found is. is ∙ stuck ∙ sym none) c.conflict_of.ensures.none
