use Rattle.std.proofs.Common.{◌≡◌, ◌∷◌, [], ℕ, true, false, arith, length}
use Rattle.std.proofs.lemmas.Grind.{common_steps}
use Rattle.cov_model.specs.believed.Rows.{with_value}
use Rattle.model_lint.specs.believed.Tests.{no_values}
use Rattle.model_findings.specs.believed.Comparisons.{is_for_some, is_so}
use Rattle.model_lint.proofs.Steps.{found_here, none_here}
use Rattle.model_findings.proofs.comparing.Asked.is_with_some.Goals as goal

pub returns-then-is_so-clause-is : goal.returns-then-is_so-clause-is
returns-then-is_so-clause-is c =
    let here : is_so c.args.self.now.model.now c.args.self.now.term.now c.args.self.now.truth (with_value (with_value (no_values c.args.self.now.model.now) c.args.p c.args.v) c.args.q c.loop-w.w) ≡ true = first_of (cc, grind (arith, common_steps)) in
    found_here (λ (w : ℕ). is_so c.args.self.now.model.now c.args.self.now.term.now c.args.self.now.truth (with_value (with_value (no_values c.args.self.now.model.now) c.args.p c.args.v) c.args.q w)) (is_for_some c.args.self.now.model.now (c.args.q ∷ []) (is_so c.args.self.now.model.now c.args.self.now.term.now c.args.self.now.truth) (with_value (no_values c.args.self.now.model.now) c.args.p c.args.v)) c.loop-w.w c.value_count-count.result c.loop-w-test.true c.loop-w.invariant.2 here

pub loop-w-preserved : goal.loop-w-preserved
loop-w-preserved c =
    let here : is_so c.args.self.now.model.now c.args.self.now.term.now c.args.self.now.truth (with_value (with_value (no_values c.args.self.now.model.now) c.args.p c.args.v) c.args.q c.loop-w.w) ≡ false = first_of (cc, grind (arith, common_steps)) in
    let long : length c.set_cell-in-loop-w.new.self ≡ length c.args.self.now.model.now.params = first_of (cc, grind (arith, common_steps)) in
    (c.loop-w.invariant.0, long, none_here (λ (w : ℕ). is_so c.args.self.now.model.now c.args.self.now.term.now c.args.self.now.truth (with_value (with_value (no_values c.args.self.now.model.now) c.args.p c.args.v) c.args.q w)) (is_for_some c.args.self.now.model.now (c.args.q ∷ []) (is_so c.args.self.now.model.now c.args.self.now.term.now c.args.self.now.truth) (with_value (no_values c.args.self.now.model.now) c.args.p c.args.v)) c.loop-w.w c.value_count-count.result c.loop-w-test.true c.loop-w.invariant.2 here)
