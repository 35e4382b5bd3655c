use Rattle.std.proofs.Common.{◌≡◌, ◌∷◌, [], ℕ, true, false, arith, length}
use Rattle.std.proofs.lemmas.Grind.{common_steps}
use Rattle.cov_model.specs.believed.Rows.{with_value}
use Rattle.model_lint.specs.believed.Tests.{no_values}
use Rattle.model_findings.specs.believed.Comparisons.{is_for_some, is_so}
use Rattle.model_lint.proofs.Steps.{found_here, none_here}
use Rattle.model_findings.proofs.comparing.Asked.is_for_some.Goals as goal

pub returns-then-is_so-clause-is : goal.returns-then-is_so-clause-is
returns-then-is_so-clause-is c =
    let here : is_so c.args.self.now.model.now c.args.self.now.term.now c.args.self.now.truth (with_value (no_values c.args.self.now.model.now) c.args.p c.loop-v.v) ≡ true = first_of (cc, grind (arith, common_steps)) in
    found_here (λ (v : ℕ). is_so c.args.self.now.model.now c.args.self.now.term.now c.args.self.now.truth (with_value (no_values c.args.self.now.model.now) c.args.p v)) (is_for_some c.args.self.now.model.now (c.args.p ∷ []) (is_so c.args.self.now.model.now c.args.self.now.term.now c.args.self.now.truth) (no_values c.args.self.now.model.now)) c.loop-v.v c.value_count-count.result c.loop-v-test.true c.loop-v.invariant.2 here

pub loop-v-preserved : goal.loop-v-preserved
loop-v-preserved c =
    let here : is_so c.args.self.now.model.now c.args.self.now.term.now c.args.self.now.truth (with_value (no_values c.args.self.now.model.now) c.args.p c.loop-v.v) ≡ false = first_of (cc, grind (arith, common_steps)) in
    let long : length c.set_cell.new.self ≡ length c.args.self.now.model.now.params = first_of (cc, grind (arith, common_steps)) in
    (c.loop-v.invariant.0, long, none_here (λ (v : ℕ). is_so c.args.self.now.model.now c.args.self.now.term.now c.args.self.now.truth (with_value (no_values c.args.self.now.model.now) c.args.p v)) (is_for_some c.args.self.now.model.now (c.args.p ∷ []) (is_so c.args.self.now.model.now c.args.self.now.term.now c.args.self.now.truth) (no_values c.args.self.now.model.now)) c.loop-v.v c.value_count-count.result c.loop-v-test.true c.loop-v.invariant.2 here)
