use Rattle.std.proofs.Common.{cond, Some, None, ◌∙◌, sym, ap, arith}
use Rattle.std.specs.Prelude.{option_and_then}
use Rattle.refutation.specs.Checking.{has_rule}
use Rattle.refutation.proofs.LeafLemmas.{has_rule_range}
use Rattle.refutation.proofs.ReadingLemmas.{narrowed}
use Rattle.refutation.proofs.spelling.Spelling.read_rule.Goals as goal

pub returns-in_err-number : goal.returns-in_err-number
returns-in_err-number c =
    let m = c.args.self.now.model in
    c.from_residual.ensures ∙ ap (option_and_then (λ n. cond (has_rule m n) (Some n) None)) c.in_err-number.ensures
    ∙ sym (narrowed (has_rule m) c.args.text.now (λ k has. let range = has_rule_range m k c.model-model.ensures.sound has in omega (arith, range.1, c.model-model.ensures.sound.few_rules)))
