use Rattle.jeldroft_lint.proofs.Tokens.{adds_both, adds_last}
use Rattle.jeldroft_lint.proofs.objects.put_subject.Goals as goal

pub returns : goal.returns
returns c = adds_last _ _ _ _ _ _ (adds_both _ _ _ _ _ c.in_ok-put_optional.ensures c.in_ok-put_optional-2.ensures) c.put_constraints.ensures
