use Rattle.jeldroft_lint.proofs.Tokens.{adds_both, adds_last}
use Rattle.jeldroft_lint.proofs.objects.put_place.Goals as goal

pub returns : goal.returns
returns c = adds_last _ _ _ _ _ _ (adds_both _ _ _ _ _ c.in_ok-put_member.ensures c.in_ok-put_number.ensures) c.put_number-2.ensures
