use Rattle.std.proofs.Common.{arith, refl}
use Rattle.cov_model.proofs.SoundLemmas.{seen_sound}
use Rattle.cov_model.proofs.model.TestModel.eval.Goals as goal

pub body_truth-requires-clause-sound : goal.body_truth-requires-clause-sound
body_truth-requires-clause-sound c =
    seen_sound c.args.self.now c.rules.result.now c.as_slice.result.now _ _ c.index-as_slice-rule.result c.rules.ensures.sound c.rules.ensures.value c.as_slice.ensures
    (omega (arith, c.requires.first, c.requires.last)) refl
