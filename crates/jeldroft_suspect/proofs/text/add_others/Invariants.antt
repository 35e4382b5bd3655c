use Rattle.std.proofs.Common.{◌≡◌, ◌++◌, take}
use Rattle.jeldroft_suspect.specs.believed.SuspectsText.{others_text}
use Rattle.jeldroft_suspect.proofs.text.add_others.Given as goal

abbrev pub invariant-loop-pair : goal.invariant-loop-pair
invariant-loop-pair l = l.into.items ≡ l.fn.into.items ++ others_text l.model (take l.pair-index l.pairs)
