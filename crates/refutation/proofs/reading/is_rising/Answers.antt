use Rattle.std.proofs.Common.{◌-◌, drop, ◌∙◌, sym, arith}
use Rattle.std.proofs.lemmas.List.{length-drop}
use Rattle.refutation.proofs.WordLemmas.{rising_last}
use Rattle.refutation.proofs.reading.is_rising.Goals as goal

pub returns : goal.returns
returns c =
    sym (c.loop-i.invariant ∙ rising_last (drop (c.loop-i.i - 1) c.args.pairs.now) (omega (arith, length-drop (c.loop-i.i - 1) c.args.pairs.now)))
