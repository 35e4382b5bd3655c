use Rattle.std.proofs.Common.{arith}
use Rattle.std.proofs.lemmas.Bool.{eqb-true}
use Rattle.suite_shrink.proofs.WithinLemmas.{word_within}
use Rattle.suite_shrink.proofs.comparing.is_word_within.Goals as goal

pub returns : goal.returns
returns c =
    λ none. word_within c.args.inner.now c.args.outer.now c.args.from c.args.count c.marks_from.result c.marks_from-2.result (omega arith) c.requires.few
    c.marks_from.ensures c.marks_from-2.ensures (eqb-true _ 0 none)
