use Rattle.std.proofs.Common.{arith}
use Rattle.html_page.proofs.TreeTexts.{all_put}
use Rattle.suite_page.specs.believed.Verdicts.{sentence_tree}
use Rattle.suite_page.proofs.verdict.put_sentences.Goals as goal

pub returns : goal.returns
returns c =
    all_put sentence_tree (λ item. item.now) c.args.sentences.now c.loop-sentence.sentence-index c.args.page.now c.loop-sentence.page c.loop-sentence.invariant
    (omega (arith, c.loop-sentence-test.false))
