use Rattle.std.proofs.Common.{◌≡◌, ◌++◌, take}
use Rattle.std.specs.List.{flat_map}
use Rattle.html_page.specs.Trees.{content_text}
use Rattle.suite_page.specs.believed.Verdicts.{sentence_tree}
use Rattle.suite_page.proofs.verdict.put_sentences.Given as goal

abbrev pub invariant-loop-sentence : goal.invariant-loop-sentence
invariant-loop-sentence l = l.page ≡ l.fn.page ++ flat_map (λ item. content_text (sentence_tree item.now)) (take l.sentence-index l.sentences)
