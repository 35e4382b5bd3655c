use Rattle.std.proofs.Common.{[], ◌∷◌, map, codes}
use Rattle.html_page.specs.believed.Pieces.{End}
use Rattle.html_page.specs.believed.Trees.{all_of}
use Rattle.html_page.specs.declared.tag.Tag.TheVariants as tag
use Rattle.html_page.proofs.TreeTexts.{around}
use Rattle.suite_page.specs.Sections.{section_opening}
use Rattle.suite_page.specs.believed.Verdicts.{sentence_tree}
use Rattle.suite_page.proofs.verdict.put_numbers.Goals as goal

pub returns : goal.returns
returns c =
    around (section_opening (codes "Numbers")) (all_of sentence_tree (map (λ sentence. sentence.now) c.args.sentences.now)) (End tag.Section ∷ [])
    c.args.page.now c.put_section.new.page c.put_sentences.new.page c.put.new.self
    c.in_ok-put_section.ensures c.in_ok-put_sentences.ensures c.in_ok-put.ensures
