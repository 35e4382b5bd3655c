use Rattle.std.proofs.Common.{[], ◌∷◌, ◌++◌, ◌∙◌, ap, codes}
use Rattle.std.specs.Prelude.{decimal}
use Rattle.html_page.specs.believed.Pieces.{Start, End, Text, Title, pieces_text}
use Rattle.html_page.specs.declared.attribute.AttributeName.TheVariants as attribute
use Rattle.html_page.specs.declared.tag.Tag.TheVariants as tag
use Rattle.html_page.proofs.TreeTexts.{behind}
use Rattle.suite_page.specs.believed.Sections.{words_for}
use Rattle.suite_page.specs.believed.Pictures.{given, total_words}
use Rattle.suite_page.proofs.picture.put_description.Goals as goal

pub returns : goal.returns
returns c =
    let picture = c.args.picture.now in
    let page = c.args.page.now in
    let name = Title (given attribute.Id (codes "picture-title") ∷ []) (codes "Covered combinations by number of tests") in
    let start = Start tag.Desc (given attribute.Id (codes "picture-text") ∷ []) in
    let covered = words_for picture.tests (codes " test covers ") (codes " tests cover ") in
    let all = total_words picture.is_known picture.total in
    let one = Text (decimal picture.tests) ∷ Text covered ∷ [] in
    let two = Text (decimal picture.covered) ∷ Text (codes " of ") ∷ [] in
    let three = Text (decimal picture.total) ∷ Text all ∷ [] in
    behind ((((name ∷ start ∷ []) ++ one) ++ two) ++ three) (End tag.Desc ∷ []) page c.put_counted-3.new.page c.put-3.new.self
    (behind (((name ∷ start ∷ []) ++ one) ++ two) three page c.put_counted-2.new.page c.put_counted-3.new.page
    (behind ((name ∷ start ∷ []) ++ one) two page c.put_counted.new.page c.put_counted-2.new.page
    (behind (name ∷ start ∷ []) one page c.put-2.new.self c.put_counted.new.page
    (behind (name ∷ []) (start ∷ []) page c.put.new.self c.put-2.new.self c.in_ok-put.ensures c.in_ok-put-2.ensures)
    (c.in_ok-put_counted.ensures ∙ ap (λ w. c.put-2.new.self ++ pieces_text (Text (decimal picture.tests) ∷ Text w ∷ [])) c.words_for-covered.ensures))
    c.in_ok-put_counted-2.ensures)
    (c.in_ok-put_counted-3.ensures ∙ ap (λ w. c.put_counted-2.new.page ++ pieces_text (Text (decimal picture.total) ∷ Text w ∷ [])) c.total_words-all.ensures))
    c.in_ok-put-3.ensures
