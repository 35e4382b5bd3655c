use Rattle.std.proofs.Common.{ℕ, List, [], ◌∷◌, ◌++◌, ◌∙◌, ap, codes}
use Rattle.html_page.specs.believed.Pieces.{Piece, Start, End, Text, pieces_text}
use Rattle.html_page.specs.declared.attribute.AttributeName.TheVariants as attribute
use Rattle.html_page.specs.declared.tag.Tag.TheVariants as tag
use Rattle.html_page.proofs.TreeTexts.{around, behind}
use Rattle.suite_page.specs.Sections.{section_opening}
use Rattle.suite_page.specs.believed.Pictures.{caption, drawing, given}
use Rattle.suite_page.specs.Seen.{picture_seen}
use Rattle.suite_page.proofs.picture.put_picture.Goals as goal

pub returns : goal.returns
returns c =
    let first = section_opening (codes "Coverage") in
    let image =
    Start tag.Figure []
    ∷ Start tag.Svg (given attribute.ViewBox (codes "0 0 3300 2150") ∷ given attribute.Role (codes "img") ∷ given attribute.AriaLabelledBy (codes "picture-title picture-text") ∷ []) ∷ [] in
    let picture = picture_seen c.args.picture.now in
    let last : List ℕ → List Piece = λ words.
    End tag.Svg ∷ Start tag.Figcaption [] ∷ Text words
    ∷ End tag.Figcaption ∷ End tag.Figure ∷ End tag.Section ∷ [] in
    around (first ++ image) (drawing picture) (last (caption picture.is_known)) c.args.page.now c.put.new.self c.put_drawing.new.page c.put-2.new.self
    (behind first image c.args.page.now c.put_section.new.page c.put.new.self c.in_ok-put_section.ensures c.in_ok-put.ensures)
    c.in_ok-put_drawing.ensures (c.in_ok-put-2.ensures ∙ ap (λ words. c.put_drawing.new.page ++ pieces_text (last words)) c.caption.ensures)
