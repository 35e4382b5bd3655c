-- Parts in a row are the texts of trees.
use Rattle.std.proofs.Common.{◌≡◌, ℕ, List, [], ◌∷◌, ◌++◌, ◌∙◌, refl, sym, ap, codes, append_assoc}
use Rattle.std.proofs.lemmas.List.Concat.{flat_map-cons}
use Rattle.std.specs.List.{flat_map}
use Rattle.html_page.specs.believed.Pieces.{Piece, Start, End, pieces_text}
use Rattle.html_page.specs.believed.Trees.{Content, all_of, followed_by, page_text, pieces_of}
use Rattle.html_page.specs.Trees.{content_text}
use Rattle.html_page.specs.declared.tag.Tag.TheVariants as tag
use Rattle.html_page.proofs.TreeTexts.{no_pieces, pieces_behind, pieces_followed, text_followed, text_of_all}
use Rattle.suite_page.specs.believed.Document.{Suite, document_tree, left_out, suite_tree}
use Rattle.suite_page.specs.Document.{closing, opening}
use Rattle.suite_page.specs.Laws.{PagesAreWhole, group_parts, left_out_parts, tests_parts}
use Rattle.suite_page.specs.believed.LeftOut.{Group, group_tree, item_tree, more_combinations}
use Rattle.suite_page.specs.LeftOut.{group_closing, group_opening, left_out_closing, left_out_opening}
use Rattle.suite_page.specs.Sections.{section_opening}
use Rattle.suite_page.specs.believed.Pictures.{picture_tree}
use Rattle.suite_page.specs.believed.TestsTable.{Test, name_tree, test_tree, tests_tree, more_tests}
use Rattle.suite_page.specs.TestsTable.{tests_closing, tests_opening, table_opening}
use Rattle.suite_page.specs.believed.Verdicts.{numbers_tree, verdict_tree}

-- three texts behind another
pub three : (before a b z one two now : List ℕ) → one ≡ before ++ a → two ≡ one ++ b → now ≡ two ++ z → now ≡ before ++ (a ++ b ++ z)
three before a b z one two now begins goes_on ends =
    ends ∙ ap (λ bytes. bytes ++ z) (goes_on ∙ ap (λ bytes. bytes ++ b) begins)
    ∙ append_assoc (before ++ a) b z ∙ append_assoc before a (b ++ z) ∙ ap (λ bytes. before ++ bytes) (sym (append_assoc a b z))

pub two_behind : (before a b one now : List ℕ) → one ≡ before ++ a → now ≡ one ++ b → now ≡ before ++ (a ++ b)
two_behind before a b one now begins ends = ends ∙ ap (λ bytes. bytes ++ b) begins ∙ append_assoc before a b

-- pieces, trees for items, and pieces
row_of : {X : Type 0} (tree : X → Content) (items : List X) (first last : List Piece)
    → pieces_text first ++ flat_map (λ item. content_text (tree item)) items ++ pieces_text last ≡ pieces_text ((first ++ pieces_of (all_of tree items)) ++ last)
row_of tree items first last =
    ap (λ bytes. pieces_text first ++ bytes ++ pieces_text last) (sym (text_of_all tree items))
    ∙ ap (λ bytes. bytes ++ pieces_text last) (sym (pieces_behind first (pieces_of (all_of tree items))))
    ∙ sym (pieces_behind (first ++ pieces_of (all_of tree items)) last)

-- names, tests and what follows, in a row and as they stand in the table
nested : (names tests more : List Piece) (row head body end_body table div section : Piece)
    → ((names ++ row ∷ head ∷ body ∷ []) ++ tests) ++ (end_body ∷ table ∷ div ∷ (more ++ section ∷ []))
    ≡ ((((names ++ row ∷ []) ++ (head ∷ body ∷ (tests ++ end_body ∷ []))) ++ table ∷ []) ++ (div ∷ more)) ++ section ∷ []
nested names tests more row head body end_body table div section =
    let last = table ∷ div ∷ (more ++ section ∷ []) in
    let rows = head ∷ body ∷ (tests ++ end_body ∷ []) in
    append_assoc (names ++ row ∷ head ∷ body ∷ []) tests (end_body ∷ last)
    ∙ append_assoc names (row ∷ head ∷ body ∷ []) (tests ++ end_body ∷ last)
    ∙ ap (λ pieces. names ++ row ∷ head ∷ body ∷ pieces) (sym (append_assoc tests (end_body ∷ []) last))
    ∙ sym (append_assoc names (row ∷ []) (rows ++ last))
    ∙ sym (append_assoc (names ++ row ∷ []) rows last)
    ∙ sym (append_assoc ((names ++ row ∷ []) ++ rows) (table ∷ []) (div ∷ (more ++ section ∷ [])))
    ∙ sym (append_assoc (((names ++ row ∷ []) ++ rows) ++ table ∷ []) (div ∷ more) (section ∷ []))

pub tests_whole : (names : List (List ℕ)) (tests : List Test) (more : ℕ) → tests_parts names tests more ≡ content_text (tests_tree names tests more)
tests_whole names tests more =
    row_of test_tree tests (tests_opening names) (tests_closing more)
    ∙ ap (λ pieces. pieces_text (section_opening (codes "Tests") ++ table_opening ++ pieces))
    (nested (pieces_of (all_of name_tree names)) (pieces_of (all_of test_tree tests)) (pieces_of (more_tests more))
    (End tag.Tr) (End tag.Thead) (Start tag.Tbody []) (End tag.Tbody) (End tag.Table) (End tag.Div) (End tag.Section))

group_whole : (group : Group) → group_parts group ≡ content_text (group_tree group)
group_whole group =
    row_of item_tree group.combinations (group_opening group.constraints group.count) group_closing ∙ ap pieces_text (simp append_assoc refl)

groups_whole : (groups : List Group) → flat_map group_parts groups ≡ flat_map (λ group. content_text (group_tree group)) groups
groups_whole [] = refl
groups_whole (group ∷ groups) =
    flat_map-cons group_parts group groups
    ∙ ap (λ bytes. bytes ++ flat_map group_parts groups) (group_whole group)
    ∙ ap (λ bytes. content_text (group_tree group) ++ bytes) (groups_whole groups)
    ∙ sym (flat_map-cons (λ one. content_text (group_tree one)) group groups)

pub left_out_whole : (groups : List Group) (more : ℕ) → left_out_parts groups more ≡ content_text (left_out groups more)
left_out_whole [] more = sym no_pieces
left_out_whole (group ∷ groups) more =
    ap (λ bytes. pieces_text left_out_opening ++ bytes ++ pieces_text (left_out_closing more)) (groups_whole (group ∷ groups))
    ∙ row_of group_tree (group ∷ groups) left_out_opening (left_out_closing more)
    ∙ ap pieces_text (ap (λ ps. left_out_opening ++ ps) (grouped (pieces_of (all_of group_tree (group ∷ groups))))
    ∙ ap (λ ps. left_out_opening ++ (ps ++ End tag.Section ∷ [])) (sym (pieces_followed (all_of group_tree (group ∷ groups)) (more_combinations more))))
  where
    grouped : (ps : List Piece) → ps ++ (pieces_of (more_combinations more) ++ End tag.Section ∷ []) ≡ (ps ++ pieces_of (more_combinations more)) ++ End tag.Section ∷ []
    grouped ps = sym (append_assoc ps (pieces_of (more_combinations more)) (End tag.Section ∷ []))

regroup : (o v n p t l : List ℕ) → o ++ v ++ n ++ p ++ t ++ l ≡ o ++ (v ++ (n ++ (p ++ (t ++ l))))
regroup o v n p t l = simp append_assoc refl

-- the document, with what stands in it
document_whole : (name : List ℕ) (inside : Content) → pieces_text (opening name) ++ content_text inside ++ pieces_text closing ≡ page_text (document_tree name inside)
document_whole name inside =
    ap (λ bytes. bytes ++ pieces_text closing) (sym (pieces_behind (opening name) (pieces_of inside)))
    ∙ sym (pieces_behind (opening name ++ pieces_of inside) closing) ∙ ap pieces_text (simp append_assoc refl)

-- five trees in a row
in_a_row : (a b c d e : Content) → content_text (followed_by a (followed_by b (followed_by c (followed_by d e))))
    ≡ content_text a ++ (content_text b ++ (content_text c ++ (content_text d ++ content_text e)))
in_a_row a b c d e =
    text_followed a (followed_by b (followed_by c (followed_by d e)))
    ∙ ap (λ bytes. content_text a ++ bytes) (text_followed b (followed_by c (followed_by d e))
    ∙ ap (λ bytes. content_text b ++ bytes) (text_followed c (followed_by d e) ∙ ap (λ bytes. content_text c ++ bytes) (text_followed d e)))

-- the trees of a page, between its beginning and its end
pub trees_whole : (suite : Suite)
    → pieces_text (opening suite.name) ++ content_text (verdict_tree suite.name suite.accepted suite.verdict suite.remark)
    ++ content_text (numbers_tree suite.numbers) ++ content_text (picture_tree suite.picture)
    ++ content_text (tests_tree suite.names suite.tests suite.more_tests) ++ content_text (left_out suite.groups suite.more_combinations)
    ++ pieces_text closing ≡ page_text (suite_tree suite)
trees_whole suite =
    let verdict = verdict_tree suite.name suite.accepted suite.verdict suite.remark in
    let numbers = numbers_tree suite.numbers in
    let picture = picture_tree suite.picture in
    let tests = tests_tree suite.names suite.tests suite.more_tests in
    let others = left_out suite.groups suite.more_combinations in
    let o = pieces_text (opening suite.name) in
    ap (λ bytes. bytes ++ pieces_text closing)
    (regroup o (content_text verdict) (content_text numbers) (content_text picture) (content_text tests) (content_text others))
    ∙ ap (λ bytes. o ++ bytes ++ pieces_text closing) (sym (in_a_row verdict numbers picture tests others))
    ∙ document_whole suite.name (followed_by verdict (followed_by numbers (followed_by picture (followed_by tests others))))

pub pages_whole : PagesAreWhole
pages_whole suite =
    let o = pieces_text (opening suite.name) in
    let v = content_text (verdict_tree suite.name suite.accepted suite.verdict suite.remark) in
    let n = content_text (numbers_tree suite.numbers) in
    let p = content_text (picture_tree suite.picture) in
    let t = content_text (tests_tree suite.names suite.tests suite.more_tests) in
    ap (λ bytes. o ++ v ++ n ++ p ++ bytes ++ left_out_parts suite.groups suite.more_combinations ++ pieces_text closing) (tests_whole suite.names suite.tests suite.more_tests)
    ∙ ap (λ bytes. o ++ v ++ n ++ p ++ t ++ bytes ++ pieces_text closing) (left_out_whole suite.groups suite.more_combinations)
    ∙ trees_whole suite
