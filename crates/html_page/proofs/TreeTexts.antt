-- The texts of trees one after another.
use Rattle.std.proofs.Common.{◌≡◌, ℕ, ◌≤◌, List, [], ◌∷◌, ◌++◌, length, map, take, refl, sym, ap, ◌∙◌, append_assoc}
use Rattle.std.proofs.lemmas.Grind.{flat_map-append}
use Rattle.std.proofs.lemmas.List.{take_all}
use Rattle.std.proofs.lemmas.List.Concat.{flat_map-cons}
use Rattle.std.proofs.lemmas.List.Folds.{flat_map-map}
use Rattle.std.specs.List.{flat_map}
use Rattle.html_page.specs.believed.Pieces.{Piece, Start, End, Text, Meta, Title, Style, piece_text, pieces_text}
use Rattle.html_page.specs.believed.Trees.{Content, nothing, text, element, meta, title, style, all_of, followed_by, pieces_of}
use Rattle.html_page.specs.Trees.{content_text}

-- pieces behind others
pub pieces_behind : (one two : List Piece) → pieces_text (one ++ two) ≡ pieces_text one ++ pieces_text two
unfolding pieces_text
pieces_behind one two = flat_map-append piece_text one two

pub no_pieces : pieces_text [] ≡ []
unfolding pieces_text
no_pieces = refl

pub pieces_followed : (one two : Content) → pieces_of (followed_by one two) ≡ pieces_of one ++ pieces_of two
pieces_followed nothing two = refl
pieces_followed (text t rest) two = ap (λ ps. Text t ∷ ps) (pieces_followed rest two)
pieces_followed (element tag attributes inside rest) two =
    ap (λ ps. Start tag attributes ∷ (pieces_of inside ++ End tag ∷ ps)) (pieces_followed rest two)
    ∙ ap (λ ps. Start tag attributes ∷ ps) (sym (append_assoc (pieces_of inside) (End tag ∷ pieces_of rest) (pieces_of two)))
pieces_followed (meta attributes rest) two = ap (λ ps. Meta attributes ∷ ps) (pieces_followed rest two)
pieces_followed (title attributes t rest) two = ap (λ ps. Title attributes t ∷ ps) (pieces_followed rest two)
pieces_followed (style rest) two = ap (λ ps. Style ∷ ps) (pieces_followed rest two)

-- the text of one tree behind another, and of a tree for each item
pub text_followed : (one two : Content) → content_text (followed_by one two) ≡ content_text one ++ content_text two
text_followed one two = ap pieces_text (pieces_followed one two) ∙ pieces_behind (pieces_of one) (pieces_of two)

pub text_of_all : {X : Type 0} (tree : X → Content) (items : List X) → content_text (all_of tree items) ≡ flat_map (λ item. content_text (tree item)) items
text_of_all tree [] = no_pieces
text_of_all tree (item ∷ items) =
    text_followed (tree item) (all_of tree items) ∙ ap (λ bytes. content_text (tree item) ++ bytes) (text_of_all tree items)
    ∙ sym (flat_map-cons (λ one. content_text (tree one)) item items)

-- a tree for each item that a loop went over
pub all_put : {X Y : Type 0} (tree : Y → Content) (view : X → Y) (items : List X) (i : ℕ) (before now : List ℕ)
    → now ≡ before ++ flat_map (λ item. content_text (tree (view item))) (take i items) → length items ≤ i
    → now ≡ before ++ content_text (all_of tree (map view items))
all_put tree view items i before now so_far all =
    so_far ∙ ap (λ list. before ++ flat_map (λ item. content_text (tree (view item))) list) (take_all i items all)
    ∙ ap (λ bytes. before ++ bytes) (sym (flat_map-map (λ item. content_text (tree item)) view items) ∙ sym (text_of_all tree (map view items)))

-- pieces put behind others
pub behind : (first last : List Piece) (before one now : List ℕ) → one ≡ before ++ pieces_text first → now ≡ one ++ pieces_text last
    → now ≡ before ++ pieces_text (first ++ last)
behind first last before one now begins ends =
    ends ∙ ap (λ bytes. bytes ++ pieces_text last) begins ∙ append_assoc before (pieces_text first) (pieces_text last)
    ∙ ap (λ bytes. before ++ bytes) (sym (pieces_behind first last))

-- a tree put behind another
pub tree_behind : (first last : Content) (before one now : List ℕ) → one ≡ before ++ content_text first → now ≡ one ++ content_text last
    → now ≡ before ++ content_text (followed_by first last)
tree_behind first last before one now begins ends =
    ends ∙ ap (λ bytes. bytes ++ content_text last) begins ∙ append_assoc before (content_text first) (content_text last)
    ∙ ap (λ bytes. before ++ bytes) (sym (text_followed first last))

-- pieces, then the text of a tree, then pieces
pub around : (first : List Piece) (inside : Content) (last : List Piece) (before one two now : List ℕ)
    → one ≡ before ++ pieces_text first → two ≡ one ++ content_text inside → now ≡ two ++ pieces_text last
    → now ≡ before ++ pieces_text (first ++ (pieces_of inside ++ last))
around first inside last before one two now begins goes_on ends =
    ends ∙ ap (λ bytes. bytes ++ pieces_text last) (goes_on ∙ ap (λ bytes. bytes ++ content_text inside) begins)
    ∙ append_assoc (before ++ pieces_text first) (content_text inside) (pieces_text last)
    ∙ append_assoc before (pieces_text first) (content_text inside ++ pieces_text last)
    ∙ ap (λ bytes. before ++ bytes)
    (ap (λ bytes. pieces_text first ++ bytes) (sym (pieces_behind (pieces_of inside) last)) ∙ sym (pieces_behind first (pieces_of inside ++ last)))
