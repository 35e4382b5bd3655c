-- The texts of attributes and pieces, each as it is in code.
use Rattle.std.proofs.Common.{◌≡◌, ℕ, ◌≤◌, List, ◌++◌, length, map, take, sym, ap, ◌∙◌}
use Rattle.std.proofs.lemmas.List.{take_all}
use Rattle.std.proofs.lemmas.List.Folds.{flat_map-map}
use Rattle.std.specs.List.{flat_map}
use Rattle.html_page.specs.believed.Pieces.{attribute_text, attributes_text, piece_text, pieces_text}
use Rattle.html_page.specs.Seen.{attribute_seen, piece_seen}
use Rattle.html_page.specs.declared.attribute.Attribute.{Attribute}
use Rattle.html_page.specs.declared.piece.Piece.{Piece}

pub attributes_mapped : (attributes : List Attribute) → flat_map (λ attribute. attribute_text (attribute_seen attribute)) attributes ≡ attributes_text (map attribute_seen attributes)
unfolding attributes_text
attributes_mapped attributes = sym (flat_map-map attribute_text attribute_seen attributes)

pub pieces_mapped : (pieces : List Piece) → flat_map (λ piece. piece_text (piece_seen piece)) pieces ≡ pieces_text (map piece_seen pieces)
unfolding pieces_text
pieces_mapped pieces = sym (flat_map-map piece_text piece_seen pieces)

-- all of them, where a loop has come to the end
module _ (before now : List ℕ) where
  pub attributes_put : (attributes : List Attribute) (i : ℕ) → now ≡ before ++ flat_map (λ attribute. attribute_text (attribute_seen attribute)) (take i attributes)
      → length attributes ≤ i → now ≡ before ++ attributes_text (map attribute_seen attributes)
  attributes_put attributes i so_far all =
      so_far ∙ ap (λ list. before ++ flat_map (λ attribute. attribute_text (attribute_seen attribute)) list) (take_all i attributes all)
      ∙ ap (λ text. before ++ text) (attributes_mapped attributes)

  pub pieces_put : (pieces : List Piece) (i : ℕ) → now ≡ before ++ flat_map (λ piece. piece_text (piece_seen piece)) (take i pieces)
      → length pieces ≤ i → now ≡ before ++ pieces_text (map piece_seen pieces)
  pieces_put pieces i so_far all =
      so_far ∙ ap (λ list. before ++ flat_map (λ piece. piece_text (piece_seen piece)) list) (take_all i pieces all)
      ∙ ap (λ text. before ++ text) (pieces_mapped pieces)
