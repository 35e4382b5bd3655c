-- Texts put one behind another.
use Rattle.std.proofs.Common.{◌≡◌, List, map, sym, ◌∙◌}
use Rattle.std.proofs.lemmas.List.Folds.{flat_map-map}
use Rattle.std.specs.List.{flat_map}
use Rattle.html_page.specs.believed.Trees.{Content, all_of}
use Rattle.html_page.specs.Trees.{content_text}
use Rattle.html_page.proofs.TreeTexts.{text_of_all}

-- trees for items that are made of others
pub made_trees : {X Y : Type 0} (tree : Y → Content) (make : X → Y) (items : List X)
    → flat_map (λ item. content_text (tree (make item))) items ≡ content_text (all_of tree (map make items))
made_trees tree make items = sym (text_of_all tree (map make items) ∙ flat_map-map (λ item. content_text (tree item)) make items)
