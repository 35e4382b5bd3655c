use Rattle.std.proofs.Common.{◌≡◌, ◌++◌, take}
use Rattle.std.specs.List.{flat_map}
use Rattle.html_page.specs.believed.Pieces.{attribute_text}
use Rattle.html_page.specs.Seen.{attribute_seen}
use Rattle.html_page.proofs.page_text.PageText.put_attributes.Given as goal

abbrev pub invariant-loop-attribute : goal.invariant-loop-attribute
invariant-loop-attribute l = l.self ≡ l.fn.self ++ flat_map (λ attribute. attribute_text (attribute_seen attribute)) (take l.attribute-index l.attributes)
