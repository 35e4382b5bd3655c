use Rattle.std.proofs.Common.{◌≡◌, ◌++◌, take}
use Rattle.std.specs.List.{flat_map}
use Rattle.html_page.proofs.page_text.PageText.put_plain.Given as goal

abbrev pub invariant-loop-text : goal.invariant-loop-text
invariant-loop-text l = l.self-inside.bytes.items ≡ l.fn.self ++ flat_map (λ text. text.now) (take l.text-index l.texts)
