-- Facts of lists of strings that several crates need.
use Rattle.std.proofs.Common.{◌≡◌, ℕ, ◌<◌, List, [], map, length, get_or, sym, ap, ◌∙◌}
use Rattle.std.specs.String.{string_bytes}
use Rattle.std.specs.declared.string.String.{String}
use Rattle.std.specs.declared.alloc.Global.{Global}
use Rattle.std.proofs.lemmas.List.{get_or-map}

-- a word as it is passed
pub word_at : (words : List (String Global)) (place : ℕ) (item : String Global) (text : List ℕ) → place < length words → item ≡ get_or words place item
    → text ≡ string_bytes item → text ≡ get_or (map string_bytes words) place []
word_at words place item text inside is e = e ∙ ap string_bytes is ∙ sym (get_or-map string_bytes words place item [] inside)
