use Rattle.std.proofs.Common.{◌≡◌, ◌&&◌, ◌+◌, [], true, not, drop, get_or, sym, ap, ◌∙◌}
use Rattle.std.specs.List.{list_any}
use Rattle.std.specs.String.{string_bytes}
use Rattle.std.proofs.lemmas.List.{get_or-map, drop-map, take_rest}
use Rattle.value_text.proofs.ListLemmas.{list_any-map}
use Rattle.definitions.specs.believed.Words as reading
use Rattle.command_line.specs.believed.Words.{texts}
use Rattle.command_line.proofs.words.is_last_mark.Goals as goal

pub returns-then-is_mark_word : goal.returns-then-is_mark_word
returns-then-is_mark_word c =
    let words = c.args.words.now in
    let behind = c.args.place + 1 in
    let word : reading.is_mark_word (get_or (texts words) c.args.place []) ≡ true =
    ap reading.is_mark_word
    (get_or-map string_bytes words c.args.place c.index-words-place.result [] c.requires
    ∙ ap string_bytes (sym c.index-words-place.is) ∙ sym c.as_str.ensures.value)
    ∙ sym c.is_mark_word.ensures ∙ c.if-is_mark_word.true in
    let later = c.has_mark_word.ensures ∙ ap (list_any (λ word. reading.is_mark_word (string_bytes word))) (take_rest words behind)
    ∙ sym (list_any-map reading.is_mark_word string_bytes (drop behind words))
    ∙ ap (list_any reading.is_mark_word) (sym (drop-map string_bytes behind words)) in
    ap not later ∙ sym (ap (λ b. b && not (list_any reading.is_mark_word (drop behind (texts words)))) word)
