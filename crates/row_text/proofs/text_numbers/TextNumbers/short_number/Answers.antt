use Rattle.std.proofs.Common.{◌≡◌, ℕ, map, Some, ◌∙◌, ap, subst}
use Rattle.std.specs.Prelude.{◌==◌, IfSome}
use Rattle.std.specs.Map.{lookup}
use Rattle.value_text.specs.believed.Texts.{folded}
use Rattle.row_text.specs.Lookups.{number_of}
use Rattle.row_text.proofs.LookingUp.{seen}
use Rattle.row_text.proofs.Words.{folded_bytes, found_by_word}
use Rattle.row_text.proofs.text_numbers.TextNumbers.short_number.Goals as goal

pub returns : goal.returns
returns c =
    let text = c.args.text.now in
    let words = c.self.inside.words.entries in
    let found = c.copied.ensures ∙ c.get.ensures.value ∙ ap (λ (word : ℕ). lookup (λ known. word == known) words) c.in_ok-word.ensures.word in
    subst (λ pairs. IfSome c.copied.result (λ number. number_of pairs (folded c.args.fold text) ≡ Some number)) c.self.view_is
    (found_by_word (map seen c.self.inside.numbers.entries) words (folded c.args.fold text) c.copied.result c.self.invariant
    (folded_bytes c.args.fold text c.in_ok-word.ensures.bytes) found)
