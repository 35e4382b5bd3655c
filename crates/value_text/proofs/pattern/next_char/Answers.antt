use Rattle.std.proofs.Common.{◌≡◌, ◌∙◌, ◌∷◌, ◌++◌, ap, sym, encode_utf8}
use Rattle.value_text.specs.believed.Like.{folded_chars}
use Rattle.value_text.proofs.CharLemmas.{folded_chars_step, folded_char}
use Rattle.value_text.proofs.pattern.next_char.Goals as goal
use Rattle.value_text.proofs.pattern.next_char.Goals.{then-fold, else-fold}

pub returns-clause-some : goal.returns-clause-some
returns-clause-some c =
    let parts = sym c.chars-chars.ensures.rest ∙ c.in_ok-first.ensures.steps.0 ∙ ap (λ rest. encode_utf8 c.in_ok-first.first ++ rest) (sym c.as_str.ensures) in
    let step = folded_chars_step c.args.fold c.in_ok-first.first c.as_str.result.now c.args.text.now c.utf8.text parts in
    let same : folded_char c.args.fold c.in_ok-first.first ≡ c.if-fold.folded = elim c.if-fold.branch [
      | then-fold w ↦ ap (λ fold. folded_char fold c.in_ok-first.first) w.if-fold.true ∙ sym (w.folded-is ∙ w.to_ascii_lowercase-folded.ensures.value)
      | else-fold w ↦ ap (λ fold. folded_char fold c.in_ok-first.first) w.if-fold.false ∙ sym w.folded-is
    ] in
    step ∙ ap (λ first. first ∷ folded_chars c.args.fold c.as_str.result.now) same
