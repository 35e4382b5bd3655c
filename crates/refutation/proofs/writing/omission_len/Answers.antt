use Rattle.std.proofs.Common.{◌≡◌, ℕ, ◌+◌, ◌-◌, ◌^◌, min, length, ◌∙◌, ap, arith}
use Rattle.refutation.specs.Lines.{spaced, pair_words, token_words}
use Rattle.refutation.proofs.LineLemmas.{length-line_text}
use Rattle.refutation.proofs.writing.omission_len.Goals as goal

-- sums up to a limit, one after the other
total : (pairs tokens line first second sum all : ℕ) → first ≡ min pairs (2 ^ 64 - 1) → second ≡ min tokens (2 ^ 64 - 1) → sum ≡ min (first + second) (2 ^ 64 - 1)
    → all ≡ min (sum + 7) (2 ^ 64 - 1) → line ≡ pairs + tokens + 7 → all ≡ min line (2 ^ 64 - 1)
total pairs tokens line first second sum all a b c d e = omega arith

pub returns : goal.returns
returns c =
    total (length (spaced (pair_words c.args.omission.now.tuple))) (length (spaced (token_words c.args.omission.now.tree))) _ c.pairs_len-pairs.result
    c.tokens_len-tokens.result c.saturating_add.result c.saturating_add-2.result
    (c.pairs_len-pairs.ensures ∙ ap (λ pairs. min (length (spaced (pair_words pairs))) (2 ^ 64 - 1)) c.as_slice.ensures.value)
    (c.tokens_len-tokens.ensures ∙ ap (λ tokens. min (length (spaced (token_words tokens))) (2 ^ 64 - 1)) c.as_slice-2.ensures)
    c.saturating_add.ensures c.saturating_add-2.ensures (length-line_text c.args.omission.now)
