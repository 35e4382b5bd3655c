use Rattle.std.proofs.Common.{◌++◌, ◌∙◌, length, ap, arith}
use Rattle.std.specs.Prelude.{codes}
use Rattle.refutation.specs.Lines.{spaced, pair_words, token_words}
use Rattle.refutation.proofs.LineLemmas.{length-line_text, parts_put}
use Rattle.refutation.proofs.writing.put_omission.Goals as goal

pub put_pairs-requires : goal.put_pairs-requires
put_pairs-requires c =
    omega (arith, c.args.into.now.small, length-line_text c.args.omission.now, ap (λ pairs. length (spaced (pair_words pairs))) c.as_slice.ensures.value)

pub put_bytes-requires-2 : goal.put_bytes-requires-2
put_bytes-requires-2 c =
    omega (arith, c.args.into.now.small, length-line_text c.args.omission.now, ap (λ pairs. length (spaced (pair_words pairs))) c.as_slice.ensures.value)

pub put_tokens-requires : goal.put_tokens-requires
put_tokens-requires c =
    omega (
      arith,
      c.args.into.now.small,
      length-line_text c.args.omission.now,
      ap (λ pairs. length (spaced (pair_words pairs))) c.as_slice.ensures.value,
      ap (λ tokens. length (spaced (token_words tokens))) c.as_slice-2.ensures,
    )

pub put_bytes-requires-3 : goal.put_bytes-requires-3
put_bytes-requires-3 c =
    omega (
      arith,
      c.args.into.now.small,
      length-line_text c.args.omission.now,
      ap (λ pairs. length (spaced (pair_words pairs))) c.as_slice.ensures.value,
      ap (λ tokens. length (spaced (token_words tokens))) c.as_slice-2.ensures,
    )

pub returns-clause-appended : goal.returns-clause-appended
returns-clause-appended c =
    c.put_bytes-3.ensures.appended
    ∙ ap (λ text. text ++ codes "\n")
    (c.put_tokens.ensures.appended
    ∙ ap (λ tokens. c.put_bytes-2.new.into.items ++ spaced (token_words tokens)) c.as_slice-2.ensures
    ∙ ap (λ text. text ++ spaced (token_words c.args.omission.now.tree))
    (c.put_bytes-2.ensures.appended
    ∙ ap (λ text. text ++ codes " :")
    (c.put_pairs.ensures.appended ∙ ap (λ pairs. c.put_bytes.new.into.items ++ spaced (pair_words pairs)) c.as_slice.ensures.value
    ∙ ap (λ text. text ++ spaced (pair_words c.args.omission.now.tuple)) c.put_bytes.ensures.appended)))
    ∙ parts_put c.args.omission.now c.args.into.now.items

pub returns-clause-len : goal.returns-clause-len
returns-clause-len c =
    omega (
      arith,
      c.args.into.now.small,
      length-line_text c.args.omission.now,
      ap (λ pairs. length (spaced (pair_words pairs))) c.as_slice.ensures.value,
      ap (λ tokens. length (spaced (token_words tokens))) c.as_slice-2.ensures,
    )
