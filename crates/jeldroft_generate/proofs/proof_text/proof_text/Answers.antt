use Rattle.std.proofs.Common.{◌<◌, ◌++◌, take, length, get_or, sym, ap, arith, ◌∙◌}
use Rattle.refutation.specs.Lines.{line_text}
use Rattle.pict_cli.specs.Steps.{written}
use Rattle.pict_cli.proofs.ProofTexts.{written-more}
use Rattle.jeldroft_generate.proofs.proof_text.proof_text.Goals as goal

pub loop-omission-preserved : goal.loop-omission-preserved
loop-omission-preserved c =
    let omissions = c.args.proof.now.omissions in
    let i = c.loop-omission.omission-index in
    let within : i < length omissions = omega (arith, c.loop-omission-test.true, ap length c.as_slice-omission-items.ensures) in
    let item = c.omission-item.is ∙ ap (λ items. get_or items i c.omission-item.result) c.as_slice-omission-items.ensures in
    c.in_ok-write_omission.ensures.ok
    ∙ ap (λ text. text ++ line_text c.omission-item.result) c.loop-omission.invariant
    ∙ ap (λ omission. written c.args.proof.now.form (take i omissions) ++ line_text omission) item
    ∙ sym (written-more c.args.proof.now.form omissions i c.omission-item.result within)
