use Rattle.std.proofs.Common.{◌≡◌, ◌<◌, length, get_or, sym, ap, arith, ◌∙◌}
use Rattle.refutation.specs.Lines.{line_len}
use Rattle.pict_cli.proofs.ProofTexts.{room_left}
use Rattle.pict_cli.proofs.proof.proof_text.Goals as goal

pub put_omission-requires : goal.put_omission-requires
put_omission-requires c =
    let test = c.loop-omission-test.true in
    let omissions = c.args.proof.now.omissions in
    let i = c.loop-omission.omission-index in
    let within : i < length omissions = omega (arith, test, ap length c.as_slice-omission-items.ensures) in
    let room = room_left c.args.proof.now.form omissions i c.omission-item.result within in
    let item : get_or omissions i c.omission-item.result ≡ c.omission-item.result =
    sym (c.omission-item.is ∙ ap (λ items. get_or items i c.omission-item.result) c.as_slice-omission-items.ensures) in
    omega (arith, room, ap line_len item, ap length c.loop-omission.invariant.0, c.loop-omission.invariant.1, c.loop-omission.invariant.2)
