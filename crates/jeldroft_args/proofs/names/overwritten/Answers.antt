use Rattle.std.proofs.Common.{rules, ◌+◌, []}
use Rattle.std.proofs.lemmas.List.{take_rest}
use Rattle.jeldroft_args.proofs.NameLemmas.{output_found, output_none, output_passed, texts_in}
use Rattle.jeldroft_args.proofs.names.overwritten.Goals as goal

pub returns-then-is_overwritten : goal.returns-then-is_overwritten
returns-then-is_overwritten c =
    let rest = take_rest c.args.outputs.now (c.loop-place.place + 1) in
    output_found (texts_in c.args.inputs.now) c.args.outputs.now c.loop-place.place (record { ref_ptr = (0, 0); now = [] }) _
    (search rules) c.loop-place.invariant (search (rules, rest))

pub loop-place-preserved : goal.loop-place-preserved
loop-place-preserved c =
    let rest = take_rest c.args.outputs.now (c.loop-place.place + 1) in
    output_passed (texts_in c.args.inputs.now) c.args.outputs.now c.loop-place.place (record { ref_ptr = (0, 0); now = [] }) _
    (search rules) c.loop-place.invariant (search (rules, rest))

pub returns : goal.returns
returns c = output_none (texts_in c.args.inputs.now) c.args.outputs.now c.loop-place.place _ (search rules) c.loop-place.invariant
