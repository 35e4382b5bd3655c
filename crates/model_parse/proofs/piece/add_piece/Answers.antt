use Rattle.std.proofs.Common.{◌<◌, length, sym, ◌∙◌, ap, arith}
use Rattle.model_parse.specs.ValueSteps.{place_of, add_value}
use Rattle.model_parse.specs.Steps.{and_each}
use Rattle.model_parse.proofs.Answering.{gives_same, reference_is}
use Rattle.model_parse.proofs.piece.add_piece.Goals as goal

pub returns-in-Some-2 : goal.returns-in-Some-2
returns-in-Some-2 c =
    let below : c.in-Some-2.p < length c.args.known.now = rw c.in-Some-2.is at c.in_ok-p.ensures.within in
    gives_same (λ done. c.add_copies.new.read) c.add_copies.result _ _ (ap (and_each (add_value c.args.opts.now.fold c.args.line) c.args.read.now) c.as_slice.ensures
    ∙ reference_is c.args.opts.now c.args.line c.args.params.now c.args.known.now c.args.read.now c.args.piece.now c.in-Some-2.p c.index-params-p.result c.in-Some.ensures.0
    (ap (place_of c.args.opts.now.fold c.args.known.now) (sym c.in-Some.ensures.1) ∙ sym c.in_ok-p.ensures.value
    ∙ c.in-Some-2.is) (omega (arith, below))) c.add_copies.ensures
