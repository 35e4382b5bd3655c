use Rattle.std.proofs.Common.{◌≡◌, ◌∙◌, sym, arith, rules, ◌≤◌, length, ◌^◌, Err}
use Rattle.std.proofs.lemmas.Bool.{eqb-true}
use Rattle.model_lex.specs.believed.Lines.{without_mark}
use Rattle.seq_check.proofs.ReadingSteps.{begins, reads, stops, ends}
use Rattle.seq_check.proofs.reading.read_events.Goals as goal
use Rattle.model_lex.proofs.OrderMark.{unmarked_within}

pub loop-rest-init : goal.loop-rest-init
loop-rest-init c =
    let few : length (without_mark c.args.bytes.now) ≤ 2 ^ 28 = omega (arith, unmarked_within c.args.bytes.now) in
    rw (c.new-reading.ensures, c.without_mark-rest.ensures) (begins (without_mark c.args.bytes.now) few)

pub loop-rest-preserved : goal.loop-rest-preserved
loop-rest-preserved c =
    let behind = c.cut_line.result.1.now in
    rw c.in_ok-read_line.ensures.ok.1
    (reads behind c.loop-rest.invariant c.cut_line.ensures.lines c.cut_line.ensures.shorter c.in_ok-read_line.ensures.ok.0)

pub returns-in_err-read_line : goal.returns-in_err-read_line
returns-in_err-read_line c =
    let behind = c.cut_line.result.1.now in
    let is : c.from_residual.result ≡ Err c.in_err-read_line.field-0.0 = search rules in
    rw is
    (stops behind c.loop-rest.invariant c.cut_line.ensures.lines c.cut_line.ensures.shorter c.args.t c.in_err-read_line.field-0.0 c.in_err-read_line.ensures.err)

pub returns : goal.returns
returns c =
    let none = eqb-true _ _ (sym c.is_empty.ensures ∙ c.loop-rest-test.false) in
    rw (ends c.args.t c.loop-rest.rest.now c.loop-rest.invariant none) c.finish.ensures
