use Rattle.std.proofs.Common.{◌≡◌, ◌∙◌, ◌≤◌, ◌^◌, length, Err, sym, refl, arith, rules}
use Rattle.std.proofs.lemmas.Bool.{eqb-true}
use Rattle.model_lex.specs.believed.Lines.{without_mark}
use Rattle.acts_front.proofs.SayTheSame.{faithful}
use Rattle.acts_front.proofs.Translating.{begins, ends, goes_on, refused, undeclared}
use Rattle.acts_front.proofs.translator.translate.Goals as goal
use Rattle.model_lex.proofs.OrderMark.{unmarked_within}

pub loop-rest-init : goal.loop-rest-init
loop-rest-init c =
    let few : length (without_mark c.args.bytes.now) ≤ 2 ^ 28 = omega (arith, unmarked_within c.args.bytes.now) in
    rw c.without_mark-rest.ensures (begins c.args.fold c.new-translator.result
    (without_mark c.args.bytes.now) c.new-translator.ensures.text c.new-translator.ensures.scope c.new-translator.ensures.section few)

pub loop-rest-preserved : goal.loop-rest-preserved
loop-rest-preserved c =
    goes_on c.cut_line.result.1.now c.loop-rest.invariant c.cut_line.ensures.lines c.cut_line.ensures.shorter _ c.add_line.new.self refl c.in_ok-add_line.ensures

pub returns-in_err-add_line-clause-translated : goal.returns-in_err-add_line-clause-translated
returns-in_err-add_line-clause-translated c =
    let is : c.from_residual.result ≡ Err c.in_err-add_line.field-0.0 = search rules in
    rw is
    (refused c.cut_line.result.1.now c.loop-rest.invariant c.cut_line.ensures.lines c.cut_line.ensures.shorter _ c.in_err-add_line.field-0.0 refl c.in_err-add_line.ensures)

pub returns-then-is_empty-clause-translated : goal.returns-then-is_empty-clause-translated
returns-then-is_empty-clause-translated c =
    let none = eqb-true _ _ (sym c.is_empty.ensures ∙ c.loop-rest-test.false) in
    undeclared c.loop-rest.invariant none (sym c.is_empty-2.ensures ∙ c.if-is_empty.true)

pub returns : goal.returns
returns c =
    let none = eqb-true _ _ (sym c.is_empty.ensures ∙ c.loop-rest-test.false) in
    let translated = ends c.loop-rest.invariant none (sym c.is_empty-2.ensures ∙ c.if-is_empty.false) in
    record { translated = translated; meaning = faithful c.args.fold c.args.bytes.now _ translated }
