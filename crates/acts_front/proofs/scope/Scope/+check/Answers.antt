use Rattle.std.proofs.Common.{◌≡◌, List, ◌∙◌, ◌∷◌, ap, sym, subst}
use Rattle.std.specs.Prelude.{IfOk, option_map}
use Rattle.acts_front.specs.Constraints.{conj_of}
use Rattle.acts_front.specs.believed.Constraints.{is_and, is_or, parts, unit_of}
use Rattle.acts_front.specs.Findings.{finding_in}
use Rattle.acts_front.specs.Reading.{token_seen, tokens_seen}
use Rattle.acts_front.specs.believed.Tokens.{Token, Name, Not, Open}
use Rattle.acts_front.proofs.Units.{enclosed_found, named_found, negated_found}
use Rattle.acts_front.proofs.Worst.{IsWorst, conj_found, disj_found, worst_last}
use Rattle.acts_front.proofs.scope.Scope.+check.Goals as goal

pub conjunction-returns : goal.conjunction-returns
conjunction-returns t c =
    let found = λ (part : List Token). finding_in c.args.self.now (unit_of c.args.room part) in
    let pieces = parts is_and (tokens_seen c.args.tokens.now) in
    worst_last found pieces c.loop-ahead.worst
    (subst (λ ahead. IsWorst found pieces c.loop-ahead.worst (option_map (λ rest. parts is_and (tokens_seen rest.now)) ahead)) c.in_default.is c.loop-ahead.invariant)
    ∙ sym (conj_found c.args.self.now c.args.room (tokens_seen c.args.tokens.now))

pub disjunction-returns : goal.disjunction-returns
disjunction-returns t c =
    let found = λ (part : List Token). finding_in c.args.self.now (conj_of c.args.room part) in
    let pieces = parts is_or (tokens_seen c.args.tokens.now) in
    worst_last found pieces c.loop-ahead.worst
    (subst (λ ahead. IsWorst found pieces c.loop-ahead.worst (option_map (λ rest. parts is_or (tokens_seen rest.now)) ahead)) c.in_default.is c.loop-ahead.invariant)
    ∙ sym (disj_found c.args.self.now c.args.room (tokens_seen c.args.tokens.now))

pub unit-returns-in-Some-Not-default : goal.unit-returns-in-Some-Not-default
unit-returns-in-Some-Not-default t c =
    let unit = tokens_seen c.in-Some-Not-default.unit.now in
    let begins : tokens_seen c.args.tokens.now ≡ Not ∷ unit = ap tokens_seen c.in-Some-Not-default.ensures ∙ ap (λ token. token_seen token ∷ unit) c.in-Some-Not-default.field-0-0-is in
    subst (λ known. IfOk c.unit.result (λ found. found ≡ known)) (negated_found c.args.self.now c.args.room (tokens_seen c.args.tokens.now) unit c.if-room-gt0.true begins) c.unit.ensures

pub unit-returns-in-Some-Open-default : goal.unit-returns-in-Some-Open-default
unit-returns-in-Some-Open-default t c =
    let behind = tokens_seen c.in-Some-Open-default.behind.now in
    let begins : tokens_seen c.args.tokens.now ≡ Open ∷ behind = ap tokens_seen c.in-Some-Open-default.ensures ∙ ap (λ token. token_seen token ∷ behind) c.in-Some-Open-default.field-0-0-is in
    subst (λ known. IfOk c.enclosed.result (λ found. found ≡ known))
    (enclosed_found c.args.self.now c.args.room (tokens_seen c.args.tokens.now) behind c.if-room-gt0-2.true begins) c.enclosed.ensures

pub unit-returns-in-Some-Name-default : goal.unit-returns-in-Some-Name-default
unit-returns-in-Some-Name-default t c =
    let behind = tokens_seen c.in-Some-Name-default.behind.now in
    let begins : tokens_seen c.args.tokens.now ≡ Name c.in-Some-Name-default.name.now ∷ behind =
    ap tokens_seen c.in-Some-Name-default.ensures ∙ ap (λ token. token_seen token ∷ behind) c.in-Some-Name-default.field-0-0-is in
    subst (λ known. IfOk c.compared.result (λ found. found ≡ known))
    (named_found c.args.self.now c.args.room (tokens_seen c.args.tokens.now) c.in-Some-Name-default.name.now behind begins) c.compared.ensures
