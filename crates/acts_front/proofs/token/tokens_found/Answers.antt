use Rattle.std.proofs.Common.{◌∙◌, sym, ap, subst, arith, ◌<◌, length, drop}
use Rattle.std.proofs.lemmas.Bool.{eqb-true, eqb-false}
use Rattle.std.proofs.lemmas.List.{map-append, take_rest}
use Rattle.acts_front.specs.Reading.{token_seen, tokens_seen}
use Rattle.acts_front.specs.believed.Tokens.{first_found, tokens_behind, tokens_found}
use Rattle.acts_front.proofs.TokenLists.{all_read, more_tokens, none_read, one_read}
use Rattle.acts_front.proofs.token.tokens_found.Goals as goal

pub returns-then-is_empty : goal.returns-then-is_empty
returns-then-is_empty c =
    sym (all_read (tokens_found c.args.text.now) (tokens_seen c.loop-rest.tokens.items) c.loop-rest.ahead.now c.loop-rest.invariant
    (ap length (sym c.without_first_blanks-rest.ensures) ∙ eqb-true _ _ (sym c.is_empty.ensures ∙ c.if-is_empty.true)))

pub returns-in_default : goal.returns-in_default
returns-in_default c =
    let rest = c.without_first_blanks-rest.result.now in
    let differs = eqb-false (length rest) 0 (sym c.is_empty.ensures ∙ c.if-is_empty.false) in
    let some : 0 < length rest = omega (arith, differs) in
    sym (none_read (tokens_found c.args.text.now) (tokens_seen c.loop-rest.tokens.items) c.loop-rest.ahead.now c.loop-rest.invariant
    (subst (λ text. 0 < length text) c.without_first_blanks-rest.ensures some)
    (ap first_found (sym c.without_first_blanks-rest.ensures) ∙ sym c.in_default.ensures.value))

pub loop-rest-preserved : goal.loop-rest-preserved
loop-rest-preserved c =
    let rest = c.without_first_blanks-rest.result.now in
    let differs = eqb-false (length rest) 0 (sym c.is_empty.ensures ∙ c.if-is_empty.false) in
    let some : 0 < length rest = omega (arith, differs) in
    one_read (tokens_found c.args.text.now) (tokens_seen c.loop-rest.tokens.items) c.loop-rest.ahead.now c.loop-rest.invariant
    (token_seen c.in-Some.token) c.in-Some.len (tokens_seen c.push.new.self.items)
    (subst (λ text. 0 < length text) c.without_first_blanks-rest.ensures some)
    (ap first_found (sym c.without_first_blanks-rest.ensures) ∙ sym c.in-Some.ensures.value)
    c.in-Some.ensures.within.0 (ap tokens_seen c.in_ok-push.ensures.items ∙ map-append token_seen c.loop-rest.tokens.items _)
    ∙ ap (λ text. more_tokens (tokens_seen c.push.new.self.items) (tokens_behind 0 text)) (ap (drop c.in-Some.len) (sym c.without_first_blanks-rest.ensures) ∙ sym (take_rest rest c.in-Some.len))
