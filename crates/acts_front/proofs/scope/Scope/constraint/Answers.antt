use Rattle.std.proofs.Common.{◌≡◌, ◌+◌, ◌∙◌, ap, sym, subst}
use Rattle.std.proofs.lemmas.List.{take_rest}
use Rattle.std.specs.Prelude.{IfOk}
use Rattle.acts_front.specs.believed.Constraints.{disj_of}
use Rattle.constraint_ast.specs.believed.Grammar.{most_open}
use Rattle.acts_front.specs.Findings.{finding_in, worse}
use Rattle.acts_front.specs.Reading.{token_seen, tokens_seen}
use Rattle.acts_front.proofs.Arrows.{no_arrow, one_arrow}
use Rattle.acts_front.proofs.scope.Scope.constraint.Goals as goal

pub returns-in_default : goal.returns-in_default
returns-in_default c =
    subst (λ known. IfOk c.disjunction.result (λ found. found ≡ known)) (no_arrow token_seen c.args.self.now most_open c.args.tokens.now (sym c.in_default.ensures)) c.disjunction.ensures

pub returns : goal.returns
returns c =
    c.worse.ensures
    ∙ (ap (λ found. worse found c.in_ok-conclusion.conclusion) c.in_ok-premise.ensures
    ∙ (ap (worse _) (c.in_ok-conclusion.ensures ∙ ap (λ list. finding_in c.args.self.now (disj_of most_open (tokens_seen list))) (take_rest c.args.tokens.now (c.in-Some.place + 1)))
    ∙ one_arrow token_seen c.args.self.now most_open c.args.tokens.now c.in-Some.place (sym c.in-Some.ensures)))
