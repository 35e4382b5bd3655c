use Rattle.std.proofs.Common.{◌≡◌, ◌∙◌, None, Ok, Some, ap, refl, sym, subst}
use Rattle.acts_front.specs.believed.ActsFiles.{OfConstraint}
use Rattle.acts_front.specs.believed.Constraints.{cons_of}
use Rattle.constraint_ast.specs.believed.Grammar.{most_open}
use Rattle.acts_front.specs.Findings.{code_of, finding_of}
use Rattle.acts_front.specs.Reading.{Adds, tokens_seen}
use Rattle.acts_front.specs.believed.Translation.{translated_text}
use Rattle.acts_front.proofs.Adding.{nothing_declared}
use Rattle.acts_front.proofs.Codes.{spelled_fits, spelled_refused}
use Rattle.acts_front.proofs.translator.Translator.add_tokens.Goals as goal

pub returns-in-Some : goal.returns-in-Some
returns-in-Some c =
    let tokens = tokens_seen c.args.tokens.now in
    let code : code_of (finding_of c.args.self.now.scope (cons_of most_open tokens)) ≡ Some c.in-Some.code = sym (c.in-Some.ensures ∙ ap code_of c.in_ok-constraint.ensures) in
    (refl, spelled_refused c.args.self.now.scope tokens (cons_of most_open tokens) c.in-Some.code code)

pub returns : goal.returns
returns c =
    let self = c.args.self.now in
    let tokens = tokens_seen c.args.tokens.now in
    let code : code_of (finding_of self.scope (cons_of most_open tokens)) ≡ None = sym (c.in_default.ensures ∙ ap code_of c.in_ok-constraint.ensures) in
    let fits = spelled_fits self.scope tokens (cons_of most_open tokens) code in
    subst (λ given. Adds c.args.line self.section translated_text given self (Ok (record { section = self.section; scope = self.scope; text = c.put_constraint.new.out }))) (sym fits.1)
    (record {
      texts = c.in_ok-put_constraint.ensures;
      declared = nothing_declared self.scope (OfConstraint tokens fits.0) refl;
      stands = refl;
    })
