use Rattle.std.proofs.Common.{◌≡◌, ◌∙◌, Some, ap, sym, subst}
use Rattle.std.specs.Prelude.{option_map}
use Rattle.std.specs.Result.{result_map_both}
use Rattle.acts_front.specs.believed.ActsFiles.{constraint_line}
use Rattle.acts_front.specs.Reading.{Adds, tokens_seen}
use Rattle.acts_front.specs.believed.Tokens.{tokens_found}
use Rattle.acts_front.specs.believed.Translation.{translated_text}
use Rattle.acts_front.proofs.translator.Translator.add_constraint.Goals as goal

pub returns-in-Some : goal.returns-in-Some
returns-in-Some c =
    let self = c.args.self.now in
    let spelled : Some (tokens_seen c.as_slice.result.now) ≡ tokens_found c.args.text.now =
    ap (λ list. Some (tokens_seen list)) c.as_slice.ensures.value ∙ (ap (option_map (λ list. tokens_seen list.items)) (sym c.in-Some.is) ∙ c.in_ok-tokens.ensures) in
    subst (λ found. Adds c.args.line self.section translated_text (constraint_line self.scope found) self (result_map_both (λ _. c.add_tokens.new.self) (λ fault. fault) c.add_tokens.result))
    spelled c.add_tokens.ensures
