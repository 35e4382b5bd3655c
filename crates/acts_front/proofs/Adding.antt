-- What a translation has behind one more line.
use Rattle.std.proofs.Common.{◌≡◌, ℕ, [], ◌++◌, Result, Ok, Err, sym, ap, ◌∙◌, append-nil, append_assoc, codes}
use Rattle.acts_front.specs.believed.ParameterLines.{Scope}
use Rattle.acts_front.specs.believed.ActsFiles.{Line, and_line, declared_by}
use Rattle.acts_front.specs.Reading.{Adds, ended}
use Rattle.acts_front.specs.believed.Translation.{translated_text}
use Rattle.acts_front.specs.declared.code.ActsCode.{ActsCode}
use Rattle.acts_front.specs.declared.section.Section.{Section}
use Rattle.acts_front.specs.declared.translator.Translator.{Translator}

-- a line that declares nothing
pub nothing_declared : (scope : Scope) (line : Line) → declared_by line ≡ [] → scope ≡ and_line scope line
nothing_declared scope line none = ap (λ params. record { fold = scope.fold; params = params }) (sym (ap (λ more. scope.params ++ more) none ∙ append-nil scope.params))

-- the same with a line feed behind it
pub adds_ended : (number : ℕ) (section : Section) (given : Result Line ActsCode) (before after more : Translator) → Adds number section translated_text given before (Ok after)
    → more.text.items ≡ after.text.items ++ codes "\n" → more.scope ≡ after.scope → more.section ≡ after.section → Adds number section ended given before (Ok more)
adds_ended number section (Ok given) before after more added text scope here = record {
  texts = text ∙ (ap (λ items. items ++ codes "\n") added.texts ∙ append_assoc before.text.items (translated_text given) (codes "\n"));
  declared = scope ∙ added.declared;
  stands = here ∙ added.stands;
}
adds_ended number section (Err code) before after more added text scope here = absurd added
