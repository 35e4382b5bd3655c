-- How a file is translated line by line.
use Rattle.std.proofs.Common.{◌≡◌, ℕ, suc, ◌+◌, ◌^◌, ◌<◌, ◌≤◌, Bool, true, false, not, List, [], ◌∷◌, ◌++◌}
use Rattle.std.proofs.Common.{length, Result, Ok, Err, refl, sym, ap, ◌∙◌, append_assoc, append-nil, arith}
use Rattle.std.proofs.lemmas.Bool.{ne_eqb}
use Rattle.std.proofs.lemmas.Grind.{flat_map-append}
use Rattle.std.specs.List.{enumerate_from, flat_map, list_any}
use Rattle.std.specs.Prelude.{◌==◌, if◌then◌else◌}
use Rattle.model_lex.specs.believed.Lines.{file_lines}
use Rattle.acts_front.specs.believed.ActsFiles.{Line, Nothing, OfParameter, OfRelation, OfConstraint, and_line, declared_by, is_parameter, line_before, line_gives, lines_give, section_behind, with_parameters}
use Rattle.acts_front.specs.believed.Translation.{lines_text, text_given}
use Rattle.acts_front.specs.Reading.{Adds, SoFar, Translates, ended, lines_before}
use Rattle.acts_front.specs.declared.code.ActsCode.{ActsCode}
use Rattle.acts_front.specs.declared.code.ActsCode.TheVariants.{A8}
use Rattle.acts_front.specs.declared.code.ActsFault.{ActsFault}
use Rattle.acts_front.specs.declared.code.ActsFault.TheVariants.{Bad, NoMemory}
use Rattle.acts_front.specs.declared.section.Section.TheVariants.{Outside}
use Rattle.acts_front.specs.declared.translator.Translator.{Translator}

nothing_before : (given : Result (List Line) (ℕ × ActsCode)) → given ≡ lines_before [] given
nothing_before (Ok lines) = refl
nothing_before (Err refused) = refl

one_before : (given : List Line) (number : ℕ) (line : Line) (others : Line → Result (List Line) (ℕ × ActsCode))
    → lines_before given (line_before number (Ok line) others) ≡ lines_before (given ++ line ∷ []) (others line)
one_before given number line others = at (others line)
  where
    at : (rest : Result (List Line) (ℕ × ActsCode)) → lines_before given (line_before number (Ok line) (λ _. rest)) ≡ lines_before (given ++ line ∷ []) rest
    at (Ok lines) = ap Ok (sym (append_assoc given (line ∷ []) lines))
    at (Err refused) = refl

pub begins : (fold : Bool) (t : Translator) (rest : List ℕ) → t.text.items ≡ [] → t.scope ≡ record { fold = fold; params = [] } → t.section ≡ Outside → length rest ≤ 2 ^ 28
    → SoFar (enumerate_from 1 (file_lines rest)) fold t 0 rest
begins fold t rest text scope section few = record {
  given = [];
  whole = nothing_before (lines_give Outside (record { fold = fold; params = [] }) (enumerate_from 1 (file_lines rest)))
      ∙ (ap (λ s. lines_before [] (lines_give s (record { fold = fold; params = [] }) (enumerate_from 1 (file_lines rest)))) (sym section)
      ∙ ap (λ s. lines_before [] (lines_give t.section s (enumerate_from 1 (file_lines rest)))) (sym scope));
  texts = text;
  declared = scope;
  few = omega arith;
}

module _ {lines : List (ℕ × List ℕ)} {fold : Bool} {t : Translator} {number : ℕ} {rest line : List ℕ} (behind : List ℕ) (here : SoFar lines fold t number rest)
    (cut : file_lines rest ≡ line ∷ file_lines behind) (shorter : length behind < length rest) where
  -- what the lines behind this one give, where it gives a line
  abbrev lines_behind : Line → Result (List Line) (ℕ × ActsCode)
  lines_behind given = lines_give (section_behind t.section line) (and_line t.scope given) (enumerate_from (number + 1 + 1) (file_lines behind))

  -- one more line is read
  pub goes_on : (given : Result Line ActsCode) (next : Translator) → line_gives t.section t.scope line ≡ given → Adds (number + 1) (section_behind t.section line) ended given t (Ok next)
      → SoFar lines fold next (number + 1) behind
  goes_on (Ok one) next is added = record {
    given = here.given ++ one ∷ [];
    whole = here.whole
        ∙ (ap (λ list. lines_before here.given (lines_give t.section t.scope (enumerate_from (number + 1) list))) cut
        ∙ (ap (λ given. lines_before here.given (line_before (number + 1) given lines_behind)) is
        ∙ (one_before here.given (number + 1) one lines_behind
        ∙ (ap (λ s. lines_before (here.given ++ one ∷ []) (lines_give s (and_line t.scope one) (enumerate_from (number + 1 + 1) (file_lines behind)))) (sym added.stands)
        ∙ ap (λ s. lines_before (here.given ++ one ∷ []) (lines_give next.section s (enumerate_from (number + 1 + 1) (file_lines behind)))) (sym added.declared)))));
    texts = added.texts ∙ (ap (λ text. text ++ ended one) here.texts
        ∙ (ap (λ text. lines_text here.given ++ text) (sym (append-nil (ended one))) ∙ sym (flat_map-append ended here.given (one ∷ []))));
    declared = added.declared ∙ (ap (λ s. and_line s one) here.declared
        ∙ ap (λ params. record { fold = fold; params = params })
        (ap (λ more. flat_map declared_by here.given ++ more) (sym (append-nil (declared_by one))) ∙ sym (flat_map-append declared_by here.given (one ∷ []))));
    few = omega (arith, here.few);
  }
  goes_on (Err code) next is added = absurd added

  -- or refused
  pub refused : (given : Result Line ActsCode) (fault : ActsFault) → line_gives t.section t.scope line ≡ given → Adds (number + 1) (section_behind t.section line) ended given t (Err fault)
      → Translates (text_given (with_parameters (lines_give Outside (record { fold = fold; params = [] }) lines))) (Err fault)
  refused given (Bad other code) is told =
      let stops : lines_give t.section t.scope (enumerate_from (number + 1) (file_lines rest)) ≡ Err (number + 1, code) =
      ap (λ list. lines_give t.section t.scope (enumerate_from (number + 1) list)) cut
      ∙ ap (λ given. line_before (number + 1) given lines_behind) (is ∙ told.1) in
      ap (λ list. text_given (with_parameters list)) (here.whole ∙ ap (lines_before here.given) stops) ∙ ap (λ n. Err (n, code)) (sym told.0)
  refused given NoMemory is told = tt

-- there is a parameter exactly where one is declared
some_declared : (lines : List Line) → list_any is_parameter lines ≡ not (length (flat_map declared_by lines) == 0)
some_declared [] = refl
some_declared (Nothing ∷ lines) = some_declared lines
some_declared (OfParameter param ∷ lines) = ap (λ b. not b) (sym (ne_eqb (suc (length (flat_map declared_by lines))) 0 (λ z. omega arith)))
some_declared (OfRelation relation ∷ lines) = some_declared lines
some_declared (OfConstraint tokens constraint ∷ lines) = some_declared lines

module _ {lines : List (ℕ × List ℕ)} {fold : Bool} {t : Translator} {number : ℕ} {rest : List ℕ} (here : SoFar lines fold t number rest) (none : length rest ≡ 0) where
  all_given : lines_give Outside (record { fold = fold; params = [] }) lines ≡ Ok here.given
  all_given = here.whole ∙ at rest none
    where
      at : (left : List ℕ) → length left ≡ 0 → lines_before here.given (lines_give t.section t.scope (enumerate_from (number + 1) (file_lines left))) ≡ Ok here.given
      at [] e = ap Ok (append-nil here.given)
      at (b ∷ left) e = absurd (omega arith)

  -- all lines are read
  pub ends : (length t.scope.params == 0) ≡ false → text_given (with_parameters (lines_give Outside (record { fold = fold; params = [] }) lines)) ≡ Ok t.text.items
  ends some =
      let declared : list_any is_parameter here.given ≡ true = some_declared here.given ∙ ap (λ b. not b) (ap (λ s. length s.params == 0) (sym here.declared) ∙ some) in
      ap (λ list. text_given (with_parameters list)) all_given
      ∙ (ap (λ b. text_given (if b then Ok here.given else Err (1, A8))) declared ∙ ap Ok (sym here.texts))

  -- and none declares a parameter
  pub undeclared : (length t.scope.params == 0) ≡ true → text_given (with_parameters (lines_give Outside (record { fold = fold; params = [] }) lines)) ≡ Err (1, A8)
  undeclared nothing =
      let declared : list_any is_parameter here.given ≡ false = some_declared here.given ∙ ap (λ b. not b) (ap (λ s. length s.params == 0) (sym here.declared) ∙ nothing) in
      ap (λ list. text_given (with_parameters list)) all_given ∙ ap (λ b. text_given (if b then Ok here.given else Err (1, A8))) declared
