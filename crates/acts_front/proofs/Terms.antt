-- What is found of constraints, by what is found of their terms.
use Rattle.std.proofs.Common.{◌≡◌, ℕ, Bool, true, false, not, ◌&&◌, ◌||◌, List, Option, Some, None, refl, sym, ◌∙◌, ap}
use Rattle.std.specs.Prelude.{is_some, option_map, if◌then◌else◌}
use Rattle.acts_front.specs.declared.constraint.Finding.TheVariants.{Fits, TypesDiffer, UnknownName}
use Rattle.cov_model.specs.declared.constraint.Rel.{Rel}
use Rattle.acts_front.specs.believed.ParameterLines.{Scope, has_name, is_declared, kind_named}
use Rattle.acts_front.specs.believed.Constraints.{Operand, OfWhole, OfText, OfTruth, OfParameter, Compares, operand_in, is_operand_known, is_order, is_same_kind, is_typed, operand_kind}
use Rattle.acts_front.specs.Findings.{finding_in, kinds_finding, term_finding}
use Rattle.acts_front.specs.believed.Tokens.{Token}
use Rattle.acts_front.specs.declared.constraint.Finding.{Finding}
use Rattle.acts_front.specs.declared.kind.Kind.{Kind}
use Rattle.acts_front.specs.declared.kind.Kind.TheVariants.{Int}
use Rattle.value_text.proofs.ListLemmas.{is_some-map, list_any-find}

-- a parameter is declared where it has a type
pub declared_is : (scope : Scope) (name : List ℕ) → is_declared scope name ≡ is_some (kind_named scope name)
declared_is scope name = list_any-find (has_name scope.fold name) scope.params ∙ sym (is_some-map (λ param. param.kind) _)

operand_is : (scope : Scope) (operand : Operand) → is_operand_known scope operand ≡ is_some (operand_kind scope operand)
operand_is scope (OfWhole text) = refl
operand_is scope (OfText text) = refl
operand_is scope (OfTruth truth) = refl
operand_is scope (OfParameter name) = declared_is scope name

by_two : (kind : Option Kind) (rel : Rel) (other : Option Kind)
    → (if not (is_some kind && is_some other) then UnknownName
    else if not (is_same_kind kind other && (not (is_order rel) || is_same_kind kind (Some Int))) then TypesDiffer else Fits) ≡ kinds_finding kind rel other
by_two (Some kind) rel (Some other) = at (is_same_kind (Some kind) (Some other) && (not (is_order rel) || is_same_kind (Some kind) (Some Int)))
  where
    at : (b : Bool) → (if not b then TypesDiffer else Fits) ≡ (if b then Fits else TypesDiffer)
    at true = refl
    at false = refl
by_two (Some kind) rel None = refl
by_two None rel other = refl

-- what is found of a term, by the types of what it compares
pub by_kinds : (scope : Scope) (name : List ℕ) (rel : Rel) (operand : Operand) → term_finding scope name rel operand ≡ kinds_finding (kind_named scope name) rel (operand_kind scope operand)
by_kinds scope name rel operand =
    ap (λ known. if not (known && is_operand_known scope operand) then UnknownName else if not (is_typed scope name rel operand) then TypesDiffer else Fits) (declared_is scope name)
    ∙ ap (λ known. if not (is_some (kind_named scope name) && known) then UnknownName else if not (is_typed scope name rel operand) then TypesDiffer else Fits) (operand_is scope operand)
    ∙ by_two (kind_named scope name) rel (operand_kind scope operand)

-- so is what is found of a comparison
pub compared_is : (scope : Scope) (name : List ℕ) (rel : Rel) (token : Token) (operand : Operand) (kind other : Option Kind) (found : Finding)
    → found ≡ kinds_finding kind rel other → kind ≡ kind_named scope name → other ≡ operand_kind scope operand → operand_in token ≡ Some operand
    → found ≡ finding_in scope (option_map (λ o. Compares name rel o) (operand_in token))
compared_is scope name rel token operand kind other found is left right spelled =
    is ∙ (ap (λ k. kinds_finding k rel other) left ∙ (ap (λ k. kinds_finding (kind_named scope name) rel k) right
    ∙ (sym (by_kinds scope name rel operand) ∙ ap (λ o. finding_in scope (option_map (λ o. Compares name rel o) o)) (sym spelled))))
