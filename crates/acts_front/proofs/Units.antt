-- What is found of a unit, by its first token.
use Rattle.std.proofs.Common.{◌≡◌, ℕ, zero, suc, ◌-◌, ◌<◌, List, ◌∷◌, Option, Some, None, refl, sym, ap, ◌∙◌, arith}
use Rattle.std.specs.Prelude.{option_map}
use Rattle.acts_front.specs.believed.ParameterLines.{Scope}
use Rattle.acts_front.specs.believed.Tokens.{Token, Name, Not, Open}
use Rattle.acts_front.specs.believed.Constraints.{Pred, Negated, comparison_of, disj_of, enclosed_of, unit_of}
use Rattle.acts_front.specs.Findings.{finding_in}

negation : (scope : Scope) (pred : Option Pred) → finding_in scope pred ≡ finding_in scope (option_map Negated pred)
negation scope (Some pred) = refl
negation scope None = refl

pub negated_found : (scope : Scope) (room : ℕ) (tokens unit : List Token) → 0 < room → tokens ≡ Not ∷ unit
    → finding_in scope (unit_of (room - 1) unit) ≡ finding_in scope (unit_of room tokens)
negated_found scope zero tokens unit some is = absurd (omega arith)
negated_found scope (suc room) tokens unit some is =
    let less : suc room - 1 ≡ room = omega arith in
    ap (λ n. finding_in scope (unit_of n unit)) less ∙ (negation scope (unit_of room unit) ∙ ap (λ list. finding_in scope (unit_of (suc room) list)) (sym is))

pub enclosed_found : (scope : Scope) (room : ℕ) (tokens behind : List Token) → 0 < room → tokens ≡ Open ∷ behind
    → finding_in scope (enclosed_of (disj_of (room - 1)) behind) ≡ finding_in scope (unit_of room tokens)
enclosed_found scope zero tokens behind some is = absurd (omega arith)
enclosed_found scope (suc room) tokens behind some is =
    let less : suc room - 1 ≡ room = omega arith in
    ap (λ n. finding_in scope (enclosed_of (disj_of n) behind)) less ∙ ap (λ list. finding_in scope (unit_of (suc room) list)) (sym is)

named : (room : ℕ) (name : List ℕ) (behind : List Token) → comparison_of (Name name ∷ behind) ≡ unit_of room (Name name ∷ behind)
named zero name behind = refl
named (suc room) name behind = refl

pub named_found : (scope : Scope) (room : ℕ) (tokens : List Token) (name : List ℕ) (behind : List Token) → tokens ≡ Name name ∷ behind
    → finding_in scope (comparison_of (Name name ∷ behind)) ≡ finding_in scope (unit_of room tokens)
named_found scope room tokens name behind is = ap (finding_in scope) (named room name behind) ∙ ap (λ list. finding_in scope (unit_of room list)) (sym is)
