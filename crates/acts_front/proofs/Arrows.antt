-- What is found of a constraint, by its first `=>`.
use Rattle.std.proofs.Common.{◌≡◌, ℕ, ◌+◌, true, false, List, map, take, drop, Option, Some, None, refl, sym, ap, ◌∙◌, position}
use Rattle.std.proofs.lemmas.List.{drop-map, take-map}
use Rattle.std.specs.List.{after_first, before_first, list_any}
use Rattle.std.specs.Prelude.{is_some, option_map}
use Rattle.acts_front.specs.believed.ParameterLines.{Scope}
use Rattle.acts_front.specs.believed.Tokens.{Token}
use Rattle.acts_front.specs.believed.Constraints.{Pred, Plain, cons_of, disj_of, implied, is_arrow}
use Rattle.acts_front.specs.Findings.{finding_in, finding_of, pred_finding, worse}
use Rattle.acts_front.proofs.Mapped.{is_some-position, position-map, position_is}
use Rattle.acts_front.proofs.Worst.{worse_broken}

plain_is : (scope : Scope) (pred : Option Pred) → finding_in scope pred ≡ finding_of scope (option_map Plain pred)
plain_is scope (Some pred) = refl
plain_is scope None = refl

implied_is : (scope : Scope) (premise pred : Option Pred) → worse (finding_in scope premise) (finding_in scope pred) ≡ finding_of scope (implied premise pred)
implied_is scope (Some premise) (Some pred) = refl
implied_is scope (Some premise) None = worse_broken (pred_finding scope premise)
implied_is scope None pred = refl

module _ {T : Type 0} (seen : T → Token) (scope : Scope) (room : ℕ) (tokens : List T) where
  pub no_arrow : position (λ token. is_arrow (seen token)) tokens ≡ None → finding_in scope (disj_of room (map seen tokens)) ≡ finding_of scope (cons_of room (map seen tokens))
  no_arrow is =
      let none : list_any is_arrow (map seen tokens) ≡ false = sym (is_some-position is_arrow (map seen tokens)) ∙ ap is_some (position-map seen is_arrow tokens ∙ is) in
      plain_is scope (disj_of room (map seen tokens)) ∙ rw none refl

  pub one_arrow : (place : ℕ) → position (λ token. is_arrow (seen token)) tokens ≡ Some place
      → worse (finding_in scope (disj_of room (map seen (take place tokens))))
      (finding_in scope (disj_of room (map seen (drop (place + 1) tokens)))) ≡ finding_of scope (cons_of room (map seen tokens))
  one_arrow place is =
      let there : position is_arrow (map seen tokens) ≡ Some place = position-map seen is_arrow tokens ∙ is in
      let some : list_any is_arrow (map seen tokens) ≡ true = sym (is_some-position is_arrow (map seen tokens)) ∙ ap is_some there in
      let len = position_is is_arrow (map seen tokens) place there in
      let front : map seen (take place tokens) ≡ before_first is_arrow (map seen tokens) = sym (take-map seen place tokens) ∙ ap (λ n. take n (map seen tokens)) (sym len) in
      let rest : map seen (drop (place + 1) tokens) ≡ after_first is_arrow (map seen tokens) = sym (drop-map seen (place + 1) tokens) ∙ ap (λ n. drop (n + 1) (map seen tokens)) (sym len) in
      ap (λ part. worse (finding_in scope (disj_of room part)) (finding_in scope (disj_of room (map seen (drop (place + 1) tokens))))) front
      ∙ (ap (λ part. worse (finding_in scope (disj_of room (before_first is_arrow (map seen tokens)))) (finding_in scope (disj_of room part))) rest
      ∙ (implied_is scope (disj_of room (before_first is_arrow (map seen tokens))) (disj_of room (after_first is_arrow (map seen tokens))) ∙ rw some refl))
