-- Tuples as pairs, and as partial rows.
use Rattle.std.proofs.Common.{◌≡◌, ℕ, ◌<◌, Bool, ◌||◌, ◌==◌, List, [], ◌∷◌, Option, Some, None, is_some, ◌∙◌, sym, ap, arith, inl, inr}
use Rattle.std.specs.List.{list_any}
use Rattle.std.proofs.lemmas.Bool.{cases_eq, eq-eqb, ne_eqb}
use Rattle.std.proofs.lemmas.List.{get_or-set_other, get_or-set_same}
use Rattle.value_text.proofs.ListLemmas.{none_at}
use Rattle.cov_model.specs.believed.Rows.{is_assigned, with_value}
use Rattle.cov_model.specs.believed.Tuples.{cells_of}
use Rattle.definitions.proofs.NamedPairs.{length-cells_of}

-- one of the pairs is of the parameter
abbrev pub has_param : List (ℕ × ℕ) → ℕ → Bool
has_param pairs p = list_any (λ pair. pair.0 == p) pairs

-- the parameters of the pairs have values, and no others
pub gives_pair : (n : ℕ) (pairs : List (ℕ × ℕ)) (p : ℕ) → p < n → is_assigned (cells_of n pairs) p ≡ has_param pairs p
gives_pair n [] p within = ap (λ (cell : Option ℕ). is_some cell) (none_at n p)
gives_pair n (pair ∷ pairs) p within = elim (cases_eq pair.0 p) [
  | inl same ↦
      ap (λ (q : ℕ). is_assigned (with_value (cells_of n pairs) q pair.1) p) same
      ∙ ap (λ (cell : Option ℕ). is_some cell) (get_or-set_same (cells_of n pairs) p (Some pair.1) None (omega (arith, within, length-cells_of n pairs)))
      ∙ sym (ap (λ (b : Bool). b || has_param pairs p) (eq-eqb pair.0 p same))
  | inr differs ↦
      ap (λ (cell : Option ℕ). is_some cell) (get_or-set_other (cells_of n pairs) pair.0 p (Some pair.1) None (λ same. differs (sym same)))
      ∙ gives_pair n pairs p within ∙ sym (ap (λ (b : Bool). b || has_param pairs p) (ne_eqb pair.0 p differs))
]
