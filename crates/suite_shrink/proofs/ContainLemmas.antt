-- Whether a row contains a partial row, cell by cell, and whether one of the rows does.
use Rattle.std.proofs.Common.{◌≡◌, ℕ, ◌<◌, true, false, not, nat_eq, List, length, get_or, Option, None, Some, ◌∙◌, sym, ap}
use Rattle.std.specs.Option.{option_eq}
use Rattle.std.proofs.lemmas.Bool.{eq-eqb, false≢true, false_from_ne_true}
use Rattle.std.proofs.lemmas.Option.{none-some, same_Some}
use Rattle.cov_model.specs.believed.Rows.{contains, is_assigned}
use Rattle.cov_model.proofs.CellLemmas.{assigned_within, contains-from, contains-get_or}

-- the row gives what the partial row gives there
abbrev pub GivesAt : List (Option ℕ) → List (Option ℕ) → ℕ → Type 0
GivesAt row part p = is_assigned part p ≡ true → get_or row p None ≡ get_or part p None

pub contains_all : (row part : List (Option ℕ)) → ((p : ℕ) → p < length part → GivesAt row part p) → contains row part ≡ true
contains_all row part each = contains-from row part (λ p assigned. each p (assigned_within part p assigned) assigned)

pub contains_not : (row part : List (Option ℕ)) (p : ℕ) → is_assigned part p ≡ true → (get_or row p None ≡ get_or part p None → ⊥) → contains row part ≡ false
contains_not row part p assigned other = false_from_ne_true (contains row part) (λ contained. other (contains-get_or row part p contained assigned))

-- two cells that differ
pub differ : (a b : Option ℕ) → true ≡ not (option_eq nat_eq a b) → a ≡ b → ⊥
differ None None other same = false≢true (sym other)
differ None (Some w) other same = none-some w same
differ (Some v) None other same = none-some v (sym same)
differ (Some v) (Some w) other same = false≢true (sym (other ∙ ap not (eq-eqb v w (same_Some v w same))))
