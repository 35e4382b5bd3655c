-- Which tuples rows contain, and which they contain once a row has changed.
use Rattle.std.proofs.Common.{◌≡◌, ℕ, zero, suc, ◌<◌, Bool, true, false, ◌&&◌, ◌||◌, not, List, [], ◌∷◌, ◌++◌, length, filter, Option, get_or, set, ◌∙◌, sym, ap, refl, arith}
use Rattle.std.specs.List.{list_any}
use Rattle.std.proofs.lemmas.Bool.{false≢true}
use Rattle.std.proofs.lemmas.List.Folds.{list_any-append}
use Rattle.std.proofs.Math.Bool.{or-false}
use Rattle.cov_model.proofs.CellLemmas.{contains-trans}
use Rattle.value_text.proofs.ListLemmas.{filter_same, filter-filter, not_or}
use Rattle.cov_model.specs.believed.Rows.{contains}
use Rattle.definitions.specs.believed.Growth.{is_uncovered}

-- some row contains the tuple
abbrev pub holds : List (List (Option ℕ)) → List (Option ℕ) → Bool
holds rows tuple = list_any (λ row. contains row tuple) rows

-- once a row has become another that contains it, rows contain what they did and what that row does
pub holds-set : (rows : List (List (Option ℕ))) (i : ℕ) (after tuple : List (Option ℕ)) → i < length rows → contains after (get_or rows i []) ≡ true
    → holds (set rows i after) tuple ≡ (holds rows tuple || contains after tuple)
holds-set [] i after tuple within more = absurd (omega arith)
holds-set (row ∷ rows) zero after tuple within more = at (contains row tuple) (contains after tuple) (holds rows tuple)
    (λ held. contains-trans after row tuple more held)
  where
    at : (a b rest : Bool) → (a ≡ true → b ≡ true) → (b || rest) ≡ ((a || rest) || b)
    at true true rest f = refl
    at true false rest f = absurd (false≢true (f refl))
    at false true true f = refl
    at false true false f = refl
    at false false true f = refl
    at false false false f = refl
holds-set (row ∷ rows) (suc i) after tuple within more =
    ap (λ (b : Bool). contains row tuple || b) (holds-set rows i after tuple (omega arith) more) ∙ at (contains row tuple)
  where
    at : (a : Bool) → (a || (holds rows tuple || contains after tuple)) ≡ ((a || holds rows tuple) || contains after tuple)
    at true = refl
    at false = refl

pub holds-push : (rows : List (List (Option ℕ))) (row tuple : List (Option ℕ)) → holds (rows ++ row ∷ []) tuple ≡ (holds rows tuple || contains row tuple)
holds-push rows row tuple = list_any-append (λ r. contains r tuple) rows (row ∷ []) ∙ ap (λ (b : Bool). holds rows tuple || b) (or-false (contains row tuple))

-- the tuples that are open once rows contain these besides
pub open_after : (rows after : List (List (Option ℕ))) (row : List (Option ℕ)) (tuples : List (List (Option ℕ)))
    → ((tuple : List (Option ℕ)) → holds after tuple ≡ (holds rows tuple || contains row tuple))
    → filter (is_uncovered after) tuples ≡ filter (λ tuple. not (contains row tuple)) (filter (is_uncovered rows) tuples)
open_after rows after row tuples more =
    filter_same (is_uncovered after) (λ tuple. is_uncovered rows tuple && not (contains row tuple)) tuples
    (λ tuple. ap not (more tuple) ∙ not_or (holds rows tuple) (contains row tuple))
    ∙ sym (filter-filter (λ tuple. not (contains row tuple)) (is_uncovered rows) tuples)
