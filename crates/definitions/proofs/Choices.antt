-- The completions of a partial row are the choices of values that contain it.
use Rattle.std.proofs.Common.{◌≡◌, ℕ, zero, suc, ◌<◌, Bool, true, false, cond, List, [], ◌∷◌, map, length}
use Rattle.std.proofs.Common.{get_or, Option, Some, None, is_some, unwrap_or, inl, inr, ap, subst, refl, arith}
use Rattle.std.specs.Prelude.{◌==◌}
use Rattle.std.proofs.lemmas.Bool.{false≢true, and_parts, and_from, eqb-true, eq-eqb}
use Rattle.cov_model.specs.believed.Rows.{contains, value_in}
use Rattle.definitions.specs.believed.Completion.{completions, cell_values}
use Rattle.definitions.specs.Laws.{GivesListed, CompletionsAreRows}
use Rattle.definitions.proofs.Members.{Has, has_contained, contains_member, has_map, of_map, has_flat, of_flat, has_filter, of_filter}

-- the row gives each parameter one of its listed values
abbrev pub IsChoice : List (List ℕ) → List (Option ℕ) → Type 0
IsChoice [] [] = Unit {0}
IsChoice [] (given ∷ row) = ⊥
IsChoice (values ∷ lists) [] = ⊥
IsChoice (values ∷ lists) (None ∷ row) = ⊥
IsChoice (values ∷ lists) (Some v ∷ row) = Has values v × IsChoice lists row

-- the values that a cell can have
has_cell : (values : List ℕ) (cell : Option ℕ) (v : ℕ) (row cells : List (Option ℕ)) → Has values v → contains (Some v ∷ row) (cell ∷ cells) ≡ true
    → Has (cell_values values cell) v
has_cell values None v row cells has contained = has
has_cell values (Some w) v row cells has contained =
    let same : v ≡ w = eqb-true v w (and_parts (v == w) (contains row cells) contained).0 in
    has_filter (λ u. u == w) values v has (eq-eqb v w same)

of_cell : (values : List ℕ) (cell : Option ℕ) (v : ℕ) (row cells : List (Option ℕ)) → Has (cell_values values cell) v → contains row cells ≡ true
    → Has values v × (contains (Some v ∷ row) (cell ∷ cells) ≡ true)
of_cell values None v row cells has contained = (has, contained)
of_cell values (Some w) v row cells has contained =
    let kept = of_filter (λ u. u == w) values v has in
    (kept.0, and_from (v == w) (contains row cells) kept.1 contained)

contained_rest : (v : ℕ) (row : List (Option ℕ)) (cell : Option ℕ) (cells : List (Option ℕ)) → contains (Some v ∷ row) (cell ∷ cells) ≡ true
    → contains row cells ≡ true
contained_rest v row None cells contained = contained
contained_rest v row (Some w) cells contained = (and_parts (v == w) (contains row cells) contained).1

-- such a row that contains the partial row is one of its completions
pub choice_completes : (lists : List (List ℕ)) (cells row : List (Option ℕ)) → IsChoice lists row → contains row cells ≡ true
    → Has (completions lists cells) row
choice_completes [] cells [] is contained = rw contained (inl refl)
choice_completes [] cells (given ∷ row) is contained = absurd is
choice_completes (values ∷ lists) cells [] is contained = absurd is
choice_completes (values ∷ lists) cells (None ∷ row) is contained = absurd is
choice_completes (values ∷ lists) [] (Some v ∷ row) is contained =
    has_flat (λ w. map (λ row. Some w ∷ row) (completions lists [])) values v (Some v ∷ row) is.0
    (has_map (λ row. Some v ∷ row) (completions lists []) row (choice_completes lists [] row is.1 refl))
choice_completes (values ∷ lists) (cell ∷ cells) (Some v ∷ row) is contained =
    has_flat (λ w. map (λ row. Some w ∷ row) (completions lists cells)) (cell_values values cell) v (Some v ∷ row)
    (has_cell values cell v row cells is.0 contained)
    (has_map (λ row. Some v ∷ row) (completions lists cells) row (choice_completes lists cells row is.1 (contained_rest v row cell cells contained)))

-- and each completion is such a row
pub record IsChosen (lists : List (List ℕ)) (cells row : List (Option ℕ)) : Type 0 where
  pub choice : IsChoice lists row
  pub contained : contains row cells ≡ true

pub completion_is : (lists : List (List ℕ)) (cells row : List (Option ℕ)) → Has (completions lists cells) row → IsChosen lists cells row
completion_is [] cells row has = at (contains [] cells) refl has
  where
    at : (b : Bool) → contains [] cells ≡ b → Has (cond b ([] ∷ []) []) row → IsChosen [] cells row
    at true is (inl same) = subst (IsChosen [] cells) same (record { choice = tt; contained = is })
    at true is (inr has) = absurd has
    at false is has = absurd has
completion_is (values ∷ lists) [] row has =
    let first = of_flat (λ w. map (λ row. Some w ∷ row) (completions lists [])) values row has in
    let rest = of_map (λ row. Some first.0 ∷ row) (completions lists []) row first.2 in
    let later = completion_is lists [] rest.0 rest.1 in
    subst (IsChosen (values ∷ lists) []) rest.2 (record { choice = (first.1, later.choice); contained = refl })
completion_is (values ∷ lists) (cell ∷ cells) row has =
    let first = of_flat (λ w. map (λ row. Some w ∷ row) (completions lists cells)) (cell_values values cell) row has in
    let rest = of_map (λ row. Some first.0 ∷ row) (completions lists cells) row first.2 in
    let later = completion_is lists cells rest.0 rest.1 in
    let own = of_cell values cell first.0 rest.0 cells first.1 later.contained in
    subst (IsChosen (values ∷ lists) (cell ∷ cells)) rest.2 (record { choice = (own.0, later.choice); contained = own.1 })

-- by the number of the parameter
pub record IsListed (values : List ℕ) (cell : Option ℕ) : Type 0 where
  pub assigned : is_some cell ≡ true
  pub listed : Has values (unwrap_or cell 0)

pub choice_at : (lists : List (List ℕ)) (row : List (Option ℕ)) (p : ℕ) → IsChoice lists row → p < length lists
    → IsListed (get_or lists p []) (get_or row p None)
choice_at [] [] p is within = absurd (omega arith)
choice_at [] (given ∷ row) p is within = absurd is
choice_at (values ∷ lists) [] p is within = absurd is
choice_at (values ∷ lists) (None ∷ row) p is within = absurd is
choice_at (values ∷ lists) (Some v ∷ row) zero is within = record { assigned = refl; listed = is.0 }
choice_at (values ∷ lists) (Some v ∷ row) (suc p) is within = choice_at lists row p is.1 (omega arith)

pub choice_length : (lists : List (List ℕ)) (row : List (Option ℕ)) → IsChoice lists row → length row ≡ length lists
choice_length [] [] is = refl
choice_length [] (given ∷ row) is = absurd is
choice_length (values ∷ lists) [] is = absurd is
choice_length (values ∷ lists) (None ∷ row) is = absurd is
choice_length (values ∷ lists) (Some v ∷ row) is = ap suc (choice_length lists row is.1)

pub choice_from : (lists : List (List ℕ)) (row : List (Option ℕ)) → length row ≡ length lists
    → ((p : ℕ) → p < length lists → IsListed (get_or lists p []) (get_or row p None)) → IsChoice lists row
choice_from [] [] long each = tt
choice_from [] (given ∷ row) long each = absurd (omega arith)
choice_from (values ∷ lists) [] long each = absurd (omega arith)
choice_from (values ∷ lists) (None ∷ row) long each = absurd (false≢true (each 0 (omega arith)).assigned)
choice_from (values ∷ lists) (Some v ∷ row) long each =
    ((each 0 (omega arith)).listed, choice_from lists row (omega arith) (λ p within. each (suc p) (omega arith)))

-- such a row gives each parameter a listed value
choice_gives : (lists : List (List ℕ)) (row : List (Option ℕ)) → IsChoice lists row → GivesListed lists row
choice_gives lists row is = record {
  as_long = choice_length lists row is;
  assigned = λ p within. (choice_at lists row p is within).assigned;
  listed = λ p within. contains_member (get_or lists p []) (value_in row p) (choice_at lists row p is within).listed;
}

gives_choice : (lists : List (List ℕ)) (row : List (Option ℕ)) → GivesListed lists row → IsChoice lists row
gives_choice lists row gives =
    choice_from lists row gives.as_long
    (λ p within. record { assigned = gives.assigned p within; listed = has_contained (get_or lists p []) (value_in row p) (gives.listed p within) })

pub completions_are_rows : CompletionsAreRows
completions_are_rows lists cells row = (
  λ has.
      let is = completion_is lists cells row (has_contained (completions lists cells) row has) in
      (choice_gives lists row is.choice, is.contained),
  λ both. contains_member (completions lists cells) row (choice_completes lists cells row (gives_choice lists row both.0) both.1),
)
