-- Nodes of a search: what setting, clearing and filling cells gives.
use Rattle.std.proofs.Common.{◌≡◌, ℕ, zero, suc, ◌+◌, ◌<◌, ◌≤◌, true, ◌==◌, List, [], ◌∷◌, length, Option, Some, None, get_or, set, ◌∙◌, sym, ap, refl, arith, inl, inr, eq-eqb}
use Rattle.std.proofs.lemmas.Bool.{cases_eq}
use Rattle.std.proofs.lemmas.List.{get_or-set_other, get_or-set_same, get_or_default, length-replicate, length-set, same_lists, set-get_or, set-set}
use Rattle.std.proofs.lemmas.List.Folds.{list_any_at}
use Rattle.cov_model.specs.believed.Sound.{ModelView}
use Rattle.cov_model.specs.believed.Rows.{with_value}
use Rattle.definitions.specs.believed.Demand.{is_among}
use Rattle.feasibility.specs.Path.{filled, filled_cell}
use Rattle.feasibility.specs.Tree.{no_values}
pub use Rattle.value_text.proofs.ListLemmas.{none_of}
pub use Rattle.refutation.proofs.PairLemmas.{FitsModel-with_value}

-- a cell that is set and cleared is as before
pub set_clear : (cells : List (Option ℕ)) (p v : ℕ) → get_or cells p None ≡ None → set (with_value cells p v) p None ≡ cells
set_clear cells p v none = set-set cells p (Some v) None ∙ ap (λ (cell : Option ℕ). set cells p cell) (sym none) ∙ set-get_or cells p None

-- a partial row without values has a place for each parameter
pub length-none : (m : ModelView) (cells : List (Option ℕ)) → cells ≡ no_values m → length cells ≡ length m.params
length-none m cells none = ap length none ∙ length-replicate (length m.params) None

-- a value at a place of a list is listed
pub listed_at : (values list : List ℕ) (i : ℕ) → values ≡ list → i < length values → is_among list (get_or values i 0) ≡ true
listed_at values list i is within =
    ap (λ (numbers : List ℕ). is_among numbers (get_or values i 0)) (sym is) ∙ list_any_at (λ k. k == get_or values i 0) values i 0 within (eq-eqb _ _ refl)

pub length-filled : (lists : List (List ℕ)) (cells : List (Option ℕ)) → length (filled lists cells) ≡ length cells
length-filled lists [] = refl
length-filled [] (cell ∷ cells) = refl
length-filled (values ∷ rest) (cell ∷ cells) = ap suc (length-filled rest cells)

get_or-filled : (lists : List (List ℕ)) (cells : List (Option ℕ)) (p : ℕ) → p < length cells → p < length lists
    → get_or (filled lists cells) p None ≡ filled_cell (get_or lists p []) (get_or cells p None)
get_or-filled lists [] p within listed = absurd (omega arith)
get_or-filled [] (cell ∷ cells) p within listed = absurd (omega arith)
get_or-filled (values ∷ rest) (cell ∷ cells) zero within listed = refl
get_or-filled (values ∷ rest) (cell ∷ cells) (suc p) within listed = get_or-filled rest cells p (omega arith) (omega arith)

-- the cells before a place are filled, the others as at the start
pub record FilledTo (lists : List (List ℕ)) (start cells : List (Option ℕ)) (p : ℕ) : Type 0 where
  pub long : length cells ≡ length start
  pub done : (q : ℕ) → q < p → get_or cells q None ≡ get_or (filled lists start) q None
  pub rest : (q : ℕ) → p ≤ q → get_or cells q None ≡ get_or start q None

pub filled_more : (lists : List (List ℕ)) (start cells : List (Option ℕ)) (p : ℕ) → p < length start → p < length lists → FilledTo lists start cells p
    → FilledTo lists start (set cells p (filled_cell (get_or lists p []) (get_or cells p None))) (p + 1)
filled_more lists start cells p within listed to = record {
  long = length-set cells p _ ∙ to.long;
  done = λ q before.
      elim (cases_eq q p) [
        | inl same ↦
            ap (λ (k : ℕ). get_or (set cells p (filled_cell (get_or lists p []) (get_or cells p None))) k None) same
            ∙ get_or-set_same cells p _ None (omega (arith, to.long))
            ∙ ap (λ (cell : Option ℕ). filled_cell (get_or lists p []) cell) (to.rest p (omega arith))
            ∙ sym (get_or-filled lists start p within listed)
            ∙ ap (λ (k : ℕ). get_or (filled lists start) k None) (sym same)
        | inr differs ↦ get_or-set_other cells p q _ None differs ∙ to.done q (omega (arith, differs))
      ];
  rest = λ q after. get_or-set_other cells p q _ None (λ same. omega (arith, same)) ∙ to.rest q (omega arith);
}

pub filled_all : (lists : List (List ℕ)) (start cells : List (Option ℕ)) (p : ℕ) → p ≡ length start → FilledTo lists start cells p
    → cells ≡ filled lists start
filled_all lists start cells p whole to =
    same_lists cells (filled lists start) (to.long ∙ sym (length-filled lists start)) (λ q d within.
    get_or_default cells q d None within ∙ to.done q (omega (arith, to.long))
    ∙ get_or_default (filled lists start) q None d (omega (arith, to.long, length-filled lists start)))
