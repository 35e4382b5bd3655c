-- Cells contain a tuple of a set exactly if they give its members their values.
use Rattle.std.proofs.Common.{inl, inr, ◌≡◌, ℕ, zero, suc, ◌+◌, ◌<◌, ◌≤◌, ◌&&◌, List, [], ◌∷◌, Option, Some, None, map, length}
use Rattle.std.proofs.Common.{get_or, drop, ◌∙◌, refl, sym, subst, ap, arith, zero-add, drop-cons, add-one}
use Rattle.std.specs.Prelude.{◌==◌, if◌then◌else◌}
use Rattle.std.specs.List.{range_with_len}
use Rattle.std.proofs.lemmas.Bool.{cases_eq, eq-eqb}
use Rattle.cov_model.specs.believed.Sound.{ModelView}
use Rattle.cov_model.specs.believed.Rows.{contains}
use Rattle.tuple_index.specs.Plan.{tuple_cells, value_given}
use Rattle.tuple_index.specs.Places.{RisesFrom}
use Rattle.tuple_index.proofs.ListingLemmas.{apart_test, value_given_before}
use Rattle.uncovered_table.specs.Held.{gives_values, is_value}

-- one cell and the others
past_none : (given : Option ℕ) (row cells : List (Option ℕ)) (cell : Option ℕ) → cell ≡ None → contains (given ∷ row) (cell ∷ cells) ≡ contains row cells
past_none given row cells cell none = ap (λ c. contains (given ∷ row) (c ∷ cells)) none

at_some : (given : Option ℕ) (row cells : List (Option ℕ)) (cell : Option ℕ) (v : ℕ) → cell ≡ Some v
    → contains (given ∷ row) (cell ∷ cells) ≡ (is_value given v && contains row cells)
at_some None row cells cell v some = ap (λ c. contains (None ∷ row) (c ∷ cells)) some
at_some (Some w) row cells cell v some = ap (λ c. contains (Some w ∷ row) (c ∷ cells)) some

-- the cells from p on, and the members among them
held_from : (cells : List (Option ℕ)) (whole chosen : List ℕ) (n p : ℕ) (set values : List ℕ) → length cells ≡ p + n → RisesFrom p (p + n) set
    → length values ≡ length set
    → ((q : ℕ) → p ≤ q → value_given whole chosen q ≡ value_given set values q)
    → contains (drop p cells) (map (value_given whole chosen) (range_with_len p n)) ≡ gives_values cells set values
held_from cells whole chosen zero p [] values long rises as_many same = refl
held_from cells whole chosen zero p (q ∷ set) values long rises as_many same = absurd (omega (arith, rises.0, rises.1))
held_from cells whole chosen (suc n) p [] values long rises as_many same =
    let within : p < length cells = omega (arith, long) in
    let rest = held_from cells whole chosen n (p + 1) [] values (omega (arith, long)) tt as_many (λ q least. same q (omega (arith, least))) in
    ap (λ row. contains row (map (value_given whole chosen) (range_with_len p (suc n)))) (drop-cons cells p None within)
    ∙ past_none (get_or cells p None) (drop (suc p) cells) (map (value_given whole chosen) (range_with_len (p + 1) n)) (value_given whole chosen p)
    (same p (omega arith))
    ∙ ap (λ k. contains (drop k cells) (map (value_given whole chosen) (range_with_len (p + 1) n))) (sym (add-one p)) ∙ rest
held_from cells whole chosen (suc n) p (q ∷ set) [] long rises as_many same = absurd (omega (arith, as_many))
held_from cells whole chosen (suc n) p (q ∷ set) (v ∷ values) long rises as_many same =
    let within : p < length cells = omega (arith, long) in
    let end : p + suc n ≡ p + 1 + n = omega arith in
    let later = map (value_given whole chosen) (range_with_len (p + 1) n) in
    let opened = ap (λ row. contains row (map (value_given whole chosen) (range_with_len p (suc n)))) (drop-cons cells p None within) in
    let next = ap (λ k. contains (drop k cells) later) (sym (add-one p)) in
    elim (cases_eq q p) [
      | inl here ↦
          let first : value_given whole chosen p ≡ Some v = same p (omega arith) ∙ rw (ap (λ s. s == p) here ∙ eq-eqb p p refl) refl in
          let rise_on : RisesFrom (p + 1) (p + 1 + n) set = subst (λ k. RisesFrom (p + 1) k set) end
          (subst (λ k. RisesFrom (k + 1) (p + suc n) set) here rises.2) in
          let rest = held_from cells whole chosen n (p + 1) set values (omega (arith, long)) rise_on (omega (arith, as_many))
          (λ r least. same r (omega (arith, least)) ∙ ap (λ b. if b then Some v else value_given set values r) (apart_test q r (omega (arith, here, least)))) in
          opened ∙ at_some (get_or cells p None) (drop (suc p) cells) later (value_given whole chosen p) v first
          ∙ ap (λ b. is_value (get_or cells p None) v && b) (next ∙ rest)
          ∙ ap (λ k. is_value (get_or cells k None) v && gives_values cells set values) (sym here)
      | inr apart ↦
          let rise_on : RisesFrom (p + 1) (p + 1 + n) (q ∷ set) = subst (λ k. RisesFrom (p + 1) k (q ∷ set)) end
          (omega (arith, rises.0, apart), rises.1, rises.2) in
          let rest = held_from cells whole chosen n (p + 1) (q ∷ set) (v ∷ values) (omega (arith, long)) rise_on as_many
          (λ r least. same r (omega (arith, least))) in
          opened ∙ past_none (get_or cells p None) (drop (suc p) cells) later (value_given whole chosen p)
          (same p (omega arith) ∙ value_given_before (q ∷ set) (v ∷ values) p (p + 1 + n) rise_on)
          ∙ next ∙ rest
    ]

-- the cells contain the tuple exactly if they give the values
pub contains-tuple : (m : ModelView) (cells : List (Option ℕ)) (set values : List ℕ) → length cells ≡ length m.params → RisesFrom 0 (length m.params) set
    → length values ≡ length set → contains cells (tuple_cells m set values) ≡ gives_values cells set values
contains-tuple m cells set values long rises as_many =
    held_from cells set values (length m.params) 0 set values (long ∙ sym (zero-add (length m.params)))
    (subst (λ k. RisesFrom 0 k set) (sym (zero-add (length m.params))) rises) as_many (λ q least. refl)
