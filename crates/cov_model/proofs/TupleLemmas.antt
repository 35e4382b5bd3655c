-- Tuples as partial rows, and what contains them.
use Rattle.std.proofs.Common.{◌≡◌, ℕ, ◌<◌, ◌≤◌, Bool, true, ◌&&◌, List, [], ◌∷◌, length, get_or, replicate, Option, Some, None, is_some, inl, inr}
use Rattle.std.proofs.Common.{◌∙◌, sym, ap, refl, arith}
use Rattle.std.specs.Prelude.{nat_eq}
use Rattle.std.specs.List.{list_all}
use Rattle.std.specs.Option.{option_eq}
use Rattle.std.proofs.lemmas.Bool.{false≢true, cases_eq, and_parts, and_from, eqb-true, eq-eqb, false_from_ne_true}
use Rattle.std.proofs.lemmas.Bool.Decides.{same_from_decides}
use Rattle.std.proofs.lemmas.Option.{none-some, same_Some}
use Rattle.std.proofs.lemmas.List.{get_or-set_same, get_or-set_other, length-set, length-replicate, set_past}
use Rattle.value_text.proofs.ListLemmas.{none_at}
use Rattle.cov_model.specs.believed.Rows.{contains, is_assigned, with_value}
use Rattle.cov_model.specs.Tuples.{IsRising}
use Rattle.cov_model.specs.believed.Tuples.{cells_of}
use Rattle.cov_model.proofs.CellLemmas.{assigned_within, contains-from, contains-get_or}

pub length-cells_of : (n : ℕ) (pairs : List (ℕ × ℕ)) → length (cells_of n pairs) ≡ n
length-cells_of n [] = length-replicate n None
length-cells_of n (pair ∷ pairs) = length-set (cells_of n pairs) pair.0 (Some pair.1) ∙ length-cells_of n pairs

pub behind_first : (first : ℕ × ℕ) (pairs : List (ℕ × ℕ)) → IsRising (first ∷ pairs) → IsRising pairs
behind_first first [] rises = tt
behind_first first (next ∷ pairs) rises = rises.1

without_second : (first next : ℕ × ℕ) (pairs : List (ℕ × ℕ)) → IsRising (first ∷ next ∷ pairs) → IsRising (first ∷ pairs)
without_second first next [] rises = tt
without_second first next (third ∷ pairs) rises = (omega (arith, rises.0, rises.1.0), rises.1.1)

-- the pairs behind the first give its parameter no value
none_again : (n : ℕ) (first : ℕ × ℕ) (pairs : List (ℕ × ℕ)) → IsRising (first ∷ pairs) → get_or (cells_of n pairs) first.0 None ≡ None
none_again n first [] rises = none_at n first.0
none_again n first (next ∷ pairs) rises =
    get_or-set_other (cells_of n pairs) next.0 first.0 (Some next.1) None (λ same. absurd (omega (arith, same, rises.0)))
    ∙ none_again n first pairs (without_second first next pairs rises)

-- every row contains the row without values
pub contains-nothing : (n : ℕ) (cells : List (Option ℕ)) → contains cells (replicate n None) ≡ true
contains-nothing n cells = contains-from cells (replicate n None) (λ p assigned. absurd (false≢true (sym (ap is_some (none_at n p)) ∙ assigned)))

given_here : (row : List (Option ℕ)) (p v q : ℕ) → q ≡ p → q < length row → get_or (with_value row p v) q None ≡ Some v
given_here row p v q same within =
    ap (λ (k : ℕ). get_or (with_value row p v) k None) same ∙ get_or-set_same row p (Some v) None (omega (arith, same, within))

-- a parameter that the one partial row with this value gives a value has a place in the other
within_both : (row other : List (Option ℕ)) (p v q : ℕ) → length row ≡ length other → is_assigned (with_value row p v) q ≡ true → q < length other
within_both row other p v q long assigned =
    let within = assigned_within (with_value row p v) q assigned in
    omega (arith, within, long, length-set row p (Some v))

-- a row contains a partial row with one more value exactly if it contains this value by itself and the partial row
contains-more : (cells row : List (Option ℕ)) (n p v : ℕ) → length row ≡ n → get_or row p None ≡ None
    → contains cells (with_value row p v) ≡ (contains cells (with_value (replicate n None) p v) && contains cells row)
contains-more cells row n p v long free =
    same_from_decides (contains cells (with_value row p v)) (contains cells (with_value (replicate n None) p v) && contains cells row)
    (forward, backward) (λ both. both, λ both. both)
  where
    same_length : length (replicate {A = Option ℕ} n None) ≡ length row
    same_length = length-replicate {A = Option ℕ} n None ∙ sym long

    alone : contains cells (with_value row p v) ≡ true → contains cells (with_value (replicate n None) p v) ≡ true
    alone whole =
        contains-from cells (with_value (replicate n None) p v) (λ q assigned.
        elim (cases_eq q p) [
          | inl same ↦
              let within = within_both (replicate n None) row p v q same_length assigned in
              let there = given_here row p v q same within in
              contains-get_or cells (with_value row p v) q whole (ap is_some there) ∙ there
              ∙ sym (given_here (replicate n None) p v q same (omega (arith, within, same_length)))
          | inr differs ↦
              absurd (false≢true (sym (ap is_some (get_or-set_other (replicate n None) p q (Some v) None differs ∙ none_at n q)) ∙ assigned))
        ])

    others : contains cells (with_value row p v) ≡ true → contains cells row ≡ true
    others whole =
        contains-from cells row (λ q assigned.
        let there : get_or (with_value row p v) q None ≡ get_or row q None =
        get_or-set_other row p q (Some v) None (λ same. false≢true (sym (ap is_some (ap (λ (k : ℕ). get_or row k None) same ∙ free)) ∙ assigned)) in
        contains-get_or cells (with_value row p v) q whole (ap is_some there ∙ assigned) ∙ there)

    forward : contains cells (with_value row p v) ≡ true → (contains cells (with_value (replicate n None) p v) && contains cells row) ≡ true
    forward whole = and_from (contains cells (with_value (replicate n None) p v)) (contains cells row) (alone whole) (others whole)

    backward : (contains cells (with_value (replicate n None) p v) && contains cells row) ≡ true → contains cells (with_value row p v) ≡ true
    backward both =
        let parts = and_parts (contains cells (with_value (replicate n None) p v)) (contains cells row) both in
        contains-from cells (with_value row p v) (λ q assigned.
        elim (cases_eq q p) [
          | inl same ↦
              let within = within_both row (replicate n None) p v q (sym same_length) assigned in
              let there = given_here (replicate n None) p v q same within in
              contains-get_or cells (with_value (replicate n None) p v) q parts.0 (ap is_some there) ∙ there
              ∙ sym (given_here row p v q same (omega (arith, within, same_length)))
          | inr differs ↦
              let there = get_or-set_other row p q (Some v) None differs in
              contains-get_or cells row q parts.1 (sym (ap is_some there) ∙ assigned) ∙ sym there
        ])

-- so it contains rising pairs exactly if it contains each of them by itself
pub contains_each : (n : ℕ) (cells : List (Option ℕ)) (pairs : List (ℕ × ℕ)) → IsRising pairs
    → contains cells (cells_of n pairs) ≡ list_all (λ pair. contains cells (cells_of n (pair ∷ []))) pairs
contains_each n cells [] rises = contains-nothing n cells
contains_each n cells (pair ∷ pairs) rises =
    contains-more cells (cells_of n pairs) n pair.0 pair.1 (length-cells_of n pairs) (none_again n pair pairs rises)
    ∙ ap (λ (b : Bool). contains cells (cells_of n (pair ∷ [])) && b) (contains_each n cells pairs (behind_first pair pairs rises))

-- a single pair is contained where its parameter has its value, or has no place
pub contains-past : (cells : List (Option ℕ)) (p v : ℕ) → length cells ≤ p → contains cells (cells_of (length cells) ((p, v) ∷ [])) ≡ true
contains-past cells p v past =
    ap (contains cells) (set_past (replicate (length cells) None) p (Some v) (omega (arith, past, length-replicate {A = Option ℕ} (length cells) None)))
    ∙ contains-nothing (length cells) cells

pub contains-value : (cells : List (Option ℕ)) (p v : ℕ) → p < length cells
    → option_eq nat_eq (get_or cells p None) (Some v) ≡ contains cells (cells_of (length cells) ((p, v) ∷ []))
contains-value cells p v within = by_cell (get_or cells p None) refl
  where
    one : get_or (cells_of (length cells) ((p, v) ∷ [])) p None ≡ Some v
    one = get_or-set_same (replicate (length cells) None) p (Some v) None (omega (arith, within, length-replicate {A = Option ℕ} (length cells) None))

    given : contains cells (cells_of (length cells) ((p, v) ∷ [])) ≡ true → get_or cells p None ≡ Some v
    given contained = contains-get_or cells (cells_of (length cells) ((p, v) ∷ [])) p contained (ap is_some one) ∙ one

    held : get_or cells p None ≡ Some v → contains cells (cells_of (length cells) ((p, v) ∷ [])) ≡ true
    held gives =
        contains-from cells (cells_of (length cells) ((p, v) ∷ [])) (λ q assigned.
        elim (cases_eq q p) [
          | inl same ↦
              ap (λ (k : ℕ). get_or cells k None) same ∙ gives ∙ sym one
              ∙ ap (λ (k : ℕ). get_or (cells_of (length cells) ((p, v) ∷ [])) k None) (sym same)
          | inr differs ↦
              absurd (false≢true (sym (ap is_some (get_or-set_other (replicate (length cells) None) p q (Some v) None differs ∙ none_at (length cells) q)) ∙ assigned))
        ])

    by_cell : (cell : Option ℕ) → get_or cells p None ≡ cell → option_eq nat_eq cell (Some v) ≡ contains cells (cells_of (length cells) ((p, v) ∷ []))
    by_cell None is =
        sym (false_from_ne_true (contains cells (cells_of (length cells) ((p, v) ∷ []))) (λ contained. none-some v (sym is ∙ given contained)))
    by_cell (Some w) is =
        same_from_decides (nat_eq w v) (contains cells (cells_of (length cells) ((p, v) ∷ [])))
        (λ same. held (is ∙ ap (λ (u : ℕ). Some u) (eqb-true w v same)), λ contained. eq-eqb w v (same_Some w v (sym is ∙ given contained)))
        (λ contained. contained, λ contained. contained)
