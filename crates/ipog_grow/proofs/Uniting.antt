-- Partial rows that agree and are united, place by place.
use Rattle.std.proofs.Common.{◌≡◌, ◌≢◌, ℕ, ◌+◌, ◌<◌, Bool, true, false, cond, ◌&&◌, List, [], ◌∷◌, ◌++◌, length, drop, Option, Some, None, is_some}
use Rattle.std.proofs.Common.{get_or, nat_eq, ◌∙◌, sym, ap, refl, arith, inl, inr, add-one, drop-cons}
use Rattle.std.specs.List.{range_with_len}
use Rattle.std.proofs.lemmas.Bool.{cases_Bool, cases_eq, false_from_ne_true, false≢true}
use Rattle.std.proofs.lemmas.List.{same_lists, get_or_default}
use Rattle.value_text.proofs.ListLemmas.{none_of}
use Rattle.cov_model.specs.believed.Rows.{is_assigned}
use Rattle.cov_model.proofs.CellLemmas.{assigned_within}
use Rattle.definitions.specs.believed.Demand.{is_among}
use Rattle.definitions.specs.believed.Growth.{agrees, union}
use Rattle.definitions.proofs.Members.{Has, among_has, has_filter, has_range}
use Rattle.refutation.proofs.HolderLemmas.{among_last}
use Rattle.feasibility.proofs.Looking.{among_other}
use Rattle.ipog_grow.specs.Growing.{given_params}
use Rattle.ipog_grow.proofs.Tuples.{cell_or_none, get_or-union, length-union}

-- two cells don't have different values
abbrev pub cells_agree : Option ℕ → Option ℕ → Bool
cells_agree (Some v) (Some w) = nat_eq v w
cells_agree (Some v) None = true
cells_agree None cell = true

agrees-cons : (a b : Option ℕ) (row tuple : List (Option ℕ)) → agrees (a ∷ row) (b ∷ tuple) ≡ (cells_agree a b && agrees row tuple)
agrees-cons (Some v) (Some w) row tuple = refl
agrees-cons (Some v) None row tuple = refl
agrees-cons None b row tuple = refl

pub agrees-at : (row tuple : List (Option ℕ)) (p : ℕ) → p < length row → length tuple ≡ length row
    → agrees (drop p row) (drop p tuple) ≡ (cells_agree (get_or row p None) (get_or tuple p None) && agrees (drop (p + 1) row) (drop (p + 1) tuple))
agrees-at row tuple p within long =
    ap (λ (list : List (Option ℕ)). agrees list (drop p tuple)) (drop-cons row p None within ∙ ap (λ (k : ℕ). get_or row p None ∷ drop k row) (sym (add-one p)))
    ∙ ap (agrees (get_or row p None ∷ drop (p + 1) row)) (drop-cons tuple p None (omega (arith, long))
    ∙ ap (λ (k : ℕ). get_or tuple p None ∷ drop k tuple) (sym (add-one p)))
    ∙ agrees-cons (get_or row p None) (get_or tuple p None) (drop (p + 1) row) (drop (p + 1) tuple)

-- the value of a parameter in a partial row, and else the one that a tuple gives it, if it is one of these parameters
abbrev pub united_cell : List (Option ℕ) → List (Option ℕ) → List ℕ → ℕ → Option ℕ
united_cell row tuple done q = cond (is_some (get_or row q None)) (get_or row q None) (cond (is_among done q) (get_or tuple q None) None)

-- cells have these values
pub record UnitedAt (row tuple cells : List (Option ℕ)) (done : List ℕ) : Type 0 where
  pub long : length cells ≡ length row
  pub each : (q : ℕ) → get_or cells q None ≡ united_cell row tuple done q

pub united-start : (row tuple : List (Option ℕ)) → UnitedAt row tuple row []
united-start row tuple = record { long = refl; each = λ q. cell_or_none (get_or row q None) }

-- one parameter more, which keeps its value, or gets that of the tuple
pub united-more : (row tuple cells new : List (Option ℕ)) (done : List ℕ) (p : ℕ) → UnitedAt row tuple cells done → length new ≡ length cells
    → ((q : ℕ) → q ≢ p → get_or new q None ≡ get_or cells q None)
    → get_or new p None ≡ cond (is_some (get_or cells p None)) (get_or cells p None) (get_or tuple p None) → UnitedAt row tuple new (done ++ p ∷ [])
united-more row tuple cells new done p to long others own = record {
  long = long ∙ to.long;
  each = λ q. elim (cases_eq q p) [
    | inl same ↦
        ap (λ (k : ℕ). get_or new k None) same ∙ own
        ∙ ap (λ (cell : Option ℕ). cond (is_some cell) cell (get_or tuple p None)) (to.each p)
        ∙ twice (get_or row p None) (get_or tuple p None) (is_among done p)
        ∙ sym (ap (λ (b : Bool). cond (is_some (get_or row p None)) (get_or row p None) (cond b (get_or tuple p None) None)) (among_last done p))
        ∙ ap (united_cell row tuple (done ++ p ∷ [])) (sym same)
    | inr differs ↦
        others q differs ∙ to.each q
        ∙ sym (ap (λ (b : Bool). cond (is_some (get_or row q None)) (get_or row q None) (cond b (get_or tuple q None) None)) (among_other done p q differs))
  ];
}
  where
    twice : (r t : Option ℕ) (b : Bool)
        → cond (is_some (cond (is_some r) r (cond b t None))) (cond (is_some r) r (cond b t None)) t ≡ cond (is_some r) r (cond true t None)
    twice (Some v) t b = refl
    twice None (Some w) true = refl
    twice None None true = refl
    twice None t false = refl

-- a parameter that isn't among those to which a tuple gives values has none
pub given_away : (tuple : List (Option ℕ)) (q : ℕ) → is_among (given_params tuple) q ≡ false → get_or tuple q None ≡ None
given_away tuple q away =
    none_of (get_or tuple q None)
    (false_from_ne_true (is_assigned tuple q) (λ assigned. false≢true (sym away ∙ among_has (given_params tuple) q (listed assigned))))
  where
    listed : is_assigned tuple q ≡ true → Has (given_params tuple) q
    listed assigned =
        has_filter (is_assigned tuple) (range_with_len 0 (length tuple)) q
        (has_range 0 (length tuple) q (omega arith) (omega (arith, assigned_within tuple q assigned))) assigned

pub united-all : (row tuple cells : List (Option ℕ)) → length tuple ≡ length row → UnitedAt row tuple cells (given_params tuple) → cells ≡ union row tuple
united-all row tuple cells long to =
    let same : length (union row tuple) ≡ length row = length-union row tuple (sym long) in
    same_lists cells (union row tuple) (to.long ∙ sym same) (λ q d within.
    get_or_default cells q d None within ∙ whole q ∙ get_or_default (union row tuple) q None d (omega (arith, within, to.long, same)))
  where
    beside : (q : ℕ) → cond (is_among (given_params tuple) q) (get_or tuple q None) None ≡ get_or tuple q None
    beside q = elim (cases_Bool (is_among (given_params tuple) q)) [
      | inl among ↦ ap (λ (b : Bool). cond b (get_or tuple q None) None) among
      | inr away ↦ ap (λ (b : Bool). cond b (get_or tuple q None) None) away ∙ sym (given_away tuple q away)
    ]

    whole : (q : ℕ) → get_or cells q None ≡ get_or (union row tuple) q None
    whole q =
        to.each q ∙ ap (λ (cell : Option ℕ). cond (is_some (get_or row q None)) (get_or row q None) cell) (beside q) ∙ sym (get_or-union row tuple q)
