-- A cell is filled: the scores are the gains, and the best values are those by falling gain.
use Rattle.std.proofs.Common.{◌≡◌, ℕ, ◌<◌, ◌≤◌, Bool, true, false, cond, List, [], ◌∷◌, map, length, filter, Option, Some, None, unwrap_or, get_or, set}
use Rattle.std.proofs.Common.{All, ◌∙◌, sym, ap, refl, arith, inl, inr, zero-add, subst}
use Rattle.std.specs.List.{range_with_len}
use Rattle.std.proofs.lemmas.Bool.{false≢true, cases_lt}
use Rattle.std.proofs.lemmas.List.{get_or_past, get_or-set_same}
use Rattle.std.proofs.lemmas.List.Elements.{All-head, All-tail}
use Rattle.std.proofs.lemmas.List.FromFn.{length-map-range_with_len, get_or-map-range_with_len}
use Rattle.value_text.proofs.ListLemmas.{length-filter-le}
use Rattle.cov_model.proofs.CellLemmas.{contains-value_in}
use Rattle.cov_model.specs.believed.Sound.{ModelView, param_at}
use Rattle.cov_model.specs.declared.slice.Slice.{Slice}
use Rattle.cov_model.specs.believed.Rows.{contains, is_assigned, value_in, with_value}
use Rattle.cov_model.specs.believed.Slices.{slice_values}
use Rattle.definitions.specs.believed.Demand.{is_among}
use Rattle.definitions.specs.believed.Completion.{falling, preferred_values}
use Rattle.definitions.specs.believed.Growth.{first_extendable, is_uncovered}
use Rattle.definitions.proofs.PartialRowLemmas.{get_or-preferred_values}
use Rattle.feasibility.proofs.Extendable.{preferred_listed, slice_exist}
use Rattle.uncovered_table.specs.Open.{OpenView, gain}
use Rattle.ipog_grow.specs.Growing.{IsInPlay, open_tuples}
use Rattle.full_search.specs.Questions.{QuestionsView}
use Rattle.ipog_grow.specs.Asking.{IsSoundContext, extends, tried, filled, Grows}
use Rattle.ipog_grow.proofs.Falling.{falling-same, falling-filter}
use Rattle.ipog_grow.proofs.Table.{gain-counts}

filter-empty : (test : List (Option ℕ) → Bool) (tuples : List (List (Option ℕ))) → All (λ tuple. test tuple ≡ false) tuples → filter test tuples ≡ []
filter-empty test [] all = refl
filter-empty test (tuple ∷ tuples) all =
    ap (λ (b : Bool). cond b (tuple ∷ filter test tuples) (filter test tuples)) (All-head (λ t. test t ≡ false) tuple tuples all)
    ∙ filter-empty test tuples (All-tail (λ t. test t ≡ false) tuple tuples all)

-- a value that isn't of the slice gains nothing
gain-none : (m : ModelView) (slice : Slice) (tuples : List (List (Option ℕ))) (row : List (Option ℕ)) (p v : ℕ) → p < length row
    → All (IsInPlay m slice p) tuples
    → is_among (get_or (slice_values m slice) p []) v ≡ false → length (filter (contains (with_value row p v)) tuples) ≡ 0
gain-none m slice tuples row p v within are other =
    ap length (filter-empty (contains (with_value row p v)) tuples (λ i d below. fails (get_or tuples i d) (are i d below)))
  where
    fails : (tuple : List (Option ℕ)) → IsInPlay m slice p tuple → contains (with_value row p v) tuple ≡ false
    fails tuple is = by_case (contains (with_value row p v) tuple) refl
      where
        by_case : (b : Bool) → contains (with_value row p v) tuple ≡ b → b ≡ false
        by_case true held =
            let same : v ≡ value_in tuple p =
            sym (ap (λ (cell : Option ℕ). unwrap_or cell 0) (get_or-set_same row p (Some v) None within))
            ∙ contains-value_in (with_value row p v) tuple p held is.own in
            absurd (false≢true (sym other ∙ ap (is_among (get_or (slice_values m slice) p [])) same ∙ is.grows.of.listed p is.own))
        by_case false held = refl

-- the scores of the values of a column in a row
pub record Scored (context : QuestionsView) (table : OpenView) (p : ℕ) (row : List (Option ℕ)) (scores : List ℕ) : Type 0 where
  pub gains : (v : ℕ) → v < length scores → get_or scores v 0 ≡ length (filter (contains (with_value row p v)) (open_tuples table p))
  pub listed : (v : ℕ) → 0 < get_or scores v 0 → is_among (get_or (slice_values context.model context.slice) p []) v ≡ true
  pub bounded : All (λ score. score ≤ length (open_tuples table p)) scores

pub scored : (context : QuestionsView) (table : OpenView) (p : ℕ) (row : List (Option ℕ)) (n : ℕ) (scores : List ℕ) → p < length row
    → All (IsInPlay context.model context.slice p) (open_tuples table p) → scores ≡ map (gain table row p) (range_with_len 0 n)
    → Scored context table p row scores
scored context table p row n scores within are is = record {
  gains = λ v below. gain_at v below;
  listed = λ v some. listed v some (is_among (get_or (slice_values context.model context.slice) p []) v) refl;
  bounded = λ i d below. bound i d below;
}
  where
    long : length scores ≡ n
    long = ap length is ∙ length-map-range_with_len (gain table row p) 0 n

    gain_or : (v d : ℕ) → v < length scores → get_or scores v d ≡ length (filter (contains (with_value row p v)) (open_tuples table p))
    gain_or v d below =
        ap (λ (list : List ℕ). get_or list v d) is ∙ get_or-map-range_with_len (gain table row p) 0 n v v d (omega (arith, below, long)) (zero-add v)
        ∙ gain-counts table row p v

    gain_at : (v : ℕ) → v < length scores → get_or scores v 0 ≡ length (filter (contains (with_value row p v)) (open_tuples table p))
    gain_at v below = gain_or v 0 below

    listed : (v : ℕ) → 0 < get_or scores v 0 → (b : Bool) → is_among (get_or (slice_values context.model context.slice) p []) v ≡ b → b ≡ true
    listed v some true own = refl
    listed v some false other =
        elim (cases_lt v (length scores)) [
          | inl below ↦ absurd (omega (arith, some, gain_at v below, gain-none context.model context.slice (open_tuples table p) row p v within are other))
          | inr past ↦ absurd (omega (arith, some, get_or_past scores v 0 past))
        ]

    bound : (i d : ℕ) → i < length scores → get_or scores i d ≤ length (open_tuples table p)
    bound i d below = omega (arith, gain_or i d below, length-filter-le (contains (with_value row p i)) (open_tuples table p))

-- a partial row that has a value in the column stays
pub filled-given : (context : QuestionsView) (p : ℕ) (rows tuples : List (List (Option ℕ))) (row : List (Option ℕ)) → is_assigned row p ≡ true
    → filled context p rows tuples row ≡ record { row = row; asked = [] }
filled-given context p rows tuples row given =
    ap (λ (b : Bool). cond b (record { row = row; asked = [] })
    (first_extendable (extends context) row (map (with_value row p)
    (falling (length tuples) (λ v. length (filter (contains (with_value row p v)) (filter (is_uncovered rows) tuples)))
    (get_or (preferred_values context.model context.prefs context.slice) p []))))) given

-- else its values are tried by their scores
pub filled-tried : (context : QuestionsView) (table : OpenView) (p : ℕ) (rows tuples : List (List (Option ℕ))) (row : List (Option ℕ))
    (scores order : List ℕ) → IsSoundContext context
    → p < length context.model.params → order ≡ get_or context.prefs p [] → length scores ≡ length (param_at context.model.params p).values
    → open_tuples table p ≡ filter (is_uncovered rows) tuples → Scored context table p row scores → is_assigned row p ≡ false
    → filled context p rows tuples row ≡ tried context (length tuples) scores order p row
filled-tried context table p rows tuples row scores order is within own long moment scored free =
    ap (λ (b : Bool). cond b (record { row = row; asked = [] })
    (first_extendable (extends context) row (map (with_value row p) (falling (length tuples) gains values)))) free
    ∙ ap (λ (list : List ℕ). first_extendable (extends context) row (map (with_value row p) list))
    (falling-same (length tuples) gains (λ v. get_or scores v 0) values (λ v among. same v among)
    ∙ ap (falling (length tuples) (λ v. get_or scores v 0)) listed
    ∙ falling-filter (length tuples) (λ v. get_or scores v 0) (is_among (get_or (slice_values context.model context.slice) p [])) (get_or context.prefs p [])
    (λ v other. none v other)
    ∙ ap (falling (length tuples) (λ v. get_or scores v 0)) (sym own))
  where
    values : List ℕ
    values = get_or (preferred_values context.model context.prefs context.slice) p []

    gains : ℕ → ℕ
    gains v = length (filter (contains (with_value row p v)) (filter (is_uncovered rows) tuples))

    listed : values ≡ filter (is_among (get_or (slice_values context.model context.slice) p [])) (get_or context.prefs p [])
    listed = get_or-preferred_values context.model context.prefs context.slice p within

    same : (v : ℕ) → is_among values v ≡ true → gains v ≡ get_or scores v 0
    same v among =
        ap (λ list. length (filter (contains (with_value row p v)) list)) (sym moment)
        ∙ sym (scored.gains v (omega (
          arith,
          long,
          slice_exist context.model context.slice p v is.slice within
              (preferred_listed context.model context.prefs context.slice p v among),
        )))

    none : (v : ℕ) → is_among (get_or (slice_values context.model context.slice) p []) v ≡ false → get_or scores v 0 ≡ 0
    none v other =
        elim (cases_lt 0 (get_or scores v 0)) [
          | inl some ↦ absurd (false≢true (sym other ∙ scored.listed v some))
          | inr none_is ↦ omega arith
        ]

-- what a cell gets, by the scores of its values
pub record IsFilledBy (context : QuestionsView) (p : ℕ) (rows tuples : List (List (Option ℕ))) (row : List (Option ℕ)) (scores order : List ℕ) : Type 0 where
  pub same : filled context p rows tuples row ≡ tried context (length tuples) scores order p row
  pub most : All (λ score. score ≤ length tuples) scores

pub fills : {context : QuestionsView} {p : ℕ} {row : List (Option ℕ)} {scores order : List ℕ} {rows tuples : List (List (Option ℕ))} (table : OpenView) (n : ℕ)
    → IsSoundContext context → p < length context.model.params → order ≡ get_or context.prefs p []
    → length scores ≡ length (param_at context.model.params p).values
    → All (IsInPlay context.model context.slice p) (open_tuples table p) → Grows context row → scores ≡ map (gain table row p) (range_with_len 0 n)
    → is_assigned row p ≡ false → open_tuples table p ≡ filter (is_uncovered rows) tuples → IsFilledBy context p rows tuples row scores order
fills {context} {p} {row} {scores} {order} {rows} {tuples} table n is within own long in_play grows gains free moment =
    let s = scored context table p row n scores (omega (arith, within, grows.of.fits.as_long)) in_play gains in
    record {
      same = filled-tried context table p rows tuples row scores order is within own long moment s free;
      most = λ i d below. omega (arith, s.bounded i d below, ap length moment, length-filter-le (is_uncovered rows) tuples);
    }

-- the row at a place became this one, and no other row another one
pub record IsPutBack (rows after : List (List (Option ℕ))) (i : ℕ) (row : List (Option ℕ)) : Type 0 where
  pub is : get_or after i [] ≡ row
  pub others : after ≡ set rows i (get_or after i [])

-- a copy of the row was given a value, and so was the row
pub put_back : {rows after : List (List (Option ℕ))} {i : ℕ} {copy row : List (Option ℕ)} (p v : ℕ) → i < length rows → copy ≡ get_or rows i []
    → row ≡ set copy p (Some v) → after ≡ set rows i (set (get_or rows i []) p (Some v)) → IsPutBack rows after i row
put_back {rows} {after} {i} {copy} {row} p v within read given put =
    let same : set (get_or rows i []) p (Some v) ≡ row = ap (λ r. set r p (Some v)) (sym read) ∙ sym given in
    let there : get_or after i [] ≡ row =
    ap (λ list. get_or list i []) put ∙ get_or-set_same rows i (set (get_or rows i []) p (Some v)) [] within ∙ same in
    record { is = there; others = put ∙ ap (set rows i) (same ∙ sym there) }

-- the same of a copy of the row
pub record IsFilledFrom (context : QuestionsView) (p : ℕ) (rows tuples : List (List (Option ℕ))) (row copy : List (Option ℕ)) (scores order : List ℕ) : Type 0 where
  pub same : filled context p rows tuples row ≡ tried context (length tuples) scores order p copy
  pub most : All (λ score. score ≤ length tuples) scores

pub fills_copy : {context : QuestionsView} {p : ℕ} {row copy : List (Option ℕ)} {scores order : List ℕ} {rows tuples : List (List (Option ℕ))} (table : OpenView) (n : ℕ)
    → IsSoundContext context → p < length context.model.params → order ≡ get_or context.prefs p []
    → length scores ≡ length (param_at context.model.params p).values
    → All (IsInPlay context.model context.slice p) (open_tuples table p) → Grows context row → copy ≡ row
    → scores ≡ map (gain table copy p) (range_with_len 0 n)
    → is_assigned row p ≡ false → open_tuples table p ≡ filter (is_uncovered rows) tuples → IsFilledFrom context p rows tuples row copy scores order
fills_copy {context} {p} {row} {copy} {scores} {order} {rows} {tuples} table n is within own long in_play grows read gains free moment =
    let by = fills table n is within own long in_play grows (subst (λ (r : List (Option ℕ)). scores ≡ map (gain table r p) (range_with_len 0 n)) read gains) free
    moment in
    record { same = by.same ∙ ap (tried context (length tuples) scores order p) (sym read); most = by.most }
