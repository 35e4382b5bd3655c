-- What growth leaves of the tuples that it met: each is held by a row, or omitted as not extendable.
use Rattle.std.proofs.Common.{◌≡◌, ℕ, ◌+◌, ◌≤◌, Bool, true, false, ◌||◌, not, cond, List, [], ◌∷◌, ◌++◌}
use Rattle.std.proofs.Common.{length, Option, inl, inr, ◌∙◌, sym, ap, subst, refl, arith, length-append}
use Rattle.std.specs.List.{filter, flat_map, list_all}
use Rattle.std.proofs.lemmas.Bool.{false≢true, cases_Bool, or_left, or_right}
use Rattle.std.proofs.lemmas.List.Elements.{filter-append}
use Rattle.std.proofs.lemmas.List.Folds.{list_any-append}
use Rattle.cov_model.specs.declared.slice.Slice.{Slice}
use Rattle.cov_model.specs.believed.Sound.{ModelView}
use Rattle.cov_model.specs.believed.Rows.{contains}
use Rattle.std.specs.Prelude.{slice_index_or}
use Rattle.cov_model.proofs.CellLemmas.{contains-refl}
use Rattle.definitions.specs.believed.Completion.{is_extendable, preferred_values}
use Rattle.definitions.specs.believed.Growth.{is_uncovered, Grown, across, join, settle, down, column, columns, tuples_in_play}
use Rattle.definitions.proofs.Extendable.{extendable_contains}
use Rattle.definitions.proofs.Members.{Has, of_append, of_any, passes_all}
use Rattle.definitions.proofs.Keeping.{is_held, IsClosed, Keeps, keeps_self, keeps_then, keeps_more, across_widens, join_takes}

-- the tuples, met from the rows, gave what has grown
pub record Settled (extends : List (Option ℕ) → Bool) (tuples rows : List (List (Option ℕ))) (grown : Grown) : Type 0 where
  pub keeps : Keeps extends rows grown.rows
  pub omitted : grown.omitted ≡ filter (λ tuple. not (extends tuple)) tuples
  pub served : (tuple : List (Option ℕ)) → Has tuples tuple → extends tuple ≡ true → is_held grown.rows tuple ≡ true
  pub few : length grown.rows ≤ length rows + length (filter extends tuples)

-- no tuples
settled_none : (extends : List (Option ℕ) → Bool) (rows : List (List (Option ℕ))) (grown : Grown) → grown.rows ≡ rows → grown.omitted ≡ []
    → Settled extends [] rows grown
settled_none extends rows grown same none = record {
  keeps = subst (Keeps extends rows) (sym same) (keeps_self extends rows);
  omitted = none;
  served = λ tuple has. absurd has;
  few = omega (arith, ap length same);
}

-- tuples after tuples
settled_then : (extends : List (Option ℕ) → Bool) (first second rows : List (List (Option ℕ))) (then after grown : Grown) → Settled extends first rows then
    → Settled extends second then.rows after
    → grown.rows ≡ after.rows → grown.omitted ≡ then.omitted ++ after.omitted → Settled extends (first ++ second) rows grown
settled_then extends first second rows then after grown one two same joined = record {
  keeps = subst (Keeps extends rows) (sym same) (keeps_then extends rows then.rows after.rows one.keeps two.keeps);
  omitted = joined ∙ ap (λ ts. ts ++ after.omitted) one.omitted ∙ ap (λ ts. filter (λ tuple. not (extends tuple)) first ++ ts) two.omitted
      ∙ sym (filter-append (λ tuple. not (extends tuple)) first second);
  served = λ tuple has extendable. ap (λ rows. is_held rows tuple) same ∙ elim (of_append first second tuple has) [
    | inl here ↦ two.keeps.held tuple (one.served tuple here extendable)
    | inr there ↦ two.served tuple there extendable
  ];
  few = omega (arith, one.few, two.few, ap length same, ap length (filter-append extends first second), length-append (filter extends first) (filter extends second));
}

-- one tuple that a row holds
settled_held : (extends : List (Option ℕ) → Bool) (tuple : List (Option ℕ)) (rows : List (List (Option ℕ))) (grown : Grown) → extends tuple ≡ true
    → Keeps extends rows grown.rows
    → is_held grown.rows tuple ≡ true → grown.omitted ≡ [] → length grown.rows ≤ length rows + 1 → Settled extends (tuple ∷ []) rows grown
settled_held extends tuple rows grown extendable keeps held none few = record {
  keeps = keeps;
  omitted = none ∙ sym (ap (λ b. cond (not b) (tuple ∷ []) []) extendable);
  served = λ other has passes. one other has;
  few = omega (arith, few, ap length (ap (λ b. cond b (tuple ∷ []) []) extendable));
}
  where
    one : (other : List (Option ℕ)) → Has (tuple ∷ []) other → is_held grown.rows other ≡ true
    one other (inl same) = subst (λ t. is_held grown.rows t ≡ true) same held
    one other (inr none) = absurd none

-- one tuple that isn't extendable
settled_omitted : (extends : List (Option ℕ) → Bool) (tuple : List (Option ℕ)) (rows : List (List (Option ℕ))) (grown : Grown) → extends tuple ≡ false
    → grown.rows ≡ rows
    → grown.omitted ≡ tuple ∷ [] → Settled extends (tuple ∷ []) rows grown
settled_omitted extends tuple rows grown failing same omitted = record {
  keeps = subst (Keeps extends rows) (sym same) (keeps_self extends rows);
  omitted = omitted ∙ sym (ap (λ b. cond (not b) (tuple ∷ []) []) failing);
  served = λ other has passes. absurd (failed other has passes);
  few = omega (arith, ap length same);
}
  where
    failed : (other : List (Option ℕ)) → Has (tuple ∷ []) other → extends other ≡ true → ⊥
    failed other (inl same) passes = false≢true (sym failing ∙ ap extends same ∙ passes)
    failed other (inr none) passes = none

settle_settles : (extends : List (Option ℕ) → Bool) → IsClosed extends → (tuple : List (Option ℕ)) (rows : List (List (Option ℕ)))
    → Settled extends (tuple ∷ []) rows (settle extends tuple rows)
settle_settles extends closed tuple rows =
    let takes = join_takes extends closed tuple rows in
    elim (cases_Bool (join extends tuple rows).taken) [
      | inl taken ↦ rw taken (settled_held extends tuple rows (record { rows = (join extends tuple rows).rows; omitted = []; asked = (join extends tuple rows).asked })
          (takes.extendable taken) takes.keeps (takes.held taken) refl (omega (arith, takes.long)))
      | inr left ↦ elim (cases_Bool (extends tuple)) [
        | inl extendable ↦ rw (left, extendable) (settled_held extends tuple rows (record { rows = rows ++ tuple ∷ []; omitted = []; asked = (join extends tuple rows).asked ++ tuple ∷ [] })
            extendable (keeps_more extends rows tuple extendable)
            (list_any-append (λ row. contains row tuple) rows (tuple ∷ [])
            ∙ or_right (is_held rows tuple) (contains tuple tuple || false) (or_left (contains tuple tuple) false (contains-refl tuple)))
            refl (omega (arith, length-append rows (tuple ∷ []))))
        | inr failing ↦ rw (left, failing)
            (settled_omitted extends tuple rows (record { rows = rows; omitted = tuple ∷ []; asked = (join extends tuple rows).asked ++ tuple ∷ [] }) failing refl refl)
      ]
    ]

-- vertical growth meets one tuple
abbrev met : (List (Option ℕ) → Bool) → List (Option ℕ) → List (List (Option ℕ)) → Grown
met extends tuple rows = cond (is_uncovered rows tuple) (settle extends tuple rows) (record { rows = rows; omitted = []; asked = [] })

met_settles : (extends : List (Option ℕ) → Bool) → IsClosed extends → (tuple : List (Option ℕ)) (rows : List (List (Option ℕ))) → list_all extends rows ≡ true
    → Settled extends (tuple ∷ []) rows (met extends tuple rows)
met_settles extends closed tuple rows all =
    elim (cases_Bool (is_held rows tuple)) [
      | inl held ↦
          let found = of_any (λ row. contains row tuple) rows held in
          let extendable = closed found.0 tuple found.2 (passes_all extends rows found.0 all found.1) in
          rw held (settled_held extends tuple rows (record { rows = rows; omitted = []; asked = [] }) extendable (keeps_self extends rows) held refl (omega arith))
      | inr free ↦ rw free (settle_settles extends closed tuple rows)
    ]

pub down_settles : (extends : List (Option ℕ) → Bool) → IsClosed extends → (tuples rows : List (List (Option ℕ))) → list_all extends rows ≡ true
    → Settled extends tuples rows (down extends tuples rows)
down_settles extends closed [] rows all = settled_none extends rows (down extends [] rows) refl refl
down_settles extends closed (tuple ∷ tuples) rows all =
    let first = met_settles extends closed tuple rows all in
    let later = down_settles extends closed tuples (met extends tuple rows).rows (first.keeps.all all) in
    settled_then extends (tuple ∷ []) tuples rows (met extends tuple rows) (down extends tuples (met extends tuple rows).rows)
    (down extends (tuple ∷ tuples) rows) first later refl refl

-- a column
pub column_settles : (extends : List (Option ℕ) → Bool) → IsClosed extends → (p : ℕ) (values : List ℕ) (tuples rows : List (List (Option ℕ)))
    → list_all extends rows ≡ true
    → Settled extends tuples rows (column extends p values tuples rows)
column_settles extends closed p values tuples rows all =
    let widens = across_widens extends p values tuples [] rows in
    let settled = down_settles extends closed tuples (across extends p values tuples [] rows).rows (widens.keeps.all all) in
    record {
      keeps = keeps_then extends rows (across extends p values tuples [] rows).rows (column extends p values tuples rows).rows widens.keeps settled.keeps;
      omitted = settled.omitted;
      served = settled.served;
      few = omega (arith, settled.few, widens.long);
    }

-- the columns of a slice
pub columns_settle : (m : ModelView) (pref : List (List ℕ)) (slice : Slice) (params : List ℕ) (rows : List (List (Option ℕ)))
    → list_all (is_extendable m slice) rows ≡ true
    → Settled (is_extendable m slice) (flat_map (tuples_in_play m slice) params) rows (columns m pref slice params rows)
columns_settle m pref slice [] rows all = settled_none (is_extendable m slice) rows (columns m pref slice [] rows) refl refl
columns_settle m pref slice (p ∷ params) rows all =
    let values = slice_index_or (preferred_values m pref slice) p [] in
    let first = column_settles (is_extendable m slice) (extendable_contains m slice) p values (tuples_in_play m slice p) rows all in
    let grown = column (is_extendable m slice) p values (tuples_in_play m slice p) rows in
    let later = columns_settle m pref slice params grown.rows (first.keeps.all all) in
    settled_then (is_extendable m slice) (tuples_in_play m slice p) (flat_map (tuples_in_play m slice) params) rows grown
    (columns m pref slice params grown.rows)
    (columns m pref slice (p ∷ params) rows) first later refl refl
