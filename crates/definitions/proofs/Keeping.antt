-- What a step of growth leaves of the partial rows that it began with.
use Rattle.std.proofs.Common.{◌≡◌, ℕ, suc, Bool, true, false, ◌||◌, ◌&&◌, List, [], ◌∷◌, ◌++◌, map, length}
use Rattle.std.proofs.Common.{Option, inl, inr, ◌∙◌, ap, subst, refl, arith, append_assoc, length-append}
use Rattle.std.specs.List.{list_any, list_all}
use Rattle.std.proofs.lemmas.Bool.{false≢true, cases_Bool, and_parts, and_from, or_cases, or_left, or_right}
use Rattle.std.proofs.lemmas.List.Folds.{list_all-append, list_any-append}
use Rattle.cov_model.specs.believed.Rows.{contains, is_assigned, with_value}
use Rattle.cov_model.proofs.CellLemmas.{contains-refl, contains-trans}
use Rattle.definitions.specs.believed.Growth.{agrees, union, first_extendable, values_by_gain, fill, across, Joined, join}
use Rattle.definitions.proofs.Members.{Has, of_map}
use Rattle.definitions.proofs.PartialRowLemmas.{with_value-contains, union-contains_row, union-contains_tuple}

-- one of the rows contains the tuple
abbrev pub is_held : List (List (Option ℕ)) → List (Option ℕ) → Bool
is_held rows tuple = list_any (λ row. contains row tuple) rows

-- what an extendable partial row contains is extendable
abbrev pub IsClosed : (List (Option ℕ) → Bool) → Type 0
IsClosed extends = (row part : List (Option ℕ)) → contains row part ≡ true → extends row ≡ true → extends part ≡ true

-- the rows stay extendable, and hold what they held
pub record Keeps (extends : List (Option ℕ) → Bool) (rows after : List (List (Option ℕ))) : Type 0 where
  pub all : list_all extends rows ≡ true → list_all extends after ≡ true
  pub held : (tuple : List (Option ℕ)) → is_held rows tuple ≡ true → is_held after tuple ≡ true

pub keeps_self : (extends : List (Option ℕ) → Bool) (rows : List (List (Option ℕ))) → Keeps extends rows rows
keeps_self extends rows = record { all = λ all. all; held = λ tuple held. held }

pub keeps_then : (extends : List (Option ℕ) → Bool) (rows then after : List (List (Option ℕ))) → Keeps extends rows then → Keeps extends then after
    → Keeps extends rows after
keeps_then extends rows then after first second = record { all = λ all. second.all (first.all all); held = λ tuple held. second.held tuple (first.held tuple held) }

-- where one row takes more values
keeps_first : (extends : List (Option ℕ) → Bool) (row more : List (Option ℕ)) (rows : List (List (Option ℕ))) → contains more row ≡ true
    → (extends row ≡ true → extends more ≡ true)
    → Keeps extends (row ∷ rows) (more ∷ rows)
keeps_first extends row more rows contained stays = record {
  all = λ all. let parts = and_parts (extends row) (list_all extends rows) all in and_from (extends more) (list_all extends rows) (stays parts.0) parts.1;
  held = λ tuple held.
      elim (or_cases (contains row tuple) (is_held rows tuple) held) [
        | inl here ↦ or_left (contains more tuple) (is_held rows tuple) (contains-trans more row tuple contained here)
        | inr there ↦ or_right (contains more tuple) (is_held rows tuple) there
      ];
}

keeps_rest : (extends : List (Option ℕ) → Bool) (row : List (Option ℕ)) (rows after : List (List (Option ℕ))) → Keeps extends rows after
    → Keeps extends (row ∷ rows) (row ∷ after)
keeps_rest extends row rows after keeps = record {
  all = λ all. let parts = and_parts (extends row) (list_all extends rows) all in and_from (extends row) (list_all extends after) parts.0 (keeps.all parts.1);
  held = λ tuple held.
      elim (or_cases (contains row tuple) (is_held rows tuple) held) [
        | inl here ↦ or_left (contains row tuple) (is_held after tuple) here
        | inr there ↦ or_right (contains row tuple) (is_held after tuple) (keeps.held tuple there)
      ];
}

keeps_before : (extends : List (Option ℕ) → Bool) (done rows after : List (List (Option ℕ))) → Keeps extends rows after
    → Keeps extends (done ++ rows) (done ++ after)
keeps_before extends [] rows after keeps = keeps
keeps_before extends (row ∷ done) rows after keeps = keeps_rest extends row (done ++ rows) (done ++ after) (keeps_before extends done rows after keeps)

-- a row more
pub keeps_more : (extends : List (Option ℕ) → Bool) (rows : List (List (Option ℕ))) (tuple : List (Option ℕ)) → extends tuple ≡ true
    → Keeps extends rows (rows ++ tuple ∷ [])
keeps_more extends rows tuple extendable = record {
  all = λ all. list_all-append extends rows (tuple ∷ []) ∙ and_from (list_all extends rows) (extends tuple && true) all (and_from (extends tuple) true extendable refl);
  held = λ part held. list_any-append (λ row. contains row part) rows (tuple ∷ []) ∙ or_left (is_held rows part) (contains tuple part || false) held;
}

-- horizontal growth
record Fills (extends : List (Option ℕ) → Bool) (row filled : List (Option ℕ)) : Type 0 where
  pub contained : contains filled row ≡ true
  pub stays : extends row ≡ true → extends filled ≡ true

first_fills : (extends : List (Option ℕ) → Bool) (row : List (Option ℕ)) (candidates : List (List (Option ℕ)))
    → ((more : List (Option ℕ)) → Has candidates more → contains more row ≡ true)
    → Fills extends row (first_extendable extends row candidates).row
first_fills extends row [] each = record { contained = contains-refl row; stays = λ extendable. extendable }
first_fills extends row (candidate ∷ candidates) each =
    let later = first_fills extends row candidates (λ more has. each more (inr has)) in
    elim (cases_Bool (extends candidate)) [
      | inl is ↦ rw is (record { contained = each candidate (inl refl); stays = λ extendable. is })
      | inr is ↦ rw is later
    ]

fill_fills : (extends : List (Option ℕ) → Bool) (p : ℕ) (values : List ℕ) (tuples rows : List (List (Option ℕ))) (row : List (Option ℕ))
    → Fills extends row (fill extends p values tuples rows row).row
fill_fills extends p values tuples rows row =
    elim (cases_Bool (is_assigned row p)) [
      | inl is ↦ rw is (record { contained = contains-refl row; stays = λ extendable. extendable })
      | inr is ↦ rw is (first_fills extends row (map (with_value row p) (values_by_gain tuples rows row p values)) (λ more has.
          let found = of_map (with_value row p) (values_by_gain tuples rows row p values) more has in
          subst (λ r. contains r row ≡ true) found.2 (with_value-contains row p found.0 is)))
    ]

-- as many rows as before, which keep what they had
pub record Widens (extends : List (Option ℕ) → Bool) (rows after : List (List (Option ℕ))) : Type 0 where
  pub keeps : Keeps extends rows after
  pub long : length after ≡ length rows

pub across_widens : (extends : List (Option ℕ) → Bool) (p : ℕ) (values : List ℕ) (tuples done rows : List (List (Option ℕ)))
    → Widens extends (done ++ rows) (across extends p values tuples done rows).rows
across_widens extends p values tuples done [] = record { keeps = at_end done; long = at_end_long done }
  where
    at_end : (done : List (List (Option ℕ))) → Keeps extends (done ++ []) done
    at_end [] = keeps_self extends []
    at_end (row ∷ done) = keeps_rest extends row (done ++ []) done (at_end done)

    at_end_long : (done : List (List (Option ℕ))) → length done ≡ length (done ++ [])
    at_end_long done = omega (arith, length-append done [])
across_widens extends p values tuples done (row ∷ rows) =
    let filled = (fill extends p values tuples (done ++ row ∷ rows) row).row in
    let fills = fill_fills extends p values tuples (done ++ row ∷ rows) row in
    let later = across_widens extends p values tuples (done ++ filled ∷ []) rows in
    let whole : (done ++ filled ∷ []) ++ rows ≡ done ++ filled ∷ rows = append_assoc done (filled ∷ []) rows in
    let step = keeps_before extends done (row ∷ rows) (filled ∷ rows) (keeps_first extends row filled rows fills.contained fills.stays) in
    record {
      keeps = keeps_then extends (done ++ row ∷ rows) (done ++ filled ∷ rows) (across extends p values tuples (done ++ filled ∷ []) rows).rows step
          (subst (λ all. Keeps extends all (across extends p values tuples (done ++ filled ∷ []) rows).rows) whole later.keeps);
      long = omega (arith, later.long, ap length whole, length-append done (filled ∷ rows), length-append done (row ∷ rows));
    }

-- a row takes the tuple
pub record Takes (extends : List (Option ℕ) → Bool) (tuple : List (Option ℕ)) (rows : List (List (Option ℕ))) (joined : Joined) : Type 0 where
  pub keeps : Keeps extends rows joined.rows
  pub long : length joined.rows ≡ length rows
  pub held : joined.taken ≡ true → is_held joined.rows tuple ≡ true
  pub extendable : joined.taken ≡ true → extends tuple ≡ true

pub join_takes : (extends : List (Option ℕ) → Bool) → IsClosed extends → (tuple : List (Option ℕ)) (rows : List (List (Option ℕ)))
    → Takes extends tuple rows (join extends tuple rows)
join_takes extends closed tuple [] = record { keeps = keeps_self extends []; long = refl; held = λ taken. absurd (false≢true taken); extendable = λ taken. absurd (false≢true taken) }
join_takes extends closed tuple (row ∷ rows) =
    elim (cases_Bool (agrees row tuple)) [
      | inl agree ↦
          elim (cases_Bool (extends (union row tuple))) [
            | inl extendable ↦ rw (agree, extendable) (record {
              keeps = keeps_first extends row (union row tuple) rows (union-contains_row row tuple) (λ before. extendable);
              long = refl;
              held = λ taken. or_left (contains (union row tuple) tuple) (is_held rows tuple) (union-contains_tuple row tuple agree);
              extendable = λ taken. closed (union row tuple) tuple (union-contains_tuple row tuple agree) extendable;
            })
            | inr failing ↦ rw (agree, failing) (passed (union row tuple ∷ (join extends tuple rows).asked) (join_takes extends closed tuple rows))
          ]
      | inr apart ↦ rw apart (passed (join extends tuple rows).asked (join_takes extends closed tuple rows))
    ]
  where
    passed : (asked : List (List (Option ℕ))) → Takes extends tuple rows (join extends tuple rows)
        → Takes extends tuple (row ∷ rows) (record { rows = row ∷ (join extends tuple rows).rows; taken = (join extends tuple rows).taken; asked = asked })
    passed asked takes = record {
      keeps = keeps_rest extends row rows (join extends tuple rows).rows takes.keeps;
      long = ap suc takes.long;
      held = λ taken. or_right (contains row tuple) (is_held (join extends tuple rows).rows tuple) (takes.held taken);
      extendable = takes.extendable;
    }
