-- Vertical growth looks at open tuples alone: what a row contains is passed.
use Rattle.std.proofs.Common.{◌≡◌, ℕ, Bool, true, false, cond, if◌then◌else◌, ◌||◌, not, List, [], ◌∷◌, ◌++◌, map, filter, Option, ◌∙◌, sym, ap, refl}
use Rattle.std.proofs.lemmas.Bool.{not-false}
use Rattle.cov_model.proofs.CellLemmas.{contains-trans}
use Rattle.definitions.proofs.PartialRowLemmas.{union-contains_row}
use Rattle.cov_model.specs.believed.Rows.{contains}
use Rattle.definitions.specs.believed.Pairs.{pairs_of}
use Rattle.definitions.specs.believed.Growth.{Grown, Joined, agrees, union, is_uncovered, join, settle, down}
use Rattle.ipog_grow.proofs.Holding.{holds, holds-push}

-- the first row and the union of a tuple with it, before the other rows, of which it is told what joining gives
abbrev pub joined : (agree able : Bool) (row both : List (Option ℕ)) (rows : List (List (Option ℕ))) → Joined → Joined
joined agree able row both rows later =
    if not agree then record { rows = row ∷ later.rows; taken = later.taken; asked = later.asked }
    else if able then record { rows = both ∷ rows; taken = true; asked = both ∷ [] }
    else record { rows = row ∷ later.rows; taken = later.taken; asked = both ∷ later.asked }

-- what joining gave, and what extending the tuple alone gives
abbrev pub settled : (able : Bool) (tuple : List (Option ℕ)) (rows : List (List (Option ℕ))) → Joined → Grown
settled able tuple rows given =
    if given.taken then record { rows = given.rows; omitted = []; asked = given.asked }
    else if able then record { rows = rows ++ tuple ∷ []; omitted = []; asked = given.asked ++ tuple ∷ [] }
    else record { rows = rows; omitted = tuple ∷ []; asked = given.asked ++ tuple ∷ [] }

-- a tuple that is open or not, before the others
abbrev pub passed : (free : Bool) (rows : List (List (Option ℕ))) → Grown → Grown
passed free rows given = if free then given else record { rows = rows; omitted = []; asked = [] }

abbrev pub followed : Grown → Grown → Grown
followed first later = record { rows = later.rows; omitted = first.omitted ++ later.omitted; asked = first.asked ++ later.asked }

-- what a row held before a tuple was offered, a row holds after
pub join-holds : (extends : List (Option ℕ) → Bool) (tuple : List (Option ℕ)) (rows : List (List (Option ℕ))) (held : List (Option ℕ))
    → holds rows held ≡ true → holds (join extends tuple rows).rows held ≡ true
join-holds extends tuple [] held h = h
join-holds extends tuple (row ∷ rows) held h =
    by_case (agrees row tuple) (extends (union row tuple)) (join-holds extends tuple rows held) h
  where
    over : (a b c : Bool) → (a ≡ true → b ≡ true) → (a || c) ≡ true → (b || c) ≡ true
    over true b c f h = ap (λ (x : Bool). x || c) (f refl)
    over false true c f h = refl
    over false false c f h = h

    under : (a b c : Bool) → (b ≡ true → c ≡ true) → (a || b) ≡ true → (a || c) ≡ true
    under true b c f h = refl
    under false b c f h = f h

    by_case : (agree able : Bool) → (holds rows held ≡ true → holds (join extends tuple rows).rows held ≡ true) → holds (row ∷ rows) held ≡ true
        → holds (joined agree able row (union row tuple) rows (join extends tuple rows)).rows held ≡ true
    by_case false able later h = under (contains row held) (holds rows held) _ later h
    by_case true true later h = over (contains row held) (contains (union row tuple) held) (holds rows held)
        (λ had. contains-trans (union row tuple) row held (union-contains_row row tuple) had) h
    by_case true false later h = under (contains row held) (holds rows held) _ later h

pub settle-holds : (extends : List (Option ℕ) → Bool) (tuple : List (Option ℕ)) (rows : List (List (Option ℕ))) (held : List (Option ℕ))
    → holds rows held ≡ true → holds (settle extends tuple rows).rows held ≡ true
settle-holds extends tuple rows held h = by_case (join extends tuple rows).taken (extends tuple) (join-holds extends tuple rows held h)
  where
    by_case : (taken able : Bool) → holds (join extends tuple rows).rows held ≡ true
        → holds (settled able tuple rows (record { rows = (join extends tuple rows).rows; taken = taken; asked = (join extends tuple rows).asked })).rows
        held ≡ true
    by_case true able kept = kept
    by_case false true kept = holds-push rows tuple held ∙ ap (λ (b : Bool). b || contains tuple held) h
    by_case false false kept = h

-- tuples that a row holds can be left out
pub down-open : (extends : List (Option ℕ) → Bool) (keep : List (Option ℕ) → Bool) (tuples rows : List (List (Option ℕ)))
    → ((tuple : List (Option ℕ)) → keep tuple ≡ false → holds rows tuple ≡ true) → down extends (filter keep tuples) rows ≡ down extends tuples rows
down-open extends keep [] rows past = refl
down-open extends keep (tuple ∷ tuples) rows past =
    by_keep (keep tuple) refl (λ after more. down-open extends keep tuples after more)
  where
    by_open : (free : Bool) → ((after : List (List (Option ℕ))) → ((t : List (Option ℕ)) → keep t ≡ false → holds after t ≡ true)
        → down extends (filter keep tuples) after ≡ down extends tuples after)
        → followed (passed free rows (settle extends tuple rows)) (down extends (filter keep tuples) (passed free rows (settle extends tuple rows)).rows)
        ≡ followed (passed free rows (settle extends tuple rows)) (down extends tuples (passed free rows (settle extends tuple rows)).rows)
    by_open true later = ap (followed (settle extends tuple rows))
        (later (settle extends tuple rows).rows (λ t none. settle-holds extends tuple rows t (past t none)))
    by_open false later = ap (followed (record { rows = rows; omitted = []; asked = [] })) (later rows past)

    by_keep : (b : Bool) → keep tuple ≡ b
        → ((after : List (List (Option ℕ))) → ((t : List (Option ℕ)) → keep t ≡ false → holds after t ≡ true) → down extends (filter keep tuples) after
        ≡ down extends tuples after)
        → down extends (cond b (tuple ∷ filter keep tuples) (filter keep tuples)) rows ≡ down extends (tuple ∷ tuples) rows
    by_keep true is later = by_open (is_uncovered rows tuple) later
    by_keep false is later =
        later rows past
        ∙ sym (ap (λ (b : Bool). followed (passed (not b) rows (settle extends tuple rows))
        (down extends tuples (passed (not b) rows (settle extends tuple rows)).rows)) (past tuple is))

pub down-uncovered : (extends : List (Option ℕ) → Bool) (tuples rows : List (List (Option ℕ)))
    → down extends (filter (is_uncovered rows) tuples) rows ≡ down extends tuples rows
down-uncovered extends tuples rows = down-open extends (is_uncovered rows) tuples rows (λ tuple covered. not-false (holds rows tuple) covered)

-- a tuple that a row takes
pub settle-taken : (extends : List (Option ℕ) → Bool) (tuple : List (Option ℕ)) (rows : List (List (Option ℕ))) → true ≡ (join extends tuple rows).taken
    → settle extends tuple rows ≡ record { rows = (join extends tuple rows).rows; omitted = []; asked = (join extends tuple rows).asked }
settle-taken extends tuple rows taken =
    ap (λ (b : Bool). settled (extends tuple) tuple rows
    (record { rows = (join extends tuple rows).rows; taken = b; asked = (join extends tuple rows).asked })) (sym taken)

-- and one that no row takes
abbrev pub alone_by : Bool → List (Option ℕ) → List (List (Option ℕ)) → List (List (Option ℕ)) → Grown
alone_by able tuple rows asked =
    if able then record { rows = rows ++ tuple ∷ []; omitted = []; asked = asked ++ tuple ∷ [] } else record {
      rows = rows;
      omitted = tuple ∷ [];
      asked =
          asked ++ tuple ∷ [];
    }

pub settle-alone : (extends : List (Option ℕ) → Bool) (tuple : List (Option ℕ)) (rows : List (List (Option ℕ))) → false ≡ (join extends tuple rows).taken
    → settle extends tuple rows ≡ alone_by (extends tuple) tuple rows (join extends tuple rows).asked
settle-alone extends tuple rows alone =
    ap (λ (b : Bool). settled (extends tuple) tuple rows
    (record { rows = (join extends tuple rows).rows; taken = b; asked = (join extends tuple rows).asked })) (sym alone)

pub settle-alone_asked : (extends : List (Option ℕ) → Bool) (tuple : List (Option ℕ)) (rows : List (List (Option ℕ))) → false ≡ (join extends tuple rows).taken
    → (settle extends tuple rows).asked ≡ (join extends tuple rows).asked ++ tuple ∷ []
settle-alone_asked extends tuple rows alone = ap (λ (g : Grown). g.asked) (settle-alone extends tuple rows alone) ∙ at (extends tuple)
  where
    at : (b : Bool) → (alone_by b tuple rows (join extends tuple rows).asked).asked ≡ (join extends tuple rows).asked ++ tuple ∷ []
    at true = refl
    at false = refl

pub settle-alone_rows : (extends : List (Option ℕ) → Bool) (tuple : List (Option ℕ)) (rows : List (List (Option ℕ))) → false ≡ (join extends tuple rows).taken
    → (settle extends tuple rows).rows ≡ (if extends tuple then rows ++ tuple ∷ [] else rows)
settle-alone_rows extends tuple rows alone = ap (λ (g : Grown). g.rows) (settle-alone extends tuple rows alone) ∙ at (extends tuple)
  where
    at : (b : Bool) → (alone_by b tuple rows (join extends tuple rows).asked).rows ≡ (if b then rows ++ tuple ∷ [] else rows)
    at true = refl
    at false = refl

pub settle-alone_omitted : (extends : List (Option ℕ) → Bool) (tuple : List (Option ℕ)) (rows : List (List (Option ℕ)))
    → false ≡ (join extends tuple rows).taken → map pairs_of (settle extends tuple rows).omitted ≡ (if extends tuple then [] else pairs_of tuple ∷ [])
settle-alone_omitted extends tuple rows alone = ap (λ (g : Grown). map pairs_of g.omitted) (settle-alone extends tuple rows alone) ∙ at (extends tuple)
  where
    at : (b : Bool) → map pairs_of (alone_by b tuple rows (join extends tuple rows).asked).omitted ≡ (if b then [] else pairs_of tuple ∷ [])
    at true = refl
    at false = refl
