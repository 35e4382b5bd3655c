-- The tests that ran, among those of a table.
use Rattle.std.proofs.Common.{◌≡◌, ℕ, ◌+◌, ◌<◌, ◌≤◌, ◌∷◌, ◌++◌, Bool, true, false, cond, if◌then◌else◌, List, [], map, filter, length, drop, All, AllPairs, ap, ap₂, refl, sym, subst, ◌∙◌, arith}
use Rattle.std.specs.List.{slice_index_or}
use Rattle.std.proofs.lemmas.List.{append-nil, append_assoc, drop_all, drop_more}
use Rattle.std.proofs.lemmas.List.Elements.{All-cons, All-head, All-nil, All-tail}
use Rattle.std.proofs.lemmas.List.Kept.{AllPairs-cons}
use Rattle.cov_model.specs.Fits.{FitsModel}
use Rattle.cov_model.specs.believed.Sound.{ModelView}
use Rattle.row_text.specs.Readings.{IsFileOf}
use Rattle.row_text.specs.declared.row_file.FileRow.{FileRow}
use Rattle.row_text.specs.declared.row_file.RowFile.{RowFile}
use Rattle.jeldroft_suspect.specs.Results.{failures, that_ran}
use Rattle.jeldroft_suspect.specs.believed.Results.{has_failed, has_run}
use Rattle.jeldroft_suspect.specs.declared.outcome.Outcome.{Outcome}
use Rattle.jeldroft_suspect.proofs.OrderLemmas.{first_with, others}

-- what is told of a test goes with it
pub map_ran : {X Y : Type 0} (f : X → Y) (xs : List X) (outcomes : List Outcome) → map f (that_ran xs outcomes) ≡ that_ran (map f xs) outcomes
map_ran f [] outcomes = refl
map_ran f (x ∷ xs) [] = refl
map_ran f (x ∷ xs) (outcome ∷ outcomes) = at (has_run outcome) (map_ran f xs outcomes)
  where
    at : (b : Bool) → map f (that_ran xs outcomes) ≡ that_ran (map f xs) outcomes → map f ((if b then x ∷ [] else []) ++ that_ran xs outcomes) ≡ (if b then f x ∷ [] else []) ++ that_ran (map f xs) outcomes
    at true rest = ap (λ ys. f x ∷ ys) rest
    at false rest = rest

-- where lines give both the tests and what became of them
pub lines_ran : {X Y : Type 0} (test : X → Y) (outcome : X → Outcome) (lines : List X)
    → that_ran (map test lines) (map outcome lines) ≡ map test (filter (λ line. has_run (outcome line)) lines)
lines_ran test outcome [] = refl
lines_ran test outcome (line ∷ lines) = at (has_run (outcome line)) (lines_ran test outcome lines)
  where
    at : (b : Bool) → that_ran (map test lines) (map outcome lines) ≡ map test (filter (λ line. has_run (outcome line)) lines)
        → (if b then test line ∷ [] else []) ++ that_ran (map test lines) (map outcome lines)
        ≡ map test (cond b (line ∷ filter (λ line. has_run (outcome line)) lines) (filter (λ line. has_run (outcome line)) lines))
    at true rest = ap (λ ys. test line ∷ ys) rest
    at false rest = rest

pub lines_failed : {X : Type 0} (outcome : X → Outcome) (lines : List X)
    → failures (map outcome lines) ≡ map (λ line. has_failed (outcome line)) (filter (λ line. has_run (outcome line)) lines)
lines_failed outcome [] = refl
lines_failed outcome (line ∷ lines) = at (has_run (outcome line)) (lines_failed outcome lines)
  where
    at : (b : Bool) → failures (map outcome lines) ≡ map (λ line. has_failed (outcome line)) (filter (λ line. has_run (outcome line)) lines)
        → map has_failed (cond b (outcome line ∷ filter has_run (map outcome lines)) (filter has_run (map outcome lines)))
        ≡ map (λ line. has_failed (outcome line)) (cond b (line ∷ filter (λ line. has_run (outcome line)) lines) (filter (λ line. has_run (outcome line)) lines))
    at true rest = ap (λ ys. has_failed (outcome line) ∷ ys) rest
    at false rest = rest

-- those that ran have what all have
ran_have : {X : Type 0} (P : X → Type 0) (xs : List X) (outcomes : List Outcome) → All P xs → All P (that_ran xs outcomes)
ran_have P [] outcomes all = All-nil P
ran_have P (x ∷ xs) [] all = All-nil P
ran_have P (x ∷ xs) (outcome ∷ outcomes) all = at (has_run outcome) (ran_have P xs outcomes (All-tail P x xs all))
  where
    at : (b : Bool) → All P (that_ran xs outcomes) → All P ((if b then x ∷ [] else []) ++ that_ran xs outcomes)
    at true rest = All-cons P x (that_ran xs outcomes) (All-head P x xs all) rest
    at false rest = rest

ran_in_order : {X : Type 0} (R : X → X → Type 0) (xs : List X) (outcomes : List Outcome) → AllPairs R xs → AllPairs R (that_ran xs outcomes)
ran_in_order R [] outcomes pairs = pairs
ran_in_order R (x ∷ xs) [] pairs = λ i j d before within. absurd (omega (arith, within))
ran_in_order R (x ∷ xs) (outcome ∷ outcomes) pairs = at (has_run outcome) (ran_in_order R xs outcomes (others R x xs pairs))
  where
    at : (b : Bool) → AllPairs R (that_ran xs outcomes) → AllPairs R ((if b then x ∷ [] else []) ++ that_ran xs outcomes)
    at true rest = AllPairs-cons R x (that_ran xs outcomes) (ran_have (R x) xs outcomes (first_with R x xs pairs)) rest
    at false rest = rest

ran_few : {X : Type 0} (xs : List X) (outcomes : List Outcome) → length (that_ran xs outcomes) ≤ length xs
ran_few [] outcomes = omega arith
ran_few (x ∷ xs) [] = omega arith
ran_few (x ∷ xs) (outcome ∷ outcomes) = at (has_run outcome) (ran_few xs outcomes)
  where
    at : (b : Bool) → length (that_ran xs outcomes) ≤ length xs → length ((if b then x ∷ [] else []) ++ that_ran xs outcomes) ≤ length (x ∷ xs)
    at true rest = omega (arith, rest)
    at false rest = omega (arith, rest)

-- there are as many results
pub as_many : {X : Type 0} (xs : List X) (outcomes : List Outcome) → length xs ≡ length outcomes → length (failures outcomes) ≡ length (that_ran xs outcomes)
as_many [] [] same = refl
as_many [] (outcome ∷ outcomes) same = absurd (omega (arith, same))
as_many (x ∷ xs) [] same = absurd (omega (arith, same))
as_many (x ∷ xs) (outcome ∷ outcomes) same = at (has_run outcome) (as_many xs outcomes (omega (arith, same)))
  where
    at : (b : Bool) → length (failures outcomes) ≡ length (that_ran xs outcomes)
        → length (map has_failed (cond b (outcome ∷ filter has_run outcomes) (filter has_run outcomes))) ≡ length ((if b then x ∷ [] else []) ++ that_ran xs outcomes)
    at true rest = omega (arith, rest)
    at false rest = rest

-- and so they are a file of rows of the model
pub ran_file : (m : ModelView) (file kept : RowFile) (outcomes : List Outcome) → kept.rows ≡ that_ran file.rows outcomes → IsFileOf m file → IsFileOf m kept
ran_file m file kept outcomes is of_model = record {
  fit = subst (All (λ (row : FileRow). FitsModel m row.cells)) (sym is) (ran_have (λ (row : FileRow). FitsModel m row.cells) file.rows outcomes of_model.fit);
  few = omega (arith, ap length is, ran_few file.rows outcomes, of_model.few);
  rising = subst (AllPairs (λ (a b : FileRow). a.line < b.line)) (sym is) (ran_in_order (λ (a b : FileRow). a.line < b.line) file.rows outcomes of_model.rising);
}

-- a loop over them, as far as a place
module _ {X : Type 0} (xs : List X) (outcomes : List Outcome) (i : ℕ) (kept all : List X) (so_far : kept ++ that_ran (drop i xs) (drop i outcomes) ≡ all) where
  pub ran_more : (x here : X) (other outcome : Outcome) (more : List X) → i < length xs → length xs ≡ length outcomes → here ≡ slice_index_or xs i x → outcome ≡ slice_index_or outcomes i other
      → more ≡ kept ++ (if has_run outcome then here ∷ [] else []) → more ++ that_ran (drop (i + 1) xs) (drop (i + 1) outcomes) ≡ all
  ran_more x here other outcome more within same here_is outcome_is is =
      let one = if has_run outcome then here ∷ [] else [] in
      let rest = that_ran (drop (i + 1) xs) (drop (i + 1) outcomes) in
      let items : drop i xs ≡ here ∷ drop (i + 1) xs = drop_more xs i x within ∙ ap (λ y. y ∷ drop (i + 1) xs) (sym here_is) in
      let words : drop i outcomes ≡ outcome ∷ drop (i + 1) outcomes = drop_more outcomes i other (omega (arith, within, same)) ∙ ap (λ y. y ∷ drop (i + 1) outcomes) (sym outcome_is) in
      let next : that_ran (drop i xs) (drop i outcomes) ≡ one ++ rest = ap₂ that_ran items words in
      ap (λ ys. ys ++ rest) is ∙ append_assoc kept one rest ∙ ap (λ ys. kept ++ ys) (sym next) ∙ so_far

  pub ran_all : length xs ≤ i → kept ≡ all
  ran_all past = sym (append-nil kept) ∙ ap (λ rest. kept ++ that_ran rest (drop i outcomes)) (sym (drop_all i xs past)) ∙ so_far
