-- A tuple offered to the partial rows, one after another.
use Rattle.std.proofs.Common.{◌≡◌, ℕ, zero, suc, ◌+◌, ◌<◌, ◌≤◌, Bool, true, false, ◌||◌, List, [], ◌∷◌, ◌++◌, length, take, drop, Option, Some, None}
use Rattle.std.proofs.Common.{nat_eq, get_or, set, All, ◌∙◌, sym, ap, subst, refl, arith, inl, inr, add-one, append_assoc}
use Rattle.std.specs.Prelude.{slice_get}
use Rattle.std.proofs.lemmas.Bool.{cases_lt, false≢true}
use Rattle.std.proofs.lemmas.Bool.Decides.{nat_tests}
use Rattle.std.proofs.lemmas.Option.{none-some, same_Some}
use Rattle.std.proofs.lemmas.List.{drop_all, take_all, take_more, take-set, drop-set, take-append-drop, append-nil, drop_more}
use Rattle.std.proofs.lemmas.List.Elements.{All-set}
use Rattle.ipog_grow.proofs.Asking.{IsAnswered, none-spent}
use Rattle.ipog_grow.proofs.Spending.{find-later, find-earlier}
use Rattle.definitions.specs.declared.effort.Effort.TheVariants.{Full}
use Rattle.definitions.specs.believed.Growth.{Joined, agrees, join, union}
use Rattle.definitions.proofs.Extendable.{extendable_contains}
use Rattle.definitions.proofs.Keeping.{IsClosed}
use Rattle.definitions.proofs.PartialRowLemmas.{union-contains_tuple}
use Rattle.full_search.specs.Questions.{QuestionsView}
use Rattle.ipog_grow.specs.Asking.{IsSoundContext, Grows, extends, first_spent, IsUnionAt}
use Rattle.definitions.specs.believed.Demand.{is_among}
use Rattle.tuple_index.specs.Places.{RisesFrom}
use Rattle.ipog_grow.proofs.Settling.{joined}
use Rattle.ipog_grow.proofs.Trying.{is_over}
use Rattle.ipog_grow.proofs.Tuples.{grows-union}

abbrev joins : QuestionsView → List (Option ℕ) → List (List (Option ℕ)) → Joined
joins context tuple rows = join (extends context) tuple rows

-- the rows that are left decide
pub record Joining (context : QuestionsView) (tuple : List (Option ℕ)) (rows : List (List (Option ℕ))) (i : ℕ) : Type 0 where
  pub asked : first_spent context (join (extends context) tuple rows).asked ≡ first_spent context (join (extends context) tuple (drop i rows)).asked
  pub taken : (join (extends context) tuple rows).taken ≡ (join (extends context) tuple (drop i rows)).taken
  pub placed : (join (extends context) tuple rows).rows ≡ take i rows ++ (join (extends context) tuple (drop i rows)).rows

pub joining-start : (context : QuestionsView) (tuple : List (Option ℕ)) (rows : List (List (Option ℕ))) → Joining context tuple rows 0
joining-start context tuple rows = record { asked = refl; taken = refl; placed = refl }

-- what the rows that are left give, by the first of them
at : (context : QuestionsView) (tuple : List (Option ℕ)) (rows : List (List (Option ℕ))) (i : ℕ) (agree able : Bool) → i < length rows
    → agrees (get_or rows i []) tuple ≡ agree → extends context (union (get_or rows i []) tuple) ≡ able
    → join (extends context) tuple (drop i rows) ≡ joined agree able (get_or rows i []) (union (get_or rows i []) tuple) (drop (i + 1) rows)
    (join (extends context) tuple (drop (i + 1) rows))
at context tuple rows i agree able within agreed answered =
    ap (join (extends context) tuple) (drop_more rows i [] within)
    ∙ ap (λ (b : Bool). joined b (extends context (union (get_or rows i []) tuple)) (get_or rows i []) (union (get_or rows i []) tuple) (drop (i + 1) rows)
    (join (extends context) tuple (drop (i + 1) rows))) agreed
    ∙ ap (λ (b : Bool). joined agree b (get_or rows i []) (union (get_or rows i []) tuple) (drop (i + 1) rows)
    (join (extends context) tuple (drop (i + 1) rows))) answered

push_front : (rows rest : List (List (Option ℕ))) (i : ℕ) → i < length rows → take i rows ++ (get_or rows i [] ∷ rest) ≡ take (i + 1) rows ++ rest
push_front rows rest i within = sym (ap (λ list. list ++ rest) (take_more rows i [] within) ∙ append_assoc (take i rows) (get_or rows i [] ∷ []) rest)

-- a row that doesn't agree
pub joining-other : (context : QuestionsView) (tuple : List (Option ℕ)) (rows : List (List (Option ℕ))) (i : ℕ) → i < length rows → Joining context tuple rows i
    → agrees (get_or rows i []) tuple ≡ false → Joining context tuple rows (i + 1)
joining-other context tuple rows i within joining other =
    let here = at context tuple rows i false (extends context (union (get_or rows i []) tuple)) within other refl in
    record {
      asked = joining.asked ∙ ap (λ (j : Joined). first_spent context j.asked) here;
      taken = joining.taken ∙ ap (λ (j : Joined). j.taken) here;
      placed = joining.placed ∙ ap (λ (j : Joined). take i rows ++ j.rows) here
          ∙ push_front rows (join (extends context) tuple (drop (i + 1) rows)).rows i within;
    }

-- several that don't
joining-skip : (context : QuestionsView) (tuple : List (Option ℕ)) (rows : List (List (Option ℕ))) (i j : ℕ) → i ≤ j → j ≤ length rows
    → Joining context tuple rows i
    → ((m : ℕ) → i ≤ m → m < j → agrees (get_or rows m []) tuple ≡ false) → Joining context tuple rows j
joining-skip context tuple rows i zero less within joining others = let same : i ≡ 0 = omega arith in subst (Joining context tuple rows) same joining
joining-skip context tuple rows i (suc j) less within joining others =
    elim (cases_lt j i) [
      | inl below ↦ let same : i ≡ suc j = omega arith in subst (Joining context tuple rows) same joining
      | inr from ↦
          subst (Joining context tuple rows) (add-one j)
          (joining-other context tuple rows j (omega arith)
          (joining-skip context tuple rows i j from (omega arith) joining (λ m least most. others m least (omega arith))) (others j from (omega arith)))
    ]

-- only the candidates may agree with the tuple
abbrev pub MayAgree : List (Option ℕ) → List (List (Option ℕ)) → List ℕ → Type 0
MayAgree tuple rows candidates = (i : ℕ) → i < length rows → is_among candidates i ≡ false → agrees (get_or rows i []) tuple ≡ false

-- the rows before the first of the candidates that are left are passed, and those behind it may agree only if they are
-- candidates
pub record Offering (context : QuestionsView) (tuple : List (Option ℕ)) (rows : List (List (Option ℕ))) (candidates : List ℕ) : Type 0 where
  pub rise : RisesFrom 0 (length rows) candidates
  pub others : (i : ℕ) → get_or candidates 0 (length rows) ≤ i → i < length rows → is_among candidates i ≡ false → agrees (get_or rows i []) tuple ≡ false
  pub joining : Joining context tuple rows (get_or candidates 0 (length rows))

-- rising numbers don't have one before the first
below-rises : (lo hi : ℕ) (numbers : List ℕ) (m : ℕ) → RisesFrom lo hi numbers → m < lo → is_among numbers m ≡ false
below-rises lo hi [] m rises less = refl
below-rises lo hi (i ∷ numbers) m rises less =
    let least : lo ≤ i = rises.0 in
    let other : nat_eq i m ≡ false = grind (arith, nat_tests) in
    ap (λ (b : Bool). b || is_among numbers m) other ∙ below-rises (i + 1) hi numbers m rises.2 (omega arith)

before-first : (lo hi : ℕ) (numbers : List ℕ) (m : ℕ) → RisesFrom lo hi numbers → m < get_or numbers 0 hi → is_among numbers m ≡ false
before-first lo hi [] m rises less = refl
before-first lo hi (i ∷ numbers) m rises less = below-rises i hi (i ∷ numbers) m (omega arith, rises.1, rises.2) less

first-within : (lo hi : ℕ) (numbers : List ℕ) → RisesFrom lo hi numbers → get_or numbers 0 hi ≤ hi
first-within lo hi [] rises = omega arith
first-within lo hi (i ∷ numbers) rises = let within : i < hi = rises.1 in omega arith

first-least : (lo hi : ℕ) (numbers : List ℕ) → lo ≤ hi → RisesFrom lo hi numbers → lo ≤ get_or numbers 0 hi
first-least lo hi [] less rises = less
first-least lo hi (i ∷ numbers) less rises = rises.0

lower : (lo hi : ℕ) (numbers : List ℕ) → RisesFrom lo hi numbers → RisesFrom 0 hi numbers
lower lo hi [] rises = tt
lower lo hi (i ∷ numbers) rises = (omega arith, rises.1, rises.2)

pub offering-start : {context : QuestionsView} {tuple : List (Option ℕ)} {rows : List (List (Option ℕ))} {candidates : List ℕ}
    → RisesFrom 0 (length rows) candidates → MayAgree tuple rows candidates → Offering context tuple rows candidates
offering-start {context} {tuple} {rows} {candidates} rises others = record {
  rise = rises;
  others = λ i from. others i;
  joining =
      joining-skip context tuple rows 0 (get_or candidates 0 (length rows)) (omega arith) (first-within 0 (length rows) candidates rises)
      (joining-start context tuple rows)
      (λ m least most. others m (omega (arith, most, first-within 0 (length rows) candidates rises))
      (before-first 0 (length rows) candidates m rises most));
}

-- the first candidate is a row, and the rows before it are passed
pub offering-first : {context : QuestionsView} {tuple : List (Option ℕ)} {rows : List (List (Option ℕ))} {i : ℕ} (candidates : List ℕ)
    → Offering context tuple rows candidates → slice_get candidates 0 ≡ Some i → (i < length rows) × Joining context tuple rows i
offering-first {context} {tuple} {rows} {i} [] offering first = absurd (none-some i first)
offering-first {context} {tuple} {rows} {i} (j ∷ candidates) offering first =
    let same : j ≡ i = same_Some j i first in
    subst (λ n. (n < length rows) × Joining context tuple rows n) same (offering.rise.1, offering.joining)

-- once it is passed too, the others are left
offering-on : {context : QuestionsView} {tuple : List (Option ℕ)} {rows : List (List (Option ℕ))} {rest : List ℕ} {i : ℕ} (candidates : List ℕ)
    → Offering context tuple rows candidates → slice_get candidates 0 ≡ Some i → rest ≡ drop 1 candidates → Joining context tuple rows (i + 1)
    → Offering context tuple rows rest
offering-on {context} {tuple} {rows} {rest} {i} [] offering first is joining = absurd (none-some i first)
offering-on {context} {tuple} {rows} {rest} {i} (j ∷ candidates) offering first is joining =
    let same : i ≡ j = sym (same_Some j i first) in
    subst (Offering context tuple rows) (sym is) (passing (subst (λ n. Joining context tuple rows (n + 1)) same joining))
  where
    others : (m : ℕ) → j < m → m < length rows → is_among candidates m ≡ false → agrees (get_or rows m []) tuple ≡ false
    others m past within other =
        let differs : nat_eq j m ≡ false = grind (arith, nat_tests) in
        offering.others m (omega arith) within (ap (λ (b : Bool). b || is_among candidates m) differs ∙ other)

    passing : Joining context tuple rows (j + 1) → Offering context tuple rows candidates
    passing passed =
        let within : j < length rows = offering.rise.1 in
        let most = first-within (j + 1) (length rows) candidates offering.rise.2 in
        let least = first-least (j + 1) (length rows) candidates (omega arith) offering.rise.2 in
        record {
          rise = lower (j + 1) (length rows) candidates offering.rise.2;
          others = λ m from. others m (omega (arith, from, least));
          joining =
              joining-skip context tuple rows (j + 1) (get_or candidates 0 (length rows)) least most passed
              (λ m from to. others m (omega arith) (omega (arith, to, most)) (before-first (j + 1) (length rows) candidates m offering.rise.2 to));
        }

-- no candidate is left
offering-end : {context : QuestionsView} {tuple : List (Option ℕ)} {rows : List (List (Option ℕ))} (candidates : List ℕ)
    → Offering context tuple rows candidates → slice_get candidates 0 ≡ None → Joining context tuple rows (length rows)
offering-end {context} {tuple} {rows} [] offering none = offering.joining
offering-end {context} {tuple} {rows} (j ∷ candidates) offering none = absurd (none-some j (sym none))

-- a row whose union isn't extendable
pub joining-unable : (context : QuestionsView) (tuple : List (Option ℕ)) (rows : List (List (Option ℕ))) (i : ℕ) → i < length rows
    → Joining context tuple rows i
    → agrees (get_or rows i []) tuple ≡ true → extends context (union (get_or rows i []) tuple) ≡ false
    → first_spent context (union (get_or rows i []) tuple ∷ []) ≡ None
    → Joining context tuple rows (i + 1)
joining-unable context tuple rows i within joining agree unable spent =
    let here = at context tuple rows i true false within agree unable in
    record {
      asked =
          joining.asked ∙ ap (λ (j : Joined). first_spent context j.asked) here
          ∙ find-later (is_over context) ((union (get_or rows i []) tuple) ∷ []) (join (extends context) tuple (drop (i + 1) rows)).asked spent;
      taken = joining.taken ∙ ap (λ (j : Joined). j.taken) here;
      placed = joining.placed ∙ ap (λ (j : Joined). take i rows ++ j.rows) here
          ∙ push_front rows (join (extends context) tuple (drop (i + 1) rows)).rows i within;
    }

-- a row whose question costs more than it may
pub joining-spent : {context : QuestionsView} {tuple question : List (Option ℕ)} {rows : List (List (Option ℕ))} {i : ℕ} → i < length rows
    → Joining context tuple rows i
    → agrees (get_or rows i []) tuple ≡ true → first_spent context (union (get_or rows i []) tuple ∷ []) ≡ Some question
    → first_spent context (join (extends context) tuple rows).asked ≡ Some question
joining-spent {context} {tuple} {question} {rows} {i} within joining agree over =
    joining.asked ∙ ap (λ (j : Joined). first_spent context j.asked)
    (at context tuple rows i true (extends context (union (get_or rows i []) tuple)) within agree refl)
    ∙ by_able (extends context (union (get_or rows i []) tuple))
  where
    by_able : (able : Bool) → first_spent context (joined true able (get_or rows i []) (union (get_or rows i []) tuple) (drop (i + 1) rows)
        (join (extends context) tuple (drop (i + 1) rows))).asked ≡ Some question
    by_able true = over
    by_able false = find-earlier (is_over context) question ((union (get_or rows i []) tuple) ∷ []) (join (extends context) tuple (drop (i + 1) rows)).asked
        over

-- an end: what was asked, whether a row took the tuple, and the rows
pub record Joins (context : QuestionsView) (tuple : List (Option ℕ)) (rows after : List (List (Option ℕ))) (taken : Bool) : Type 0 where
  pub asked : first_spent context (join (extends context) tuple rows).asked ≡ None
  pub taken_is : taken ≡ (join (extends context) tuple rows).taken
  pub rows_are : after ≡ (join (extends context) tuple rows).rows

set_rows : (rows : List (List (Option ℕ))) (i : ℕ) (row : List (Option ℕ)) → i < length rows → set rows i row ≡ take i rows ++ (row ∷ drop (i + 1) rows)
set_rows rows i row within =
    sym (take-append-drop i (set rows i row)) ∙ ap (λ list. list ++ drop i (set rows i row)) (take-set rows i row)
    ∙ ap (λ list. take i rows ++ list) (drop-set rows i row within)

-- a row takes the tuple
pub joining-yes : (context : QuestionsView) (tuple : List (Option ℕ)) (rows : List (List (Option ℕ))) (i : ℕ) → i < length rows → Joining context tuple rows i
    → agrees (get_or rows i []) tuple ≡ true → extends context (union (get_or rows i []) tuple) ≡ true
    → first_spent context (union (get_or rows i []) tuple ∷ []) ≡ None
    → Joins context tuple rows (set rows i (union (get_or rows i []) tuple)) true
joining-yes context tuple rows i within joining agree able spent =
    let here = at context tuple rows i true true within agree able in
    record {
      asked = joining.asked ∙ ap (λ (j : Joined). first_spent context j.asked) here ∙ spent;
      taken_is = sym (joining.taken ∙ ap (λ (j : Joined). j.taken) here);
      rows_are = set_rows rows i (union (get_or rows i []) tuple) within ∙ sym (joining.placed ∙ ap (λ (j : Joined). take i rows ++ j.rows) here);
    }

-- no row takes it
pub joining-end : (context : QuestionsView) (tuple : List (Option ℕ)) (rows : List (List (Option ℕ))) (i : ℕ) → length rows ≤ i
    → Joining context tuple rows i → Joins context tuple rows rows false
joining-end context tuple rows i past joining =
    let none : drop i rows ≡ [] = drop_all i rows past in
    record {
      asked = joining.asked ∙ ap (λ list. first_spent context (join (extends context) tuple list).asked) none;
      taken_is = sym (joining.taken ∙ ap (λ list. (join (extends context) tuple list).taken) none);
      rows_are = sym (joining.placed ∙ ap (λ list. take i rows ++ (join (extends context) tuple list).rows) none ∙ append-nil (take i rows)
          ∙ take_all i rows past);
    }

-- a row that was read
pub read_row : {rows held : List (List (Option ℕ))} {row : List (Option ℕ)} (i : ℕ) → held ≡ rows → row ≡ get_or held i [] → row ≡ get_or rows i []
read_row {rows} {held} {row} i same is = is ∙ ap (λ list. get_or list i []) same

-- a candidate that agrees with the tuple: the rows before it are passed, and the union with it is a partial row of the slice
pub record IsOffered (context : QuestionsView) (tuple : List (Option ℕ)) (rows : List (List (Option ℕ))) (i : ℕ) (put : List (Option ℕ)) : Type 0 where
  pub within : i < length rows
  pub joining : Joining context tuple rows i
  pub agree : agrees (get_or rows i []) tuple ≡ true
  pub is : put ≡ union (get_or rows i []) tuple
  pub grows : Grows context put
  pub long : length put ≡ length context.model.params

pub offered : {context : QuestionsView} {tuple put row other : List (Option ℕ)} {rows held : List (List (Option ℕ))} {candidates : List ℕ} {i : ℕ} {found : Bool}
    → IsSoundContext context → Grows context tuple → All (Grows context) rows → held ≡ rows → Offering context tuple rows candidates
    → slice_get candidates 0 ≡ Some i → row ≡ get_or held i [] → other ≡ get_or held i [] → found ≡ agrees row tuple → found ≡ true → put ≡ union other tuple
    → IsOffered context tuple rows i put
offered {context} {tuple} {put} {row} {other} {rows} {held} {candidates} {i} {found} is grows all same offering first read again tested agreed united =
    let passed = offering-first candidates offering first in
    let whole : put ≡ union (get_or rows i []) tuple = united ∙ ap (λ r. union r tuple) (read_row i same again) in
    let both = grows-union context.model context.slice (get_or rows i []) tuple is.slice (all i [] passed.0) grows in
    record {
      within = passed.0;
      joining = passed.1;
      agree = ap (λ r. agrees r tuple) (sym (read_row i same read)) ∙ sym tested ∙ agreed;
      is = whole;
      grows = subst (Grows context) (sym whole) both;
      long = ap length whole ∙ both.of.fits.as_long;
    }

-- it takes the tuple
pub record Takes (context : QuestionsView) (tuple : List (Option ℕ)) (rows after : List (List (Option ℕ))) (i : ℕ) : Type 0 where
  pub joins : Joins context tuple rows after true
  pub union_at : IsUnionAt rows after tuple i
  pub grows : All (Grows context) after

pub takes : {context : QuestionsView} {tuple put : List (Option ℕ)} {rows held after : List (List (Option ℕ))} {i : ℕ} → All (Grows context) rows → held ≡ rows
    → IsOffered context tuple rows i put → IsAnswered context put true → after ≡ set held i put → Takes context tuple rows after i
takes {context} {tuple} {put} {rows} {held} {after} {i} all same offer answer is =
    let put_in : after ≡ set rows i (union (get_or rows i []) tuple) = is ∙ ap (λ list. set list i put) same ∙ ap (set rows i) offer.is in
    let able : extends context (union (get_or rows i []) tuple) ≡ true = ap (extends context) (sym offer.is) ∙ sym answer.value in
    let unspent : first_spent context (union (get_or rows i []) tuple ∷ []) ≡ None = ap (λ (c : List (Option ℕ)). first_spent context (c ∷ []))
    (sym offer.is) ∙ answer.unspent in
    record {
      joins = subst (λ (list : List (List (Option ℕ))). Joins context tuple rows list true) (sym put_in)
          (joining-yes context tuple rows i offer.within offer.joining offer.agree able unspent);
      union_at = record { within = offer.within; agree = offer.agree; put = put_in };
      grows = subst (All (Grows context)) (sym is) (subst (λ (list : List (List (Option ℕ))). All (Grows context) (set list i put)) (sym same)
          (All-set (Grows context) rows i put offer.grows all));
    }

-- or it doesn't, and the next candidate is tried
pub left : {context : QuestionsView} {tuple put : List (Option ℕ)} {rows : List (List (Option ℕ))} {candidates rest : List ℕ} {i : ℕ}
    → Offering context tuple rows candidates → slice_get candidates 0 ≡ Some i → rest ≡ drop 1 candidates
    → IsOffered context tuple rows i put → IsAnswered context put false → Offering context tuple rows rest
left {context} {tuple} {put} {rows} {candidates} {rest} {i} offering first is offer answer =
    offering-on candidates offering first is
    (joining-unable context tuple rows i offer.within offer.joining offer.agree (ap (extends context) (sym offer.is) ∙ sym answer.value)
    (ap (λ (c : List (Option ℕ)). first_spent context (c ∷ [])) (sym offer.is) ∙ answer.unspent))

-- a candidate that doesn't agree
pub passed_over : {context : QuestionsView} {tuple row : List (Option ℕ)} {rows held : List (List (Option ℕ))} {candidates rest : List ℕ} {i : ℕ} {found : Bool}
    → Offering context tuple rows candidates → slice_get candidates 0 ≡ Some i → rest ≡ drop 1 candidates → held ≡ rows
    → row ≡ get_or held i [] → found ≡ agrees row tuple → found ≡ false → Offering context tuple rows rest
passed_over {context} {tuple} {row} {rows} {held} {candidates} {rest} {i} {found} offering first is same read tested differs =
    let passed = offering-first candidates offering first in
    offering-on candidates offering first is
    (joining-other context tuple rows i passed.0 passed.1 (ap (λ r. agrees r tuple) (sym (read_row i same read)) ∙ sym tested ∙ differs))

-- no candidate is left
pub joining-none : {context : QuestionsView} {tuple : List (Option ℕ)} {rows : List (List (Option ℕ))} {candidates : List ℕ}
    → Offering context tuple rows candidates → slice_get candidates 0 ≡ None → Joins context tuple rows rows false
joining-none {context} {tuple} {rows} {candidates} offering none =
    joining-end context tuple rows (length rows) (omega arith) (offering-end candidates offering none)

-- no row takes a tuple that isn't extendable
join-fails : (extends : List (Option ℕ) → Bool) (tuple : List (Option ℕ)) (rows : List (List (Option ℕ))) → IsClosed extends → extends tuple ≡ false
    → ((join extends tuple rows).taken ≡ false) × ((join extends tuple rows).rows ≡ rows)
join-fails extends tuple [] closed fails = (refl, refl)
join-fails extends tuple (row ∷ rows) closed fails =
    by_tests (agrees row tuple) (extends (union row tuple)) refl refl (join-fails extends tuple rows closed fails)
  where
    by_tests : (agree able : Bool) → agrees row tuple ≡ agree → extends (union row tuple) ≡ able
        → ((join extends tuple rows).taken ≡ false) × ((join extends tuple rows).rows ≡ rows)
        → ((joined agree able row (union row tuple) rows (join extends tuple rows)).taken ≡ false)
        × ((joined agree able row (union row tuple) rows (join extends tuple rows)).rows ≡ row ∷ rows)
    by_tests false able _ _ later = (later.0, ap (λ list. row ∷ list) later.1)
    by_tests true true agree able later = absurd (false≢true (sym fails ∙ closed (union row tuple) tuple (union-contains_tuple row tuple agree) able))
    by_tests true false _ _ later = (later.0, ap (λ list. row ∷ list) later.1)

pub joins-ruled_out : {context : QuestionsView} {tuple : List (Option ℕ)} {rows : List (List (Option ℕ))} → context.effort ≡ Full
    → extends context tuple ≡ false → Joins context tuple rows rows false
joins-ruled_out {context} {tuple} {rows} full fails =
    let failed = join-fails (extends context) tuple rows (extendable_contains context.model context.slice) fails in
    record {
      asked = none-spent context (join (extends context) tuple rows).asked full;
      taken_is = sym failed.0;
      rows_are = sym failed.1;
    }
