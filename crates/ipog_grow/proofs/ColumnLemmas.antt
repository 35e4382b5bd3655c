-- The parameters that are done when a column is.
use Rattle.std.proofs.Common.{◌≡◌, ℕ, zero, suc, ◌<◌, Bool, true, false, cond, ◌||◌, List, [], ◌∷◌, length, take, filter, Option, Some, None, get_or, nat_eq, All, ◌∙◌, sym, ap, refl, arith, inl, inr}
use Rattle.std.specs.List.{last_or}
use Rattle.std.proofs.lemmas.Bool.{false≢true}
use Rattle.std.proofs.lemmas.List.Elements.{All-nil, All-cons, All-head, All-tail}
use Rattle.value_text.proofs.ListLemmas.{Some-from_equal}
use Rattle.definitions.proofs.PartialRowLemmas.{among_head, among_tail}
use Rattle.cov_model.specs.believed.Sound.{ModelView}
use Rattle.cov_model.specs.declared.slice.Slice.{Slice}
use Rattle.definitions.specs.believed.Demand.{is_among}
use Rattle.definitions.specs.believed.Completion.{column_order}
use Rattle.definitions.proofs.InPlay.{order_has}
use Rattle.definitions.proofs.Members.{among_has}
use Rattle.uncovered_table.specs.Places.{ends_with_column}
use Rattle.ipog_grow.specs.Growing.{columns_to, up_to}
use Rattle.ipog_grow.proofs.Falling.{Distinct, among_cases}

-- the last of the numbers that pass a test is one of them
last-among : (test : ℕ → Bool) (x : ℕ) (xs : List ℕ) (p : ℕ) → last_or (Some x) (filter test xs) ≡ Some p → is_among (x ∷ xs) p ≡ true
last-among test x [] p e = let same : x ≡ p = cc in ap (is_among (x ∷ [])) (sym same) ∙ among_head x []
last-among test x (y ∷ xs) p e = by_test (test y) e (last-among test x xs p) (last-among test y xs p)
  where
    over : is_among (x ∷ xs) p ≡ true → is_among (x ∷ y ∷ xs) p ≡ true
    over among = at (nat_eq x p) (nat_eq y p) (is_among xs p) among
      where
        at : (a b c : Bool) → (a || c) ≡ true → (a || (b || c)) ≡ true
        at true b c h = refl
        at false true c h = refl
        at false false c h = h

    by_test : (b : Bool) → last_or (Some x) (cond b (y ∷ filter test xs) (filter test xs)) ≡ Some p
        → (last_or (Some x) (filter test xs) ≡ Some p → is_among (x ∷ xs) p ≡ true) → (last_or (Some y) (filter test xs) ≡ Some p → is_among (y ∷ xs) p ≡ true)
        → is_among (x ∷ y ∷ xs) p ≡ true
    by_test true h without with = among_tail x p (y ∷ xs) (with h)
    by_test false h without with = over (without h)

-- and each of them stands up to it
record IsUpTo (p : ℕ) (order : List ℕ) (q : ℕ) : Type 0 where
  here : is_among order p ≡ true
  there : is_among (up_to p order) q ≡ true

up_to-cons : (p x : ℕ) (xs : List ℕ) → is_among (x ∷ xs) p ≡ true → up_to p (x ∷ xs) ≡ x ∷ up_to p xs
up_to-cons p x xs among = ap (λ (b : Bool). cond b (x ∷ up_to p xs) []) among

last-up_to : (test : ℕ → Bool) (start : Option ℕ) (order : List ℕ) (p q : ℕ) → last_or start (filter test order) ≡ Some p → test q ≡ true
    → is_among order q ≡ true → IsUpTo p order q
last-up_to test start [] p q e passes among = absurd (false≢true among)
last-up_to test start (x ∷ xs) p q e passes among =
    elim (among_cases x q xs among) [
      | inl same ↦
          let own : test x ≡ true = ap test same ∙ passes in
          let last : last_or (Some x) (filter test xs) ≡ Some p = sym (ap (λ (b : Bool). last_or start (cond b (x ∷ filter test xs) (filter test xs))) own)
          ∙ e in
          let here = last-among test x xs p last in
          record {
            here = here;
            there = ap (λ list. is_among list q) (up_to-cons p x xs here) ∙ ap (is_among (x ∷ up_to p xs)) (sym same) ∙ among_head x (up_to p xs);
          }
      | inr later ↦
          by_test (test x) e (λ next h. last-up_to test next xs p q h passes later)
    ]
  where
    by_test : (b : Bool) → last_or start (cond b (x ∷ filter test xs) (filter test xs)) ≡ Some p
        → ((next : Option ℕ) → last_or next (filter test xs) ≡ Some p → IsUpTo p xs q) → IsUpTo p (x ∷ xs) q
    by_test b h rest = with (at b h rest)
      where
        at : (b : Bool) → last_or start (cond b (x ∷ filter test xs) (filter test xs)) ≡ Some p
            → ((next : Option ℕ) → last_or next (filter test xs) ≡ Some p → IsUpTo p xs q) → IsUpTo p xs q
        at true h rest = rest (Some x) h
        at false h rest = rest start h

        with : IsUpTo p xs q → IsUpTo p (x ∷ xs) q
        with to =
            let here = among_tail x p xs to.here in
            record { here = here; there = ap (λ list. is_among list q) (up_to-cons p x xs here) ∙ among_tail x q (up_to p xs) to.there }

-- the members of a set that ends with a column are done when the column is
pub ends-columns_to : (m : ModelView) (slice : Slice) (p : ℕ) (set : List ℕ) (q : ℕ) → ends_with_column m slice p set ≡ true → is_among set q ≡ true
    → q < length m.params
    → is_among (columns_to m slice p) q ≡ true
ends-columns_to m slice p set q ends member within =
    (last-up_to (is_among set) None (column_order m slice) p q (Some-from_equal (last_or None (filter (is_among set) (column_order m slice))) p ends) member
    (among_has (column_order m slice) q (order_has m slice q within))).there

-- the first columns are those up to the last of them
none-up_to : (p : ℕ) (xs : List ℕ) → is_among xs p ≡ false → up_to p xs ≡ []
none-up_to p [] other = refl
none-up_to p (x ∷ xs) other = ap (λ (b : Bool). cond b (x ∷ up_to p xs) []) other

pub take-up_to : (order : List ℕ) (k : ℕ) → k < length order → Distinct order → take (suc k) order ≡ up_to (get_or order k 0) order
take-up_to [] k within distinct = absurd (omega arith)
take-up_to (x ∷ xs) zero within distinct =
    ap (λ list. x ∷ list) (sym (none-up_to x xs distinct.0)) ∙ sym (up_to-cons x x xs (among_head x xs))
take-up_to (x ∷ xs) (suc k) within distinct =
    ap (λ list. x ∷ list) (take-up_to xs k (omega arith) distinct.1)
    ∙ sym (up_to-cons (get_or xs k 0) x xs (among_tail x (get_or xs k 0) xs (among_at xs k (omega arith))))
  where
    among_at : (ys : List ℕ) (j : ℕ) → j < length ys → is_among ys (get_or ys j 0) ≡ true
    among_at [] j inside = absurd (omega arith)
    among_at (y ∷ ys) zero inside = among_head y ys
    among_at (y ∷ ys) (suc j) inside = among_tail y (get_or ys j 0) ys (among_at ys j (omega arith))

-- what holds of each column holds of those that are done
pub All-up_to : (P : ℕ → Type 0) (p : ℕ) (order : List ℕ) → All P order → All P (up_to p order)
All-up_to P p [] all = all
All-up_to P p (x ∷ xs) all = at (is_among (x ∷ xs) p) (All-up_to P p xs (All-tail P x xs all))
  where
    at : (b : Bool) → All P (up_to p xs) → All P (cond b (x ∷ up_to p xs) [])
    at true rest = All-cons P x (up_to p xs) (All-head P x xs all) rest
    at false rest = All-nil P
