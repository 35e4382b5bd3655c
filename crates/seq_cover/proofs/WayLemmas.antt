-- Ways as sets of events.
use Rattle.std.proofs.Common.{◌≡◌, ℕ, ◌+◌, ◌<◌, ◌≤◌, Bool, true, false, ◌&&◌, ◌||◌, List, [], ◌∷◌, length, get_or}
use Rattle.std.proofs.Common.{eqb, nat_lt, Option, Some, None, IfNone, IfSome, inl, inr, refl, sym, ap, ◌∙◌, arith}
use Rattle.std.proofs.Math.Bool.{and-false}
use Rattle.std.proofs.lemmas.Bool.{and_parts, cases_eq, eq-eqb, ne_eqb, lt-ltb, le-ltb, ltb-true, cases_lt}
use Rattle.seq_check.proofs.FindLemmas.{first_number, no_number}
use Rattle.std.proofs.Math.Bool.{or-false}
use Rattle.seq_check.specs.EventSets.{in_set_at}
use Rattle.seq_check.specs.believed.Orders.{is_arrow}
use Rattle.seq_check.specs.declared.event_set.EventSet.{EventSet}
use Rattle.seq_cover.specs.believed.Ways.{leads, next_near}
use Rattle.seq_cover.specs.Sets.{AreWays}

-- at the place itself nothing is added yet
pub not_yet : (now old more : Bool) (event : ℕ) → now ≡ (old || (nat_lt event event && more)) → now ≡ old
not_yet now old more event is = is ∙ ap (λ t. old || (t && more)) (le-ltb event event (omega arith)) ∙ or-false old

-- one place more: nothing is added at it, or all
pub none_added : (old a t : Bool) (first event : ℕ) → (first ≡ event → a ≡ false) → (old || (nat_lt first event && (a && t))) ≡ (old || (nat_lt first (event + 1) && (a && t)))
none_added old a t first event fails = elim (cases_eq first event) [
  | inl same ↦
      ap (λ b. old || (nat_lt first event && (b && t))) (fails same) ∙ ap (λ b. old || b) (and-false (nat_lt first event))
      ∙ sym (ap (λ b. old || (nat_lt first (event + 1) && (b && t))) (fails same) ∙ ap (λ b. old || b) (and-false (nat_lt first (event + 1))))
  | inr apart ↦ ap (λ b. old || (b && (a && t))) (below_same first event apart)
]
  where
    below_same : (x y : ℕ) → (x ≡ y → ⊥) → nat_lt x y ≡ nat_lt x (y + 1)
    below_same x y apart = elim (cases_lt x y) [
      | inl low ↦ lt-ltb x y low ∙ sym (lt-ltb x (y + 1) (omega arith))
      | inr high ↦ le-ltb x y high ∙ sym (le-ltb x (y + 1) (omega (arith, apart)))
    ]

two_ors : (a b : Bool) → ((a || false) || b) ≡ (a || b)
two_ors true b = refl
two_ors false b = refl

pub some_added : (old a t : Bool) (first event : ℕ) → (first ≡ event → a ≡ true)
    → ((old || (nat_lt first event && (a && t))) || (eqb event first && t)) ≡ (old || (nat_lt first (event + 1) && (a && t)))
some_added old a t first event holds = elim (cases_eq first event) [
  | inl same ↦
      ap (λ b. (old || (b && (a && t))) || (eqb event first && t)) (le-ltb first event (omega arith)) ∙ ap (λ b. (old || false) || (b && t)) (eq-eqb event first (sym same)) ∙ two_ors old t
      ∙ sym (ap (λ b. old || (b && (a && t))) (lt-ltb first (event + 1) (omega arith)) ∙ ap (λ b. old || (b && t)) (holds same))
  | inr apart ↦
      ap (λ b. (old || (nat_lt first event && (a && t))) || (b && t)) (ne_eqb event first (λ e. apart (sym e))) ∙ or-false (old || (nat_lt first event && (a && t)))
      ∙ ap (λ b. old || (b && (a && t))) (below_same first event apart)
]
  where
    below_same : (x y : ℕ) → (x ≡ y → ⊥) → nat_lt x y ≡ nat_lt x (y + 1)
    below_same x y apart = elim (cases_lt x y) [
      | inl low ↦ lt-ltb x y low ∙ sym (lt-ltb x (y + 1) (omega arith))
      | inr high ↦ le-ltb x y high ∙ sym (le-ltb x (y + 1) (omega (arith, apart)))
    ]

-- an arrow more
pub way_more : (sets new : List EventSet) (pairs : List (ℕ × ℕ)) (a b : ℕ) → AreWays sets pairs → a < 64 → b < 64
    → ((first second : ℕ) → first < 64 → in_set_at new first second ≡ (in_set_at sets first second || ((eqb first a || in_set_at sets first a) && (in_set_at sets b second || eqb b second))))
    → AreWays new ((a, b) ∷ pairs)
way_more sets new pairs a b ways low_a low_b more = λ from to below.
    more from to below
    ∙ ap (λ t. t || ((eqb from a || in_set_at sets from a) && (in_set_at sets b to || eqb b to))) (ways from to below)
    ∙ ap (λ t. leads pairs from to || ((eqb from a || t) && (in_set_at sets b to || eqb b to))) (ways from a below)
    ∙ ap (λ t. leads pairs from to || ((eqb from a || leads pairs from a) && (t || eqb b to))) (ways b to low_b)

-- the least near event
pub first_near : (n : ℕ) (pairs : List (ℕ × ℕ)) (test : ℕ → Bool) (event : ℕ) (member : ℕ → Bool)
    → n ≤ 64 → ((b : ℕ) → b < 64 → member b ≡ (is_arrow pairs (event, b) && (nat_lt b n && test b)))
    → (least : Option ℕ) → IfNone least ((b : ℕ) → b < 64 → member b ≡ false)
    → IfSome least (λ k. (k < 64) × (member k ≡ true) × ((b : ℕ) → b < k → member b ≡ false)) → least ≡ next_near n pairs test event
first_near n pairs test event member few is None none some =
    sym (no_number (λ b. is_arrow pairs (event, b) && test b) n
    (λ b below. ap (λ t. is_arrow pairs (event, b) && (t && test b)) (sym (lt-ltb b n below)) ∙ sym (is b (omega arith)) ∙ none b (omega arith)))
first_near n pairs test event member few is (Some k) none some =
    let within : k < n = ltb-true k n (and_parts (nat_lt k n) (test k) (and_parts (is_arrow pairs (event, k)) _ (sym (is k some.0) ∙ some.1)).1).0 in
    sym (first_number (λ b. is_arrow pairs (event, b) && test b) n k within
    (ap (λ t. is_arrow pairs (event, k) && (t && test k)) (sym (lt-ltb k n within)) ∙ sym (is k some.0) ∙ some.1)
    (λ b below. ap (λ t. is_arrow pairs (event, b) && (t && test b)) (sym (lt-ltb b n (omega arith))) ∙ sym (is b (omega (arith, some.0))) ∙ some.2 b below))

pub two_items : (xs : List ℕ) → length xs ≡ 2 → xs ≡ get_or xs 0 0 ∷ get_or xs 1 0 ∷ []
two_items [] long = absurd (omega arith)
two_items (a ∷ []) long = absurd (omega arith)
two_items (a ∷ b ∷ []) long = refl
two_items (a ∷ b ∷ d ∷ xs) long = absurd (omega arith)

pub three_items : (xs : List ℕ) → length xs ≡ 3 → xs ≡ get_or xs 0 0 ∷ get_or xs 1 0 ∷ get_or xs 2 0 ∷ []
three_items [] long = absurd (omega arith)
three_items (a ∷ []) long = absurd (omega arith)
three_items (a ∷ b ∷ []) long = absurd (omega arith)
three_items (a ∷ b ∷ d ∷ []) long = refl
three_items (a ∷ b ∷ d ∷ e ∷ xs) long = absurd (omega arith)
