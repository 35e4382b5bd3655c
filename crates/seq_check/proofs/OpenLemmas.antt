-- Which sequences are open, by the place of their set.
use Rattle.std.proofs.Common.{◌≡◌, ℕ, ◌+◌, ◌*◌, ◌<◌, ◌≤◌, ◌⊎◌, ◌-◌, Bool, true, false, ◌&&◌, List, [], ◌∷◌, ◌++◌, length, not}
use Rattle.std.proofs.Common.{take, get_or, slice_index, nat_lt, eqb, All, inl, inr, refl, sym, ap, subst, ◌∙◌, arith}
use Rattle.std.specs.Bool.{Decides}
use Rattle.std.specs.Str.{bytes_eq}
use Rattle.std.proofs.lemmas.Bool.{and_parts, and_from, cases_eq, cases_lt, eq-eqb, eqb-true, ne_eqb, le-ltb, lt-ltb, ltb-true}
use Rattle.std.proofs.lemmas.Bool.Decides.{same_from_decides}
use Rattle.std.proofs.lemmas.List.{take_more, length-take-le}
use Rattle.std.proofs.Math.Seq.{take-length}
use Rattle.std.proofs.lemmas.List.Elements.{All-head, All-tail, All-take}
use Rattle.std.proofs.lemmas.Slice.Eq.{bytes_eq-Decides}
use Rattle.std.proofs.Math.Bool.{and-false, and-true}
use Rattle.seq_check.proofs.FindLemmas.{swapped}
use Rattle.seq_check.specs.EventSets.{AreSets, IsFront, OpenView, first_of, in_set, in_set_at, rises, second_of, set_count, set_place}
use Rattle.seq_check.specs.declared.event_set.EventSet.{EventSet}

-- the events but the last of two, and of three
pub record Two (n : ℕ) (front : List ℕ) : Type 0 where
  pub first : ℕ
  pub is : front ≡ first ∷ []
  pub exists : first < n

pub record Three (n : ℕ) (front : List ℕ) : Type 0 where
  pub first : ℕ
  pub second : ℕ
  pub is : front ≡ first ∷ second ∷ []
  pub exists : first < n
  pub later : second < n

pub two : (n : ℕ) (front : List ℕ) → IsFront 2 n front → Two n front
two n [] f = let long = f.long in absurd (omega arith)
two n (a ∷ []) f = record { first = a; is = refl; exists = All-head (λ event. event < n) a [] f.exist }
two n (a ∷ b ∷ rest) f = let long = f.long in absurd (omega arith)

pub three : (n : ℕ) (front : List ℕ) → IsFront 3 n front → Three n front
three n [] f = let long = f.long in absurd (omega arith)
three n (a ∷ []) f = let long = f.long in absurd (omega arith)
three n (a ∷ b ∷ []) f = record {
  first = a;
  second = b;
  is = refl;
  exists = All-head (λ event. event < n) a (b ∷ []) f.exist;
  later = All-head (λ event. event < n) b [] (All-tail (λ event. event < n) a (b ∷ []) f.exist);
}
three n (a ∷ b ∷ d ∷ rest) f = let long = f.long in absurd (omega arith)

-- there is a set at the place
pub place_below : (len n : ℕ) (front : List ℕ) (last : ℕ) → (len ≡ 2) ⊎ (len ≡ 3) → n ≤ 64 → IsFront len n front → last < 64 → set_place front last < set_count len
place_below len n front last of few f below = elim of [
  | inl e ↦
      let shape = two n front (subst (λ l. IsFront l n front) e f) in
      rw (e, shape.is) below
  | inr e ↦
      let shape = three n front (subst (λ l. IsFront l n front) e f) in
      let later = shape.later in
      rw (e, shape.is) (omega arith)
]

pub place_within : (o : OpenView) (n : ℕ) (front : List ℕ) (last : ℕ) → AreSets o → n ≤ 64 → IsFront o.len n front → last < 64 → set_place front last < length o.sets
place_within o n front last sets few f below = let low = place_below o.len n front last sets.0 few f below in omega (arith, low, sets.1)

-- the first event exists, and the second one
pub first_below : (len n : ℕ) (front : List ℕ) → (len ≡ 2) ⊎ (len ≡ 3) → IsFront len n front → first_of front < n
first_below len n front of f = elim of [
  | inl e ↦ let shape = two n front (subst (λ l. IsFront l n front) e f) in rw shape.is shape.exists
  | inr e ↦ let shape = three n front (subst (λ l. IsFront l n front) e f) in rw shape.is shape.exists
]

pub second_below : (len n : ℕ) (front : List ℕ) (last : ℕ) → (len ≡ 2) ⊎ (len ≡ 3) → IsFront len n front → last < n → second_of front last < n
second_below len n front last of f below = elim of [
  | inl e ↦ let shape = two n front (subst (λ l. IsFront l n front) e f) in rw shape.is below
  | inr e ↦ let shape = three n front (subst (λ l. IsFront l n front) e f) in rw shape.is shape.later
]

-- no two sequences have the same place and the same first event
same_pair : (a b c d : ℕ) → b < 64 → d < 64 → 64 * a + b ≡ 64 * c + d → (a ≡ c) × (b ≡ d)
same_pair a b c d small_b small_d e = (omega arith, omega arith)

same_sequence : (len : ℕ) (front other : List ℕ) (last end : ℕ) → (len ≡ 2) ⊎ (len ≡ 3) → IsFront len 64 front → IsFront len 64 other → last < 64 → end < 64
    → set_place front last ≡ set_place other end → first_of front ≡ first_of other → (front ≡ other) × (last ≡ end)
same_sequence len front other last end of f g low high same first = elim of [
  | inl e ↦
      let x = two 64 front (subst (λ l. IsFront l 64 front) e f) in
      let y = two 64 other (subst (λ l. IsFront l 64 other) e g) in
      let equal : x.first ≡ y.first = sym (ap first_of x.is) ∙ first ∙ ap first_of y.is in
      let ends : last ≡ end = sym (ap (λ l. set_place l last) x.is) ∙ same ∙ ap (λ l. set_place l end) y.is in
      (x.is ∙ ap (λ k. k ∷ []) equal ∙ sym y.is, ends)
  | inr e ↦
      let x = three 64 front (subst (λ l. IsFront l 64 front) e f) in
      let y = three 64 other (subst (λ l. IsFront l 64 other) e g) in
      let equal : x.first ≡ y.first = sym (ap first_of x.is) ∙ first ∙ ap first_of y.is in
      let pair = same_pair x.second last y.second end low high (sym (ap (λ l. set_place l last) x.is) ∙ same ∙ ap (λ l. set_place l end) y.is) in
      (x.is ∙ ap (λ k. k ∷ x.second ∷ []) equal ∙ ap (λ k. y.first ∷ k ∷ []) pair.0 ∙ sym y.is, pair.1)
]

-- two lists with one more event each
push_same : (xs ys : List ℕ) (x y : ℕ) → length xs ≡ length ys → xs ++ x ∷ [] ≡ ys ++ y ∷ [] → (xs ≡ ys) × (x ≡ y)
push_same [] [] x y long e = (refl, cc)
push_same [] (b ∷ ys) x y long e = absurd (omega arith)
push_same (a ∷ xs) [] x y long e = absurd (omega arith)
push_same (a ∷ xs) (b ∷ ys) x y long e =
    let head : a ≡ b = cc in
    let tail : xs ++ x ∷ [] ≡ ys ++ y ∷ [] = cc in
    let rest = push_same xs ys x y (omega arith) tail in
    (ap (λ k. k ∷ xs) head ∙ ap (λ l. b ∷ l) rest.0, rest.1)

-- a sequence is the one that is closed
pub closes_one : (len : ℕ) (front other : List ℕ) (last end : ℕ) → (len ≡ 2) ⊎ (len ≡ 3) → IsFront len 64 front → IsFront len 64 other → last < 64 → end < 64
    → (eqb (set_place other end) (set_place front last) && eqb (first_of other) (first_of front)) ≡ bytes_eq (front ++ last ∷ []) (other ++ end ∷ [])
closes_one len front other last end of f g low high =
    let Same : Type 0 = (front ≡ other) × (last ≡ end) in
    let left : Decides (eqb (set_place other end) (set_place front last) && eqb (first_of other) (first_of front)) Same = (
      λ e. let parts = and_parts _ _ e in
          same_sequence len front other last end of f g low high (sym (eqb-true _ _ parts.0)) (sym (eqb-true _ _ parts.1)),
      λ e. and_from _ _ (eq-eqb _ _ (sym (ap (λ l. set_place l last) e.0 ∙ ap (set_place other) e.1))) (eq-eqb _ _ (sym (ap first_of e.0))),
    ) in
    let right : Decides (bytes_eq (front ++ last ∷ []) (other ++ end ∷ [])) Same = (
      λ e. push_same front other last end (omega (arith, f.long, g.long)) ((bytes_eq-Decides (front ++ last ∷ []) (other ++ end ∷ [])).0 e),
      λ e. (bytes_eq-Decides (front ++ last ∷ []) (other ++ end ∷ [])).1 (ap (λ l. l ++ last ∷ []) e.0 ∙ ap (λ k. other ++ k ∷ []) e.1),
    ) in
    same_from_decides _ _ left right

-- a list is its front and its last event
split_last : (xs : List ℕ) → 0 < length xs → take (length xs - 1) xs ++ get_or xs (length xs - 1) 0 ∷ [] ≡ xs
split_last xs some =
    sym (take_more xs (length xs - 1) 0 (omega arith))
    ∙ ap (λ n. take n xs) (let same : length xs - 1 + 1 ≡ length xs = omega arith in same) ∙ take-length xs

pub front_is : (len : ℕ) (sequence : List ℕ) → (len ≡ 2) ⊎ (len ≡ 3) → length sequence ≡ len
    → All (λ event. event < 64) sequence → IsFront len 64 (take (length sequence - 1) sequence)
front_is len sequence of long exist = record {
  long = let some : 0 < len = elim of [ inl e ↦ omega arith | inr e ↦ omega arith ] in omega (arith, length-take-le (length sequence - 1) sequence (omega arith));
  exist = All-take (λ event. event < 64) (length sequence - 1) sequence exist;
}

pub last_below : (len : ℕ) (sequence : List ℕ) → (len ≡ 2) ⊎ (len ≡ 3) → length sequence ≡ len → All (λ event. event < 64) sequence → get_or sequence (length sequence - 1) 0 < 64
last_below len sequence of long exist =
    let some : 0 < len = elim of [ inl e ↦ omega arith | inr e ↦ omega arith ] in
    exist (length sequence - 1) 0 (omega (arith, long, some))

pub closes_last : (len : ℕ) (sequence front : List ℕ) (last : ℕ) → (len ≡ 2) ⊎ (len ≡ 3)
    → length sequence ≡ len → All (λ event. event < 64) sequence → IsFront len 64 front → last < 64
    → (eqb (set_place (take (length sequence - 1) sequence) (get_or sequence (length sequence - 1) 0)) (set_place front last)
    && eqb (first_of (take (length sequence - 1) sequence)) (first_of front))
    ≡ bytes_eq (front ++ last ∷ []) sequence
closes_last len sequence front last of long exist f low =
    let some : 0 < len = elim of [ inl e ↦ omega arith | inr e ↦ omega arith ] in
    closes_one len front (take (length sequence - 1) sequence) last (get_or sequence (length sequence - 1) 0) of f (front_is len sequence of long exist) low
    (last_below len sequence of long exist)
    ∙ ap (bytes_eq (front ++ last ∷ [])) (split_last sequence (omega arith))

-- three events rise exactly where the first two do, and the last two
chain : (a b : Bool) (d : Bool) → (a ≡ true → b ≡ true → d ≡ true) → (a && b) ≡ (a && (d && (b && true)))
chain false b d follows = refl
chain true false d follows = sym (and-false d)
chain true true d follows = ap (λ t. t && true) (sym (follows refl refl))

three_rise : (at : List ℕ) (a b d : ℕ) → (nat_lt (slice_index at a) (slice_index at b) && nat_lt (slice_index at b) (slice_index at d)) ≡ rises at (a ∷ b ∷ d ∷ [])
three_rise at a b d =
    chain (nat_lt (slice_index at a) (slice_index at b)) (nat_lt (slice_index at b) (slice_index at d)) (nat_lt (slice_index at a) (slice_index at d))
    (λ first second. let low = ltb-true _ _ first in let high = ltb-true _ _ second in lt-ltb _ _ (omega arith))

-- the pairs that a row has, with the second event
pub ahead_two : (at : List ℕ) (n event first last : ℕ) (within : Bool) → first < n → within ≡ (nat_lt first n && nat_lt (slice_index at first) (slice_index at event))
    → (eqb event last && within) ≡ (eqb event last && rises at (first ∷ last ∷ []))
ahead_two at n event first last within below is = elim (cases_eq event last) [
  | inl same ↦
      let inside : within ≡ nat_lt (slice_index at first) (slice_index at event) = is ∙ ap (λ t. t && nat_lt (slice_index at first) (slice_index at event)) (lt-ltb first n below) in
      let here = eq-eqb event last same in
      rw here (inside ∙ ap (λ e. nat_lt (slice_index at first) (slice_index at e)) same ∙ sym (and-true (nat_lt (slice_index at first) (slice_index at last))))
  | inr apart ↦ rw (ne_eqb event last apart) refl
]

-- and the triples
pub ahead_three : (at : List ℕ) (n event first second last : ℕ) (within : Bool) → first < n → within ≡ (nat_lt first n && nat_lt (slice_index at first) (slice_index at event))
    → ((eqb event second && nat_lt (slice_index at event) (slice_index at last)) && within) ≡ (eqb event second && rises at (first ∷ second ∷ last ∷ []))
ahead_three at n event first second last within below is = elim (cases_eq event second) [
  | inl same ↦
      let inside : within ≡ nat_lt (slice_index at first) (slice_index at event) = is ∙ ap (λ t. t && nat_lt (slice_index at first) (slice_index at event)) (lt-ltb first n below) in
      let here = eq-eqb event second same in
      rw (here, inside) (swapped (nat_lt (slice_index at event) (slice_index at last)) (nat_lt (slice_index at first) (slice_index at event))
      ∙ ap (λ e. nat_lt (slice_index at first) (slice_index at e) && nat_lt (slice_index at e) (slice_index at last)) same ∙ three_rise at first second last)
  | inr apart ↦ rw (ne_eqb event second apart) refl
]

-- the triples closed so far, with one more last event
same_step : (old here within : Bool) → ((old && true) && not (here && within)) ≡ (old && not ((here && true) && within))
same_step false here within = refl
same_step true true within = refl
same_step true false within = refl

pub closed_more : (at : List ℕ) (event last n : ℕ) (firsts : EventSet) (before now after : List EventSet) → n ≤ 64 → last < n → slice_index at event < slice_index at last
    → ((first second k : ℕ) → first < 64 → second < 64 → k < n → in_set_at now (64 * second + k) first ≡ (in_set_at before (64 * second + k) first
    && not ((nat_lt k last && (eqb event second && nat_lt (slice_index at event) (slice_index at k))) && in_set firsts first)))
    → ((other first : ℕ) → first < 64 → in_set_at after other first ≡ (in_set_at now other first && not (eqb (64 * event + last) other && in_set firsts first)))
    → (first second k : ℕ) → first < 64 → second < 64 → k < n → in_set_at after (64 * second + k) first ≡ (in_set_at before (64 * second + k) first
    && not ((nat_lt k (last + 1) && (eqb event second && nat_lt (slice_index at event) (slice_index at k))) && in_set firsts first))
closed_more at event last n firsts before now after few below higher so_far closed first second k f s low =
    closed (64 * second + k) first f ∙ ap (λ t. t && not (eqb (64 * event + last) (64 * second + k) && in_set firsts first)) (so_far first second k f s low)
    ∙ elim (cases_eq last k) [
      | inl same ↦
          let here : eqb (64 * event + last) (64 * second + k) ≡ eqb event second = elim (cases_eq event second) [
            | inl e ↦ eq-eqb (64 * event + last) (64 * second + k) (omega arith) ∙ sym (eq-eqb event second e)
            | inr apart ↦ ne_eqb (64 * event + last) (64 * second + k) (λ e. apart (omega arith)) ∙ sym (ne_eqb event second apart)
          ] in
          let past : nat_lt k last ≡ false = le-ltb k last (omega arith) in
          let next : nat_lt k (last + 1) ≡ true = lt-ltb k (last + 1) (omega arith) in
          let up : nat_lt (slice_index at event) (slice_index at k) ≡ true = lt-ltb _ _ (subst (λ j. slice_index at event < slice_index at j) same higher) in
          rw (here, past, next, up) (same_step (in_set_at before (64 * second + k) first) (eqb event second) (in_set firsts first))
      | inr apart ↦
          let there : eqb (64 * event + last) (64 * second + k) ≡ false =
          ne_eqb (64 * event + last) (64 * second + k) (λ e. apart (same_pair event last second k (omega arith) (omega arith) e).1) in
          let bound : nat_lt k (last + 1) ≡ nat_lt k last = elim (cases_lt k last) [
            | inl lower ↦ lt-ltb k (last + 1) (omega arith) ∙ sym (lt-ltb k last lower)
            | inr past ↦ le-ltb k (last + 1) (omega arith) ∙ sym (le-ltb k last past)
          ] in
          rw (there, bound) (and-true _)
    ]
