-- Ways along arrows: an arrow is one, and two of them in a row are one.
use Rattle.std.proofs.Common.{◌≡◌, ℕ, true, ◌&&◌, ◌||◌, List, [], ◌∷◌, eqb, All, get_or, refl, sym, subst, inl, inr, ◌⊎◌}
use Rattle.std.proofs.lemmas.Bool.{false≢true, and_from, and_parts, eq-eqb, eqb-true, or_cases, or_left, or_right}
use Rattle.std.proofs.lemmas.List.Folds.{list_any_at}
use Rattle.seq_check.specs.believed.Orders.{is_arrow}
use Rattle.seq_cover.specs.believed.Ways.{leads}

-- each arrow of a list is an arrow along it
pub arrows_are : (pairs : List (ℕ × ℕ)) → All (λ arrow. is_arrow pairs (arrow.0, arrow.1) ≡ true) pairs
arrows_are pairs k d within =
    let arrow = get_or pairs k d in
    list_any_at (λ other. eqb other.0 arrow.0 && eqb other.1 arrow.1) pairs k d within
    (and_from (eqb arrow.0 arrow.0) (eqb arrow.1 arrow.1) (eq-eqb arrow.0 arrow.0 refl) (eq-eqb arrow.1 arrow.1 refl))

pub leads-arrow : (pairs : List (ℕ × ℕ)) (from to : ℕ) → is_arrow pairs (from, to) ≡ true → leads pairs from to ≡ true
leads-arrow [] from to is = absurd (false≢true is)
leads-arrow (arrow ∷ pairs) from to is = elim (or_cases (eqb arrow.0 from && eqb arrow.1 to) (is_arrow pairs (from, to)) is) [
  | inl here ↦
      let parts = and_parts (eqb arrow.0 from) (eqb arrow.1 to) here in
      or_right (leads pairs from to) ((eqb from arrow.0 || leads pairs from arrow.0) && (leads pairs arrow.1 to || eqb arrow.1 to))
      (and_from (eqb from arrow.0 || leads pairs from arrow.0) (leads pairs arrow.1 to || eqb arrow.1 to)
      (or_left (eqb from arrow.0) (leads pairs from arrow.0) (eq-eqb from arrow.0 (sym (eqb-true arrow.0 from parts.0))))
      (or_right (leads pairs arrow.1 to) (eqb arrow.1 to) parts.1))
  | inr later ↦
      or_left (leads pairs from to) ((eqb from arrow.0 || leads pairs from arrow.0) && (leads pairs arrow.1 to || eqb arrow.1 to)) (leads-arrow pairs from to later)
]

-- with one arrow more, where ways along the others join
module _ (arrow : ℕ × ℕ) (pairs : List (ℕ × ℕ))
    (follow : (from middle to : ℕ) → leads pairs from middle ≡ true → leads pairs middle to ≡ true → leads pairs from to ≡ true) where
  abbrev starts : ℕ → Type 0
  starts from = (eqb from arrow.0 || leads pairs from arrow.0) ≡ true

  abbrev ends : ℕ → Type 0
  ends to = (leads pairs arrow.1 to || eqb arrow.1 to) ≡ true

  through : (from to : ℕ) → starts from → ends to → leads (arrow ∷ pairs) from to ≡ true
  through from to start end =
      or_right (leads pairs from to) ((eqb from arrow.0 || leads pairs from arrow.0) && (leads pairs arrow.1 to || eqb arrow.1 to))
      (and_from (eqb from arrow.0 || leads pairs from arrow.0) (leads pairs arrow.1 to || eqb arrow.1 to) start end)

  to_start : (from middle : ℕ) → leads pairs from middle ≡ true → starts middle → starts from
  to_start from middle before start =
      or_right (eqb from arrow.0) (leads pairs from arrow.0)
      (elim (or_cases (eqb middle arrow.0) (leads pairs middle arrow.0) start) [
        | inl same ↦ subst (λ event. leads pairs from event ≡ true) (eqb-true middle arrow.0 same) before
        | inr way ↦ follow from middle arrow.0 before way
      ])

  from_end : (middle to : ℕ) → ends middle → leads pairs middle to ≡ true → ends to
  from_end middle to end after =
      or_left (leads pairs arrow.1 to) (eqb arrow.1 to)
      (elim (or_cases (leads pairs arrow.1 middle) (eqb arrow.1 middle) end) [
        | inl way ↦ follow arrow.1 middle to way after
        | inr same ↦ subst (λ event. leads pairs event to ≡ true) (sym (eqb-true arrow.1 middle same)) after
      ])

  joined : (from middle to : ℕ) → leads (arrow ∷ pairs) from middle ≡ true → leads (arrow ∷ pairs) middle to ≡ true → leads (arrow ∷ pairs) from to ≡ true
  joined from middle to first second = elim (parts from middle first) [
    | inl before ↦ elim (parts middle to second) [
      | inl after ↦
          or_left (leads pairs from to) ((eqb from arrow.0 || leads pairs from arrow.0) && (leads pairs arrow.1 to || eqb arrow.1 to)) (follow from middle to before after)
      | inr over ↦ through from to (to_start from middle before over.0) over.1
    ]
    | inr over ↦ elim (parts middle to second) [
      | inl after ↦ through from to over.0 (from_end middle to over.1 after)
      | inr again ↦ through from to over.0 again.1
    ]
  ]
    where
      parts : (x y : ℕ) → leads (arrow ∷ pairs) x y ≡ true → (leads pairs x y ≡ true) ⊎ (starts x × ends y)
      parts x y way = elim (or_cases (leads pairs x y) ((eqb x arrow.0 || leads pairs x arrow.0) && (leads pairs arrow.1 y || eqb arrow.1 y)) way) [
        | inl other ↦ inl other
        | inr over ↦ inr (and_parts (eqb x arrow.0 || leads pairs x arrow.0) (leads pairs arrow.1 y || eqb arrow.1 y) over)
      ]

pub leads-then : (pairs : List (ℕ × ℕ)) (from middle to : ℕ) → leads pairs from middle ≡ true → leads pairs middle to ≡ true → leads pairs from to ≡ true
leads-then [] from middle to first second = absurd (false≢true first)
leads-then (arrow ∷ pairs) from middle to first second = joined arrow pairs (leads-then pairs) from middle to first second
