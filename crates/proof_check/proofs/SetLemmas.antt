-- Sets of parameters: equal where they have the same members, and found by their order.
use Rattle.std.proofs.Common.{Less, Equal, Greater, ◌≡◌, ℕ, zero, suc, ◌+◌, ◌<◌, ◌≤◌, true, List, [], ◌∷◌, map, length, get_or, inl, inr, ◌∙◌, refl, sym, ap, subst, arith}
use Rattle.std.specs.Prelude.{◌≢◌}
use Rattle.std.specs.List.Sorted.{IsStrictlySortedBy}
use Rattle.std.proofs.lemmas.Bool.{cases_lt, false≢true}
use Rattle.std.proofs.lemmas.Cmp.{nat_list_cmp_total, tied_itself}
use Rattle.std.proofs.lemmas.List.Elements.{All-from_recursion}
use Rattle.cov_model.specs.Tuples.{IsRising}
use Rattle.definitions.specs.believed.Demand.{is_among}
use Rattle.definitions.proofs.Members.{Has, among_has, of_among, same_answer}
use Rattle.definitions.proofs.SetOrder.{flipped, lex}
use Rattle.tuple_index.specs.Places.{RisesFrom}

-- no member is below the number from which a set rises
low_has : (p e : ℕ) (set : List ℕ) (q : ℕ) → RisesFrom p e set → Has set q → p ≤ q
low_has p e [] q rises has = absurd has
low_has p e (r ∷ set) q rises (inl same) = omega (arith, rises.0, same)
low_has p e (r ∷ set) q rises (inr later) = omega (arith, rises.0, low_has (r + 1) e set q rises.2 later)

tail_among : (e q r s : ℕ) (a b : List ℕ) → q ≡ r → RisesFrom (q + 1) e a → is_among (q ∷ a) s ≡ is_among (r ∷ b) s → is_among a s ≡ true → is_among b s ≡ true
tail_among e q r s a b equal rises same among =
    let has = of_among a s among in
    elim (of_among (r ∷ b) s (sym same ∙ among_has (q ∷ a) s (inr has))) [
      | inl here ↦ absurd (omega (arith, low_has (q + 1) e a s rises has, here, equal))
      | inr later ↦ among_has b s later
    ]

-- the first member of one is not below that of the other
first_least : (p e q r : ℕ) (a b : List ℕ) → RisesFrom p e (r ∷ b) → is_among (q ∷ a) q ≡ is_among (r ∷ b) q → r ≤ q
first_least p e q r a b rises same =
    low_has r e (r ∷ b) q (omega arith, rises.1, rises.2) (of_among (r ∷ b) q (sym same ∙ among_has (q ∷ a) q (inl refl)))

-- rising sets of the same members are one
pub same_members : (p e : ℕ) (a b : List ℕ) → RisesFrom p e a → RisesFrom p e b → ((q : ℕ) → q < e → is_among a q ≡ is_among b q) → a ≡ b
same_members p e [] [] first second same = refl
same_members p e [] (r ∷ b) first second same = absurd (false≢true (same r second.1 ∙ among_has (r ∷ b) r (inl refl)))
same_members p e (q ∷ a) [] first second same = absurd (false≢true (sym (same q first.1) ∙ among_has (q ∷ a) q (inl refl)))
same_members p e (q ∷ a) (r ∷ b) first second same =
    let low = first_least p e q r a b second (same q first.1) in
    let high = first_least p e r q b a first (sym (same r second.1)) in
    let equal : q ≡ r = omega (arith, low, high) in
    let other : RisesFrom (q + 1) e b = subst (λ k. RisesFrom (k + 1) e b) (sym equal) second.2 in
    ap (λ k. k ∷ a) equal
    ∙ ap (λ rest. r ∷ rest) (same_members (q + 1) e a b first.2 other (λ s within.
    same_answer (is_among a s) (is_among b s) (tail_among e q r s a b equal first.2 (same s within))
    (tail_among e r q s b a (sym equal) second.2 (sym (same s within)))))

-- the parameters of rising pairs rise
params_from : (p e : ℕ) (pair : ℕ × ℕ) (pairs : List (ℕ × ℕ)) → p ≤ pair.0 → IsRising (pair ∷ pairs) → ((other : ℕ × ℕ) → Has (pair ∷ pairs) other → other.0 < e)
    → RisesFrom p e (map (λ pair. pair.0) (pair ∷ pairs))
params_from p e pair [] low rising each = (low, each pair (inl refl), tt)
params_from p e pair (next ∷ pairs) low rising each =
    (low, each pair (inl refl), params_from (pair.0 + 1) e next pairs (omega (arith, rising.0)) rising.1 (λ other has. each other (inr has)))

pub params_rise : (e : ℕ) (pairs : List (ℕ × ℕ)) → IsRising pairs → ((pair : ℕ × ℕ) → Has pairs pair → pair.0 < e) → RisesFrom 0 e (map (λ pair. pair.0) pairs)
params_rise e [] rising each = tt
params_rise e (pair ∷ pairs) rising each = params_from 0 e pair pairs (omega arith) rising each

-- of sets in order an earlier one is less
sorted_at : (sets : List (List ℕ)) (i j : ℕ) → IsStrictlySortedBy lex sets → i < j → j < length sets → lex (get_or sets i []) (get_or sets j []) ≡ Less
unfolding IsStrictlySortedBy
sorted_at [] i j sorted before within = absurd (omega (arith, within))
sorted_at (set ∷ sets) zero zero sorted before within = absurd (omega (arith, before))
sorted_at (set ∷ sets) (suc i) zero sorted before within = absurd (omega (arith, before))
sorted_at (set ∷ sets) zero (suc j) sorted before within = All-from_recursion (λ other. lex set other ≡ Less) sets sorted.0 j [] (omega (arith, within))
sorted_at (set ∷ sets) (suc i) (suc j) sorted before within = sorted_at sets i j sorted.1 (omega (arith, before)) (omega (arith, within))

-- a set isn't less than itself
not_less : (set : List ℕ) → lex set set ≡ Less → ⊥
not_less set less = unequal (sym (tied_itself nat_list_cmp_total set) ∙ less)
  where
    unequal : Equal ≡ Less → ⊥
    unequal e = cc

-- where a set is less than what is looked for, no set up to it is that
pub none_below : (sets : List (List ℕ)) (middle : ℕ) (params : List ℕ) → IsStrictlySortedBy lex sets → middle < length sets
    → lex (get_or sets middle []) params ≡ Less → (i : ℕ) → i ≤ middle → get_or sets i [] ≢ params
none_below sets middle params sorted within less i low same = elim (cases_lt i middle) [
  | inl before ↦
      not_less params
      (ap (λ set. lex set params) (sym same)
      ∙ nat_list_cmp_total.trans (get_or sets i []) (get_or sets middle []) params (sorted_at sets i middle sorted before within) less)
  | inr past ↦
      let here : middle ≡ i = omega (arith, low, past) in
      not_less params (ap (λ set. lex set params) (sym (ap (λ k. get_or sets k []) here ∙ same)) ∙ less)
]

-- where it is greater, no set from it on is
pub none_above : (sets : List (List ℕ)) (middle : ℕ) (params : List ℕ) → IsStrictlySortedBy lex sets
    → lex (get_or sets middle []) params ≡ Greater → (i : ℕ) → middle ≤ i → i < length sets → get_or sets i [] ≢ params
none_above sets middle params sorted greater i high within same =
    let less = flipped (get_or sets middle []) params greater in
    elim (cases_lt middle i) [
      | inl before ↦
          not_less params
          (nat_list_cmp_total.trans params (get_or sets middle []) params less
          (ap (λ set. lex (get_or sets middle []) set) (sym same) ∙ sorted_at sets middle i sorted before within))
      | inr past ↦
          let here : middle ≡ i = omega (arith, high, past) in
          not_less params (ap (lex params) (sym (ap (λ k. get_or sets k []) here ∙ same)) ∙ less)
    ]
