-- Ranks and tuples are inverse.
use Rattle.std.proofs.Common.{◌≡◌, ℕ, zero, suc, ◌+◌, ◌<◌, ◌≤◌, List, [], ◌∷◌, length, get_or, Option, Some, None, ◌∙◌, refl, sym, subst, ap, arith, zero-add}
use Rattle.std.specs.Prelude.{slice_get}
use Rattle.std.proofs.lemmas.Option.{slice_get_within}
use Rattle.std.proofs.lemmas.List.FromFn.{get_or-map-range_with_len}
use Rattle.cov_model.specs.believed.Sound.{ModelView}
use Rattle.cov_model.specs.believed.Slices.{slices}
use Rattle.definitions.specs.believed.Demand.{demanded_sets, tuples_in, tuples_of}
use Rattle.definitions.proofs.Members.{Has, has_place}
use Rattle.definitions.proofs.Distinct.{NoRepeats, repeats_flat}
use Rattle.definitions.proofs.SliceLemmas.{is_slice, slice_is}
use Rattle.definitions.proofs.InPlay.{tuple_is}
use Rattle.definitions.proofs.Grown.{slices_once}
use Rattle.definitions.proofs.MetOnce.{tuples_once}
use Rattle.tuple_index.specs.Laws.{HasRank, RanksAreInverse}
use Rattle.tuple_index.specs.Plan.{PlanView, IsChoice, plan_of, set_at, tuple_cells, value_given}
use Rattle.tuple_index.specs.Places.{RisesFrom}
use Rattle.tuple_index.proofs.ListingLemmas.{apart_test}
use Rattle.tuple_index.proofs.OrderLemmas.{demanded_rise}
use Rattle.std.proofs.lemmas.Option.{same_Some}
use Rattle.std.proofs.lemmas.Bool.{eq-eqb}
use Rattle.tuple_index.proofs.RankLemmas.{choice_long}

-- what stands at a place stands nowhere else, where no member comes again
pub one_place : {X : Type 0} (xs : List X) (i j : ℕ) (x : X) → NoRepeats xs → slice_get xs i ≡ Some x → slice_get xs j ≡ Some x → i ≡ j
one_place [] i j x once here there = absurd (omega (arith, slice_get_within [] i x here))
one_place (y ∷ xs) zero zero x once here there = refl
one_place (y ∷ xs) zero (suc j) x once here there = absurd (once.0 (subst (Has xs) (sym (same_Some y x here)) (has_place xs j x there)))
one_place (y ∷ xs) (suc i) zero x once here there = absurd (once.0 (subst (Has xs) (sym (same_Some y x there)) (has_place xs i x here)))
one_place (y ∷ xs) (suc i) (suc j) x once here there = ap suc (one_place xs i j x once.1 here there)

-- the demanded tuples of a set are distinct
pub tuples_differ : (m : ModelView) (set : List ℕ) → NoRepeats (tuples_of m set)
tuples_differ m set =
    repeats_flat (tuples_in m set) (slices m) (λ slice has. tuples_once m set slice (is_slice m slice has))
    (λ first second tuple has_first has_second here there.
    let one = is_slice m first has_first in
    let two = is_slice m second has_second in
    sym (slice_is m first tuple one (tuple_is m set first tuple one here).belongs).is
    ∙ (slice_is m second tuple two (tuple_is m set second tuple two there).belongs).is)
    (slices_once m)

-- a tuple of a rising set tells the values of its members
values_told : (set first second : List ℕ) (p e : ℕ) → RisesFrom p e set → length first ≡ length set → length second ≡ length set
    → ((q : ℕ) → p ≤ q → q < e → value_given set first q ≡ value_given set second q) → first ≡ second
values_told [] [] [] p e rises one two same = refl
values_told [] (v ∷ first) second p e rises one two same = absurd (omega (arith, one))
values_told [] [] (w ∷ second) p e rises one two same = absurd (omega (arith, two))
values_told (r ∷ set) [] second p e rises one two same = absurd (omega (arith, one))
values_told (r ∷ set) (v ∷ first) [] p e rises one two same = absurd (omega (arith, two))
values_told (r ∷ set) (v ∷ first) (w ∷ second) p e rises one two same =
    let here : v ≡ w = same_Some v w (sym (own v first) ∙ same r rises.0 rises.1 ∙ own w second) in
    let later : first ≡ second = values_told set first second (r + 1) e rises.2 (omega (arith, one)) (omega (arith, two))
    (λ q least most. sym (past v first q least) ∙ same q (omega (arith, rises.0, least)) most ∙ past w second q least) in
    ap (λ u. u ∷ first) here ∙ ap (λ us. w ∷ us) later
  where
    own : (u : ℕ) (others : List ℕ) → value_given (r ∷ set) (u ∷ others) r ≡ Some u
    own u others = let test = eq-eqb r r refl in rw test refl

    past : (u : ℕ) (others : List ℕ) (q : ℕ) → r + 1 ≤ q → value_given (r ∷ set) (u ∷ others) q ≡ value_given set others q
    past u others q least = let test = apart_test r q (omega (arith, least)) in rw test refl

pub cells_tell : (m : ModelView) (set first second : List ℕ) → RisesFrom 0 (length m.params) set → length first ≡ length set → length second ≡ length set
    → tuple_cells m set first ≡ tuple_cells m set second → first ≡ second
cells_tell m set first second rises one two same =
    values_told set first second 0 (length m.params) rises one two
    (λ q least most. sym (given first q most) ∙ ap (λ (cells : List (Option ℕ)). get_or cells q None) same ∙ given second q most)
  where
    given : (values : List ℕ) (q : ℕ) → q < length m.params → get_or (tuple_cells m set values) q None ≡ value_given set values q
    given values q most = get_or-map-range_with_len (value_given set values) 0 (length m.params) q q None most (zero-add q)

pub ranks_are_inverse : RanksAreInverse
ranks_are_inverse m i d within values others rank other choice another here there =
    let set = get_or (demanded_sets m) i d in (
      λ same.
          cells_tell m set values others (demanded_rise m i d within) (choice_long (plan_of m) set values choice.exist)
          (choice_long (plan_of m) set others another.exist)
          (same_Some (tuple_cells m set values) (tuple_cells m set others) (sym here ∙ ap (slice_get (tuples_of m set)) same ∙ there)),
      λ same. one_place (tuples_of m set) rank other (tuple_cells m set values) (tuples_differ m set) here
          (there ∙ ap (λ vs. Some (tuple_cells m set vs)) (sym same)),
    )

-- what a caller knows of a plan's set, of the plan of the model
pub of_plan : (m : ModelView) (plan : PlanView) (set : ℕ) (values : List ℕ) (rank : ℕ) → plan ≡ plan_of m → set < length plan.sets
    → IsChoice plan (set_at plan set) values → HasRank m (set_at plan set) values rank
    → (set < length (demanded_sets m)) × IsChoice (plan_of m) (set_at (plan_of m) set) values × HasRank m (set_at (plan_of m) set) values rank
of_plan m plan set values rank same within choice here =
    subst (λ p. (set < length p.sets) × IsChoice p (set_at p set) values × HasRank m (set_at p set) values rank) same (within, choice, here)
