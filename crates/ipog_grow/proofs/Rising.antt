-- Rows of which each stands before the next one are distinct.
use Rattle.std.proofs.Common.{◌≡◌, ℕ, suc, ◌+◌, Bool, true, false, not, cond, List, [], ◌∷◌, length, filter, get_or, All, Option, ◌∙◌, sym, ap, subst, refl, arith}
use Rattle.std.specs.Cmp.{IsTotalOrder}
use Rattle.std.specs.Cmp.Lexicographic.{slice_cmp, lists_total, options_total}
use Rattle.std.specs.Option.{option_cmp}
use Rattle.std.specs.Ordering.{nat_cmp, is_lt}
use Rattle.std.specs.declared.cmp.Ordering.{Ordering}
use Rattle.std.specs.declared.cmp.Ordering.TheVariants.{Less, Equal}
use Rattle.std.proofs.lemmas.Bool.{false≢true}
use Rattle.std.proofs.lemmas.Cmp.{nat_cmp_total, tied_itself}
use Rattle.std.proofs.lemmas.List.Elements.{All-head, All-tail}
use Rattle.definitions.specs.believed.Seeds.{distinct, is_same_row}
use Rattle.definitions.proofs.PartialRowLemmas.{same_row_is}
use Rattle.tuple_index.proofs.OrderLemmas.{is_less}
use Rattle.ipog_grow.specs.Rows.{AreAsLong, AreRising, stands_before}

abbrev Row : Type 0
Row = List (Option ℕ)

abbrev compared : Row → Row → Ordering
compared row other = slice_cmp (option_cmp nat_cmp) row other

compared_total : IsTotalOrder compared
compared_total = lists_total (options_total nat_cmp_total)

differs : (row other : Row) → length row ≡ length other → compared row other ≡ Less → is_same_row row other ≡ false
differs row other long less = by_case (is_same_row row other) refl
  where
    apart : Less ≡ Equal → ⊥
    apart e = false≢true (sym (ap is_lt e))

    by_case : (b : Bool) → is_same_row row other ≡ b → b ≡ false
    by_case false same = refl
    by_case true same = absurd (apart (sym less ∙ ap (compared row) (sym (same_row_is row other long same)) ∙ tied_itself compared_total row))

-- each row stands before the next one, read off the list
abbrev Chain : List Row → Type 0
Chain [] = Unit {0}
Chain (row ∷ []) = Unit {0}
Chain (row ∷ next ∷ rows) = (compared row next ≡ Less) × Chain (next ∷ rows)

chain : (rows : List Row) → AreRising rows → Chain rows
chain [] rising = tt
chain (row ∷ []) rising = tt
chain (row ∷ next ∷ rows) rising = (is_less (compared row next) (rising 0 (omega arith)), chain (next ∷ rows) later)
  where
    later : AreRising (next ∷ rows)
    later i within =
        let e : suc i + 1 ≡ suc (i + 1) = omega arith in
        subst (λ k. stands_before (get_or (next ∷ rows) i []) (get_or (row ∷ next ∷ rows) k []) ≡ true) e (rising (suc i) (omega (arith, within)))

module _ (n : ℕ) where
  abbrev Long : Row → Type 0
  Long row = length row ≡ n

  all_apart : (row next : Row) (rows : List Row) → Long row → All Long (next ∷ rows) → compared row next ≡ Less → Chain (next ∷ rows)
      → filter (λ other. not (is_same_row row other)) (next ∷ rows) ≡ next ∷ rows
  all_apart row next [] is long less steps =
      ap (λ b. cond (not b) (next ∷ []) []) (differs row next (is ∙ sym (All-head Long next [] long)) less)
  all_apart row next (later ∷ rows) is long less steps =
      ap (λ b. cond (not b) (next ∷ filter (λ other. not (is_same_row row other)) (later ∷ rows)) (filter (λ other. not (is_same_row row other)) (later ∷ rows)))
      (differs row next (is ∙ sym (All-head Long next (later ∷ rows) long)) less)
      ∙ ap (λ rest. next ∷ rest) (all_apart row later rows is (All-tail Long next (later ∷ rows) long) (compared_total.trans row next later less steps.0) steps.1)

  distinct_chain : (rows : List Row) → All Long rows → Chain rows → distinct rows ≡ rows
  distinct_chain [] long steps = refl
  distinct_chain (row ∷ []) long steps = refl
  distinct_chain (row ∷ next ∷ rows) long steps =
      ap (λ rest. row ∷ filter (λ other. not (is_same_row row other)) rest) (distinct_chain (next ∷ rows) (All-tail Long row (next ∷ rows) long) steps.1)
      ∙ ap (λ rest. row ∷ rest) (all_apart row next rows (All-head Long row (next ∷ rows) long) (All-tail Long row (next ∷ rows) long) steps.0 steps.1)

pub rising_distinct : (rows : List Row) → AreAsLong rows → AreRising rows → distinct rows ≡ rows
rising_distinct rows long rising = distinct_chain (length (get_or rows 0 [])) rows long (chain rows rising)
