-- The first row of a path, found value by value of the constrained parameters.
use Rattle.std.proofs.Common.{◌≡◌, ℕ, zero, suc, ◌+◌, ◌<◌, true, false, List, [], ◌∷◌, length, take, Option, Some, None, is_some, get_or, set, inl, inr, ◌∙◌, sym, ap, subst, refl, arith}
use Rattle.std.specs.Option.{option_or}
use Rattle.std.specs.List.{range_with_len}
use Rattle.std.proofs.Math.Seq.{take-length}
use Rattle.std.proofs.lemmas.Bool.{false≢true, cases_eq}
use Rattle.std.proofs.lemmas.List.{get_or-set_other, get_or-set_same}
use Rattle.value_text.proofs.ListLemmas.{none_of}
use Rattle.cov_model.specs.believed.Sound.{ModelView, IsSound}
use Rattle.cov_model.specs.believed.Rows.{is_assigned, with_value}
use Rattle.definitions.specs.believed.Completion.{meets_rules}
use Rattle.definitions.specs.believed.Search.{constrained_params, is_failing}
use Rattle.definitions.proofs.Members.{Has, has_filter}
use Rattle.definitions.proofs.SliceLemmas.{has_params}
use Rattle.feasibility.specs.Path.{filled}
use Rattle.feasibility.specs.Tree.{TreeView, IsListed, ListsValues, constrained_at, is_named}
use Rattle.feasibility.proofs.Completing.{tried, first_of, first_of-branch}
use Rattle.feasibility.proofs.Earlier.{stands_before}
use Rattle.feasibility.proofs.Searching.{AssignedBelow, decided, leaf_gives}
use Rattle.full_search.specs.Completing.{IsSettled, first_row}
use Rattle.full_search.specs.Reasons.{HasNoRow}
use Rattle.full_search.proofs.Rows.{none_first}

-- of the values of a list the first that leads to something
tried_at : {X : Type 0} (f : ℕ → Option X) (values : List ℕ) (i : ℕ) → i < length values → ((j : ℕ) → j < i → f (get_or values j 0) ≡ None)
    → is_some (f (get_or values i 0)) ≡ true → tried f values ≡ f (get_or values i 0)
tried_at f [] i within before some = absurd (omega (arith, within))
tried_at f (v ∷ values) zero within before some = by_case (f v) some
  where
    by_case : (o : Option _) → is_some o ≡ true → option_or o (tried f values) ≡ o
    by_case (Some x) h = refl
    by_case None h = absurd (false≢true h)
tried_at f (v ∷ values) (suc i) within before some =
    ap (λ o. option_or o (tried f values)) (before 0 (omega arith))
    ∙ tried_at f values i (omega (arith, within)) (λ j less. before (suc j) (omega (arith, less))) some

-- a member of the first so many has a place
pub record HasPlace (xs : List ℕ) (i q : ℕ) : Type 0 where
  pub place : ℕ
  pub before : place < i
  pub is : get_or xs place 0 ≡ q

pub has_place : (xs : List ℕ) (i q : ℕ) → Has (take i xs) q → HasPlace xs i q
has_place [] zero q has = absurd has
has_place [] (suc i) q has = absurd has
has_place (x ∷ xs) zero q has = absurd has
has_place (x ∷ xs) (suc i) q (inl same) = record { place = 0; before = omega arith; is = same }
has_place (x ∷ xs) (suc i) q (inr has) =
    let later = has_place xs i q has in record { place = suc later.place; before = omega (arith, later.before); is = later.is }

-- the constrained parameters before one have values, if those at the places before it have
below_place : (m : ModelView) (i : ℕ) (cells : List (Option ℕ)) → i < length (constrained_params m) → constrained_at m i < length m.params
    → ((j : ℕ) → j < i → is_assigned cells (constrained_at m j) ≡ true) → AssignedBelow m cells (constrained_at m i)
below_place m i cells within inside given q before named =
    let has = has_filter (is_named m) (range_with_len 0 (length m.params)) q (has_params m q (omega (arith, before, inside))) named in
    let found = has_place (constrained_params m) i q (stands_before (is_named m) 0 (length m.params) i q within has before) in
    subst (λ (p : ℕ). is_assigned cells p ≡ true) found.is (given found.place found.before)

-- a value of the next one, with which the path has a row, where no earlier value leads to one
pub settled_value : (tree : TreeView) (i k : ℕ) (cells : List (Option ℕ)) → i < length (constrained_params tree.model)
    → constrained_at tree.model i < length tree.model.params → length cells ≡ length tree.values → length tree.values ≡ length tree.model.params
    → ((j : ℕ) → j < i → is_assigned cells (constrained_at tree.model j) ≡ true)
    → is_assigned cells (constrained_at tree.model i) ≡ false
    → k < length (get_or tree.values (constrained_at tree.model i) [])
    → ((j : ℕ) → j < k → HasNoRow tree (with_value cells (constrained_at tree.model i) (get_or (get_or tree.values (constrained_at tree.model i) []) j 0)))
    → is_some (first_row tree (with_value cells (constrained_at tree.model i) (get_or (get_or tree.values (constrained_at tree.model i) []) k 0))) ≡ true
    → IsSettled tree (i + 1) cells (with_value cells (constrained_at tree.model i) (get_or (get_or tree.values (constrained_at tree.model i) []) k 0))
settled_value tree i k cells within inside long as_many given free place none some = record {
  given = λ j before. assigned j before;
  same = sym (first_of-branch tree.values cells (meets_rules tree.model) p long (omega (arith, inside, long, as_many)) (none_of (get_or cells p None) free)
      (decided tree.model cells p (below_place tree.model i cells within inside given))
      ∙ tried_at (λ w. first_of tree.values (set cells p (Some w)) (meets_rules tree.model)) values k place
      (λ j before. none_first tree (with_value cells p (get_or values j 0)) (none j before)) some);
}
  where
    p : ℕ
    p = constrained_at tree.model i

    values : List ℕ
    values = get_or tree.values p []

    assigned : (j : ℕ) → j < i + 1 → is_assigned (with_value cells p (get_or values k 0)) (constrained_at tree.model j) ≡ true
    assigned j before =
        elim (cases_eq (constrained_at tree.model j) p) [
          | inl same ↦ ap is_some (ap (λ (q : ℕ). get_or (with_value cells p (get_or values k 0)) q None) same
              ∙ get_or-set_same cells p (Some (get_or values k 0)) None (omega (arith, inside, long, as_many)))
          | inr differs ↦ ap is_some (get_or-set_other cells p (constrained_at tree.model j) (Some (get_or values k 0)) None differs)
              ∙ elim (cases_eq j i) [
                | inl last ↦ absurd (differs (ap (constrained_at tree.model) last))
                | inr other ↦ given j (omega (arith, before, other))
              ]
        ]

-- it has a value already
pub settled_given : (tree : TreeView) (i : ℕ) (cells : List (Option ℕ))
    → ((j : ℕ) → j < i → is_assigned cells (constrained_at tree.model j) ≡ true)
    → is_assigned cells (constrained_at tree.model i) ≡ true → IsSettled tree (i + 1) cells cells
settled_given tree i cells given here = record {
  given = λ j before. elim (cases_eq j i) [
    | inl last ↦ ap (λ (k : ℕ). is_assigned cells (constrained_at tree.model k)) last ∙ here
    | inr other ↦ given j (omega (arith, before, other))
  ];
  same = refl;
}

pub settled_none : (tree : TreeView) (cells : List (Option ℕ)) → IsSettled tree 0 cells cells
settled_none tree cells = record { given = λ j before. absurd (omega (arith, before)); same = refl }

pub settled_then : (tree : TreeView) (i j : ℕ) (start cells after : List (Option ℕ)) → IsSettled tree i start cells → IsSettled tree j cells after
    → IsSettled tree j start after
settled_then tree i j start cells after first second = record { given = second.given; same = second.same ∙ first.same }

-- where all have values, the first row gives the others their first values
pub settled_all : (tree : TreeView) (start cells : List (Option ℕ)) → IsSound tree.model → ListsValues tree.model tree.values
    → IsSettled tree (length (constrained_params tree.model)) start cells → IsListed tree.values cells → is_failing tree.model tree.values cells ≡ false
    → first_row tree start ≡ Some (filled tree.values cells)
settled_all tree start cells sound values settled listed node =
    sym settled.same ∙ leaf_gives tree.model tree.values cells sound values listed below node
  where
    below : AssignedBelow tree.model cells (length tree.model.params)
    below q before named =
        let has = has_filter (is_named tree.model) (range_with_len 0 (length tree.model.params)) q (has_params tree.model q before) named in
        let found = has_place (constrained_params tree.model) (length (constrained_params tree.model)) q
        (subst (λ (list : List ℕ). Has list q) (sym (take-length (constrained_params tree.model))) has) in
        subst (λ (p : ℕ). is_assigned cells p ≡ true) found.is (settled.given found.place found.before)
