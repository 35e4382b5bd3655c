-- The values of a parameter that a reason refutes.
use Rattle.std.proofs.Common.{◌≡◌, ℕ, ◌+◌, ◌<◌, ◌≤◌, true, List, [], ◌∷◌, ◌++◌, length, take, Option, None, get_or, replicate, ◌∙◌, sym, subst, inl, inr}
use Rattle.std.proofs.lemmas.Bool.{false≢true}
use Rattle.std.proofs.lemmas.List.{take_all, take_more}
use Rattle.cov_model.specs.believed.Rows.{with_value}
use Rattle.definitions.specs.believed.Demand.{is_among}
use Rattle.definitions.proofs.Members.{among_has, of_among, of_append}
use Rattle.feasibility.specs.Tree.{TreeView}
use Rattle.full_search.specs.Reasons.{Grows, GrowsBy, HasNoRow, IsPart, IsReason, RefutesEach}
use Rattle.full_search.proofs.Grown.{grows_none, grows_on}
use Rattle.full_search.proofs.Parts.{no_row_each, no_row_of, part_with}

-- a reason that can grow refutes some values of the parameter
pub record Tries (tree : TreeView) (path : List (Option ℕ)) (p : ℕ) (done : List ℕ) (why : List (Option ℕ)) : Type 0 where
  pub grows : Grows path p why why
  pub each : RefutesEach tree why p done

pub tries_none : (tree : TreeView) (n : ℕ) (path : List (Option ℕ)) (p : ℕ) → n ≡ length path → Tries tree path p [] (replicate n None)
tries_none tree n path p long = record { grows = grows_none n path p long; each = λ v none. absurd (false≢true none) }

-- what is refuted stays so when the reason grows
refuted_stays : (tree : TreeView) (old new : List (Option ℕ)) (p v : ℕ) → IsPart old new → HasNoRow tree (with_value old p v)
    → HasNoRow tree (with_value new p v)
refuted_stays tree old new p v part none = no_row_of tree (with_value old p v) (with_value new p v) none (part_with old new p v part)

-- one value more of a list
each_more : (tree : TreeView) (why : List (Option ℕ)) (p : ℕ) (values : List ℕ) (i : ℕ) → i < length values → RefutesEach tree why p (take i values)
    → HasNoRow tree (with_value why p (get_or values i 0)) → RefutesEach tree why p (take (i + 1) values)
each_more tree why p values i within each here v listed =
    elim (of_append (take i values) (get_or values i 0 ∷ []) v (of_among (take i values ++ get_or values i 0 ∷ []) v
    (subst (λ (list : List ℕ). is_among list v ≡ true) (take_more values i 0 within) listed))) [
      | inl before ↦ each v (among_has (take i values) v before)
      | inr last ↦ elim last [
        | inl same ↦ subst (λ (w : ℕ). HasNoRow tree (with_value why p w)) same here
        | inr none ↦ absurd none
      ]
    ]

pub tries_more : (tree : TreeView) (path : List (Option ℕ)) (p : ℕ) (values : List ℕ) (i : ℕ) (old new : List (Option ℕ)) → i < length values
    → Tries tree path p (take i values) old → GrowsBy tree path p (get_or values i 0) old new → Tries tree path p (take (i + 1) values) new
tries_more tree path p values i old new within tries by = record {
  grows = grows_on path p old new by.grows;
  each = each_more tree new p values i within (λ v listed. refuted_stays tree old new p v by.grows.kept (tries.each v listed)) by.refuted;
}

-- one that was refuted before
pub tries_again : (tree : TreeView) (path : List (Option ℕ)) (p : ℕ) (values : List ℕ) (i own : ℕ) (why : List (Option ℕ)) → i < length values
    → Tries tree path p (take i values) why → get_or values i 0 ≡ own → HasNoRow tree (with_value why p own) → Tries tree path p (take (i + 1) values) why
tries_again tree path p values i own why within tries same none = record {
  grows = tries.grows;
  each = each_more tree why p values i within tries.each (subst (λ (v : ℕ). HasNoRow tree (with_value why p v)) (sym same) none);
}

-- when all are, it is the reason of the path
pub tries_all : (tree : TreeView) (path : List (Option ℕ)) (p : ℕ) (values : List ℕ) (i : ℕ) (why : List (Option ℕ)) → p < length tree.values
    → values ≡ get_or tree.values p [] → length values ≤ i → Tries tree path p (take i values) why → IsReason tree path why
tries_all tree path p values i why within is whole tries = record {
  part = tries.grows.part;
  none = no_row_each tree why p within (subst (RefutesEach tree why p) (take_all i values whole ∙ is) tries.each);
}
