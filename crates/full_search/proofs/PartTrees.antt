-- Trees of each part of a path that has its reason.
use Rattle.std.proofs.Common.{◌≡◌, ℕ, suc, ◌+◌, ◌<◌, ◌≤◌, false, not, List, [], ◌∷◌, ◌++◌, map, take, drop, length, Option, ◌∙◌, ap, arith, append_assoc, length-append, lt-ltb}
use Rattle.std.specs.Prelude.{nat_lt}
use Rattle.std.specs.List.{range_with_len}
use Rattle.std.proofs.Math.Seq.{drop-append_seam, take-append_seam}
use Rattle.std.proofs.lemmas.Bool.{and_from}
use Rattle.std.proofs.lemmas.List.{length-map}
use Rattle.value_text.proofs.ListLemmas.{length-filter-le}
use Rattle.cov_model.specs.believed.Rows.{is_assigned, with_value}
use Rattle.cov_model.specs.believed.Sound.{param_at}
use Rattle.definitions.specs.believed.SuiteProof.{branch_count, is_branching}
use Rattle.refutation.specs.declared.token.TreeToken.{TreeToken}
use Rattle.refutation.specs.declared.token.TreeToken.TheVariants.{Branch}
use Rattle.refutation.specs.Proofs.{meant}
use Rattle.feasibility.specs.Refuting.{Closes, HasNoLeaf, RefuterView}
use Rattle.feasibility.proofs.AddedTrees.{closes_branch, closes_leaf, closes_next, closes_none}
use Rattle.feasibility.proofs.Broken.{shorter_free}
use Rattle.full_search.specs.Closing.{ClosesBetween, ClosesWith, IsLeafBetween}
use Rattle.full_search.specs.Reasons.{Grows, IsPart}
use Rattle.full_search.proofs.Parts.{part_set, part_then, part_with}
use Rattle.full_search.proofs.ShorterLeaves.{leafless_part}

-- there are no more branches than tokens
branches_within : (added old new : List TreeToken) → new ≡ old ++ added → branch_count (map meant added) ≤ length new
branches_within added old new are =
    omega (arith, length-filter-le is_branching (map meant added), length-map added meant, ap (λ (list : List TreeToken). length list) are, length-append old added)

pub closes_within : (r : RefuterView) (paths : List (List (Option ℕ))) (most : ℕ) (old new : List TreeToken) → Closes r paths most old new
    → Closes r paths (length new) old new
closes_within r paths most old new closes = record {
  added = closes.added;
  are = closes.are;
  refute = closes.refute;
  eager = closes.eager;
  few = branches_within closes.added old new closes.are;
}

-- trees stay so where tokens before them are cut away
pub closes_moved : (r : RefuterView) (paths : List (List (Option ℕ))) (most : ℕ) (old between new after : List TreeToken)
    → Closes r paths most (old ++ between) new → after ≡ take (length old) new ++ drop (length (old ++ between)) new → Closes r paths (length after) old after
closes_moved r paths most old between new after closes cut = record {
  added = closes.added;
  are = are;
  refute = closes.refute;
  eager = closes.eager;
  few = branches_within closes.added old after are;
}
  where
    kept : take (length old) new ≡ old
    kept =
        ap (take (length old)) (closes.are ∙ append_assoc old between closes.added)
        ∙ take-append_seam old (between ++ closes.added)

    left : drop (length (old ++ between)) new ≡ closes.added
    left = ap (drop (length (old ++ between))) closes.are ∙ drop-append_seam (old ++ between) closes.added

    are : after ≡ old ++ closes.added
    are = cut ∙ ap (λ (list : List TreeToken). list ++ drop (length (old ++ between)) new) kept ∙ ap (λ (list : List TreeToken). old ++ list) left

-- trees of the values below a number, on each part of a path that has the reason
abbrev pub ClosesBelow : RefuterView → List (Option ℕ) → List (Option ℕ) → ℕ → ℕ → List TreeToken → List TreeToken → Type 0
ClosesBelow r why path p v old new =
    (short : List (Option ℕ)) → IsPart why short → IsPart short path → Closes r (map (with_value short p) (range_with_len 0 v)) (length new) old new

pub below_none : (r : RefuterView) (why path : List (Option ℕ)) (p : ℕ) (tokens : List TreeToken) → ClosesBelow r why path p 0 tokens tokens
below_none r why path p tokens short kept part = closes_within r [] 0 tokens tokens (closes_none r tokens)

-- the tree of the next value, by which the reason grows
pub below_next : (r : RefuterView) (why more path : List (Option ℕ)) (p v : ℕ) (old now new : List TreeToken) → Grows path p why more
    → ClosesBelow r why path p v old now → ClosesWith r more path p v now new → ClosesBelow r more path p (v + 1) old new
below_next r why more path p v old now new grows below next short kept part =
    closes_within r (map (with_value short p) (range_with_len 0 (v + 1))) (length now + length new) old new
    (closes_next r (with_value short p) v (length now) (length new) old now new (below short (part_then why more short grows.kept kept) part)
    (next short kept part))

-- those of all values, behind the branch
pub below_all : (r : RefuterView) (why path : List (Option ℕ)) (p : ℕ) (old start new : List TreeToken) → start ≡ old ++ Branch p ∷ []
    → p < length r.model.params → is_assigned path p ≡ false → HasNoLeaf r path → ClosesBelow r why path p (length (param_at r.model.params p).values) start new
    → ClosesBetween r why path old new
below_all r why path p old start new begins within free leafless below short kept part =
    closes_within r (short ∷ []) (suc (length new)) old new
    (closes_branch r short p (length new) old start new begins
    (and_from (nat_lt p (length r.model.params)) (not (is_assigned short p)) (lt-ltb p (length r.model.params) within)
    (ap not (shorter_free short path p part.same free)))
    (leafless_part r short path part leafless) (below short kept part))

-- a leaf
pub leaf_closes : (r : RefuterView) (why path : List (Option ℕ)) (p v : ℕ) (token : TreeToken) (old new : List TreeToken) → new ≡ old ++ token ∷ []
    → IsLeafBetween r why path p v (meant token) → ClosesWith r why path p v old new
leaf_closes r why path p v token old new are leaf short kept part =
    let is = leaf short kept part in
    closes_within r (with_value short p v ∷ []) 0 old new
    (closes_leaf r (with_value short p v) token old new are (record { possible = is.possible; first = is.first }))

-- the tree of a path with a value, whose reason speaks of it
pub closes_with : (r : RefuterView) (below why path : List (Option ℕ)) (p v : ℕ) (old new : List TreeToken) → IsPart below (with_value why p v)
    → ClosesBetween r below (with_value path p v) old new → ClosesWith r why path p v old new
closes_with r below why path p v old new part closes short kept in_path =
    closes (with_value short p v) (part_then below (with_value why p v) (with_value short p v) part (part_with why short p v kept))
    (part_with short path p v in_path)

-- and of one whose reason doesn't
pub closes_without : (r : RefuterView) (why path : List (Option ℕ)) (p v : ℕ) (old new : List TreeToken) → is_assigned path p ≡ false
    → ClosesBetween r why (with_value path p v) old new → ClosesBetween r why path old new
closes_without r why path p v old new free closes short kept part =
    closes short kept (part_then short path (with_value path p v) part (part_set path p v free))
