-- What the steps of closing a path keep and give.
use Rattle.std.proofs.Common.{◌≡◌, ℕ, ◌≤◌, Bool, true, false, List, [], ◌∷◌, ◌++◌, take, drop, length, get_or, set, All}
use Rattle.std.proofs.Common.{Option, Some, ◌∙◌, sym, ap, subst, refl, arith, append_assoc, length-append}
use Rattle.std.proofs.lemmas.Bool.{false≢true}
use Rattle.std.proofs.lemmas.List.{length-set}
use Rattle.cov_model.specs.believed.Rows.{is_assigned, with_value}
use Rattle.live_sets.specs.Trail.{LiveView}
use Rattle.refutation.specs.declared.token.TreeToken.{TreeToken}
use Rattle.refutation.specs.declared.token.TreeToken.TheVariants.{Branch}
use Rattle.refutation.specs.Proofs.{meant}
use Rattle.feasibility.specs.Refuting.{Closes, RefuterView}
use Rattle.feasibility.specs.Tree.{TreeView, constrained_at, undecided_by}
use Rattle.feasibility.specs.declared.constrained.Constrained.{Constrained}
use Rattle.full_search.specs.Closing.{IsClosed, IsLeafBetween, IsOpen, KeepsRoom, ValueClosed, tree_of}
use Rattle.full_search.specs.Reasons.{Grows, IsPart}
use Rattle.full_search.specs.Witnesses.{IsWitness}
use Rattle.full_search.specs.declared.closing.Closed.{Closed}
use Rattle.full_search.specs.declared.closing.Closed.TheVariants.{Added, Whole}
use Rattle.full_search.specs.declared.witness.Witness.{Witness}
use Rattle.full_search.proofs.Parts.{part_self, part_set, part_then, part_without}
use Rattle.full_search.proofs.PartTrees.{ClosesBelow, closes_with, closes_without, closes_moved, leaf_closes}
use Rattle.full_search.proofs.Rooms.{IsSplit, joined_room}

-- the parameter at a place
pub param_is : (r : RefuterView) (tree : TreeView) (one : Constrained) (i : ℕ) → tree ≡ tree_of r
    → one ≡ undecided_by tree.model (constrained_at tree.model i) → one.param ≡ constrained_at r.model i
param_is r tree one i same is =
    ap (λ (entry : Constrained). entry.param) is ∙ ap (λ (view : TreeView). constrained_at view.model i) same

-- ---- room for reasons

-- at the start of a path
pub keeps_start : (r : RefuterView) (cells : List (Option ℕ)) (sets : LiveView) (witness : Witness) (whys own below : List (List (Option ℕ)))
    → IsOpen r cells sets witness → IsSplit cells whys own below → KeepsRoom r cells witness below below
keeps_start r cells sets witness whys own below is split = record {
  kept = is.at.kept;
  part = is.at.part;
  as_many = refl;
  long = split.each_below;
}

pub keeps_then : (r : RefuterView) (cells : List (Option ℕ)) (first later : Witness) (a b c : List (List (Option ℕ))) → KeepsRoom r cells first a b
    → KeepsRoom r cells later b c → KeepsRoom r cells later a c
keeps_then r cells first later a b c before after = record {
  kept = after.kept;
  part = after.part;
  as_many = after.as_many ∙ before.as_many;
  long = after.long;
}

-- what holds of the path with a value does of the path
pub keeps_without : (r : RefuterView) (cells : List (Option ℕ)) (p v : ℕ) (witness : Witness) (old new : List (List (Option ℕ)))
    → is_assigned cells p ≡ false → KeepsRoom r (with_value cells p v) witness old new → KeepsRoom r cells witness old new
keeps_without r cells p v witness old new free keeps = record {
  kept = keeps.kept;
  part = part_then cells (with_value cells p v) witness.row (part_set cells p v free) keeps.part;
  as_many = keeps.as_many;
  long = subst (λ (count : ℕ). All (λ why. length why ≡ count) new) (length-set cells p (Some v)) keeps.long;
}

-- the own reason in front of those below
pub keeps_joined : (r : RefuterView) (cells : List (Option ℕ)) (witness : Witness) (whys own below now : List (List (Option ℕ))) (why : List (Option ℕ))
    → IsSplit cells whys own below → length why ≡ length cells → KeepsRoom r cells witness below now
    → KeepsRoom r cells witness whys (set own 0 why ++ now)
keeps_joined r cells witness whys own below now why split long keeps =
    let joined = joined_room cells why whys own below now split long (omega (arith, keeps.as_many, split.as_many)) keeps.long in
    record { kept = keeps.kept; part = keeps.part; as_many = joined.as_many; long = joined.long }

pub closed_joined : (r : RefuterView) (cells why : List (Option ℕ)) (witness : Witness) (whys own below now : List (List (Option ℕ))) (old new : List TreeToken)
    → IsSplit cells whys own below → KeepsRoom r cells witness below now → IsClosed r cells why old new
    → IsClosed r cells (get_or (set own 0 why ++ now) 0 []) old new
closed_joined r cells why witness whys own below now old new split keeps closed =
    let joined = joined_room cells why whys own below now split closed.part.long (omega (arith, keeps.as_many, split.as_many)) keeps.long in
    subst (λ (reason : List (Option ℕ)). IsClosed r cells reason old new) (sym joined.first) closed

-- ---- open paths

-- with another witness
pub open_with : (r : RefuterView) (cells : List (Option ℕ)) (sets : LiveView) (first later : Witness) → IsOpen r cells sets first
    → IsWitness (tree_of r) later → IsPart cells later.row → IsOpen r cells sets later
open_with r cells sets first later is kept part = record {
  path = is.path;
  leafless = is.leafless;
  at = record { node = is.at.node; listed = is.at.listed; kept = kept; part = part };
  none = is.none;
}

-- ---- values

abbrev is_added : Closed → Bool
is_added Added = true
is_added Whole = false

added_whole : Added ≡ Whole → ⊥
added_whole same = false≢true (sym (ap is_added same))

-- the tree of a leaf
pub leaf_added : (r : RefuterView) (cells : List (Option ℕ)) (p v : ℕ) (why more : List (Option ℕ)) (token : TreeToken) (old new : List TreeToken)
    → new ≡ old ++ token ∷ [] → Grows cells p why more → IsLeafBetween r more cells p v (meant token) → ValueClosed r cells p v why more old new Added
leaf_added r cells p v why more token old new are grows leaf = record {
  added = λ same. (grows, leaf_closes r more cells p v token old new are leaf);
  whole = λ whole. absurd (added_whole whole);
}

-- the tree of a path whose reason speaks of the parameter
pub path_added : (r : RefuterView) (cells : List (Option ℕ)) (p v : ℕ) (why more below : List (Option ℕ)) (old new : List TreeToken)
    → Grows cells p why more → IsPart below (with_value more p v) → IsClosed r (with_value cells p v) below old new
    → ValueClosed r cells p v why more old new Added
path_added r cells p v why more below old new grows part closed = record {
  added = λ same. (grows, closes_with r below more cells p v old new part closed.closes);
  whole = λ whole. absurd (added_whole whole);
}

-- and of one whose reason doesn't
pub path_whole : (r : RefuterView) (cells : List (Option ℕ)) (p v : ℕ) (why below : List (Option ℕ)) (old new : List TreeToken)
    → is_assigned cells p ≡ false → is_assigned below p ≡ false → IsClosed r (with_value cells p v) below old new
    → ValueClosed r cells p v why below old new Whole
path_whole r cells p v why below old new free unspoken closed = record {
  added = λ added. absurd (added_whole (sym added));
  whole = λ same. record {
    part = part_without below cells p v unspoken closed.part;
    closes = closes_without r below cells p v old new free closed.closes;
  };
}

-- ---- tokens

tokens_grow : (r : RefuterView) (paths : List (List (Option ℕ))) (most : ℕ) (old new : List TreeToken) → Closes r paths most old new
    → length old ≤ length new
tokens_grow r paths most old new closes =
    omega (arith, ap (λ (list : List TreeToken). length list) closes.are, length-append old closes.added)

-- the tokens of the values before are cut away
pub record CanCut (r : RefuterView) (path whole : List (Option ℕ)) (old now new : List TreeToken) : Type 0 where
  pub ordered : length old ≤ length now
  pub within : length now ≤ length new
  pub closed : (after : List TreeToken) → after ≡ take (length old) new ++ drop (length now) new → IsClosed r path whole old after

pub can_cut : (r : RefuterView) (why path whole : List (Option ℕ)) (p v : ℕ) (old start now new : List TreeToken) → Grows path p why why
    → ClosesBelow r why path p v start now → start ≡ old ++ Branch p ∷ [] → IsClosed r path whole now new → CanCut r path whole old now new
can_cut r why path whole p v old start now new grows below begins closed =
    let at = below why (part_self why) grows.part in
    let first = closed.closes path closed.part (part_self path) in
    let are : now ≡ old ++ (Branch p ∷ at.added) =
    at.are ∙ ap (λ (list : List TreeToken). list ++ at.added) begins ∙ append_assoc old (Branch p ∷ []) at.added in
    record {
      ordered = omega (arith, ap (λ (list : List TreeToken). length list) are, length-append old (Branch p ∷ at.added));
      within = tokens_grow r (path ∷ []) (length new) now new first;
      closed = λ after cut. record {
        part = closed.part;
        closes = λ short kept part.
            closes_moved r (short ∷ []) (length new) old (Branch p ∷ at.added) new after
            (subst (λ (list : List TreeToken). Closes r (short ∷ []) (length new) list new) are (closed.closes short kept part))
            (cut ∙ ap (λ (list : List TreeToken). take (length old) new ++ drop (length list) new) are);
      };
    }
