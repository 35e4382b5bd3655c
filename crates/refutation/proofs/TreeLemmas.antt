-- Trees one behind the other: how a branch and a leaf begin a tree.
use Rattle.std.proofs.Common.{◌≡◌, ℕ, zero, suc, ◌+◌, ◌<◌, ◌≤◌, Bool, true, false, ◌&&◌, ◌||◌, List, [], ◌∷◌, ◌++◌, length, get_or, set, drop, Option, Some, None, ◌∙◌, sym, ap, arith, zero-add}
use Rattle.std.proofs.lemmas.Bool.{false≢true, false_from_ne_true}
use Rattle.std.proofs.lemmas.List.{drop_more, drop_all, set-set, set-get_or}
use Rattle.std.proofs.lemmas.List.FromFn.{length-map-range_with_len, get_or-map-range_with_len}
use Rattle.cov_model.specs.Fits.{FitsModel}
use Rattle.cov_model.specs.believed.Meaning.{value_at}
use Rattle.cov_model.specs.believed.Rows.{contains, is_assigned, with_value}
use Rattle.cov_model.specs.believed.Sound.{ModelView, param_at}
use Rattle.cov_model.proofs.CellLemmas.{contains-assigned, contains-trans}
use Rattle.definitions.specs.believed.Refutation.{branches, is_branch, is_negative_leaf}
use Rattle.definitions.proofs.PartialRowLemmas.{with_value-contains}
use Rattle.refutation.specs.declared.token.TreeToken.{TreeToken}
use Rattle.refutation.specs.declared.token.TreeToken.TheVariants.{Branch}
use Rattle.refutation.specs.Checking.{CheckView, are_refuted, BeginsWithTrees, LacksTrees, tuple_in}
use Rattle.refutation.proofs.LeafLemmas.{negative_leaf-more}
use Rattle.refutation.proofs.PairLemmas.{FitsModel-with_value}
use Rattle.value_text.proofs.ListLemmas.{none_of}

-- how many parameters have no value
abbrev pub free_count : List (Option ℕ) → ℕ
free_count [] = 0
free_count (None ∷ cells) = suc (free_count cells)
free_count (Some v ∷ cells) = free_count cells

pub free_count-with_value : (cells : List (Option ℕ)) (p v : ℕ) → p < length cells → is_assigned cells p ≡ false
    → free_count (with_value cells p v) + 1 ≡ free_count cells
free_count-with_value [] p v within free = absurd (omega arith)
free_count-with_value (None ∷ cells) zero v within free = omega arith
free_count-with_value (Some w ∷ cells) zero v within free = absurd (false≢true (sym free))
free_count-with_value (None ∷ cells) (suc p) v within free = let later = free_count-with_value cells p v (omega arith) free in omega (arith, later)
free_count-with_value (Some w ∷ cells) (suc p) v within free = free_count-with_value cells p v (omega arith) free

-- the branches from a value on
abbrev pub branches_from : ModelView → List (Option ℕ) → ℕ → ℕ → List (List (Option ℕ))
branches_from m path p v = drop v (branches m path p)

branches-more : (m : ModelView) (path : List (Option ℕ)) (p v : ℕ) → v < length (param_at m.params p).values
    → branches_from m path p v ≡ with_value path p v ∷ branches_from m path p (v + 1)
branches-more m path p v within =
    let count = length (param_at m.params p).values in
    drop_more (branches m path p) v [] (omega (arith, length-map-range_with_len (with_value path p) 0 count, within))
    ∙ ap (λ (child : List (Option ℕ)). child ∷ branches_from m path p (v + 1)) (get_or-map-range_with_len (with_value path p) 0 count v v [] within (zero-add v))

branches-all : (m : ModelView) (path : List (Option ℕ)) (p v : ℕ) → length (param_at m.params p).values ≤ v → branches_from m path p v ≡ []
branches-all m path p v past =
    drop_all v (branches m path p) (omega (arith, length-map-range_with_len (with_value path p) 0 (length (param_at m.params p).values), past))

-- the tokens begin with trees for the branches before a value, and the rest stands behind these
abbrev pub GoesOn : CheckView → List (Option ℕ) → ℕ → ℕ → List TreeToken → List TreeToken → Type 0
GoesOn check path p v tokens rest =
    (further : List (List (Option ℕ))) → are_refuted check (branches check.model path p ++ further) tokens ≡ are_refuted check (branches_from check.model path p v ++ further) rest

pub goes_more : (check : CheckView) (path : List (Option ℕ)) (p v : ℕ) (tokens rest next : List TreeToken) → v < length (param_at check.model.params p).values
    → GoesOn check path p v tokens rest → BeginsWithTrees check (with_value path p v ∷ []) rest next → GoesOn check path p (v + 1) tokens next
goes_more check path p v tokens rest next within going child further =
    going further ∙ ap (λ (paths : List (List (Option ℕ))). are_refuted check (paths ++ further) rest) (branches-more check.model path p v within)
    ∙ child (branches_from check.model path p (v + 1) ++ further)

-- a branch that is one
branch_is : (check : CheckView) (path : List (Option ℕ)) (p : ℕ) (tokens : List TreeToken) (further : List (List (Option ℕ))) → is_branch check.model path p ≡ true
    → are_refuted check (path ∷ further) (Branch p ∷ tokens) ≡ are_refuted check (branches check.model path p ++ further) tokens
branch_is check path p tokens further is = ap (λ (b : Bool). b && are_refuted check (branches check.model path p ++ further) tokens) is

pub branch_stops : (check : CheckView) (path : List (Option ℕ)) (p v : ℕ) (tokens rest : List TreeToken) → is_branch check.model path p ≡ true
    → v < length (param_at check.model.params p).values
    → GoesOn check path p v tokens rest → LacksTrees check (with_value path p v ∷ []) rest → LacksTrees check (path ∷ []) (Branch p ∷ tokens)
branch_stops check path p v tokens rest is within going child further =
    branch_is check path p tokens further is ∙ going further
    ∙ ap (λ (paths : List (List (Option ℕ))). are_refuted check (paths ++ further) rest) (branches-more check.model path p v within)
    ∙ child (branches_from check.model path p (v + 1) ++ further)

pub branch_ends : (check : CheckView) (path : List (Option ℕ)) (p v : ℕ) (tokens rest : List TreeToken) → is_branch check.model path p ≡ true
    → length (param_at check.model.params p).values ≤ v
    → GoesOn check path p v tokens rest → BeginsWithTrees check (path ∷ []) (Branch p ∷ tokens) rest
branch_ends check path p v tokens rest is past going further =
    branch_is check path p tokens further is ∙ going further
    ∙ ap (λ (paths : List (List (Option ℕ))). are_refuted check (paths ++ further) rest) (branches-all check.model path p v past)

-- one that isn't
pub no_branch : (check : CheckView) (path : List (Option ℕ)) (p : ℕ) (tokens : List TreeToken) → is_branch check.model path p ≡ false
    → LacksTrees check (path ∷ []) (Branch p ∷ tokens)
no_branch check path p tokens is further = ap (λ (b : Bool). b && are_refuted check (branches check.model path p ++ further) tokens) is

-- a path with one more value
pub record IsChild (check : CheckView) (path : List (Option ℕ)) (p v : ℕ) (outside negative : Bool) : Type 0 where
  pub free : free_count (with_value path p v) + 1 ≡ free_count path
  pub fits : FitsModel check.model (with_value path p v)
  pub part : contains (with_value path p v) (tuple_in check) ≡ true
  pub sign : (outside || negative) ≡ is_negative_leaf check.model (tuple_in check) (with_value path p v)

pub child_is : (check : CheckView) (path : List (Option ℕ)) (p v : ℕ) (outside negative : Bool) → p < length check.model.params
    → v < length (param_at check.model.params p).values
    → is_assigned path p ≡ false → FitsModel check.model path → contains path (tuple_in check) ≡ true
    → outside ≡ is_negative_leaf check.model (tuple_in check) path → negative ≡ (value_at check.model p v).negative → IsChild check path p v outside negative
child_is check path p v outside negative within exists free fits part is own =
    let apart : is_assigned (tuple_in check) p ≡ false =
    false_from_ne_true (is_assigned (tuple_in check) p) (λ given. false≢true (sym free ∙ contains-assigned path (tuple_in check) p part given)) in
    record {
      free = free_count-with_value path p v (omega (arith, fits.as_long, within)) free;
      fits = FitsModel-with_value check.model path p v fits within exists;
      part = contains-trans (with_value path p v) path (tuple_in check) (with_value-contains path p v free) part;
      sign = ap (λ (b : Bool). b || negative) is ∙ ap (λ (b : Bool). is_negative_leaf check.model (tuple_in check) path || b) own
          ∙ sym (negative_leaf-more check.model (tuple_in check) path p v within fits.as_long free apart);
    }

-- a value that is set and taken away again
pub set_clear : (cells : List (Option ℕ)) (p v : ℕ) → is_assigned cells p ≡ false → set (with_value cells p v) p None ≡ cells
set_clear cells p v free =
    set-set cells p (Some v) None ∙ ap (λ (cell : Option ℕ). set cells p cell) (sym (none_of (get_or cells p None) free)) ∙ set-get_or cells p None
