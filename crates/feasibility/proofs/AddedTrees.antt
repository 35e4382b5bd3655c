-- Trees that are added to tokens, one behind the other.
use Rattle.std.proofs.Common.{◌≡◌, ℕ, suc, ◌+◌, ◌≤◌, Bool, true, ◌&&◌, ◌==◌, List, [], ◌∷◌, ◌++◌, map, filter, length, Option, ◌∙◌, sym}
use Rattle.std.proofs.Common.{ap, ap₂, subst, refl, arith, append_assoc, append-nil, length-append, zero-add}
use Rattle.std.specs.List.{range_with_len, sum_by}
use Rattle.std.proofs.lemmas.Bool.{false≢true}
use Rattle.std.proofs.lemmas.List.{map-append}
use Rattle.std.proofs.lemmas.List.Elements.{filter-append}
use Rattle.std.proofs.lemmas.List.FromFn.{map-range_with_len_more}
use Rattle.std.proofs.lemmas.List.Sums.{sum_by_push}
use Rattle.value_text.proofs.ListLemmas.{range_with_len_more}
use Rattle.definitions.specs.believed.Refutation.{Token, are_eager, branches, is_branch, is_eager, refute_paths}
use Rattle.definitions.specs.believed.SuiteProof.{branch_count, is_branching}
use Rattle.refutation.specs.declared.token.TreeToken.{TreeToken}
use Rattle.refutation.specs.declared.token.TreeToken.TheVariants.{Branch, ByRule, ByNegative, ByOmission}
use Rattle.refutation.specs.Proofs.{meant}
use Rattle.feasibility.specs.Refuting.{Closes, HasNoLeaf, RefuterView}
use Rattle.feasibility.proofs.Leaves.{IsFirst}

-- no tree
pub closes_none : (r : RefuterView) (tokens : List TreeToken) → Closes r [] 0 tokens tokens
closes_none r tokens = record {
  added = [];
  are = sym (append-nil tokens);
  refute = λ rest more. refl;
  eager = λ rest more. refl;
  few = omega arith;
}

meant-append : (a b : List TreeToken) (more : List Token) → map meant (a ++ b) ++ more ≡ map meant a ++ (map meant b ++ more)
meant-append a b more = ap (λ (list : List Token). list ++ more) (map-append meant a b) ∙ append_assoc (map meant a) (map meant b) more

branches-append : (a b : List TreeToken) → branch_count (map meant (a ++ b)) ≡ branch_count (map meant a) + branch_count (map meant b)
branches-append a b =
    ap branch_count (map-append meant a b) ∙ ap length (filter-append is_branching (map meant a) (map meant b))
    ∙ length-append (filter is_branching (map meant a)) (filter is_branching (map meant b))

-- trees of some paths, and then of others
pub closes_then : (r : RefuterView) (some others : List (List (Option ℕ))) (a b : ℕ) (old now new : List TreeToken) → Closes r some a old now
    → Closes r others b now new → Closes r (some ++ others) (a + b) old new
closes_then r some others a b old now new first second = record {
  added = first.added ++ second.added;
  are = second.are ∙ ap (λ (list : List TreeToken). list ++ second.added) first.are ∙ append_assoc old first.added second.added;
  refute = λ rest more.
      ap₂ (refute_paths r.model r.format r.earlier r.tuple) (append_assoc some others rest) (meant-append first.added second.added more)
      ∙ first.refute (others ++ rest) (map meant second.added ++ more) ∙ second.refute rest more;
  eager = λ rest more.
      ap₂ (are_eager r.model r.format r.earlier r.tuple) (append_assoc some others rest) (meant-append first.added second.added more)
      ∙ first.eager (others ++ rest) (map meant second.added ++ more) ∙ second.eager rest more;
  few = omega (arith, branches-append first.added second.added, first.few, second.few);
}

pub closes_more : (r : RefuterView) (paths : List (List (Option ℕ))) (a b : ℕ) (old new : List TreeToken) → a ≤ b → Closes r paths a old new
    → Closes r paths b old new
closes_more r paths a b old new more closes = record {
  added = closes.added;
  are = closes.are;
  refute = closes.refute;
  eager = closes.eager;
  few = omega (arith, closes.few, more);
}

-- of the paths with the values below a number, and then of that with this value
pub closes_next : (r : RefuterView) (f : ℕ → List (Option ℕ)) (v a b : ℕ) (old now new : List TreeToken) → Closes r (map f (range_with_len 0 v)) a old now
    → Closes r (f v ∷ []) b now new → Closes r (map f (range_with_len 0 (v + 1))) (a + b) old new
closes_next r f v a b old now new first second =
    subst (λ (paths : List (List (Option ℕ))). Closes r paths (a + b) old new) (sym (map-range_with_len_more f 0 v v (zero-add v)))
    (closes_then r (map f (range_with_len 0 v)) (f v ∷ []) a b old now new first second)

-- the same where the numbers of branches are those of the values
pub closes_counted : (r : RefuterView) (f : ℕ → List (Option ℕ)) (count : ℕ → ℕ) (v : ℕ) (old now new : List TreeToken)
    → Closes r (map f (range_with_len 0 v)) (sum_by count (range_with_len 0 v)) old now → Closes r (f v ∷ []) (count v) now new
    → Closes r (map f (range_with_len 0 (v + 1))) (sum_by count (range_with_len 0 (v + 1))) old new
closes_counted r f count v old now new first second =
    let last : 0 + v ≡ v = zero-add v in
    let sum : sum_by count (range_with_len 0 (v + 1)) ≡ sum_by count (range_with_len 0 v) + count v =
    ap (sum_by count) (range_with_len_more 0 v) ∙ sum_by_push count (range_with_len 0 v) (0 + v)
    ∙ ap (λ (k : ℕ). sum_by count (range_with_len 0 v) + count k) last in
    subst (λ (most : ℕ). Closes r (map f (range_with_len 0 (v + 1))) most old new) (sym sum)
    (closes_next r f v (sum_by count (range_with_len 0 v)) (count v) old now new first second)

-- a leaf
pub closes_leaf : (r : RefuterView) (path : List (Option ℕ)) (token : TreeToken) (old new : List TreeToken) → new ≡ old ++ token ∷ []
    → IsFirst r.model r.format r.earlier r.tuple path (meant token) → Closes r (path ∷ []) 0 old new
closes_leaf r path (Branch p) old new are is = absurd (false≢true is.possible)
closes_leaf r path (ByRule k) old new are is = record {
  added = ByRule k ∷ [];
  are = are;
  refute = λ rest more. ap (λ (b : Bool). b && refute_paths r.model r.format r.earlier r.tuple rest more) is.possible;
  eager = λ rest more. ap (λ (b : Bool). b && are_eager r.model r.format r.earlier r.tuple rest more) is.first;
  few = omega arith;
}
closes_leaf r path ByNegative old new are is = record {
  added = ByNegative ∷ [];
  are = are;
  refute = λ rest more. ap (λ (b : Bool). b && refute_paths r.model r.format r.earlier r.tuple rest more) is.possible;
  eager = λ rest more. ap (λ (b : Bool). b && are_eager r.model r.format r.earlier r.tuple rest more) is.first;
  few = omega arith;
}
closes_leaf r path (ByOmission n) old new are is = record {
  added = ByOmission n ∷ [];
  are = are;
  refute = λ rest more. ap (λ (b : Bool). b && refute_paths r.model r.format r.earlier r.tuple rest more) is.possible;
  eager = λ rest more. ap (λ (b : Bool). b && are_eager r.model r.format r.earlier r.tuple rest more) is.first;
  few = omega arith;
}

-- a branch, and behind it the trees of its paths
pub closes_branch : (r : RefuterView) (path : List (Option ℕ)) (p most : ℕ) (old now new : List TreeToken) → now ≡ old ++ Branch p ∷ []
    → is_branch r.model path p ≡ true → HasNoLeaf r path → Closes r (branches r.model path p) most now new → Closes r (path ∷ []) (suc most) old new
closes_branch r path p most old now new start is leafless below = record {
  added = Branch p ∷ below.added;
  are = below.are ∙ ap (λ (list : List TreeToken). list ++ below.added) start ∙ append_assoc old (Branch p ∷ []) below.added;
  refute = λ rest more.
      ap (λ (b : Bool). b && refute_paths r.model r.format r.earlier r.tuple (branches r.model path p ++ rest) (map meant below.added ++ more)) is
      ∙ below.refute rest more;
  eager = λ rest more.
      ap (λ (list : List Token). (length list == 0) && are_eager r.model r.format r.earlier r.tuple (branches r.model path p ++ rest)
      (map meant below.added ++ more)) leafless.none ∙ below.eager rest more;
  few = omega (arith, below.few);
}

-- a tree of the tuple in front of all others is an eager one
pub closes_tuple : (r : RefuterView) (most : ℕ) (new : List TreeToken) → Closes r (r.tuple ∷ []) most [] new
    → is_eager r.model r.format r.earlier r.tuple (map meant new) ≡ true
closes_tuple r most new closes =
    ap (λ (list : List TreeToken). is_eager r.model r.format r.earlier r.tuple (map meant list)) closes.are
    ∙ ap₂ ◌&&◌ (ap (refute_paths r.model r.format r.earlier r.tuple (r.tuple ∷ [])) (sym (append-nil (map meant closes.added))) ∙ closes.refute [] [])
    (ap (are_eager r.model r.format r.earlier r.tuple (r.tuple ∷ [])) (sym (append-nil (map meant closes.added))) ∙ closes.eager [] [])

pub closes_few : (r : RefuterView) (paths : List (List (Option ℕ))) (most : ℕ) (new : List TreeToken) → Closes r paths most [] new
    → branch_count (map meant new) ≤ most
closes_few r paths most new closes = omega (arith, ap (λ (list : List TreeToken). branch_count (map meant list)) closes.are, closes.few)
