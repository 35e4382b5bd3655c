-- The trees of a proof: that each refutes its tuple, and that its tokens are of the model.
use Rattle.std.proofs.Common.{◌≡◌, ℕ, zero, suc, ◌+◌, ◌^◌, ◌<◌, ◌≤◌, Bool, true, false, ◌&&◌, cond, List, [], ◌∷◌, ◌++◌}
use Rattle.std.proofs.Common.{length, Option, Some, None, inl, inr, ◌∙◌, ap, subst, refl, arith, length-append, eqb-true}
use Rattle.std.specs.Prelude.{◌==◌}
use Rattle.std.specs.List.{list_all, slice_get}
use Rattle.std.specs.Option.{option_map_or}
use Rattle.std.proofs.lemmas.Bool.{false≢true, ltb-true}
use Rattle.cov_model.specs.believed.Sound.{ModelView, IsSound}
use Rattle.cov_model.specs.believed.Kleene.{body_truth}
use Rattle.cov_model.specs.believed.Rows.{contains, is_assigned}
use Rattle.cov_model.specs.believed.Valid.{negatives}
use Rattle.definitions.specs.declared.effort.Effort.{Effort}
use Rattle.definitions.specs.believed.Search.{is_no}
use Rattle.definitions.specs.believed.Refutation.{Token, Branch, ByRule, ByNegative, ByOmission, is_branch, branches, is_rule_leaf}
use Rattle.definitions.specs.believed.Refutation.{is_negative_leaf, is_omission_leaf, refute_paths, refutes, are_eager, first_unrefuted}
use Rattle.definitions.specs.believed.SuiteProof.{IsEagerTree, AreEagerTrees}
use Rattle.definitions.specs.Laws.{IsTokenOf}
use Rattle.definitions.proofs.Contained.{left, right}
use Rattle.definitions.proofs.Members.{Has, of_any, member_of_all}
use Rattle.definitions.proofs.ProofWords.{rule_numbers}

-- eager trees refute, from whichever number the omissions are counted
pub eager_refute : (m : ModelView) (pref : List (List ℕ)) (effort : Effort) (format : ℕ) (earlier : List (List (Option ℕ))) (n : ℕ)
    (omissions : List (List (Option ℕ) × List Token))
    → AreEagerTrees m pref effort format earlier omissions → first_unrefuted m format earlier n omissions ≡ None
eager_refute m pref effort format earlier n [] trees = refl
eager_refute m pref effort format earlier n (omission ∷ omissions) trees =
    let own = left (refutes m format earlier omission.0 omission.1) (are_eager m format earlier omission.0 (omission.0 ∷ []) omission.1) trees.0.eager in
    ap (λ b. cond b (first_unrefuted m format (earlier ++ omission.0 ∷ []) (n + 1) omissions) (Some n)) own
    ∙ eager_refute m pref effort format (earlier ++ omission.0 ∷ []) (n + 1) omissions trees.1

-- the tree of a member stands behind fewer tuples than there are
pub record HasTree (m : ModelView) (pref : List (List ℕ)) (effort : Effort) (format bound : ℕ) (omission : List (Option ℕ) × List Token) : Type 0 where
  pub earlier : List (List (Option ℕ))
  pub few : length earlier < bound
  pub tree : IsEagerTree m pref effort format earlier omission.0 omission.1

pub member_has_tree : (m : ModelView) (pref : List (List ℕ)) (effort : Effort) (format bound : ℕ) (earlier : List (List (Option ℕ)))
    (omissions : List (List (Option ℕ) × List Token)) (omission : List (Option ℕ) × List Token)
    → AreEagerTrees m pref effort format earlier omissions → length earlier + length omissions ≤ bound → Has omissions omission
    → HasTree m pref effort format bound omission
member_has_tree m pref effort format bound earlier [] omission trees most has = absurd has
member_has_tree m pref effort format bound earlier (first ∷ omissions) omission trees most (inl same) =
    subst (HasTree m pref effort format bound) same (record { earlier = earlier; few = omega (arith, most); tree = trees.0 })
member_has_tree m pref effort format bound earlier (first ∷ omissions) omission trees most (inr has) =
    member_has_tree m pref effort format bound (earlier ++ first.0 ∷ []) omissions omission trees.1
    (omega (arith, most, length-append earlier (first.0 ∷ []))) has

-- a leaf by a constraint names one of the model
of_rule_leaf : (m : ModelView) (path : List (Option ℕ)) (k : ℕ) → IsSound m → is_rule_leaf m path k ≡ true → (1 ≤ k) × (k ≤ length m.rules)
of_rule_leaf m path k sound leaf =
    let found = of_any (λ rule. (rule.number == k) && is_no (body_truth m rule.body path)) m.rules leaf in
    let range = member_of_all (λ rule. (0 < rule.number) × (rule.number ≤ length m.rules)) m.rules found.0 (rule_numbers m sound) found.1 in
    let same : found.0.number ≡ k = eqb-true found.0.number k (left (found.0.number == k) (is_no (body_truth m found.0.body path)) found.2) in
    (omega (arith, range.0, same), omega (arith, range.1, same))

-- a leaf by an omission names an earlier one
of_earlier : (test : List (Option ℕ) → Bool) (earlier : List (List (Option ℕ))) (i : ℕ) → option_map_or test (slice_get earlier i) false ≡ true
    → i < length earlier
of_earlier test [] i holds = absurd (false≢true holds)
of_earlier test (other ∷ earlier) zero holds = omega arith
of_earlier test (other ∷ earlier) (suc i) holds = let later = of_earlier test earlier i holds in omega (arith, later)

of_omission_leaf : (m : ModelView) (format : ℕ) (earlier : List (List (Option ℕ))) (tuple path : List (Option ℕ)) (n : ℕ)
    → is_omission_leaf m format earlier tuple path n ≡ true → (format ≡ 2) × (1 ≤ n) × (n ≤ length earlier)
of_omission_leaf m format earlier tuple path zero leaf = absurd (false≢true (right (format == 2) false leaf))
of_omission_leaf m format earlier tuple path (suc i) leaf =
    let cites : List (Option ℕ) → Bool = λ other. contains path other && list_all (is_assigned other) (negatives m tuple) in
    let within = of_earlier cites earlier i (right (format == 2) (option_map_or cites (slice_get earlier i) false) leaf) in
    (eqb-true format 2 (left (format == 2) (option_map_or cites (slice_get earlier i) false) leaf), omega arith, omega (arith, within))

-- so the tokens of a refutation are of the model and the format
pub tokens_are : (m : ModelView) (format : ℕ) (earlier : List (List (Option ℕ))) (tuple : List (Option ℕ)) (paths : List (List (Option ℕ)))
    (tokens : List Token) (token : Token)
    → IsSound m → length earlier < 2 ^ 32 → refute_paths m format earlier tuple paths tokens ≡ true → Has tokens token → IsTokenOf m format token
tokens_are m format earlier tuple [] [] token sound few r has = absurd has
tokens_are m format earlier tuple [] (first ∷ tokens) token sound few r has = absurd (false≢true r)
tokens_are m format earlier tuple (path ∷ paths) [] token sound few r has = absurd has
tokens_are m format earlier tuple (path ∷ paths) (Branch p ∷ tokens) token sound few r (inl same) =
    subst (IsTokenOf m format) same (ltb-true p (length m.params) (left _ _ (left (is_branch m path p) _ r)))
tokens_are m format earlier tuple (path ∷ paths) (Branch p ∷ tokens) token sound few r (inr has) =
    tokens_are m format earlier tuple (branches m path p ++ paths) tokens token sound few (right (is_branch m path p) _ r) has
tokens_are m format earlier tuple (path ∷ paths) (ByRule k ∷ tokens) token sound few r (inl same) =
    subst (IsTokenOf m format) same (of_rule_leaf m path k sound (left (is_rule_leaf m path k) _ r))
tokens_are m format earlier tuple (path ∷ paths) (ByRule k ∷ tokens) token sound few r (inr has) =
    tokens_are m format earlier tuple paths tokens token sound few (right (is_rule_leaf m path k) _ r) has
tokens_are m format earlier tuple (path ∷ paths) (ByNegative ∷ tokens) token sound few r (inl same) = subst (IsTokenOf m format) same tt
tokens_are m format earlier tuple (path ∷ paths) (ByNegative ∷ tokens) token sound few r (inr has) =
    tokens_are m format earlier tuple paths tokens token sound few (right (is_negative_leaf m tuple path) _ r) has
tokens_are m format earlier tuple (path ∷ paths) (ByOmission n ∷ tokens) token sound few r (inl same) =
    let cited = of_omission_leaf m format earlier tuple path n (left (is_omission_leaf m format earlier tuple path n) _ r) in
    subst (IsTokenOf m format) same (cited.0, cited.1, omega (arith, cited.2, few))
tokens_are m format earlier tuple (path ∷ paths) (ByOmission n ∷ tokens) token sound few r (inr has) =
    tokens_are m format earlier tuple paths tokens token sound few (right (is_omission_leaf m format earlier tuple path n) _ r) has

-- and there is one
pub some_tokens : (m : ModelView) (format : ℕ) (earlier : List (List (Option ℕ))) (tuple : List (Option ℕ)) (tokens : List Token)
    → refutes m format earlier tuple tokens ≡ true → 0 < length tokens
some_tokens m format earlier tuple [] r = absurd (false≢true r)
some_tokens m format earlier tuple (token ∷ tokens) r = omega arith
