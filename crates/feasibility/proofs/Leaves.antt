-- Which of the leaves that are possible on a path is the first.
use Rattle.std.proofs.Common.{◌≡◌, ℕ, zero, suc, ◌+◌, ◌-◌, ◌<◌, ◌≤◌, Bool, true, false, ◌&&◌, ◌==◌, cond, List, [], ◌∷◌, ◌++◌, map, filter, find, take}
use Rattle.std.proofs.Common.{drop, length, get_or, Option, Some, None, inl, inr, ◌∙◌, sym, ap, refl, arith, append-nil, eq-eqb}
use Rattle.std.specs.List.{range_with_len}
use Rattle.std.proofs.lemmas.Bool.{false≢true, and_parts, and_from, eqb-true, false_from_ne_true}
use Rattle.std.specs.Option.{option_or}
use Rattle.std.proofs.lemmas.List.{drop_more, get_or-map, get_or_default, length-map, same_lists, take-append-drop, take_more}
use Rattle.std.proofs.lemmas.List.FromFn.{get_or-range_with_len, length-range_with_len}
use Rattle.std.proofs.lemmas.List.Folds.{Any-from_list_any, find-append, list_any_at}
use Rattle.std.proofs.lemmas.Option.{none-some, same_Some}
use Rattle.std.proofs.lemmas.Simd.{map-map}
use Rattle.value_text.proofs.ListLemmas.{range_with_len_more, nothing_found}
use Rattle.cov_model.specs.believed.Views.{RuleView}
use Rattle.cov_model.specs.believed.Sound.{ModelView, IsSound}
use Rattle.cov_model.specs.Sound.{no_rule, rule_at}
use Rattle.cov_model.specs.believed.Kleene.{body_truth}
use Rattle.definitions.specs.believed.Refutation.{Token, ByRule, ByNegative, ByOmission, is_first_leaf, is_leaf, is_negative_leaf, is_omission_leaf, is_rule_leaf, leaves}
use Rattle.definitions.specs.believed.Search.{breaks_a_rule, is_no}
use Rattle.definitions.proofs.Members.{Has, all_members, find_some, has_range, of_find, of_range, same_answer}
use Rattle.definitions.proofs.Nothing.{no_first}
use Rattle.feasibility.specs.Live.{no_on}
use Rattle.feasibility.proofs.Broken.{breaks_by, broken_by}

-- the first number whose token passes a test stands first among the tokens that pass
first_kept : (test : Token → Bool) (f : ℕ → Token) (ns : List ℕ) (k : ℕ) (others : List Token) → find (λ n. test (f n)) ns ≡ Some k
    → (rest : List Token) × (filter test (map f ns ++ others) ≡ f k ∷ rest)
first_kept test f [] k others found = absurd (none-some k found)
first_kept test f (n ∷ ns) k others found = by_case (test (f n)) found (first_kept test f ns k others)
  where
    by_case : (b : Bool) → cond b (Some n) (find (λ i. test (f i)) ns) ≡ Some k
        → (find (λ i. test (f i)) ns ≡ Some k → (rest : List Token) × (filter test (map f ns ++ others) ≡ f k ∷ rest))
        → (rest : List Token) × (cond b (f n ∷ filter test (map f ns ++ others)) (filter test (map f ns ++ others)) ≡ f k ∷ rest)
    by_case true found later = (filter test (map f ns ++ others), ap (λ (i : ℕ). f i ∷ filter test (map f ns ++ others)) (same_Some n k found))
    by_case false found later = later found

-- and where no number's does, the others alone pass
none_kept : (test : Token → Bool) (f : ℕ → Token) (ns : List ℕ) (others : List Token) → find (λ n. test (f n)) ns ≡ None
    → filter test (map f ns ++ others) ≡ filter test others
none_kept test f [] others none = refl
none_kept test f (n ∷ ns) others none = by_case (test (f n)) none (none_kept test f ns others)
  where
    by_case : (b : Bool) → cond b (Some n) (find (λ i. test (f i)) ns) ≡ None
        → (find (λ i. test (f i)) ns ≡ None → filter test (map f ns ++ others) ≡ filter test others)
        → cond b (f n ∷ filter test (map f ns ++ others)) (filter test (map f ns ++ others)) ≡ filter test others
    by_case true none later = absurd (none-some n (sym none))
    by_case false none later = later none

-- what is found by tests that agree on the members of a list
pub find_agrees : (p q : ℕ → Bool) (ns : List ℕ) → ((n : ℕ) → Has ns n → p n ≡ q n) → find p ns ≡ find q ns
find_agrees p q [] same = refl
find_agrees p q (n ∷ ns) same =
    ap (λ (b : Bool). cond b (Some n) (find p ns)) (same n (inl refl))
    ∙ ap (λ (o : Option ℕ). cond (q n) (Some n) o) (find_agrees p q ns (λ k has. same k (inr has)))

-- the first item of a list that passes, after those before a place of which none does
pub item_found : (test : ℕ → Bool) (ns : List ℕ) (i : ℕ) → i < length ns → find test (take i ns) ≡ None → test (get_or ns i 0) ≡ true
    → Some (get_or ns i 0) ≡ find test ns
item_found test ns i within none passes =
    sym (ap (find test) (sym (take-append-drop i ns)) ∙ find-append test (take i ns) (drop i ns)
    ∙ ap (λ (o : Option ℕ). option_or o (find test (drop i ns))) none
    ∙ ap (find test) (drop_more ns i 0 within)
    ∙ ap (λ (b : Bool). cond b (Some (get_or ns i 0)) (find test (drop (i + 1) ns))) passes)

-- one item more that doesn't pass
pub item_passed : (test : ℕ → Bool) (ns : List ℕ) (i : ℕ) → i < length ns → find test (take i ns) ≡ None → test (get_or ns i 0) ≡ false
    → find test (take (i + 1) ns) ≡ None
item_passed test ns i within none fails =
    ap (find test) (take_more ns i 0 within) ∙ find-append test (take i ns) (get_or ns i 0 ∷ [])
    ∙ no_first (find test (take i ns)) (find test (get_or ns i 0 ∷ [])) none (ap (λ (b : Bool). cond b (Some (get_or ns i 0)) None) fails)

-- the first number of a range that passes, after a shorter one of which none does
first_at : (test : ℕ → Bool) (a k n : ℕ) → k < n → find test (range_with_len a k) ≡ None → test (a + k) ≡ true → find test (range_with_len a n) ≡ Some (a + k)
first_at test a k zero within none passes = absurd (omega arith)
first_at test a zero (suc n) within none passes =
    let same : a + 0 ≡ a = omega arith in
    ap (λ (b : Bool). cond b (Some a) (find test (range_with_len (a + 1) n))) (ap test (sym same) ∙ passes) ∙ ap (λ (i : ℕ). Some i) (sym same)
first_at test a (suc k) (suc n) within none passes = by_case (test a) none (first_at test (a + 1) k n (omega arith))
  where
    next : (a + 1) + k ≡ a + suc k
    next = omega arith

    by_case : (b : Bool) → cond b (Some a) (find test (range_with_len (a + 1) k)) ≡ None
        → (find test (range_with_len (a + 1) k) ≡ None → test ((a + 1) + k) ≡ true → find test (range_with_len (a + 1) n) ≡ Some ((a + 1) + k))
        → cond b (Some a) (find test (range_with_len (a + 1) n)) ≡ Some (a + suc k)
    by_case true none later = absurd (none-some a (sym none))
    by_case false none later = later none (ap test next ∙ passes) ∙ ap (λ (i : ℕ). Some i) next

pub number_found : (test : ℕ → Bool) (i n : ℕ) → i < n → find test (range_with_len 1 i) ≡ None → test (i + 1) ≡ true
    → Some (i + 1) ≡ find test (range_with_len 1 n)
number_found test i n within none passes =
    let next : 1 + i ≡ i + 1 = omega arith in
    sym (first_at test 1 i n within none (ap test next ∙ passes) ∙ ap (λ (k : ℕ). Some k) next)

-- one number more that doesn't pass
pub number_passed : (test : ℕ → Bool) (i : ℕ) → find test (range_with_len 1 i) ≡ None → test (i + 1) ≡ false → find test (range_with_len 1 (i + 1)) ≡ None
number_passed test i none fails =
    let next : 1 + i ≡ i + 1 = omega arith in
    ap (find test) (range_with_len_more 1 i) ∙ find-append test (range_with_len 1 i) ((1 + i) ∷ [])
    ∙ no_first (find test (range_with_len 1 i)) (find test ((1 + i) ∷ [])) none
    (ap (λ (b : Bool). cond b (Some (1 + i)) None) (ap test next ∙ fails))

-- the numbers of the constraints
pub numbers_are : (m : ModelView) → IsSound m → map (λ rule. rule.number) m.rules ≡ range_with_len 1 (length m.rules)
numbers_are m sound =
    same_lists (map (λ rule. rule.number) m.rules) (range_with_len 1 (length m.rules))
    (length-map m.rules (λ (rule : RuleView). rule.number) ∙ sym (length-range_with_len 1 (length m.rules))) (λ i d within.
    let inside : i < length m.rules = omega (arith, within, length-map m.rules (λ (rule : RuleView). rule.number)) in
    let next : 1 + i ≡ i + 1 = omega arith in
    get_or-map (λ (rule : RuleView). rule.number) m.rules i no_rule d inside
    ∙ sound.numbered i no_rule inside ∙ sym (get_or-range_with_len 1 (length m.rules) i d inside ∙ next))

rule_tokens : (m : ModelView) → IsSound m → map (λ rule. ByRule rule.number) m.rules ≡ map ByRule (range_with_len 1 (length m.rules))
rule_tokens m sound = sym (map-map ByRule (λ (rule : RuleView). rule.number) m.rules) ∙ ap (map ByRule) (numbers_are m sound)

-- the constraint has the number and is No
abbrev is_no_at : ModelView → List (Option ℕ) → ℕ → RuleView → Bool
is_no_at m path k rule = (rule.number == k) && is_no (body_truth m rule.body path)

-- the leaf of a constraint's number is possible exactly where the constraint is No
rule_leaf_is : (m : ModelView) (path : List (Option ℕ)) (k : ℕ) → IsSound m → 0 < k → k ≤ length m.rules → is_rule_leaf m path k ≡ no_on m path k
rule_leaf_is m path k sound least most = same_answer (is_rule_leaf m path k) (no_on m path k) forward backward
  where
    forward : is_rule_leaf m path k ≡ true → no_on m path k ≡ true
    forward leaf =
        let found = Any-from_list_any (is_no_at m path k) m.rules leaf in
        let parts = and_parts (found.1.number == k) (is_no (body_truth m found.1.body path)) found.4 in
        let at : get_or m.rules found.0 no_rule ≡ found.1 = get_or_default m.rules found.0 no_rule found.1 found.2 ∙ found.3 in
        let number : found.0 + 1 ≡ k = sym (sound.numbered found.0 no_rule found.2) ∙ ap (λ (rule : RuleView). rule.number) at ∙ eqb-true found.1.number k parts.0 in
        let place : k - 1 ≡ found.0 = omega (arith, number) in
        ap (λ (i : ℕ). is_no (body_truth m (get_or m.rules i no_rule).body path)) place ∙ ap (λ (rule : RuleView). is_no (body_truth m rule.body path)) at ∙ parts.1

    backward : no_on m path k ≡ true → is_rule_leaf m path k ≡ true
    backward is =
        let within : k - 1 < length m.rules = omega (arith, least, most) in
        let number : (rule_at m k).number ≡ k = omega (arith, sound.numbered (k - 1) no_rule within, least) in
        list_any_at (is_no_at m path k) m.rules (k - 1) no_rule within
        (and_from ((rule_at m k).number == k) (is_no (body_truth m (rule_at m k).body path)) (eq-eqb (rule_at m k).number k number) is)

found_rule : (m : ModelView) (path : List (Option ℕ)) → IsSound m
    → find (is_rule_leaf m path) (range_with_len 1 (length m.rules)) ≡ find (no_on m path) (range_with_len 1 (length m.rules))
found_rule m path sound =
    find_agrees (is_rule_leaf m path) (no_on m path) (range_with_len 1 (length m.rules)) (λ k has.
    let range = of_range 1 (length m.rules) k has in rule_leaf_is m path k sound (omega (arith, range.0)) (omega (arith, range.1)))

-- no constraint is No exactly where none is found
pub none_no : (m : ModelView) (path : List (Option ℕ)) → breaks_a_rule m path ≡ false → find (no_on m path) (range_with_len 1 (length m.rules)) ≡ None
none_no m path unbroken =
    nothing_found (no_on m path) (range_with_len 1 (length m.rules)) (all_members (λ k. no_on m path k ≡ false) (range_with_len 1 (length m.rules)) (λ k has.
    let range = of_range 1 (length m.rules) k has in
    false_from_ne_true (no_on m path k) (λ no. false≢true (sym unbroken ∙ breaks_by m path k (omega (arith, range.0)) (omega (arith, range.1)) no))))

pub some_no : (m : ModelView) (path : List (Option ℕ)) → breaks_a_rule m path ≡ true
    → (k : ℕ) × (find (no_on m path) (range_with_len 1 (length m.rules)) ≡ Some k)
some_no m path broken =
    let found = broken_by m path broken in
    find_some (no_on m path) (range_with_len 1 (length m.rules)) found.rule
    (has_range 1 (length m.rules) found.rule (omega (arith, found.some)) (omega (arith, found.most))) found.is

pub no_found : (m : ModelView) (path : List (Option ℕ)) → find (no_on m path) (range_with_len 1 (length m.rules)) ≡ None → breaks_a_rule m path ≡ false
no_found m path none =
    false_from_ne_true (breaks_a_rule m path) (λ broken. let found = some_no m path broken in none-some found.0 (sym none ∙ found.1))

-- the leaves by constraints and by omissions that are possible
abbrev behind_negative : ModelView → ℕ → List (List (Option ℕ)) → List (Option ℕ) → List (Option ℕ) → List Token
behind_negative m format earlier tuple path =
    filter (is_leaf m format earlier tuple path) (map (λ rule. ByRule rule.number) m.rules ++ map ByOmission (range_with_len 1 (length earlier)))

-- a leaf that is possible, and no other comes before it
pub record IsFirst (m : ModelView) (format : ℕ) (earlier : List (List (Option ℕ))) (tuple path : List (Option ℕ)) (token : Token) : Type 0 where
  pub possible : is_leaf m format earlier tuple path token ≡ true
  pub first : is_first_leaf (leaves m format earlier tuple path) token ≡ true

module _ (m : ModelView) (format : ℕ) (earlier : List (List (Option ℕ))) (tuple path : List (Option ℕ)) where
  -- the negative one
  pub negative_first : is_negative_leaf m tuple path ≡ true → IsFirst m format earlier tuple path ByNegative
  negative_first leaf = record {
    possible = leaf;
    first = ap (λ (b : Bool). is_first_leaf (cond b (ByNegative ∷ behind_negative m format earlier tuple path) (behind_negative m format earlier tuple path))
        ByNegative) leaf;
  }

  -- those behind it
  others_are : IsSound m → is_negative_leaf m tuple path ≡ false
      → leaves m format earlier tuple path
      ≡ filter (is_leaf m format earlier tuple path)
      (map ByRule (range_with_len 1 (length m.rules)) ++ map ByOmission (range_with_len 1 (length earlier)))
  others_are sound positive =
      ap (λ (b : Bool). cond b (ByNegative ∷ behind_negative m format earlier tuple path) (behind_negative m format earlier tuple path)) positive
      ∙ ap (λ (tokens : List Token). filter (is_leaf m format earlier tuple path) (tokens ++ map ByOmission (range_with_len 1 (length earlier))))
      (rule_tokens m sound)

  -- that of the least number of a constraint that is No
  pub rule_first : (k : ℕ) → IsSound m → is_negative_leaf m tuple path ≡ false → find (no_on m path) (range_with_len 1 (length m.rules)) ≡ Some k
      → IsFirst m format earlier tuple path (ByRule k)
  rule_first k sound positive found =
      let leaf : find (is_rule_leaf m path) (range_with_len 1 (length m.rules)) ≡ Some k = found_rule m path sound ∙ found in
      let kept = first_kept (is_leaf m format earlier tuple path) ByRule (range_with_len 1 (length m.rules)) k
      (map ByOmission (range_with_len 1 (length earlier))) leaf in
      record {
        possible = (of_find (is_rule_leaf m path) (range_with_len 1 (length m.rules)) k leaf).1;
        first = ap (λ (tokens : List Token). is_first_leaf tokens (ByRule k)) (others_are sound positive ∙ kept.1) ∙ eq-eqb k k refl;
      }

  -- that of the least number of an earlier tuple, where no constraint is No
  omissions_are : IsSound m → is_negative_leaf m tuple path ≡ false → breaks_a_rule m path ≡ false
      → leaves m format earlier tuple path ≡ filter (is_leaf m format earlier tuple path) (map ByOmission (range_with_len 1 (length earlier)))
  omissions_are sound positive unbroken =
      others_are sound positive
      ∙ none_kept (is_leaf m format earlier tuple path) ByRule (range_with_len 1 (length m.rules)) (map ByOmission (range_with_len 1 (length earlier)))
      (found_rule m path sound ∙ none_no m path unbroken)

  pub omission_first : (n : ℕ) → IsSound m → is_negative_leaf m tuple path ≡ false → breaks_a_rule m path ≡ false
      → find (is_omission_leaf m format earlier tuple path) (range_with_len 1 (length earlier)) ≡ Some n → IsFirst m format earlier tuple path (ByOmission n)
  omission_first n sound positive unbroken found =
      let kept = first_kept (is_leaf m format earlier tuple path) ByOmission (range_with_len 1 (length earlier)) n [] found in
      record {
        possible = (of_find (is_omission_leaf m format earlier tuple path) (range_with_len 1 (length earlier)) n found).1;
        first = ap (λ (tokens : List Token). is_first_leaf tokens (ByOmission n))
            (omissions_are sound positive unbroken
            ∙ ap (filter (is_leaf m format earlier tuple path)) (sym (append-nil (map ByOmission (range_with_len 1 (length earlier))))) ∙ kept.1)
            ∙ eq-eqb n n refl;
      }

  -- and else none
  pub no_leaf : IsSound m → is_negative_leaf m tuple path ≡ false → breaks_a_rule m path ≡ false
      → find (is_omission_leaf m format earlier tuple path) (range_with_len 1 (length earlier)) ≡ None → leaves m format earlier tuple path ≡ []
  no_leaf sound positive unbroken none =
      omissions_are sound positive unbroken
      ∙ ap (filter (is_leaf m format earlier tuple path)) (sym (append-nil (map ByOmission (range_with_len 1 (length earlier)))))
      ∙ none_kept (is_leaf m format earlier tuple path) ByOmission (range_with_len 1 (length earlier)) [] none
