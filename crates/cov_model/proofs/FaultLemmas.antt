-- The first false constraint and the first two negative values.
use Rattle.std.proofs.Common.{◌≡◌, ℕ, suc, ◌+◌, ◌-◌, ◌<◌, Bool, true, false, ◌&&◌, not, cond, List, [], ◌∷◌, ◌++◌, length, Option, Some}
use Rattle.std.proofs.Common.{None, is_none, find, get_or, drop, nat_le, ◌∙◌, sym, ap, refl, arith, add-one}
use Rattle.std.specs.Option.{option_to_list}
use Rattle.std.specs.List.{filter, list_all, range_with_len}
use Rattle.std.proofs.Math.Seq.{drop-cons}
use Rattle.std.proofs.lemmas.Grind.{common_steps}
use Rattle.cov_model.specs.believed.Views.{RuleView}
use Rattle.cov_model.specs.declared.row_fault.RowWhy.TheVariants.{Rule}
use Rattle.cov_model.specs.believed.Sound.{ModelView}
use Rattle.cov_model.specs.believed.Meaning.{body_holds}
use Rattle.cov_model.specs.believed.Valid.{is_row, is_valid, negatives}
use Rattle.cov_model.specs.believed.RowFault.{fault_of, row_fault}

-- a place that fails the test is passed over
pub find-drop_more : {X : Type 0} (test : X → Bool) (xs : List X) (i : ℕ) (d : X) → i < length xs → test (get_or xs i d) ≡ false
    → find test (drop i xs) ≡ find test (drop (i + 1) xs)
find-drop_more test xs i d within fails =
    ap (find test) (drop-cons xs i d within)
    ∙ ap (λ (b : Bool). cond b (Some (get_or xs i d)) (find test (drop (suc i) xs))) fails
    ∙ ap (λ (j : ℕ). find test (drop j xs)) (sym (add-one i))

filter-range_with_len : (test : ℕ → Bool) (p count : ℕ) → p < count
    → filter test (range_with_len p (count - p))
    ≡ cond (test p) (p ∷ filter test (range_with_len (p + 1) (count - (p + 1)))) (filter test (range_with_len (p + 1) (count - (p + 1))))
filter-range_with_len test p count within =
    let e : count - p ≡ suc (count - (p + 1)) = omega arith in ap (λ (n : ℕ). filter test (range_with_len p n)) e

-- the first number that passes the test is found
pub found_more : (test : ℕ → Bool) (p count : ℕ) (passing : List ℕ) (old new : Option ℕ) → p < count → test p ≡ true
    → old ≡ None → new ≡ Some p → passing ≡ option_to_list old ++ filter test (range_with_len p (count - p))
    → passing ≡ option_to_list new ++ filter test (range_with_len (p + 1) (count - (p + 1)))
found_more test p count passing old new within passes before after kept =
    kept ∙ ap (λ (o : Option ℕ). option_to_list o ++ filter test (range_with_len p (count - p))) before
    ∙ filter-range_with_len test p count within
    ∙ ap (λ (b : Bool). cond b (p ∷ filter test (range_with_len (p + 1) (count - (p + 1)))) (filter test (range_with_len (p + 1) (count - (p + 1))))) passes
    ∙ ap (λ (o : Option ℕ). option_to_list o ++ filter test (range_with_len (p + 1) (count - (p + 1)))) (sym after)

-- a number that fails it is passed over
pub passed_more : (test : ℕ → Bool) (p count : ℕ) (passing : List ℕ) (old new : Option ℕ) → p < count → test p ≡ false
    → new ≡ old → passing ≡ option_to_list old ++ filter test (range_with_len p (count - p))
    → passing ≡ option_to_list new ++ filter test (range_with_len (p + 1) (count - (p + 1)))
passed_more test p count passing old new within fails same kept =
    kept ∙ ap (λ (o : Option ℕ). option_to_list o ++ filter test (range_with_len p (count - p))) (sym same)
    ∙ ap (λ (rest : List ℕ). option_to_list new ++ rest) (filter-range_with_len test p count within
    ∙ ap (λ (b : Bool). cond b (p ∷ filter test (range_with_len (p + 1) (count - (p + 1)))) (filter test (range_with_len (p + 1) (count - (p + 1))))) fails)

none_or : {X : Type 0} (b : Bool) (x : X) (o : Option X) (r : Bool) → is_none o ≡ r → is_none (cond (not b) (Some x) o) ≡ (b && r)
none_or true x o r same = same
none_or false x o r same = refl

is_none-find : {X : Type 0} (test : X → Bool) (xs : List X) → is_none (find (λ x. not (test x)) xs) ≡ list_all test xs
is_none-find test [] = refl
is_none-find test (x ∷ xs) = none_or (test x) x (find (λ y. not (test y)) xs) (list_all test xs) (is_none-find test xs)

is_none-fault_of : (o : Option RuleView) (params : List ℕ) → is_none (fault_of o params) ≡ (is_none o && nat_le (length params) 1)
is_none-fault_of (Some rule) params = refl
is_none-fault_of None [] = refl
is_none-fault_of None (p ∷ []) = refl
is_none-fault_of None (p ∷ q ∷ rest) = grind (arith, common_steps)

-- a row without a fault is valid
pub is_none-row_fault : (m : ModelView) (row : List (Option ℕ)) → is_row m row ≡ true → is_none (row_fault m row) ≡ is_valid m row
is_none-row_fault m row complete =
    is_none-fault_of (find (λ rule. not (body_holds m rule.body row)) m.rules) (negatives m row)
    ∙ ap (λ (b : Bool). b && nat_le (length (negatives m row)) 1) (is_none-find (λ rule. body_holds m rule.body row) m.rules)
    ∙ ap (λ (b : Bool). (b && list_all (λ rule. body_holds m rule.body row) m.rules) && nat_le (length (negatives m row)) 1) (sym complete)

-- a value that a test doesn't let through
pub unless_passed : (b : Bool) (v : ℕ) → cond b (Some v) None ≡ None → b ≡ false
unless_passed true v none = absurd cc
unless_passed false v none = refl

-- a false constraint before which none is false is the fault
pub false_rule : (m : ModelView) (row : List (Option ℕ)) (i : ℕ) (d : RuleView) → i < length m.rules → body_holds m (get_or m.rules i d).body row ≡ false
    → find (λ rule. not (body_holds m rule.body row)) m.rules ≡ find (λ rule. not (body_holds m rule.body row)) (drop i m.rules)
    → row_fault m row ≡ Some (Rule (get_or m.rules i d).number)
false_rule m row i d within fails before =
    ap (λ o. fault_of o (negatives m row)) (before ∙ ap (find (λ rule. not (body_holds m rule.body row))) (drop-cons m.rules i d within)
    ∙ ap (λ b. cond (not b) (Some (get_or m.rules i d)) (find (λ rule. not (body_holds m rule.body row)) (drop (suc i) m.rules))) fails)
