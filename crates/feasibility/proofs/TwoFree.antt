-- Two free parameters of a constraint: each has no value, and one that alone makes the constraint hold.
use Rattle.std.proofs.Common.{◌≡◌, ℕ, ◌<◌, Bool, false, cond, not, List, [], ◌∷◌, length, Option, Some, None, get_or, ◌∙◌, sym, ap, arith, inl, inr}
use Rattle.std.specs.List.{filter}
use Rattle.std.specs.Option.{is_some}
use Rattle.std.proofs.lemmas.Bool.{cases_Bool, cases_eq, false_from_ne_true, false≢true, not-false}
use Rattle.std.proofs.lemmas.List.{get_or-set_other, get_or-set_same, length-set}
use Rattle.std.proofs.lemmas.List.FromFn.{length-range_with_len}
use Rattle.cov_model.specs.believed.Kleene.{body_truth}
use Rattle.cov_model.specs.believed.Rows.{is_assigned, with_value}
use Rattle.cov_model.specs.believed.Slices.{value_numbers}
use Rattle.cov_model.specs.believed.Sound.{ModelView, param_at}
use Rattle.cov_model.specs.Sound.{rule_at}
use Rattle.compiled_rules.specs.Codes.{is_yes}
use Rattle.feasibility.specs.Live.{IsFree, NoValueBreaks, no_on}
use Rattle.feasibility.specs.Tree.{doubtful, no_values}
use Rattle.feasibility.proofs.Broken.{longer_alone, longer_set}
use Rattle.feasibility.proofs.Growing.{no_from_no, not_no, stays_body, yes_from_yes}

-- of a list that a test makes shorter some item fails it
record Fails (p : ℕ → Bool) (xs : List ℕ) : Type 0 where
  item : ℕ
  fails : p item ≡ false

some_fails : (p : ℕ → Bool) (xs : List ℕ) → length (filter p xs) < length xs → Fails p xs
some_fails p [] less = absurd (omega (arith, less))
some_fails p (x ∷ xs) less = elim (cases_Bool (p x)) [
  | inl passes ↦
      let same = ap (λ (b : Bool). length (cond b (x ∷ filter p xs) (filter p xs))) passes in
      let rest = some_fails p xs (omega (arith, less, same)) in
      record { item = rest.item; fails = rest.fails }
  | inr fails ↦ record { item = x; fails = fails }
]

-- a parameter with fewer doubtful values than values is free while it has none
pub free_of_fewer : (m : ModelView) (k q : ℕ) (cells : List (Option ℕ)) → q < length m.params → is_assigned cells q ≡ false
    → length (doubtful m (rule_at m k).body q) < length (param_at m.params q).values → IsFree m k cells q
free_of_fewer m k q cells low unset fewer =
    let holds = λ (w : ℕ). is_yes (body_truth m (rule_at m k).body (with_value (no_values m) q w)) in
    let long = length-range_with_len 0 (length (param_at m.params q).values) in
    let found = some_fails (λ w. not (holds w)) (value_numbers m q) (omega (arith, fewer, long)) in
    record { low = low; unset = unset; value = found.item; holds = not-false (holds found.item) found.fails }

-- while it has none the constraint isn't No
one_free : (m : ModelView) (k : ℕ) (cells : List (Option ℕ)) (p q w : ℕ) → length cells ≡ length m.params → IsFree m k cells p → (p ≡ q → ⊥)
    → no_on m (with_value cells q w) k ≡ false
one_free m k cells p q w long free apart =
    let body = (rule_at m k).body in
    let v = free.value in
    let now = with_value cells q w in
    let more = with_value now p v in
    let now_long = length-set cells q (Some w) in
    let unset : is_assigned now p ≡ false = ap is_some (get_or-set_other cells q p (Some w) None apart) ∙ free.unset in
    let has : get_or more p None ≡ Some v = get_or-set_same now p (Some v) None (omega (arith, free.low, long, now_long)) in
    let more_long : length more ≡ length m.params = length-set now p (Some v) ∙ now_long ∙ long in
    let holds = yes_from_yes _ _ (stays_body m body (with_value (no_values m) p v) more (longer_alone (length m.params) more p v more_long has))
    free.holds in
    false_from_ne_true (no_on m now k) (λ no. false≢true (sym (not_no (body_truth m body more) holds)
    ∙ no_from_no _ _ (stays_body m body now more (longer_set now p v unset)) no))

-- one of two hasn't when another parameter gets a value
pub two_free : (m : ModelView) (k : ℕ) (cells : List (Option ℕ)) (p s : ℕ) → length cells ≡ length m.params → IsFree m k cells p → IsFree m k cells s
    → (p ≡ s → ⊥) → NoValueBreaks m k cells
two_free m k cells p s long first second apart q w none = elim (cases_eq p q) [
  | inl same ↦ one_free m k cells s q w long second (λ e. apart (same ∙ sym e))
  | inr differs ↦ one_free m k cells p q w long first differs
]
