-- One item more in a loop.
use Rattle.std.proofs.Common.{◌≡◌, ℕ, ◌+◌, ◌-◌, ◌<◌, Bool, true, false, ◌||◌, cond, List, [], ◌∷◌, ◌++◌, map, length, get_or, take, filter, flat_map, zero-add, refl, ap, sym, ◌∙◌}
use Rattle.std.specs.Prelude.{IfOk, Result, Ok, Err}
use Rattle.std.specs.List.{list_any, range_with_len}
use Rattle.std.proofs.lemmas.Grind.{flat_map-append}
use Rattle.std.proofs.lemmas.List.{append_assoc, map-append, take_more}
use Rattle.std.proofs.lemmas.List.Elements.{filter-append}
use Rattle.value_text.specs.declared.no_memory.NoMemory.{NoMemory}
use Rattle.value_text.proofs.ListLemmas.{range_with_len_more, range_step}
use Rattle.cov_model.specs.declared.constraint.Pred.{Pred}
use Rattle.cov_model.specs.believed.Sound.{ModelView}
use Rattle.cov_model.specs.believed.Views.{PredView, PredViews, End, More, RuleView}
use Rattle.cov_model.specs.Views.{pred_view, preds_in}
use Rattle.model_lint.specs.believed.Tests.{is_unused}

pub any_step : (test : ℕ → Bool) (p count : ℕ) → p < count
    → list_any test (range_with_len p (count - p)) ≡ (test p || list_any test (range_with_len (p + 1) (count - (p + 1))))
any_step test p count within = ap (list_any test) (range_step p count within)

-- the number there passes: then one of all does
pub found_here : (test : ℕ → Bool) (whole : Bool) (p count : ℕ) → p < count → whole ≡ list_any test (range_with_len p (count - p)) → test p ≡ true → true ≡ whole
found_here test whole p count within is here =
    sym (is ∙ any_step test p count within ∙ ap (λ b. b || list_any test (range_with_len (p + 1) (count - (p + 1)))) here)

-- it doesn't: then one of those behind it does, or none
pub none_here : (test : ℕ → Bool) (whole : Bool) (p count : ℕ) → p < count → whole ≡ list_any test (range_with_len p (count - p)) → test p ≡ false
    → whole ≡ list_any test (range_with_len (p + 1) (count - (p + 1)))
none_here test whole p count within is here =
    is ∙ any_step test p count within ∙ ap (λ b. b || list_any test (range_with_len (p + 1) (count - (p + 1)))) here

-- one predicate more
abbrev with_last : PredViews → PredView → PredViews
with_last End view = More view End
with_last (More first rest) view = More first (with_last rest view)

last_pred : (list : List Pred) (pred : Pred) → preds_in (list ++ pred ∷ []) ≡ with_last (preds_in list) (pred_view pred)
last_pred [] pred = refl
last_pred (first ∷ list) pred = ap (λ rest. More (pred_view first) rest) (last_pred list pred)

pub next_pred : (parts : List Pred) (i : ℕ) (part copy : Pred) (copies next : List Pred) → i < length parts → part ≡ get_or parts i part
    → preds_in copies ≡ preds_in (take i parts) → pred_view copy ≡ pred_view part → next ≡ copies ++ copy ∷ []
    → preds_in next ≡ preds_in (take (i + 1) parts)
next_pred parts i part copy copies next within at so_far is longer =
    ap preds_in longer ∙ last_pred copies copy ∙ ap (λ front. with_last front (pred_view copy)) so_far ∙ ap (with_last (preds_in (take i parts))) is
    ∙ sym (ap preds_in (take_more parts i part within ∙ ap (λ x. take i parts ++ x ∷ []) (sym at)) ∙ last_pred (take i parts) part)

-- one item more that a test keeps or not
pub filter_last : {X : Type 0} (test : X → Bool) (xs : List X) (x : X) → filter test (xs ++ x ∷ []) ≡ filter test xs ++ cond (test x) (x ∷ []) []
filter_last test xs x = filter-append test xs (x ∷ [])

pub append_nothing : {X : Type 0} (xs : List X) → xs ++ [] ≡ xs
append_nothing [] = refl
append_nothing (x ∷ xs) = ap (λ rest. x ∷ rest) (append_nothing xs)

-- the numbers that pass a test
pub marked_more : (keeps : ℕ → Bool) (rules : List RuleView) (i : ℕ) (d : RuleView) → i < length rules
    → filter keeps (map (λ rule. rule.number) (take (i + 1) rules))
    ≡ filter keeps (map (λ rule. rule.number) (take i rules)) ++ cond (keeps (get_or rules i d).number) ((get_or rules i d).number ∷ []) []
marked_more keeps rules i d within =
    ap (λ kept. filter keeps (map (λ (rule : RuleView). rule.number) kept)) (take_more rules i d within)
    ∙ ap (filter keeps) (map-append (λ (rule : RuleView). rule.number) (take i rules) (get_or rules i d ∷ []))
    ∙ filter_last keeps (map (λ (rule : RuleView). rule.number) (take i rules)) (get_or rules i d).number

pub next_marked : (keeps : ℕ → Bool) (rules : List RuleView) (i : ℕ) (d : RuleView) (number : ℕ) (numbers next : List ℕ) → i < length rules
    → number ≡ (get_or rules i d).number → numbers ≡ filter keeps (map (λ rule. rule.number) (take i rules))
    → next ≡ numbers ++ cond (keeps number) (number ∷ []) [] → next ≡ filter keeps (map (λ rule. rule.number) (take (i + 1) rules))
next_marked keeps rules i d number numbers next within is so_far longer =
    longer ∙ ap (λ front. front ++ cond (keeps number) (number ∷ []) []) so_far
    ∙ ap (λ n. filter keeps (map (λ (rule : RuleView). rule.number) (take i rules)) ++ cond (keeps n) (n ∷ []) []) is
    ∙ sym (marked_more keeps rules i d within)

-- one value more of a parameter
pub values_more : (test : ℕ × ℕ → Bool) (p v : ℕ)
    → filter test (map (λ w. (p, w)) (range_with_len 0 (v + 1))) ≡ filter test (map (λ w. (p, w)) (range_with_len 0 v)) ++ cond (test (p, v)) ((p, v) ∷ []) []
values_more test p v =
    ap (λ vs. filter test (map (λ (w : ℕ). (p, w)) vs)) (range_with_len_more 0 v ∙ ap (λ w. range_with_len 0 v ++ w ∷ []) (zero-add v))
    ∙ ap (filter test) (map-append (λ (w : ℕ). (p, w)) (range_with_len 0 v) (v ∷ []))
    ∙ filter_last test (map (λ (w : ℕ). (p, w)) (range_with_len 0 v)) (p, v)

-- so each is told
pub next_value : (m : ModelView) (p v : ℕ) (before list next : List (ℕ × ℕ))
    → list ≡ before ++ filter (is_unused m) (map (λ w. (p, w)) (range_with_len 0 v))
    → next ≡ list ++ cond (is_unused m (p, v)) ((p, v) ∷ []) []
    → next ≡ before ++ filter (is_unused m) (map (λ w. (p, w)) (range_with_len 0 (v + 1)))
next_value m p v before list next so_far longer =
    let told = filter (is_unused m) (map (λ (w : ℕ). (p, w)) (range_with_len 0 v)) in
    longer ∙ ap (λ front. front ++ cond (is_unused m (p, v)) ((p, v) ∷ []) []) so_far
    ∙ append_assoc before told (cond (is_unused m (p, v)) ((p, v) ∷ []) [])
    ∙ ap (λ rest. before ++ rest) (sym (values_more (is_unused m) p v))

-- and those of one parameter more
pub params_more : (test : ℕ × ℕ → Bool) (each : ℕ → List (ℕ × ℕ)) (p : ℕ)
    → filter test (flat_map each (range_with_len 0 (p + 1))) ≡ filter test (flat_map each (range_with_len 0 p)) ++ filter test (each p)
params_more test each p =
    ap (λ ps. filter test (flat_map each ps)) (range_with_len_more 0 p ∙ ap (λ q. range_with_len 0 p ++ q ∷ []) (zero-add p))
    ∙ ap (filter test) (flat_map-append each (range_with_len 0 p) (p ∷ []) ∙ ap (λ last. flat_map each (range_with_len 0 p) ++ last) (append_nothing (each p)))
    ∙ filter-append test (flat_map each (range_with_len 0 p)) (each p)

-- what follows of a result
pub ok_also : {X : Type 0} {P Q : X → Type 0} (result : Result X NoMemory) → ((x : X) → P x → Q x) → IfOk result P → IfOk result Q
ok_also (Ok x) also is = also x is
ok_also (Err e) also is = is
