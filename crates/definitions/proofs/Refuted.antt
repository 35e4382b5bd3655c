-- A tuple that a list of tokens refutes is served by no row: the row's own values lead to a leaf.
use Rattle.std.proofs.Common.{◌≡◌, ℕ, zero, suc, ◌+◌, ◌<◌, Bool, true, false, ◌&&◌, ◌||◌, not, cond, List, [], ◌∷◌, ◌++◌, map, length, Option}
use Rattle.std.proofs.Common.{Some, None, is_some, is_none, All, unwrap_or, get_or, nat_eq, nat_lt, filter, ◌∙◌, sym, ap, subst, refl, arith}
use Rattle.std.specs.List.{list_all, list_any, range_with_len, slice_get}
use Rattle.std.specs.Option.{option_map_or}
use Rattle.std.proofs.lemmas.Bool.{false≢true, false_from_ne_true, and_parts, and_from}
use Rattle.std.proofs.lemmas.Grind.{common_steps}
use Rattle.std.proofs.lemmas.List.Elements.{All-nil, All-cons}
use Rattle.std.proofs.lemmas.Option.{none-some}
use Rattle.std.proofs.lemmas.List.Folds.{list_all-append}
use Rattle.value_text.proofs.ListLemmas.{Some-unwrap_or}
use Rattle.cov_model.specs.declared.truth.Truth.{Truth}
use Rattle.cov_model.specs.declared.truth.Truth.TheVariants.{Yes, No, Unknown}
use Rattle.cov_model.specs.believed.Views.{RuleView}
use Rattle.cov_model.specs.believed.Sound.{ModelView, param_at}
use Rattle.cov_model.specs.believed.Rows.{contains, is_assigned, value_in, with_value}
use Rattle.cov_model.specs.believed.Meaning.{given_value, value_at, body_holds}
use Rattle.cov_model.specs.believed.Kleene.{body_truth}
use Rattle.cov_model.specs.believed.Valid.{is_valid, is_row, serves, negatives, param_numbers}
use Rattle.cov_model.proofs.CellLemmas.{contains-get_or, contains-trans}
use Rattle.cov_model.proofs.KnownLemmas.{no_stays}
use Rattle.cov_model.proofs.RowLemmas.{row_has_value}
use Rattle.definitions.specs.believed.Search.{is_no}
use Rattle.definitions.specs.believed.Refutation.{Token, Branch, ByRule, ByNegative, ByOmission, is_rule_leaf, is_negative_leaf}
use Rattle.definitions.specs.believed.Refutation.{is_omission_leaf, earlier_tuple, is_branch, branches, refute_paths, refutes, first_unrefuted}
use Rattle.definitions.specs.Laws.{RefutedAreUnserved}
use Rattle.definitions.proofs.Contained.{left, right}

not_true : (b : Bool) → not b ≡ true → b ≡ true → ⊥
not_true true h k = false≢true h
not_true false h k = false≢true k

-- one of two, and not the first
second : (a b : Bool) → (a || b) ≡ true → (a ≡ true → ⊥) → b ≡ true
second true b h other = absurd (other refl)
second false b h other = h

none_and : (c b : Bool) → c ≡ false → b ≡ true → (not c && b) ≡ true
none_and true b h k = absurd (false≢true (sym h))
none_and false b h k = k

all_right : {X : Type 0} (f : X → Bool) (xs ys : List X) → list_all f (xs ++ ys) ≡ true → list_all f ys ≡ true
all_right f xs ys h = (and_parts (list_all f xs) (list_all f ys) (sym (list_all-append f xs ys) ∙ h)).1

all_append : {X : Type 0} (f : X → Bool) (xs ys : List X) → list_all f xs ≡ true → list_all f ys ≡ true → list_all f (xs ++ ys) ≡ true
all_append f xs ys h k = list_all-append f xs ys ∙ and_from (list_all f xs) (list_all f ys) h k

all_range : (f : List (Option ℕ) → Bool) (g : ℕ → List (Option ℕ)) (a n k : ℕ) (ys : List (List (Option ℕ))) → k < n
    → list_all f (map g (range_with_len a n) ++ ys) ≡ true → f (g (a + k)) ≡ true
all_range f g a zero k ys within h = absurd (omega arith)
all_range f g a (suc n) zero ys within h =
    let same : a ≡ a + 0 = omega arith in
    subst (λ (i : ℕ). f (g i) ≡ true) same (left (f (g a)) _ h)
all_range f g a (suc n) (suc k) ys within h =
    let same : (a + 1) + k ≡ a + suc k = omega arith in
    subst (λ (i : ℕ). f (g i) ≡ true) same (all_range f g (a + 1) n k ys (omega arith) (right (f (g a)) _ h))

-- a row contains what it contains with one of its own values
pub contains-with : (row path : List (Option ℕ)) (p v : ℕ) → contains row path ≡ true → get_or row p None ≡ Some v → contains row (with_value path p v) ≡ true
contains-with row [] p v h own = refl
contains-with [] (cell ∷ path) p v h own = absurd (false≢true (ap is_some own))
contains-with (None ∷ row) (cell ∷ path) zero v h own = absurd (false≢true (ap is_some own))
contains-with (Some u ∷ row) (None ∷ path) zero v h own = let same : u ≡ v = ap (λ (c : Option ℕ). unwrap_or c 0) own in grind (arith, common_steps)
contains-with (Some u ∷ row) (Some w ∷ path) zero v h own = let same : u ≡ v = ap (λ (c : Option ℕ). unwrap_or c 0) own in grind (arith, common_steps)
contains-with (given ∷ row) (None ∷ path) (suc p) v h own = contains-with row path p v h own
contains-with (None ∷ row) (Some w ∷ path) (suc p) v h own = absurd (false≢true h)
contains-with (Some u ∷ row) (Some w ∷ path) (suc p) v h own =
    let rest : contains row (with_value path p v) ≡ true = contains-with row path p v (right (nat_eq u w) _ h) own in grind (arith, common_steps)

is_no-No : (t : Truth) → is_no t ≡ true → t ≡ No
is_no-No Yes h = absurd (false≢true h)
is_no-No No h = refl
is_no-No Unknown h = absurd (false≢true h)

-- on a row that meets the constraints none of them is No on what it contains
rule_leaf : (m : ModelView) (row path : List (Option ℕ)) (k : ℕ) (rules : List RuleView) → contains row path ≡ true
    → list_all (λ rule. body_holds m rule.body row) rules ≡ true
    → list_any (λ rule. nat_eq rule.number k && is_no (body_truth m rule.body path)) rules ≡ true → ⊥
rule_leaf m row path k [] h meets some = false≢true some
rule_leaf m row path k (rule ∷ rules) h meets some =
    rule_leaf m row path k rules h (right _ _ meets)
    (second _ _ some (λ here. false≢true (sym (no_stays m rule.body path row h (is_no-No _ (right _ _ here))) ∙ left _ _ meets)))

-- the parameters that pass f pass g, and those that pass g pass t, so none passes f and not t
none_outside : (t f g : ℕ → Bool) (ps : List ℕ) → ((p : ℕ) → f p ≡ true → g p ≡ true) → list_all t (filter g ps) ≡ true
    → list_any (λ p. not (t p)) (filter f ps) ≡ true → ⊥
none_outside t f g [] passes every some = false≢true some
none_outside t f g (p ∷ ps) passes every some = at (f p) (g p) (passes p) (none_outside t f g ps passes) every some
  where
    at : (fp gp : Bool) → (fp ≡ true → gp ≡ true) → (list_all t (filter g ps) ≡ true → list_any (λ p. not (t p)) (filter f ps) ≡ true → ⊥)
        → list_all t (cond gp (p ∷ filter g ps) (filter g ps)) ≡ true → list_any (λ p. not (t p)) (cond fp (p ∷ filter f ps) (filter f ps)) ≡ true → ⊥
    at true true here later all any = later (right _ _ all) (second _ _ any (λ outside. not_true (t p) outside (left _ _ all)))
    at true false here later all any = false≢true (here refl)
    at false true here later all any = later (right _ _ all) any
    at false false here later all any = later all any

-- those that pass g pass a, those that pass g and a pass f, and those that pass f pass t; so those that pass g do
all_through : (t a f g : ℕ → Bool) (ps : List ℕ) → ((p : ℕ) → g p ≡ true → a p ≡ true → f p ≡ true) → list_all t (filter f ps) ≡ true
    → list_all a (filter g ps) ≡ true → list_all t (filter g ps) ≡ true
all_through t a f g [] passes every some = refl
all_through t a f g (p ∷ ps) passes every some = at (f p) (g p) (passes p) (all_through t a f g ps passes) every some
  where
    at : (fp gp : Bool) → (gp ≡ true → a p ≡ true → fp ≡ true)
        → (list_all t (filter f ps) ≡ true → list_all a (filter g ps) ≡ true → list_all t (filter g ps) ≡ true)
        → list_all t (cond fp (p ∷ filter f ps) (filter f ps)) ≡ true → list_all a (cond gp (p ∷ filter g ps) (filter g ps)) ≡ true
        → list_all t (cond gp (p ∷ filter g ps) (filter g ps)) ≡ true
    at true true here later all any = and_from (t p) _ (left (t p) _ all) (later (right (t p) _ all) (right (a p) _ any))
    at false true here later all any = absurd (false≢true (here refl (left _ _ any)))
    at true false here later all any = later (right _ _ all) any
    at false false here later all any = later all any

-- the parameter has a negative value in the cells
abbrev is_negative_at : ModelView → List (Option ℕ) → ℕ → Bool
is_negative_at m cells p = is_assigned cells p && (given_value m cells p).negative

negative_row : (m : ModelView) (row path : List (Option ℕ)) (p : ℕ) → contains row path ≡ true → is_negative_at m path p ≡ true → is_negative_at m row p ≡ true
negative_row m row path p h is =
    let same = contains-get_or row path p h (left _ _ is) in
    ap (λ (c : Option ℕ). is_some c && (value_at m p (unwrap_or c 0)).negative) same ∙ is

negative_tuple : (m : ModelView) (row tuple : List (Option ℕ)) (p : ℕ) → contains row tuple ≡ true → is_negative_at m row p ≡ true
    → is_assigned tuple p ≡ true → is_negative_at m tuple p ≡ true
negative_tuple m row tuple p h is given =
    let same = contains-get_or row tuple p h given in
    ap (λ (c : Option ℕ). is_some c && (value_at m p (unwrap_or c 0)).negative) (sym same) ∙ is

-- an earlier tuple is one of those that the row doesn't serve
earlier_unserved : (unserved : List (Option ℕ) → Bool) (earlier : List (List (Option ℕ))) (i : ℕ) (q : List (Option ℕ) → Bool)
    → list_all unserved earlier ≡ true
    → option_map_or q (slice_get earlier i) false ≡ true → (other : List (Option ℕ)) × (unserved other ≡ true) × (q other ≡ true)
earlier_unserved unserved [] i q every holds = absurd (false≢true holds)
earlier_unserved unserved (other ∷ earlier) zero q every holds = (other, left _ _ every, holds)
earlier_unserved unserved (other ∷ earlier) (suc i) q every holds = earlier_unserved unserved earlier i q (right _ _ every) holds

cited : (unserved : List (Option ℕ) → Bool) (earlier : List (List (Option ℕ))) (n : ℕ) (q : List (Option ℕ) → Bool) → list_all unserved earlier ≡ true
    → option_map_or q (earlier_tuple earlier n) false ≡ true → (other : List (Option ℕ)) × (unserved other ≡ true) × (q other ≡ true)
cited unserved earlier zero q every holds = absurd (false≢true holds)
cited unserved earlier (suc i) q every holds = earlier_unserved unserved earlier i q every holds

-- what serving says
served_valid : (m : ModelView) (row tuple : List (Option ℕ)) → serves m row tuple ≡ true → is_valid m row ≡ true
served_valid m row tuple h = left _ _ (left _ _ h)

served_contains : (m : ModelView) (row tuple : List (Option ℕ)) → serves m row tuple ≡ true → contains row tuple ≡ true
served_contains m row tuple h = right _ _ (left _ _ h)

-- a row that contains a path contains one of its branches
on_branch : (m : ModelView) (row path : List (Option ℕ)) (p : ℕ) (paths : List (List (Option ℕ))) → is_valid m row ≡ true → contains row path ≡ true
    → is_branch m path p ≡ true → list_all (λ path. not (contains row path)) (branches m path p ++ paths) ≡ true → ⊥
on_branch m row path p paths valid h branch below =
    let complete : is_row m row ≡ true = left _ _ (left _ _ valid) in
    let inside : nat_lt p (length m.params) ≡ true = left _ _ branch in
    let within : p < length m.params = grind (arith, common_steps) in
    let has = row_has_value m row p complete within in
    let value = value_in row p in
    let exists : nat_lt value (length (param_at m.params p).values) ≡ true = right (is_assigned row p) _ has in
    let known : value < length (param_at m.params p).values = grind (arith, common_steps) in
    let none = all_range (λ path. not (contains row path)) (with_value path p) 0 (length (param_at m.params p).values) value paths known below in
    let same : 0 + value ≡ value = omega arith in
    not_true _ (subst (λ (v : ℕ). not (contains row (with_value path p v)) ≡ true) same none)
    (contains-with row path p value h (Some-unwrap_or (get_or row p None) 0 (left _ _ has)))

-- a row that contains a path contains the tuple that is cited there, and would serve it
on_omission : (m : ModelView) (format : ℕ) (earlier : List (List (Option ℕ))) (tuple row path : List (Option ℕ)) (n : ℕ)
    → serves m row tuple ≡ true → list_all (λ other. not (serves m row other)) earlier ≡ true → contains row path ≡ true
    → is_omission_leaf m format earlier tuple path n ≡ true → ⊥
on_omission m format earlier tuple row path n s e h leaf =
    let found = cited (λ other. not (serves m row other)) earlier n (λ other. contains path other && list_all (is_assigned other) (negatives m tuple)) e
    (right _ _ leaf) in
    let other = found.0 in
    let negative =
    all_through (is_assigned other) (is_assigned tuple) (is_negative_at m tuple) (is_negative_at m row) (param_numbers m)
    (λ p is given. negative_tuple m row tuple p (served_contains m row tuple s) is given) (right _ _ found.2) (right _ _ s)
    in
    not_true _ found.1
    (and_from (is_valid m row && contains row other) _ (and_from (is_valid m row) _ (served_valid m row tuple s) (contains-trans row path other h (left _ _ found.2))) negative)

-- a row that serves the tuple contains none of the paths
refuted_paths : (m : ModelView) (format : ℕ) (earlier : List (List (Option ℕ))) (tuple row : List (Option ℕ)) (paths : List (List (Option ℕ)))
    (tokens : List Token)
    → serves m row tuple ≡ true → list_all (λ other. not (serves m row other)) earlier ≡ true
    → refute_paths m format earlier tuple paths tokens ≡ true → list_all (λ path. not (contains row path)) paths ≡ true
refuted_paths m format earlier tuple row [] tokens s e r = refl
refuted_paths m format earlier tuple row (path ∷ paths) [] s e r = absurd (false≢true r)
refuted_paths m format earlier tuple row (path ∷ paths) (Branch p ∷ tokens) s e r =
    let open_branch = left (is_branch m path p) _ r in
    let below = refuted_paths m format earlier tuple row (branches m path p ++ paths) tokens s e (right (is_branch m path p) _ r) in
    none_and _ _ (false_from_ne_true _ (λ h. on_branch m row path p paths (served_valid m row tuple s) h open_branch below))
    (all_right _ (branches m path p) paths below)
refuted_paths m format earlier tuple row (path ∷ paths) (ByRule k ∷ tokens) s e r =
    none_and _ _ (false_from_ne_true _ (λ h. rule_leaf m row path k m.rules h (right _ _ (left _ _ (served_valid m row tuple s))) (left (is_rule_leaf m path k) _ r)))
    (refuted_paths m format earlier tuple row paths tokens s e (right (is_rule_leaf m path k) _ r))
refuted_paths m format earlier tuple row (path ∷ paths) (ByNegative ∷ tokens) s e r =
    none_and _ _
    (false_from_ne_true _ (λ h. none_outside (is_assigned tuple) (is_negative_at m path) (is_negative_at m row)
    (param_numbers m) (λ p is. negative_row m row path p h is) (right _ _ s) (left (is_negative_leaf m tuple path) _ r)))
    (refuted_paths m format earlier tuple row paths tokens s e (right (is_negative_leaf m tuple path) _ r))
refuted_paths m format earlier tuple row (path ∷ paths) (ByOmission n ∷ tokens) s e r =
    none_and _ _ (false_from_ne_true _ (λ h. on_omission m format earlier tuple row path n s e h (left (is_omission_leaf m format earlier tuple path n) _ r)))
    (refuted_paths m format earlier tuple row paths tokens s e (right (is_omission_leaf m format earlier tuple path n) _ r))

-- nor does it serve the tuples of a proof whose token lists refute
pub each_unserved : (m : ModelView) (format : ℕ) (row : List (Option ℕ)) (earlier : List (List (Option ℕ))) (n : ℕ) (omissions : List (List (Option ℕ) × List Token))
    → list_all (λ other. not (serves m row other)) earlier ≡ true → first_unrefuted m format earlier n omissions ≡ None
    → All (λ omission. serves m row omission.0 ≡ false) omissions
each_unserved m format row earlier n [] e none = All-nil (λ omission. serves m row omission.0 ≡ false)
each_unserved m format row earlier n (omission ∷ omissions) e none =
    at (refutes m format earlier omission.0 omission.1) refl none (each_unserved m format row (earlier ++ omission.0 ∷ []) (n + 1) omissions)
  where
    at : (b : Bool) → refutes m format earlier omission.0 omission.1 ≡ b
        → cond b (first_unrefuted m format (earlier ++ omission.0 ∷ []) (n + 1) omissions) (Some n) ≡ None
        → (list_all (λ other. not (serves m row other)) (earlier ++ omission.0 ∷ []) ≡ true → first_unrefuted m format (earlier ++ omission.0 ∷ []) (n + 1) omissions ≡ None
        → All (λ omission. serves m row omission.0 ≡ false) omissions) → All (λ omission. serves m row omission.0 ≡ false) (omission ∷ omissions)
    at false is none later = absurd (none-some n (sym none))
    at true is none later =
        let unserved = false_from_ne_true (serves m row omission.0)
        (λ s. not_true (contains row omission.0) (left _ _ (refuted_paths m format earlier omission.0 row (omission.0 ∷ []) omission.1 s e is)) (served_contains m row omission.0 s)) in
        All-cons (λ omission. serves m row omission.0 ≡ false) omission omissions unserved
        (later (all_append (λ other. not (serves m row other)) earlier (omission.0 ∷ []) e (none_and _ true unserved refl)) none)

-- so no row serves any tuple of such a proof
pub refuted : RefutedAreUnserved
refuted m format omissions refuting k d within row =
    each_unserved m format row [] 1 omissions refl (nothing (first_unrefuted m format [] 1 omissions) refuting) k d within
  where
    nothing : (o : Option ℕ) → is_none o ≡ true → o ≡ None
    nothing None h = refl
    nothing (Some n) h = absurd (false≢true h)
