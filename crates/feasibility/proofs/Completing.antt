-- The first completion of a partial row that meets a test, over plain lists.
use Rattle.std.proofs.Common.{◌≡◌, ℕ, zero, suc, ◌<◌, Bool, true, false, ◌&&◌, ◌||◌, ◌==◌, cond, if◌then◌else◌, List, [], ◌∷◌, map, length, Option}
use Rattle.std.proofs.Common.{Some, None, is_some, unwrap_or, find, get_or, set, ◌⊎◌, ◌∙◌, sym, ap, subst, refl, arith, inl, inr}
use Rattle.std.specs.Option.{option_or, option_map}
use Rattle.std.specs.List.{filter, flat_map}
use Rattle.std.proofs.lemmas.Bool.{false≢true, eqb-true, eq-eqb}
use Rattle.std.proofs.lemmas.List.Folds.{find-append}
use Rattle.value_text.proofs.ListLemmas.{is_some-map, none_of, option_or-None}
use Rattle.cov_model.specs.believed.Rows.{contains, is_assigned}
use Rattle.definitions.specs.believed.Demand.{is_among}
use Rattle.definitions.specs.believed.Completion.{cell_values, completions}
use Rattle.definitions.proofs.PartialRowLemmas.{among_head, among_tail}
use Rattle.feasibility.specs.Path.{filled}

-- the first result, of those of a list of values, that isn't None
abbrev pub tried : {X : Type 0} → (ℕ → Option X) → List ℕ → Option X
tried f [] = None
tried f (v ∷ values) = option_or (f v) (tried f values)

pub tried_same : {X : Type 0} (f g : ℕ → Option X) (values : List ℕ) → ((v : ℕ) → is_among values v ≡ true → f v ≡ g v) → tried f values ≡ tried g values
tried_same f g [] same = refl
tried_same f g (v ∷ values) same =
    ap (λ o. option_or o (tried f values)) (same v (among_head v values))
    ∙ ap (λ o. option_or (g v) o) (tried_same f g values (λ w listed. same w (among_tail v w values listed)))

pub tried_none : {X : Type 0} (f : ℕ → Option X) (values : List ℕ) → ((v : ℕ) → is_among values v ≡ true → f v ≡ None) → tried f values ≡ None
tried_none f [] none = refl
tried_none f (v ∷ values) none =
    ap (λ o. option_or o (tried f values)) (none v (among_head v values)) ∙ tried_none f values (λ w listed. none w (among_tail v w values listed))

-- all give a result, or none does
pub tried_first : {X : Type 0} (f : ℕ → Option X) (v : ℕ) (values : List ℕ) → ((w : ℕ) → is_some (f w) ≡ is_some (f v)) → tried f (v ∷ values) ≡ f v
tried_first f v values alike = by_case (f v) (tried f values) (λ is. tried_none f values (λ w listed. none_of (f w) (alike w ∙ ap is_some is)))
  where
    by_case : {X : Type 0} (o rest : Option X) → (o ≡ None → rest ≡ None) → option_or o rest ≡ o
    by_case (Some x) rest h = refl
    by_case None rest h = h refl

or_same : {X : Type 0} (o : Option X) → option_or o o ≡ o
or_same (Some x) = refl
or_same None = refl

-- of the values that equal one
pub tried_equal : {X : Type 0} (f : ℕ → Option X) (w : ℕ) (values : List ℕ)
    → tried f (filter (λ v. v == w) values) ≡ (if is_among values w then f w else None)
tried_equal f w [] = refl
tried_equal f w (v ∷ values) = by_case (v == w) (is_among values w) (eqb-true v w) (tried_equal f w values)
  where
    inner : {X : Type 0} (f : ℕ → Option X) (w : ℕ) (listed : Bool) (rest : Option X) → rest ≡ (if listed then f w else None) → option_or (f w) rest ≡ f w
    inner f w true rest is = ap (option_or (f w)) is ∙ or_same (f w)
    inner f w false rest is = ap (option_or (f w)) is ∙ option_or-None (f w)

    by_case : (equal listed : Bool) → (equal ≡ true → v ≡ w) → tried f (filter (λ v. v == w) values) ≡ (if listed then f w else None)
        → tried f (cond equal (v ∷ filter (λ v. v == w) values) (filter (λ v. v == w) values)) ≡ (if equal || listed then f w else None)
    by_case true listed same rest =
        ap (λ u. option_or (f u) (tried f (filter (λ v. v == w) values))) (same refl) ∙ inner f w listed (tried f (filter (λ v. v == w) values)) rest
    by_case false listed same rest = rest

pub tried_mapped : {X Y : Type 0} (h : X → Y) (f : ℕ → Option X) (values : List ℕ) → option_map h (tried f values) ≡ tried (λ v. option_map h (f v)) values
tried_mapped h f [] = refl
tried_mapped h f (v ∷ values) = by_case (f v) ∙ ap (option_or (option_map h (f v))) (tried_mapped h f values)
  where
    by_case : (o : Option _) → option_map h (option_or o (tried f values)) ≡ option_or (option_map h o) (option_map h (tried f values))
    by_case (Some x) = refl
    by_case None = refl

find_mapped : {X Y : Type 0} (test : Y → Bool) (h : X → Y) (xs : List X) → find test (map h xs) ≡ option_map h (find (λ x. test (h x)) xs)
find_mapped test h [] = refl
find_mapped test h (x ∷ xs) = by_case (test (h x)) (find_mapped test h xs)
  where
    by_case : (b : Bool) → find test (map h xs) ≡ option_map h (find (λ x. test (h x)) xs)
        → cond b (Some (h x)) (find test (map h xs)) ≡ option_map h (cond b (Some x) (find (λ x. test (h x)) xs))
    by_case true rest = refl
    by_case false rest = rest

find_flat : {Y : Type 0} (test : Y → Bool) (g : ℕ → List Y) (values : List ℕ) → find test (flat_map g values) ≡ tried (λ v. find test (g v)) values
find_flat test g [] = refl
find_flat test g (v ∷ values) = find-append test (g v) (flat_map g values) ∙ ap (option_or (find test (g v))) (find_flat test g values)

pub find_same : {X : Type 0} (p q : X → Bool) (xs : List X) → ((x : X) → p x ≡ q x) → find p xs ≡ find q xs
find_same p q [] same = refl
find_same p q (x ∷ xs) same = ap (λ b. cond b (Some x) (find p xs)) (same x) ∙ ap (λ o. cond (q x) (Some x) o) (find_same p q xs same)

-- the first completion of a partial row that meets a test
abbrev pub first_of : List (List ℕ) → List (Option ℕ) → (List (Option ℕ) → Bool) → Option (List (Option ℕ))
first_of lists cells test = find test (completions lists cells)

-- with a value in front
abbrev pub first_with : List (List ℕ) → List (Option ℕ) → (List (Option ℕ) → Bool) → ℕ → Option (List (Option ℕ))
first_with rest cells test v = option_map (λ row. Some v ∷ row) (first_of rest cells (λ row. test (Some v ∷ row)))

pub first_of-cons : (values : List ℕ) (rest : List (List ℕ)) (cell : Option ℕ) (cells : List (Option ℕ)) (test : List (Option ℕ) → Bool)
    → first_of (values ∷ rest) (cell ∷ cells) test ≡ tried (first_with rest cells test) (cell_values values cell)
first_of-cons values rest cell cells test =
    find_flat test (λ v. map (λ row. Some v ∷ row) (completions rest cells)) (cell_values values cell)
    ∙ tried_same (λ v. find test (map (λ row. Some v ∷ row) (completions rest cells))) (first_with rest cells test) (cell_values values cell)
    (λ v listed. find_mapped test (λ row. Some v ∷ row) (completions rest cells))

-- where the first parameter has a value
pub first_of-given : (values : List ℕ) (rest : List (List ℕ)) (w : ℕ) (cells : List (Option ℕ)) (test : List (Option ℕ) → Bool)
    → first_of (values ∷ rest) (Some w ∷ cells) test ≡ (if is_among values w then first_with rest cells test w else None)
first_of-given values rest w cells test = first_of-cons values rest (Some w) cells test ∙ tried_equal (first_with rest cells test) w values

-- the test doesn't depend on the value of a parameter
abbrev pub IsFree : (List (Option ℕ) → Bool) → ℕ → Type 0
IsFree test p = (row : List (Option ℕ)) (a b : Option ℕ) → test (set row p a) ≡ test (set row p b)

-- where the first parameter has no value and the test doesn't depend on it
first_of-free : (v : ℕ) (values : List ℕ) (rest : List (List ℕ)) (cells : List (Option ℕ)) (test : List (Option ℕ) → Bool) → IsFree test 0
    → first_of ((v ∷ values) ∷ rest) (None ∷ cells) test ≡ first_with rest cells test v
first_of-free v values rest cells test free =
    first_of-cons (v ∷ values) rest None cells test
    ∙ tried_first (first_with rest cells test) v values (λ w.
    is_some-map (λ row. Some w ∷ row) (first_of rest cells (λ row. test (Some w ∷ row)))
    ∙ ap is_some (find_same (λ row. test (Some w ∷ row)) (λ row. test (Some v ∷ row)) (completions rest cells) (λ row. free (None ∷ row) (Some w) (Some v)))
    ∙ sym (is_some-map (λ row. Some v ∷ row) (first_of rest cells (λ row. test (Some v ∷ row)))))

-- the parameters before one have values or don't matter
abbrev pub Decided : (List (Option ℕ) → Bool) → List (Option ℕ) → ℕ → Type 0
Decided test cells p = (q : ℕ) → q < p → (is_assigned cells q ≡ true) ⊎ IsFree test q

behind : (test : List (Option ℕ) → Bool) (cell : Option ℕ) (cells : List (Option ℕ)) (p w : ℕ) → Decided test (cell ∷ cells) (suc p)
    → Decided (λ row. test (Some w ∷ row)) cells p
behind test cell cells p w decided q before =
    elim (decided (suc q) (omega arith)) [ inl assigned ↦ inl assigned | inr free ↦ inr (λ row a b. free (Some w ∷ row) a b) ]

-- the first completion is that of the first value of a parameter that leads to one
pub first_of-branch : (lists : List (List ℕ)) (cells : List (Option ℕ)) (test : List (Option ℕ) → Bool) (p : ℕ)
    → length cells ≡ length lists → p < length cells → get_or cells p None ≡ None → Decided test cells p
    → first_of lists cells test ≡ tried (λ v. first_of lists (set cells p (Some v)) test) (get_or lists p [])
first_of-branch lists [] test p long within unassigned decided = absurd (omega arith)
first_of-branch [] (cell ∷ cells) test p long within unassigned decided = absurd (omega arith)
first_of-branch (values ∷ rest) (Some w ∷ cells) test zero long within unassigned decided = absurd (some_none w unassigned)
  where
    some_none : (w : ℕ) → Some w ≡ None → ⊥
    some_none w e = cc
first_of-branch (values ∷ rest) (None ∷ cells) test zero long within unassigned decided =
    first_of-cons values rest None cells test
    ∙ tried_same (first_with rest cells test) (λ v. first_of (values ∷ rest) (Some v ∷ cells) test) values (λ v listed.
    sym (first_of-given values rest v cells test ∙ ap (λ b. if b then first_with rest cells test v else None) listed))
first_of-branch (values ∷ rest) (Some w ∷ cells) test (suc p) long within unassigned decided =
    let inner = first_of-branch rest cells (λ row. test (Some w ∷ row)) p (omega arith) (omega arith) unassigned (behind test (Some w) cells p w decided) in
    first_of-given values rest w cells test
    ∙ by_case (is_among values w) inner
    ∙ sym (tried_same (λ v. first_of (values ∷ rest) (Some w ∷ set cells p (Some v)) test)
    (λ v. if is_among values w then first_with rest (set cells p (Some v)) test w else None) (get_or rest p [])
    (λ v listed. first_of-given values rest w (set cells p (Some v)) test))
  where
    by_case : (listed : Bool)
        → first_of rest cells (λ row. test (Some w ∷ row)) ≡ tried (λ v. first_of rest (set cells p (Some v)) (λ row. test (Some w ∷ row))) (get_or rest p [])
        → (if listed then first_with rest cells test w else None)
        ≡ tried (λ v. if listed then first_with rest (set cells p (Some v)) test w else None) (get_or rest p [])
    by_case true inner =
        ap (option_map (λ row. Some w ∷ row)) inner
        ∙ tried_mapped (λ row. Some w ∷ row) (λ v. first_of rest (set cells p (Some v)) (λ row. test (Some w ∷ row))) (get_or rest p [])
    by_case false inner = sym (tried_none (λ v. None) (get_or rest p []) (λ v listed. refl))
first_of-branch (values ∷ rest) (None ∷ cells) test (suc p) long within unassigned decided =
    elim (decided 0 (omega arith)) [
      | inl assigned ↦ absurd (false≢true assigned)
      | inr free ↦ by_values values free (λ u. first_of-branch rest cells (λ row. test (Some u ∷ row)) p (omega arith) (omega arith) unassigned
          (behind test None cells p u decided))
    ]
  where
    by_values : (values : List ℕ) → IsFree test 0
        → ((u : ℕ) → first_of rest cells (λ row. test (Some u ∷ row)) ≡ tried (λ v. first_of rest (set cells p (Some v)) (λ row. test (Some u ∷ row)))
        (get_or rest p []))
        → first_of (values ∷ rest) (None ∷ cells) test ≡ tried (λ v. first_of (values ∷ rest) (None ∷ set cells p (Some v)) test) (get_or rest p [])
    by_values [] free inner =
        first_of-cons [] rest None cells test
        ∙ sym (tried_none (λ v. first_of ([] ∷ rest) (None ∷ set cells p (Some v)) test) (get_or rest p [])
        (λ v listed. first_of-cons [] rest None (set cells p (Some v)) test))
    by_values (u ∷ values) free inner =
        first_of-free u values rest cells test free
        ∙ ap (option_map (λ row. Some u ∷ row)) (inner u)
        ∙ tried_mapped (λ row. Some u ∷ row) (λ v. first_of rest (set cells p (Some v)) (λ row. test (Some u ∷ row))) (get_or rest p [])
        ∙ sym (tried_same (λ v. first_of ((u ∷ values) ∷ rest) (None ∷ set cells p (Some v)) test) (λ v. first_with rest (set cells p (Some v)) test u)
        (get_or rest p [])
        (λ v listed. first_of-free u values rest (set cells p (Some v)) test free))

-- the row is a completion of the partial row
abbrev pub IsCompletion : List (List ℕ) → List (Option ℕ) → List (Option ℕ) → Type 0
IsCompletion [] [] [] = Unit {0}
IsCompletion (values ∷ rest) (cell ∷ cells) (Some v ∷ row) = (is_among (cell_values values cell) v ≡ true) × IsCompletion rest cells row
IsCompletion _ _ _ = ⊥

-- no completion meets the test
pub first_of-none : (lists : List (List ℕ)) (cells : List (Option ℕ)) (test : List (Option ℕ) → Bool) → length cells ≡ length lists
    → ((row : List (Option ℕ)) → IsCompletion lists cells row → test row ≡ false) → first_of lists cells test ≡ None
first_of-none [] [] test long none = ap (λ (b : Bool). cond b (Some []) None) (none [] tt)
first_of-none [] (cell ∷ cells) test long none = absurd (omega arith)
first_of-none (values ∷ rest) [] test long none = absurd (omega arith)
first_of-none (values ∷ rest) (cell ∷ cells) test long none =
    first_of-cons values rest cell cells test
    ∙ tried_none (first_with rest cells test) (cell_values values cell)
    (λ v listed. ap (option_map (λ row. Some v ∷ row)) (first_of-none rest cells (λ row. test (Some v ∷ row)) (omega arith)
    (λ row is. none (Some v ∷ row) (listed, is))))

some_or : {X : Type 0} (o rest : Option X) → is_some o ≡ true → is_some (option_or o rest) ≡ true
some_or (Some x) rest h = refl
some_or None rest h = absurd (false≢true h)

or_some : {X : Type 0} (o rest : Option X) → is_some rest ≡ true → is_some (option_or o rest) ≡ true
or_some (Some x) rest h = refl
or_some None rest h = h

tried_some : {X : Type 0} (f : ℕ → Option X) (v : ℕ) (values : List ℕ) → is_among values v ≡ true → is_some (f v) ≡ true → is_some (tried f values) ≡ true
tried_some f v [] listed some = absurd (false≢true listed)
tried_some f v (w ∷ values) listed some = by_case (w == v) (eqb-true w v) listed (λ h. tried_some f v values h some)
  where
    by_case : (equal : Bool) → (equal ≡ true → w ≡ v) → (equal || is_among values v) ≡ true → (is_among values v ≡ true → is_some (tried f values) ≡ true)
        → is_some (option_or (f w) (tried f values)) ≡ true
    by_case true same h later = some_or (f w) (tried f values) (ap (λ u. is_some (f u)) (same refl) ∙ some)
    by_case false same h later = or_some (f w) (tried f values) (later h)

-- some completion meets it
pub first_of-some : (lists : List (List ℕ)) (cells row : List (Option ℕ)) (test : List (Option ℕ) → Bool)
    → IsCompletion lists cells row → test row ≡ true → is_some (first_of lists cells test) ≡ true
first_of-some [] [] [] test is meets = ap (λ (b : Bool). is_some {T = List (Option ℕ)} (cond b (Some []) None)) meets
first_of-some (values ∷ rest) (cell ∷ cells) (Some v ∷ row) test is meets =
    ap is_some (first_of-cons values rest cell cells test)
    ∙ tried_some (first_with rest cells test) v (cell_values values cell) is.0
    (is_some-map (λ row. Some v ∷ row) (first_of rest cells (λ row. test (Some v ∷ row)))
    ∙ first_of-some rest cells row (λ row. test (Some v ∷ row)) is.1 meets)
first_of-some [] [] (x ∷ row) test is meets = absurd is
first_of-some [] (cell ∷ cells) row test is meets = absurd is
first_of-some (values ∷ rest) [] row test is meets = absurd is
first_of-some (values ∷ rest) (cell ∷ cells) [] test is meets = absurd is
first_of-some (values ∷ rest) (cell ∷ cells) (None ∷ row) test is meets = absurd is

-- each cell can have a value
abbrev pub CanBeFilled : List ℕ → Option ℕ → Type 0
CanBeFilled values None = 0 < length values
CanBeFilled values (Some v) = is_among values v ≡ true

is_among-equal : (v : ℕ) (values : List ℕ) → is_among values v ≡ true → is_among (filter (λ w. w == v) values) v ≡ true
is_among-equal v [] listed = listed
is_among-equal v (w ∷ values) listed = by_case (w == v) refl listed (is_among-equal v values)
  where
    by_case : (equal : Bool) → (w == v) ≡ equal → (equal || is_among values v) ≡ true
        → (is_among values v ≡ true → is_among (filter (λ u. u == v) values) v ≡ true)
        → is_among (cond equal (w ∷ filter (λ u. u == v) values) (filter (λ u. u == v) values)) v ≡ true
    by_case true is h later = ap (λ (b : Bool). b || is_among (filter (λ u. u == v) values) v) is
    by_case false is h later = later h

-- the filled row is a completion
pub filled_is_completion : (lists : List (List ℕ)) (cells : List (Option ℕ)) → length cells ≡ length lists
    → ((p : ℕ) → p < length lists → CanBeFilled (get_or lists p []) (get_or cells p None)) → IsCompletion lists cells (filled lists cells)
filled_is_completion [] [] long can = tt
filled_is_completion [] (cell ∷ cells) long can = absurd (omega arith)
filled_is_completion (values ∷ rest) [] long can = absurd (omega arith)
filled_is_completion ([] ∷ rest) (None ∷ cells) long can = absurd (omega (arith, can 0 (omega arith)))
filled_is_completion ((v ∷ values) ∷ rest) (None ∷ cells) long can =
    (among_head v values, filled_is_completion rest cells (omega arith) (λ p within. can (suc p) (omega arith)))
filled_is_completion (values ∷ rest) (Some w ∷ cells) long can =
    (is_among-equal w values (can 0 (omega arith)), filled_is_completion rest cells (omega arith) (λ p within. can (suc p) (omega arith)))

some_or_first : {X : Type 0} (x : X) (o rest : Option X) → o ≡ Some x → option_or o rest ≡ Some x
some_or_first x o rest is = ap (λ (o : Option _). option_or o rest) is

-- and the first one, where it meets the test
pub first_of-filled : (lists : List (List ℕ)) (cells : List (Option ℕ)) (test : List (Option ℕ) → Bool) → length cells ≡ length lists
    → ((p : ℕ) → p < length lists → CanBeFilled (get_or lists p []) (get_or cells p None)) → test (filled lists cells) ≡ true
    → first_of lists cells test ≡ Some (filled lists cells)
first_of-filled [] [] test long can meets = ap (λ (b : Bool). cond b (Some []) None) meets
first_of-filled [] (cell ∷ cells) test long can meets = absurd (omega arith)
first_of-filled (values ∷ rest) [] test long can meets = absurd (omega arith)
first_of-filled ([] ∷ rest) (None ∷ cells) test long can meets = absurd (omega (arith, can 0 (omega arith)))
first_of-filled ((v ∷ values) ∷ rest) (None ∷ cells) test long can meets =
    first_of-cons (v ∷ values) rest None cells test
    ∙ some_or_first (Some v ∷ filled rest cells) (first_with rest cells test v) (tried (first_with rest cells test) values)
    (ap (option_map (λ row. Some v ∷ row)) (first_of-filled rest cells (λ row. test (Some v ∷ row)) (omega arith) (λ p within. can (suc p) (omega arith))
    meets))
first_of-filled (values ∷ rest) (Some w ∷ cells) test long can meets =
    first_of-given values rest w cells test
    ∙ ap (λ (b : Bool). if b then first_with rest cells test w else None) (can 0 (omega arith))
    ∙ ap (option_map (λ row. Some w ∷ row)) (first_of-filled rest cells (λ row. test (Some w ∷ row)) (omega arith) (λ p within. can (suc p) (omega arith))
    meets)

among_equal : (v w : ℕ) (values : List ℕ) → is_among (filter (λ u. u == v) values) w ≡ true → v ≡ w
among_equal v w [] listed = absurd (false≢true listed)
among_equal v w (u ∷ values) listed = by_case (u == v) (eqb-true u v) (among_equal v w values) listed
  where
    here : (equal : Bool) → (equal ≡ true → u ≡ w) → u ≡ v → (is_among (filter (λ u. u == v) values) w ≡ true → v ≡ w)
        → (equal || is_among (filter (λ u. u == v) values) w) ≡ true → v ≡ w
    here true same is later h = sym is ∙ same refl
    here false same is later h = later h

    by_case : (equal : Bool) → (equal ≡ true → u ≡ v) → (is_among (filter (λ u. u == v) values) w ≡ true → v ≡ w)
        → is_among (cond equal (u ∷ filter (λ u. u == v) values) (filter (λ u. u == v) values)) w ≡ true → v ≡ w
    by_case true same later h = here (u == w) (eqb-true u w) (same refl) later h
    by_case false same later h = later h

-- a completion contains the partial row, and gives each parameter one of its values
pub completion_contains : (lists : List (List ℕ)) (cells row : List (Option ℕ)) → IsCompletion lists cells row → contains row cells ≡ true
completion_contains [] [] [] is = refl
completion_contains (values ∷ rest) (None ∷ cells) (Some v ∷ row) is = completion_contains rest cells row is.1
completion_contains (values ∷ rest) (Some w ∷ cells) (Some v ∷ row) is =
    ap (λ (u : ℕ). (u == w) && contains row cells) (sym (among_equal w v values is.0))
    ∙ ap (λ (b : Bool). b && contains row cells) (eq-eqb w w refl) ∙ completion_contains rest cells row is.1
completion_contains [] [] (x ∷ row) is = absurd is
completion_contains [] (cell ∷ cells) row is = absurd is
completion_contains (values ∷ rest) [] row is = absurd is
completion_contains (values ∷ rest) (cell ∷ cells) [] is = absurd is
completion_contains (values ∷ rest) (cell ∷ cells) (None ∷ row) is = absurd is

pub completion_length : (lists : List (List ℕ)) (cells row : List (Option ℕ)) → IsCompletion lists cells row → length row ≡ length lists
completion_length [] [] [] is = refl
completion_length (values ∷ rest) (cell ∷ cells) (Some v ∷ row) is = ap suc (completion_length rest cells row is.1)
completion_length [] [] (x ∷ row) is = absurd is
completion_length [] (cell ∷ cells) row is = absurd is
completion_length (values ∷ rest) [] row is = absurd is
completion_length (values ∷ rest) (cell ∷ cells) [] is = absurd is
completion_length (values ∷ rest) (cell ∷ cells) (None ∷ row) is = absurd is

pub among_filter : (test : ℕ → Bool) (v : ℕ) (values : List ℕ) → is_among (filter test values) v ≡ true → is_among values v ≡ true
among_filter test v [] listed = listed
among_filter test v (w ∷ values) listed = by_case (test w) (among_filter test v values) listed
  where
    here : (equal : Bool) → (is_among (filter test values) v ≡ true → is_among values v ≡ true) → (equal || is_among (filter test values) v) ≡ true
        → (equal || is_among values v) ≡ true
    here true later h = refl
    here false later h = later h

    by_case : (b : Bool) → (is_among (filter test values) v ≡ true → is_among values v ≡ true)
        → is_among (cond b (w ∷ filter test values) (filter test values)) v ≡ true → is_among (w ∷ values) v ≡ true
    by_case true later h = here (w == v) later h
    by_case false later h = among_tail w v values (later h)

pub among_cell_values : (values : List ℕ) (cell : Option ℕ) (v : ℕ) → is_among (cell_values values cell) v ≡ true → is_among values v ≡ true
among_cell_values values None v listed = listed
among_cell_values values (Some w) v listed = among_filter (λ u. u == w) v values listed

-- what a completion gives a parameter
pub record Gives (values : List ℕ) (cell : Option ℕ) : Type 0 where
  pub assigned : is_some cell ≡ true
  pub listed : is_among values (unwrap_or cell 0) ≡ true

pub completion_gives : (lists : List (List ℕ)) (cells row : List (Option ℕ)) (p : ℕ) → IsCompletion lists cells row → p < length lists
    → Gives (get_or lists p []) (get_or row p None)
completion_gives [] [] [] p is within = absurd (omega arith)
completion_gives (values ∷ rest) (cell ∷ cells) (Some v ∷ row) zero is within = record { assigned = refl; listed = among_cell_values values cell v is.0 }
completion_gives (values ∷ rest) (cell ∷ cells) (Some v ∷ row) (suc p) is within = completion_gives rest cells row p is.1 (omega arith)
completion_gives [] [] (x ∷ row) p is within = absurd is
completion_gives [] (cell ∷ cells) row p is within = absurd is
completion_gives (values ∷ rest) [] row p is within = absurd is
completion_gives (values ∷ rest) (cell ∷ cells) [] p is within = absurd is
completion_gives (values ∷ rest) (cell ∷ cells) (None ∷ row) p is within = absurd is

-- so a completion by lists with the same values in another order is one
pub completion_moves : (lists others : List (List ℕ)) (cells row : List (Option ℕ)) → length lists ≡ length others
    → ((p v : ℕ) → is_among (get_or lists p []) v ≡ true → is_among (get_or others p []) v ≡ true) → IsCompletion lists cells row
    → IsCompletion others cells row
completion_moves [] [] [] [] same moves is = tt
completion_moves (values ∷ rest) [] cells row same moves is = absurd (omega arith)
completion_moves [] (values ∷ rest) cells row same moves is = absurd (omega arith)
completion_moves (values ∷ rest) (other ∷ others) (None ∷ cells) (Some v ∷ row) same moves is =
    (moves 0 v is.0, completion_moves rest others cells row (omega arith) (λ p. moves (suc p)) is.1)
completion_moves (values ∷ rest) (other ∷ others) (Some w ∷ cells) (Some v ∷ row) same moves is = (
  subst (λ (u : ℕ). is_among (filter (λ k. k == w) other) u ≡ true) (among_equal w v values is.0)
      (is_among-equal w other (moves 0 w (subst (λ (u : ℕ). is_among values u ≡ true) (sym (among_equal w v values is.0))
      (among_filter (λ k. k == w) v values is.0)))),
  completion_moves rest others cells row (omega arith) (λ p. moves (suc p)) is.1,
)
completion_moves [] [] [] (x ∷ row) same moves is = absurd is
completion_moves [] [] (cell ∷ cells) row same moves is = absurd is
completion_moves (values ∷ rest) (other ∷ others) [] row same moves is = absurd is
completion_moves (values ∷ rest) (other ∷ others) (cell ∷ cells) [] same moves is = absurd is
completion_moves (values ∷ rest) (other ∷ others) (cell ∷ cells) (None ∷ row) same moves is = absurd is
