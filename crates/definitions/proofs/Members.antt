-- The members of a list, by recursion on it.
use Rattle.std.proofs.Common.{◌≡◌, ℕ, zero, suc, ◌+◌, ◌<◌, ◌≤◌, Bool, true, false, cond, List, [], ◌∷◌, ◌++◌, map}
use Rattle.std.proofs.Common.{length, get_or, All, Option, Some, None, ◌⊎◌, inl, inr, ◌∙◌, sym, ap, subst, refl, arith}
use Rattle.std.specs.Prelude.{Contains, ◌==◌, find, filter_map, slice_get}
use Rattle.std.specs.List.{cons_option, filter, flat_map, list_any, list_all, range_with_len}
use Rattle.std.proofs.lemmas.Bool.{false≢true, cases_eq, eq-eqb, eqb-true, and_parts, and_from, or_cases, or_left, or_right}
use Rattle.std.proofs.lemmas.Option.{none-some, same_Some}
use Rattle.definitions.specs.believed.Demand.{is_among}

-- x is one of the list
abbrev pub Has : {X : Type 0} → List X → X → Type 0
Has [] x = ⊥
Has (y ∷ xs) x = (y ≡ x) ⊎ Has xs x

pub has_contained : {X : Type 0} (xs : List X) (x : X) → Contains xs x → Has xs x
has_contained {X} xs x contained = at xs contained.0 contained.1 contained.2
  where
    at : (xs : List X) (k : ℕ) → k < length xs → get_or xs k x ≡ x → Has xs x
    at [] k within is = absurd (omega arith)
    at (y ∷ xs) zero within is = inl is
    at (y ∷ xs) (suc k) within is = inr (at xs k (omega arith) is)

pub contains_member : {X : Type 0} (xs : List X) (x : X) → Has xs x → Contains xs x
contains_member [] x has = absurd has
contains_member (y ∷ xs) x (inl is) = (0, omega arith, is)
contains_member (y ∷ xs) x (inr has) = let later = contains_member xs x has in (suc later.0, omega arith, later.2)

-- what holds of each member
pub all_members : {X : Type 0} (P : X → Type 0) (xs : List X) → ((x : X) → Has xs x → P x) → All P xs
all_members P [] each k d within = absurd (omega arith)
all_members P (y ∷ xs) each zero d within = each y (inl refl)
all_members P (y ∷ xs) each (suc k) d within = all_members P xs (λ x has. each x (inr has)) k d (omega arith)

pub member_of_all : {X : Type 0} (P : X → Type 0) (xs : List X) (x : X) → All P xs → Has xs x → P x
member_of_all P xs x all has =
    let at = contains_member xs x has in
    subst P at.2 (all at.0 x at.1)

-- what stands at a place is a member
pub has_place : {X : Type 0} (xs : List X) (i : ℕ) (x : X) → slice_get xs i ≡ Some x → Has xs x
has_place [] i x here = absurd (none-some x here)
has_place (y ∷ xs) zero x here = inl (same_Some y x here)
has_place (y ∷ xs) (suc i) x here = inr (has_place xs i x here)

-- members of a list that is joined, mapped or filtered
pub has_left : {X : Type 0} (xs ys : List X) (x : X) → Has xs x → Has (xs ++ ys) x
has_left [] ys x has = absurd has
has_left (z ∷ xs) ys x (inl is) = inl is
has_left (z ∷ xs) ys x (inr has) = inr (has_left xs ys x has)

pub has_right : {X : Type 0} (xs ys : List X) (x : X) → Has ys x → Has (xs ++ ys) x
has_right [] ys x has = has
has_right (z ∷ xs) ys x has = inr (has_right xs ys x has)

pub of_append : {X : Type 0} (xs ys : List X) (x : X) → Has (xs ++ ys) x → Has xs x ⊎ Has ys x
of_append [] ys x has = inr has
of_append (z ∷ xs) ys x (inl is) = inl (inl is)
of_append (z ∷ xs) ys x (inr has) = elim (of_append xs ys x has) [ inl here ↦ inl (inr here) | inr there ↦ inr there ]

pub has_map : {X Y : Type 0} (f : X → Y) (xs : List X) (x : X) → Has xs x → Has (map f xs) (f x)
has_map f [] x has = absurd has
has_map f (z ∷ xs) x (inl is) = inl (ap f is)
has_map f (z ∷ xs) x (inr has) = inr (has_map f xs x has)

pub of_map : {X Y : Type 0} (f : X → Y) (xs : List X) (y : Y) → Has (map f xs) y → (x : X) × Has xs x × (f x ≡ y)
of_map f [] y has = absurd has
of_map f (z ∷ xs) y (inl is) = (z, inl refl, is)
of_map f (z ∷ xs) y (inr has) = let later = of_map f xs y has in (later.0, inr later.1, later.2)

pub has_flat : {X Y : Type 0} (f : X → List Y) (xs : List X) (x : X) (y : Y) → Has xs x → Has (f x) y → Has (flat_map f xs) y
has_flat f [] x y has own = absurd has
has_flat f (z ∷ xs) x y (inl is) own = has_left (f z) (flat_map f xs) y (subst (λ w. Has (f w) y) (sym is) own)
has_flat f (z ∷ xs) x y (inr has) own = has_right (f z) (flat_map f xs) y (has_flat f xs x y has own)

pub of_flat : {X Y : Type 0} (f : X → List Y) (xs : List X) (y : Y) → Has (flat_map f xs) y → (x : X) × Has xs x × Has (f x) y
of_flat f [] y has = absurd has
of_flat f (z ∷ xs) y has =
    elim (of_append (f z) (flat_map f xs) y has) [
      | inl here ↦ (z, inl refl, here)
      | inr there ↦ let later = of_flat f xs y there in (later.0, inr later.1, later.2)
    ]

pub has_filter : {X : Type 0} (test : X → Bool) (xs : List X) (x : X) → Has xs x → test x ≡ true → Has (filter test xs) x
has_filter test [] x has passes = absurd has
has_filter test (y ∷ xs) x (inl is) passes =
    let here : test y ≡ true = ap test is ∙ passes in
    rw here (inl is)
has_filter test (y ∷ xs) x (inr has) passes = kept (test y) y (filter test xs) x (has_filter test xs x has passes)
  where
    kept : {X : Type 0} (b : Bool) (y : X) (xs : List X) (x : X) → Has xs x → Has (cond b (y ∷ xs) xs) x
    kept true y xs x has = inr has
    kept false y xs x has = has

pub of_filter : {X : Type 0} (test : X → Bool) (xs : List X) (x : X) → Has (filter test xs) x → Has xs x × (test x ≡ true)
of_filter test [] x has = absurd has
of_filter test (y ∷ xs) x has = at (test y) refl has (of_filter test xs x)
  where
    at : (b : Bool) → test y ≡ b → Has (cond b (y ∷ filter test xs) (filter test xs)) x → (Has (filter test xs) x → Has xs x × (test x ≡ true))
        → Has (y ∷ xs) x × (test x ≡ true)
    at true is (inl same) later = (inl same, ap test (sym same) ∙ is)
    at true is (inr has) later = (inr (later has).0, (later has).1)
    at false is has later = (inr (later has).0, (later has).1)

pub has_given : {X Y : Type 0} (h : X → Option Y) (xs : List X) (x : X) (y : Y) → Has xs x → h x ≡ Some y → Has (filter_map h xs) y
has_given h [] x y has gives = absurd has
has_given h (z ∷ xs) x y (inl is) gives =
    let here : h z ≡ Some y = ap h is ∙ gives in
    rw here (inl refl)
has_given h (z ∷ xs) x y (inr has) gives = kept (h z) (filter_map h xs) y (has_given h xs x y has gives)
  where
    kept : {Y : Type 0} (o : Option Y) (ys : List Y) (y : Y) → Has ys y → Has (cons_option o ys) y
    kept None ys y has = has
    kept (Some z) ys y has = inr has

pub of_given : {X Y : Type 0} (h : X → Option Y) (xs : List X) (y : Y) → Has (filter_map h xs) y → (x : X) × Has xs x × (h x ≡ Some y)
of_given h [] y has = absurd has
of_given {X} {Y} h (z ∷ xs) y has = at (h z) refl has (of_given h xs y)
  where
    at : (o : Option Y) → h z ≡ o → Has (cons_option o (filter_map h xs)) y → (Has (filter_map h xs) y → (x : X) × Has xs x × (h x ≡ Some y))
        → (x : X) × Has (z ∷ xs) x × (h x ≡ Some y)
    at None is has later = let found = later has in (found.0, inr found.1, found.2)
    at (Some w) is (inl same) later = (z, inl refl, is ∙ ap Some same)
    at (Some w) is (inr has) later = let found = later has in (found.0, inr found.1, found.2)

-- tests of all or some members
pub any_member : {X : Type 0} (test : X → Bool) (xs : List X) (x : X) → Has xs x → test x ≡ true → list_any test xs ≡ true
any_member test [] x has passes = absurd has
any_member test (y ∷ xs) x (inl is) passes = or_left (test y) (list_any test xs) (ap test is ∙ passes)
any_member test (y ∷ xs) x (inr has) passes = or_right (test y) (list_any test xs) (any_member test xs x has passes)

pub of_any : {X : Type 0} (test : X → Bool) (xs : List X) → list_any test xs ≡ true → (x : X) × Has xs x × (test x ≡ true)
of_any test [] some = absurd (false≢true some)
of_any test (y ∷ xs) some =
    elim (or_cases (test y) (list_any test xs) some) [
      | inl here ↦ (y, inl refl, here)
      | inr there ↦ let later = of_any test xs there in (later.0, inr later.1, later.2)
    ]

pub all_pass : {X : Type 0} (test : X → Bool) (xs : List X) → ((x : X) → Has xs x → test x ≡ true) → list_all test xs ≡ true
all_pass test [] each = refl
all_pass test (y ∷ xs) each = and_from (test y) (list_all test xs) (each y (inl refl)) (all_pass test xs (λ x has. each x (inr has)))

pub passes_all : {X : Type 0} (test : X → Bool) (xs : List X) (x : X) → list_all test xs ≡ true → Has xs x → test x ≡ true
passes_all test [] x all has = absurd has
passes_all test (y ∷ xs) x all (inl is) = ap test (sym is) ∙ (and_parts (test y) (list_all test xs) all).0
passes_all test (y ∷ xs) x all (inr has) = passes_all test xs x (and_parts (test y) (list_all test xs) all).1 has

-- two tests that follow from each other
pub same_answer : (a b : Bool) → (a ≡ true → b ≡ true) → (b ≡ true → a ≡ true) → a ≡ b
same_answer true b f g = sym (f refl)
same_answer false true f g = g refl
same_answer false false f g = refl

-- what is found
pub of_find : {X : Type 0} (test : X → Bool) (xs : List X) (x : X) → find test xs ≡ Some x → Has xs x × (test x ≡ true)
of_find {X} test [] x found = absurd (none-some x found)
of_find test (y ∷ xs) x found = at (test y) refl found (of_find test xs x)
  where
    at : (b : Bool) → test y ≡ b → cond b (Some y) (find test xs) ≡ Some x → (find test xs ≡ Some x → Has xs x × (test x ≡ true))
        → Has (y ∷ xs) x × (test x ≡ true)
    at true is found later = let here = same_Some y x found in (inl here, ap test (sym here) ∙ is)
    at false is found later = (inr (later found).0, (later found).1)

pub find_some : {X : Type 0} (test : X → Bool) (xs : List X) (x : X) → Has xs x → test x ≡ true → (y : X) × (find test xs ≡ Some y)
find_some test [] x has passes = absurd has
find_some {X} test (z ∷ xs) x has passes = at (test z) refl has (λ later. find_some test xs x later passes)
  where
    at : (b : Bool) → test z ≡ b → Has (z ∷ xs) x → (Has xs x → (y : X) × (find test xs ≡ Some y)) → (y : X) × (cond b (Some z) (find test xs) ≡ Some y)
    at true is has later = (z, refl)
    at false is (inl same) later = absurd (false≢true (sym is ∙ ap test same ∙ passes))
    at false is (inr has) later = later has

-- numbers
pub among_has : (ns : List ℕ) (n : ℕ) → Has ns n → is_among ns n ≡ true
among_has ns n has = any_member (λ k. k == n) ns n has (eq-eqb n n refl)

pub of_among : (ns : List ℕ) (n : ℕ) → is_among ns n ≡ true → Has ns n
of_among ns n among =
    let found = of_any (λ k. k == n) ns among in
    subst (Has ns) (eqb-true found.0 n found.2) found.1

pub has_range : (p n x : ℕ) → p ≤ x → x < p + n → Has (range_with_len p n) x
has_range p zero x least most = absurd (omega arith)
has_range p (suc n) x least most =
    elim (cases_eq p x) [ inl same ↦ inl same | inr apart ↦ inr (has_range (p + 1) n x (omega (arith, apart)) (omega arith)) ]

pub of_range : (p n x : ℕ) → Has (range_with_len p n) x → (p ≤ x) × (x < p + n)
of_range p zero x has = absurd has
of_range p (suc n) x (inl same) = (omega arith, omega arith)
of_range p (suc n) x (inr has) = let later = of_range (p + 1) n x has in (omega arith, omega arith)
