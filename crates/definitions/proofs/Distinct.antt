-- Lists without repetitions.
use Rattle.std.proofs.Common.{◌≡◌, ℕ, zero, suc, ◌+◌, Bool, true, false, cond, List, [], ◌∷◌, ◌++◌, map, inl, inr, ◌∙◌, sym, ap, subst, refl, arith}
use Rattle.std.specs.List.{filter, flat_map, range_with_len}
use Rattle.definitions.proofs.Members.{Has, of_append, of_map, of_flat, of_filter, of_range}

-- no member comes again
abbrev pub NoRepeats : {X : Type 0} → List X → Type 0
NoRepeats [] = Unit {0}
NoRepeats (x ∷ xs) = (Has xs x → ⊥) × NoRepeats xs

pub no_members : {X : Type 0} (xs : List X) → ((x : X) → Has xs x → ⊥) → xs ≡ []
no_members [] none = refl
no_members (x ∷ xs) none = absurd (none x (inl refl))

-- a list of one thing
pub one_member : {X : Type 0} (a : X) (xs : List X) → NoRepeats xs → Has xs a → ((x : X) → Has xs x → x ≡ a) → xs ≡ a ∷ []
one_member a [] once has only = absurd has
one_member a (x ∷ xs) once has only =
    let first : x ≡ a = only x (inl refl) in
    let rest : xs ≡ [] = no_members xs (λ y later. once.0 (subst (Has xs) (only y (inr later) ∙ sym first) later)) in
    ap (λ y. y ∷ xs) first ∙ ap (λ ys. a ∷ ys) rest

pub repeats_filter : {X : Type 0} (test : X → Bool) (xs : List X) → NoRepeats xs → NoRepeats (filter test xs)
repeats_filter test [] once = tt
repeats_filter test (x ∷ xs) once = at (test x) (λ has. once.0 (of_filter test xs x has).0) (repeats_filter test xs once.1)
  where
    at : (b : Bool) → (Has (filter test xs) x → ⊥) → NoRepeats (filter test xs) → NoRepeats (cond b (x ∷ filter test xs) (filter test xs))
    at true apart later = (apart, later)
    at false apart later = later

pub repeats_range : (p n : ℕ) → NoRepeats (range_with_len p n)
repeats_range p zero = tt
repeats_range p (suc n) = (λ has. absurd (omega (arith, (of_range (p + 1) n p has).0)), repeats_range (p + 1) n)

pub repeats_append : {X : Type 0} (xs ys : List X) → NoRepeats xs → NoRepeats ys → ((x : X) → Has xs x → Has ys x → ⊥) → NoRepeats (xs ++ ys)
repeats_append [] ys first second apart = second
repeats_append (x ∷ xs) ys first second apart = (
  λ has. elim (of_append xs ys x has) [ inl here ↦ first.0 here | inr there ↦ apart x (inl refl) there ],
  repeats_append xs ys first.1 second (λ y here there. apart y (inr here) there),
)

pub repeats_map : {X Y : Type 0} (f : X → Y) (xs : List X) → ((x y : X) → f x ≡ f y → x ≡ y) → NoRepeats xs → NoRepeats (map f xs)
repeats_map f [] apart once = tt
repeats_map f (x ∷ xs) apart once =
    (λ has. let found = of_map f xs (f x) has in once.0 (subst (Has xs) (apart found.0 x found.2) found.1), repeats_map f xs apart once.1)

-- lists that share nothing, joined
pub repeats_flat : {X Y : Type 0} (f : X → List Y) (xs : List X) → ((x : X) → Has xs x → NoRepeats (f x))
    → ((x y : X) (z : Y) → Has xs x → Has xs y → Has (f x) z → Has (f y) z → x ≡ y)
    → NoRepeats xs → NoRepeats (flat_map f xs)
repeats_flat f [] each apart once = tt
repeats_flat f (x ∷ xs) each apart once =
    repeats_append (f x) (flat_map f xs) (each x (inl refl))
    (repeats_flat f xs (λ y has. each y (inr has)) (λ y z w first second. apart y z w (inr first) (inr second)) once.1)
    (λ z here there.
    let found = of_flat f xs z there in
    once.0 (subst (Has xs) (apart found.0 x z (inr found.1) (inl refl) found.2 here) found.1))
