-- Tests that agree on the members of a list.
use Rattle.std.proofs.Common.{◌≡◌, Bool, ◌&&◌, ◌||◌, cond, List, [], ◌∷◌, filter, inl, inr, refl, ap, ◌∙◌}
use Rattle.std.specs.List.{list_all, list_any}
use Rattle.definitions.proofs.Members.{Has}

pub any_agree : {X : Type 0} (f g : X → Bool) (xs : List X) → ((x : X) → Has xs x → f x ≡ g x) → list_any f xs ≡ list_any g xs
any_agree f g [] same = refl
any_agree f g (x ∷ xs) same =
    ap (λ b. b || list_any f xs) (same x (inl refl)) ∙ ap (λ b. g x || b) (any_agree f g xs (λ y has. same y (inr has)))

pub all_agree : {X : Type 0} (f g : X → Bool) (xs : List X) → ((x : X) → Has xs x → f x ≡ g x) → list_all f xs ≡ list_all g xs
all_agree f g [] same = refl
all_agree f g (x ∷ xs) same =
    ap (λ b. b && list_all f xs) (same x (inl refl)) ∙ ap (λ b. g x && b) (all_agree f g xs (λ y has. same y (inr has)))

pub filter_agree : {X : Type 0} (f g : X → Bool) (xs : List X) → ((x : X) → Has xs x → f x ≡ g x) → filter f xs ≡ filter g xs
filter_agree f g [] same = refl
filter_agree f g (x ∷ xs) same =
    ap (λ b. cond b (x ∷ filter f xs) (filter f xs)) (same x (inl refl))
    ∙ ap (λ kept. cond (g x) (x ∷ kept) kept) (filter_agree f g xs (λ y has. same y (inr has)))
