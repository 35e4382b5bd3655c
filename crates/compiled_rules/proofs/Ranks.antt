-- Numbers whose order is that of two parameters' values: a value's is a sum over the values of the second.
use Rattle.std.proofs.Common.{◌≡◌, ℕ, zero, suc, ◌<◌, ◌≤◌, List, [], ◌∷◌, length, get_or, sum_by, ◌∙◌, sym, ap, subst, refl, arith}
use Rattle.std.specs.declared.cmp.Ordering.{Ordering}
use Rattle.std.specs.declared.cmp.Ordering.TheVariants.{Less, Equal, Greater}
use Rattle.std.specs.Ordering.{nat_cmp, ordering_reverse}
use Rattle.std.specs.Cmp.{IsTotalOrder}
use Rattle.std.proofs.lemmas.Cmp.{ranked, tied_itself, alike_right, nat_cmp_total, by_ranked}
use Rattle.std.proofs.lemmas.List.Sums.{sum_by-cons, sum_by-le-sum_by}

-- 2 for a value that is less, 1 for an equal one
abbrev pub weight : Ordering → ℕ
weight Less = 2
weight Equal = 1
weight Greater = 0

abbrev pub rank : {X : Type 0} → (X → X → Ordering) → List X → X → ℕ
rank R ys x = sum_by (λ y. weight (R y x)) ys

strict : {X : Type 0} (f g : X → ℕ) (ys : List X) (i : ℕ) (d : X) → ((y : X) → f y ≤ g y) → i < length ys → f (get_or ys i d) < g (get_or ys i d)
    → sum_by f ys < sum_by g ys
strict f g [] i d all within less = absurd (omega arith)
strict f g (y ∷ ys) zero d all within less = omega (arith, sum_by-cons f y ys, sum_by-cons g y ys, sum_by-le-sum_by f g ys all)
strict f g (y ∷ ys) (suc i) d all within less = omega (arith, sum_by-cons f y ys, sum_by-cons g y ys, all y, strict f g ys i d all (omega arith) less)

-- what is less weighs no more
lighter : {X : Type 0} (R : X → X → Ordering) (o : IsTotalOrder R) (a b y : X) → R a b ≡ Less → weight (R y a) ≤ weight (R y b)
lighter R o a b y less = by_case (R y a) refl
  where
    by_case : (r : Ordering) → R y a ≡ r → weight r ≤ weight (R y b)
    by_case Less is = subst (λ (r : Ordering). 2 ≤ weight r) (sym (o.trans y a b is less)) (omega arith)
    by_case Equal is = subst (λ (r : Ordering). 1 ≤ weight r) (sym (o.congr y a b is ∙ less)) (omega arith)
    by_case Greater is = omega arith

below : (n m : ℕ) → n < m → nat_cmp n m ≡ Less
below n m less = by_ranked (n < m) (n ≡ m) (m < n) (nat_cmp n m) (ranked n m (nat_cmp n m) refl) (λ is h. is) (λ is h. absurd (omega arith))
    (λ is h. absurd (omega arith))

-- the order of the numbers is that of the values, if the second value is one of those counted
pub rank_order : {X : Type 0} (R : X → X → Ordering) (o : IsTotalOrder R) (ys : List X) (a d : X) (i : ℕ) → i < length ys
    → nat_cmp (rank R ys a) (rank R ys (get_or ys i d)) ≡ R a (get_or ys i d)
rank_order R o ys a d i within = by_case (R a (get_or ys i d)) refl
  where
    back : (r : Ordering) → R a (get_or ys i d) ≡ r → R (get_or ys i d) a ≡ ordering_reverse r
    back r is = o.antisymm (get_or ys i d) a ∙ ap ordering_reverse is

    tied : R (get_or ys i d) (get_or ys i d) ≡ Equal
    tied = tied_itself o (get_or ys i d)

    by_case : (r : Ordering) → R a (get_or ys i d) ≡ r → nat_cmp (rank R ys a) (rank R ys (get_or ys i d)) ≡ r
    by_case Less is =
        below (rank R ys a) (rank R ys (get_or ys i d))
        (strict (λ y. weight (R y a)) (λ y. weight (R y (get_or ys i d))) ys i d (λ y. lighter R o a (get_or ys i d) y is) within
        (omega (arith, ap weight (back Less is), ap weight tied)))
    by_case Equal is =
        let each : (y : _) → weight (R y a) ≡ weight (R y (get_or ys i d)) = λ y. ap weight (alike_right o a (get_or ys i d) y is) in
        let up = sum_by-le-sum_by (λ y. weight (R y a)) (λ y. weight (R y (get_or ys i d))) ys (λ y. omega (arith, each y)) in
        let down = sum_by-le-sum_by (λ y. weight (R y (get_or ys i d))) (λ y. weight (R y a)) ys (λ y. omega (arith, each y)) in
        let same : rank R ys a ≡ rank R ys (get_or ys i d) = omega (arith, up, down) in
        ap (λ (n : ℕ). nat_cmp n (rank R ys (get_or ys i d))) same ∙ tied_itself nat_cmp_total (rank R ys (get_or ys i d))
    by_case Greater is =
        nat_cmp_total.antisymm (rank R ys a) (rank R ys (get_or ys i d))
        ∙ ap ordering_reverse (below (rank R ys (get_or ys i d)) (rank R ys a)
        (strict (λ y. weight (R y (get_or ys i d))) (λ y. weight (R y a)) ys i d (λ y. lighter R o (get_or ys i d) a y (back Greater is)) within
        (omega (arith, ap weight (back Greater is), ap weight tied))))
