-- The decimals of a number, from place to place.
use Rattle.std.proofs.Common.{◌≡◌, ℕ, zero, suc, ◌+◌, ◌-◌, ◌*◌, ◌/◌, ◌%◌, ◌^◌, ◌<◌, ◌≤◌, List, []}
use Rattle.std.proofs.Common.{◌∷◌, ◌++◌, refl, ap, sym, subst, arith, ◌∙◌, append_assoc, append-nil}
use Rattle.std.proofs.lemmas.Bool.{ne_eqb}
use Rattle.std.proofs.Math.Nat.{pow-le-pow_right, pow-suc}
use Rattle.constraint_ast.specs.believed.RuleText.{decimals}

-- so many decimals are left
pub record DecimalsLeft (old now : List ℕ) (fraction places left : ℕ) : Type 0 where
  pub few : places ≤ 9
  pub below : left < 10 ^ places
  pub same : old ++ decimals 9 fraction ≡ now ++ decimals places left

pub none_left : (places : ℕ) → decimals places 0 ≡ []
none_left zero = refl
none_left (suc places) = refl

pub some_place : (places left : ℕ) → 0 < left → left < 10 ^ places → 0 < places
some_place zero left some below = absurd (omega arith)
some_place (suc places) left some below = omega arith

one_more : (places left : ℕ) → 0 < left → decimals (suc places) left ≡ (48 + left / 10 ^ places) ∷ decimals places (left % 10 ^ places)
one_more places left some = rw (ne_eqb left 0 (λ none. omega arith)) refl

-- the unit of the next place
pub record Unit' (places left unit : ℕ) : Type 0 where
  pub some : 0 < unit
  pub fits : unit ≤ 100000000
  pub digit : left / unit < 10
  pub rest : left % unit < unit

pub next_unit : (places left unit : ℕ) → places ≤ 8 → left < 10 ^ (places + 1) → unit ≡ 10 ^ places → Unit' places left unit
next_unit places left unit few below is =
    let one : places + 1 ≡ suc places = omega arith in
    let power : 10 ^ (places + 1) ≡ 10 ^ places * 10 = ap (λ n. 10 ^ n) one ∙ pow-suc 10 places in
    let none : 0 ≤ places = omega arith in
    let low : 10 ^ 0 ≤ 10 ^ places = pow-le-pow_right {n = 10} (omega arith) none in
    let high : 10 ^ places ≤ 10 ^ 8 = pow-le-pow_right {n = 10} (omega arith) few in
    record { some = omega arith; fits = omega arith; digit = grind arith; rest = omega arith }

next_decimal :
    (old now written : List ℕ) (fraction places left unit : ℕ) → DecimalsLeft old now fraction (suc places) left → 0 < left → unit ≡ 10 ^ places
    → written ≡ now ++ (48 + left / unit) ∷ [] → DecimalsLeft old written fraction places (left % unit)
next_decimal old now written fraction places left unit here some is digit =
    let below : left < 10 ^ (places + 1) = subst (λ n. left < 10 ^ n) (omega arith) here.below in
    let next = next_unit places left unit (omega (arith, here.few)) below is in
    let step : decimals (suc places) left ≡ (48 + left / unit) ∷ decimals places (left % unit) =
    one_more places left some ∙ ap (λ n. (48 + left / n) ∷ decimals places (left % n)) (sym is) in
    record {
      few = omega (arith, here.few);
      below = omega (arith, next.rest);
      same = here.same ∙ (ap (λ tail. now ++ tail) step
          ∙ (sym (append_assoc now ((48 + left / unit) ∷ []) (decimals places (left % unit))) ∙ ap (λ front. front ++ decimals places (left % unit)) (sym digit)));
    }

pub decimal_written :
    (old now written : List ℕ) (fraction places left unit : ℕ) → DecimalsLeft old now fraction places left → 0 < left → unit ≡ 10 ^ (places - 1)
    → written ≡ now ++ (48 + left / unit) ∷ [] → DecimalsLeft old written fraction (places - 1) (left % unit)
decimal_written old now written fraction places left unit here some is digit =
    let place : 0 < places = some_place places left some here.below in
    next_decimal old now written fraction (places - 1) left unit (subst (λ n. DecimalsLeft old now fraction n left) (omega arith) here) some is digit

pub decimals_end : (old now : List ℕ) (fraction places left : ℕ) → DecimalsLeft old now fraction places left → left ≡ 0 → now ≡ old ++ decimals 9 fraction
decimals_end old now fraction places left here none = sym (here.same ∙ (ap (λ left. now ++ decimals places left) none ∙ (ap (λ tail. now ++ tail) (none_left places) ∙ append-nil now)))
