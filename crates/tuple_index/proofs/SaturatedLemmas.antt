-- Numbers up to the greatest of 64 bits, saturated: sums and products of such numbers.
use Rattle.std.proofs.Common.{inl, inr, ◌≡◌, ℕ, zero, suc, ◌+◌, ◌*◌, ◌-◌, ◌^◌, min, ◌∙◌, sym, ap, arith}
use Rattle.std.proofs.lemmas.Bool.{cases_lt}
use Rattle.tuple_index.specs.believed.PlanFault.{saturated}

capped : (m a b c : ℕ) → min (min a m * b + c) m ≡ min (a * b + c) m
capped m a zero c = grind arith
capped m a (suc b) c =
    elim (cases_lt m a) [
      | inr below ↦ let same : min a m ≡ a = omega (arith, below) in ap (λ n. min (n * suc b + c) m) same
      | inl above ↦
          let same : min a m ≡ m = omega (arith, above) in
          let least : m * suc b ≡ m + m * b = grind arith in
          let more : a * suc b ≡ a + a * b = grind arith in
          let left : min (m * suc b + c) m ≡ m = omega (arith, least) in
          let right : min (a * suc b + c) m ≡ m = omega (arith, more, above) in
          ap (λ n. min (n * suc b + c) m) same ∙ left ∙ sym right
    ]

pub saturated-mul : (a b c : ℕ) → saturated (saturated a * b + c) ≡ saturated (a * b + c)
saturated-mul a b c = capped (2 ^ 64 - 1) a b c

pub saturated-add : (a b : ℕ) → saturated (saturated a + b) ≡ saturated (a + b)
saturated-add a b = omega arith

pub saturated-both : (a b : ℕ) → saturated (saturated a + saturated b) ≡ saturated (a + b)
saturated-both a b = omega arith

-- a product of two saturated numbers, one of them exact
pub saturated-product : (a b : ℕ) → saturated (a * saturated b) ≡ saturated (a * b)
saturated-product a b =
    let turned : a * saturated b ≡ saturated b * a + 0 = grind arith in
    let back : b * a + 0 ≡ a * b = grind arith in
    ap saturated turned ∙ saturated-mul b a 0 ∙ ap saturated back

-- one factor more
pub saturated-factor : (n r w : ℕ) → saturated (saturated (n * r) * w) ≡ saturated (n * (r * w))
saturated-factor n r w =
    let plain : saturated (n * r) * w ≡ saturated (n * r) * w + 0 = omega arith in
    let back : n * r * w + 0 ≡ n * (r * w) = grind arith in
    ap saturated plain ∙ saturated-mul (n * r) w 0 ∙ ap saturated back

-- one digit more
pub saturated-digit : (n r d w p : ℕ) → saturated (saturated (saturated (n * r) + d) * w + p) ≡ saturated (n * (r * w) + (d * w + p))
saturated-digit n r d w p =
    let opened : (saturated (n * r) + d) * w + p ≡ saturated (n * r) * w + (d * w + p) = grind arith in
    let back : n * r * w + (d * w + p) ≡ n * (r * w) + (d * w + p) = grind arith in
    saturated-mul (saturated (n * r) + d) w p ∙ ap saturated opened ∙ saturated-mul (n * r) w (d * w + p) ∙ ap saturated back
