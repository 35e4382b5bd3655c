-- Masks of digits: a bit for each digit of each parameter, in order.
use Rattle.std.specs.List.{list_any}
use Rattle.std.specs.Prelude.{◌≡◌, ℕ, zero, suc, ◌+◌, ◌-◌, ◌<◌, ◌≤◌, ◌==◌, List, length, min, Option, Some, None, slice_index_or, if◌then◌else◌}
use Rattle.definitions.specs.believed.Demand.{is_among}
use Rattle.uncovered_table.specs.Words.{bit_in}

-- where the bits of a parameter begin, by how many digits each has
abbrev pub begin_at : (ℕ → ℕ) → ℕ → ℕ
begin_at count zero = 0
begin_at count (suc p) = begin_at count p + count p

-- 1 where the digit is this one
abbrev pub hot : Option ℕ → ℕ → ℕ
hot None d = 0
hot (Some e) d = if e == d then 1 else 0

-- the bit at a digit, where there is one
abbrev pub bit_for : Option ℕ → (ℕ → ℕ) → ℕ
bit_for None bit = 0
bit_for (Some d) bit = bit d

-- the digits of some parameters alone
abbrev pub restricted : List ℕ → (ℕ → Option ℕ) → ℕ → Option ℕ
restricted params digits p = if is_among params p then digits p else None

-- the mask of the digits of the first parameters
pub record IsMask (count : ℕ → ℕ) (digits : ℕ → Option ℕ) (params : ℕ) (mask : ℕ → ℕ) : Type 0 where
  pub bits : (p d : ℕ) → p < params → d < count p → mask (begin_at count p + d) ≡ hot (digits p) d
  pub rest : (k : ℕ) → begin_at count params ≤ k → mask k ≡ 0

-- where the bits of each parameter begin, and where those of the last one end
pub record AreBegins (count : ℕ → ℕ) (params : ℕ) (begins : List ℕ) : Type 0 where
  pub many : length begins ≡ params + 1
  pub each : (p d : ℕ) → p ≤ params → slice_index_or begins p d ≡ begin_at count p

-- the bits of all digits of some parameters
pub record AreAll (count : ℕ → ℕ) (params : List ℕ) (mask : ℕ → ℕ) : Type 0 where
  pub bits : (p d : ℕ) → d < count p → mask (begin_at count p + d) ≡ (if list_any (λ k. k == p) params then 1 else 0)

-- words without the bit of a parameter's digit, where it has one
pub record AreWithout (count : ℕ → ℕ) (digits : ℕ → Option ℕ) (p : ℕ) (old new : List ℕ) : Type 0 where
  pub long : length new ≡ length old
  pub none : digits p ≡ None → (k : ℕ) → bit_in new k ≡ bit_in old k
  pub some : (d : ℕ) → digits p ≡ Some d → (k : ℕ) → bit_in new k ≡ (if k == begin_at count p + d then 0 else bit_in old k)

-- words without the bits of all digits
pub record IsCleared (count : ℕ → ℕ) (digits : ℕ → Option ℕ) (old new : List ℕ) : Type 0 where
  pub long : length new ≡ length old
  pub bits : (p d : ℕ) → d < count p → bit_in new (begin_at count p + d) ≡ min (bit_in old (begin_at count p + d)) (1 - hot (digits p) d)
