-- The open tuples of the sets of two parameters once more, as bits in blocks: a block for each digit of a column, and in it a bit for each digit
-- of each other parameter.
use Rattle.std.specs.Prelude.{◌≡◌, ℕ, Bool, ◌||◌, ◌+◌, ◌<◌, ◌≤◌, ◌*◌, List, [], ◌∷◌, length, map, IfSome, Option, None, Some, ◌==◌, slice_index_or, if◌then◌else◌}
use Rattle.cov_model.specs.declared.slice.Slice.{Slice}
use Rattle.cov_model.specs.believed.Sound.{ModelView}
use Rattle.definitions.specs.believed.Demand.{is_among}
use Rattle.tuple_index.specs.Places.{RisesFrom}
use Rattle.uncovered_table.specs.declared.pairs.PairBits.{PairBits}
use Rattle.uncovered_table.specs.Bits.{InPlay, held_count, sets_in_play}
use Rattle.uncovered_table.specs.Digits.{AreDigits, own_values}
use Rattle.uncovered_table.specs.Masks.{begin_at}
use Rattle.uncovered_table.specs.Places.{set_at}
use Rattle.uncovered_table.specs.Words.{bit_in, common, sum_to}

-- how many digits a parameter has
abbrev pub digit_count : ModelView → Slice → ℕ → ℕ
digit_count m slice p = length (own_values m slice p)

-- the bit for a digit of the column and a digit of another parameter
abbrev pub pair_bit : ModelView → Slice → List (List ℕ) → ℕ → ℕ → ℕ → ℕ
pair_bit m slice blocks d p e = bit_in (slice_index_or blocks d []) (begin_at (digit_count m slice) p + e)

-- each item of a list has a relation to the item at its place in another one
abbrev pub Matched : (ℕ → ℕ → Type 0) → List ℕ → List ℕ → Type 0
Matched R [] [] = Unit {0}
Matched R [] (y ∷ ys) = ⊥
Matched R (x ∷ xs) [] = ⊥
Matched R (x ∷ xs) (y ∷ ys) = R x y × Matched R xs ys

-- a set in play has the column and one other parameter
pub record IsPartner (m : ModelView) (slice : Slice) (column set p : ℕ) : Type 0 where
  pub plays : InPlay m slice column set
  pub exists : p < length m.params
  pub apart : p ≡ column → ⊥
  pub members : (q : ℕ) → is_among (set_at m set) q ≡ ((q == column) || (q == p))

-- the bits of a set tell which of its tuples are open
pub record IsPair (m : ModelView) (slice : Slice) (column : ℕ) (bits : List Bool) (blocks : List (List ℕ)) (set p : ℕ) : Type 0 where
  pub partner : IsPartner m slice column set p
  pub held : (d e : ℕ) (digits : ℕ → Option ℕ) → AreDigits (own_values m slice) digits → digits column ≡ Some d → digits p ≡ Some e
      → pair_bit m slice blocks d p e ≡ held_count m slice bits digits set

-- so do those in the block of a digit of the column, of its tuples with this digit
pub record IsBlockPair (m : ModelView) (slice : Slice) (column d : ℕ) (bits : List Bool) (block : List ℕ) (set p : ℕ) : Type 0 where
  pub partner : IsPartner m slice column set p
  pub held : (e : ℕ) (digits : ℕ → Option ℕ) → AreDigits (own_values m slice) digits → digits column ≡ Some d → digits p ≡ Some e
      → bit_in block (begin_at (digit_count m slice) p + e) ≡ held_count m slice bits digits set

-- those of some sets, by their other parameters in order
pub record ArePairs (m : ModelView) (slice : Slice) (column : ℕ) (bits : List Bool) (sets partners : List ℕ) (blocks : List (List ℕ)) : Type 0 where
  pub rise : RisesFrom 0 (length m.params) partners
  pub pairs : Matched (IsPair m slice column bits blocks) sets partners
  pub enough : length blocks ≡ digit_count m slice column
  pub short : (d : ℕ) → length (slice_index_or blocks d []) ≤ 128
  pub fits : begin_at (digit_count m slice) (length m.params) ≤ 64 * 128

-- the pairs of a column
abbrev pub HasPairs : ModelView → Slice → List Bool → ℕ → PairBits → Type 0
HasPairs m slice bits column pairs = ArePairs m slice column bits (sets_in_play m slice column) pairs.partners.items (map (λ block. block.items) pairs.blocks.items)

-- those of the first columns that keep some
pub record AreKept (m : ModelView) (slice : Slice) (bits : List Bool) (count : ℕ) (columns : List (Option PairBits)) : Type 0 where
  pub many : length columns ≡ count
  pub each : (p : ℕ) → p < count → IfSome (slice_index_or columns p None) (HasPairs m slice bits p)

-- the other members of the sets in play for a column, in order
pub record ArePartners (m : ModelView) (slice : Slice) (column : ℕ) (sets partners : List ℕ) : Type 0 where
  pub rise : RisesFrom 0 (length m.params) partners
  pub each : Matched (IsPartner m slice column) sets partners

-- how many bits the block of a digit has in common with a mask, where there is a digit
abbrev pub common_count : List (List ℕ) → List ℕ → Option ℕ → ℕ
common_count blocks mask None = 0
common_count blocks mask (Some d) = sum_to (common (slice_index_or blocks d []) mask) (64 * length (slice_index_or blocks d []))

-- of two members this one is beside the column, and not below a number
pub record IsOtherMember (members : List ℕ) (column next p : ℕ) : Type 0 where
  pub two : length members ≡ 2
  pub other : p ≡ (if slice_index_or members 0 0 == column then slice_index_or members 1 0 else slice_index_or members 0 0)
  pub least : next ≤ p
