use Rattle.std.proofs.Common.{◌≡◌, ℕ, ◌+◌, ◌<◌, ◌≤◌, ◌∷◌, ◌++◌, [], List, length, slice_index}
use Rattle.seq_cover.specs.Building.{ArePlaced, IsOnce, open_gain}
use Rattle.seq_cover.proofs.row.raise.Given as goal

abbrev pub invariant-loop-last : goal.invariant-loop-last
invariant-loop-last l = record {
  still : (last : ℕ) → l.last ≤ last → slice_index l.gains last ≡ slice_index l.initial.gains last;
  few : (last : ℕ) → last < length l.initial.gains → slice_index l.gains last ≤ slice_index l.initial.gains last + 64;
  value : (row : List ℕ) (last : ℕ) → ArePlaced l.placed row → IsOnce row → last < l.last → slice_index l.initial.gains last ≡ open_gain l.opened row last
      → slice_index l.gains last ≡ open_gain l.opened (row ++ l.event ∷ []) last;
}
