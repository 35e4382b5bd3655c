use Rattle.std.proofs.Common.{◌≡◌, ℕ, ◌<◌, List, None, IfSome, false, filter, fold, length, slice_index}
use Rattle.std.specs.List.{range_with_len}
use Rattle.seq_check.specs.EventSets.{AreBack, in_set}
use Rattle.seq_cover.specs.Building.{ArePlaced, ExistBelow}
use Rattle.seq_cover.specs.believed.OrderGrowth.{better, can_be_placed, gain}
use Rattle.seq_cover.proofs.row.next_placed.Given as goal

abbrev pub invariant-loop-event : goal.invariant-loop-event
invariant-loop-event l = record {
  below : IfSome l.best (λ event. event < length l.gains);
  left : IfSome l.best (λ event. in_set l.placed event ≡ false);
  most : IfSome l.best (λ event. l.most ≡ slice_index l.gains event);
  best : (pairs : List (ℕ × ℕ)) (rows : List (List ℕ)) (row : List ℕ) (len : ℕ) → AreBack l.back pairs → ExistBelow 64 pairs → ArePlaced l.placed row →
      ((event : ℕ) → event < length l.gains → slice_index l.gains event ≡ gain len rows row event) →
      (l.best ≡ fold (better (gain len rows row)) None (filter (can_be_placed pairs row) (range_with_len 0 l.event)))
      × IfSome l.best (λ event. l.most ≡ gain len rows row event);
}
