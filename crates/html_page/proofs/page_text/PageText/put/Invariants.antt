use Rattle.std.proofs.Common.{◌≡◌, ◌++◌, take}
use Rattle.std.specs.List.{flat_map}
use Rattle.html_page.specs.believed.Pieces.{piece_text}
use Rattle.html_page.specs.Seen.{piece_seen}
use Rattle.html_page.proofs.page_text.PageText.put.Given as goal

abbrev pub invariant-loop-piece : goal.invariant-loop-piece
invariant-loop-piece l = l.self ≡ l.fn.self ++ flat_map (λ piece. piece_text (piece_seen piece)) (take l.piece-index l.pieces)
