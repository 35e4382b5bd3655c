-- Partial rows that contain others.
use Rattle.std.proofs.Common.{◌≡◌, Bool, true, ◌&&◌}
use Rattle.std.proofs.lemmas.Bool.{and_parts}
pub use Rattle.cov_model.proofs.CellLemmas.{contains-trans}

pub left : (a b : Bool) → (a && b) ≡ true → a ≡ true
left a b both = (and_parts a b both).0

pub right : (a b : Bool) → (a && b) ≡ true → b ≡ true
right a b both = (and_parts a b both).1
