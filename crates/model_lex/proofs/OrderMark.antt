-- The byte-order mark of a file.
use Rattle.std.proofs.Common.{ℕ, ◌≤◌, List, length, drop, arith}
use Rattle.std.proofs.Common.{nat_eq}
use Rattle.std.proofs.lemmas.Bool.{cond_both}
use Rattle.std.proofs.lemmas.List.{length-drop}
use Rattle.std.specs.List.{starts_with}
use Rattle.model_lex.specs.believed.Lines.{byte_order_mark, without_mark}

-- a file without its byte-order mark is no longer
pub unmarked_within : (bytes : List ℕ) → length (without_mark bytes) ≤ length bytes
unmarked_within bytes =
    cond_both (starts_with nat_eq bytes byte_order_mark) (drop 3 bytes) bytes (λ rest. length rest ≤ length bytes)
    (λ _. omega (arith, length-drop 3 bytes)) (λ _. omega arith)
