-- Runs over a folder and sinks that tell everything.
use Rattle.std.proofs.Common.{◌≡◌, ◌≢◌, ℕ, List, Option, Some, None, Result, Ok, Err, refl}
use Rattle.std.specs.Prelude.{IfSome, IsOkAnd, IsSomeAnd}
use Rattle.seq_cli.specs.believed.Words.{Asked}

-- words that have no reading end with status 3
pub asked_or_three : (asked : Result Asked ℕ) (status other : ℕ) (P : Asked → Type 0) → ((a : Asked) → asked ≡ Ok a → P a) → ((index : ℕ) → asked ≡ Err index → status ≡ 3)
    → status ≡ other → other ≢ 3 → IsOkAnd asked P
asked_or_three (Ok a) status other P holds three is apart = holds a refl
asked_or_three (Err index) status other P holds three is apart = absurd (apart (let at = three index refl in cc))

-- what holds of a name that is given
pub each_name : (given : Option (List ℕ)) (P : List ℕ → Type 0) → ((name : List ℕ) → given ≡ Some name → P name) → IfSome given P
each_name None P holds = tt
each_name (Some name) P holds = holds name refl

pub some_then : (given : Option (List ℕ)) (P Q : List ℕ → Type 0) → ((name : List ℕ) → P name → Q name) → IsSomeAnd given P → IsSomeAnd given Q
some_then None P Q then none = none
some_then (Some name) P Q then holds = then name holds
