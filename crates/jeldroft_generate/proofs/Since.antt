-- Files and outputs as they were before others were read or written.
use Rattle.std.proofs.Common.{◌≡◌, ℕ, List, Option, None, Some, sym}
use Rattle.std.specs.Prelude.{IfSome}

pub if_some_then : {A : Type 0} (P Q : A → Type 0) (o : Option A) → ((x : A) → P x → Q x) → IfSome o P → IfSome o Q
if_some_then P Q None then holds = tt
if_some_then P Q (Some x) then holds = then x holds

-- a file that holds what it held
pub same_kept : (before after : Option (Option (List ℕ))) → after ≡ before → IfSome after (λ held. before ≡ Some held)
same_kept before None same = tt
same_kept before (Some held) same = sym same
