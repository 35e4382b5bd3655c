-- What the rules of the lines are said with: each item beside the items before it, and the first refusal.
use Rattle.std.specs.Prelude.{◌≡◌, ◌≢◌, Result, Ok, Err, MatchResult}
use Rattle.model_lex.specs.declared.fault.ModelFault.{ModelFault}
use Rattle.model_lex.specs.declared.fault.ModelFault.TheVariants.{NoMemory}

-- an answer is what is wanted, or memory was refused
abbrev pub Gives : {A B : Type 0} → Result A ModelFault → (B → A) → Result B ModelFault → Type 0
Gives wanted seen result = MatchResult result (λ b. wanted ≡ Ok (seen b)) (λ fault. fault ≢ NoMemory → wanted ≡ Err fault)
