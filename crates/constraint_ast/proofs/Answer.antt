-- What an answer of the parser says in the words of the grammar.
use Rattle.std.proofs.Common.{◌≡◌, inl, inr, ℕ, List, map, refl}
use Rattle.constraint_ast.specs.believed.Lexing.{AreRefused, Spell, tokens_of}
use Rattle.std.specs.Prelude.{Result, Ok, Err, IfOk, IfErr, MatchResult}
use Rattle.model_lex.specs.declared.fault.ModelFault.{ModelFault}
use Rattle.model_lex.specs.declared.fault.ModelFault.TheVariants.{Bad, BadRule, Limit, NoMemory}
use Rattle.constraint_ast.specs.believed.Trees.{RuleTree}
use Rattle.constraint_ast.specs.Trees.{rule_tree}
use Rattle.constraint_ast.specs.believed.Grammar.{AreRules, Refused, last_line, most_open}
use Rattle.constraint_ast.specs.Machine.{Between, run}
use Rattle.constraint_ast.specs.Reading.{IfRefused, RefusesRules}
use Rattle.constraint_ast.specs.declared.token.LineToken.{LineToken}
use Rattle.constraint_ast.specs.declared.tree.RawRule.{RawRule}
use Rattle.constraint_ast.proofs.OneReading.{lines_have_one_reading}
use Rattle.constraint_ast.proofs.Refusal.{refused, spelled}

module _ (tokens : List LineToken) where
  pub are_spelled :
      (result : Result (List RawRule) ModelFault) → IfOk result (λ rules. run most_open (last_line tokens) tokens Between ≡ Ok (map rule_tree rules))
      → IfOk result (λ rules. AreRules most_open tokens (map rule_tree rules))
  are_spelled (Ok rules) reads = spelled most_open (last_line tokens) tokens (map rule_tree rules) reads
  are_spelled (Err fault) reads = tt

  fault_explained : (fault : ModelFault) → RefusesRules (last_line tokens) tokens fault → IfRefused fault (Refused most_open tokens)
  fault_explained (BadRule diag) refuses = refused most_open tokens diag refuses
  fault_explained (Bad diag) refuses = refuses
  fault_explained (Limit limit count) refuses = refuses
  fault_explained NoMemory refuses = refuses

  pub are_refused :
      (result : Result (List RawRule) ModelFault) → IfErr result (RefusesRules (last_line tokens) tokens)
      → IfErr result (λ fault. IfRefused fault (Refused most_open tokens))
  are_refused (Ok rules) refuses = tt
  are_refused (Err fault) refuses = fault_explained fault refuses

-- what the lines say, where their tokens are these
module _ (lines : List (ℕ × List ℕ)) (tokens : List LineToken) (lexed : tokens_of lines ≡ Ok tokens) where
  pub lines_spelled :
      (result : Result (List RawRule) ModelFault) → IfOk result (λ rules. AreRules most_open tokens (map rule_tree rules))
      → IfOk result (λ rules. Spell lines (map rule_tree rules))
  lines_spelled (Ok rules) are = (tokens, lexed, are)
  lines_spelled (Err fault) are = tt

  fault_of_lines : (fault : ModelFault) → IfRefused fault (Refused most_open tokens) → IfRefused fault (AreRefused lines)
  fault_of_lines (BadRule diag) is = inr (tokens, lexed, is)
  fault_of_lines (Bad diag) is = is
  fault_of_lines (Limit limit count) is = is
  fault_of_lines NoMemory is = is

  pub lines_refused :
      (result : Result (List RawRule) ModelFault) → IfErr result (λ fault. IfRefused fault (Refused most_open tokens))
      → IfErr result (λ fault. IfRefused fault (AreRefused lines))
  lines_refused (Ok rules) is = tt
  lines_refused (Err fault) is = fault_of_lines fault is

-- what the lines say, where a token is none
pub no_tokens : (lines : List (ℕ × List ℕ)) (fault : ModelFault) → IfRefused fault (λ diag. tokens_of lines ≡ Err diag) → IfRefused fault (AreRefused lines)
no_tokens lines (BadRule diag) is = inl is
no_tokens lines (Bad diag) is = is
no_tokens lines (Limit limit count) is = is
no_tokens lines NoMemory is = is

-- what the lines spell is what is answered, unless memory was refused
pub only_no_memory : (lines : List (ℕ × List ℕ)) (fault : ModelFault) → IfRefused fault (AreRefused lines) → (trees : List RuleTree)
    → Spell lines trees → fault ≡ NoMemory
only_no_memory lines (BadRule diag) is trees spelled = absurd ((lines_have_one_reading lines).read_or_refused trees diag spelled is)
only_no_memory lines (Bad diag) is trees spelled = absurd is
only_no_memory lines (Limit limit count) is trees spelled = absurd is
only_no_memory lines NoMemory is trees spelled = refl

pub only_these :
    (lines : List (ℕ × List ℕ)) (result : Result (List RawRule) ModelFault) → IfOk result (λ rules. Spell lines (map rule_tree rules))
    → IfErr result (λ fault. IfRefused fault (AreRefused lines))
    → (trees : List RuleTree) → Spell lines trees → MatchResult result (λ rules. map rule_tree rules ≡ trees) (λ fault. fault ≡ NoMemory)
only_these lines (Ok rules) are is trees spelled = (lines_have_one_reading lines).one_reading (map rule_tree rules) trees are spelled
only_these lines (Err fault) are is trees spelled = only_no_memory lines fault is trees spelled
