-- The line of a constraint reads back.
use Rattle.std.proofs.Common.{◌≡◌, ℕ, true, List, [], ◌∷◌, map, take, ap, ◌∙◌, append-nil, get_or}
use Rattle.std.specs.List.{AllByRecursion}
use Rattle.std.specs.Prelude.{Ok}
use Rattle.constraint_ast.specs.believed.Grammar.{at, AreRules, most_open}
use Rattle.constraint_ast.specs.Laws.{RuleTextReadsBack}
use Rattle.constraint_ast.specs.believed.Lexing.{both_tokens, inside, tokens_in, tokens_of, Spell}
use Rattle.constraint_ast.specs.believed.RuleText.{body_tokens, rule_text}
use Rattle.constraint_ast.specs.RuleText.{rule_at}
use Rattle.constraint_ast.specs.believed.Trees.{RuleTree}
use Rattle.constraint_ast.specs.declared.token.LineToken.{LineToken}
use Rattle.constraint_ast.proofs.Contents.{TokensAre, WrittenAre, rules_are}
use Rattle.constraint_ast.proofs.Meanings.{lines_are}
use Rattle.constraint_ast.proofs.NameText.{name_again}
use Rattle.constraint_ast.proofs.NumberText.{number_small}
use Rattle.constraint_ast.proofs.ReadBack.{rules_back}
use Rattle.constraint_ast.proofs.TokenText.{LiteralReads, NameReads, line_read}

-- names and numbers of lines read back
any_lines : (lines : List (ℕ × List ℕ)) → AllByRecursion (λ line. Unit {0}) lines
any_lines [] = tt
any_lines (line ∷ lines) = (tt, any_lines lines)

read_again : (lines : List (ℕ × List ℕ)) (tokens : List LineToken) → tokens_of lines ≡ Ok tokens → TokensAre NameReads LiteralReads tokens
read_again lines tokens e =
    lines_are NameReads LiteralReads (λ text. Unit {0}) (λ b text so. tt) (λ len text so. name_again (inside (take len text))) (λ len text so. tt) number_small
    lines tokens (any_lines lines) e

-- ---- the law

one_line : (line : ℕ) (text : List ℕ) (tokens : List LineToken) → tokens_in line 0 text ≡ Ok tokens → tokens_of ((line, text) ∷ []) ≡ Ok tokens
one_line line text tokens e = ap (λ read. both_tokens read (Ok [])) e ∙ ap Ok (append-nil tokens)

one_rule : (line : ℕ) (rule : RuleTree) → WrittenAre NameReads LiteralReads (body_tokens rule.body)
    → AreRules most_open (map (at line) (body_tokens rule.body)) (rule_at line rule ∷ [])
    → Spell ((line, rule_text rule) ∷ []) (rule_at line rule ∷ [])
one_rule line rule written back =
    let tokens : List LineToken = map (at line) (body_tokens rule.body) in
    (tokens, one_line line (rule_text rule) tokens (line_read line true (body_tokens rule.body) written), back)

pub rule_text_reads_back : RuleTextReadsBack
rule_text_reads_back lines rules line (tokens, e, are) = λ k default within.
    one_rule line (get_or rules k default) (rules_are NameReads LiteralReads are (read_again lines tokens e) k default within) (rules_back line are k default within)
