-- The constraints of a list of tokens, one after another.
use Rattle.std.proofs.Common.{◌≡◌, ℕ, ◌-◌, ◌<◌, suc, List, [], ◌∷◌, ◌++◌, length, map, get_or, refl, ap, sym, arith, false, ◌∙◌}
use Rattle.std.proofs.lemmas.List.{map-append}
use Rattle.std.specs.Prelude.{Result, Ok, Err, IfErr}
use Rattle.model_lex.specs.declared.fault.ModelFault.{ModelFault}
use Rattle.model_lex.specs.declared.fault.ModelFault.TheVariants.{Bad, BadRule, Limit, NoMemory}
use Rattle.constraint_ast.specs.Trees.{body_tree, rule_tree}
use Rattle.constraint_ast.specs.believed.Grammar.{last_line, most_open}
use Rattle.constraint_ast.specs.Machine.{Between, InPlain, Spot, Top, run, with_rule, with_rules}
use Rattle.constraint_ast.specs.Reading.{ReadsRule, RefusesBody, RefusesPred, RefusesRules, begins_if, first_line, before_pred}
use Rattle.constraint_ast.specs.declared.token.LineToken.{LineToken}
use Rattle.constraint_ast.specs.declared.tree.RawBody.{RawBody}
use Rattle.constraint_ast.specs.declared.tree.RawRule.{RawRule}
use Rattle.constraint_ast.proofs.Complete.{no_rules_more, one_rule_more, plain_first, rules_refused}

-- the refusal of a constraint that is a predicate
fault_of_plain :
    (last : ℕ) (tokens : List LineToken) → 0 < length tokens → begins_if tokens ≡ false → (fault : ModelFault)
    → RefusesBody last tokens (λ line. before_pred (InPlain line)) fault → RefusesRules last tokens fault
fault_of_plain last tokens some no_if (BadRule diag) refused = plain_first most_open last tokens some no_if ∙ refused (first_line tokens)
fault_of_plain last tokens some no_if (Bad diag) refused = refused
fault_of_plain last tokens some no_if (Limit limit count) refused = refused
fault_of_plain last tokens some no_if NoMemory refused = refused

pub plain_refused :
    {A : Type 0} (result : Result A ModelFault) (last : ℕ) (tokens : List LineToken) → 0 < length tokens → begins_if tokens ≡ false
    → IfErr result (RefusesBody last tokens (λ line. before_pred (InPlain line))) → IfErr result (RefusesRules last tokens)
plain_refused (Ok read) last tokens some no_if refused = tt
plain_refused (Err fault) last tokens some no_if refused = fault_of_plain last tokens some no_if fault refused

-- a predicate of a constraint that is refused refuses the rest of the constraint
pub pred_refused : (last : ℕ) (tokens : List LineToken) (start : ℕ → Spot) (fault : ModelFault) → RefusesPred last most_open tokens fault
    → RefusesBody last tokens (λ line. before_pred (start line)) fault
pred_refused last tokens start (BadRule diag) refused = λ line. refused (Top (start line))
pred_refused last tokens start (Bad diag) refused = refused
pred_refused last tokens start (Limit limit count) refused = refused
pred_refused last tokens start NoMemory refused = refused

-- some constraints are read before others
abbrev pub ReadsFirst : ℕ → List LineToken → List RawRule → List LineToken → Type 0
ReadsFirst last from rules ahead = run most_open last from Between ≡ with_rules (map rule_tree rules) (run most_open last ahead Between)

pub refused_later : (last : ℕ) (from : List LineToken) (rules : List RawRule) (ahead : List LineToken) (fault : ModelFault)
    → ReadsFirst last from rules ahead → RefusesRules last ahead fault → RefusesRules last from fault
refused_later last from rules ahead (BadRule diag) reads refused = reads ∙ (ap (λ read. with_rules (map rule_tree rules) read) refused ∙ rules_refused (map rule_tree rules) diag)
refused_later last from rules ahead (Bad diag) reads refused = refused
refused_later last from rules ahead (Limit limit count) reads refused = refused
refused_later last from rules ahead NoMemory reads refused = refused

pub one_more :
    (last : ℕ) (from : List LineToken) (rules : List RawRule) (ahead rest : List LineToken) (line : ℕ) (body : RawBody) (list : List RawRule) → ReadsFirst last from rules ahead
    → line ≡ first_line ahead → ReadsRule last ahead (body_tree body) rest → list ≡ rules ++ record { line = line; body = body } ∷ [] → ReadsFirst last from list rest
one_more last from rules ahead rest line body list reads at_line read e =
    let rule : RawRule = record { line = line; body = body } in
    let seen : run most_open last ahead Between ≡ with_rule (rule_tree rule) (run most_open last rest Between) =
    read ∙ ap (λ line. with_rule (record { line = line; body = body_tree body }) (run most_open last rest Between)) (sym at_line) in
    reads ∙ (ap (λ read. with_rules (map rule_tree rules) read) seen
    ∙ (sym (one_rule_more (map rule_tree rules) (rule_tree rule) (run most_open last rest Between))
    ∙ ap (λ list. with_rules list (run most_open last rest Between)) (sym (ap (λ list. map rule_tree list) e ∙ map-append rule_tree rules (rule ∷ [])))))

pub all_read : (last : ℕ) (from : List LineToken) (rules : List RawRule) (ahead : List LineToken) → ReadsFirst last from rules ahead
    → length ahead ≡ 0 → run most_open last from Between ≡ Ok (map rule_tree rules)
all_read last from rules [] reads none = reads ∙ no_rules_more (map rule_tree rules)
all_read last from rules (token ∷ ahead) reads none = absurd (omega arith)

-- the last token
pub last_at : (tokens : List LineToken) (default : LineToken) → 0 < length tokens → (get_or tokens (length tokens - 1) default).line ≡ last_line tokens
last_at [] default some = absurd (omega arith)
last_at (token ∷ []) default some = refl
last_at (token ∷ next ∷ tokens) default some =
    let later = last_at (next ∷ tokens) default (omega arith) in
    let place : length (token ∷ next ∷ tokens) - 1 ≡ suc (length (next ∷ tokens) - 1) = omega arith in
    ap (λ n. (get_or (token ∷ next ∷ tokens) n default).line) place ∙ later
