-- The line of a constraint opens the constraints of a file.
use Rattle.std.proofs.Common.{◌≡◌, ℕ, suc, ◌-◌, Bool, true, false, ◌||◌, List, [], ◌∷◌, ◌++◌, length, map, take, codes, get_or, nat_lt, refl, ap, subst, arith, ◌∙◌}
use Rattle.std.specs.List.{list_all, prefix_len}
use Rattle.std.specs.Prelude.{if◌then◌else◌}
use Rattle.std.proofs.Math.Seq.{drop-append_seam, take-append_seam}
use Rattle.std.proofs.lemmas.Bool.Decides.{nat_tests}
use Rattle.model_lex.specs.believed.Blanks.{is_all_blank}
use Rattle.value_text.specs.believed.Texts.{is_blank}
use Rattle.model_lex.specs.believed.Sections.{first_word, goes_on, is_word_among, is_opening_mark, is_word_byte, opening_len, opening_words}
use Rattle.model_lex.proofs.Opening.{goes_on_inside}
use Rattle.constraint_ast.specs.believed.Grammar.{at, AreConjs, AreRules, AreUnits, IsRule, IsUnit, if_else, if_then, last_conj, last_unit, like, negation}
use Rattle.constraint_ast.specs.believed.Grammar.{next_conj, next_rule, next_unit, none_of, not_like, one_of, param_is, parens, plain, signed, value_is}
use Rattle.constraint_ast.specs.Laws.{RuleTextOpens}
use Rattle.constraint_ast.specs.believed.RuleText.{body_tokens, spaced, token_text}
use Rattle.constraint_ast.specs.believed.Trees.{RuleTree, Tree, Trees}
use Rattle.constraint_ast.specs.declared.token.LineToken.{LineToken}
use Rattle.constraint_ast.specs.declared.token.RuleToken.{RuleToken}
use Rattle.constraint_ast.specs.declared.token.RuleToken.TheVariants.{Name, If, Not, Sign, OpenParen}
use Rattle.constraint_ast.specs.declared.token.Sign.TheVariants.{Negative, Positive}
use Rattle.constraint_ast.proofs.Digits.{run_prefix}
use Rattle.constraint_ast.proofs.ReadBack.{rules_back}
use Rattle.constraint_ast.proofs.TokenText.{ends_word, spaced_ends}

-- ---- the first tokens of a constraint

-- IF and NOTs before a name, `(` or a sign term
abbrev Leads : List RuleToken → Type 0
Leads [] = ⊥
Leads (Name name ∷ rest) = Unit {0}
Leads (OpenParen ∷ rest) = Unit {0}
Leads (Sign sign ∷ OpenParen ∷ rest) = Unit {0}
Leads (If ∷ rest) = Leads rest
Leads (Not ∷ rest) = Leads rest
Leads (token ∷ rest) = ⊥

abbrev unmarked : List LineToken → List RuleToken
unmarked tokens = map (λ token. token.token) tokens

unit_leads : {room : ℕ} {from to : List LineToken} {tree : Tree} → IsUnit room from tree to → Leads (unmarked from)
unit_leads (negation unit) = unit_leads unit
unit_leads (parens conjs) = tt
unit_leads value_is = tt
unit_leads param_is = tt
unit_leads (one_of literals) = tt
unit_leads (none_of literals) = tt
unit_leads like = tt
unit_leads not_like = tt
unit_leads signed = tt

units_lead : {room : ℕ} {from to : List LineToken} {parts : Trees} → AreUnits room from parts to → Leads (unmarked from)
units_lead (last_unit unit) = unit_leads unit
units_lead (next_unit unit rest) = unit_leads unit

conjs_lead : {room : ℕ} {from to : List LineToken} {parts : Trees} → AreConjs room from parts to → Leads (unmarked from)
conjs_lead (last_conj units) = units_lead units
conjs_lead (next_conj units rest) = units_lead units

rule_leads : {room : ℕ} {from to : List LineToken} {rule : RuleTree} → IsRule room from rule to → Leads (unmarked from)
rule_leads (plain conjs) = conjs_lead conjs
rule_leads (if_then conjs others) = conjs_lead conjs
rule_leads (if_else conjs others last_ones) = conjs_lead conjs

rules_lead : {room : ℕ} {tokens : List LineToken} {rule : RuleTree} {rules : List RuleTree} → AreRules room tokens (rule ∷ rules) → Leads (unmarked tokens)
rules_lead (next_rule is rest) = rule_leads is

unmarked_marked : (line : ℕ) (tokens : List RuleToken) → unmarked (map (at line) tokens) ≡ tokens
unmarked_marked line [] = refl
unmarked_marked line (token ∷ tokens) = ap (λ rest. token ∷ rest) (unmarked_marked line tokens)

-- ---- in bytes

blank_opens : (none : Bool) (text : List ℕ) → goes_on 0 ((if none then [] else 32 ∷ []) ++ text) ≡ goes_on 0 text
blank_opens true text = refl
blank_opens false text = refl

word_opens :
    (b : ℕ) (more : List ℕ) (rest : List RuleToken) → is_blank b ≡ false → is_opening_mark b ≡ false
    → list_all is_word_byte (b ∷ more) ≡ true → is_word_among opening_words (b ∷ more) ≡ true
    → goes_on 0 (spaced false rest) ≡ true → goes_on 0 (b ∷ (more ++ spaced false rest)) ≡ true
word_opens b more rest dense mark all known opens =
    let tail : List ℕ = spaced false rest in
    let len : prefix_len is_word_byte (b ∷ (more ++ tail)) ≡ length (b ∷ more) = run_prefix is_word_byte (b ∷ more) tail all (ends_word (spaced_ends rest)) in
    let run : first_word (b ∷ (more ++ tail)) ≡ b ∷ more = ap (λ n. take n (b ∷ (more ++ tail))) len ∙ take-append_seam (b ∷ more) tail in
    let size : opening_len (b ∷ (more ++ tail)) ≡ suc (length more) = ap (λ word. if is_word_among opening_words word then length word else 0) run ∙ rw known refl in
    let some : nat_lt 0 (suc (length more)) ≡ true = grind (arith, nat_tests) in
    let one : suc (length more) - 1 ≡ length more = omega arith in
    let behind : goes_on (suc (length more) - 1) (more ++ tail) ≡ true =
    ap (λ n. goes_on n (more ++ tail)) one ∙ (goes_on_inside (length more) (more ++ tail) ∙ (ap (λ left. goes_on 0 left) (drop-append_seam more tail) ∙ opens)) in
    rw (dense, mark, size, some) behind

line_opens : (opened : Bool) (tokens : List RuleToken) → Leads tokens → goes_on 0 (spaced opened tokens) ≡ true
line_opens opened [] leads = absurd leads
line_opens opened (Name name ∷ rest) leads = blank_opens (opened || false) (token_text (Name name) ++ spaced false rest)
line_opens opened (OpenParen ∷ rest) leads = blank_opens (opened || false) (token_text OpenParen ++ spaced true rest)
line_opens opened (Sign Negative ∷ OpenParen ∷ rest) leads =
    blank_opens (opened || false) (token_text (Sign Negative) ++ spaced false (OpenParen ∷ rest)) ∙ word_opens 73 (codes "SNEGATIVE") (OpenParen ∷ rest) refl refl refl refl refl
line_opens opened (Sign Positive ∷ OpenParen ∷ rest) leads =
    blank_opens (opened || false) (token_text (Sign Positive) ++ spaced false (OpenParen ∷ rest)) ∙ word_opens 73 (codes "SPOSITIVE") (OpenParen ∷ rest) refl refl refl refl refl
line_opens opened (If ∷ rest) leads = blank_opens (opened || false) (token_text If ++ spaced false rest) ∙ word_opens 73 (codes "F") rest refl refl refl refl (line_opens false rest leads)
line_opens opened (Not ∷ rest) leads = blank_opens (opened || false) (token_text Not ++ spaced false rest) ∙ word_opens 78 (codes "OT") rest refl refl refl refl (line_opens false rest leads)
line_opens opened (token ∷ rest) leads = absurd leads

not_blank : (tokens : List RuleToken) → Leads tokens → is_all_blank (spaced true tokens) ≡ false
not_blank [] leads = absurd leads
not_blank (Name name ∷ rest) leads = refl
not_blank (OpenParen ∷ rest) leads = refl
not_blank (Sign Negative ∷ OpenParen ∷ rest) leads = refl
not_blank (Sign Positive ∷ OpenParen ∷ rest) leads = refl
not_blank (If ∷ rest) leads = refl
not_blank (Not ∷ rest) leads = refl
not_blank (token ∷ rest) leads = absurd leads

pub rule_text_opens : RuleTextOpens
rule_text_opens lines rules (tokens, e, are) = λ k default within.
    let rule : RuleTree = get_or rules k default in
    let leads : Leads (body_tokens rule.body) = subst Leads (unmarked_marked 0 (body_tokens rule.body)) (rules_lead (rules_back 0 are k default within)) in
    rw (not_blank (body_tokens rule.body) leads, line_opens true (body_tokens rule.body) leads) refl
