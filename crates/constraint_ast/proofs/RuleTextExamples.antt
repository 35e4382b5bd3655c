-- The lines of trees, computed on small constraints, and what the grammar reads in them. 34 is `"`, 92 the backslash.
use Rattle.std.proofs.Common.{◌≡◌, ◌≢◌, ℕ, ◌*◌, ◌^◌, pos, negsuc, List, [], ◌∷◌, ◌++◌, codes, refl, ap, sym, true≢false}
use Rattle.std.specs.Fmt.{digits}
use Rattle.std.specs.Prelude.{Bool, true, false, Result, Ok, Err}
use Rattle.model_lex.specs.declared.diag.Diag.{Diag}
use Rattle.constraint_ast.specs.believed.Grammar.{most_open}
use Rattle.constraint_ast.specs.believed.Trees.{Tree, Trees, Leaf, Negated, Each, Either, End, More, RuleTree, BodyTree, Plain, IfThen, IfElse}
use Rattle.constraint_ast.specs.believed.Lexing.{Spell, tokens_of}
use Rattle.constraint_ast.specs.Machine.{Between, run}
use Rattle.constraint_ast.specs.believed.RuleText.{number_text, rule_text}
use Rattle.constraint_ast.specs.RuleText.{rule_at}
use Rattle.constraint_ast.specs.declared.token.LineToken.{LineToken}
use Rattle.constraint_ast.specs.declared.tree.RawLiteral.{RawLiteral}
use Rattle.constraint_ast.specs.declared.tree.RawLiteral.TheVariants.{Words, Number}
use Rattle.constraint_ast.specs.declared.tree.RawRel.TheVariants.{Eq, Ne, Gt, Ge, Lt, Le}
use Rattle.constraint_ast.specs.declared.tree.RawTerm.TheVariants as terms
use Rattle.constraint_ast.proofs.Refusal.{spelled}

-- what the reading by tokens gives of a line by itself
abbrev read : Result (List LineToken) Diag → Result (List RuleTree) Diag
read (Ok tokens) = run most_open 0 tokens Between
read (Err diag) = Err diag

abbrev reads : List ℕ → RuleTree → Type 0
reads text rule = read (tokens_of ((1, text) ∷ [])) ≡ Ok (rule ∷ [])

-- the grammar has this reading
read_is_spelled : (text : List ℕ) (rule : RuleTree) → reads text rule → Spell ((1, text) ∷ []) (rule ∷ [])
read_is_spelled text rule e = at (tokens_of ((1, text) ∷ [])) refl e
  where
    at : (tokens : Result (List LineToken) Diag) → tokens_of ((1, text) ∷ []) ≡ tokens → read tokens ≡ Ok (rule ∷ []) → Spell ((1, text) ∷ []) (rule ∷ [])
    at (Ok tokens) is e = (tokens, is, spelled most_open 0 tokens (rule ∷ []) e)
    at (Err diag) is e = absurd (cc)

-- ---- small trees

abbrev whole : ℕ → RawLiteral
whole n = Number (pos (n * 10 ^ 9))

-- `[A] = n`, and a text between quotes
abbrev is : List ℕ → ℕ → Tree
is name n = Leaf 1 (terms.ValueIs name Eq (whole n))

abbrev in_quotes : List ℕ → List ℕ
in_quotes text = 34 ∷ (text ++ 34 ∷ [])

abbrev a1 : Tree
a1 = is (codes "A") 1

abbrev b_like : Tree
b_like = Leaf 1 (terms.Like (codes "B") (codes "x*"))

abbrev two : Tree → Tree → Trees
two one other = More one (More other End)

abbrev rule : BodyTree → RuleTree
rule body = record { line = 1; body = body }

-- ---- parentheses

-- NOT ([A] = 1 OR [A] = 2) AND [B] LIKE "x*";
abbrev not_either : RuleTree
not_either = rule (Plain (Each (two (Negated (Either (two a1 (is (codes "A") 2)))) b_like)))

abbrev not_either_line : List ℕ
not_either_line = codes "NOT ([A] = 1 OR [A] = 2) AND [B] LIKE " ++ (in_quotes (codes "x*") ++ codes ";")

not_either_text : rule_text not_either ≡ not_either_line
unfolding digits
not_either_text = refl

not_either_read : reads not_either_line not_either
not_either_read = refl

-- NOT [A] = 1 OR [A] = 2 AND [B] LIKE "x*";
abbrev either_not : RuleTree
either_not = rule (Plain (Either (two (Negated a1) (Each (two (is (codes "A") 2) b_like)))))

abbrev either_not_line : List ℕ
either_not_line = codes "NOT [A] = 1 OR [A] = 2 AND [B] LIKE " ++ (in_quotes (codes "x*") ++ codes ";")

either_not_text : rule_text either_not ≡ either_not_line
unfolding digits
either_not_text = refl

either_not_read : reads either_not_line either_not
either_not_read = refl

-- the two differ, whatever their lines
abbrev is_any : BodyTree → Bool
is_any (Plain (Either trees)) = true
is_any body = false

trees_differ : rule_at 0 not_either ≢ rule_at 0 either_not
trees_differ e = true≢false (sym (ap (λ rule. is_any rule.body) e))

-- an All in an All, an Any in an Any, both in a Not, a Not in a Not
abbrev c3 : Tree
c3 = is (codes "C") 3

all_in_all : rule_text (rule (Plain (Each (two a1 (Each (two c3 b_like)))))) ≡ codes "[A] = 1 AND ([C] = 3 AND [B] LIKE " ++ (in_quotes (codes "x*") ++ codes ");")
unfolding digits
all_in_all = refl

any_in_any : rule_text (rule (Plain (Either (two (Either (two a1 c3)) a1)))) ≡ codes "([A] = 1 OR [C] = 3) OR [A] = 1;"
unfolding digits
any_in_any = refl

any_in_all : rule_text (rule (Plain (Each (two (Either (two a1 c3)) a1)))) ≡ codes "([A] = 1 OR [C] = 3) AND [A] = 1;"
unfolding digits
any_in_all = refl

all_in_any : rule_text (rule (Plain (Either (two (Each (two a1 c3)) a1)))) ≡ codes "[A] = 1 AND [C] = 3 OR [A] = 1;"
unfolding digits
all_in_any = refl

all_in_not : rule_text (rule (Plain (Negated (Each (two a1 c3))))) ≡ codes "NOT ([A] = 1 AND [C] = 3);"
unfolding digits
all_in_not = refl

not_in_not : rule_text (rule (Plain (Negated (Negated a1)))) ≡ codes "NOT NOT [A] = 1;"
unfolding digits
not_in_not = refl

-- needless parentheses leave no trace
reads_without_parens : reads (codes "(NOT (([A] = 1)));") (rule (Plain (Negated a1)))
reads_without_parens = refl

-- ---- IF, THEN, ELSE

if_then : rule_text (rule (IfThen a1 (Leaf 1 (terms.ValueIs (codes "B") Eq (Words (codes "x")))))) ≡ codes "IF [A] = 1 THEN [B] = " ++ (in_quotes (codes "x") ++ codes ";")
unfolding digits
if_then = refl

if_then_read : reads (codes "IF [A] = 1 THEN [B] = " ++ (in_quotes (codes "x") ++ codes ";")) (rule (IfThen a1 (Leaf 1 (terms.ValueIs (codes "B") Eq (Words (codes "x"))))))
if_then_read = refl

abbrev if_else : RuleTree
if_else = rule (IfElse (Either (two a1 c3)) (Leaf 1 (terms.ParamIs (codes "A") Ne (codes "B"))) (Each (two c3 a1)))

if_else_text : rule_text if_else ≡ codes "IF [A] = 1 OR [C] = 3 THEN [A] <> [B] ELSE [C] = 3 AND [A] = 1;"
unfolding digits
if_else_text = refl

if_else_read : reads (codes "if [A]=1 or [C]=3 then([A]<>[B])else [C]=3 and [A]=1 ;") if_else
if_else_read = refl

-- ---- terms

abbrev none_of : RuleTree
none_of = rule (Plain (Negated (Leaf 1 (terms.OneOf (codes "A") (whole 1 ∷ Words (codes "x") ∷ whole 2 ∷ [])))))

none_of_text : rule_text none_of ≡ codes "NOT [A] IN {1, " ++ (in_quotes (codes "x") ++ codes ", 2};")
unfolding digits
none_of_text = refl

none_of_read : reads (codes "[A] NOT IN {1," ++ (in_quotes (codes "x") ++ codes ", 2 } ;")) none_of
none_of_read = refl

not_like_text : rule_text (rule (Plain (Negated b_like))) ≡ codes "NOT [B] LIKE " ++ (in_quotes (codes "x*") ++ codes ";")
unfolding digits
not_like_text = refl

not_like_read : reads (codes "[B] NOT LIKE " ++ (in_quotes (codes "x*") ++ codes ";")) (rule (Plain (Negated b_like)))
not_like_read = refl

abbrev signed : RuleTree
signed = rule (Plain (Either (two (Leaf 1 (terms.Negative (codes "A"))) (Negated (Leaf 1 (terms.Positive (codes "B")))))))

signed_text : rule_text signed ≡ codes "ISNEGATIVE ([A]) OR NOT ISPOSITIVE ([B]);"
unfolding digits
signed_text = refl

signed_read : reads (codes "IsNegative([A])OR NOT isPositive( [ B ] );") signed
signed_read = refl

relations : rule_text (rule (Plain (Each (More (Leaf 1 (terms.ParamIs (codes "A") Gt (codes "B"))) (More (Leaf 1 (terms.ParamIs (codes "A") Ge (codes "B")))
    (More (Leaf 1 (terms.ParamIs (codes "A") Lt (codes "B"))) (More (Leaf 1 (terms.ParamIs (codes "A") Le (codes "B"))) End)))))))
    ≡ codes "[A] > [B] AND [A] >= [B] AND [A] < [B] AND [A] <= [B];"
unfolding digits
relations = refl

-- ---- numbers

minus_half : number_text (negsuc 499999999) ≡ codes "-0.5"
unfolding digits
minus_half = refl

one_and_a_half : number_text (pos 1500000000) ≡ codes "1.5"
unfolding digits
one_and_a_half = refl

nothing : number_text (pos 0) ≡ codes "0"
unfolding digits
nothing = refl

ten : number_text (pos 10000000000) ≡ codes "10"
unfolding digits
ten = refl

least : number_text (negsuc 0) ≡ codes "-0.000000001"
unfolding digits
least = refl

inner_zeros : number_text (pos 100020003000000000) ≡ codes "100020003"
unfolding digits
inner_zeros = refl

decimal_zeros : number_text (negsuc 12000304999) ≡ codes "-12.000305"
unfolding digits
decimal_zeros = refl

widest : number_text (negsuc 9999999999999999999999999999999999998) ≡ codes "-9999999999999999999999999999.999999999"
unfolding digits
widest = refl

number_read : reads (codes "[A] = -000.50;") (rule (Plain (Leaf 1 (terms.ValueIs (codes "A") Eq (Number (negsuc 499999999))))))
number_read = refl

-- ---- names and texts

-- the name `a"]\ b` and the text ` \]" `
abbrev odd : RuleTree
odd = rule (Plain (Leaf 1 (terms.ValueIs (97 ∷ 34 ∷ 93 ∷ 92 ∷ 32 ∷ 98 ∷ []) Le (Words (32 ∷ 92 ∷ 93 ∷ 34 ∷ 32 ∷ [])))))

-- [a\"\]\\ b] <= " \\\]\" ";
abbrev odd_line : List ℕ
odd_line = 91 ∷ 97 ∷ 92 ∷ 34 ∷ 92 ∷ 93 ∷ 92 ∷ 92 ∷ 32 ∷ 98 ∷ 93 ∷ (codes " <= " ++ (34 ∷ 32 ∷ 92 ∷ 92 ∷ 92 ∷ 93 ∷ 92 ∷ 34 ∷ 32 ∷ 34 ∷ 59 ∷ []))

odd_text : rule_text odd ≡ odd_line
unfolding digits
odd_text = refl

odd_read : reads odd_line odd
odd_read = refl

-- `[ a"\]\\ b ]` is the same name: blanks at its ends go, and a backslash that quotes nothing stays
odd_name_read : reads (91 ∷ 32 ∷ 97 ∷ 34 ∷ 92 ∷ 93 ∷ 92 ∷ 92 ∷ 32 ∷ 98 ∷ 32 ∷ 93
    ∷ (codes " <= " ++ (34 ∷ 32 ∷ 92 ∷ 93 ∷ [])) ++ (93 ∷ 92 ∷ 34 ∷ 32 ∷ 34 ∷ 59 ∷ []))
    (rule (Plain (Leaf 1 (terms.ValueIs (97 ∷ 34 ∷ 93 ∷ 92 ∷ 32 ∷ 98 ∷ []) Le (Words (32 ∷ 93 ∷ 93 ∷ 34 ∷ 32 ∷ []))))))
odd_name_read = refl

-- the name of `[a\ ]` ends with its backslash, and is written `[a\\]`
last_backslash_read : reads (91 ∷ 97 ∷ 92 ∷ 32 ∷ 93 ∷ codes "=1;") (rule (Plain (is (97 ∷ 92 ∷ []) 1)))
last_backslash_read = refl

last_backslash_text : rule_text (rule (Plain (is (97 ∷ 92 ∷ []) 1))) ≡ 91 ∷ 97 ∷ 92 ∷ 92 ∷ 93 ∷ codes " = 1;"
unfolding digits
last_backslash_text = refl

last_backslash_read_back : reads (91 ∷ 97 ∷ 92 ∷ 92 ∷ 93 ∷ codes " = 1;") (rule (Plain (is (97 ∷ 92 ∷ []) 1)))
last_backslash_read_back = refl

-- empty names and texts
empty_text : rule_text (rule (Plain (Leaf 1 (terms.ValueIs [] Eq (Words []))))) ≡ codes "[] = " ++ (34 ∷ 34 ∷ 59 ∷ [])
unfolding digits
empty_text = refl

empty_read : reads (codes "[ ]=" ++ (34 ∷ 34 ∷ 59 ∷ [])) (rule (Plain (Leaf 1 (terms.ValueIs [] Eq (Words [])))))
empty_read = refl

-- ---- a tree at another line

-- IF [A] = 1 THEN NOT [A] = 1 AND [B] LIKE "x*" ELSE [A] = 1 OR [B] LIKE "x*";, with all lines 1
abbrev ones : RuleTree
ones = rule (IfElse a1 (Each (two (Negated a1) b_like)) (Either (two a1 b_like)))

-- the same with other lines
abbrev on_lines : RuleTree
on_lines = record {
  line = 2;
  body =
      IfElse (Leaf 2 (terms.ValueIs (codes "A") Eq (whole 1))) (Each (two (Negated (Leaf 3 (terms.ValueIs (codes "A") Eq (whole 1)))) (Leaf 4 (terms.Like (codes "B") (codes "x*")))))
      (Either (two (Leaf 5 (terms.ValueIs (codes "A") Eq (whole 1))) (Leaf 6 (terms.Like (codes "B") (codes "x*")))));
}

at_line_1 : rule_at 1 on_lines ≡ ones
at_line_1 = refl

at_line_1_plain : rule_at 1 (record { line = 3; body = Plain (Leaf 4 (terms.Negative [])) }) ≡ rule (Plain (Leaf 1 (terms.Negative [])))
at_line_1_plain = refl

at_line_1_if : rule_at 1 (record { line = 3; body = IfThen (Leaf 4 (terms.Negative [])) (Leaf 5 (terms.Positive [])) }) ≡ rule (IfThen (Leaf 1 (terms.Negative [])) (Leaf 1 (terms.Positive [])))
at_line_1_if = refl
