-- What the definitions say of small files, worked out from the definitions alone.
use Rattle.std.proofs.Common.{◌≡◌, true, false, [], ◌∷◌, codes, None, Some, Ok, Err, refl}
use Rattle.cov_model.specs.declared.constraint.Rel.TheVariants.{Eq, Ne, Gt}
use Rattle.acts_front.specs.believed.Constraints.{Compares, Each, Either, End, Implies, More, Negated, OfText, OfTruth, OfWhole, Plain, cons_of}
use Rattle.acts_front.specs.Constraints.{spelled_by}
use Rattle.acts_front.specs.believed.Lines.{line_text}
use Rattle.acts_front.specs.believed.Tokens.{Name, Not, Or, Relation, Truth, Whole, Words, tokens_found}
use Rattle.acts_front.specs.believed.Translation.{translation}
use Rattle.acts_front.specs.declared.code.ActsCode.TheVariants.{A1, A2, A3, A4, A5, A6, A7, A8, A9, A10, A11}

-- ---- whole files

a_file : translation true (codes "[System]\nName: demo\n[Parameter]\nA (int): 1, 2\nB (enum): x, y\n[Constraint]\nA = 1 => B = \"x\"\n")
    ≡ Ok (codes "\n\n\nA: 1, 2\nB: x, y\n\nIF [A] = 1 THEN [B] = \"x\";\n")
a_file = refl

types_differ : translation true (codes "[System]\nName: demo\n[Parameter]\nA (int): 1, 2\nB (enum): x, y\n[Constraint]\nA = 1 => B = 2\n") ≡ Err (7, A11)
types_differ = refl

another_file : translation true (codes "[parameter]\r\nP_1(Boolean):true,FALSE -- so\r\nQ ( int ) : -1 , 007\n[RELATION]\nR: ( p_1 ,Q, 02 )\n\n[Constraint]\n!(q>-1||P_1!=TRUE)&&Q=007")
    ≡ Ok (codes "\nP_1: TRUE, FALSE\nQ: -1, 007\n\n@ 02 { p_1, Q }\n\n\nNOT ( [q] > -1 OR [P_1] <> \"TRUE\" ) AND [Q] = 007;\n")
another_file = refl

-- ---- each refusal

bad_byte : translation true (codes "[Parameter]\nA (int): 1 -- \u{7}\n") ≡ Err (2, A1)
bad_byte = refl

out_of_place : translation true (codes "[Relation]\n[Parameter]\n") ≡ Err (2, A2)
out_of_place = refl

before_all : translation true (codes "\nA (int): 1\n[Parameter]\n") ≡ Err (2, A2)
before_all = refl

unknown_header : translation true (codes "[System]\nignored = [\n[ Parameter]\n") ≡ Err (3, A2)
unknown_header = refl

no_parameter_line : translation true (codes "[Parameter]\nA (int): 1,\n") ≡ Err (2, A3)
no_parameter_line = refl

ten_digits : translation true (codes "[Parameter]\nA (int): 1234567890\n") ≡ Err (2, A3)
ten_digits = refl

repeated_name : translation true (codes "[Parameter]\nA (int): 1\na (enum): x\n") ≡ Err (3, A4)
repeated_name = refl

two_names : translation false (codes "[Parameter]\nA (int): 1\na (enum): x, X\n") ≡ Ok (codes "\nA: 1\na: x, X\n")
two_names = refl

repeated_value : translation true (codes "[Parameter]\nA (enum): x, X\n") ≡ Err (2, A4)
repeated_value = refl

repeated_truth : translation false (codes "[Parameter]\nA (boolean): TRUE, true\n") ≡ Err (2, A4)
repeated_truth = refl

two_texts : translation true (codes "[Parameter]\nA (int): 1, 01\n") ≡ Ok (codes "\nA: 1, 01\n")
two_texts = refl

no_relation_line : translation true (codes "[Parameter]\nA (int): 1\n[Relation]\nR: (A)\n") ≡ Err (4, A5)
no_relation_line = refl

unknown_member : translation true (codes "[Parameter]\nA (int): 1\n[Relation]\nR: (A, B, 9)\n") ≡ Err (4, A6)
unknown_member = refl

repeated_member : translation true (codes "[Parameter]\nA (int): 1\n[Relation]\nR: (A, a, 1)\n") ≡ Err (4, A6)
repeated_member = refl

strength : translation true (codes "[Parameter]\nA (int): 1\n[Relation]\nR: (A, 2)\n") ≡ Err (4, A7)
strength = refl

no_strength : translation true (codes "[Parameter]\nA (int): 1\n[Relation]\nR: (A, 0)\n") ≡ Err (4, A7)
no_strength = refl

nothing : translation true [] ≡ Err (1, A8)
nothing = refl

no_parameters : translation true (codes "[Parameter]\n\n[Relation]\n") ≡ Err (1, A8)
no_parameters = refl

no_constraint : translation true (codes "[Parameter]\nA (int): 1\n[Constraint]\nA = 1 => A = 1 => A = 1\n") ≡ Err (4, A9)
no_constraint = refl

unknown_name : translation true (codes "[Parameter]\nA (int): 1\n[Constraint]\nA = x\n") ≡ Err (4, A10)
unknown_name = refl

unknown_first : translation true (codes "[Parameter]\nA (int): 1\n[Constraint]\nA = \"x\" && B = 1\n") ≡ Err (4, A10)
unknown_first = refl

order_of_texts : translation true (codes "[Parameter]\nA (enum): x\n[Constraint]\nA < A\n") ≡ Err (4, A11)
order_of_texts = refl

text_of_truth : translation true (codes "[Parameter]\nA (boolean): TRUE\n[Constraint]\nA = \"TRUE\"\n") ≡ Err (4, A11)
text_of_truth = refl

-- ---- lines and tokens

comment : line_text (codes " A = \"--\" -- \"B\" ") ≡ codes "A = \"--\""
comment = refl

no_comment : line_text (codes "A - - B -") ≡ codes "A - - B -"
no_comment = refl

tokens : tokens_found (codes "A1>-02||true!=\"a b\"") ≡ Some (Name (codes "A1") ∷ Relation Gt ∷ Whole (codes "-02") ∷ Or ∷ Truth true ∷ Relation Ne ∷ Words (codes "a b") ∷ [])
tokens = refl

no_tokens : tokens_found (codes "A = \"a\\b\"") ≡ None
no_tokens = refl

open_text : tokens_found (codes "A = \"a") ≡ None
open_text = refl

lone_bar : tokens_found (codes "A | B") ≡ None
lone_bar = refl

-- ---- the grammar

-- `&&` binds more than `||`, and `=>` less than both
binding : spelled_by (tokens_found (codes "A=1||B=2&&C=3=>D=4||E=5"))
    ≡ Some (Implies
    (Either (More (Compares (codes "A") Eq (OfWhole (codes "1"))) (More (Each (More (Compares (codes "B") Eq (OfWhole (codes "2"))) (More (Compares (codes "C") Eq (OfWhole (codes "3"))) End))) End)))
    (Either (More (Compares (codes "D") Eq (OfWhole (codes "4"))) (More (Compares (codes "E") Eq (OfWhole (codes "5"))) End))))
binding = refl

parentheses : spelled_by (tokens_found (codes "!(A = 1 && (B = \"x\"))"))
    ≡ Some (Plain (Negated (Each (More (Compares (codes "A") Eq (OfWhole (codes "1"))) (More (Compares (codes "B") Eq (OfText (codes "x"))) End)))))
parentheses = refl

not_of_truth : spelled_by (tokens_found (codes "! ! A = False")) ≡ Some (Plain (Negated (Negated (Compares (codes "A") Eq (OfTruth false)))))
not_of_truth = refl

inside_parentheses : spelled_by (tokens_found (codes "(A = 1 => B = 1)")) ≡ None
inside_parentheses = refl

not_closed : spelled_by (tokens_found (codes "(A = 1")) ≡ None
not_closed = refl

side_by_side : spelled_by (tokens_found (codes "(A = 1) (B = 1)")) ≡ None
side_by_side = refl

crossed : spelled_by (tokens_found (codes "A = 1) || (B = 1")) ≡ None
crossed = refl

truth_is_no_name : spelled_by (tokens_found (codes "TRUE = A")) ≡ None
truth_is_no_name = refl

-- so many `!` and `(` may be open, and no more
deep : cons_of 2 (Not ∷ Not ∷ Name (codes "A") ∷ Relation Eq ∷ Whole (codes "1") ∷ []) ≡ Some (Plain (Negated (Negated (Compares (codes "A") Eq (OfWhole (codes "1"))))))
deep = refl

too_deep : cons_of 1 (Not ∷ Not ∷ Name (codes "A") ∷ Relation Eq ∷ Whole (codes "1") ∷ []) ≡ None
too_deep = refl
