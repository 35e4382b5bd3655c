-- The definitions of lines and sections, computed on small files.
use Rattle.std.proofs.Common.{◌≡◌, true, false, [], ◌∷◌, ◌++◌, refl}
use Rattle.std.specs.Prelude.{Ok, Err, codes}
use Rattle.std.specs.Str.{chars, is_utf8}
use Rattle.model_lex.specs.believed.Blanks.{trimmed}
use Rattle.model_lex.specs.believed.Lines.{file_lines, numbered_lines}
use Rattle.model_lex.specs.believed.Sections.{opens_rule, sections_of}
use Rattle.model_lex.specs.declared.diag.DiagCode.TheVariants.{LateParameter, NoColon, NotText}

-- one carriage return goes at a line feed and at the end of the file, and the last line needs a byte
ends : file_lines (codes "a" ++ (13 ∷ 10 ∷ 13 ∷ 13 ∷ 10 ∷ 10 ∷ codes "b") ++ (13 ∷ [])) ≡ codes "a" ∷ (13 ∷ []) ∷ [] ∷ codes "b" ∷ []
ends = refl

last : file_lines (codes "a" ++ (10 ∷ [])) ≡ codes "a" ∷ []
last = refl

-- a byte-order mark goes at the start alone
marked : numbered_lines (0xef ∷ 0xbb ∷ 0xbf ∷ codes "a" ++ (10 ∷ 0xef ∷ 0xbb ∷ 0xbf ∷ [])) ≡ (1, codes "a") ∷ (2, 0xef ∷ 0xbb ∷ 0xbf ∷ []) ∷ []
marked = refl

trims : trimmed (9 ∷ codes " a b  ") ≡ codes "a b"
trims = refl

-- what opens a constraint
words : opens_rule (codes " if Not") ≡ true
words = refl

bracket : opens_rule (codes "IsNegative (x): 1") ≡ true
bracket = refl

name : opens_rule (codes "If: 1, 2") ≡ false
name = refl

longer : opens_rule (codes "NOT_ [A]: 1") ≡ false
longer = refl

blank : opens_rule (codes "  ") ≡ false
blank = refl

-- a comment needn't be UTF-8, and from the first constraint on each line is one
sorted :
    sections_of (codes "# " ++ (0xff ∷ 10 ∷ codes "A: 1" ++ (10 ∷ codes "{ A }" ++ (10 ∷ codes "[A] = 1;" ++ (10 ∷ codes "B")))))
    ≡ Ok (record { params = (2, codes "A: 1") ∷ []; groups = (3, codes "{ A }") ∷ []; rules = (4, codes "[A] = 1;") ∷ (5, codes "B") ∷ [] })
unfolding is_utf8 chars lib.Utf8.encode
sorted = refl

-- the first refusals
no_text : sections_of (codes "{ A }" ++ (10 ∷ 0xff ∷ [])) ≡ Err (record { line = 2; code = NotText })
unfolding is_utf8 chars lib.Utf8.encode
no_text = refl

late : sections_of (codes "{ A }" ++ (10 ∷ codes "B")) ≡ Err (record { line = 2; code = LateParameter })
unfolding is_utf8 chars lib.Utf8.encode
late = refl

colon : sections_of (codes "A 1" ++ (10 ∷ 0xff ∷ [])) ≡ Err (record { line = 1; code = NoColon })
unfolding is_utf8 chars lib.Utf8.encode
colon = refl
