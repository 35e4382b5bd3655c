-- What is told of a model, as lines and as an array of objects. (GNU's form of lines; RFC 8259.)
use Rattle.std.specs.Prelude.{ℕ, ◌==◌, List, [], ◌∷◌, ◌++◌, map, flat_map, Option, Some, None, codes, decimal, if◌then◌else◌}
use Rattle.json.specs.Token.{Token, begin_array, begin_object, end_array, end_object, key, null, number, string}
use Rattle.json.specs.Print.{print}
use Rattle.cov_model.specs.believed.Names.{is_plain}
use Rattle.jeldroft_lint.specs.declared.remark.Remark.{Remark}
use Rattle.jeldroft_lint.specs.believed.Kinds.{kind_name}

-- ---- lines: `model.txt:19:28: warning: WORDS [unknown-value]`

-- a line or a column behind a colon, where there is one
abbrev pub known_text : ℕ → List ℕ
known_text n = if n == 0 then [] else codes ":" ++ decimal n

-- where a remark stands: the file, the line where it has one, and the column where one is known
abbrev pub place_text : List ℕ → Remark → List ℕ
place_text file remark = if remark.line == 0 then file else file ++ known_text remark.line ++ known_text remark.column

-- a question mark stands for a control character, a line feed among them
abbrev pub shown_byte : ℕ → ℕ
shown_byte byte = if is_plain byte then byte else 63

abbrev pub line_text : List ℕ → Remark → List ℕ
line_text file remark =
    place_text file remark ++ codes ": warning: " ++ map shown_byte remark.words ++ (codes " [" ++ kind_name remark.kind ++ codes "]\n")

abbrev pub lines_text : List ℕ → List Remark → List ℕ
lines_text file told = flat_map (line_text file) told

-- ---- objects

-- a text, and a line or a column; null where there is none
abbrev pub text_token : Option (List ℕ) → Token
text_token None = null
text_token (Some text) = string text

abbrev pub known_token : ℕ → Token
known_token n = if n == 0 then null else number (decimal n)

-- the members of an object: where a remark stands, and what it is about
abbrev pub place_tokens : List ℕ → Remark → List Token
place_tokens file remark =
    key (codes "file") ∷ string file ∷ key (codes "line") ∷ known_token remark.line ∷ key (codes "column") ∷ known_token remark.column ∷ []

abbrev pub number_tokens : List ℕ → List Token
number_tokens numbers = key (codes "constraints") ∷ begin_array ∷ (map (λ n. number (decimal n)) numbers ++ end_array ∷ [])

abbrev pub subject_tokens : Remark → List Token
subject_tokens remark =
    key (codes "parameter") ∷ text_token remark.parameter ∷ key (codes "value") ∷ text_token remark.value ∷ number_tokens remark.constraints

abbrev pub object_tokens : List ℕ → Remark → List Token
object_tokens file remark =
    begin_object ∷ key (codes "name") ∷ string (kind_name remark.kind)
    ∷ (place_tokens file remark ++ subject_tokens remark ++ key (codes "text") ∷ string remark.words ∷ end_object ∷ [])

abbrev pub objects_tokens : List ℕ → List Remark → List Token
objects_tokens file told = flat_map (object_tokens file) told

-- the array, as its tokens and as it is printed
abbrev pub array_tokens : List ℕ → List Remark → List Token
array_tokens file told = begin_array ∷ (objects_tokens file told ++ end_array ∷ [])

abbrev pub array_text : List ℕ → List Remark → List ℕ
array_text file told = print (array_tokens file told) ++ codes "\n"
