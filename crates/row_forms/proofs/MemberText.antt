-- A member of an object of JSON, as it is printed.
use Rattle.std.proofs.Common.{◌≡◌, ℕ, List, [], ◌∷◌, ◌++◌, ◌∙◌, ap, append-nil}
use Rattle.std.specs.Prelude.{Option, Some, None}
use Rattle.json.specs.Token.{Token, key}
use Rattle.json.specs.Print.{print, print_from, token_text}
use Rattle.row_forms.specs.believed.Json.{member_text, cell_token}

print-member : (name : List ℕ) (cell : Option (List ℕ)) → print (key name ∷ cell_token cell ∷ []) ≡ member_text name cell
unfolding print_from
print-member name None = ap (λ (l : List ℕ). token_text (key name) ++ l) (append-nil (token_text (cell_token None)))
print-member name (Some text) = ap (λ (l : List ℕ). token_text (key name) ++ l) (append-nil (token_text (cell_token (Some text))))

-- what a writer gives that began with nothing and got a name and a value
pub written-member : (name : List ℕ) (cell : Option (List ℕ)) (before : List ℕ) (tokens : List Token) → before ≡ [] → tokens ≡ key name ∷ cell_token cell ∷ []
    → before ++ print tokens ≡ member_text name cell
written-member name cell before tokens none two = ap (λ (b : List ℕ). b ++ print tokens) none ∙ ap print two ∙ print-member name cell
