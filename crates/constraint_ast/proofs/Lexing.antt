-- The tokens of a line, from place to place.
use Rattle.std.proofs.Common.{◌≡◌, ℕ, zero, suc, ◌+◌, ◌-◌, ◌<◌, ◌≤◌, Bool, true, false, List, [], ◌∷◌, ◌++◌, length, take, drop}
use Rattle.std.proofs.Common.{get_or, refl, ap, sym, subst, arith, ◌∙◌, append_assoc, append-nil, get_or-drop, length-drop, one-add}
use Rattle.std.specs.List.{prefix_len}
use Rattle.std.specs.Prelude.{Result, Ok, Err, MatchResult, nat_eq}
use Rattle.std.specs.Result.{IsErrAnd}
use Rattle.std.proofs.lemmas.Str.{IsCharBoundary-start}
use Rattle.std.specs.Str.{IsCharBoundary, IsUtf8}
use Rattle.std.proofs.lemmas.Bool.{eqb-true}
use Rattle.std.proofs.lemmas.Bool.Decides.{nat_tests}
use Rattle.std.proofs.lemmas.List.Sums.{prefix_len-le-length}
use Rattle.std.proofs.lemmas.List.{drop-drop, drop_all, get_or-take, length-take-le}
use Rattle.value_text.specs.believed.Texts.{is_blank}
use Rattle.model_lex.specs.Tokens.{HasMarks, StandsBetween, lexed_at, token_at}
use Rattle.model_lex.specs.believed.Tokens.{first_token}
use Rattle.model_lex.specs.declared.diag.Diag.{Diag}
use Rattle.model_lex.specs.declared.diag.DiagCode.{DiagCode}
use Rattle.model_lex.specs.declared.fault.ModelFault.{ModelFault}
use Rattle.model_lex.specs.declared.fault.ModelFault.TheVariants.{BadRule}
use Rattle.model_lex.specs.declared.fault.ModelFault.TheVariants as faults
use Rattle.constraint_ast.specs.Reading.{IfRefused}
use Rattle.model_lex.specs.declared.token.Token.{Token}
use Rattle.model_lex.specs.declared.token.TokenKind.{TokenKind}
use Rattle.model_lex.specs.declared.token.Lexed.{Lexed}
use Rattle.model_lex.specs.declared.token.Lexed.TheVariants.{Token as Found, End, Bad}
use Rattle.model_lex.proofs.Forms.{token_behind_blanks}
use Rattle.model_lex.proofs.Opening.{solid}
use Rattle.constraint_ast.specs.believed.Lexing.{both_tokens, meant, token_before, tokens_in}
use Rattle.constraint_ast.specs.declared.token.LineToken.{LineToken}
use Rattle.constraint_ast.specs.declared.token.RuleToken.{RuleToken}

-- behind the rest of a token, and behind blanks
pub rest_skipped : (line n : ℕ) (text : List ℕ) → tokens_in line n text ≡ tokens_in line 0 (drop n text)
rest_skipped line zero text = refl
rest_skipped line (suc n) [] = refl
rest_skipped line (suc n) (b ∷ text) = rest_skipped line n text

blanks_skipped : (line : ℕ) (text : List ℕ) → tokens_in line 0 (drop (prefix_len is_blank text) text) ≡ tokens_in line 0 text
blanks_skipped line [] = refl
blanks_skipped line (b ∷ text) = at (is_blank b) refl (blanks_skipped line text)
  where
    at :
        (blank : Bool) → is_blank b ≡ blank → tokens_in line 0 (drop (prefix_len is_blank text) text) ≡ tokens_in line 0 text
        → tokens_in line 0 (drop (prefix_len is_blank (b ∷ text)) (b ∷ text)) ≡ tokens_in line 0 (b ∷ text)
    at true e rest = rw (e, one-add) rest
    at false e rest =
        let same : drop (prefix_len is_blank (b ∷ text)) (b ∷ text) ≡ b ∷ text = rw e refl in
        ap (λ left. tokens_in line 0 left) same

-- what is lexed at a place is what the tokens of the line begin with
abbrev pub FollowsLexed : ℕ → List ℕ → List ℕ → Lexed → Type 0
FollowsLexed number text behind (Found token) =
    token.start < token.end → tokens_in number 0 behind ≡ token_before number (meant token.kind (take (token.end - token.start) (drop token.start text))) (tokens_in number 0 (drop token.end text))
FollowsLexed number text behind End = tokens_in number 0 behind ≡ Ok []
FollowsLexed number text behind (Bad code) = tokens_in number 0 behind ≡ Err (record { line = number; code = code })

-- a text that begins with no blank
first_lexed :
    (number : ℕ) (text : List ℕ) (start : ℕ) (left : List ℕ) → left ≡ drop start text
    → 0 < length left → is_blank (get_or left 0 0) ≡ false → (found : Result (TokenKind × ℕ) DiagCode)
    → first_token left ≡ found → FollowsLexed number text left (lexed_at start found)
first_lexed number text start [] place some dense found e = absurd (omega arith)
first_lexed number text start (b ∷ left) place some dense (Err code) e = rw (dense, e) refl
first_lexed number text start (b ∷ left) place some dense (Ok (kind, zero)) e = λ longer. absurd (omega arith)
first_lexed number text start (b ∷ left) place some dense (Ok (kind, suc len)) e = λ longer.
    let size : start + suc len - start ≡ suc len = omega arith in
    let one : suc len - 1 ≡ len = omega arith in
    let behind : drop len left ≡ drop (start + suc len) text = ap (λ left. drop (suc len) left) place ∙ drop-drop (suc len) start text in
    let step : tokens_in number 0 (b ∷ left) ≡ token_before number (meant kind (take (suc len) (b ∷ left))) (tokens_in number (suc len - 1) left) = rw (dense, e) refl in
    step
    ∙ (ap (λ n. token_before number (meant kind (take (suc len) (b ∷ left))) (tokens_in number n left)) one
    ∙ (ap (λ rest. token_before number (meant kind (take (suc len) (b ∷ left))) rest) (rest_skipped number len left ∙ ap (λ rest. tokens_in number 0 rest) behind)
    ∙ (ap (λ piece. token_before number (meant kind piece) (tokens_in number 0 (drop (start + suc len) text)))
    (ap (λ left. take (suc len) left) place ∙ ap (λ n. take n (drop start text)) (sym size)))))

left_at : (number : ℕ) (text : List ℕ) (at start : ℕ) → start ≡ at + prefix_len is_blank (drop at text) → drop (prefix_len is_blank (drop at text)) (drop at text) ≡ drop start text
left_at number text at start place = drop-drop (prefix_len is_blank (drop at text)) at text ∙ ap (λ n. drop n text) (sym place)

moved : (number : ℕ) (text behind other : List ℕ) (found : Lexed) → tokens_in number 0 behind ≡ tokens_in number 0 other
    → FollowsLexed number text other found → FollowsLexed number text behind found
moved number text behind other (Found token) same follows = λ longer. same ∙ follows longer
moved number text behind other End same follows = same ∙ follows
moved number text behind other (Bad code) same follows = same ∙ follows

pub lexed : (number : ℕ) (text : List ℕ) (at start : ℕ) → at ≤ length text
    → start ≡ at + prefix_len is_blank (drop at text) → FollowsLexed number text (drop at text) (token_at text at)
lexed number text at start within place =
    moved number text (drop at text) (drop start text) (token_at text at)
    (sym (blanks_skipped number (drop at text)) ∙ ap (λ left. tokens_in number 0 left) (left_at number text at start place))
    (cases (nat_eq start (length text)) refl)
  where
    ends : nat_eq start (length text) ≡ true → token_at text at ≡ End
    ends e = rw (← place, e) refl

    cases : (ends : Bool) → nat_eq start (length text) ≡ ends → FollowsLexed number text (drop start text) (token_at text at)
    cases true e =
        let over : start ≡ length text = eqb-true start (length text) e in
        subst (λ found. FollowsLexed number text (drop start text) found) (sym (ends e)) (ap (λ left. tokens_in number 0 left) (drop_all start text (omega arith)))
    cases false e =
        let differs : start ≡ length text → ⊥ = λ same. absurd (grind (arith, nat_tests)) in
        let run : prefix_len is_blank (drop at text) ≤ length (drop at text) = prefix_len-le-length is_blank (drop at text) in
        let short : start < length text = omega (arith, length-drop at text, differs) in
        let some : 0 < length (drop start text) = omega (arith, length-drop start text) in
        let here : drop (prefix_len is_blank (drop at text)) (drop at text) ≡ drop start text = left_at number text at start place in
        let dense : is_blank (get_or (drop start text) 0 0) ≡ false =
        subst (λ left. 0 < length left → is_blank (get_or left 0 0) ≡ false) here (solid (drop at text)) some in
        subst (λ found. FollowsLexed number text (drop start text) found) (sym (token_behind_blanks text at start place differs))
        (first_lexed number text start (drop start text) refl some dense (first_token (drop start text)) refl)

-- the tokens that are read before others
pub one_token : (line : ℕ) (token : RuleToken) (read : List LineToken) (rest : Result (List LineToken) Diag)
    → both_tokens (Ok read) (token_before line (Ok token) rest) ≡ both_tokens (Ok (read ++ record { line = line; token = token } ∷ [])) rest
one_token line token read (Ok tokens) = ap Ok (sym (append_assoc read (record { line = line; token = token } ∷ []) tokens))
one_token line token read (Err diag) = refl

nothing_read : (rest : Result (List LineToken) Diag) → rest ≡ both_tokens (Ok []) rest
nothing_read (Ok tokens) = refl
nothing_read (Err diag) = refl

-- so much of a line is read
pub record ReadsTo (number : ℕ) (text : List ℕ) (old tokens : List LineToken) (at : ℕ) : Type 0 where
  pub read : List LineToken
  pub grown : tokens ≡ old ++ read
  pub reads : tokens_in number 0 text ≡ both_tokens (Ok read) (tokens_in number 0 (drop at text))
  pub cut : IsCharBoundary text at

pub at_start : (number : ℕ) (text : List ℕ) (old : List LineToken) → IsUtf8 text → ReadsTo number text old old 0
at_start number text old utf8 = record { read = []; grown = sym (append-nil old); reads = nothing_read (tokens_in number 0 text); cut = IsCharBoundary-start text utf8 }

module _ (number : ℕ) (text : List ℕ) (old tokens : List LineToken) (at : ℕ) (here : ReadsTo number text old tokens at) where
  follows : (found : Lexed) → token_at text at ≡ found → FollowsLexed number text (drop at text) found
  follows found e = subst (λ found. FollowsLexed number text (drop at text) found) e (lexed number text at (at + prefix_len is_blank (drop at text)) here.cut.0 refl)

  pub ends_line : token_at text at ≡ End → (read : List LineToken) × (tokens_in number 0 text ≡ Ok read) × (tokens ≡ old ++ read)
  ends_line e = (here.read, here.reads ∙ (ap (λ rest. both_tokens (Ok here.read) rest) (follows End e) ∙ ap Ok (append-nil here.read)), here.grown)

  pub no_token : (code : DiagCode) → token_at text at ≡ Bad code → tokens_in number 0 text ≡ Err (record { line = number; code = code })
  no_token code e = here.reads ∙ ap (λ rest. both_tokens (Ok here.read) rest) (follows (Bad code) e)

  module _ (token : Token) (e : token_at text at ≡ Found token) (longer : token.start < token.end) where
    pub no_meaning : (code : DiagCode) → meant token.kind (take (token.end - token.start) (drop token.start text)) ≡ Err code
        → tokens_in number 0 text ≡ Err (record { line = number; code = code })
    no_meaning code none =
        here.reads
        ∙ ap (λ rest. both_tokens (Ok here.read) rest)
        (follows (Found token) e longer ∙ ap (λ meaning. token_before number meaning (tokens_in number 0 (drop token.end text))) none)

    pub next_token : (meaning : RuleToken) (list : List LineToken) → meant token.kind (take (token.end - token.start) (drop token.start text)) ≡ Ok meaning
        → list ≡ tokens ++ record { line = number; token = meaning } ∷ [] → IsCharBoundary text token.end → ReadsTo number text old list token.end
    next_token meaning list means is cut = record {
      read = here.read ++ record { line = number; token = meaning } ∷ [];
      grown = is ∙ (ap (λ front. front ++ record { line = number; token = meaning } ∷ []) here.grown ∙ append_assoc old here.read (record { line = number; token = meaning } ∷ []));
      reads = here.reads
          ∙ (ap (λ rest. both_tokens (Ok here.read) rest)
          (follows (Found token) e longer ∙ ap (λ meaning. token_before number meaning (tokens_in number 0 (drop token.end text))) means)
          ∙ one_token number meaning here.read (tokens_in number 0 (drop token.end text)));
      cut = cut;
    }

-- the marks of a token are those of its text
slice_between :
    (line : List ℕ) (token : Token) (opening closing : ℕ) → token.end ≤ length line → StandsBetween line token opening closing
    → StandsBetween (take (token.end - token.start) (drop token.start line))
    (record { kind = token.kind; start = 0; end = length (take (token.end - token.start) (drop token.start line)) }) opening closing
slice_between line token opening closing within here =
    let size : length (take (token.end - token.start) (drop token.start line)) ≡ token.end - token.start =
    length-take-le (token.end - token.start) (drop token.start line) (omega (arith, length-drop token.start line, here.both)) in
    let first : get_or (take (token.end - token.start) (drop token.start line)) 0 0 ≡ opening =
    get_or-take (token.end - token.start) (drop token.start line) 0 0 (omega (arith, here.both))
    ∙ (get_or-drop token.start line 0 0 ∙ (ap (λ k. get_or line k 0) (omega arith) ∙ here.first)) in
    let last : get_or (take (token.end - token.start) (drop token.start line)) (token.end - token.start - 1) 0 ≡ closing =
    get_or-take (token.end - token.start) (drop token.start line) (token.end - token.start - 1) 0 (omega (arith, here.both))
    ∙ (get_or-drop token.start line (token.end - token.start - 1) 0 ∙ (ap (λ k. get_or line k 0) (omega (arith, here.both)) ∙ here.last)) in
    record {
      both = omega (arith, size, here.both);
      first = first;
      last = ap (λ n. get_or (take (token.end - token.start) (drop token.start line)) (n - 1) 0) size ∙ last;
    }

pub slice_marks :
    (line : List ℕ) (token : Token) (text : List ℕ) → text ≡ take (token.end - token.start) (drop token.start line) → token.end ≤ length line → HasMarks line token
    → HasMarks text (record { kind = token.kind; start = 0; end = length text })
slice_marks line token text is within marks =
    subst (λ text. HasMarks text (record { kind = token.kind; start = 0; end = length text })) (sym is)
    (λ name. slice_between line token 91 93 within (marks.0 name), λ words. slice_between line token 34 34 within (marks.1 words))

-- the refusal of a token that means nothing
pub no_meaning_fault :
    (number : ℕ) (text : List ℕ) (old tokens : List LineToken) (at : ℕ) → ReadsTo number text old tokens at
    → (token : Token) → token_at text at ≡ Found token → token.start < token.end → (fault : ModelFault)
    → IfRefused fault (λ diag. (diag.line ≡ number) × (meant token.kind (take (token.end - token.start) (drop token.start text)) ≡ Err diag.code))
    → IfRefused fault (λ diag. tokens_in number 0 text ≡ Err diag)
no_meaning_fault number text old tokens at here token e longer (BadRule diag) told =
    no_meaning number text old tokens at here token e longer diag.code told.1 ∙ ap (λ line. Err (record { line = line; code = diag.code })) (sym told.0)
no_meaning_fault number text old tokens at here token e longer (faults.Bad diag) told = told
no_meaning_fault number text old tokens at here token e longer (faults.Limit limit count) told = told
no_meaning_fault number text old tokens at here token e longer faults.NoMemory told = told

-- what holds of a fault that is handed on
pub handed_on : {A E : Type 0} (P : A → Type 0) (Q : E → Type 0) (result : Result A E) (fault : E) → IsErrAnd result (λ told. told ≡ fault)
    → Q fault → MatchResult result P Q
handed_on P Q (Ok a) fault same holds = absurd same
handed_on P Q (Err told) fault same holds = subst Q (sym same) holds
