-- The values that a parameter line gives are sound, and their names are distinct.
use Rattle.std.proofs.Common.{◌≡◌, ◌≢◌, ℕ, ◌<◌, Bool, true, false, cond, List, [], ◌∷◌, ◌++◌, map, length, get_or, All, AllPairs, Option}
use Rattle.std.proofs.Common.{Some, None, Ok, IfOk, refl, sym, ◌∙◌, ap, subst, arith, flat_map, position, ltb, eqb}
use Rattle.std.proofs.lemmas.Bool.{true≢false, false_from_ne_true, ltb-false, eqb-false, eqb-true, cond_both}
use Rattle.std.proofs.lemmas.Grind.{flat_map-append}
use Rattle.std.proofs.lemmas.List.{append-nil, nil_from_length, append_assoc, length-map, length-append, map-append, get_or-map}
use Rattle.std.proofs.lemmas.List.Elements.{All-nil, All-cons, All-head, All-tail, All-push, All-weaker}
use Rattle.std.proofs.lemmas.List.Folds.{list_any_at}
use Rattle.std.proofs.lemmas.List.Quantifiers.{all_pairs_push, position-Some}
use Rattle.std.proofs.lemmas.Slice.Eq.{bytes_eq-Decides}
use Rattle.std.specs.List.{list_any}
use Rattle.std.specs.Str.{bytes_eq}
use Rattle.value_text.specs.believed.Texts.{folded, is_same_text}
use Rattle.cov_model.specs.declared.parameter.Param.{Param}
use Rattle.cov_model.specs.declared.parameter.Value.{Value}
use Rattle.cov_model.specs.believed.Sound.{IsSoundValue, IsSoundParam, param_at, no_param}
use Rattle.model_lex.specs.declared.diag.DiagCode.TheVariants.{BadWeight}
use Rattle.model_lex.specs.declared.options.ModelOpts.{ModelOpts}
use Rattle.model_parse.specs.declared.reading.Reading.{Reading}
use Rattle.model_parse.specs.believed.Pieces.{pieces}
use Rattle.model_parse.specs.believed.Values.{is_reference, referred, without_prefix, weight_of, names_text, names_of, piece_code, value_of}
use Rattle.model_parse.specs.ValueSteps.{Kept, is_known, place_of, is_weight, names_code, values_at, piece_values, keep_name, keep_names, add_kept, add_value, add_piece}
use Rattle.model_parse.proofs.Keeping.{then_ok, accepted_ok, each_some}
use Rattle.model_parse.proofs.SoundNames.{IsSoundName, part_names, some_pieces}

-- a text that isn't known is apart from each known one
pub unknown_apart : (fold : Bool) (known : List (List ℕ)) (name : List ℕ) → is_known fold known name ≡ false → (i : ℕ) (d : List ℕ) → i < length known
    → bytes_eq (get_or known i d) (folded fold name) ≡ false
unknown_apart fold known name new i d within =
    false_from_ne_true (bytes_eq (get_or known i d) (folded fold name)) (λ same.
    let one : get_or known i d ≡ folded fold name = (bytes_eq-Decides (get_or known i d) (folded fold name)).0 same in
    let turned : bytes_eq (folded fold name) (get_or known i d) ≡ true = (bytes_eq-Decides (folded fold name) (get_or known i d)).1 (sym one) in
    true≢false (sym (list_any_at (bytes_eq (folded fold name)) known i d within turned) ∙ new))

-- texts, known as the case rule compares them, are distinct
pub record AreKnown (fold : Bool) (texts known : List (List ℕ)) : Type 0 where
  pub as_folded : known ≡ map (folded fold) texts
  pub distinct : AllPairs (λ a b. is_same_text fold a b ≡ false) texts

-- one more that isn't known
pub known_more : (fold : Bool) (texts known : List (List ℕ)) (name : List ℕ) → AreKnown fold texts known → is_known fold known name ≡ false
    → AreKnown fold (texts ++ name ∷ []) (known ++ folded fold name ∷ [])
known_more fold texts known name are new = record {
  as_folded = ap (λ ks. ks ++ folded fold name ∷ []) are.as_folded ∙ sym (map-append (folded fold) texts (name ∷ []));
  distinct = all_pairs_push (λ a b. is_same_text fold a b ≡ false) texts name are.distinct (λ i d within.
      let long : length known ≡ length texts = ap length are.as_folded ∙ length-map texts (folded fold) in
      let at : get_or known i [] ≡ folded fold (get_or texts i d) = ap (λ ks. get_or ks i []) are.as_folded ∙ get_or-map (folded fold) texts i d [] within in
      subst (λ t. bytes_eq t (folded fold name) ≡ false) at (unknown_apart fold known name new i [] (omega (arith, long))));
}

-- the names of values, one after another
abbrev pub texts_of : List Value → List (List ℕ)
texts_of values = flat_map (λ value. value.names) values

-- the names that are kept of a value, behind these
record IsKept (prefix : ℕ) (fold : Bool) (before : List (List ℕ)) (kept : Kept) : Type 0 where
  names : All (IsSoundName prefix) kept.names
  are : AreKnown fold (before ++ kept.names) kept.known

-- and a name is known
record IsKeptSome (prefix : ℕ) (fold : Bool) (before : List (List ℕ)) (kept : Kept) : Type 0 where
  is : IsKept prefix fold before kept
  some : 0 < length kept.known

any_some : {X : Type 0} (p : X → Bool) (xs : List X) → list_any p xs ≡ true → 0 < length xs
any_some p [] e = absurd (true≢false (sym e))
any_some p (x ∷ xs) e = omega arith

module _ (prefix : ℕ) (fold : Bool) (line : ℕ) (before : List (List ℕ)) where
  keep_ok : (kept : Kept) (name : List ℕ) → IsSoundName prefix name → IsKept prefix fold before kept → IsKeptSome prefix fold before (keep_name fold line kept name)
  keep_ok kept name sound is =
      cond_both (is_known fold kept.known name) _ _ (IsKeptSome prefix fold before)
      (λ known. record { is = record { names = is.names; are = is.are }; some = any_some (bytes_eq (folded fold name)) kept.known known })
      (λ new. record {
        is = record {
          names = All-push (IsSoundName prefix) kept.names name is.names sound;
          are =
              subst (λ texts. AreKnown fold texts (kept.known ++ folded fold name ∷ [])) (append_assoc before kept.names (name ∷ []))
              (known_more fold (before ++ kept.names) kept.known name is.are new);
        };
        some = omega (arith, length-append kept.known (folded fold name ∷ []));
      })

  keep_more : (names : List (List ℕ)) (kept : Kept) → All (IsSoundName prefix) names → IsKeptSome prefix fold before kept → IsKeptSome prefix fold before (keep_names fold line kept names)
  keep_more [] kept sound is = is
  keep_more (name ∷ names) kept sound is =
      keep_more names (keep_name fold line kept name) (All-tail (IsSoundName prefix) name names sound) (keep_ok kept name (All-head (IsSoundName prefix) name names sound) is.is)

  keep_some : (names : List (List ℕ)) (kept : Kept) → All (IsSoundName prefix) names → 0 < length names → IsKept prefix fold before kept
      → IsKeptSome prefix fold before (keep_names fold line kept names)
  keep_some [] kept sound some is = absurd (omega arith)
  keep_some (name ∷ names) kept sound some is =
      keep_more names (keep_name fold line kept name) (All-tail (IsSoundName prefix) name names sound) (keep_ok kept name (All-head (IsSoundName prefix) name names sound) is)

-- what has been read of a parameter's values
pub record IsRead (prefix : ℕ) (fold : Bool) (read : Reading) : Type 0 where
  pub values : All (IsSoundValue prefix) read.values
  pub are : AreKnown fold (texts_of read.values) read.known

-- and a name is known
pub record IsReadSome (prefix : ℕ) (fold : Bool) (read : Reading) : Type 0 where
  pub is : IsRead prefix fold read
  pub some : 0 < length read.known

-- what a value brings that is added
record IsAddable (prefix : ℕ) (value : Value) : Type 0 where
  names : All (IsSoundName prefix) value.names
  some : 0 < length value.names

value_kept : (prefix : ℕ) (fold : Bool) (values : List Value) (value : Value) (kept : Kept) → IsKeptSome prefix fold (texts_of values) kept → All (IsSoundValue prefix) values
    → IfOk (add_kept values value kept) (IsReadSome prefix fold)
value_kept prefix fold values value kept is sound =
    cond_both (ltb 64 (length kept.names)) _ _ (λ r. IfOk r (IsReadSome prefix fold)) (λ many. tt) (λ few.
    cond_both (eqb (length kept.names) 0) values (values ++ added ∷ []) (λ vs. IsReadSome prefix fold (record { values = vs; known = kept.known; notes = kept.notes }))
    (λ none.
    let empty : kept.names ≡ [] = nil_from_length kept.names (eqb-true (length kept.names) 0 none) in
    record {
      is = record { values = sound; are = subst (λ texts. AreKnown fold texts kept.known) (ap (λ ns. texts_of values ++ ns) empty ∙ append-nil (texts_of values)) is.is.are };
      some = is.some;
    })
    (λ some.
    let apart : length kept.names ≢ 0 = eqb-false (length kept.names) 0 some in
    let one : IsSoundValue prefix added = record {
      some = omega (arith, apart);
      few = ltb-false 64 (length kept.names) few;
      named = All-weaker (IsSoundName prefix) _ (λ name s. s.named) kept.names is.is.names;
      unmarked = All-weaker (IsSoundName prefix) _ (λ name s. s.unmarked) kept.names is.is.names;
    } in
    let texts : texts_of (values ++ added ∷ []) ≡ texts_of values ++ kept.names =
    flat_map-append (λ (v : Value). v.names) values (added ∷ []) ∙ ap (λ ns. texts_of values ++ ns) (append-nil kept.names) in
    record {
      is = record { values = All-push (IsSoundValue prefix) values added sound one; are = subst (λ ts. AreKnown fold ts kept.known) (sym texts) is.is.are };
      some = is.some;
    }))
  where
    added : Value
    added = record value { names = kept.names }

value_ok : (prefix : ℕ) (fold : Bool) (line : ℕ) (read : Reading) (value : Value) → IsRead prefix fold read → IsAddable prefix value → IfOk (add_value fold line read value) (IsReadSome prefix fold)
value_ok prefix fold line read value is addable =
    let start : Kept = record { names = []; known = read.known; notes = read.notes } in
    let begins : IsKept prefix fold (texts_of read.values) start = record {
      names = All-nil (IsSoundName prefix);
      are = subst (λ texts. AreKnown fold texts read.known) (sym (append-nil (texts_of read.values))) is.are;
    } in
    value_kept prefix fold read.values value (keep_names fold line start value.names) (keep_some prefix fold line (texts_of read.values) value.names start addable.names addable.some begins) is.values

-- the values that a piece stands for
record AreAddable (prefix : ℕ) (values : List Value) : Type 0 where
  all : All (IsAddable prefix) values
  some : 0 < length values

addable_value : (prefix : ℕ) (value : Value) → IsSoundValue prefix value → IsAddable prefix value
addable_value prefix value sound = record { names = λ i d within. record { named = sound.named i d within; unmarked = sound.unmarked i d within }; some = sound.some }

referred_ok : (prefix : ℕ) (fold : Bool) (line : ℕ) (params : List Param) (known : List (List ℕ)) (test : List ℕ → Bool) → All (IsSoundParam prefix fold) params → length known ≡ length params
    → (place : Option ℕ) → position test known ≡ place → IfOk (values_at line params place) (AreAddable prefix)
referred_ok prefix fold line params known test sound numbered None is = tt
referred_ok prefix fold line params known test sound numbered (Some p) is =
    let within = position-Some test known p [] is in
    let param : IsSoundParam prefix fold (param_at params p) = sound p no_param (omega (arith, within.0)) in
    record { all = All-weaker (IsSoundValue prefix) (IsAddable prefix) (addable_value prefix) (param_at params p).values param.values; some = param.some }

spelled_code : {C : Type 0} (b : Bool) (code : Option C) (other : C) → cond b code (Some other) ≡ None → code ≡ None
spelled_code true code other e = e
spelled_code false code other e = cc

piece_ok : (opts : ModelOpts) (line : ℕ) (params : List Param) (known : List (List ℕ)) (piece : List ℕ) → All (IsSoundParam opts.marks.prefix opts.fold) params → length known ≡ length params
    → IfOk (piece_values opts line params known piece) (AreAddable opts.marks.prefix)
piece_ok opts line params known piece sound numbered =
    let prefix = opts.marks.prefix in
    cond_both (is_reference piece) _ _ (λ r. IfOk r (AreAddable prefix))
    (λ is. referred_ok prefix opts.fold line params known _ sound numbered (place_of opts.fold known (referred piece)) refl)
    (λ other. accepted_ok (AreAddable prefix) line (piece_code opts.marks piece) (Ok (value_of opts.marks piece ∷ [])) (λ code.
    let one : IsAddable prefix (value_of opts.marks piece) = record {
      names = part_names prefix opts.marks.alias (names_text piece) (spelled_code (is_weight (weight_of piece)) (names_code prefix (names_of opts.marks piece)) BadWeight code);
      some = omega (arith, length-map (pieces opts.marks.alias (names_text piece)) (without_prefix prefix), some_pieces opts.marks.alias (names_text piece));
    } in
    record { all = All-cons (IsAddable prefix) (value_of opts.marks piece) [] one (All-nil (IsAddable prefix)); some = omega arith }))

-- so are the values of each piece, and of a list of pieces
pub add_piece_ok : (opts : ModelOpts) (line : ℕ) (params : List Param) (known : List (List ℕ)) (read : Reading) (piece : List ℕ) → All (IsSoundParam opts.marks.prefix opts.fold) params
    → length known ≡ length params
    → IsRead opts.marks.prefix opts.fold read → IfOk (add_piece opts line params known read piece) (IsReadSome opts.marks.prefix opts.fold)
add_piece_ok opts line params known read piece sound numbered is =
    let prefix = opts.marks.prefix in
    then_ok (AreAddable prefix) (IsReadSome prefix opts.fold) (piece_values opts line params known piece) _ (piece_ok opts line params known piece sound numbered)
    (λ values are. each_some (add_value opts.fold line) (IsRead prefix opts.fold) (IsReadSome prefix opts.fold) (IsAddable prefix) (λ r v p q. value_ok prefix opts.fold line r v p q)
    (λ r s. s.is) values read are.all are.some is)
