-- What words set is in its ranges, and the marks differ.
use Rattle.std.proofs.Common.{◌≡◌, ℕ, ◌^◌, ◌-◌, inl, inr, arith, Bool, true, false, not, ◌&&◌, ◌||◌, cond, if◌then◌else◌}
use Rattle.std.proofs.Common.{List, [], ◌∷◌, ◌++◌, Option, Some, None, refl, sym, ap, subst, ◌∙◌}
use Rattle.std.specs.Prelude.{option_map, codes, ◌==◌}
use Rattle.std.specs.List.{list_any, after_first}
use Rattle.std.proofs.lemmas.Bool.{eqb-false, false≢true, cases_Bool, or_left, or_parts, or_right}
use Rattle.std.proofs.lemmas.Option.{none-some, same_Some}
use Rattle.value_text.specs.believed.Numbers.{count_of}
use Rattle.value_text.specs.believed.Texts.{is_same_text}
use Rattle.value_text.proofs.NumberLemmas.{count_within}
use Rattle.cov_model.specs.believed.Names.{is_mark}
use Rattle.model_lex.specs.believed.Sections.{has_colon}
use Rattle.definitions.specs.believed.Settings.{OrderWord, OrderOf, OrderMax, Setting, Order, Separator, Alias, Prefix, SeedFile, ShuffleValues, ShuffleBy, AnyShuffle}
use Rattle.definitions.specs.believed.Settings.{CaseCounts, Statistics, Workers, Budget, ProofFile, ProofFormat, MeasureFile, Make, SuspectFile, Settings, set}
use Rattle.definitions.specs.believed.Settings.{setting_of, is_named, is_colon, valued_setting, bare_setting, mark_of, order_word_of, effort_of, file_of}
use Rattle.definitions.specs.believed.Words.{has_equal_marks, is_mark_word, set_by, is_faulty, first_faulty}
use Rattle.model_parse.specs.RawModels.{AreMarks, IsOrder}
use Rattle.command_line.specs.Ranges.{AreFit, AreWorkers}
use Rattle.command_line.specs.believed.Words.{opts_of, order_word}
use Rattle.command_line.proofs.WordLemmas.{by_words, set_by-push}

-- what one word may set is in its range
abbrev IsInRange : Setting → Type 0
IsInRange (Order order) = IsOrder (order_word order)
IsInRange (Separator c) = is_mark c ≡ true
IsInRange (Alias c) = is_mark c ≡ true
IsInRange (Prefix c) = is_mark c ≡ true
IsInRange (Workers n) = AreWorkers n
IsInRange (SeedFile name) = Unit {0}
IsInRange (ShuffleValues _) = Unit {0}
IsInRange CaseCounts = Unit {0}
IsInRange Statistics = Unit {0}
IsInRange (Budget effort) = Unit {0}
IsInRange (ProofFile name) = Unit {0}
IsInRange (ProofFormat n) = Unit {0}
IsInRange (MeasureFile name) = Unit {0}
IsInRange (Make n) = Unit {0}
IsInRange (SuspectFile name) = Unit {0}

-- marks are marks, and the order and the workers are in their ranges
record AreRanged (s : Settings) : Type 0 where
  order : IsOrder (order_word s.order)
  separator : is_mark s.separator ≡ true
  alias : is_mark s.alias ≡ true
  prefix : is_mark s.prefix ≡ true
  workers : AreWorkers s.workers

-- a test that was met, and one that wasn't
either : {X : Type 0} (P : Type 0) (b : Bool) (x y : Option X) (s : X) → (x ≡ Some s → P) → (y ≡ Some s → P) → cond b x y ≡ Some s → P
either P true x y s f g h = f h
either P false x y s f g h = g h

-- a value read by one word
read : {X : Type 0} (f : X → Setting) (o : Option X) (s : Setting) → ((x : X) → o ≡ Some x → IsInRange (f x)) → option_map f o ≡ Some s → IsInRange s
read f None s k h = absurd (none-some s h)
read f (Some x) s k h = subst IsInRange (same_Some (f x) s h) (k x refl)

is_mark_of : (value : List ℕ) (c : ℕ) → mark_of value ≡ Some c → is_mark c ≡ true
is_mark_of [] c h = absurd (none-some c h)
is_mark_of (d ∷ []) c h = decide (is_mark d) refl
  where
    decide : (b : Bool) → is_mark d ≡ b → is_mark c ≡ true
    decide true t = subst (λ k. is_mark k ≡ true) (same_Some d c (sym (ap (λ b. if b then Some d else None) t) ∙ h)) t
    decide false t = absurd (none-some c (sym (ap (λ b. if b then Some d else None) t) ∙ h))
is_mark_of (d ∷ e ∷ rest) c h = absurd (none-some c h)

is_order : (value : List ℕ) (order : OrderWord) → order_word_of value ≡ Some order → IsOrder (order_word order)
is_order value order h =
    either (IsOrder (order_word order)) (is_same_text true value (codes "max")) (Some OrderMax) (option_map OrderOf (count_of value 1 256)) order
    (λ e. subst (λ o. IsOrder (order_word o)) (same_Some OrderMax order e) tt) (number (count_of value 1 256) refl) h
  where
    number : (o : Option ℕ) → count_of value 1 256 ≡ o → option_map OrderOf o ≡ Some order → IsOrder (order_word order)
    number None e k = absurd (none-some order k)
    number (Some n) e k = subst (λ o. IsOrder (order_word o)) (same_Some (OrderOf n) order k) (count_within value 1 256 n e).0

valued : (word value : List ℕ) (s : Setting) → valued_setting word value ≡ Some s → IsInRange s
valued word value s h =
    let P = IsInRange s in
    either P (is_named word (codes "/o")) _ _ s (read Order (order_word_of value) s (is_order value))
    (either P (is_named word (codes "/d")) _ _ s (read Separator (mark_of value) s (is_mark_of value))
    (either P (is_named word (codes "/a")) _ _ s (read Alias (mark_of value) s (is_mark_of value))
    (either P (is_named word (codes "/n")) _ _ s (read Prefix (mark_of value) s (is_mark_of value))
    (either P (is_named word (codes "/e")) _ _ s (read SeedFile (file_of value) s (λ x e. tt))
    (either P (is_named word (codes "/r")) _ _ s (read (λ n. ShuffleValues (ShuffleBy n)) (count_of value 0 (2 ^ 64 - 1)) s (λ x e. tt))
    (either P (is_named word (codes "/workers")) _ _ s (read Workers (count_of value 1 64) s (count_within value 1 64))
    (either P (is_named word (codes "/budget")) _ _ s (read Budget (effort_of value) s (λ x e. tt))
    (either P (is_named word (codes "/proof")) _ _ s (read ProofFile (file_of value) s (λ x e. tt))
    (either P (is_named word (codes "/proofformat")) _ _ s (read ProofFormat (count_of value 1 2) s (λ x e. tt))
    (either P (is_named word (codes "/measure")) _ _ s (read MeasureFile (file_of value) s (λ x e. tt))
    (either P (is_named word (codes "/make")) _ _ s (read Make (count_of value 0 (2 ^ 64 - 1)) s (λ x e. tt))
    (either P (is_named word (codes "/suspect")) _ _ s (read SuspectFile (file_of value) s (λ x e. tt)) (λ e. absurd (none-some s e)))))))))))))) h

bare : (word : List ℕ) (s : Setting) → bare_setting word ≡ Some s → IsInRange s
bare word s h =
    let P = IsInRange s in
    either P (is_same_text true word (codes "/r")) _ _ s (λ e. subst IsInRange (same_Some (ShuffleValues AnyShuffle) s e) tt)
    (either P (is_same_text true word (codes "/c")) _ _ s (λ e. subst IsInRange (same_Some CaseCounts s e) tt)
    (either P (is_same_text true word (codes "/s")) _ _ s (λ e. subst IsInRange (same_Some Statistics s e) tt) (λ e. absurd (none-some s e)))) h

in_range : (word : List ℕ) (s : Setting) → setting_of word ≡ Some s → IsInRange s
in_range word s h =
    either (IsInRange s) (has_colon word) (valued_setting word (after_first is_colon word)) (bare_setting word) s (valued word (after_first is_colon word) s)
    (bare word s) h

-- one setting more
set_ranged : (s : Settings) (x : Setting) → AreRanged s → IsInRange x → AreRanged (set s x)
set_ranged s (Order order) r h = record { order = h; separator = r.separator; alias = r.alias; prefix = r.prefix; workers = r.workers }
set_ranged s (Separator c) r h = record { order = r.order; separator = h; alias = r.alias; prefix = r.prefix; workers = r.workers }
set_ranged s (Alias c) r h = record { order = r.order; separator = r.separator; alias = h; prefix = r.prefix; workers = r.workers }
set_ranged s (Prefix c) r h = record { order = r.order; separator = r.separator; alias = r.alias; prefix = h; workers = r.workers }
set_ranged s (Workers n) r h = record { order = r.order; separator = r.separator; alias = r.alias; prefix = r.prefix; workers = h }
set_ranged s (SeedFile name) r h = record { order = r.order; separator = r.separator; alias = r.alias; prefix = r.prefix; workers = r.workers }
set_ranged s (ShuffleValues _) r h = record { order = r.order; separator = r.separator; alias = r.alias; prefix = r.prefix; workers = r.workers }
set_ranged s CaseCounts r h = record { order = r.order; separator = r.separator; alias = r.alias; prefix = r.prefix; workers = r.workers }
set_ranged s Statistics r h = record { order = r.order; separator = r.separator; alias = r.alias; prefix = r.prefix; workers = r.workers }
set_ranged s (Budget effort) r h = record { order = r.order; separator = r.separator; alias = r.alias; prefix = r.prefix; workers = r.workers }
set_ranged s (ProofFile name) r h = record { order = r.order; separator = r.separator; alias = r.alias; prefix = r.prefix; workers = r.workers }
set_ranged s (ProofFormat n) r h = record { order = r.order; separator = r.separator; alias = r.alias; prefix = r.prefix; workers = r.workers }
set_ranged s (MeasureFile name) r h = record { order = r.order; separator = r.separator; alias = r.alias; prefix = r.prefix; workers = r.workers }
set_ranged s (Make n) r h = record { order = r.order; separator = r.separator; alias = r.alias; prefix = r.prefix; workers = r.workers }
set_ranged s (SuspectFile name) r h = record { order = r.order; separator = r.separator; alias = r.alias; prefix = r.prefix; workers = r.workers }

-- whether a setting is one of a mark
abbrev is_of_marks : Setting → Bool
is_of_marks (Separator c) = true
is_of_marks (Alias c) = true
is_of_marks (Prefix c) = true
is_of_marks setting = false

-- a word that is none for marks sets none
either_named : {X : Type 0} (P : Type 0) (b : Bool) (x y : Option X) (s : X) → (b ≡ true → P) → (y ≡ Some s → P) → cond b x y ≡ Some s → P
either_named P true x y s f g h = f refl
either_named P false x y s f g h = g h

of_kind : {X : Type 0} (f : X → Setting) (o : Option X) (s : Setting) → ((x : X) → is_of_marks (f x) ≡ false) → option_map f o ≡ Some s
    → is_of_marks s ≡ false
of_kind f None s k h = absurd (none-some s h)
of_kind f (Some x) s k h = ap is_of_marks (sym (same_Some (f x) s h)) ∙ k x

valued_apart : (word value : List ℕ) (s : Setting) → is_mark_word word ≡ false → valued_setting word value ≡ Some s → is_of_marks s ≡ false
valued_apart word value s none h =
    let P = is_of_marks s ≡ false in
    let d = is_named word (codes "/d") in
    let a = is_named word (codes "/a") in
    let n = is_named word (codes "/n") in
    either P (is_named word (codes "/o")) _ _ s (of_kind Order (order_word_of value) s (λ x. refl))
    (either_named P d _ _ s (λ e. absurd (false≢true (sym none ∙ or_left (d || a) n (or_left d a e))))
    (either_named P a _ _ s (λ e. absurd (false≢true (sym none ∙ or_left (d || a) n (or_right d a e))))
    (either_named P n _ _ s (λ e. absurd (false≢true (sym none ∙ or_right (d || a) n e)))
    (either P (is_named word (codes "/e")) _ _ s (of_kind SeedFile (file_of value) s (λ x. refl))
    (either P (is_named word (codes "/r")) _ _ s (of_kind (λ n. ShuffleValues (ShuffleBy n)) (count_of value 0 (2 ^ 64 - 1)) s (λ x. refl))
    (either P (is_named word (codes "/workers")) _ _ s (of_kind Workers (count_of value 1 64) s (λ x. refl))
    (either P (is_named word (codes "/budget")) _ _ s (of_kind Budget (effort_of value) s (λ x. refl))
    (either P (is_named word (codes "/proof")) _ _ s (of_kind ProofFile (file_of value) s (λ x. refl))
    (either P (is_named word (codes "/proofformat")) _ _ s (of_kind ProofFormat (count_of value 1 2) s (λ x. refl))
    (either P (is_named word (codes "/measure")) _ _ s (of_kind MeasureFile (file_of value) s (λ x. refl))
    (either P (is_named word (codes "/make")) _ _ s (of_kind Make (count_of value 0 (2 ^ 64 - 1)) s (λ x. refl))
    (either P (is_named word (codes "/suspect")) _ _ s (of_kind SuspectFile (file_of value) s (λ x. refl)) (λ e. absurd (none-some s e)))))))))))))) h

bare_apart : (word : List ℕ) (s : Setting) → bare_setting word ≡ Some s → is_of_marks s ≡ false
bare_apart word s h =
    let P = is_of_marks s ≡ false in
    either P (is_same_text true word (codes "/r")) _ _ s (λ e. ap is_of_marks (sym (same_Some (ShuffleValues AnyShuffle) s e)))
    (either P (is_same_text true word (codes "/c")) _ _ s (λ e. ap is_of_marks (sym (same_Some CaseCounts s e)))
    (either P (is_same_text true word (codes "/s")) _ _ s (λ e. ap is_of_marks (sym (same_Some Statistics s e))) (λ e. absurd (none-some s e)))) h

sets_no_mark : (word : List ℕ) (s : Setting) → is_mark_word word ≡ false → setting_of word ≡ Some s → is_of_marks s ≡ false
sets_no_mark word s none h =
    either (is_of_marks s ≡ false) (has_colon word) (valued_setting word (after_first is_colon word)) (bare_setting word) s
    (valued_apart word (after_first is_colon word) s none) (bare_apart word s) h

same_marks : (s : Settings) (x : Setting) → is_of_marks x ≡ false → has_equal_marks s ≡ false → has_equal_marks (set s x) ≡ false
same_marks s (Order order) h apart = apart
same_marks s (Separator c) h apart = absurd (false≢true (sym h))
same_marks s (Alias c) h apart = absurd (false≢true (sym h))
same_marks s (Prefix c) h apart = absurd (false≢true (sym h))
same_marks s (Workers n) h apart = apart
same_marks s (SeedFile name) h apart = apart
same_marks s (ShuffleValues _) h apart = apart
same_marks s CaseCounts h apart = apart
same_marks s Statistics h apart = apart
same_marks s (Budget effort) h apart = apart
same_marks s (ProofFile name) h apart = apart
same_marks s (ProofFormat n) h apart = apart
same_marks s (MeasureFile name) h apart = apart
same_marks s (Make n) h apart = apart
same_marks s (SuspectFile name) h apart = apart

-- the words before are read: what they set is in range, and the marks differ unless a word for marks follows
record AreRead (before after : List (List ℕ)) : Type 0 where
  ranged : AreRanged (set_by before)
  apart : list_any is_mark_word after ≡ false → has_equal_marks (set_by before) ≡ false

-- one word more
read_more : (before after : List (List ℕ)) (word : List ℕ) (setting : Setting) → setting_of word ≡ Some setting → is_faulty before word after ≡ false
    → AreRead before (word ∷ after) → AreRead (before ++ word ∷ []) after
read_more before after word setting is good read =
    let more = set_by-push before word setting is in
    let last = (or_parts _ (is_mark_word word && not (list_any is_mark_word after) && has_equal_marks (set_by (before ++ word ∷ []))) good).1 in
    record {
      ranged = subst AreRanged (sym more) (set_ranged (set_by before) setting read.ranged (in_range word setting is));
      apart = λ none. elim (cases_Bool (is_mark_word word)) [
        | inl marks ↦
            let equal = has_equal_marks (set_by (before ++ word ∷ [])) in
            sym (ap (λ b. b && not (list_any is_mark_word after) && equal) marks ∙ ap (λ b. not b && equal) none) ∙ last
        | inr other ↦ ap has_equal_marks more
            ∙ same_marks (set_by before) setting (sets_no_mark word setting other is)
            (read.apart (ap (λ b. b || list_any is_mark_word after) other ∙ none))
      ];
    }

-- what no words set
no_words : (after : List (List ℕ)) → AreRead [] after
no_words after =
    record {
      ranged = record { order = omega arith; separator = refl; alias = refl; prefix = refl; workers = (omega arith, omega arith) };
      apart = λ none. refl;
    }

-- a model file can be read so
are_marks : (s : Settings) → AreRanged s → has_equal_marks s ≡ false → AreMarks (opts_of s).marks
are_marks s ranged apart =
    let both = or_parts ((s.separator == s.alias) || (s.separator == s.prefix)) (s.alias == s.prefix) apart in
    let first = or_parts (s.separator == s.alias) (s.separator == s.prefix) both.0 in
    record {
      separator = ranged.separator;
      alias = ranged.alias;
      prefix = ranged.prefix;
      separator_alias = eqb-false s.separator s.alias first.0;
      separator_prefix = eqb-false s.separator s.prefix first.1;
      alias_prefix = eqb-false s.alias s.prefix both.1;
    }

-- so what words without a fault set is fit for a run
pub words_fit : (n : ℕ) (words : List (List ℕ)) → first_faulty n [] words ≡ None → AreFit (set_by words)
words_fit n words good =
    let read = by_words AreRead read_more n [] words good (no_words words) in
    record {
      opts = record { marks = are_marks (set_by words) read.ranged (read.apart refl); order = read.ranged.order };
      workers = read.ranged.workers;
    }
