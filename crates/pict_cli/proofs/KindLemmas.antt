-- Which settings exclude each other, told by what they are about.
use Rattle.std.proofs.Common.{◌≡◌, Bool, false, ◌&&◌, ◌||◌, List, [], ◌∷◌, ◌++◌, refl, sym, ap, ◌∙◌}
use Rattle.std.specs.List.{list_any}
use Rattle.std.proofs.Math.Bool.{and-false, and-or_distrib_left, and-or_distrib_right, or-false}
use Rattle.std.proofs.lemmas.List.Folds.{list_any-append}
use Rattle.value_text.proofs.ListLemmas.{or_or}
use Rattle.definitions.specs.believed.Settings.{Setting, Order, Separator, Alias, Prefix, SeedFile, ShuffleValues, CaseCounts}
use Rattle.definitions.specs.believed.Settings.{Statistics, Workers, Budget, ProofFile, ProofFormat, MeasureFile, Make, SuspectFile}
use Rattle.definitions.specs.believed.Words.{excludes, exclude_each_other, is_generating, is_measuring, is_of_a_file}
use Rattle.pict_cli.specs.declared.kinds.Kinds.{Kinds}
use Rattle.pict_cli.specs.Options.{kind_of, kinds_of, joined_kinds, excludes_by_kinds, is_suspecting, is_making}

excludes-kinds : (a b : Setting) → excludes a b ≡ excludes_by_kinds (kind_of a) (kind_of b)
excludes-kinds (MeasureFile name) b = sym (or-false (is_generating b || false) ∙ or-false (is_generating b))
excludes-kinds (SuspectFile name) b = sym (or-false (is_generating b || is_measuring b))
excludes-kinds (Make n) b = refl
excludes-kinds (Order order) b = refl
excludes-kinds (Separator c) b = refl
excludes-kinds (Alias c) b = refl
excludes-kinds (Prefix c) b = refl
excludes-kinds (SeedFile name) b = refl
excludes-kinds (ShuffleValues given) b = refl
excludes-kinds CaseCounts b = refl
excludes-kinds Statistics b = refl
excludes-kinds (Workers n) b = refl
excludes-kinds (Budget effort) b = refl
excludes-kinds (ProofFile name) b = refl
excludes-kinds (ProofFormat n) b = refl

abbrev pub clash : Kinds → Kinds → Bool
clash a b = excludes_by_kinds a b || excludes_by_kinds b a

-- kinds that are joined clash with what one of them clashes with
regroup : (a b c d e f : Bool) → (((a || b) || (c || d)) || (e || f)) ≡ (((a || c) || e) || ((b || d) || f))
regroup a b c d e f = ap (λ x. x || (e || f)) (or_or a b c d) ∙ or_or (a || c) (b || d) e f

excludes-joined : (a b c : Kinds) → excludes_by_kinds a (joined_kinds b c) ≡ (excludes_by_kinds a b || excludes_by_kinds a c)
excludes-joined a b c =
    rw (
      or_or b.generating c.generating b.measuring c.measuring,
      and-or_distrib_left a.measuring b.generating c.generating,
      and-or_distrib_left a.suspecting (b.generating || b.measuring) (c.generating || c.measuring),
      and-or_distrib_left a.making b.of_a_file c.of_a_file,
    )
    (regroup (a.measuring && b.generating) (a.measuring && c.generating)
    (a.suspecting && (b.generating || b.measuring)) (a.suspecting && (c.generating || c.measuring)) (a.making && b.of_a_file) (a.making && c.of_a_file))

joined-excludes : (a b c : Kinds) → excludes_by_kinds (joined_kinds a b) c ≡ (excludes_by_kinds a c || excludes_by_kinds b c)
joined-excludes a b c =
    rw (
      and-or_distrib_right a.measuring b.measuring c.generating,
      and-or_distrib_right a.suspecting b.suspecting (c.generating || c.measuring),
      and-or_distrib_right a.making b.making c.of_a_file,
    )
    (regroup (a.measuring && c.generating) (b.measuring && c.generating)
    (a.suspecting && (c.generating || c.measuring)) (b.suspecting && (c.generating || c.measuring)) (a.making && c.of_a_file) (b.making && c.of_a_file))

clash-joined : (a b c : Kinds) → clash a (joined_kinds b c) ≡ (clash a b || clash a c)
clash-joined a b c =
    ap (λ x. x || excludes_by_kinds (joined_kinds b c) a) (excludes-joined a b c)
    ∙ ap (λ x. (excludes_by_kinds a b || excludes_by_kinds a c) || x) (joined-excludes b c a)
    ∙ or_or (excludes_by_kinds a b) (excludes_by_kinds a c) (excludes_by_kinds b a) (excludes_by_kinds c a)

clash-none : (a : Kinds) → clash a (kinds_of []) ≡ false
clash-none a = rw (and-false a.measuring, and-false a.suspecting, and-false a.making)

-- a setting and several exclude each other if what they are about clashes
pub excluded-kinds : (setting : Setting) (settings : List Setting)
    → list_any (exclude_each_other setting) settings ≡ clash (kind_of setting) (kinds_of settings)
excluded-kinds setting [] = sym (clash-none (kind_of setting))
excluded-kinds setting (first ∷ settings) =
    ap (λ x. (x || excludes first setting) || list_any (exclude_each_other setting) settings) (excludes-kinds setting first)
    ∙ ap (λ x. (excludes_by_kinds (kind_of setting) (kind_of first) || x) || list_any (exclude_each_other setting) settings) (excludes-kinds first setting)
    ∙ ap (λ x. clash (kind_of setting) (kind_of first) || x) (excluded-kinds setting settings)
    ∙ sym (clash-joined (kind_of setting) (kind_of first) (kinds_of settings))

list_any-push : (p : Setting → Bool) (settings : List Setting) (setting : Setting)
    → list_any p (settings ++ setting ∷ []) ≡ (list_any p settings || p setting)
list_any-push p settings setting = list_any-append p settings (setting ∷ []) ∙ ap (λ x. list_any p settings || x) (or-false (p setting))

-- one more setting
pub kinds_of-push : (settings : List Setting) (setting : Setting) → kinds_of (settings ++ setting ∷ []) ≡ joined_kinds (kinds_of settings) (kind_of setting)
kinds_of-push settings setting =
    let generating = list_any-push is_generating settings setting in
    let measuring = list_any-push is_measuring settings setting in
    let suspecting = list_any-push is_suspecting settings setting in
    let making = list_any-push is_making settings setting in
    let of_a_file = list_any-push is_of_a_file settings setting in
    cc
