-- What the parameter lines and the group lines of a model file say. (PICT's guide; the ACTS guide.)
use Rattle.std.specs.Prelude.{◌≡◌, ◌-◌, ◌<◌, ◌≤◌, true, false, length, All, AllPairs}
use Rattle.value_text.specs.believed.Texts.{is_same_text}
use Rattle.cov_model.specs.believed.Names.{is_mark}
use Rattle.cov_model.specs.believed.Sound.{IsSoundParam, IsSoundDemand}
use Rattle.model_lex.specs.declared.options.Marks.{Marks}
use Rattle.model_lex.specs.declared.options.ModelOpts.{ModelOpts}
use Rattle.model_lex.specs.declared.options.OrderWord.{OrderWord}
use Rattle.model_lex.specs.declared.options.OrderWord.TheVariants.{Number, Max}
use Rattle.model_parse.specs.declared.raw_model.RawModel.{RawModel}

-- the three marks are marks and differ
pub record AreMarks (marks : Marks) : Type 0 where
  pub separator : is_mark marks.separator ≡ true
  pub alias : is_mark marks.alias ≡ true
  pub prefix : is_mark marks.prefix ≡ true
  pub separator_alias : ¬ (marks.separator ≡ marks.alias)
  pub separator_prefix : ¬ (marks.separator ≡ marks.prefix)
  pub alias_prefix : ¬ (marks.alias ≡ marks.prefix)

-- an order given as a number is at least 1
abbrev pub IsOrder : OrderWord → Type 0
IsOrder (Number n) = 1 ≤ n
IsOrder Max = Unit {0}

pub record AreOpts (opts : ModelOpts) : Type 0 where
  pub marks : AreMarks opts.marks
  pub order : IsOrder opts.order

-- the parameters and the demand of a raw model are sound under these options
pub record IsSoundRaw (opts : ModelOpts) (raw : RawModel) : Type 0 where
  pub some : 0 < length raw.params
  pub few : length raw.params ≤ 256
  pub params : All (IsSoundParam opts.marks.prefix opts.fold) raw.params
  pub distinct : AllPairs (λ a b. is_same_text opts.fold a.name b.name ≡ false) raw.params
  pub demand : IsSoundDemand (length raw.params) raw.demand
