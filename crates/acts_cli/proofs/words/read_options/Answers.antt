use Rattle.std.proofs.Common.{not, ap, sym, ◌∙◌}
use Rattle.std.specs.String.{string_bytes}
use Rattle.value_text.proofs.ListLemmas.{list_any-map}
use Rattle.acts_front.proofs.Mapped.{position-map}
use Rattle.acts_cli.specs.believed.Words.{is_case_word}
use Rattle.acts_cli.proofs.words.read_options.Goals as goal

pub returns-in-Some : goal.returns-in-Some
returns-in-Some c = (c.in-Some.place, position-map string_bytes (λ word. not (is_case_word word)) c.args.options.now ∙ sym c.in-Some.ensures, c.fault_at.ensures)

pub returns-in-None : goal.returns-in-None
returns-in-None c = (
  position-map string_bytes (λ word. not (is_case_word word)) c.args.options.now ∙ sym c.in-None.ensures,
  ap (λ any. record { input = c.args.input.now; output = c.args.output.now; fold = not any }) (c.has_case_word.ensures ∙ sym (list_any-map is_case_word string_bytes c.args.options.now)),
)
