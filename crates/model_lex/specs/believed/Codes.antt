-- The codes and texts by which a refusal of a model file and a note are told. (This project's rule.)
use Rattle.std.specs.Prelude.{ℕ, List, codes}
use Rattle.model_lex.specs.declared.diag.DiagCode.{DiagCode}
use Rattle.model_lex.specs.declared.diag.DiagCode.TheVariants.{NotText, LateParameter, NoColon, EmptyParameterName, BadParameterName, RepeatedParameter, EmptyValueName, BadValueName}
use Rattle.model_lex.specs.declared.diag.DiagCode.TheVariants.{BadWeight, UnknownReference, GroupNotClosed, UnknownMember, RepeatedMember, BadGroupOrder, TextAfterGroup, RelationNoOrder}
use Rattle.model_lex.specs.declared.diag.DiagCode.TheVariants.{NoParameters, OrderTooLarge, StrayCharacter, NameNotClosed, TextNotClosed, BadNumber, NumberTooWide, UnknownWord}
use Rattle.model_lex.specs.declared.diag.DiagCode.TheVariants.{PredicateExpected, RelationExpected, OperandExpected, MarkExpected, TooDeep, UnknownParameter, TypeMismatch, LikeNeedsText}
use Rattle.model_lex.specs.declared.fault.LimitName.{LimitName}
use Rattle.model_lex.specs.declared.fault.LimitName.TheVariants.{Params, Values, Names, Rules}
use Rattle.model_lex.specs.declared.note.NoteCode.{NoteCode}
use Rattle.model_lex.specs.declared.note.NoteCode.TheVariants.{RepeatedValueName, UnknownColumn, UnknownValue, RowDropped}

-- the code of a refusal
abbrev pub diag_code : DiagCode → List ℕ
diag_code NotText = codes "M1"
diag_code LateParameter = codes "M2"
diag_code NoColon = codes "M3"
diag_code EmptyParameterName = codes "M4"
diag_code BadParameterName = codes "M5"
diag_code RepeatedParameter = codes "M6"
diag_code EmptyValueName = codes "M7"
diag_code BadValueName = codes "M8"
diag_code BadWeight = codes "M9"
diag_code UnknownReference = codes "M10"
diag_code GroupNotClosed = codes "M11"
diag_code UnknownMember = codes "M12"
diag_code RepeatedMember = codes "M13"
diag_code BadGroupOrder = codes "M14"
diag_code TextAfterGroup = codes "M15"
diag_code RelationNoOrder = codes "M16"
diag_code NoParameters = codes "M17"
diag_code OrderTooLarge = codes "M18"
diag_code StrayCharacter = codes "C1"
diag_code NameNotClosed = codes "C2"
diag_code TextNotClosed = codes "C3"
diag_code BadNumber = codes "C4"
diag_code NumberTooWide = codes "C5"
diag_code UnknownWord = codes "C6"
diag_code PredicateExpected = codes "C7"
diag_code RelationExpected = codes "C8"
diag_code OperandExpected = codes "C9"
diag_code MarkExpected = codes "C10"
diag_code TooDeep = codes "C11"
diag_code UnknownParameter = codes "C12"
diag_code TypeMismatch = codes "C13"
diag_code LikeNeedsText = codes "C14"

-- the text of a refusal
abbrev pub diag_text : DiagCode → List ℕ
diag_text NotText = codes "not UTF-8"
diag_text LateParameter = codes "parameter after a group"
diag_text NoColon = codes "no colon"
diag_text EmptyParameterName = codes "empty parameter name"
diag_text BadParameterName = codes "parameter name not allowed"
diag_text RepeatedParameter = codes "repeated parameter name"
diag_text EmptyValueName = codes "empty value name"
diag_text BadValueName = codes "value name not allowed"
diag_text BadWeight = codes "weight out of range"
diag_text UnknownReference = codes "unknown parameter in angle brackets"
diag_text GroupNotClosed = codes "braces missing"
diag_text UnknownMember = codes "unknown parameter in a group"
diag_text RepeatedMember = codes "repeated parameter in a group"
diag_text BadGroupOrder = codes "group order out of range"
diag_text TextAfterGroup = codes "text after a group"
diag_text RelationNoOrder = codes "relation without a strength"
diag_text NoParameters = codes "no parameters"
diag_text OrderTooLarge = codes "order above the number of parameters"
diag_text StrayCharacter = codes "character not allowed here"
diag_text NameNotClosed = codes "name not closed"
diag_text TextNotClosed = codes "text not closed"
diag_text BadNumber = codes "not a number"
diag_text NumberTooWide = codes "number too wide"
diag_text UnknownWord = codes "unknown word"
diag_text PredicateExpected = codes "predicate expected"
diag_text RelationExpected = codes "relation expected"
diag_text OperandExpected = codes "value expected"
diag_text MarkExpected = codes "mark or keyword expected"
diag_text TooDeep = codes "nested too deeply"
diag_text UnknownParameter = codes "unknown parameter"
diag_text TypeMismatch = codes "types differ"
diag_text LikeNeedsText = codes "LIKE needs a text parameter"

-- the code of a note
abbrev pub note_code : NoteCode → List ℕ
note_code RepeatedValueName = codes "V1"
note_code UnknownColumn = codes "V2"
note_code UnknownValue = codes "V3"
note_code RowDropped = codes "V4"

-- the text of a note
abbrev pub note_text : NoteCode → List ℕ
note_text RepeatedValueName = codes "repeated value name dropped"
note_text UnknownColumn = codes "unknown column"
note_text UnknownValue = codes "unknown value"
note_text RowDropped = codes "no valid row serves this row"

-- how many a model may have of each
abbrev pub most_of : LimitName → ℕ
most_of Params = 256
most_of Values = 4095
most_of Names = 64
most_of Rules = 4096
