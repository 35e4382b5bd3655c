-- A table of open tuples may be read by several threads.
use denote.Ref.{NamedLft}
use denote.Param.Send.{IsSync, sendable}
use Rattle.std.proofs.Crossing.{crosses}
use Rattle.cov_model.proofs.constraint.Pred.TheLaws.TheKnot as predicate
use Rattle.cov_model.proofs.demand.Demand.TheSendSync as demand
use Rattle.cov_model.proofs.parameter.Param.TheSendSync as param
use Rattle.cov_model.specs.contracts.model.TestModel as model
use Rattle.value_text.proofs.owned_list.OwnedList.TheSendSync as list
use Rattle.tuple_index.proofs.plan.Plan.TheSendSync as plan
use Rattle.uncovered_table.proofs.prepared.ColumnLines.TheSendSync as lines
use Rattle.uncovered_table.specs.contracts.part.SlicePart as part
use Rattle.uncovered_table.specs.contracts.sets.SliceSets as sets
use Rattle.uncovered_table.specs.contracts.table.Uncovered as table

model_sync : IsSync model.the_row
model_sync = search (sendable, crosses, predicate.sync-Pred, demand.the_field_sync, param.the_sync, list.the_sync) depth 60 fits 50000

part_sync : (κ : NamedLft) → IsSync (part.the_row κ)
part_sync κ = let a = model_sync in search (sendable, crosses, plan.the_sync) depth 20

sets_sync : (κ : NamedLft) → IsSync (sets.the_row κ)
sets_sync κ = let a = part_sync κ in search (sendable, crosses) depth 20

pub table_sync : (κ : NamedLft) → IsSync (table.the_row κ)
table_sync κ = let a = sets_sync κ in search (sendable, crosses, lines.the_sync) depth 20
