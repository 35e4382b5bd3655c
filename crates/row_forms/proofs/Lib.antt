mod CsvCells
mod Rows
mod CsvLaw
mod JsonLaw
mod MarkdownLaw
mod MemberText
mod DashSteps
