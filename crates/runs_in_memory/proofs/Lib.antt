mod Acceptance
mod NoFaults
mod SeqRuns
