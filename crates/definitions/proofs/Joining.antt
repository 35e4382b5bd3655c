-- Partial rows that take more values.
pub use Rattle.cov_model.proofs.CellLemmas.{contains-refl as contains_self}
