pub mod MeasuredLemmas
