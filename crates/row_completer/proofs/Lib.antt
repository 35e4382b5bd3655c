mod CellLemmas
