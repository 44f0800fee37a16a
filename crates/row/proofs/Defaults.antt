-- What a read past the end of a list of records gives.
use Rattle.row.specs.declared.Cell.{Cell}
use Rattle.row.specs.declared.cluster.Cluster.{Cluster as Run}

-- the records of zeros
abbrev pub no_cell : Cell
no_cell = record { number = 0; wanted = record { line = 0; site = 0 }; width = 0; weight = 0 }

abbrev pub no_run : Run
no_run = record { first = 0; past = 0; site = 0; width = 0 }
