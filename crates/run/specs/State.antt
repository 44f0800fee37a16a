-- What a run holds: which records of its job are left, and the tables of its floor.
use Rattle.std.specs.Prelude.{ℕ, List, [], Some, None, Option}
use Rattle.measure.specs.Costs.{Price}
use Rattle.measure.specs.declared.Measure.{Ghosts}
use Rattle.floor.specs.State.{measure_of, price_of, tables_of}
use Rattle.floor.specs.Tables.{Tables}
use Rattle.floor.specs.declared.floor.Floor.{Floor}
use Rattle.job.specs.Format.{Content}
use Rattle.job.specs.Reading.{standing}
use Rattle.job.specs.Records.{records_left, fault_left}
use Rattle.job.specs.declared.record.Fault.{Fault}
use Rattle.run.specs.declared.run.Run.{Run}

-- the index of the next record, the records that are left, the fault that ends them and is not told
-- yet, the fault that is told, and the floor's tables
pub record State : Type 0 where
  pub index : ℕ
  pub records : List Content
  pub fault : Option Fault
  pub told : Option Fault
  pub tables : Tables

-- what is left, unless a fault has ended the job
abbrev pub records_ahead : Option Fault → List Content → List Content
records_ahead None records = records
records_ahead (Some told) records = []

abbrev pub fault_ahead : Option Fault → Option Fault → Option Fault
fault_ahead None fault = fault
fault_ahead (Some told) fault = None

module _ {M : Type 0} {m : Ghosts M} where
  -- what a run holds
  abbrev pub state : Run M m → State
  state run = record {
    index = (standing run.reader).index;
    records = records_ahead run.fault (records_left (standing run.reader));
    fault = fault_ahead run.fault (fault_left (standing run.reader));
    told = run.fault;
    tables = tables_of run.floor;
  }

  -- its floor
  abbrev pub floor_of : Run M m → Floor M m
  floor_of run = run.floor

  -- the measure of its floor
  abbrev pub measure_in : Run M m → M
  measure_in run = measure_of run.floor

  -- what a move costs by it
  abbrev pub price_in : Run M m → Price
  price_in run = price_of run.floor
