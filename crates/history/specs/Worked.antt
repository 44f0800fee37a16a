-- Twelve settings that were worked by hand, and that `set` and the calls of a floor give the same.
use Rattle.std.specs.Prelude.{◌≡◌, ℕ, List, [], ◌∷◌, ◌++◌, length, map, Ok, IsErrAnd}
use Rattle.std.specs.List.{AllByRecursion}
use Rattle.measure.specs.Costs.{Price}
use Rattle.measure.specs.Names.{named_price}
use Rattle.measure.specs.declared.name.MeasureName.{MeasureName}
use Rattle.measure.specs.declared.name.MeasureName.TheVariants.{Squared, Plain}
use Rattle.row.specs.Costs.{sites_cost}
use Rattle.row.specs.Refusals.{number_of}
use Rattle.row.specs.Task.{set_answer, set_sites}
use Rattle.row.specs.declared.Cell.{Cell}
use Rattle.row.specs.declared.Row.{Row}
use Rattle.row.specs.declared.Spot.{Spot}
use Rattle.floor.specs.Calls.{where_is}
use Rattle.floor.specs.Seats.{floor_cost}
use Rattle.floor.specs.Tables.{Tables, no_tables}
use Rattle.floor.specs.declared.Placing.{Placing}
use Rattle.history.specs.Events.{event_of, tables_after}
use Rattle.history.specs.declared.call.Call.{Call}
use Rattle.history.specs.declared.call.Call.TheVariants.{AddRow, Place, Withdraw}
use Rattle.history.specs.declared.call.Event.TheVariants.{Placed}

-- where the cell of a number stands
pub record Stand : Type 0 where
  pub number : ℕ
  pub spot : Spot

-- What a case says. `sets`: `set` fills in these sites and answers this cost. `refuses`: it refuses
-- with this number. `costs`: cells at these sites cost this. `leaves`: once these calls are made on
-- an empty floor, cells stand so, and the floor costs this. `places`: once these calls are made,
-- placing this cell answers this.
pub data Check : Type 0 where
  sets : MeasureName → Row → List Cell → List ℕ → ℕ → Check
  refuses : MeasureName → Row → List Cell → ℕ → Check
  costs : MeasureName → List Cell → List ℕ → ℕ → Check
  leaves : MeasureName → List Call → List Stand → ℕ → Check
  places : MeasureName → List Call → Cell → Placing → Check

-- a buffer for the sites of cells
abbrev pub buffer : List Cell → List ℕ
buffer cells = map (λ _. 0) cells

-- that `set` fills in these sites and answers this cost
abbrev pub Sets : Price → Row → List Cell → List ℕ → ℕ → Type 0
Sets price row cells sites cost =
    (set_sites price row cells (buffer cells) ≡ sites)
    × (set_answer price row cells (buffer cells) ≡ Ok cost)

-- that cells stand so on a floor with these tables, and that it costs this
abbrev pub Leaves : Price → Tables → List Stand → ℕ → Type 0
Leaves price tables stands cost =
    AllByRecursion (λ s. where_is tables s.number ≡ Ok s.spot) stands
    × (floor_cost price tables.seats ≡ cost)

-- that placing a cell on a floor with these tables answers this
abbrev pub Places : Price → Tables → Cell → Placing → Type 0
Places price tables cell placing = event_of price tables (Place cell) ≡ Placed cell (Ok placing)

-- the tables of an empty floor after calls
abbrev pub tables_from : Price → List Call → Tables
tables_from price calls = tables_after price no_tables calls

-- that a check comes out as it says
abbrev pub Comes : Check → Type 0
Comes (sets measure row cells sites cost) = Sets (named_price measure) row cells sites cost
Comes (refuses measure row cells number) =
    IsErrAnd (set_answer (named_price measure) row cells (buffer cells))
    (λ refusal. number_of refusal ≡ number)
Comes (costs measure cells sites cost) = sites_cost (named_price measure) cells sites ≡ cost
Comes (leaves measure calls stands cost) =
    Leaves (named_price measure) (tables_from (named_price measure) calls) stands cost
Comes (places measure calls cell placing) =
    Places (named_price measure) (tables_from (named_price measure) calls) cell placing

-- a row on a line
abbrev pub row_on : ℕ → ℕ → ℕ → Row
row_on line left right = record { line = line; left = left; right = right }

-- a row on line 0
abbrev pub row : ℕ → ℕ → Row
row left right = row_on 0 left right

-- a cell of a number, wanted on line 0 at a site, of a width and of weight 1
abbrev pub cell : ℕ → ℕ → ℕ → Cell
cell number site width = record {
  number = number;
  wanted = record { line = 0; site = site };
  width = width;
  weight = 1;
}

-- a cell with another weight
abbrev pub weighing : ℕ → Cell → Cell
weighing weight c = record c { weight = weight }

-- a cell that is wanted on another line
abbrev pub wanted_on : ℕ → Cell → Cell
wanted_on line c = record c { wanted = record { line = line; site = c.wanted.site } }

-- a number that stands on a line at a site
abbrev pub at : ℕ → ℕ → ℕ → Stand
at number line site = record { number = number; spot = record { line = line; site = site } }

-- a placing that goes to a line and a site, with a rise
abbrev pub to : ℕ → ℕ → ℕ → Placing
to line site rise = record { spot = record { line = line; site = site }; rise = rise }

-- cells that stand on line 0 at these sites, one by one
abbrev pub at_sites : List Cell → List ℕ → List Stand
at_sites [] sites = []
at_sites (c ∷ cs) [] = []
at_sites (c ∷ cs) (x ∷ xs) = at c.number 0 x ∷ at_sites cs xs

-- the calls that add a row and then place cells
abbrev pub filling : Row → List Cell → List Call
filling r cells = AddRow r ∷ map Place cells

-- a row's cells in wanted order get these sites at this cost, by `set` and where they are placed
-- one after another
abbrev pub both : MeasureName → Row → List Cell → List ℕ → ℕ → List Check
both measure r cells sites cost =
    sets measure r cells sites cost
    ∷ leaves measure (filling r cells) (at_sites cells sites) cost
    ∷ []

-- after these calls placing a cell answers this, and then cells stand so, and the floor costs this
abbrev pub placing_after : MeasureName → List Call → Cell → Placing → List Stand → ℕ → List Check
placing_after measure calls c placing stands cost =
    places measure calls c placing
    ∷ leaves measure (calls ++ (Place c ∷ [])) stands cost
    ∷ []

-- 3/4 and 4/2: cells of wanted sites 3 and 4, and of widths 4 and 2
abbrev pub pair : List Cell
pair = cell 1 3 4 ∷ cell 2 4 2 ∷ []

-- The twelve cases. "3/4" is a cell of wanted site 3 and width 4; what is not said of a case is
-- squared, weight 1 and line 0.
abbrev pub twelve : List (List Check)
twelve =
    -- 1: row 0 to 10, no cells: cost 0
    both Squared (row 0 10) [] [] 0
    -- 2: row 0 to 10, 9/4: site 6, cost 9
    ∷ both Squared (row 0 10) (cell 1 9 4 ∷ []) (6 ∷ []) 9
    -- 3: row 0 to 10, 3/4 and 4/2: sites 1 and 5, cost 5; sites 2 and 6 cost 5 too
    ∷ (both Squared (row 0 10) pair (1 ∷ 5 ∷ []) 5 ++ (costs Squared pair (2 ∷ 6 ∷ []) 5 ∷ []))
    -- 4: as 3, with weight 3 for the first: sites 2 and 6, cost 7
    ∷ both Squared (row 0 10) (weighing 3 (cell 1 3 4) ∷ cell 2 4 2 ∷ []) (2 ∷ 6 ∷ []) 7
    -- 5: as 3, plain: sites 0 and 4, cost 3
    ∷ both Plain (row 0 10) pair (0 ∷ 4 ∷ []) 3
    -- 6: row 0 to 6, 3/4 and 4/2: sites 0 and 4, cost 9; for row 0 to 5 `set` refuses them with 14
    ∷ (both Squared (row 0 6) pair (0 ∷ 4 ∷ []) 9 ++ (refuses Squared (row 0 5) pair 14 ∷ []))
    -- 7: row 0 to 10, 0/3 and 3/3: sites 0 and 3, cost 0
    ∷ both Squared (row 0 10) (cell 1 0 3 ∷ cell 2 3 3 ∷ []) (0 ∷ 3 ∷ []) 0
    -- 8: row 0 to 20, 0/4, 1/4 and 7/2: sites 0, 4 and 8, cost 10
    ∷ both Squared (row 0 20) (cell 1 0 4 ∷ cell 2 1 4 ∷ cell 3 7 2 ∷ []) (0 ∷ 4 ∷ 8 ∷ []) 10
    -- 9: row 0 to 10, cells 7 and 5, both 2/2: cell 5 at 1 and cell 7 at 3, cost 2; `set` takes
    -- them in wanted order, 5 before 7
    ∷ (sets Squared (row 0 10) (cell 5 2 2 ∷ cell 7 2 2 ∷ []) (1 ∷ 3 ∷ []) 2
    ∷ leaves Squared
    (filling (row 0 10) (cell 7 2 2 ∷ cell 5 2 2 ∷ []))
    (at 5 0 1 ∷ at 7 0 3 ∷ []) 2
    ∷ [])
    -- 10: row 0 to 10 on line 0, 3/4 placed, then row 0 to 10 on line 1: placing 4/2 goes to
    -- line 1, site 4, rise 1
    ∷ placing_after Squared
    (AddRow (row_on 0 0 10) ∷ Place (cell 1 3 4) ∷ AddRow (row_on 1 0 10) ∷ [])
    (cell 2 4 2) (to 1 4 1) (at 1 0 3 ∷ at 2 1 4 ∷ []) 1
    -- 11: rows 0 to 10 on lines 0 and 2: placing 3/4 with wanted line 1 goes to line 0, site 3,
    -- rise 1
    ∷ placing_after Squared (AddRow (row_on 0 0 10) ∷ AddRow (row_on 2 0 10) ∷ [])
    (wanted_on 1 (cell 1 3 4)) (to 0 3 1) (at 1 0 3 ∷ []) 1
    -- 12: from 3, the second cell withdrawn: the first at 3, cost 0
    ∷ (leaves Squared (filling (row 0 10) pair ++ (Withdraw 2 ∷ [])) (at 1 0 3 ∷ []) 0 ∷ [])
    ∷ []

-- There are twelve cases, and every check of each comes out as it says.
pub record WorkedOut : Type 0 where
  pub count : length twelve ≡ 12
  pub each : AllByRecursion (AllByRecursion Comes) twelve
