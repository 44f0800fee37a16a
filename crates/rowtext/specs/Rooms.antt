-- How much the buffers of a run hold before they must grow.
use Rattle.std.specs.Prelude.{ℕ, vec_capacity}
use Rattle.rowtext.specs.declared.room.Room.{Room as Buffers}

-- how many bytes, cells, sites and bytes the four buffers hold
pub record Capacity : Type 0 where
  pub text : ℕ
  pub cells : ℕ
  pub sites : ℕ
  pub said : ℕ

-- the capacity of a run's buffers
abbrev pub room_of : Buffers → Capacity
room_of b = record {
  text = vec_capacity b.text;
  cells = vec_capacity b.cells;
  sites = vec_capacity b.sites;
  said = vec_capacity b.said;
}

-- buffers that hold nothing yet
abbrev pub no_room : Capacity
no_room = record { text = 0; cells = 0; sites = 0; said = 0 }
