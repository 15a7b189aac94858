-- Where a cutter stands, by its fields.
use Rattle.std.specs.Prelude.{◌≡◌, ◌≤◌, ◌+◌, [], length, slice_range}
use Rattle.act_script.specs.Cutting.{Cutting, IsOpen, unmarked}
use Rattle.act_script.specs.declared.cutter.TheConstants.{MOST_BYTES, MOST_LINES}
use Rattle.act_script.specs.declared.cutter.Cutter.TheInside.{Inside}

abbrev pub cutting_of : Inside → Cutting
cutting_of c = record { number = c.number; held = c.held.items; line = slice_range c.ended.items c.start c.end; fault = c.fault }

-- the line at hand keeps to its limits, and the last one stands where it is said to
pub record IsCutter (c : Inside) : Type 0 where
  pub number : c.number ≤ MOST_LINES
  pub last : c.number ≡ MOST_LINES → c.held.items ≡ []
  pub open_held : IsOpen c.held.items
  pub short_held : length (unmarked c.number c.held.items) ≤ MOST_BYTES
  pub start : c.start ≤ c.end
  pub end : c.end ≤ length c.ended.items
  pub short : c.end ≤ MOST_BYTES + c.start
  pub open_ended : IsOpen c.ended.items
