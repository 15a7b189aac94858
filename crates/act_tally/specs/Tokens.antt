-- What clauses see of the claims and of a claimer.
use Rattle.std.specs.Prelude.{[], false}
use Rattle.atomic_table.specs.Seated.{TableId}
use Rattle.act_tally.specs.declared.views.Keeper.{Keeper}
use Rattle.act_tally.specs.declared.views.Drawer.{Drawer}
use Rattle.act_tally.specs.declared.views.View.{View}
use Rattle.act_tally.specs.declared.views.View.TheVariants.{Keeps, Draws}

pub record Claimed : Type 0 where
  pub table : TableId
  pub keeper : Keeper

pub record Claiming : Type 0 where
  pub table : TableId
  pub drawer : Drawer

-- stand-ins where a view is another seat's
abbrev pub no_keeper : Keeper
no_keeper = record { pieces = 0; claimers = 0; handed = 0; taken = 0; ended = 0; fetched = [] }

abbrev pub no_drawer : Drawer
no_drawer = record { pieces = 0; fetched = []; ended = false }

abbrev pub keeper_of : View → Keeper
keeper_of (Keeps q) = q
keeper_of v = no_keeper

abbrev pub drawer_of : View → Drawer
drawer_of (Draws t) = t
drawer_of v = no_drawer
