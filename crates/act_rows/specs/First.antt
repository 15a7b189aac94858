-- The table as it is made: version 0, whose one row is row 1, of zeros.
use Rattle.std.specs.Prelude.{ℕ, ◌*◌, [], ◌∷◌, replicate, None}
use Rattle.act_rows.specs.declared.views.Snapshot.{Snapshot}
use Rattle.act_rows.specs.declared.views.Version.{Version}
use Rattle.act_rows.specs.declared.views.Desk.{Desk}
use Rattle.act_rows.specs.declared.views.View.{View}
use Rattle.act_rows.specs.declared.views.View.TheVariants.{Writes}
use Rattle.act_rows.specs.declared.board.Sizes.{Sizes}

abbrev pub first_image : ℕ → Snapshot
first_image rows = record { rows = 1 ∷ []; words = replicate (512 * rows) 0; firsts = [] }

abbrev pub first_version : ℕ → Version
first_version rows = record { root = 1; image = first_image rows }

abbrev pub first_desk : Sizes → Desk
first_desk k = record {
  pins = k.pins;
  rows = k.rows;
  history = [];
  versions = first_version k.rows ∷ [];
  words = replicate (512 * k.rows) 0;
  draft = [];
  bounds = replicate k.pins None;
  looks = [];
  told = [];
}

abbrev pub starting : Sizes → View
starting k = Writes (first_desk k)
