-- How a view is changed. All that the contracts say of a change is one of these.
use Rattle.std.specs.Prelude.{ℕ, List, [], ◌∷◌, ◌++◌, length, slice_set, Some, None}
use Rattle.act_rows.specs.declared.views.Snapshot.{Snapshot}
use Rattle.act_rows.specs.declared.views.Version.{Version}
use Rattle.act_rows.specs.declared.views.Desk.{Desk}
use Rattle.act_rows.specs.declared.views.Ticket.{Ticket}
use Rattle.act_rows.specs.declared.views.Stage.TheVariants.{Idle, Hinted, Pinned, Holding}
use Rattle.act_rows.specs.History.{History}
use Rattle.act_rows.specs.Images.{place_in}
use Rattle.act_rows.specs.Bounds.{raised, bound_at, lowest}
use Rattle.act_rows.specs.Versions.{newest}

-- a reader that has loaded the version word once
abbrev pub hinted : Ticket → ℕ → Ticket
hinted t v = record t { stage = Hinted v }

-- a reader whose pin stands for that version
abbrev pub pinned : Ticket → ℕ → Ticket
pinned t v = record t { stage = Pinned v }

-- a reader that holds the version it decided on
abbrev pub holding : Ticket → History → Version → Ticket
holding t h x = record t { mine = t.mine ++ length h ∷ []; stage = Holding h x }

-- a reader that has left, and has seen the version that it held
abbrev pub left : Ticket → History → Ticket
left t h = record t { seen = h; stage = Idle }

-- the writer has looked at the pin word of reader j and found p
abbrev pub looked : Desk → ℕ → ℕ → Desk
looked d j p = record d { bounds = slice_set d.bounds j (Some (raised (newest d) p (bound_at d.bounds j))); looks = d.looks ++ (j, p) ∷ [] }

-- the writer has stored a word of a row
abbrev pub stored : Desk → ℕ → ℕ → ℕ → Desk
stored d row place word = record d { words = slice_set d.words (place_in row place) word; draft = d.draft ++ (row, place) ∷ [] }

-- the image of these rows, as the words stand
abbrev pub new_image : Desk → List ℕ → List (ℕ × ℕ) → Snapshot
new_image d rows firsts = record { rows = rows; words = d.words; firsts = firsts }

abbrev pub new_version : Desk → ℕ → List ℕ → List (ℕ × ℕ) → Version
new_version d root rows firsts = record { root = root; image = new_image d rows firsts }

-- the writer has published these rows, with this entry
abbrev pub published : Desk → List ℕ → ℕ → List ℕ → List (ℕ × ℕ) → Desk
published d entry root rows firsts = record d { history = d.history ++ entry ∷ []; versions = d.versions ++ new_version d root rows firsts ∷ []; draft = [] }

-- the writer has lent the lowest free reader, bound at the current version
abbrev pub lent : Desk → Desk
lent d = record d { bounds = slice_set d.bounds (lowest d.bounds) (Some (newest d)) }

-- a reader as it is lent: it has seen the whole history
abbrev pub newcomer : Desk → Ticket
newcomer d = record { number = lowest d.bounds; pins = d.pins; rows = d.rows; seen = d.history; told = []; mine = []; stage = Idle }

-- the writer has taken a reader back
abbrev pub returned : Desk → Ticket → Desk
returned d t = record d { bounds = slice_set d.bounds t.number None; told = t.seen }

-- a reader has been told a history
abbrev pub informed : Ticket → History → Ticket
informed t h = record t { told = h }
