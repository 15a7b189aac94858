-- The grammar of a text: each relation says that a text begins with a part, and that a rest stands behind it.
use Rattle.std.specs.Prelude.{◌≡◌, ◌≤◌, ◌++◌, ◌⊎◌, ℕ, ℤ, suc, true, false, List, [], ◌∷◌, Ok, codes, length, slice_index, sum_by}
use Rattle.std.specs.List.{list_all}
use Rattle.act_grid.specs.declared.Point.{Point}
use Rattle.act_grid.specs.Number.{value_of}
use Rattle.act_wkt.specs.declared.token.Class.{Class}
use Rattle.act_wkt.specs.declared.token.Class.TheVariants as class
use Rattle.act_wkt.specs.Reading.{Rings}
use Rattle.act_wkt.specs.Tokens.{is_in, is_word}

-- blanks, and then the longest run of bytes of the class
pub record IsRun (bytes : Class) (text rest run : List ℕ) : Type 0 where
  pub blanks : List ℕ
  pub are_blanks : list_all (is_in class.Blank) blanks ≡ true
  pub of_class : list_all (is_in bytes) run ≡ true
  pub longest : is_in bytes (slice_index rest 0) ≡ false
  pub parts : text ≡ blanks ++ (run ++ rest)

-- blanks, and then this byte
pub record IsSign (byte : ℕ) (text rest : List ℕ) : Type 0 where
  pub blanks : List ℕ
  pub are_blanks : list_all (is_in class.Blank) blanks ≡ true
  pub parts : text ≡ blanks ++ (byte ∷ rest)

-- this word, in any letter case
pub record IsName (name text rest : List ℕ) : Type 0 where
  pub word : List ℕ
  pub is_run : IsRun class.Letter text rest word
  pub is_name : is_word word name ≡ true

pub record IsNumber (digits : ℕ) (text rest : List ℕ) (value : ℤ) : Type 0 where
  pub run : List ℕ
  pub is_run : IsRun class.Number text rest run
  pub has_value : value_of digits run ≡ Ok value

-- two numbers, which a blank parts
pub record IsPoint (digits : ℕ) (text rest : List ℕ) (point : Point) : Type 0 where
  pub between : List ℕ
  pub is_x : IsNumber digits text between point.x
  pub is_y : IsNumber digits between rest point.y
  pub blank : is_in class.Blank (slice_index between 0) ≡ true

-- points joined by `,`, and then `)`
abbrev pub IsPoints : ℕ → List ℕ → List ℕ → List Point → Type 0
IsPoints digits text rest [] = ⊥
IsPoints digits text rest (point ∷ []) = (behind : List ℕ) × IsPoint digits text behind point × IsSign 41 behind rest
IsPoints digits text rest (point ∷ (other ∷ points)) =
    (behind : List ℕ) × (next : List ℕ) × IsPoint digits text behind point × IsSign 44 behind next × IsPoints digits next rest (other ∷ points)

-- a ring in parentheses, of three vertices or more: its first point is given again at its end
abbrev pub IsRing : ℕ → List ℕ → List ℕ → List Point → Type 0
IsRing digits text rest [] = ⊥
IsRing digits text rest (first ∷ more) =
    (inner : List ℕ) × IsSign 40 text inner × IsPoints digits inner rest (first ∷ (more ++ first ∷ [])) × (2 ≤ length more)

-- a ring, or `EMPTY`
abbrev pub IsPart : ℕ → List ℕ → List ℕ → Rings → Type 0
IsPart digits text rest [] = IsName (codes "EMPTY") text rest
IsPart digits text rest (ring ∷ []) = IsRing digits text rest ring
IsPart digits text rest (ring ∷ (other ∷ rings)) = ⊥

-- items joined by `,`, and then `)`; each item has rings
abbrev pub IsJoined : (List ℕ → List ℕ → Rings → Type 0) → List ℕ → List ℕ → List Rings → Type 0
IsJoined IsItem text rest [] = ⊥
IsJoined IsItem text rest (item ∷ []) = (behind : List ℕ) × IsItem text behind item × IsSign 41 behind rest
IsJoined IsItem text rest (item ∷ (other ∷ items)) =
    (behind : List ℕ) × (next : List ℕ) × IsItem text behind item × IsSign 44 behind next × IsJoined IsItem next rest (other ∷ items)

-- the rings of all items, in order
abbrev pub joined : List Rings → Rings
joined [] = []
joined (item ∷ items) = item ++ joined items

-- items in parentheses
pub record IsListed (IsItem : List ℕ → List ℕ → Rings → Type 0) (text rest : List ℕ) (rings : Rings) : Type 0 where
  pub inner : List ℕ
  pub items : List Rings
  pub opens : IsSign 40 text inner
  pub are_items : IsJoined IsItem inner rest items
  pub all_rings : rings ≡ joined items

-- such a list, or `EMPTY`
abbrev pub IsList : (List ℕ → List ℕ → Rings → Type 0) → List ℕ → List ℕ → Rings → Type 0
IsList IsItem text rest rings = (IsName (codes "EMPTY") text rest × (rings ≡ [])) ⊎ IsListed IsItem text rest rings

abbrev pub IsPolygon : ℕ → List ℕ → List ℕ → Rings → Type 0
IsPolygon digits = IsList (IsPart digits)

abbrev pub IsPolygons : ℕ → List ℕ → List ℕ → Rings → Type 0
IsPolygons digits = IsList (IsPolygon digits)

-- how many points the rings have in a text, closing ones counted
abbrev pub points_of : Rings → ℕ
points_of rings = sum_by (λ ring. suc (length ring)) rings

-- the text writes these rings: `POLYGON` and a polygon, or `MULTIPOLYGON` and polygons, with no more points than a text may have
pub record IsWkt (digits : ℕ) (text : List ℕ) (rings : Rings) : Type 0 where
  pub behind : List ℕ
  pub rest : List ℕ
  pub whole : (IsName (codes "POLYGON") text behind × IsPolygon digits behind rest rings) ⊎ (IsName (codes "MULTIPOLYGON") text behind × IsPolygons digits behind rest rings)
  pub nothing_more : list_all (is_in class.Blank) rest ≡ true
  pub few : points_of rings ≤ 262144
