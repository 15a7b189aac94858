-- The rings of a text, or its first fault: the text is read from left to right.
use Rattle.std.specs.Prelude.{◌==◌, ◌&&◌, ◌||◌, ◌-◌, ℕ, ℤ, zero, suc, pos, Bool, List, [], ◌∷◌, Option, Result, Ok, Err, codes, drop, if◌then◌else◌, length, nat_lt, slice_index_or, take}
use Rattle.std.specs.Ordering.{int_eq}
use Rattle.std.specs.Result.{result_ok}
use Rattle.std.specs.Char.{is_ascii_digit}
use Rattle.std.specs.Prelude.{slice_index}
use Rattle.act_grid.specs.declared.Point.{Point}
use Rattle.act_grid.specs.declared.NumFault.{NumFault}
use Rattle.act_grid.specs.declared.NumFault.TheVariants as number
use Rattle.act_grid.specs.Number.{value_of}
use Rattle.act_wkt.specs.declared.fault.Miss.{Miss}
use Rattle.act_wkt.specs.declared.fault.WktKind.{WktKind}
use Rattle.act_wkt.specs.declared.fault.WktKind.TheVariants as kind
use Rattle.act_wkt.specs.declared.words.Geometry.{Geometry}
use Rattle.act_wkt.specs.declared.words.Geometry.TheVariants as geometry
use Rattle.act_wkt.specs.declared.token.Class.TheVariants as class
use Rattle.act_wkt.specs.Reading.{◌>>=◌, Fault, Found, Rings, with_front}
use Rattle.act_wkt.specs.Tokens.{begins, behind, front_of, is_word, miss, skip}

-- a number with the text behind it, or what is wrong with it
abbrev pub valued : Result ℤ NumFault → List ℕ → List ℕ → Result (ℤ × List ℕ) Miss
valued (Ok value) text rest = Ok (value, rest)
valued (Err number.Form) text rest = Err (miss kind.Number text)
valued (Err number.Range) text rest = Err (miss kind.Range text)

-- the number that is due: the longest run of the bytes of numbers
unfoldable pub number_at : ℕ → List ℕ → Result (ℤ × List ℕ) Miss
number_at digits text = valued (value_of digits (front_of class.Number (skip text))) (skip text) (behind class.Number (skip text))

-- the point that is due: two numbers. Where no blank stands between, the second one is empty
unfoldable pub point_at : ℕ → List ℕ → Result (Point × List ℕ) Miss
point_at digits text =
    number_at digits text >>= λ x. number_at digits x.1 >>= λ y. Ok (record { x = x.0; y = y.0 }, y.1)

-- the fault where neither `,` nor `)` stands behind a point
abbrev pub after_point : List ℕ → Miss
after_point text =
    if is_ascii_digit (slice_index text 0) || begins text 43 || begins text 45 || begins text 46 then miss kind.Dimension text else miss kind.NoClose text

-- one point before others
abbrev pub with_point : Point → Result (List Point × List ℕ) Miss → Result (List Point × List ℕ) Miss
with_point point read = read >>= λ points. Ok (point ∷ points.0, points.1)

-- the points that are due up to a `)`, where this many may come in the text
unfoldable pub points_at : ℕ → ℕ → List ℕ → Result (List Point × List ℕ) Miss
points_at digits zero text = Err (miss kind.Vertices (skip text))
points_at digits (suc room) text =
    point_at digits text >>= λ point.
    if begins (skip point.1) 44 then with_point point.0 (points_at digits room (drop 1 (skip point.1)))
    else if begins (skip point.1) 41 then Ok (point.0 ∷ [], skip point.1)
    else Err (after_point (skip point.1))

abbrev pub same_point : Point → Point → Bool
same_point a b = int_eq a.x b.x && int_eq a.y b.y

abbrev pub origin : Point
origin = record { x = pos 0; y = pos 0 }

-- the last point is the first one again
abbrev pub is_closed : List Point → Bool
is_closed points = same_point (slice_index_or points 0 origin) (slice_index_or points (length points - 1) origin)

-- the ring of these points, which isn't given its closing point, before a `)`
abbrev pub ring_of : ℕ → List Point → List ℕ → Result Found Miss
ring_of room points text =
    if nat_lt (length points) 4 then Err (miss kind.TooFew text)
    else if is_closed points then
    Ok (record { rings = take (length points - 1) points ∷ []; room = room - length points; rest = drop 1 text })
    else Err (miss kind.NotClosed text)

-- nothing, where the word `EMPTY` stands in place of a `(`
abbrev pub empty_at : ℕ → List ℕ → Result Found Miss
empty_at room text =
    if is_word (front_of class.Letter text) (codes "EMPTY") then Ok (record { rings = []; room = room; rest = behind class.Letter text })
    else Err (miss kind.NoOpen text)

-- the ring that is due
unfoldable pub ring_at : ℕ → ℕ → List ℕ → Result Found Miss
ring_at digits room text =
    if begins (skip text) 40 then (points_at digits room (drop 1 (skip text)) >>= λ points. ring_of room points.0 points.1)
    else empty_at room (skip text)

-- items joined by `,` up to a `)`; no more of them than bytes of the text, of which each takes one at least
unfoldable pub joined_at : (ℕ → List ℕ → Result Found Miss) → ℕ → ℕ → List ℕ → Result Found Miss
joined_at item zero room text = Err (miss kind.NoClose text)
joined_at item (suc more) room text =
    item room text >>= λ found.
    if begins (skip found.rest) 44 then with_front found.rings (joined_at item more found.room (drop 1 (skip found.rest)))
    else if begins (skip found.rest) 41 then Ok (record { rings = found.rings; room = found.room; rest = drop 1 (skip found.rest) })
    else Err (miss kind.NoClose (skip found.rest))

-- items in parentheses, or `EMPTY`
abbrev pub list_at : (ℕ → List ℕ → Result Found Miss) → ℕ → List ℕ → Result Found Miss
list_at item room text =
    if begins (skip text) 40 then joined_at item (length (skip text)) room (drop 1 (skip text)) else empty_at room (skip text)

-- the polygon that is due, and the polygons
unfoldable pub polygon_at : ℕ → ℕ → List ℕ → Result Found Miss
polygon_at digits = list_at (ring_at digits)

unfoldable pub polygons_at : ℕ → ℕ → List ℕ → Result Found Miss
polygons_at digits = list_at (polygon_at digits)

-- what the first word says
unfoldable pub is_dimension : List ℕ → Bool
is_dimension word = is_word word (codes "Z") || is_word word (codes "M") || is_word word (codes "ZM")

unfoldable pub has_dimension : List ℕ → Bool
has_dimension word =
    is_word word (codes "POLYGONZ") || is_word word (codes "POLYGONM") || is_word word (codes "POLYGONZM")
    || is_word word (codes "MULTIPOLYGONZ") || is_word word (codes "MULTIPOLYGONM") || is_word word (codes "MULTIPOLYGONZM")

unfoldable pub is_other_type : List ℕ → Bool
is_other_type word =
    is_word word (codes "POINT") || is_word word (codes "LINESTRING") || is_word word (codes "MULTIPOINT") || is_word word (codes "MULTILINESTRING")
    || is_word word (codes "GEOMETRYCOLLECTION") || is_word word (codes "TRIANGLE") || is_word word (codes "TIN") || is_word word (codes "POLYHEDRALSURFACE")

unfoldable pub geometry_of : List ℕ → Result Geometry WktKind
geometry_of word =
    if is_word word (codes "POLYGON") then Ok geometry.Polygon
    else if is_word word (codes "MULTIPOLYGON") then Ok geometry.Multi
    else if has_dimension word then Err kind.Dimension
    else if is_other_type word then Err kind.OtherType
    else Err kind.Keyword

-- what follows the first word
abbrev pub body_at : ℕ → Geometry → ℕ → List ℕ → Result Found Miss
body_at digits geometry.Polygon = polygon_at digits
body_at digits geometry.Multi = polygons_at digits

-- nothing but blanks stands behind
abbrev pub ending : Found → Result Rings Miss
ending found = if length (skip found.rest) == 0 then Ok found.rings else Err (miss kind.Trailing (skip found.rest))

-- the whole, from its first word on
abbrev pub whole_at : ℕ → Result Geometry WktKind → List ℕ → Result Rings Miss
whole_at digits (Err kind) text = Err (miss kind text)
whole_at digits (Ok geometry) text =
    if is_dimension (front_of class.Letter (skip (behind class.Letter text))) then Err (miss kind.Dimension (skip (behind class.Letter text)))
    else (body_at digits geometry 262144 (skip (behind class.Letter text)) >>= ending)

-- a fault with its place in the text
abbrev pub placed : List ℕ → Result Rings Miss → Result Rings Fault
placed text (Ok rings) = Ok rings
placed text (Err miss) = Err (record { kind = miss.kind; place = length text - miss.left })

-- the rings that a text writes, in order, or its first fault
unfoldable pub rings_of : ℕ → List ℕ → Result Rings Miss
rings_of digits text = whole_at digits (geometry_of (front_of class.Letter (skip text))) (skip text)

abbrev pub wkt_of : ℕ → List ℕ → Result Rings Fault
wkt_of digits text = placed text (rings_of digits text)

-- the rings that a text writes, if it has no fault
abbrev pub shape_of : ℕ → List ℕ → Option Rings
shape_of digits text = result_ok (wkt_of digits text)
