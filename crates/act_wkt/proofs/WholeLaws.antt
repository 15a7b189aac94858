-- A text has the rings that the grammar gives it, and no others.
use Rattle.std.proofs.Common.{◌<◌, ◌≡◌, ℕ, ◌-◌, ◌+◌, ◌++◌, ◌==◌, ◌⊎◌, List, [], ◌∷◌, Bool, true, false, cond, Result, Ok, Err, refl, ap, sym, ◌∙◌, arith, inl, inr, length, drop, codes, subst, bytes_eq}
use Rattle.std.proofs.lemmas.Bool.{eqb-true}
use Rattle.std.proofs.lemmas.Slice.Eq.{bytes_eq-Decides}
use Rattle.std.specs.List.{list_all}
use Rattle.std.specs.Str.{str_to_ascii_lowercase}
use Rattle.act_wkt.specs.declared.fault.Miss.{Miss}
use Rattle.act_wkt.specs.declared.fault.WktKind.{WktKind}
use Rattle.act_wkt.specs.declared.fault.WktKind.TheVariants as kind
use Rattle.act_wkt.specs.declared.token.Class.TheVariants as class
use Rattle.act_wkt.specs.declared.words.Geometry.{Geometry}
use Rattle.act_wkt.specs.declared.words.Geometry.TheVariants as geometry
use Rattle.act_wkt.specs.Grammar.{IsList, IsName, IsPart, IsPolygon, IsPolygons, IsWkt, points_of}
use Rattle.act_wkt.specs.Reading.{◌>>=◌, Found, Rings}
use Rattle.act_wkt.specs.Tokens.{begins, behind, front_of, is_in, is_word, miss, skip}
use Rattle.act_wkt.specs.Wkt.{body_at, empty_at, ending, geometry_of, has_dimension, is_dimension, is_other_type, joined_at, list_at, placed, polygon_at, polygons_at, ring_at, rings_of, whole_at, wkt_of}
use Rattle.act_wkt.proofs.Joined.{Item, found}
use Rattle.act_wkt.proofs.ListLaws.{list_read, list_shrinks, never_cut_off, read_list}
use Rattle.act_wkt.proofs.PointLaws.{bind_ok, test_ok}
use Rattle.act_wkt.proofs.RingLaws.{Complete, IsPartOf, Shrinks, Sound, name_read, part_read, part_shrinks, read_name, read_part, unless_ok}
use Rattle.act_wkt.proofs.TokenLaws.{all_skipped, read_sign, skip_all, skip_twice}

polygon_read : (digits : ℕ) → Sound (polygon_at digits) (IsPolygon digits)
unfolding polygon_at
polygon_read digits = list_read (ring_at digits) (IsPart digits) (part_read digits)

read_polygon : (digits : ℕ) → Complete (polygon_at digits) (IsPolygon digits)
unfolding polygon_at
read_polygon digits = read_list (ring_at digits) (IsPart digits) (read_part digits) (part_shrinks digits)

polygon_shrinks : (digits : ℕ) → Shrinks (IsPolygon digits)
polygon_shrinks digits = list_shrinks (IsPart digits) (part_shrinks digits)

polygons_read : (digits : ℕ) → Sound (polygons_at digits) (IsPolygons digits)
unfolding polygons_at
polygons_read digits = list_read (polygon_at digits) (IsPolygon digits) (polygon_read digits)

read_polygons : (digits : ℕ) → Complete (polygons_at digits) (IsPolygons digits)
unfolding polygons_at
read_polygons digits = read_list (polygon_at digits) (IsPolygon digits) (read_polygon digits) (polygon_shrinks digits)

-- blanks before a list make no difference
skipped_list : (item : Item) (room : ℕ) (text : List ℕ) → list_at item room (skip text) ≡ list_at item room text
skipped_list item room text = ap (λ t. cond (begins t 40) (joined_at item (length t) room (drop 1 t)) (empty_at room t)) (skip_twice text)

skipped_polygon : (digits room : ℕ) (text : List ℕ) → polygon_at digits room (skip text) ≡ polygon_at digits room text
unfolding polygon_at
skipped_polygon digits = skipped_list (ring_at digits)

skipped_polygons : (digits room : ℕ) (text : List ℕ) → polygons_at digits room (skip text) ≡ polygons_at digits room text
unfolding polygons_at
skipped_polygons digits = skipped_list (polygon_at digits)

-- one word is no other
word_apart : (word name other : List ℕ) → is_word word name ≡ true → bytes_eq (str_to_ascii_lowercase name) (str_to_ascii_lowercase other) ≡ false → is_word word other ≡ false
word_apart word name other is apart =
    let same : str_to_ascii_lowercase word ≡ str_to_ascii_lowercase name = (bytes_eq-Decides (str_to_ascii_lowercase word) (str_to_ascii_lowercase name)).0 is in
    ap (λ l. bytes_eq l (str_to_ascii_lowercase other)) same ∙ apart

-- what the first word says
chosen : (a b c d : Bool) (g : Geometry)
    → cond a (Ok geometry.Polygon) (cond b (Ok geometry.Multi) (cond c (Err kind.Dimension) (cond d (Err kind.OtherType) (Err kind.Keyword)))) ≡ Ok g
    → ((a ≡ true) × (g ≡ geometry.Polygon)) ⊎ ((b ≡ true) × (g ≡ geometry.Multi))
chosen true b c d g h = inl (refl, cc)
chosen false true c d g h = inr (refl, cc)
chosen false false true d g h = absurd (cc)
chosen false false false true g h = absurd (cc)
chosen false false false false g h = absurd (cc)

named : (word : List ℕ) (g : Geometry) → geometry_of word ≡ Ok g → ((is_word word (codes "POLYGON") ≡ true) × (g ≡ geometry.Polygon)) ⊎ ((is_word word (codes "MULTIPOLYGON") ≡ true) × (g ≡ geometry.Multi))
unfolding geometry_of
named word g h = chosen (is_word word (codes "POLYGON")) (is_word word (codes "MULTIPOLYGON")) (has_dimension word) (is_other_type word) g h

polygon_named : (word : List ℕ) → is_word word (codes "POLYGON") ≡ true → geometry_of word ≡ Ok geometry.Polygon
unfolding geometry_of
polygon_named word h = ap (λ b. cond b (Ok geometry.Polygon) (cond (is_word word (codes "MULTIPOLYGON")) (Ok geometry.Multi) (cond (has_dimension word) (Err kind.Dimension) (cond (is_other_type word) (Err kind.OtherType) (Err kind.Keyword))))) h

polygons_named : (word : List ℕ) → is_word word (codes "MULTIPOLYGON") ≡ true → geometry_of word ≡ Ok geometry.Multi
unfolding geometry_of
polygons_named word h =
    ap (λ b. cond b (Ok geometry.Polygon) (cond (is_word word (codes "MULTIPOLYGON")) (Ok geometry.Multi) (cond (has_dimension word) (Err kind.Dimension) (cond (is_other_type word) (Err kind.OtherType) (Err kind.Keyword))))) (word_apart word (codes "MULTIPOLYGON") (codes "POLYGON") h refl)
    ∙ ap (λ b. cond b (Ok geometry.Multi) (cond (has_dimension word) (Err kind.Dimension) (cond (is_other_type word) (Err kind.OtherType) (Err kind.Keyword)))) h

-- neither `(` nor `EMPTY` is the word of a dimension
no_word : is_dimension [] ≡ false
unfolding is_dimension
no_word = refl

empty_word : (word : List ℕ) → is_word word (codes "EMPTY") ≡ true → is_dimension word ≡ false
unfolding is_dimension
empty_word word h = rw (word_apart word (codes "EMPTY") (codes "Z") h refl, word_apart word (codes "EMPTY") (codes "M") h refl, word_apart word (codes "EMPTY") (codes "ZM") h refl) refl

no_dimension : (IsItem : IsPartOf) (text rest : List ℕ) (rings : Rings) → IsList IsItem text rest rings → is_dimension (front_of class.Letter (skip text)) ≡ false
no_dimension IsItem text rest rings (inl h) = ap is_dimension (read_name (codes "EMPTY") text rest refl h.0).front ∙ empty_word h.0.word h.0.is_name
no_dimension IsItem text rest rings (inr h) = ap (λ l. is_dimension (front_of class.Letter l)) (read_sign 40 text h.inner refl h.opens) ∙ no_word

ending_ok : (one : Found) (rings : Rings) → ending one ≡ Ok rings → (one.rings ≡ rings) × (list_all (is_in class.Blank) one.rest ≡ true)
ending_ok one rings h =
    let t = test_ok (length (skip one.rest) == 0) one.rings rings (Ok one.rings) (miss kind.Trailing (skip one.rest)) refl h in
    (t.1, all_skipped one.rest (nothing (skip one.rest) (eqb-true (length (skip one.rest)) 0 t.0)))
  where
    nothing : (text : List ℕ) → length text ≡ 0 → text ≡ []
    nothing [] h = refl
    nothing (b ∷ text) h = absurd (omega arith)

abbrev Whole : ℕ → List ℕ → List ℕ → List ℕ → Rings → Type 0
Whole digits text behind rest rings =
    (IsName (codes "POLYGON") text behind × IsPolygon digits behind rest rings) ⊎ (IsName (codes "MULTIPOLYGON") text behind × IsPolygons digits behind rest rings)

body_read : (digits : ℕ) (text : List ℕ) (g : Geometry) (one : Found) → geometry_of (front_of class.Letter (skip text)) ≡ Ok g → body_at digits g 262144 (skip (behind class.Letter (skip text))) ≡ Ok one
    → Whole digits text (behind class.Letter (skip text)) one.rest one.rings × (one.room + points_of one.rings ≡ 262144)
body_read digits text g one is h = by (named (front_of class.Letter (skip text)) g is)
  where
    mid : List ℕ
    mid = behind class.Letter (skip text)

    by : ((is_word (front_of class.Letter (skip text)) (codes "POLYGON") ≡ true) × (g ≡ geometry.Polygon)) ⊎ ((is_word (front_of class.Letter (skip text)) (codes "MULTIPOLYGON") ≡ true) × (g ≡ geometry.Multi))
        → Whole digits text (behind class.Letter (skip text)) one.rest one.rings × (one.room + points_of one.rings ≡ 262144)
    by (inl n) =
        let p = polygon_read digits 262144 (behind class.Letter (skip text)) one (sym (skipped_polygon digits 262144 (behind class.Letter (skip text))) ∙ ap (λ (k : Geometry). body_at digits k 262144 (skip (behind class.Letter (skip text)))) (sym n.1) ∙ h) in
        (inl (name_read (codes "POLYGON") text n.0, p.0), p.1)
    by (inr n) =
        let p = polygons_read digits 262144 (behind class.Letter (skip text)) one (sym (skipped_polygons digits 262144 (behind class.Letter (skip text))) ∙ ap (λ (k : Geometry). body_at digits k 262144 (skip (behind class.Letter (skip text)))) (sym n.1) ∙ h) in
        (inr (name_read (codes "MULTIPOLYGON") text n.0, p.0), p.1)

whole_read : (digits : ℕ) (text : List ℕ) (rings : Rings) (g : Result Geometry WktKind) → geometry_of (front_of class.Letter (skip text)) ≡ g → whole_at digits g (skip text) ≡ Ok rings → IsWkt digits text rings
whole_read digits text rings (Err k) is h = absurd (cc)
whole_read digits text rings (Ok g) is h =
    let mid = behind class.Letter (skip text) in
    let u = unless_ok (is_dimension (front_of class.Letter (skip mid))) (miss kind.Dimension (skip mid)) (body_at digits g 262144 (skip mid) >>= ending) rings h in
    let p = bind_ok (body_at digits g 262144 (skip mid)) ending rings u.1 in
    let e = ending_ok p.0 rings p.2 in
    let b = body_read digits text g p.0 is p.1 in
    subst (λ (r : Rings). IsWkt digits text r) e.0 (record {
      behind = mid;
      rest = p.0.rest;
      whole = b.0;
      nothing_more = e.1;
      few = omega (arith, b.1);
    })

-- rings that are read are those of the grammar
pub rings_read : (digits : ℕ) (text : List ℕ) (rings : Rings) → rings_of digits text ≡ Ok rings → IsWkt digits text rings
unfolding rings_of
rings_read digits text rings h = whole_read digits text rings (geometry_of (front_of class.Letter (skip text))) refl h

-- and rings of the grammar are read
read_whole : (digits : ℕ) (text word mid rest : List ℕ) (rings : Rings) (g : Geometry) (room : ℕ) → skip text ≡ word ++ mid → front_of class.Letter (skip text) ≡ word → behind class.Letter (skip text) ≡ mid
    → geometry_of word ≡ Ok g → is_dimension (front_of class.Letter (skip mid)) ≡ false → body_at digits g 262144 (skip mid) ≡ Ok (found rings room rest) → list_all (is_in class.Blank) rest ≡ true
    → rings_of digits text ≡ Ok rings
unfolding rings_of
read_whole digits text word mid rest rings g room skipped front back is plain body blanks =
    ap (λ w. whole_at digits (geometry_of w) (skip text)) front
    ∙ ap (λ (k : Result Geometry WktKind). whole_at digits k (skip text)) is
    ∙ ap (λ m. cond (is_dimension (front_of class.Letter (skip m))) (Err (miss kind.Dimension (skip m))) (body_at digits g 262144 (skip m) >>= ending)) back
    ∙ ap (λ b. cond b (Err (miss kind.Dimension (skip mid))) (body_at digits g 262144 (skip mid) >>= ending)) plain
    ∙ ap (λ (r : Result Found Miss). r >>= ending) body
    ∙ ap (λ l. cond (length l == 0) (Ok rings) (Err (miss kind.Trailing l))) (skip_all rest blanks)

pub read_rings : (digits : ℕ) (text : List ℕ) (rings : Rings) → IsWkt digits text rings → rings_of digits text ≡ Ok rings
read_rings digits text rings h = by h.whole
  where
    by : Whole digits text h.behind h.rest rings → rings_of digits text ≡ Ok rings
    by (inl w) =
        let r = read_name (codes "POLYGON") text h.behind refl w.0 in
        read_whole digits text w.0.word h.behind h.rest rings geometry.Polygon (262144 - points_of rings) r.skipped r.front r.back (polygon_named w.0.word w.0.is_name)
        (no_dimension (IsPart digits) h.behind h.rest rings w.1)
        (skipped_polygon digits 262144 h.behind ∙ read_polygon digits 262144 h.behind h.rest rings w.1 h.few) h.nothing_more
    by (inr w) =
        let r = read_name (codes "MULTIPOLYGON") text h.behind refl w.0 in
        read_whole digits text w.0.word h.behind h.rest rings geometry.Multi (262144 - points_of rings) r.skipped r.front r.back (polygons_named w.0.word w.0.is_name)
        (no_dimension (IsPolygon digits) h.behind h.rest rings w.1)
        (skipped_polygons digits 262144 h.behind ∙ read_polygons digits 262144 h.behind h.rest rings w.1 h.few) h.nothing_more

placed_ok : (text : List ℕ) (read : Result Rings Miss) (rings : Rings) → placed text read ≡ Ok rings → read ≡ Ok rings
placed_ok text (Ok r) rings h = let same : r ≡ rings = cc in ap (λ (x : Rings). Ok x) same
placed_ok text (Err m) rings h = absurd (cc)

pub sound : (digits : ℕ) (text : List ℕ) (rings : Rings) → wkt_of digits text ≡ Ok rings → IsWkt digits text rings
sound digits text rings h = rings_read digits text rings (placed_ok text (rings_of digits text) rings h)

pub complete : (digits : ℕ) (text : List ℕ) (rings : Rings) → IsWkt digits text rings → wkt_of digits text ≡ Ok rings
complete digits text rings h = ap (placed text) (read_rings digits text rings h)

-- no list of rings or polygons is cut off
pub rings_never_cut_off : (digits more most room : ℕ) (text : List ℕ) → length text < more → length text < most → joined_at (ring_at digits) more room text ≡ joined_at (ring_at digits) most room text
rings_never_cut_off digits = never_cut_off (ring_at digits) (IsPart digits) (part_read digits) (part_shrinks digits)

pub polygons_never_cut_off : (digits more most room : ℕ) (text : List ℕ) → length text < more → length text < most → joined_at (polygon_at digits) more room text ≡ joined_at (polygon_at digits) most room text
polygons_never_cut_off digits = never_cut_off (polygon_at digits) (IsPolygon digits) (polygon_read digits) (polygon_shrinks digits)
