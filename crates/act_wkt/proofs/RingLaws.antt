-- Rings as the grammar has them are those that are read.
use Rattle.std.proofs.Common.{◌≡◌, ℕ, ℤ, suc, zero, ◌-◌, ◌+◌, ◌<◌, ◌≤◌, ◌++◌, ◌==◌, List, [], ◌∷◌, Bool, true, false, cond, Result, Ok, Err, refl, ap, sym, ◌∙◌, arith, length, drop, take, get_or, codes, subst, nat_lt}
use Rattle.std.proofs.lemmas.Bool.{eq-eqb, false≢true, ltb-false, le-ltb}
use Rattle.std.proofs.lemmas.Bool.Decides.{Decides-int_eq}
use Rattle.std.proofs.lemmas.List.{length-append, length-take-le}
use Rattle.std.proofs.Math.Seq.{get_or-append_seam, take-append_seam}
use Rattle.std.specs.List.{list_all}
use Rattle.std.specs.Ordering.{int_eq}
use Rattle.act_grid.specs.declared.Point.{Point}
use Rattle.act_wkt.specs.declared.fault.Miss.{Miss}
use Rattle.act_wkt.specs.declared.fault.WktKind.TheVariants as kind
use Rattle.act_wkt.specs.declared.token.Class.{Class}
use Rattle.act_wkt.specs.declared.token.Class.TheVariants as class
use Rattle.act_wkt.specs.Grammar.{IsName, IsPart, IsPoint, IsPoints, IsRing, IsRun, IsSign, points_of}
use Rattle.act_wkt.specs.Reading.{◌>>=◌, Found, Rings}
use Rattle.act_wkt.specs.Tokens.{begins, behind, front_of, is_in, is_word, miss, skip}
use Rattle.act_wkt.specs.Wkt.{after_point, empty_at, is_closed, origin, point_at, points_at, ring_at, ring_of, same_point, with_point}
use Rattle.act_wkt.proofs.Joined.{Item, found}
use Rattle.act_wkt.proofs.PointLaws.{bind_ok, point_read, read_point, test_ok}
use Rattle.act_wkt.proofs.TokenLaws.{Read, and_left, and_right, letter_no_blank, neither, read_run, read_sign, run_read, sign_read}

-- one point before others
pub more_before : (digits : ℕ) (text behind next rest : List ℕ) (point : Point) (points : List Point) → IsPoint digits text behind point → IsSign 44 behind next → IsPoints digits next rest points → IsPoints digits text rest (point ∷ points)
more_before digits text behind next rest point [] p s h = absurd h
more_before digits text behind next rest point (other ∷ points) p s h = (behind, next, p, s, h)

abbrev behind_one : ℕ → ℕ → Point × List ℕ → Result (List Point × List ℕ) Miss
behind_one digits room point =
    cond (begins (skip point.1) 44) (with_point point.0 (points_at digits room (drop 1 (skip point.1))))
    (cond (begins (skip point.1) 41) (Ok (point.0 ∷ [], skip point.1)) (Err (after_point (skip point.1))))

pub record PointsRead (digits room : ℕ) (text : List ℕ) (x : List Point × List ℕ) : Type 0 where
  pub are_points : IsPoints digits text (drop 1 x.1) x.0
  pub few : length x.0 ≤ room

pub points_read : (digits room : ℕ) (text : List ℕ) (x : List Point × List ℕ) → points_at digits room text ≡ Ok x → PointsRead digits room text x
unfolding points_at
points_read digits zero text x h = absurd (cc)
points_read digits (suc room) text x h = by (begins (skip p.0.1) 44) refl (begins (skip p.0.1) 41) refl p.2 (points_read digits room (drop 1 (skip p.0.1)))
  where
    p : (point : Point × List ℕ) × (point_at digits text ≡ Ok point) × (behind_one digits room point ≡ Ok x)
    p = bind_ok (point_at digits text) (behind_one digits room) x h

    by : (comma : Bool) → begins (skip p.0.1) 44 ≡ comma → (close : Bool) → begins (skip p.0.1) 41 ≡ close
        → cond comma (with_point p.0.0 (points_at digits room (drop 1 (skip p.0.1)))) (cond close (Ok (p.0.0 ∷ [], skip p.0.1)) (Err (after_point (skip p.0.1)))) ≡ Ok x
        → ((y : List Point × List ℕ) → points_at digits room (drop 1 (skip p.0.1)) ≡ Ok y → PointsRead digits room (drop 1 (skip p.0.1)) y)
        → PointsRead digits (suc room) text x
    by true e close f g rest =
        let more = bind_ok (points_at digits room (drop 1 (skip p.0.1))) (λ points. Ok (p.0.0 ∷ points.0, points.1)) x g in
        let same : (p.0.0 ∷ more.0.0, more.0.1) ≡ x = cc in
        let after = rest more.0 more.1 in
        subst (λ (y : List Point × List ℕ). PointsRead digits (suc room) text y) same (record {
          are_points = more_before digits text p.0.1 (drop 1 (skip p.0.1)) (drop 1 more.0.1) p.0.0 more.0.0 (point_read digits text p.0 p.1) (sign_read 44 p.0.1 (omega arith) e) after.are_points;
          few = omega (arith, after.few);
        })
    by false e true f g rest =
        let same : (p.0.0 ∷ [], skip p.0.1) ≡ x = cc in
        subst (λ (y : List Point × List ℕ). PointsRead digits (suc room) text y) same (record {
          are_points = (p.0.1, point_read digits text p.0 p.1, sign_read 41 p.0.1 (omega arith) f);
          few = omega arith;
        })
    by false e false f g rest = absurd (cc)

-- what stands first is this byte
pub record Begun (byte : ℕ) (text rest : List ℕ) : Type 0 where
  pub here : begins (skip text) byte ≡ true
  pub next : drop 1 (skip text) ≡ rest

pub begun : (byte : ℕ) (text rest : List ℕ) → is_in class.Blank byte ≡ false → IsSign byte text rest → Begun byte text rest
begun byte text rest apart h =
    let is = read_sign byte text rest apart h in
    record {
      here = ap (λ l. begins l byte) is ∙ eq-eqb byte byte refl;
      next = ap (drop 1) is;
    }

-- and no other one
pub not_begun : (byte other : ℕ) (text rest : List ℕ) → is_in class.Blank byte ≡ false → (byte == other) ≡ false → IsSign byte text rest → begins (skip text) other ≡ false
not_begun byte other text rest apart differ h = ap (λ l. begins l other) (read_sign byte text rest apart h) ∙ differ

pub read_points : (digits room : ℕ) (text rest : List ℕ) (points : List Point) → IsPoints digits text rest points → length points ≤ room
    → (end : List ℕ) × (points_at digits room text ≡ Ok (points, end)) × (drop 1 end ≡ rest)
unfolding points_at
read_points digits room text rest [] h few = absurd h
read_points digits zero text rest (point ∷ []) h few = absurd (omega arith)
read_points digits (suc room) text rest (point ∷ []) h few =
    let b = begun 41 h.0 rest refl h.2 in (
      skip h.0,
      ap (λ (r : Result (Point × List ℕ) Miss). r >>= behind_one digits room) (read_point digits text h.0 point h.1)
          ∙ ap (λ t. cond t (with_point point (points_at digits room (drop 1 (skip h.0)))) (cond (begins (skip h.0) 41) (Ok (point ∷ [], skip h.0)) (Err (after_point (skip h.0))))) (not_begun 41 44 h.0 rest refl refl h.2)
          ∙ ap (λ t. cond t (Ok (point ∷ [], skip h.0)) (Err (after_point (skip h.0)))) b.here,
      b.next,
    )
read_points digits zero text rest (point ∷ (other ∷ points)) h few = absurd (omega arith)
read_points digits (suc room) text rest (point ∷ (other ∷ points)) h few =
    let b = begun 44 h.0 h.1 refl h.3 in
    let more = read_points digits room h.1 rest (other ∷ points) h.4 (omega arith) in (
      more.0,
      ap (λ (r : Result (Point × List ℕ) Miss). r >>= behind_one digits room) (read_point digits text h.0 point h.2)
          ∙ ap (λ t. cond t (with_point point (points_at digits room (drop 1 (skip h.0)))) (cond (begins (skip h.0) 41) (Ok (point ∷ [], skip h.0)) (Err (after_point (skip h.0))))) b.here
          ∙ ap (λ l. with_point point (points_at digits room l)) b.next
          ∙ ap (with_point point) more.1,
      more.2,
    )

-- a point that closes a ring is its first one
same_is : (a b : Point) → same_point a b ≡ true → a ≡ b
same_is a b h =
    let x = (Decides-int_eq a.x b.x).0 (and_left (int_eq a.x b.x) (int_eq a.y b.y) h) in
    let y = (Decides-int_eq a.y b.y).0 (and_right (int_eq a.x b.x) (int_eq a.y b.y) h) in
    ap (λ (n : ℤ). record { x = n; y = a.y }) x ∙ ap (λ (n : ℤ). record { x = b.x; y = n }) y

same_here : (a : Point) → same_point a a ≡ true
same_here a = rw ((Decides-int_eq a.x a.x).1 refl, (Decides-int_eq a.y a.y).1 refl) refl

split_end : (n : ℕ) (more : List Point) → length more ≡ suc n → more ≡ take n more ++ (get_or more n origin ∷ [])
split_end n [] h = absurd (omega arith)
split_end zero (point ∷ []) h = refl
split_end zero (point ∷ (other ∷ more)) h = absurd (omega arith)
split_end (suc n) (point ∷ more) h = ap (λ l. point ∷ l) (split_end n more (omega arith))

-- the vertices of points that are closed
pub record Closed (points : List Point) (n : ℕ) : Type 0 where
  pub first : Point
  pub more : List Point
  pub parts : points ≡ first ∷ (more ++ first ∷ [])
  pub vertices : take (length points - 1) points ≡ first ∷ more
  pub count : length more ≡ n

closed_points : (points : List Point) (n : ℕ) → length points ≡ suc (suc n) → is_closed points ≡ true → Closed points n
closed_points [] n h closed = absurd (omega arith)
closed_points (first ∷ more) n h closed =
    let size : length more ≡ suc n = omega arith in
    let last : length (first ∷ more) - 1 ≡ suc n = omega arith in
    let same : first ≡ get_or more n origin = same_is first (get_or more n origin) (sym (ap (λ k. same_point first (get_or (first ∷ more) k origin)) last) ∙ closed) in
    record {
      first = first;
      more = take n more;
      parts = ap (λ l. first ∷ l) (split_end n more size ∙ ap (λ p. take n more ++ (p ∷ [])) (sym same));
      vertices = ap (λ k. take k (first ∷ more)) last;
      count = length-take-le n more (omega arith);
    }

-- and points with the first one at their end are closed
points_closed : (first : Point) (more : List Point) → (is_closed (first ∷ (more ++ first ∷ [])) ≡ true) × (take (length (first ∷ (more ++ first ∷ [])) - 1) (first ∷ (more ++ first ∷ [])) ≡ first ∷ more)
points_closed first more =
    let last : length (first ∷ (more ++ first ∷ [])) - 1 ≡ suc (length more) = omega (arith, length-append more (first ∷ [])) in (
      ap (λ k. same_point first (get_or (first ∷ (more ++ first ∷ [])) k origin)) last
          ∙ ap (λ p. same_point first p) (get_or-append_seam more first [] origin) ∙ same_here first,
      ap (λ k. take k (first ∷ (more ++ first ∷ []))) last ∙ ap (λ l. first ∷ l) (take-append_seam more (first ∷ [])),
    )

-- a reader answers what the grammar has; what the grammar has is answered; a part never lengthens the rest
abbrev pub IsPartOf : Type 1
IsPartOf = List ℕ → List ℕ → Rings → Type 0

abbrev pub Sound : Item → IsPartOf → Type 0
Sound item IsItem = (room : ℕ) (text : List ℕ) (one : Found) → item room text ≡ Ok one → IsItem text one.rest one.rings × (one.room + points_of one.rings ≡ room)

abbrev pub Complete : Item → IsPartOf → Type 0
Complete item IsItem = (room : ℕ) (text rest : List ℕ) (rings : Rings) → IsItem text rest rings → points_of rings ≤ room → item room text ≡ Ok (found rings (room - points_of rings) rest)

abbrev pub Shrinks : IsPartOf → Type 0
Shrinks IsItem = (text rest : List ℕ) (rings : Rings) → IsItem text rest rings → length rest ≤ length text

-- a name
pub name_read : (name text : List ℕ) → is_word (front_of class.Letter (skip text)) name ≡ true → IsName name text (behind class.Letter (skip text))
name_read name text h = record { word = front_of class.Letter (skip text); is_run = run_read class.Letter text; is_name = h }

some_letters : (word name : List ℕ) → is_word [] name ≡ false → is_word word name ≡ true → 0 < length word
some_letters [] name none h = absurd (false≢true (sym none ∙ h))
some_letters (b ∷ word) name none h = omega arith

pub read_name : (name text rest : List ℕ) → is_word [] name ≡ false → (h : IsName name text rest) → Read class.Letter text rest h.word
read_name name text rest none h = read_run class.Letter text rest h.word letter_no_blank (some_letters h.word name none h.is_name) h.is_run

begins_letters : (byte : ℕ) (word rest : List ℕ) → list_all (is_in class.Letter) word ≡ true → 0 < length word → is_in class.Letter byte ≡ false → begins (word ++ rest) byte ≡ false
begins_letters byte [] rest all some other = absurd (omega arith)
begins_letters byte (b ∷ word) rest all some other = neither (is_in class.Letter) b byte (and_left (is_in class.Letter b) (list_all (is_in class.Letter) word) all) other

pub no_open : (name text rest : List ℕ) → is_word [] name ≡ false → IsName name text rest → begins (skip text) 40 ≡ false
no_open name text rest none h =
    ap (λ l. begins l 40) (read_name name text rest none h).skipped
    ∙ begins_letters 40 h.word rest h.is_run.of_class (some_letters h.word name none h.is_name) refl

-- `EMPTY`
pub empty_read : (room : ℕ) (text : List ℕ) (one : Found) → empty_at room (skip text) ≡ Ok one → IsName (codes "EMPTY") text one.rest × (one.rings ≡ []) × (one.room ≡ room)
empty_read room text one h =
    let t = test_ok (is_word (front_of class.Letter (skip text)) (codes "EMPTY")) (found [] room (behind class.Letter (skip text))) one (Ok (found [] room (behind class.Letter (skip text)))) (miss kind.NoOpen (skip text)) refl h in (
      subst (λ (f : Found). IsName (codes "EMPTY") text f.rest) t.1 (name_read (codes "EMPTY") text t.0),
      sym (ap (λ (f : Found). f.rings) t.1),
      sym (ap (λ (f : Found). f.room) t.1),
    )

pub read_empty : (room : ℕ) (text rest : List ℕ) → IsName (codes "EMPTY") text rest → empty_at room (skip text) ≡ Ok (found [] room rest)
read_empty room text rest h =
    let r = read_name (codes "EMPTY") text rest refl h in
    ap (λ l. cond (is_word l (codes "EMPTY")) (Ok (found [] room (behind class.Letter (skip text)))) (Err (miss kind.NoOpen (skip text)))) r.front
    ∙ ap (λ b. cond b (Ok (found [] room (behind class.Letter (skip text)))) (Err (miss kind.NoOpen (skip text)))) h.is_name
    ∙ ap (λ l. Ok (found [] room l)) r.back

-- how a run, a sign and a name shorten the text
run_shrinks : (c : Class) (text rest run : List ℕ) → IsRun c text rest run → length rest ≤ length text
run_shrinks c text rest run h = omega (arith, ap length h.parts, length-append h.blanks (run ++ rest), length-append run rest)

pub sign_shrinks : (byte : ℕ) (text rest : List ℕ) → IsSign byte text rest → length rest < length text
sign_shrinks byte text rest h = omega (arith, ap length h.parts, length-append h.blanks (byte ∷ rest))

pub name_shrinks : (name text rest : List ℕ) → IsName name text rest → length rest ≤ length text
name_shrinks name text rest h = run_shrinks class.Letter text rest h.word h.is_run

point_shrinks : (digits : ℕ) (text rest : List ℕ) (point : Point) → IsPoint digits text rest point → length rest ≤ length text
point_shrinks digits text rest point h =
    omega (arith, run_shrinks class.Number text h.between h.is_x.run h.is_x.is_run, run_shrinks class.Number h.between rest h.is_y.run h.is_y.is_run)

points_shrink : (digits : ℕ) (text rest : List ℕ) (points : List Point) → IsPoints digits text rest points → length rest ≤ length text
points_shrink digits text rest [] h = absurd h
points_shrink digits text rest (point ∷ []) h = omega (arith, point_shrinks digits text h.0 point h.1, sign_shrinks 41 h.0 rest h.2)
points_shrink digits text rest (point ∷ (other ∷ points)) h =
    omega (arith, point_shrinks digits text h.0 point h.2, sign_shrinks 44 h.0 h.1 h.3, points_shrink digits h.1 rest (other ∷ points) h.4)

ring_shrinks : (digits : ℕ) (text rest : List ℕ) (ring : List Point) → IsRing digits text rest ring → length rest ≤ length text
ring_shrinks digits text rest [] h = absurd h
ring_shrinks digits text rest (first ∷ more) h = omega (arith, sign_shrinks 40 text h.0 h.1, points_shrink digits h.0 rest (first ∷ (more ++ first ∷ [])) h.2)

pub part_shrinks : (digits : ℕ) → Shrinks (IsPart digits)
part_shrinks digits text rest [] h = name_shrinks (codes "EMPTY") text rest h
part_shrinks digits text rest (ring ∷ []) h = ring_shrinks digits text rest ring h
part_shrinks digits text rest (ring ∷ (other ∷ rings)) h = absurd h

-- a ring or `EMPTY`
pub unless_ok : {F A : Type 0} (t : Bool) (e : F) (r : Result A F) (y : A) → cond t (Err e) r ≡ Ok y → (t ≡ false) × (r ≡ Ok y)
unless_ok true e r y h = absurd (cc)
unless_ok false e r y h = (refl, h)

ring_read : (digits room : ℕ) (text inner : List ℕ) (points : List Point × List ℕ) (one : Found) → IsSign 40 text inner → PointsRead digits room inner points → ring_of room points.0 points.1 ≡ Ok one
    → IsPart digits text one.rest one.rings × (one.room + points_of one.rings ≡ room)
ring_read digits room text inner points one opens read h =
    let ring = take (length points.0 - 1) points.0 in
    let a = unless_ok (nat_lt (length points.0) 4) (miss kind.TooFew points.1) (cond (is_closed points.0) (Ok (found (ring ∷ []) (room - length points.0) (drop 1 points.1))) (Err (miss kind.NotClosed points.1))) one h in
    let b = test_ok (is_closed points.0) (found (ring ∷ []) (room - length points.0) (drop 1 points.1)) one (Ok (found (ring ∷ []) (room - length points.0) (drop 1 points.1))) (miss kind.NotClosed points.1) refl a.1 in
    let many : 4 ≤ length points.0 = ltb-false (length points.0) 4 a.0 in
    let size : length points.0 ≡ suc (suc (length points.0 - 2)) = omega arith in
    let c = closed_points points.0 (length points.0 - 2) size b.0 in
    let is_ring : IsRing digits text (drop 1 points.1) (c.first ∷ c.more) = (inner, opens, rw (← c.parts) read.are_points, omega (arith, c.count)) in
    subst (λ (f : Found). IsPart digits text f.rest f.rings × (f.room + points_of f.rings ≡ room)) b.1
    (subst (λ (r : List Point). IsPart digits text (drop 1 points.1) (r ∷ []) × ((room - length points.0) + points_of (r ∷ []) ≡ room)) (sym c.vertices) (is_ring, omega (arith, c.count, read.few)))

pub part_read : (digits : ℕ) → Sound (ring_at digits) (IsPart digits)
unfolding ring_at
part_read digits room text one h = by (begins (skip text) 40) refl h
  where
    by : (t : Bool) → begins (skip text) 40 ≡ t → cond t (points_at digits room (drop 1 (skip text)) >>= λ points. ring_of room points.0 points.1) (empty_at room (skip text)) ≡ Ok one
        → IsPart digits text one.rest one.rings × (one.room + points_of one.rings ≡ room)
    by true e h =
        let p = bind_ok (points_at digits room (drop 1 (skip text))) (λ points. ring_of room points.0 points.1) one h in
        ring_read digits room text (drop 1 (skip text)) p.0 one (sign_read 40 text (omega arith) e) (points_read digits room (drop 1 (skip text)) p.0 p.1) p.2
    by false e h =
        let p = empty_read room text one h in
        (subst (λ (r : Rings). IsPart digits text one.rest r) (sym p.1) p.0, ap (λ (r : Rings). one.room + points_of r) p.1 ∙ omega (arith, p.2))

pub read_part : (digits : ℕ) → Complete (ring_at digits) (IsPart digits)
unfolding ring_at
read_part digits room text rest [] h few =
    ap (λ t. cond t (points_at digits room (drop 1 (skip text)) >>= λ points. ring_of room points.0 points.1) (empty_at room (skip text))) (no_open (codes "EMPTY") text rest refl h)
    ∙ read_empty room text rest h ∙ ap (λ n. Ok (found [] n rest)) (omega arith)
read_part digits room text rest ([] ∷ []) h few = absurd h
read_part digits room text rest ((first ∷ more) ∷ []) h few =
    let points = first ∷ (more ++ first ∷ []) in
    let size : length points ≡ length more + 2 = omega (arith, length-append more (first ∷ [])) in
    let b = begun 40 text h.0 refl h.1 in
    let p = read_points digits room h.0 rest points h.2 (omega (arith, size)) in
    let c = points_closed first more in
    ap (λ t. cond t (points_at digits room (drop 1 (skip text)) >>= λ points. ring_of room points.0 points.1) (empty_at room (skip text))) b.here
    ∙ ap (λ l. points_at digits room l >>= λ points. ring_of room points.0 points.1) b.next
    ∙ ap (λ (r : Result (List Point × List ℕ) Miss). r >>= λ points. ring_of room points.0 points.1) p.1
    ∙ ap (λ t. cond t (Err (miss kind.TooFew p.0)) (cond (is_closed points) (Ok (found (take (length points - 1) points ∷ []) (room - length points) (drop 1 p.0))) (Err (miss kind.NotClosed p.0)))) (le-ltb (length points) 4 (omega (arith, size, h.3)))
    ∙ ap (λ t. cond t (Ok (found (take (length points - 1) points ∷ []) (room - length points) (drop 1 p.0))) (Err (miss kind.NotClosed p.0))) c.0
    ∙ ap (λ l. Ok (found (l ∷ []) (room - length points) (drop 1 p.0))) c.1
    ∙ ap (λ l. Ok (found ((first ∷ more) ∷ []) (room - length points) l)) p.2
    ∙ ap (λ n. Ok (found ((first ∷ more) ∷ []) n rest)) (omega (arith, size))
read_part digits room text rest (ring ∷ (other ∷ rings)) h few = absurd h
