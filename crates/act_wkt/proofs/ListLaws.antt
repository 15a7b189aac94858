-- Lists as the grammar has them are those that are read, whatever their items are.
use Rattle.std.proofs.Common.{◌<◌, ◌≡◌, ℕ, suc, zero, ◌-◌, ◌+◌, ◌≤◌, ◌++◌, List, [], ◌∷◌, Bool, true, false, cond, Result, Ok, Err, refl, ap, sym, ◌∙◌, arith, inl, inr, length, drop, codes, subst, append-nil}
use Rattle.std.proofs.lemmas.List.Sums.{sum_by-append}
use Rattle.act_grid.specs.declared.Point.{Point}
use Rattle.act_wkt.specs.declared.fault.Miss.{Miss}
use Rattle.act_wkt.specs.declared.fault.WktKind.TheVariants as kind
use Rattle.act_wkt.specs.Grammar.{IsJoined, IsList, IsSign, joined, points_of}
use Rattle.act_wkt.specs.Reading.{◌>>=◌, Found, Rings, with_front}
use Rattle.act_wkt.specs.Tokens.{begins, miss, skip}
use Rattle.act_wkt.specs.Wkt.{empty_at, joined_at, list_at}
use Rattle.act_wkt.proofs.Joined.{Item, found}
use Rattle.act_wkt.proofs.PointLaws.{bind_ok}
use Rattle.act_wkt.proofs.RingLaws.{Complete, IsPartOf, Shrinks, Sound, begun, empty_read, name_shrinks, no_open, not_begun, read_empty, sign_shrinks}
use Rattle.act_wkt.proofs.TokenLaws.{read_sign, sign_read}

pub points_append : (a b : Rings) → points_of (a ++ b) ≡ points_of a + points_of b
points_append a b = sum_by-append (λ (ring : List Point). suc (length ring)) a b

-- an item before others
more_items : (IsItem : IsPartOf) (text behind next rest : List ℕ) (item : Rings) (items : List Rings) → IsItem text behind item → IsSign 44 behind next → IsJoined IsItem next rest items → IsJoined IsItem text rest (item ∷ items)
more_items IsItem text behind next rest item [] i s h = absurd h
more_items IsItem text behind next rest item (other ∷ items) i s h = (behind, next, i, s, h)

pub record JoinedRead (IsItem : IsPartOf) (room : ℕ) (text : List ℕ) (one : Found) : Type 0 where
  pub items : List Rings
  pub are_items : IsJoined IsItem text one.rest items
  pub all_rings : one.rings ≡ joined items
  pub points : one.room + points_of one.rings ≡ room

abbrev behind_item : Item → ℕ → Found → Result Found Miss
behind_item item more one =
    cond (begins (skip one.rest) 44) (with_front one.rings (joined_at item more one.room (drop 1 (skip one.rest))))
    (cond (begins (skip one.rest) 41) (Ok (found one.rings one.room (drop 1 (skip one.rest)))) (Err (miss kind.NoClose (skip one.rest))))

joined_read : (item : Item) (IsItem : IsPartOf) → Sound item IsItem → (more room : ℕ) (text : List ℕ) (one : Found) → joined_at item more room text ≡ Ok one → JoinedRead IsItem room text one
unfolding joined_at
joined_read item IsItem sound zero room text one h = absurd (cc)
joined_read item IsItem sound (suc more) room text one h = by (begins (skip p.0.rest) 44) refl (begins (skip p.0.rest) 41) refl p.2 (joined_read item IsItem sound more p.0.room (drop 1 (skip p.0.rest)))
  where
    p : (first : Found) × (item room text ≡ Ok first) × (behind_item item more first ≡ Ok one)
    p = bind_ok (item room text) (behind_item item more) one h

    by : (comma : Bool) → begins (skip p.0.rest) 44 ≡ comma → (close : Bool) → begins (skip p.0.rest) 41 ≡ close
        → cond comma (with_front p.0.rings (joined_at item more p.0.room (drop 1 (skip p.0.rest)))) (cond close (Ok (found p.0.rings p.0.room (drop 1 (skip p.0.rest)))) (Err (miss kind.NoClose (skip p.0.rest)))) ≡ Ok one
        → ((other : Found) → joined_at item more p.0.room (drop 1 (skip p.0.rest)) ≡ Ok other → JoinedRead IsItem p.0.room (drop 1 (skip p.0.rest)) other)
        → JoinedRead IsItem room text one
    by true e close f g rest =
        let q = bind_ok (joined_at item more p.0.room (drop 1 (skip p.0.rest))) (λ other. Ok (found (p.0.rings ++ other.rings) other.room other.rest)) one g in
        let same : found (p.0.rings ++ q.0.rings) q.0.room q.0.rest ≡ one = cc in
        let after = rest q.0 q.1 in
        let first = sound room text p.0 p.1 in
        let whole : JoinedRead IsItem room text (found (p.0.rings ++ q.0.rings) q.0.room q.0.rest) = record {
          items = p.0.rings ∷ after.items;
          are_items = more_items IsItem text p.0.rest (drop 1 (skip p.0.rest)) q.0.rest p.0.rings after.items first.0 (sign_read 44 p.0.rest (omega arith) e) after.are_items;
          all_rings = ap (λ (r : Rings). p.0.rings ++ r) after.all_rings;
          points = omega (arith, points_append p.0.rings q.0.rings, after.points, first.1);
        } in
        subst (λ (o : Found). JoinedRead IsItem room text o) same whole
    by false e true f g rest =
        let same : found p.0.rings p.0.room (drop 1 (skip p.0.rest)) ≡ one = cc in
        let first = sound room text p.0 p.1 in
        let whole : JoinedRead IsItem room text (found p.0.rings p.0.room (drop 1 (skip p.0.rest))) = record {
          items = p.0.rings ∷ [];
          are_items = (p.0.rest, first.0, sign_read 41 p.0.rest (omega arith) f);
          all_rings = sym (append-nil p.0.rings);
          points = first.1;
        } in
        subst (λ (o : Found). JoinedRead IsItem room text o) same whole
    by false e false f g rest = absurd (cc)

read_joined : (item : Item) (IsItem : IsPartOf) → Complete item IsItem → (more room : ℕ) (text rest : List ℕ) (items : List Rings) → IsJoined IsItem text rest items → length items ≤ more → points_of (joined items) ≤ room
    → joined_at item more room text ≡ Ok (found (joined items) (room - points_of (joined items)) rest)
unfolding joined_at
read_joined item IsItem complete more room text rest [] h long few = absurd h
read_joined item IsItem complete zero room text rest (one ∷ []) h long few = absurd (omega arith)
read_joined item IsItem complete (suc more) room text rest (one ∷ []) h long few =
    let alone = append-nil one in
    let b = begun 41 h.0 rest refl h.2 in
    ap (λ (r : Result Found Miss). r >>= behind_item item more) (complete room text h.0 one h.1 (omega (arith, points_append one [])))
    ∙ ap (λ t. cond t (with_front one (joined_at item more (room - points_of one) (drop 1 (skip h.0)))) (cond (begins (skip h.0) 41) (Ok (found one (room - points_of one) (drop 1 (skip h.0)))) (Err (miss kind.NoClose (skip h.0))))) (not_begun 41 44 h.0 rest refl refl h.2)
    ∙ ap (λ t. cond t (Ok (found one (room - points_of one) (drop 1 (skip h.0)))) (Err (miss kind.NoClose (skip h.0)))) b.here
    ∙ ap (λ l. Ok (found one (room - points_of one) l)) b.next
    ∙ ap (λ (r : Rings). Ok (found r (room - points_of r) rest)) (sym alone)
read_joined item IsItem complete zero room text rest (one ∷ (other ∷ items)) h long few = absurd (omega arith)
read_joined item IsItem complete (suc more) room text rest (one ∷ (other ∷ items)) h long few =
    let all = joined (other ∷ items) in
    let count = points_append one all in
    let b = begun 44 h.0 h.1 refl h.3 in
    ap (λ (r : Result Found Miss). r >>= behind_item item more) (complete room text h.0 one h.2 (omega (arith, count)))
    ∙ ap (λ t. cond t (with_front one (joined_at item more (room - points_of one) (drop 1 (skip h.0)))) (cond (begins (skip h.0) 41) (Ok (found one (room - points_of one) (drop 1 (skip h.0)))) (Err (miss kind.NoClose (skip h.0))))) b.here
    ∙ ap (λ l. with_front one (joined_at item more (room - points_of one) l)) b.next
    ∙ ap (with_front one) (read_joined item IsItem complete more (room - points_of one) h.1 rest (other ∷ items) h.4 (omega arith) (omega (arith, count)))
    ∙ ap (λ n. Ok (found (one ++ all) n rest)) (omega (arith, count))

joined_shrinks : (IsItem : IsPartOf) → Shrinks IsItem → (text rest : List ℕ) (items : List Rings) → IsJoined IsItem text rest items → length rest + length items ≤ length text
joined_shrinks IsItem shrinks text rest [] h = absurd h
joined_shrinks IsItem shrinks text rest (item ∷ []) h = omega (arith, shrinks text h.0 item h.1, sign_shrinks 41 h.0 rest h.2)
joined_shrinks IsItem shrinks text rest (item ∷ (other ∷ items)) h =
    omega (arith, shrinks text h.0 item h.2, sign_shrinks 44 h.0 h.1 h.3, joined_shrinks IsItem shrinks h.1 rest (other ∷ items) h.4)

pub list_shrinks : (IsItem : IsPartOf) → Shrinks IsItem → Shrinks (IsList IsItem)
list_shrinks IsItem shrinks text rest rings (inl h) = name_shrinks (codes "EMPTY") text rest h.0
list_shrinks IsItem shrinks text rest rings (inr h) = omega (arith, sign_shrinks 40 text h.inner h.opens, joined_shrinks IsItem shrinks h.inner rest h.items h.are_items)

pub list_read : (item : Item) (IsItem : IsPartOf) → Sound item IsItem → Sound (list_at item) (IsList IsItem)
list_read item IsItem sound room text one h = by (begins (skip text) 40) refl h
  where
    by : (t : Bool) → begins (skip text) 40 ≡ t → cond t (joined_at item (length (skip text)) room (drop 1 (skip text))) (empty_at room (skip text)) ≡ Ok one
        → IsList IsItem text one.rest one.rings × (one.room + points_of one.rings ≡ room)
    by true e h =
        let j = joined_read item IsItem sound (length (skip text)) room (drop 1 (skip text)) one h in (
          inr (record {
            inner = drop 1 (skip text);
            items = j.items;
            opens = sign_read 40 text (omega arith) e;
            are_items = j.are_items;
            all_rings = j.all_rings;
          }),
          j.points,
        )
    by false e h =
        let p = empty_read room text one h in
        (inl (p.0, p.1), ap (λ (r : Rings). one.room + points_of r) p.1 ∙ omega (arith, p.2))

pub read_list : (item : Item) (IsItem : IsPartOf) → Complete item IsItem → Shrinks IsItem → Complete (list_at item) (IsList IsItem)
read_list item IsItem complete shrinks room text rest rings (inl h) few =
    ap (λ t. cond t (joined_at item (length (skip text)) room (drop 1 (skip text))) (empty_at room (skip text))) (no_open (codes "EMPTY") text rest refl h.0)
    ∙ read_empty room text rest h.0
    ∙ ap (λ n. Ok (found [] n rest)) (omega arith)
    ∙ ap (λ (r : Rings). Ok (found r (room - points_of r) rest)) (sym h.1)
read_list item IsItem complete shrinks room text rest rings (inr h) few =
    let is = read_sign 40 text h.inner refl h.opens in
    let long = joined_shrinks IsItem shrinks h.inner rest h.items h.are_items in
    ap (λ l. cond (begins l 40) (joined_at item (length l) room (drop 1 l)) (empty_at room l)) is
    ∙ read_joined item IsItem complete (suc (length h.inner)) room h.inner rest h.items h.are_items (omega (arith, long)) (subst (λ (r : Rings). points_of r ≤ room) h.all_rings few)
    ∙ ap (λ (r : Rings). Ok (found r (room - points_of r) rest)) (sym h.all_rings)

-- as each item takes a byte, a list is never cut off by how many items it may have
pub never_cut_off : (item : Item) (IsItem : IsPartOf) → Sound item IsItem → Shrinks IsItem → (more most room : ℕ) (text : List ℕ) → length text < more → length text < most → joined_at item more room text ≡ joined_at item most room text
unfolding joined_at
never_cut_off item IsItem sound shrinks zero most room text a b = absurd (omega arith)
never_cut_off item IsItem sound shrinks (suc more) zero room text a b = absurd (omega arith)
never_cut_off item IsItem sound shrinks (suc more) (suc most) room text a b = by (item room text) refl (never_cut_off item IsItem sound shrinks more most)
  where
    by : (read : Result Found Miss) → item room text ≡ read → ((left : ℕ) (rest : List ℕ) → length rest < more → length rest < most → joined_at item more left rest ≡ joined_at item most left rest)
        → (read >>= behind_item item more) ≡ (read >>= behind_item item most)
    by (Err m) e same = refl
    by (Ok one) e same = comma (begins (skip one.rest) 44) refl
      where
        comma : (t : Bool) → begins (skip one.rest) 44 ≡ t
            → cond t (with_front one.rings (joined_at item more one.room (drop 1 (skip one.rest)))) (cond (begins (skip one.rest) 41) (Ok (found one.rings one.room (drop 1 (skip one.rest)))) (Err (miss kind.NoClose (skip one.rest))))
            ≡ cond t (with_front one.rings (joined_at item most one.room (drop 1 (skip one.rest)))) (cond (begins (skip one.rest) 41) (Ok (found one.rings one.room (drop 1 (skip one.rest)))) (Err (miss kind.NoClose (skip one.rest))))
        comma false f = refl
        comma true f =
            let behind = shrinks text one.rest one.rings (sound room text one e).0 in
            let next = sign_shrinks 44 one.rest (drop 1 (skip one.rest)) (sign_read 44 one.rest (omega arith) f) in
            ap (with_front one.rings) (same one.room (drop 1 (skip one.rest)) (omega (arith, behind, next)) (omega (arith, behind, next)))
