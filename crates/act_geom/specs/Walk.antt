-- A walk over the words of a body.
use Rattle.std.specs.Prelude.{◌≡◌, ◌≢◌, ℕ, ◌≤◌, Bool, Option, Some, None, List, [], ◌∷◌, ◌++◌, length, map, All}
use Rattle.std.specs.List.{flat_map}
use Rattle.act_grid.specs.declared.Point.{Point}
use Rattle.act_geom.specs.declared.walk.Walk.{Walk}
use Rattle.act_geom.specs.declared.walk.Phase.TheVariants.{Rings, Count, First, Next}
use Rattle.act_geom.specs.Edges.{ring_edges, edges_to, edges_of}
use Rattle.act_geom.specs.Inside.{counts, differ, is_odd_by, is_inside}
use Rattle.act_geom.specs.Body.{vertex_word, ring_words, body_of}

-- the words to come: of these vertices, and of r rings after them
pub record Coming (vertices : List Point) (rings : List (List Point)) (r : ℕ) (words : List ℕ) : Type 0 where
  pub count : length rings ≡ r
  pub full : All (λ ring. 3 ≤ length ring) rings
  pub spelled : words ≡ map vertex_word vertices ++ flat_map ring_words rings

-- the edges so far and those to come give the answer
abbrev pub Gives : Walk → List Point → List (List Point) → Bool → Type 0
Gives w path rings answer = differ w.odd (differ (is_odd_by (counts w.point) (edges_to w.first path)) (is_odd_by (counts w.point) (edges_of rings))) ≡ answer

-- the words to come end a body, and the answer at its end
pub data Expects (w : Walk) (words : List ℕ) (answer : Bool) : Type 0 where
  AtRings : w.phase ≡ Rings → (rings : List (List Point)) → All (λ ring. 3 ≤ length ring) rings → words ≡ body_of rings
      → is_inside rings w.point ≡ answer → Expects w words answer
  AtCount : w.phase ≡ Count → (rings : List (List Point)) → Coming [] rings w.rings words → 1 ≤ w.rings
      → differ w.odd (is_odd_by (counts w.point) (edges_of rings)) ≡ answer → Expects w words answer
  AtFirst : w.phase ≡ First → (ring : List Point) (rings : List (List Point)) → Coming ring rings w.rings words → length ring ≡ w.vertices → 3 ≤ length ring
      → differ w.odd (differ (is_odd_by (counts w.point) (ring_edges ring)) (is_odd_by (counts w.point) (edges_of rings))) ≡ answer → Expects w words answer
  AtNext : w.phase ≡ Next → (vertices : List Point) (rings : List (List Point)) → Coming vertices rings w.rings words → length vertices ≡ w.vertices → 1 ≤ length vertices
      → Gives w (w.last ∷ vertices) rings answer → Expects w words answer

-- the answer at the last word and not before, and else a walk that expects the words to come
abbrev pub Answers : Option Bool → Walk → List ℕ → Bool → Type 0
Answers (Some inside) w words answer = (words ≡ []) × (inside ≡ answer)
Answers None w words answer = (words ≢ []) × Expects w words answer

-- the walk expects the body of any rings, with their answer for the point
abbrev pub Starts : Walk → Point → Type 0
Starts w p = (rings : List (List Point)) → All (λ ring. 3 ≤ length ring) rings → Expects w (body_of rings) (is_inside rings p)

-- what a walk answers to a word that it expects, whatever words follow
abbrev pub Takes : Walk → ℕ → Option Bool → Walk → Type 0
Takes old word result new =
    (words : List ℕ) (answer : Bool) → Expects old (word ∷ words) answer → Answers result new words answer

-- what is answered for the words of a body
abbrev pub AnswersBody : List ℕ → Point → Option Bool → Type 0
AnswersBody words p result =
    (rings : List (List Point)) → All (λ ring. 3 ≤ length ring) rings → words ≡ body_of rings → result ≡ Some (is_inside rings p)
