-- The polygons that are joined to polygon 0 are the nodes that can be reached from node 0.
use Rattle.std.proofs.Common.{IsTrue, ◌≡◌, ℕ, zero, suc, ◌<◌, ◌↔◌, Bool, List, [], ◌∷◌, length, get_or, Option, Some, None, refl, sym, ◌∙◌, ap, subst, inl, inr, arith}
use Rattle.std.proofs.lemmas.List.{get_or-map, length-map}
use Rattle.std.proofs.lemmas.List.Elements.{All-get_or, All-from_get_or}
use Rattle.std.specs.List.{AllByRecursion}
use Rattle.graph_search.specs.Reachable.{IsGraph, IsClosedUnder, IsReachable, IsFirstApart}
use Rattle.plane.specs.declared.vec2.Vec2.{Vec2}
use Rattle.surface_text.specs.declared.file.Glue.{Glue}
use Rattle.surface_text.specs.Limits.{NamesSides}
use Rattle.gluing.specs.Gluings.{Name, first_of, second_of, no_glue, glue_at, IsPaired, IsClosedUnderGlues, IsJoined}
use Rattle.gluing.specs.Tables.{row_at, entry_of, IsTable, IsRowFull, IsFirstWithout}
use Rattle.gluing.specs.Neighbours.{HasTwins, AreRowsFull, polygon_across, neighbours_of}
use Rattle.gluing.proofs.Convex.{all_at}
use Rattle.gluing.proofs.Rooms.{inside_row}
use Rattle.gluing.proofs.Twins.{first_same, row_paired}

abbrev Rows : Type 0
Rows = List (List (Option Name))

-- the neighbour at a place is the polygon across that side
pub neighbour_at : (rows : Rows) (p e : ℕ) → e < length (row_at rows p) → get_or (neighbours_of rows p) e 0 ≡ polygon_across (entry_of rows (p, e))
neighbour_at rows p e inside = get_or-map polygon_across (row_at rows p) e None 0 inside

-- a side that has a twin is there
inside_table : (rows : Rows) (n twin : Name) → entry_of rows n ≡ Some twin → n.0 < length rows
inside_table [] n twin is = let no : ⊥ = cc in absurd no
inside_table (row ∷ rows) (zero, e) twin is = omega arith
inside_table (row ∷ rows) (suc p, e) twin is = let h = inside_table rows (p, e) twin is in omega arith

-- what holds at each place holds of all elements
all_from : {X : Type 0} (P : X → Type 0) (xs : List X) (d : X) → ((k : ℕ) → k < length xs → P (get_or xs k d)) → AllByRecursion P xs
all_from P [] d h = tt
all_from P (x ∷ xs) d h = (h 0 (omega arith), all_from P xs d (λ k l. h (suc k) (omega arith)))

module _ (polygons : List (List Vec2)) (glues : List Glue) (rows : Rows) (table : IsTable polygons glues rows) where
  -- a set that is closed under glue lines is closed under neighbours
  under_neighbours : AreRowsFull rows → (set : ℕ → Bool) → IsClosedUnderGlues glues set → IsClosedUnder (length rows) (neighbours_of rows) set
  under_neighbours full set closed = λ p inside holds.
      All-from_get_or (λ other. IsTrue (set other)) (neighbours_of rows p) 0 (λ e below.
      let there : e < length (row_at rows p) = omega (arith, length-map (row_at rows p) polygon_across) in
      subst (λ (m : ℕ). IsTrue (set m)) (sym (neighbour_at rows p e there)) (across p e holds (entry_of rows (p, e)) refl (full p inside e there)))
    where
      across : (p e : ℕ) → IsTrue (set p) → (o : Option Name) → entry_of rows (p, e) ≡ o → ¬ (entry_of rows (p, e) ≡ None) → IsTrue (set (polygon_across o))
      across p e holds None is some = absurd (some is)
      across p e holds (Some twin) is some =
          let w = table.twins (p, e) twin is in
          let both = all_at (λ (g : Glue). IsTrue (set g.p1) ↔ IsTrue (set g.p2)) glues no_glue w.0 closed w.1 in
          elim w.2 [
            | inl e ↦ subst (λ (m : Name). IsTrue (set m.0)) e.1 (both.0 (subst (λ (m : Name). IsTrue (set m.0)) (sym e.0) holds))
            | inr e ↦ subst (λ (m : Name). IsTrue (set m.0)) e.0 (both.1 (subst (λ (m : Name). IsTrue (set m.0)) (sym e.1) holds))
          ]

  -- and the other way round
  under_glues : (set : ℕ → Bool) → IsClosedUnder (length rows) (neighbours_of rows) set → IsClosedUnderGlues glues set
  under_glues set closed =
      all_from (λ (g : Glue). IsTrue (set g.p1) ↔ IsTrue (set g.p2)) glues no_glue (λ k l.
      let g = glue_at glues k in
      (across (first_of g) (second_of g) (table.first k l), across (second_of g) (first_of g) (table.second k l)))
    where
      across : (n twin : Name) → entry_of rows n ≡ Some twin → IsTrue (set n.0) → IsTrue (set twin.0)
      across n twin is holds =
          let there : n.1 < length (row_at rows n.0) = inside_row (row_at rows n.0) n.1 twin is in
          let below : n.1 < length (neighbours_of rows n.0) = omega (arith, length-map (row_at rows n.0) polygon_across) in
          subst (λ (m : ℕ). IsTrue (set m)) (neighbour_at rows n.0 n.1 there ∙ ap polygon_across is)
          (All-get_or (λ other. IsTrue (set other)) (neighbours_of rows n.0) n.1 0 below (closed n.0 (inside_table rows n twin is) holds))

  -- so the nodes that can be reached are the polygons that glue lines join to polygon 0
  pub reached_same : AreRowsFull rows → (p : ℕ) → (IsReachable (length rows) (neighbours_of rows) p ↔ IsJoined glues p)
  reached_same full p =
      ((λ reached set start closed. reached set start (under_neighbours full set closed)), (λ joined set start closed. joined set start (under_glues set closed)))

-- where all twins are there, the neighbours are nodes
pub neighbours_there : (rows : Rows) (n : ℕ) → length rows ≡ n → AreRowsFull rows → HasTwins rows → IsGraph n (neighbours_of rows)
neighbours_there rows n many full there = λ p inside.
    All-from_get_or (λ other. other < n) (neighbours_of rows p) 0 (λ e below.
    let within : e < length (row_at rows p) = omega (arith, length-map (row_at rows p) polygon_across) in
    subst (λ (m : ℕ). m < n) (sym (neighbour_at rows p e within)) (across p e (entry_of rows (p, e)) refl (full p (omega arith) e within)))
  where
    across : (p e : ℕ) → (o : Option Name) → entry_of rows (p, e) ≡ o → ¬ (entry_of rows (p, e) ≡ None) → polygon_across o < n
    across p e None is some = absurd (some is)
    across p e (Some twin) is some = omega (arith, there (p, e) twin is, many)

-- each twin in the table is a side of a polygon
pub HasTwins-table : (polygons : List (List Vec2)) (glues : List Glue) (rows : Rows) → AllByRecursion (NamesSides polygons) glues → IsTable polygons glues rows → HasTwins rows
HasTwins-table polygons glues rows there table = λ n twin is.
    let w = table.twins n twin is in
    let sides = all_at (NamesSides polygons) glues no_glue w.0 there w.1 in
    elim w.2 [
      | inl e ↦
          let place : twin.0 < length polygons = subst (λ (m : Name). m.0 < length polygons) e.1 sides.1.0 in
          omega (arith, table.shape.as_many, place)
      | inr e ↦
          let place : twin.0 < length polygons = subst (λ (m : Name). m.0 < length polygons) e.0 sides.0.0 in
          omega (arith, table.shape.as_many, place)
    ]

-- the first row that isn't full is the first polygon that isn't paired
pub paired_first : (polygons : List (List Vec2)) (glues : List Glue) (rows : Rows) (n : ℕ) (o : Option ℕ) → length rows ≡ n → IsTable polygons glues rows
    → IsFirstWithout (λ p. IsRowFull (row_at rows p)) n o → IsFirstWithout (IsPaired polygons glues) (length polygons) o
paired_first polygons glues rows n o e table h =
    first_same (λ p. IsRowFull (row_at rows p)) (IsPaired polygons glues) n (length polygons) o (sym e ∙ table.shape.as_many)
    (λ p below. row_paired polygons glues rows p table (omega (arith, table.shape.as_many))) h

-- where each polygon is paired, the rows are full
pub full_rows : (polygons : List (List Vec2)) (glues : List Glue) (rows : Rows) → IsTable polygons glues rows → ((p : ℕ) → p < length polygons → IsPaired polygons glues p) → AreRowsFull rows
full_rows polygons glues rows table paired = λ p inside.
    let there : p < length polygons = omega (arith, table.shape.as_many) in
    (row_paired polygons glues rows p table there).1 (paired p there)

-- the first node that can't be reached is the first polygon that isn't joined
pub joined_first : (polygons : List (List Vec2)) (glues : List Glue) (rows : Rows) (n : ℕ) (o : Option ℕ) → length rows ≡ n → IsTable polygons glues rows → AreRowsFull rows
    → IsFirstApart n (neighbours_of rows) o → IsFirstWithout (IsJoined glues) (length polygons) o
joined_first polygons glues rows n o e table full h = go o (subst (λ (m : ℕ). IsFirstApart m (neighbours_of rows) o) (sym e) h)
  where
    many : length rows ≡ length polygons
    many = table.shape.as_many

    go : (o : Option ℕ) → IsFirstApart (length rows) (neighbours_of rows) o → IsFirstWithout (IsJoined glues) (length polygons) o
    go None all = λ p below. (reached_same polygons glues rows table full p).0 (all p (omega (arith, many)))
    go (Some p) first =
        (omega (arith, first.node, many), (λ k below. (reached_same polygons glues rows table full k).0 (first.before k below)), (λ joined. first.fails ((reached_same polygons glues rows table full p).1 joined)))
