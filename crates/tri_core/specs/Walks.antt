-- For private contracts alone: a walk over all triangles, and half-edges that are carried along it.
use Rattle.std.specs.Prelude.{◌≡◌, ℕ, ◌*◌, ◌<◌, Bool, List, length, slice_index}
use Rattle.graph_search.specs.Search.{IsMarked}
use Rattle.tri_core.specs.declared.half.Half.{Half}
use Rattle.tri_core.specs.declared.equality.EqualFault.{EqualFault}
use Rattle.tri_core.specs.declared.equality.EqualFault.TheVariants as equal
use Rattle.tri_core.specs.declared.image.ImageFault.{ImageFault}
use Rattle.tri_core.specs.declared.image.ImageFault.TheVariants as image
use Rattle.tri_core.specs.HalfEdges.{vector_at, twin_at, triangle_of, next_of, previous_of}
use Rattle.tri_core.specs.Triangulation.{HasTriangles, IsTriangle, IsJoined}
use Rattle.tri_core.specs.Slots.{HasPairs}

-- whole triangles in pairs, and connected: a triangulation without its vectors
pub record AreGlued (halves : List Half) : Type 0 where
  pub count : HasTriangles halves
  pub pairs : HasPairs halves
  pub joined : (t : ℕ) → IsTriangle halves t → IsJoined halves t

-- a walk from half-edge 0: each further half-edge comes into its triangle from one where the walk was before
pub record IsPath (halves : List Half) (walk : List ℕ) : Type 0 where
  pub start : slice_index walk 0 ≡ 0
  pub inside : (i : ℕ) → i < length walk → slice_index walk i < length halves
  pub before : (i : ℕ) → 0 < i → i < length walk → (j : ℕ) × (j < i) × (triangle_of (twin_at halves (slice_index walk i)) ≡ triangle_of (slice_index walk j))

-- the walk comes into triangle t, by one of its first n half-edges
abbrev pub ComesBefore : List ℕ → ℕ → ℕ → Type 0
ComesBefore walk n t = (i : ℕ) × (i < n) × (triangle_of (slice_index walk i) ≡ t)

abbrev pub ComesInto : List ℕ → ℕ → Type 0
ComesInto walk t = ComesBefore walk (length walk) t

-- a walk that comes into every triangle
pub record IsWalk (halves : List Half) (walk : List ℕ) : Type 0 where
  pub path : IsPath halves walk
  pub all : (t : ℕ) → IsTriangle halves t → ComesInto walk t

-- a walk so far: it came into each triangle that is marked
pub record IsWalkSoFar (halves : List Half) (entered : List Bool) (walk : List ℕ) : Type 0 where
  pub as_many : 3 * length entered ≡ length halves
  pub path : IsPath halves walk
  pub marked : (t : ℕ) → IsMarked entered t → ComesInto walk t

-- `forth` carries the half-edges of a list to those of another, and keeps next, twin and vector
pub record Carries (one two : List Half) (forth : ℕ → ℕ) : Type 0 where
  pub inside : (k : ℕ) → k < length one → forth k < length two
  pub next : (k : ℕ) → k < length one → forth (next_of k) ≡ next_of (forth k)
  pub twin : (k : ℕ) → k < length one → forth (twin_at one k) ≡ twin_at two (forth k)
  pub vectors : (k : ℕ) → k < length one → vector_at two (forth k) ≡ vector_at one k

-- the same at one half-edge
pub record CarriesAt (one two : List Half) (forth : ℕ → ℕ) (k : ℕ) : Type 0 where
  pub next : forth (next_of k) ≡ next_of (forth k)
  pub twin : forth (twin_at one k) ≡ twin_at two (forth k)
  pub vectors : vector_at two (forth k) ≡ vector_at one k

-- the vectors of h and the two half-edges behind it are those of g and the two behind it
pub record AreSameTriangle (one two : List Half) (h g : ℕ) : Type 0 where
  pub own : vector_at two g ≡ vector_at one h
  pub next : vector_at two (next_of g) ≡ vector_at one (next_of h)
  pub previous : vector_at two (previous_of g) ≡ vector_at one (previous_of h)

-- `later` are the images where h goes to g, and so do the half-edges behind them
pub record IsPlaced (images : List ℕ) (h g : ℕ) (later : List ℕ) : Type 0 where
  pub count : length later ≡ length images
  pub own : slice_index later h ≡ g
  pub next : slice_index later (next_of h) ≡ next_of g
  pub previous : slice_index later (previous_of h) ≡ previous_of g
  pub others : (k : ℕ) → ¬ (triangle_of k ≡ triangle_of h) → slice_index later k ≡ slice_index images k

-- all images are half-edges of a list
abbrev pub AreInside : List ℕ → List Half → Type 0
AreInside images halves = (k : ℕ) → k < length images → slice_index images k < length halves

-- where the walk came by its first n half-edges, the images are those of `forth`
abbrev pub AgreeBefore : List Half → List ℕ → ℕ → (ℕ → ℕ) → List ℕ → Type 0
AgreeBefore one walk n forth images = (k : ℕ) → k < length one → ComesBefore walk n (triangle_of k) → slice_index images k ≡ forth k

-- the fault of a comparison for the fault of an image
abbrev pub equal_fault : ImageFault → EqualFault
equal_fault image.Wide = equal.Wide
equal_fault image.Memory = equal.Memory
