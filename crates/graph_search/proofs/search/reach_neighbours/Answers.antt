use Rattle.std.proofs.Common.{◌≡◌, ℕ, ◌<◌, ◌∙◌, length, get_or, sym, subst, arith, below_more}
use Rattle.std.proofs.lemmas.List.Elements.{All-from_get_or}
use Rattle.graph_search.specs.Reachable.{IsReachable}
use Rattle.graph_search.specs.Search.{IsMarked}
use Rattle.graph_search.proofs.CallerLemmas.{IsReachable-neighbour}
use Rattle.graph_search.proofs.Searches.{IsReached, IsSearch-reach, IsLater-reach, IsLater-along, IsMarked-reach, IsMarked-inside, neighbour_inside}
use Rattle.graph_search.proofs.search.reach_neighbours.Goals as goal

-- the neighbour at a place is a node
pub reach-requires-clause-node : goal.reach-requires-clause-node
reach-requires-clause-node g c =
    let n : ℕ = g.G.Graph.node_count c.args.graph.now in
    let neighbours = g.G.Graph.neighbours_of c.args.graph.now in
    let own : c.args.node < n = omega (arith, IsMarked-inside c.args.marks.now c.args.node c.requires.marked, c.requires.search.as_many) in
    let there : c.loop-place.place < length (neighbours c.args.node) = omega (arith, c.degree-place-end.ensures) in
    let inside : c.neighbour-other.result < n =
    neighbour_inside n neighbours c.args.node c.loop-place.place c.neighbour-other.result c.requires.graph own there c.neighbour-other.ensures in
    omega (arith, c.loop-place.invariant.search.as_many)

pub loop-place-preserved : goal.loop-place-preserved
loop-place-preserved g c =
    let n : ℕ = g.G.Graph.node_count c.args.graph.now in
    let neighbours = g.G.Graph.neighbours_of c.args.graph.now in
    let xs = neighbours c.args.node in
    let t : ℕ = c.neighbour-other.result in
    let marks = c.loop-place.marks in
    let found = c.loop-place.found.items in
    let old = c.loop-place.invariant in
    let own : c.args.node < n = omega (arith, IsMarked-inside c.args.marks.now c.args.node c.requires.marked, c.requires.search.as_many) in
    let there : c.loop-place.place < length xs = omega (arith, c.degree-place-end.ensures) in
    let is : get_or xs c.loop-place.place 0 ≡ t = sym c.neighbour-other.ensures in
    let node : t < n = neighbour_inside n neighbours c.args.node c.loop-place.place t c.requires.graph own there c.neighbour-other.ensures in
    let inside : t < length marks = omega (arith, old.search.as_many) in
    let joined : IsReachable n neighbours t =
    subst (IsReachable n neighbours) is
    (IsReachable-neighbour n neighbours c.args.node c.loop-place.place own there (c.requires.search.all_reached c.args.node c.requires.marked)) in
    let reached : IsReached marks found t c.reach.new.marks c.reach.new.found.items =
    record { marks_are = c.reach.ensures.marks; found_are = c.reach.ensures.found } in
    let later = IsLater-reach marks found t c.reach.new.marks c.reach.new.found.items inside reached in
    record {
      search = IsSearch-reach n neighbours marks found t c.reach.new.marks c.reach.new.found.items inside joined reached old.search;
      later = IsLater-along c.args.marks.now c.args.found.now.items marks found c.reach.new.marks c.reach.new.found.items old.later later;
      marked =
          below_more _ _ (λ k below. later.marked (get_or xs k 0) (old.marked k below))
          (subst (IsMarked c.reach.new.marks) (sym is) (IsMarked-reach marks found t c.reach.new.marks c.reach.new.found.items inside reached));
      room = c.reach.ensures.room;
      capacity = c.reach.ensures.capacity ∙ old.capacity;
    }

pub returns-clause-neighbours : goal.returns-clause-neighbours
returns-clause-neighbours g c =
    let xs = g.G.Graph.neighbours_of c.args.graph.now c.args.node in
    All-from_get_or (IsMarked c.loop-place.marks) xs 0
    (λ k below. c.loop-place.invariant.marked k (omega (arith, c.degree-place-end.ensures, c.loop-place-test.false)))
