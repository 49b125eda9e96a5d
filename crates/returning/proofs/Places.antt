-- What a graph's places are to those who divide: each is reached by leads from the root's, and each lead's target is one.
use Rattle.std.proofs.Common.{ℕ, ◌<◌, refl, subst, List, [], length}
use mathlib.Core.Logic.{∥∥₁_map, ∥∥₁_prop}
use Rattle.std.specs.Prelude.{ℤ}
use Rattle.std.specs.Ordering.{int_cmp}
use Rattle.std.specs.Cmp.Lexicographic.{slice_cmp}
use Rattle.std.proofs.lemmas.List.Elements.{Contains-get_or}
use Rattle.plane.specs.Matrices.{FieldMatrix}
use Rattle.tri_core.specs.declared.half.Half.{Half}
use Rattle.terrain.specs.declared.graph.Lead.{Lead}
use Rattle.terrain.specs.Places.{IsAt}
use Rattle.terrain.specs.Reach.{Path}
use Rattle.terrain.specs.Reach.Path.{start, on}
use Rattle.terrain.specs.Reach as keyed
use Rattle.terrain.specs.Graphs.{IsGraph}
use Rattle.terrain.proofs.CallerLemmas.{reached_least, at_within, read}
use Rattle.class_node.specs.Classes.{HasWalls}
use Rattle.class_node.specs.Leads as class
use Rattle.class_node.specs.Reached.{IsRootOf}
use Rattle.class_node.specs.TerrainLaws.{walls_agree, leads_agree}
use Rattle.quotient.specs.Trees.{row_at, HasLead, LeadsTo, IsReachedFrom}
use Rattle.returning.proofs.Classes.{key_at, there, here, key_is, row_stands, same_place, lead_stands, root_known}

module _ (t root : List ℤ) (base : List Half) (is : IsRootOf t root base) (keys : List (List ℤ)) (rows : List (List (Lead FieldMatrix))) (place : ℕ)
    (graph : IsGraph (slice_cmp int_cmp) (HasWalls t) (class.LeadsBy t) root keys rows place)
  where
    -- a place of the key, to which leads lead from the root's
    abbrev IsJoined : List ℤ → Type 0
    IsJoined key = (c : ℕ) × IsAt keys c key × (c < length rows) × Path (LeadsTo rows) place c

    joined_on : (k e : List ℤ) → keyed.LeadsTo (HasWalls t) (class.LeadsBy t) k e → IsJoined k → IsJoined e
    joined_on k e step (c, at, known, path) =
        let row = row_at rows c in
        let stands = row_stands t root base is keys rows place graph c known in
        let many = walls_agree t k step.walls (length row) step.has (graph.lead_each c k row at stands) in
        let l = read row step.wall (subst (λ n. step.wall < n) many step.within) in
        let x = graph.leads c step.wall k row l.0 at stands l.1 in
        let same = leads_agree t k step.wall x.0 e l.0.link step.link x.2 step.leads in
        (l.0.to, subst (IsAt keys l.0.to) same.0 x.1, here t root base is keys rows place graph l.0.to (at_within keys l.0.to x.0 x.1), on path (known, (step.wall, l.0, l.1, refl)))

    -- each place is reached by leads
    pub place_reached : (c : ℕ) → c < length rows → IsReachedFrom rows place c
    place_reached c known =
        let key = key_at keys c in
        let reached = (graph.reached key).0 (Contains-get_or keys c [] (there t root base is keys rows place graph c known)) in
        ∥∥₁_map
        (reached_least (HasWalls t) (class.LeadsBy t) root (λ k. ∥ IsJoined k ∥₁) (λ k. ∥∥₁_prop) ∣ (place, graph.root_at, root_known t root base is keys rows place graph, start) ∣₁
        (λ k e (known : ∥ IsJoined k ∥₁) step. ∥∥₁_map known (λ (x : IsJoined k). joined_on k e step x)) key reached)
        (λ (x : IsJoined key).
        subst (Path (LeadsTo rows) place)
        (same_place t root base is keys rows place graph x.0 c x.2 known (key_is t root base is keys rows place graph x.0 key x.1)) x.3)

    -- the target of each lead is a place
    pub lead_inside : (c w : ℕ) (lead : Lead FieldMatrix) → c < length rows → HasLead rows c w lead → lead.to < length rows
    lead_inside c w lead known has = (lead_stands t root base is keys rows place graph c w lead known has).0
