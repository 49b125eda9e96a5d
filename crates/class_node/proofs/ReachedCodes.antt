-- The keys that leads reach from the code of a base are the codes of the triangulations that crossings reach from it.
use Rattle.std.proofs.Common.{◌≡◌, ℕ, zero, suc, ◌<◌, List, length, slice_index, sym, ap, ◌∙◌, subst}
use mathlib.Core.Logic.{∥∥₁_elim, ∥∥₁_map, ∥∥₁_prop}
use Rattle.std.specs.Prelude.{ℤ, ◌↔◌, Some}
use Rattle.std.proofs.lemmas.Option.{slice_get-get_or}
use Rattle.std.specs.List.{Contains}
use Rattle.std.proofs.lemmas.List.Elements.{Contains-get_or}
use Rattle.std.specs.Ordering.{int_cmp}
use Rattle.std.specs.Cmp.Lexicographic.{slice_cmp}
use Rattle.quad_field.specs.FieldNumber.{IsFieldNumber}
use Rattle.quad_field.specs.Quads.{quad_ops}
use Rattle.rings.specs.Matrices.{Matrix}
use Rattle.quad_field.specs.declared.quad.Quad.{Quad}
use Rattle.plane.specs.Matrices.{FieldMatrix}
use Rattle.tri_core.specs.declared.half.Half.{Half}
use Rattle.tri_core.specs.Triangulation.{IsTriangulation}
use Rattle.tri_core.specs.Images.{IsImageBy, identity_matrix, AreTranslationEqual}
use Rattle.hinge_form.proofs.CallerLemmas.{least_edge_of}
use Rattle.hinge_form.specs.Triples.{Triple}
use Rattle.hinge_form.specs.Hinges.{full_triple}
use Rattle.hinge_form.specs.Walls.{IsWall}
use Rattle.parabola_region.specs.WallLists.{PlainWall, form_of, edges_of, IsWallList}
use Rattle.parabola_region.proofs.CallerLemmas.{one_wall}
use Rattle.wall_cross.specs.Crossings.{AreAllFlipped, Crosses, LeadsIn, IsReached}
use Rattle.wall_cross.proofs.CallerLemmas.{reached_itself, reached_crossing, one_crossing}
use Rattle.wall_cross.proofs.CarriedCallers.{image_inverse, line_of_multiple, cross_valid, crossing_carried, reached_valid}
use Rattle.terrain.specs.declared.graph.Lead.{Lead}
use Rattle.terrain.specs.Places.{IsAt}
use Rattle.terrain.specs.Reach.{LeadsTo}
use Rattle.terrain.specs.Graphs.{IsGraph}
use Rattle.terrain.proofs.CallerLemmas.{root_reached, lead_reached, reached_least, read}
use Rattle.canon_code.specs.Codes.{IsCode}
use Rattle.canon_code.specs.Canonical.{canonical, frame}
use Rattle.canon_code.proofs.CallerLemmas.{code_once, code_carried, framed, some_code}
use Rattle.class_node.specs.Classes.{field_of, IsClassOver, AreWallsOf, HasWalls}
use Rattle.class_node.specs.Leads.{IsLead, LeadsBy}
use Rattle.class_node.specs.Reached.{IsReachedCode, IsReachedKey, HasAllLeads, IsRootOf}
use Rattle.class_node.specs.Once.{class_valid, one_list_of_walls, behind_valid}
use Rattle.class_node.proofs.Equivariance.{lead_crosses}

-- the code of an image is that of the triangulation
code_of_image : (d : ℕ) (field : IsFieldNumber d) (n : Matrix Quad) (m : ℕ) (from to : List Half) (code : List ℤ) → IsTriangulation d from → IsTriangulation d to → IsImageBy d n m from to
    → IsCode d from code → IsCode d to code
code_of_image d field n m from to code valid valid_to image own = code_carried d field n m from to image.0 image.1 code valid valid_to image.2 own

-- the canonical triangulation of a code has an image that is the one that the code is of
canonical_image : (d : ℕ) (field : IsFieldNumber d) (halves : List Half) (code : List ℤ) → IsTriangulation d halves → (own : IsCode d halves code)
    → IsImageBy d (frame halves own.start) own.serial.scale (canonical d code) halves
canonical_image d field halves code valid own = (own.serial.place, own.serial.number, framed d field halves own.start code valid own.inside own.serial)

module _ (d : ℕ) (field : IsFieldNumber d) (base : List Half) (base_valid : IsTriangulation d base) where
  -- a lead from a reached code leads to a reached code
  reached_on : (code to : List ℤ) (w : ℕ) (link : FieldMatrix) (end : List Half) → IsReached d base end → IsCode d end code → IsClassOver d code → IsLead d code w to link
      → (later : List Half) × IsReached d base later × IsCode d later to
  reached_on code to w link end reached coded own lead =
      let valid : IsTriangulation d end = reached_valid d field base base_valid reached.0 end reached.1 in
      let image = canonical_image d field end code valid coded in
      let over =
      crossing_carried d field (frame end coded.start) coded.serial.scale (canonical d code) end (class_valid d code own) valid image
      (form_of lead.behind.0 w) (edges_of lead.behind.0 w) lead.later (lead_crosses d code own lead.behind.0 lead.behind.1 w to link lead lead.behind.2) in
      let reached_over : IsReached d base over.2 = reached_crossing d base end over.2 over.0 over.1 reached over.4 in (
        over.2,
        reached_over,
        code_of_image d field (frame end coded.start) coded.serial.scale lead.later over.2 to (behind_valid d code own w lead.later lead.behind)
            (reached_valid d field base base_valid reached_over.0 over.2 reached_over.1) over.5 lead.code_behind,
      )

pub sound : (t root : List ℤ) (base : List Half) (k : List ℤ) → IsRootOf t root base → IsReachedKey t root k → IsReachedCode (field_of t) base k
sound t root base k is reached =
    reached_least (HasWalls t) (LeadsBy t) root (IsReachedCode (field_of t) base) (λ k. ∥∥₁_prop) ∣ (base, reached_itself (field_of t) base, is.code) ∣₁
    (λ k e (known : IsReachedCode (field_of t) base k) (step : LeadsTo (HasWalls t) (LeadsBy t) k e).
    ∥∥₁_elim known ∥∥₁_prop (λ (x : (end : List Half) × IsReached (field_of t) base end × IsCode (field_of t) end k).
    ∥∥₁_map step.leads (λ (y : IsClassOver (field_of t) k × IsLead (field_of t) k step.wall e step.link).
    reached_on (field_of t) is.field base is.valid k e step.wall step.link x.0 x.1 x.2 y.0 y.1)))
    k reached

-- the number of a wall in a list, and that its edges are those
numbered : (d : ℕ) (field : IsFieldNumber d) (halves : List Half) (valid : IsTriangulation d halves) (walls : List PlainWall) (form : Triple) (edges : List ℕ) → IsWallList d halves walls → IsWall d halves form edges
    → (j : ℕ) × (j < length walls) × (edges_of walls j ≡ edges)
numbered d field halves valid walls form edges list wall =
    let h : ℕ = slice_index edges 0 in
    let own = least_edge_of d field halves valid form edges wall in
    let found = list.every h own.0 (line_of_multiple d field halves form (full_triple d halves h) own.1 valid wall.line) in
    let same = one_wall d field halves valid form (form_of walls found.0) edges (edges_of walls found.0) h wall (list.each found.0 found.1) (Contains-get_or edges 0 0 wall.some) found.2 in
    (found.0, found.1, sym same.1)

module _ (t root : List ℤ) (base : List Half) (is : IsRootOf t root base) (all : HasAllLeads t root) where
  -- the code behind a wall of a triangulation whose code is a reached key is one
  step : (between end : List Half) (code to : List ℤ) (form : Triple) (edges : List ℕ) → IsTriangulation (field_of t) between → IsCode (field_of t) between code → IsReachedKey t root code
      → Crosses (field_of t) between form edges end → IsCode (field_of t) end to → IsReachedKey t root to
  step between end code to form edges valid coded key crosses own_code =
      ∥∥₁_elim (all code key) ∥∥₁_prop (λ (x : (n : ℕ) × HasWalls t code n × ((w : ℕ) → w < n → (to : List ℤ) × (link : FieldMatrix) × LeadsBy t code w to link)).
      ∥∥₁_elim x.1 ∥∥₁_prop (λ (y : IsClassOver (field_of t) code × ((walls : List PlainWall) × AreWallsOf (field_of t) code walls × (length walls ≡ x.0))). by_list x y.0 y.1.0 y.1.1 y.1.2))
    where
      by_list : (x : (n : ℕ) × HasWalls t code n × ((w : ℕ) → w < n → (to : List ℤ) × (link : FieldMatrix) × LeadsBy t code w to link)) → IsClassOver (field_of t) code
          → (walls : List PlainWall) → AreWallsOf (field_of t) code walls → length walls ≡ x.0 → IsReachedKey t root to
      by_list x own walls are count =
          let d : ℕ = field_of t in
          let image = canonical_image d is.field between code valid coded in
          let back = image_inverse d (frame between coded.start) coded.serial.scale (canonical d code) between image.0 image.1 (class_valid d code own) image.2 is.field valid in
          let over = crossing_carried d is.field back.0 back.1 between (canonical d code) valid (class_valid d code own) (image.1, image.0, back.2) form edges end crosses in
          let at = numbered d is.field (canonical d code) (class_valid d code own) walls over.0 over.1 are over.4.0 in
          let less : at.0 < x.0 = subst (λ n. at.0 < n) count at.1 in
          let lead = x.2 at.0 less in
          ∥∥₁_elim lead.2 ∥∥₁_prop (λ (z : IsClassOver d code × IsLead d code at.0 lead.0 lead.1).
          let same : lead.0 ≡ to = same_code own walls are over.0 over.1 over.2 back.0 back.1 at.0 at.1 at.2 lead.0 lead.1 z.1 over.4 over.5 in
          subst (IsReachedKey t root) same
          (lead_reached (HasWalls t) (LeadsBy t) root code lead.0 key (record { walls = x.0; has = x.1; wall = at.0; within = less; link = lead.1; leads = lead.2 })))
        where
          same_code : IsClassOver (field_of t) code → (walls : List PlainWall) → AreWallsOf (field_of t) code walls → (l : Triple) (others : List ℕ) (later : List Half) (n : Matrix Quad) (m : ℕ) (w : ℕ)
              → w < length walls → edges_of walls w ≡ others → (e : List ℤ) (link : FieldMatrix) → IsLead (field_of t) code w e link → Crosses (field_of t) (canonical (field_of t) code) l others later
              → IsImageBy (field_of t) n m end later → e ≡ to
          same_code own walls are l others later n m w less same e link lead over image =
              let d : ℕ = field_of t in
              let C : List Half = canonical d code in
              let C_valid : IsTriangulation d C = class_valid d code own in
              let behind : AreAllFlipped d C others lead.later =
              subst (λ (edges : List ℕ). AreAllFlipped d C edges lead.later) (ap (λ (list : List PlainWall). edges_of list w) (one_list_of_walls d code own lead.behind.0 walls lead.behind.1 are) ∙ same) lead.behind.3 in
              let flipped : over.1.0 ≡ lead.later = one_crossing d is.field C C_valid l others over.0 over.1.0 lead.later over.1.1 behind in
              let translated : AreTranslationEqual d lead.later later = subst (λ (f : List Half). AreTranslationEqual d f later) flipped over.1.2 in
              let later_valid : IsTriangulation d later = cross_valid d is.field C C_valid l others later over in
              let end_valid : IsTriangulation d end = cross_valid d is.field between valid form edges end crosses in
              code_once d later e to
              (code_of_image d is.field (identity_matrix (quad_ops d)) 1 lead.later later e (behind_valid d code own w lead.later lead.behind) later_valid translated lead.code_behind)
              (code_of_image d is.field n m end later to end_valid later_valid image own_code)

  reached_key : (n : ℕ) (end : List Half) → LeadsIn (field_of t) base n end → (k : List ℤ) → IsCode (field_of t) end k → IsReachedKey t root k
  reached_key zero end same k own =
      subst (IsReachedKey t root) (code_once (field_of t) base root k is.code (subst (λ (halves : List Half). IsCode (field_of t) halves k) same own)) (root_reached (HasWalls t) (LeadsBy t) root)
  reached_key (suc n) end path k own =
      let valid : IsTriangulation (field_of t) path.0 = reached_valid (field_of t) is.field base is.valid n path.0 path.1 in
      let code = some_code (field_of t) is.field path.0 valid in
      step path.0 end code.0 k path.2.0 path.2.1 valid code.1 (reached_key n path.0 path.1 code.0 code.1) path.2.2 own

  pub complete : (k : List ℤ) → IsReachedCode (field_of t) base k → IsReachedKey t root k
  complete k known = ∥∥₁_elim known ∥∥₁_prop (λ (x : (end : List Half) × IsReached (field_of t) base end × IsCode (field_of t) end k). reached_key x.1.0 x.0 x.1.1 k x.2)

module _ (t root : List ℤ) (keys : List (List ℤ)) (rows : List (List (Lead FieldMatrix))) (place : ℕ) (graph : IsGraph (slice_cmp int_cmp) (HasWalls t) (LeadsBy t) root keys rows place) where
  -- a graph has all leads
  pub graph_leads : HasAllLeads t root
  graph_leads k reached =
      let held = (graph.reached k).1 reached in
      let i : ℕ = held.0 in
      let there = read keys i held.1 in
      let key : IsAt keys i k = slice_get-get_or keys i k held.1 ∙ ap Some held.2 in
      let row = read rows i (subst (λ n. i < n) (sym graph.row_each) held.1) in
      ∣ (
        length row.0,
        graph.lead_each i k row.0 key row.1,
        (λ w less. let lead = read row.0 w less in let leads = graph.leads i w k row.0 lead.0 key row.1 lead.1 in (leads.0, lead.0.link, leads.2)),
      ) ∣₁

  pub keys_are_codes : (base : List Half) → IsRootOf t root base → (k : List ℤ) → Contains keys k ↔ IsReachedCode (field_of t) base k
  keys_are_codes base is k = ((λ c. sound t root base k is ((graph.reached k).0 c)), (λ code. (graph.reached k).1 (complete t root base is graph_leads k code)))
