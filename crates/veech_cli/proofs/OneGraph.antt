-- A base has one graph of its classes, and one list of matrices.
use Rattle.std.proofs.Common.{◌≡◌, ◌∙◌, ℕ, suc, ◌<◌, List, [], ◌∷◌, length, get_or, refl, ap, ap₂, sym, subst, arith}
use Rattle.std.specs.Prelude.{ℤ, Some}
use Rattle.std.specs.Ordering.{MatchOrdering, int_cmp, nat_cmp}
use Rattle.std.specs.declared.cmp.Ordering.{Ordering}
use Rattle.std.specs.declared.cmp.Ordering.TheVariants.{Less, Equal, Greater}
use Rattle.std.specs.Cmp.Lexicographic.{slice_cmp}
use Rattle.std.proofs.lemmas.Cmp.{lists_total, int_cmp_total, nat_cmp_total, ranked}
use Rattle.std.proofs.lemmas.Option.{slice_get-get_or, get_or_from_slice_get}
use mathlib.Core.Logic.{∥∥₁_elim}
use Rattle.quad_field.specs.FieldNumber.{IsFieldNumber}
use Rattle.plane.specs.Matrices.{FieldMatrix, identity}
use Rattle.tri_core.specs.declared.half.Half.{Half}
use Rattle.tri_core.specs.Triangulation.{IsTriangulation}
use Rattle.tri_core.specs.Images.{CarriesFrame}
use Rattle.parabola_region.specs.WallLists.{PlainWall}
use Rattle.terrain.specs.declared.graph.Lead.{Lead}
use Rattle.terrain.specs.Places.{IsAt}
use Rattle.terrain.specs.Graphs.{IsGraph}
use Rattle.terrain.proofs.CallerLemmas.{at_within, read}
use Rattle.canon_code.specs.Codes.{AreStarts}
use Rattle.canon_code.specs.Canonical.{canonical}
use Rattle.canon_code.proofs.CallerLemmas.{code_once, one_carrier, triangulation_prop}
use Rattle.class_node.specs.Classes.{field_numbers, IsClassOver, AreWallsOf, HasWalls}
use Rattle.class_node.specs.Leads.{IsFrame, IsFrameAt, AreFrames, LeadsBy}
use Rattle.class_node.specs.TerrainLaws.{walls_agree, leads_agree}
use Rattle.class_node.proofs.CallerLemmas.{class_valid, one_frame}
use Rattle.quotient.specs.Trees.{IsTree}
use Rattle.quotient.specs.Quotients.{AreQuotients}
use Rattle.quotient.proofs.CallerLemmas.{one_group}
use Rattle.veech_cli.specs.Groups.{IsGraphOf, AreMatricesOf}
use Rattle.veech_cli.proofs.Ascending.{one_list, one_place}
use Rattle.veech_cli.proofs.Grouped.{first_is, links_are, turns_are}

-- two lists of one length with the same elements at the same places
same_list : {A : Type 0} (xs ys : List A) → length xs ≡ length ys → ((i : ℕ) (x y : A) → IsAt xs i x → IsAt ys i y → x ≡ y) → xs ≡ ys
same_list [] [] e each = refl
same_list [] (y ∷ ys) e each = absurd (omega (arith, e))
same_list (x ∷ xs) [] e each = absurd (omega (arith, e))
same_list (x ∷ xs) (y ∷ ys) e each = ap₂ (λ z zs. z ∷ zs) (each 0 x y refl refl) (same_list xs ys (omega (arith, e)) (λ i u v here there. each (suc i) u v here there))

-- two leads to one place by one link
same_lead : (l m : Lead FieldMatrix) → l.to ≡ m.to → l.link ≡ m.link → l ≡ m
same_lead l m to link = λ i. record { to = to i; link = link i }

less_numbers : (a b : ℕ) → a < b → nat_cmp a b ≡ Less
less_numbers a b h = go (nat_cmp a b) (ranked a b (nat_cmp a b) refl)
  where
    go : (r : Ordering) → MatchOrdering r (a < b) (a ≡ b) (b < a) → r ≡ Less
    go Less less = refl
    go Equal same = absurd (omega (arith, h, same))
    go Greater more = absurd (omega (arith, h, more))

-- the starts of a triangulation are one list
one_starts : (d : ℕ) (halves : List Half) (code : List ℤ) (starts others : List ℕ) → AreStarts d halves code starts → AreStarts d halves code others → starts ≡ others
one_starts d halves code starts others a b =
    one_list nat_cmp nat_cmp_total starts others (ascends starts a) (ascends others b) (within starts others a b) (within others starts b a)
  where
    at_start : (xs : List ℕ) (i h : ℕ) → IsAt xs i h → get_or xs i 0 ≡ h
    at_start xs i h at = get_or_from_slice_get xs i h 0 at

    ascends : (xs : List ℕ) → AreStarts d halves code xs → (i j x y : ℕ) → i < j → IsAt xs i x → IsAt xs j y → nat_cmp x y ≡ Less
    ascends xs are i j x y less here there =
        let up : get_or xs i 0 < get_or xs j 0 = are.ascending i j less (at_within xs j y there) in
        less_numbers x y (omega (arith, up, at_start xs i x here, at_start xs j y there))

    within : (xs ys : List ℕ) → AreStarts d halves code xs → AreStarts d halves code ys → (i x : ℕ) → IsAt xs i x → (j : ℕ) × IsAt ys j x
    within xs ys are too i x here =
        let own = subst (λ h. (j : ℕ) × (j < length ys) × (get_or ys j 0 ≡ h)) (at_start xs i x here) (too.all (get_or xs i 0) (are.each i (at_within xs i x here))) in
        (own.0, slice_get-get_or ys own.0 0 own.1 ∙ ap Some own.2)

-- the turns of a class are one list
one_turns : (d : ℕ) (code : List ℤ) → IsFieldNumber d → IsTriangulation d (canonical d code) → (frames others : List FieldMatrix)
    → AreFrames d (canonical d code) code frames → AreFrames d (canonical d code) code others → frames ≡ others
one_turns d code field valid frames others a b =
    same_list frames others (a.count ∙ ap length same ∙ sym b.count) (λ i x y here there. at i x y here there)
  where
    same : a.starts ≡ b.starts
    same = one_starts d (canonical d code) code a.starts b.starts a.are b.are

    some : 0 < length (canonical d code)
    some = let count = valid.count.1 in omega (arith, count)

    at : (i : ℕ) (x y : FieldMatrix) → IsAt frames i x → IsAt others i y → x ≡ y
    at i x y here there =
        let one : IsFrameAt d (canonical d code) code (get_or a.starts i 0) x =
        subst (λ m. IsFrameAt d (canonical d code) code (get_or a.starts i 0) m) (get_or_from_slice_get frames i x identity here) (a.each i (subst (λ n. i < n) a.count (at_within frames i x here))) in
        let two : IsFrameAt d (canonical d code) code (get_or b.starts i 0) y =
        subst (λ m. IsFrameAt d (canonical d code) code (get_or b.starts i 0) m) (get_or_from_slice_get others i y identity there) (b.each i (subst (λ n. i < n) b.count (at_within others i y there))) in
        one_carrier d field (canonical d code) 0 (canonical d code) (get_or a.starts i 0) x y (valid.turns 0 some)
        one.carries (subst (λ (starts : List ℕ). CarriesFrame d y.rows y.denominator (canonical d code) 0 (canonical d code) (get_or starts i 0)) (sym same) two.carries) one.lowest two.lowest

module _ (d : ℕ) (base : List Half) (codes : List (List ℤ)) (field : IsFieldNumber d) (valid : IsTriangulation d base) where
  -- a code stands at one place of a graph's
  place_once : (rows : List (List (Lead FieldMatrix))) (place : ℕ) (root : List ℤ) → IsGraph (slice_cmp int_cmp) (HasWalls (field_numbers d)) (LeadsBy (field_numbers d)) root codes rows place
      → (i j : ℕ) (k : List ℤ) → IsAt codes i k → IsAt codes j k → i ≡ j
  place_once rows place root graph = one_place (slice_cmp int_cmp) (lists_total int_cmp_total) codes graph.ascending

  module _ (first other : FieldMatrix) (rows others : List (List (Lead FieldMatrix))) (place there : ℕ) (turns turns_too : List (List FieldMatrix))
      (a : IsGraphOf d base first codes rows place turns) (b : IsGraphOf d base other codes others there turns_too)
    where
      same_root : a.root ≡ b.root
      same_root = code_once d base a.root b.root a.code b.code

      same_first : first ≡ other
      same_first = one_frame d base b.root first other field valid (subst (λ (code : List ℤ). IsFrame d base code first) same_root a.frame) b.frame

      once : (i j : ℕ) (k : List ℤ) → IsAt codes i k → IsAt codes j k → i ≡ j
      once = place_once rows place a.root a.graph

      same_place : place ≡ there
      same_place = once place there b.root (subst (λ (code : List ℤ). IsAt codes place code) same_root a.graph.root_at) b.graph.root_at

      -- the code of a row
      code_of : (i : ℕ) (row : List (Lead FieldMatrix)) → IsAt rows i row → (k : List ℤ) × IsAt codes i k
      code_of i row at = let inside = at_within rows i row at in read codes i (let count = a.graph.row_each in omega (arith, inside, count))

      -- a lead of it is one
      same_leads : (i w : ℕ) (k : List ℤ) (row too : List (Lead FieldMatrix)) (l m : Lead FieldMatrix) → IsAt codes i k → IsAt rows i row → IsAt others i too → IsAt row w l → IsAt too w m → l ≡ m
      same_leads i w k row too l m code at_row at_too at_l at_m =
          let one = a.graph.leads i w k row l code at_row at_l in
          let two = b.graph.leads i w k too m code at_too at_m in
          let same = leads_agree (field_numbers d) k w one.0 two.0 l.link m.link one.2 two.2 in
          same_lead l m (once l.to m.to two.0 (subst (λ (e : List ℤ). IsAt codes l.to e) same.0 one.1) two.1) same.1

      same_row : (i : ℕ) (row too : List (Lead FieldMatrix)) → IsAt rows i row → IsAt others i too → row ≡ too
      same_row i row too here also =
          let code = code_of i row here in
          same_list row too (walls_agree (field_numbers d) code.0 (length row) (length too) (a.graph.lead_each i code.0 row code.1 here) (b.graph.lead_each i code.0 too code.1 also))
          (λ w l m at_l at_m. same_leads i w code.0 row too l m code.1 here also at_l at_m)

      same_rows : rows ≡ others
      same_rows = same_list rows others (a.graph.row_each ∙ sym b.graph.row_each) same_row

      -- the canonical triangulation of a class
      class_there : (i : ℕ) (k : List ℤ) → IsAt codes i k → IsTriangulation d (canonical d k)
      class_there i k at =
          let inside = at_within codes i k at in
          let row = read rows i (let count = a.graph.row_each in omega (arith, inside, count)) in
          ∥∥₁_elim (a.graph.lead_each i k row.0 at row.1) (triangulation_prop d (canonical d k))
          (λ (x : IsClassOver d k × ((w : List PlainWall) × AreWallsOf d k w × (length w ≡ length row.0))). class_valid d k x.0)

      same_turns : turns ≡ turns_too
      same_turns = same_list turns turns_too (a.turns_each.as_many ∙ sym b.turns_each.as_many) at
        where
          at : (i : ℕ) (x y : List FieldMatrix) → IsAt turns i x → IsAt turns_too i y → x ≡ y
          at i x y here also =
              let inside = at_within turns i x here in
              let code = read codes i (let count = a.turns_each.as_many in omega (arith, inside, count)) in
              one_turns d code.0 field (class_there i code.0 code.1) x y (a.turns_each.each i code.0 x code.1 here) (b.turns_each.each i code.0 y code.1 also)

  -- and so are its matrices
  pub one_list_of_matrices : (mats others : List FieldMatrix) → AreMatricesOf d base codes mats → AreMatricesOf d base codes others → mats ≡ others
  one_list_of_matrices mats others a b =
      (one_group d field b.rows b.place b.first b.turns (first_is d base b.first codes b.rows b.place b.turns field valid b.graph)
      (links_are d base b.first codes b.rows b.place b.turns field valid b.graph) (turns_are d base b.first codes b.rows b.place b.turns field valid b.graph)
      a.tree b.tree mats others tree b.is_tree quotients b.quotients).1
    where
      first : a.first ≡ b.first
      first = same_first a.first b.first a.rows b.rows a.place b.place a.turns b.turns a.graph b.graph

      rows : a.rows ≡ b.rows
      rows = same_rows a.first b.first a.rows b.rows a.place b.place a.turns b.turns a.graph b.graph

      place : a.place ≡ b.place
      place = same_place a.first b.first a.rows b.rows a.place b.place a.turns b.turns a.graph b.graph

      turns : a.turns ≡ b.turns
      turns = same_turns a.first b.first a.rows b.rows a.place b.place a.turns b.turns a.graph b.graph

      tree : IsTree d b.rows b.place b.first a.tree
      tree =
          subst (λ (r : List (List (Lead FieldMatrix))). IsTree d r b.place b.first a.tree) rows
          (subst (λ (p : ℕ). IsTree d a.rows p b.first a.tree) place (subst (λ (f : FieldMatrix). IsTree d a.rows a.place f a.tree) first a.is_tree))

      quotients : AreQuotients d a.tree b.rows b.turns mats
      quotients =
          subst (λ (r : List (List (Lead FieldMatrix))). AreQuotients d a.tree r b.turns mats) rows
          (subst (λ (t : List (List FieldMatrix)). AreQuotients d a.tree a.rows t mats) turns a.quotients)
