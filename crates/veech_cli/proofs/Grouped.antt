-- What the quotients of a base's graph ask for, and the turns of its classes.
use Rattle.std.proofs.Common.{◌≡◌, ℕ, zero, suc, ◌+◌, ◌<◌, ◌≤◌, inl, inr, List, [], ◌∷◌, ◌++◌, length, map, get_or, refl, ap, ◌∙◌, sym, subst, arith, None, Some}
use Rattle.std.specs.Prelude.{ℤ}
use Rattle.std.proofs.lemmas.List.{length-append, map-append}
use Rattle.std.proofs.lemmas.Option.{slice_get-get_or, get_or_from_slice_get}
use mathlib.Core.Logic.{∥∥₁_map}
use Rattle.rings.specs.Matrices.{matrix_det}
use Rattle.quad_field.specs.FieldNumber.{IsFieldNumber}
use Rattle.quad_field.specs.Quads.{quad_ops, IsZero}
use Rattle.quad_field.specs.declared.formula.Formula.{Formula}
use Rattle.quad_field.specs.declared.formula.Formula.TheVariants.{F1}
use Rattle.plane.specs.Matrices.{FieldMatrix}
use Rattle.plane.proofs.CallerLemmas.{positive_some}
use Rattle.tri_core.specs.declared.half.Half.{Half}
use Rattle.tri_core.specs.Triangulation.{IsTriangulation}
use Rattle.parabola_region.specs.WallLists.{PlainWall}
use Rattle.terrain.specs.declared.graph.Lead.{Lead}
use Rattle.terrain.specs.Places.{IsAt}
use Rattle.terrain.proofs.CallerLemmas.{at_within, at_snoc, at_one, read}
use Rattle.canon_code.specs.Canonical.{canonical}
use Rattle.class_node.specs.Classes.{field_numbers, IsClassOver, AreWallsOf, HasWalls}
use Rattle.class_node.specs.Leads.{AreFrames}
use Rattle.class_node.specs.Reached.{IsRootOf}
use Rattle.quotient.specs.Trees.{row_at, HasLead, IsReachedFrom, IsTree}
use Rattle.quotient.specs.Quotients.{AreQuotients}
use Rattle.quotient.specs.Width.{IsWideIn}
use Rattle.returning.specs.Returning.{IsMatrix}
use Rattle.returning.specs.Turns.{AreTurns}
use Rattle.returning.proofs.CallerLemmas.{root_known, place_reached, lead_inside, lead_matrix, first_matrix, turn_matrix}
use Rattle.answer_text.specs.declared.status.Status.{Status}
use Rattle.veech_cli.specs.Classes.{AreClassesWithin}
use Rattle.veech_cli.specs.Groups.{IsGraphOf, AreMatricesOf, IsWideInMatrices}
use Rattle.veech_cli.specs.Surfaces.{RefusesClasses, RefusesTurns, RefusesTurnsOf}

-- what was read at a place stands there
pub read_at : {A : Type 0} (xs : List A) (i : ℕ) (x : A) → i < length xs → x ≡ get_or xs i x → IsAt xs i x
read_at xs i x inside is = slice_get-get_or xs i x inside ∙ ap Some (sym is)

-- what has a row stands before its end
pub row_inside : {A : Type 0} (rows : List (List A)) (c w : ℕ) (x : A) → IsAt (row_at rows c) w x → c < length rows
row_inside [] c w x e = cc
row_inside (row ∷ rows) zero w x e = omega arith
row_inside (row ∷ rows) (suc c) w x e = let h = row_inside rows c w x e in omega (arith, h)

module _ (d : ℕ) (base : List Half) (first : FieldMatrix) (codes : List (List ℤ)) (rows : List (List (Lead FieldMatrix))) (place : ℕ) (turns : List (List FieldMatrix))
    (field : IsFieldNumber d) (valid : IsTriangulation d base) (own : IsGraphOf d base first codes rows place turns)
  where
    pub root_is : IsRootOf (field_numbers d) own.root base
    root_is = record { field = field; valid = valid; code = own.code }

    pub place_known : place < length rows
    place_known = root_known (field_numbers d) own.root base root_is codes rows place own.graph

    pub targets : (c w : ℕ) (lead : Lead FieldMatrix) → HasLead rows c w lead → lead.to < length rows
    targets c w lead has = lead_inside (field_numbers d) own.root base root_is codes rows place own.graph c w lead (row_inside rows c w lead has) has

    pub all_reached : (c : ℕ) → c < length rows → IsReachedFrom rows place c
    all_reached = place_reached (field_numbers d) own.root base root_is codes rows place own.graph

    pub turns_count : length turns ≡ length rows
    turns_count = own.turns_each.as_many ∙ sym own.graph.row_each

    pub first_is : IsMatrix d first
    first_is = first_matrix (field_numbers d) own.root base root_is first own.frame

    pub first_some : ¬ (IsZero (matrix_det (quad_ops d) first.rows))
    first_some = positive_some d field first first_is.1

    pub links_are : (c w : ℕ) (lead : Lead FieldMatrix) → c < length rows → HasLead rows c w lead → IsMatrix d lead.link
    links_are = lead_matrix (field_numbers d) own.root base root_is codes rows place own.graph

    pub links_some : (c w : ℕ) (lead : Lead FieldMatrix) → HasLead rows c w lead → ¬ (IsZero (matrix_det (quad_ops d) lead.link.rows))
    links_some c w lead has = positive_some d field lead.link (links_are c w lead (row_inside rows c w lead has) has).1

    pub turns_are : (c w : ℕ) (turn : FieldMatrix) → c < length turns → IsAt (row_at turns c) w turn → IsMatrix d turn
    turns_are = turn_matrix (field_numbers d) own.root base root_is codes rows place own.graph turns own.turns_each

-- the turns of the first classes of a list
pub record AreTurnsTo (d : ℕ) (codes : List (List ℤ)) (turns : List (List FieldMatrix)) (n : ℕ) : Type 0 where
  pub count : length turns ≡ n
  pub each : (c : ℕ) (key : List ℤ) (frames : List FieldMatrix) → IsAt codes c key → IsAt turns c frames → AreFrames d (canonical d key) key frames

pub no_turns : (d : ℕ) (codes : List (List ℤ)) → AreTurnsTo d codes [] 0
no_turns d codes = record { count = refl; each = λ c key frames here there. absurd (none c frames there) }
  where
    none : (c : ℕ) (frames : List FieldMatrix) → IsAt [] c frames → ⊥
    none c frames e = let h = at_within [] c frames e in omega (arith, h)

pub turns_more : (d : ℕ) (codes : List (List ℤ)) (turns : List (List FieldMatrix)) (n : ℕ) (code : List ℤ) (more : List FieldMatrix) → AreTurnsTo d codes turns n
    → IsAt codes n code → AreFrames d (canonical d code) code more → AreTurnsTo d codes (turns ++ more ∷ []) (n + 1)
turns_more d codes turns n code more are at own = record {
  count = length-append turns (more ∷ []) ∙ ap (λ m. m + 1) are.count;
  each = λ c key frames here there. elim (at_snoc turns c more frames there) [
    | inl before ↦ are.each c key frames here before
    | inr last ↦
        let same : code ≡ key = at_one codes n code key at (subst (λ (i : ℕ). IsAt codes i key) (last.0 ∙ are.count) here) in
        subst (λ (k : List ℤ). AreFrames d (canonical d k) k frames) same (subst (λ (f : List FieldMatrix). AreFrames d (canonical d code) code f) last.1 own)
  ];
}

pub turns_pushed : {V : Type 0} (f : V → List FieldMatrix) (d : ℕ) (codes : List (List ℤ)) (vs : List V) (v : V) (n : ℕ) (code : List ℤ) → AreTurnsTo d codes (map f vs) n
    → IsAt codes n code → AreFrames d (canonical d code) code (f v) → AreTurnsTo d codes (map f (vs ++ v ∷ [])) (n + 1)
turns_pushed f d codes vs v n code are at own =
    subst (λ (turns : List (List FieldMatrix)). AreTurnsTo d codes turns (n + 1)) (sym (map-append f vs (v ∷ []))) (turns_more d codes (map f vs) n code (f v) are at own)

pub turns_done : (d : ℕ) (codes : List (List ℤ)) (turns : List (List FieldMatrix)) (n : ℕ) → AreTurnsTo d codes turns n → n ≡ length codes → AreTurns d codes turns
turns_done d codes turns n are e = record { as_many = are.count ∙ e; each = are.each }

-- a class that refuses its turns is a reached one, at which F1 is wide
pub turns_refuse : (d : ℕ) (base : List Half) (limit : ℕ) (codes : List (List ℤ)) (status : Status) → AreClassesWithin d base limit codes → RefusesTurns d codes status → RefusesClasses d base limit status
turns_refuse d base limit codes status are (inl (code, held, wide, is)) = inl (F1, code, None, (are.reached code).0 held, ∣ wide ∣₁, is)
turns_refuse d base limit codes status are (inr is) = inr (inr is)

-- what refuses the turns of one of the classes refuses those of all
pub turn_refuses : (d : ℕ) (codes : List (List ℤ)) (place : ℕ) (code : List ℤ) → IsAt codes place code → (status : Status) → RefusesTurnsOf d code status → RefusesTurns d codes status
turn_refuses d codes place code at status (inl (wide, is)) = inl (code, (place, at_within codes place code at, get_or_from_slice_get codes place code code at), wide, is)
turn_refuses d codes place code at status (inr is) = inr is

-- the classes of a graph are classes
pub own_classes : (d : ℕ) (codes : List (List ℤ)) (rows : List (List (Lead FieldMatrix))) → length rows ≡ length codes
    → ((i : ℕ) (k : List ℤ) (row : List (Lead FieldMatrix)) → IsAt codes i k → IsAt rows i row → HasWalls (field_numbers d) k (length row))
    → (i : ℕ) (code : List ℤ) → IsAt codes i code → ∥ IsClassOver d code ∥₁
own_classes d codes rows count walls i code at =
    let inside = at_within codes i code at in
    let row = read rows i (omega (arith, count, inside)) in
    ∥∥₁_map (walls i code row.0 at row.1) (λ (x : IsClassOver d code × ((w : List PlainWall) × AreWallsOf d code w × (length w ≡ length row.0))). x.0)

-- what quotients over a field that is that of the base say of the base's matrices
module _ (t d : ℕ) (same : t ≡ d) (base : List Half) (first : FieldMatrix) (codes : List (List ℤ)) (rows : List (List (Lead FieldMatrix))) (place : ℕ) (turns : List (List FieldMatrix))
    (own : IsGraphOf d base first codes rows place turns)
  where
    pub matrices_there : (tree mats : List FieldMatrix) → IsTree t rows place first tree → AreQuotients t tree rows turns mats → AreMatricesOf d base codes mats
    matrices_there tree mats is are = record {
      first = first;
      rows = rows;
      place = place;
      turns = turns;
      graph = own;
      tree = tree;
      is_tree = subst (λ (x : ℕ). IsTree x rows place first tree) same is;
      quotients = subst (λ (x : ℕ). AreQuotients x tree rows turns mats) same are;
    }

    pub wide_there : (limit : ℕ) → length codes ≤ limit → (formula : Formula) → IsWideIn t rows turns place first formula → IsWideInMatrices d base limit formula
    wide_there limit few formula wide = record {
      first = first;
      codes = codes;
      rows = rows;
      place = place;
      turns = turns;
      graph = own;
      few = few;
      wide = subst (λ (x : ℕ). IsWideIn x rows turns place first formula) same wide;
    }

    -- and what they ask for
    module _ (field : IsFieldNumber t) (valid : IsTriangulation d base) where
      field_there : IsFieldNumber d
      field_there = subst IsFieldNumber same field

      pub place_there : place < length rows
      place_there = place_known d base first codes rows place turns field_there valid own

      pub targets_there : (c w : ℕ) (lead : Lead FieldMatrix) → HasLead rows c w lead → lead.to < length rows
      targets_there = targets d base first codes rows place turns field_there valid own

      pub reached_there : (c : ℕ) → c < length rows → IsReachedFrom rows place c
      reached_there = all_reached d base first codes rows place turns field_there valid own

      pub turns_there : length turns ≡ length rows
      turns_there = turns_count d base first codes rows place turns field_there valid own

      pub first_there : ¬ (IsZero (matrix_det (quad_ops t) first.rows))
      first_there = subst (λ (x : ℕ). ¬ (IsZero (matrix_det (quad_ops x) first.rows))) (sym same) (first_some d base first codes rows place turns field_there valid own)

      pub links_there : (c w : ℕ) (lead : Lead FieldMatrix) → HasLead rows c w lead → ¬ (IsZero (matrix_det (quad_ops t) lead.link.rows))
      links_there c w lead has = subst (λ (x : ℕ). ¬ (IsZero (matrix_det (quad_ops x) lead.link.rows))) (sym same) (links_some d base first codes rows place turns field_there valid own c w lead has)
