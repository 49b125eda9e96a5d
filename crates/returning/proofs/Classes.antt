-- The places of a graph stand for the classes: one for each class that crossings reach, with its leads and its turns.
use Rattle.std.proofs.Common.{◌≡◌, ◌⊎◌, ℕ, ◌<◌, ◌≤◌, arith, refl, sym, ap, ◌∙◌, subst, List, [], length, slice_index, get_or, inl, inr}
use mathlib.Core.Logic.{∥∥₁_elim, ∥∥₁_map, ∥∥₁_prop}
use Rattle.std.specs.Prelude.{ℤ, ◌↔◌}
use Rattle.std.specs.Coded.{Coded-set, coded_ℕ, le_prop, ×_prop}
use Rattle.std.specs.Ordering.{int_cmp, ordering_reverse}
use Rattle.std.specs.declared.cmp.Ordering.TheVariants.{Less}
use Rattle.std.specs.Cmp.Lexicographic.{slice_cmp}
use Rattle.std.proofs.lemmas.Bool.{cases_lt}
use Rattle.std.proofs.lemmas.Cmp.{lists_total, int_cmp_total}
use Rattle.std.proofs.lemmas.Option.{slice_get-get_or, get_or_from_slice_get}
use Rattle.std.proofs.lemmas.List.Elements.{Contains-get_or}
use Rattle.quad_field.specs.FieldNumber.{IsFieldNumber}
use Rattle.rings.specs.Matrices.{Matrix, matrix_det}
use Rattle.quad_field.specs.declared.quad.Quad.{Quad}
use Rattle.quad_field.specs.Quads.{quad_ops}
use Rattle.plane.specs.Matrices.{FieldMatrix, identity}
use Rattle.tri_core.specs.declared.half.Half.{Half}
use Rattle.tri_core.specs.Triangulation.{IsTriangulation}
use Rattle.tri_core.specs.Images.{IsImageBy, AreTranslationEqual, CarriesFrame}
use Rattle.tri_core.proofs.CallerLemmas.{triple_at}
use Rattle.hinge_form.specs.Triples.{Triple}
use Rattle.hinge_form.specs.Hinges.{full_triple}
use Rattle.hinge_form.specs.Walls.{IsWall}
use Rattle.hinge_form.proofs.CallerLemmas.{least_edge_of}
use Rattle.parabola_region.specs.WallLists.{PlainWall, form_of, edges_of, IsWallList}
use Rattle.parabola_region.proofs.CallerLemmas.{one_wall}
use Rattle.wall_cross.specs.Crossings.{AreAllFlipped, Crosses, LiesBehind}
use Rattle.wall_cross.proofs.CallerLemmas.{crossing_of_wall, one_crossing}
use Rattle.wall_cross.proofs.CarriedCallers.{line_of_multiple, image_then_translation, cross_valid}
use Rattle.terrain.specs.declared.graph.Lead.{Lead}
use Rattle.terrain.specs.Places.{IsAt}
use Rattle.terrain.specs.Reach.{LeadsTo}
use Rattle.terrain.specs.Graphs.{IsGraph}
use Rattle.terrain.proofs.CallerLemmas.{reached_least, at_within, read}
use Rattle.canon_code.specs.Codes.{IsCode, IsStart}
use Rattle.canon_code.specs.Canonical.{canonical}
use Rattle.canon_code.proofs.CallerLemmas.{positive_prop, triangulation_prop, code_once, code_carried, canonical_code, canonical_valid, canonical_serial}
use Rattle.class_node.specs.Classes.{field_of, IsClassOver, AreWallsOf, HasWalls}
use Rattle.class_node.specs.Leads.{IsFrame, AreFrames, IsLead}
use Rattle.class_node.specs.Leads as class
use Rattle.class_node.specs.Reached.{IsRootOf, IsReachedKey}
use Rattle.class_node.proofs.CallerLemmas.{behind_valid, one_list_of_walls}
use Rattle.quotient.specs.Trees.{row_at, HasLead}
use Rattle.returning.specs.Returning.{IsMatrix}
use Rattle.returning.specs.Turns.{AreTurns}
use Rattle.returning.proofs.Groups.{HasClasses}
use Rattle.returning.proofs.Matrices.{Turning, Same}
use Rattle.returning.proofs.Images.{Image}
use Rattle.returning.proofs.Carriers.{one_value_of_frame}
use Rattle.returning.proofs.Frames.{frame_image, frame_matrix}
use Rattle.returning.proofs.Trees.{LeadsBy, TurnsBy}

-- the key of place c, and its canonical triangulation
abbrev pub key_at : List (List ℤ) → ℕ → List ℤ
key_at keys c = get_or keys c []

abbrev pub model_at : ℕ → List (List ℤ) → ℕ → List Half
model_at d keys c = canonical d (key_at keys c)

-- the matrices that take a triangulation to itself are those that take the frame of one start to the frame of another
abbrev pub StartsAreSymmetries : Type 0
StartsAreSymmetries = (d : ℕ) (halves : List Half) (code : List ℤ) (first : ℕ) (n : Matrix Quad) (m : ℕ) → IsFieldNumber d → IsTriangulation d halves → IsStart d halves code first → 0 < m
    → IsImageBy d n m halves halves ↔ ((h : ℕ) × IsStart d halves code h × CarriesFrame d n m halves first halves h)

pub matrix_prop : (d : ℕ) (a : FieldMatrix) → IsProp (IsMatrix d a)
matrix_prop d a = ×_prop le_prop (positive_prop d (matrix_det (quad_ops d) a.rows))

-- some triangulation has this code
abbrev HasCode : ℕ → List ℤ → Type 0
HasCode d key = (halves : List Half) × IsTriangulation d halves × IsCode d halves key

-- the number of a wall in a list, with its edges
numbered : (d : ℕ) (field : IsFieldNumber d) (halves : List Half) (valid : IsTriangulation d halves) (walls : List PlainWall) (form : Triple) (edges : List ℕ) → IsWallList d halves walls → IsWall d halves form edges
    → (j : ℕ) × (j < length walls) × (edges_of walls j ≡ edges)
numbered d field halves valid walls form edges list wall =
    let h : ℕ = slice_index edges 0 in
    let own = least_edge_of d field halves valid form edges wall in
    let found = list.every h own.0 (line_of_multiple d field halves form (full_triple d halves h) own.1 valid wall.line) in
    let same = one_wall d field halves valid form (form_of walls found.0) edges (edges_of walls found.0) h wall (list.each found.0 found.1) (Contains-get_or edges 0 0 wall.some) found.2 in
    (found.0, found.1, sym same.1)

-- no key is less than itself, so an ascending list has each once
not_itself : (x : List ℤ) → slice_cmp int_cmp x x ≡ Less → ⊥
not_itself x e = never (sym e ∙ (lists_total int_cmp_total).antisymm x x ∙ ap ordering_reverse e)
  where
    never : Less ≡ ordering_reverse Less → ⊥
    never e = cc

-- the frame of a base has a positive determinant
pub first_matrix : (t root : List ℤ) (base : List Half) → IsRootOf t root base → (first : FieldMatrix) → IsFrame (field_of t) base root first → IsMatrix (field_of t) first
first_matrix t root base is first frame = frame_matrix (field_of t) is.field base is.valid root frame.start frame.is_start first frame.frame_at

module _ (t root : List ℤ) (base : List Half) (is : IsRootOf t root base) (keys : List (List ℤ)) (rows : List (List (Lead FieldMatrix))) (place : ℕ)
    (graph : IsGraph (slice_cmp int_cmp) (HasWalls t) (class.LeadsBy t) root keys rows place)
  where
    abbrev pub d : ℕ
    d = field_of t

    abbrev pub Known : ℕ → Type 0
    Known c = c < length rows

    pub there : (c : ℕ) → Known c → c < length keys
    there c = subst (λ n. c < n) graph.row_each

    pub here : (c : ℕ) → c < length keys → Known c
    here c = subst (λ n. c < n) (sym graph.row_each)

    pub key_stands : (c : ℕ) → Known c → IsAt keys c (key_at keys c)
    key_stands c known = slice_get-get_or keys c [] (there c known)

    pub key_is : (c : ℕ) (key : List ℤ) → IsAt keys c key → key_at keys c ≡ key
    key_is c key at = get_or_from_slice_get keys c key [] at

    pub row_stands : (c : ℕ) → Known c → IsAt rows c (row_at rows c)
    row_stands c known = slice_get-get_or rows c [] known

    -- ---- each key is the code of some triangulation
    reached_code : (key : List ℤ) → IsReachedKey t root key → ∥ HasCode d key ∥₁
    reached_code key reached =
        reached_least (HasWalls t) (class.LeadsBy t) root (λ k. ∥ HasCode d k ∥₁) (λ k. ∥∥₁_prop) ∣ (base, is.valid, is.code) ∣₁
        (λ k e (known : ∥ HasCode d k ∥₁) (step : LeadsTo (HasWalls t) (class.LeadsBy t) k e).
        ∥∥₁_map step.leads (λ (y : IsClassOver d k × IsLead d k step.wall e step.link).
        (y.1.later, behind_valid d k y.0 step.wall y.1.later y.1.behind, y.1.code_behind)))
        key reached

    key_code : (c : ℕ) → Known c → ∥ HasCode d (key_at keys c) ∥₁
    key_code c known = reached_code (key_at keys c) ((graph.reached (key_at keys c)).0 (Contains-get_or keys c [] (there c known)))

    pub model_valid : (c : ℕ) → Known c → IsTriangulation d (model_at d keys c)
    model_valid c known =
        ∥∥₁_elim (key_code c known) (triangulation_prop d (model_at d keys c)) (λ (x : HasCode d (key_at keys c)).
        canonical_valid d is.field x.0 x.2.start (key_at keys c) x.1 x.2.inside x.2.serial)

    model_code : (c : ℕ) → Known c → ∥ IsCode d (model_at d keys c) (key_at keys c) ∥₁
    model_code c known = ∥∥₁_map (key_code c known) (λ (x : HasCode d (key_at keys c)). canonical_code d is.field x.0 (key_at keys c) x.1 x.2)

    model_start : (c : ℕ) → Known c → ∥ IsStart d (model_at d keys c) (key_at keys c) 0 ∥₁
    model_start c known =
        ∥∥₁_map (key_code c known) (λ (x : HasCode d (key_at keys c)). (some, canonical_serial d is.field x.0 x.2.start (key_at keys c) x.1 x.2.inside x.2.serial))
      where
        some : 0 < length (model_at d keys c)
        some = let six = (model_valid c known).count.1 in omega (arith, six)

    -- ---- one place for each class
    pub same_place : (c e : ℕ) → Known c → Known e → key_at keys c ≡ key_at keys e → c ≡ e
    same_place c e p q same = go (cases_lt c e) (cases_lt e c)
      where
        less : (i j : ℕ) → Known i → Known j → key_at keys i ≡ key_at keys j → i < j → ⊥
        less i j p q same up = not_itself (key_at keys j) (subst (λ (k : List ℤ). slice_cmp int_cmp k (key_at keys j) ≡ Less) same (graph.ascending i j (key_at keys i) (key_at keys j) up (key_stands i p) (key_stands j q)))

        go : (c < e) ⊎ (e ≤ c) → (e < c) ⊎ (c ≤ e) → c ≡ e
        go (inl up) other = absurd (less c e p q same up)
        go (inr high) (inl up) = absurd (less e c q p (sym same) up)
        go (inr high) (inr low) = omega (arith, high, low)

    one_place : (a b : Turning d is.field) (c e : ℕ) (s : List Half) → Known c → Known e → Image d is.field a (model_at d keys c) s → Image d is.field b (model_at d keys e) s → c ≡ e
    one_place a b c e s p q i j =
        ∥∥₁_elim (model_code c p) (number_set c e) (λ (x : IsCode d (model_at d keys c) (key_at keys c)).
        ∥∥₁_elim (model_code e q) (number_set c e) (λ (y : IsCode d (model_at d keys e) (key_at keys e)).
        same_place c e p q
        (code_once d s (key_at keys c) (key_at keys e)
        (code_carried d is.field a.0.rows a.0.denominator (model_at d keys c) s i.2.0 i.2.1 (key_at keys c) i.0 i.1 i.2.2 x)
        (code_carried d is.field b.0.rows b.0.denominator (model_at d keys e) s j.2.0 j.2.1 (key_at keys e) j.0 j.1 j.2.2 y))))
      where
        number_set : IsSet ℕ
        number_set = Coded-set coded_ℕ

    -- ---- leads
    -- what the graph says of a lead
    abbrev pub IsLeadTo : ℕ → ℕ → Lead FieldMatrix → Type 0
    IsLeadTo c w lead = IsClassOver d (key_at keys c) × IsLead d (key_at keys c) w (key_at keys lead.to) lead.link

    pub lead_stands : (c w : ℕ) (lead : Lead FieldMatrix) → Known c → HasLead rows c w lead → Known lead.to × ∥ IsLeadTo c w lead ∥₁
    lead_stands c w lead known has =
        let x = graph.leads c w (key_at keys c) (row_at rows c) lead (key_stands c known) (row_stands c known) has in (
          here lead.to (at_within keys lead.to x.0 x.1),
          subst (λ (k : List ℤ). ∥ (IsClassOver d (key_at keys c) × IsLead d (key_at keys c) w k lead.link) ∥₁) (sym (key_is lead.to x.0 x.1)) x.2,
        )

    module _ (c w : ℕ) (lead : Lead FieldMatrix) (known : Known c) (own : IsLeadTo c w lead) where
      later_valid : IsTriangulation d own.1.later
      later_valid = behind_valid d (key_at keys c) own.0 w own.1.later own.1.behind

      lead_link : IsMatrix d lead.link
      lead_link = frame_matrix d is.field own.1.later later_valid (key_at keys lead.to) own.1.frame.start own.1.frame.is_start lead.link own.1.frame.frame_at

      lead_frame : IsImageBy d lead.link.rows lead.link.denominator (model_at d keys lead.to) own.1.later
      lead_frame = frame_image d is.field own.1.later later_valid (key_at keys lead.to) own.1.frame.start own.1.frame.is_start lead.link own.1.frame.frame_at

      lead_behind : LiesBehind d (model_at d keys c) own.1.later
      lead_behind =
          let b = own.1.behind in
          (form_of b.0 w, edges_of b.0 w, crossing_of_wall d (model_at d keys c) own.1.later (form_of b.0 w) (edges_of b.0 w) (b.1.each w b.2) b.3)

    pub lead_matrix : (c w : ℕ) (lead : Lead FieldMatrix) → Known c → HasLead rows c w lead → IsMatrix d lead.link
    lead_matrix c w lead known has = ∥∥₁_elim (lead_stands c w lead known has).1 (matrix_prop d lead.link) (λ (own : IsLeadTo c w lead). lead_link c w lead known own)

    abbrev pub Leads : ℕ → ℕ → Turning d is.field → Type 0
    Leads c e g = LeadsBy rows c e g.0

    lead_is : (c e : ℕ) (g : Turning d is.field) → Leads c e g → ∥ ((s : List Half) × LiesBehind d (model_at d keys c) s × Image d is.field g (model_at d keys e) s) ∥₁
    lead_is c e g (w, lead, known, has, to, link) =
        let stands = lead_stands c w lead known has in
        ∥∥₁_map stands.1 (λ (own : IsLeadTo c w lead). (
          own.1.later,
          lead_behind c w lead known own,
          (
            subst (λ k. IsTriangulation d (model_at d keys k)) to (model_valid lead.to stands.0),
            later_valid c w lead known own,
            subst (λ (x : FieldMatrix). IsImageBy d x.rows x.denominator (model_at d keys e) own.1.later) link
                (subst (λ k. IsImageBy d lead.link.rows lead.link.denominator (model_at d keys k) own.1.later) to (lead_frame c w lead known own)),
          ),
        ))

    -- the frame of a lead, where its wall is the one that was crossed
    lead_moved : (c : ℕ) (known : Known c) (s : List Half) (form : Triple) (edges : List ℕ) (crosses : Crosses d (model_at d keys c) form edges s) (walls : List PlainWall) → AreWallsOf d (key_at keys c) walls
        → (w : ℕ) → edges_of walls w ≡ edges → (lead : Lead FieldMatrix) → IsLeadTo c w lead → IsImageBy d lead.link.rows lead.link.denominator (model_at d keys lead.to) s
    lead_moved c known s form edges crosses walls are w same lead own =
        let C : List Half = model_at d keys c in
        let b = own.1.behind in
        let behind : AreAllFlipped d C edges own.1.later =
        subst (λ (edges : List ℕ). AreAllFlipped d C edges own.1.later) (ap (λ (list : List PlainWall). edges_of list w) (one_list_of_walls d (key_at keys c) own.0 b.0 walls b.1 are) ∙ same) b.3 in
        let flipped : crosses.1.0 ≡ own.1.later = one_crossing d is.field C (model_valid c known) form edges crosses.0 crosses.1.0 own.1.later crosses.1.1 behind in
        let move : AreTranslationEqual d own.1.later s = subst (λ (f : List Half). AreTranslationEqual d f s) flipped crosses.1.2 in
        let image = lead_frame c w lead known own in (
          (λ k. move.0 (image.0 k)),
          (λ k. image.1 (move.1 k)),
          image_then_translation d lead.link.rows lead.link.denominator (model_at d keys lead.to) own.1.later s image.0 image.1 move.0 move.1 image.2 move.2,
        )

    each_lead : (c : ℕ) (s : List Half) → Known c → LiesBehind d (model_at d keys c) s
        → ∥ ((e : ℕ) × (g : Turning d is.field) × Leads c e g × Image d is.field g (model_at d keys e) s) ∥₁
    each_lead c s known behind =
        let C : List Half = model_at d keys c in
        let form : Triple = behind.0 in
        let edges : List ℕ = behind.1 in
        let crosses = behind.2 in
        ∥∥₁_elim (graph.lead_each c (key_at keys c) (row_at rows c) (key_stands c known) (row_stands c known)) ∥∥₁_prop
        (λ (x : IsClassOver d (key_at keys c) × ((walls : List PlainWall) × AreWallsOf d (key_at keys c) walls × (length walls ≡ length (row_at rows c)))).
        let j = numbered d is.field C (model_valid c known) x.1.0 form edges x.1.1 crosses.0 in
        let l = read (row_at rows c) j.0 (subst (λ n. j.0 < n) x.1.2 j.1) in
        let stands = lead_stands c j.0 l.0 known l.1 in
        ∥∥₁_map stands.1 (λ (own : IsLeadTo c j.0 l.0). (
          l.0.to,
          (l.0.link, lead_link c j.0 l.0 known own),
          (j.0, l.0, known, l.1, refl, refl),
          (model_valid l.0.to stands.0, cross_valid d is.field C (model_valid c known) form edges s crosses, lead_moved c known s form edges crosses x.1.0 x.1.1 j.0 j.2 l.0 own),
        )))

    -- ---- turns
    module _ (turns : List (List FieldMatrix)) (are : AreTurns d keys turns) where
      turning_known : (c : ℕ) → c < length turns → Known c
      turning_known c p = here c (subst (λ n. c < n) are.as_many p)

      frames_at : (c : ℕ) → Known c → AreFrames d (model_at d keys c) (key_at keys c) (row_at turns c)
      frames_at c known = are.each c (key_at keys c) (row_at turns c) (key_stands c known) (slice_get-get_or turns c [] (subst (λ n. c < n) (sym are.as_many) (there c known)))

      module _ (c w : ℕ) (f : FieldMatrix) (p : c < length turns) (at : IsAt (row_at turns c) w f) where
        known : Known c
        known = turning_known c p

        own : AreFrames d (model_at d keys c) (key_at keys c) (row_at turns c)
        own = frames_at c known

        listed : w < length own.starts
        listed = subst (λ n. w < n) own.count (at_within (row_at turns c) w f at)

        same : get_or (row_at turns c) w identity ≡ f
        same = get_or_from_slice_get (row_at turns c) w f identity at

        pub turn_matrix : IsMatrix d f
        turn_matrix =
            subst (IsMatrix d) same
            (frame_matrix d is.field (model_at d keys c) (model_valid c known) (key_at keys c) (get_or own.starts w 0) (own.are.each w listed) (get_or (row_at turns c) w identity) (own.each w listed))

        turn_image : IsImageBy d f.rows f.denominator (model_at d keys c) (model_at d keys c)
        turn_image =
            subst (λ (x : FieldMatrix). IsImageBy d x.rows x.denominator (model_at d keys c) (model_at d keys c)) same
            (frame_image d is.field (model_at d keys c) (model_valid c known) (key_at keys c) (get_or own.starts w 0) (own.are.each w listed) (get_or (row_at turns c) w identity) (own.each w listed))

      abbrev pub Turns : ℕ → Turning d is.field → Type 0
      Turns c f = TurnsBy turns c f.0

      each_turn : StartsAreSymmetries → (a : Turning d is.field) (c : ℕ) → Known c → Image d is.field a (model_at d keys c) (model_at d keys c) → ∥ ((f : Turning d is.field) × Turns c f × Same d is.field f a) ∥₁
      each_turn symmetries a c known image =
          let key : List ℤ = key_at keys c in
          let C : List Half = model_at d keys c in
          let frames : List FieldMatrix = row_at turns c in
          let valid = model_valid c known in
          let own = frames_at c known in
          let listed : c < length turns = subst (λ n. c < n) (sym are.as_many) (there c known) in
          ∥∥₁_map (model_start c known) (λ (start : IsStart d C key 0).
          let s = (symmetries d C key 0 a.0.rows a.0.denominator is.field valid start a.1.0).0 image.2 in
          let i = own.are.all s.0 s.1 in
          let inside : i.0 < length frames = subst (λ n. i.0 < n) (sym own.count) i.1 in
          let f : FieldMatrix = get_or frames i.0 identity in
          let at : IsAt frames i.0 f = slice_get-get_or frames i.0 identity inside in (
            (f, turn_matrix c i.0 f listed at),
            (i.0, listed, at),
            one_value_of_frame d is.field C C 0 s.0 f a.0 (triple_at d C 0 valid start.0).turns
                (subst (λ k. CarriesFrame d f.rows f.denominator C 0 C k) i.2 (own.each i.0 i.1).carries) s.2,
          ))

      -- the places have all classes
      pub classes : StartsAreSymmetries → HasClasses (Same d is.field) (Image d is.field) (LiesBehind d) ℕ Known (model_at d keys) Leads Turns
      classes symmetries = record {
        one_place = λ {a = a} {b = b} {c = c} {e = e} {s = s} p q i j. one_place a b c e s p q i j;
        lead_known = λ {c = c} {e = e} l. (l.2, subst Known l.4 (lead_stands c l.0 l.1 l.2 l.3).0);
        lead_is = λ {c = c} {e = e} {g = g} l. lead_is c e g l;
        each_lead = λ {c = c} {t = s} p cross. each_lead c s p cross;
        turn_known = λ {c = c} {f = f} x. turning_known c x.1;
        turn_is = λ {c = c} {f = f} x. let p = turning_known c x.1 in ∣ (model_valid c p, model_valid c p, turn_image c x.0 f.0 x.1 x.2) ∣₁;
        each_turn = λ {a = a} {c = c} p i. each_turn symmetries a c p i;
      }

    -- ---- the root
    pub root_known : Known place
    root_known = here place (at_within keys place root graph.root_at)

    pub first_image : (first : FieldMatrix) → IsFrame d base root first → IsImageBy d first.rows first.denominator (model_at d keys place) base
    first_image first frame =
        subst (λ (k : List ℤ). IsImageBy d first.rows first.denominator (canonical d k) base) (sym (key_is place root graph.root_at))
        (frame_image d is.field base is.valid root frame.start frame.is_start first frame.frame_at)
