-- The names of two sides, put together of them.
use Rattle.std.proofs.Common.{◌≡◌, ◌≢◌, ℕ, List, [], ◌∷◌, ◌++◌, refl, ap, sym, ◌∙◌, arith, append_assoc}
use Rattle.plane.specs.Spelling.{natural_text}
use Rattle.surface_text.specs.declared.file.Glue.{Glue}
use Rattle.surface_text.specs.declared.names.Name.{Name}
use Rattle.surface_text.specs.Spelling.{glue_text}
use Rattle.surface_text.specs.Causes.{FrontOf}
use Rattle.surface_text.specs.Readings.{IsTheOne, IsOneBeyond}
use Rattle.surface_text.specs.Names.{name_text, IsNameOf, IsBoundedName}
use Rattle.surface_text.specs.Faults.{IsTailGlue, IsBoundedGlue}
use Rattle.surface_text.proofs.Stops.{same_front}
use Rattle.surface_text.proofs.Numbers.{Lacks, lacks_both, natural_text_lacks}

-- the name of the first side
abbrev first_of : Glue → Name
first_of g = record { p = g.p1; e = g.e1 }

-- the name of the second side
abbrev second_of : Glue → Name
second_of g = record { p = g.p2; e = g.e2 }

-- no name has a space
name_lacks : (name : Name) → Lacks 32 (name_text name)
name_lacks name =
    lacks_both 32 (natural_text name.p ++ 46 ∷ []) (natural_text name.e)
    (lacks_both 32 (natural_text name.p) (46 ∷ []) (natural_text_lacks 32 name.p (omega arith)) (λ e. omega arith, tt)) (natural_text_lacks 32 name.e (omega arith))

-- a text, a space, and a name behind them
spaced : (n p e : List ℕ) → (((n ++ 32 ∷ []) ++ p) ++ 46 ∷ []) ++ e ≡ n ++ 32 ∷ ((p ++ 46 ∷ []) ++ e)
spaced n p e =
    append_assoc ((n ++ 32 ∷ []) ++ p) (46 ∷ []) e ∙ append_assoc (n ++ 32 ∷ []) p (46 ∷ e) ∙ append_assoc n (32 ∷ []) (p ++ 46 ∷ e)
    ∙ ap (λ (end : List ℕ). n ++ 32 ∷ end) (sym (append_assoc p (46 ∷ []) e))

glue_shape : (g : Glue) → glue_text g ≡ name_text (first_of g) ++ 32 ∷ name_text (second_of g)
glue_shape g = spaced (name_text (first_of g)) (natural_text g.p2) (natural_text g.e2)

-- the text behind the first space
behind_space : (text : List ℕ) (g : Glue) → 32 ∷ text ≡ 32 ∷ glue_text g → text ≡ glue_text g
behind_space text g e = cc

glue_parts : {tail text first behind : List ℕ} (second : List ℕ) → tail ≡ 32 ∷ text → FrontOf 32 text first behind → behind ≡ 32 ∷ second
    → (g : Glue) → IsTailGlue tail g → IsNameOf first (first_of g) × IsNameOf second (second_of g)
glue_parts {text = text} second head front space g is =
    let own : text ≡ glue_text g = behind_space text g (sym head ∙ is) in
    let same = same_front front (name_text (first_of g)) (32 ∷ name_text (second_of g)) (name_lacks (first_of g)) refl (own ∙ glue_shape g) in
    let tails : 32 ∷ second ≡ 32 ∷ name_text (second_of g) = sym space ∙ same.1 in
    (same.0, cc)

glue_joined : {tail text first behind : List ℕ} (second : List ℕ) → tail ≡ 32 ∷ text → FrontOf 32 text first behind → behind ≡ 32 ∷ second
    → (g : Glue) → IsNameOf first (first_of g) → IsNameOf second (second_of g) → IsTailGlue tail g
glue_joined {first = first} second head front space g a b =
    head ∙ ap (λ (end : List ℕ). 32 ∷ end)
    (front.found ∙ ap (λ (end : List ℕ). first ++ end) (space ∙ ap (λ (end : List ℕ). 32 ∷ end) b)
    ∙ ap (λ (start : List ℕ). start ++ 32 ∷ name_text (second_of g)) a ∙ sym (glue_shape g))

-- glues of the same names
same_glue : (g made : Glue) → first_of g ≡ first_of made → second_of g ≡ second_of made → g ≡ made
same_glue g made a b =
    ap (λ (n : Name). let x : Glue = record { p1 = n.p; e1 = n.e; p2 = g.p2; e2 = g.e2 } in x) a
    ∙ ap (λ (n : Name). let x : Glue = record { p1 = made.p1; e1 = made.e1; p2 = n.p; e2 = n.e } in x) b

pub glue_value : {tail text first behind : List ℕ} (second : List ℕ) → tail ≡ 32 ∷ text → FrontOf 32 text first behind → behind ≡ 32 ∷ second
    → (made : Glue) → IsTheOne (IsNameOf first) IsBoundedName (first_of made) → IsTheOne (IsNameOf second) IsBoundedName (second_of made)
    → IsTheOne (IsTailGlue tail) IsBoundedGlue made
glue_value second head front space made one two =
    record {
      found = glue_joined second head front space made one.found two.found;
      fits = (one.fits.0, one.fits.1, two.fits.0, two.fits.1);
      only = λ g is. let parts = glue_parts second head front space g is in same_glue g made (one.only (first_of g) parts.0) (two.only (second_of g) parts.1);
    }

pub glue_not_first : {tail text first behind : List ℕ} (second : List ℕ) → tail ≡ 32 ∷ text → FrontOf 32 text first behind → behind ≡ 32 ∷ second
    → ((name : Name) → ¬ (IsNameOf first name)) → (g : Glue) → ¬ (IsTailGlue tail g)
glue_not_first second head front space none g is = none (first_of g) (glue_parts second head front space g is).0

pub glue_not_second : {tail text first behind : List ℕ} (second : List ℕ) → tail ≡ 32 ∷ text → FrontOf 32 text first behind → behind ≡ 32 ∷ second
    → ((name : Name) → ¬ (IsNameOf second name)) → (g : Glue) → ¬ (IsTailGlue tail g)
glue_not_second second head front space none g is = none (second_of g) (glue_parts second head front space g is).1

pub glue_large_first : {tail text first behind : List ℕ} (second : List ℕ) → tail ≡ 32 ∷ text → FrontOf 32 text first behind → behind ≡ 32 ∷ second
    → (k : Name) → IsOneBeyond (IsNameOf first) IsBoundedName → IsNameOf second k → IsOneBeyond (IsTailGlue tail) IsBoundedGlue
glue_large_first second head front space k one found =
    let made : Glue = record { p1 = one.x.p; e1 = one.x.e; p2 = k.p; e2 = k.e } in
    record {
      x = made;
      found = glue_joined second head front space made one.found found;
      beyond = λ g is bounded. one.beyond (first_of g) (glue_parts second head front space g is).0 (bounded.0, bounded.1);
    }

pub glue_large_second : {tail text first behind : List ℕ} (second : List ℕ) → tail ≡ 32 ∷ text → FrontOf 32 text first behind → behind ≡ 32 ∷ second
    → (k : Name) → IsNameOf first k → IsOneBeyond (IsNameOf second) IsBoundedName → IsOneBeyond (IsTailGlue tail) IsBoundedGlue
glue_large_second second head front space k found two =
    let made : Glue = record { p1 = k.p; e1 = k.e; p2 = two.x.p; e2 = two.x.e } in
    record {
      x = made;
      found = glue_joined second head front space made found two.found;
      beyond = λ g is bounded. two.beyond (second_of g) (glue_parts second head front space g is).1 (bounded.2, bounded.3);
    }

-- no space, no names
pub glue_no_space : (tail : List ℕ) → ((text : List ℕ) → tail ≢ 32 ∷ text) → (g : Glue) → ¬ (IsTailGlue tail g)
glue_no_space tail none g is = none (glue_text g) is

pub glue_one_word : {tail text first behind : List ℕ} → tail ≡ 32 ∷ text → FrontOf 32 text first behind → ((second : List ℕ) → behind ≢ 32 ∷ second)
    → (g : Glue) → ¬ (IsTailGlue tail g)
glue_one_word {text = text} head front none g is =
    let own : text ≡ glue_text g = behind_space text g (sym head ∙ is) in
    let same = same_front front (name_text (first_of g)) (32 ∷ name_text (second_of g)) (name_lacks (first_of g)) refl (own ∙ glue_shape g) in
    none (name_text (second_of g)) same.1
