-- Names of sides, put together of their numbers.
use Rattle.std.proofs.Common.{◌≡◌, ◌≢◌, ℕ, ◌≤◌, List, [], ◌∷◌, ◌++◌, refl, ap, sym, ◌∙◌, arith, append_assoc}
use Rattle.plane.specs.Spelling.{natural_text}
use Rattle.surface_text.specs.declared.names.Name.{Name}
use Rattle.surface_text.specs.Causes.{FrontOf}
use Rattle.surface_text.specs.Readings.{IsTheOne, IsOneBeyond}
use Rattle.surface_text.specs.Names.{name_text, IsNameOf, IsBoundedName}
use Rattle.surface_text.proofs.Stops.{same_front}
use Rattle.surface_text.proofs.Numbers.{natural_text_lacks}

-- the bytes spell this number, within the bounds
abbrev pub Is : List ℕ → ℕ → Type 0
Is text n = text ≡ natural_text n

abbrev pub Within : ℕ → Type 0
Within n = n ≤ 1000000000

name_shape : (name : Name) → name_text name ≡ natural_text name.p ++ 46 ∷ natural_text name.e
name_shape name = append_assoc (natural_text name.p) (46 ∷ []) (natural_text name.e)

name_parts : {text p tail : List ℕ} (e : List ℕ) → FrontOf 46 text p tail → tail ≡ 46 ∷ e → (name : Name) → IsNameOf text name
    → Is p name.p × Is e name.e
name_parts e front head name is =
    let same = same_front front (natural_text name.p) (46 ∷ natural_text name.e) (natural_text_lacks 46 name.p (omega arith)) refl (is ∙ name_shape name) in
    let tails : 46 ∷ e ≡ 46 ∷ natural_text name.e = sym head ∙ same.1 in
    (same.0, cc)

name_joined : {text p tail : List ℕ} (e : List ℕ) → FrontOf 46 text p tail → tail ≡ 46 ∷ e → (name : Name) → Is p name.p → Is e name.e → IsNameOf text name
name_joined {p = p} e front head name a b =
    front.found ∙ ap (λ (end : List ℕ). p ++ end) (head ∙ ap (λ (end : List ℕ). 46 ∷ end) b)
    ∙ ap (λ (start : List ℕ). start ++ 46 ∷ natural_text name.e) a ∙ sym (name_shape name)

same_name : (name made : Name) → name.p ≡ made.p → name.e ≡ made.e → name ≡ made
same_name name made a b =
    ap (λ (n : ℕ). let x : Name = record { p = n; e = name.e } in x) a ∙ ap (λ (n : ℕ). let x : Name = record { p = made.p; e = n } in x) b

pub name_value : {text p tail : List ℕ} (e : List ℕ) → FrontOf 46 text p tail → tail ≡ 46 ∷ e → (made : Name)
    → IsTheOne (Is p) Within made.p → IsTheOne (Is e) Within made.e → IsTheOne (IsNameOf text) IsBoundedName made
name_value e front head made one two =
    record {
      found = name_joined e front head made one.found two.found;
      fits = (one.fits, two.fits);
      only = λ name is. let parts = name_parts e front head name is in same_name name made (one.only name.p parts.0) (two.only name.e parts.1);
    }

pub name_not_first : {text p tail : List ℕ} (e : List ℕ) → FrontOf 46 text p tail → tail ≡ 46 ∷ e → ((n : ℕ) → ¬ (Is p n)) → (name : Name) → ¬ (IsNameOf text name)
name_not_first e front head none name is = none name.p (name_parts e front head name is).0

pub name_not_second : {text p tail : List ℕ} (e : List ℕ) → FrontOf 46 text p tail → tail ≡ 46 ∷ e → ((n : ℕ) → ¬ (Is e n)) → (name : Name) → ¬ (IsNameOf text name)
name_not_second e front head none name is = none name.e (name_parts e front head name is).1

pub name_large_first : {text p tail : List ℕ} (e : List ℕ) → FrontOf 46 text p tail → tail ≡ 46 ∷ e → (k : ℕ) → IsOneBeyond (Is p) Within → Is e k
    → IsOneBeyond (IsNameOf text) IsBoundedName
name_large_first e front head k one found =
    let made : Name = record { p = one.x; e = k } in
    record {
      x = made;
      found = name_joined e front head made one.found found;
      beyond = λ name is bounded. one.beyond name.p (name_parts e front head name is).0 bounded.0;
    }

pub name_large_second : {text p tail : List ℕ} (e : List ℕ) → FrontOf 46 text p tail → tail ≡ 46 ∷ e → (k : ℕ) → Is p k → IsOneBeyond (Is e) Within
    → IsOneBeyond (IsNameOf text) IsBoundedName
name_large_second e front head k found two =
    let made : Name = record { p = k; e = two.x } in
    record {
      x = made;
      found = name_joined e front head made found two.found;
      beyond = λ name is bounded. two.beyond name.e (name_parts e front head name is).1 bounded.1;
    }

pub name_none : {text p tail : List ℕ} → FrontOf 46 text p tail → ((e : List ℕ) → tail ≢ 46 ∷ e) → (name : Name) → ¬ (IsNameOf text name)
name_none front none name is =
    let same = same_front front (natural_text name.p) (46 ∷ natural_text name.e) (natural_text_lacks 46 name.p (omega arith)) refl (is ∙ name_shape name) in
    none (natural_text name.e) same.1
