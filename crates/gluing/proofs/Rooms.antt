-- The rows of the table as they lie in memory.
use Rattle.std.proofs.Common.{◌≡◌, ◌∙◌, ap, sym, refl, subst, map, replicate, arith, ℕ, zero, suc, ◌<◌, List, [], ◌∷◌, Option, Some, None, length, get_or}
use Rattle.std.specs.Prelude.{Vec}
use Rattle.std.proofs.lemmas.List.{get_or-map, length-map, length-replicate}
use Rattle.gluing.specs.Gluings.{Name}
use Rattle.plane.specs.declared.vec2.Vec2.{Vec2}
use Rattle.gluing.specs.Tables.{rows_of, row_at, entry_of, IsTable}

-- as many rows as lie there
pub length-rows : {Z : Type 0} (table : List (Vec (Option Name) Z)) → length (rows_of table) ≡ length table
length-rows {Z} table = length-map table (λ (row : Vec (Option Name) Z). row.items)

-- a row as it is read
pub row_read : {Z : Type 0} (table : List (Vec (Option Name) Z)) (p : ℕ) (d : Vec (Option Name) Z) → p < length table → get_or (rows_of table) p [] ≡ (get_or table p d).items
row_read {Z} table p d h = get_or-map (λ (row : Vec (Option Name) Z). row.items) table p d [] h

-- a row that was read
pub row_is : {Z : Type 0} (table : List (Vec (Option Name) Z)) (p : ℕ) (row : Vec (Option Name) Z) → p < length table → row ≡ get_or table p row → get_or (rows_of table) p [] ≡ row.items
row_is {Z} table p row h e = row_read table p row h ∙ ap (λ (row : Vec (Option Name) Z). row.items) (sym e)

-- what stands in a row stands within it
pub inside_row : (row : List (Option Name)) (e : ℕ) (twin : Name) → get_or row e None ≡ Some twin → e < length row
inside_row [] e twin is = let no : ⊥ = cc in absurd no
inside_row (x ∷ row) zero twin is = omega arith
inside_row (x ∷ row) (suc e) twin is = let h = inside_row row e twin is in omega arith

-- rows with no entry filled
abbrev pub blank : List (List Vec2) → List (List (Option Name))
blank polygons = map (λ (sides : List Vec2). replicate (length sides) None) polygons

none_blank : (n e : ℕ) → get_or {A = Option Name} (replicate n None) e None ≡ None
none_blank zero e = refl
none_blank (suc n) zero = refl
none_blank (suc n) (suc e) = none_blank n e

blank_entry : (polygons : List (List Vec2)) (n : Name) → entry_of (blank polygons) n ≡ None
blank_entry [] n = refl
blank_entry (sides ∷ polygons) (zero, e) = none_blank (length sides) e
blank_entry (sides ∷ polygons) (suc p, e) = blank_entry polygons (p, e)

blank_long : (polygons : List (List Vec2)) (p : ℕ) → length (row_at (blank polygons) p) ≡ length (get_or polygons p [])
blank_long [] p = refl
blank_long (sides ∷ polygons) zero = length-replicate (length sides) None
blank_long (sides ∷ polygons) (suc p) = blank_long polygons p

-- they are the table of no glue line
pub IsTable-blank : (polygons : List (List Vec2)) (rows : List (List (Option Name))) → rows ≡ blank polygons → IsTable polygons [] rows
IsTable-blank polygons rows e = subst (IsTable polygons []) (sym e) (record {
  shape = record { as_many = length-map polygons (λ (sides : List Vec2). replicate (length sides) None); as_long = blank_long polygons };
  first = λ k h. absurd (omega arith);
  second = λ k h. absurd (omega arith);
  twins = λ n t is. let no : None ≡ Some t = sym (blank_entry polygons n) ∙ is in let bad : ⊥ = cc in absurd bad;
})
