-- When two vectors are equal, part by part.
use Rattle.std.proofs.Common.{◌≡◌, ℤ, ◌&&◌, ap, int_eq}
use Rattle.std.specs.Bool.{Decides}
use Rattle.std.proofs.lemmas.Bool.{and_parts, and_from}
use Rattle.std.proofs.lemmas.Bool.Decides.{Decides-int_eq}
use Rattle.quad_field.specs.Quads.{quad}
use Rattle.quad_field.specs.declared.quad.Quad.{Quad}
use Rattle.plane.specs.declared.vec2.Vec2.{Vec2}
use Rattle.plane.specs.Vectors.{Vector, vector}

pub equal_from_parts : (a b c d p q r s : ℤ) → a ≡ p → b ≡ q → c ≡ r → d ≡ s → let A : Type 0 = Quad × Quad in ◌≡◌ {A = A} (quad a b, quad c d) (quad p q, quad r s)
equal_from_parts a b c d p q r s e f g h = rw (e, f, g, h)

-- what `==` answers at two vectors
pub vectors_decide : (v w : Vec2) → Decides ((int_eq v.s.a w.s.a && int_eq v.s.b w.s.b) && (int_eq v.t.a w.t.a && int_eq v.t.b w.t.b)) (vector v ≡ vector w)
vectors_decide v w = (
  (λ same.
      let halves = and_parts (int_eq v.s.a w.s.a && int_eq v.s.b w.s.b) (int_eq v.t.a w.t.a && int_eq v.t.b w.t.b) same in
      let s = and_parts (int_eq v.s.a w.s.a) (int_eq v.s.b w.s.b) halves.0 in
      let t = and_parts (int_eq v.t.a w.t.a) (int_eq v.t.b w.t.b) halves.1 in
      equal_from_parts v.s.a v.s.b v.t.a v.t.b w.s.a w.s.b w.t.a w.t.b ((Decides-int_eq v.s.a w.s.a).0 s.0) ((Decides-int_eq v.s.b w.s.b).0 s.1) ((Decides-int_eq v.t.a w.t.a).0 t.0) ((Decides-int_eq v.t.b w.t.b).0 t.1)),
  (λ e.
      and_from (int_eq v.s.a w.s.a && int_eq v.s.b w.s.b) (int_eq v.t.a w.t.a && int_eq v.t.b w.t.b)
      (and_from (int_eq v.s.a w.s.a) (int_eq v.s.b w.s.b) ((Decides-int_eq v.s.a w.s.a).1 (ap (λ (x : Vector Quad). x.0.a) e)) ((Decides-int_eq v.s.b w.s.b).1 (ap (λ (x : Vector Quad). x.0.b) e)))
      (and_from (int_eq v.t.a w.t.a) (int_eq v.t.b w.t.b) ((Decides-int_eq v.t.a w.t.a).1 (ap (λ (x : Vector Quad). x.1.a) e)) ((Decides-int_eq v.t.b w.t.b).1 (ap (λ (x : Vector Quad). x.1.b) e)))),
)
