use Rattle.std.proofs.Common.{rules, ◌≡◌, ◌/◌, ◌++◌, ◌∷◌, ℕ, List, length, of_z, to_z, sym, ap, ◌∙◌, subst, arith, ◌*◌, ◌+◌, ◌<◌, suc}
use Rattle.std.specs.Prelude.{ℤ, pos, unsigned_abs, FitsSigned}
use Rattle.std.specs.Int.{w128}
use Rattle.std.proofs.lemmas.Int.{to_z-of_z}
use Rattle.quad_field.specs.declared.quad.Quad.{Quad}
use Rattle.canon_code.specs.Serials.{row, rows}
use Rattle.std.proofs.lemmas.List.{append_assoc}
use Rattle.std.proofs.lemmas.Bool.{cases_eq}
use mathlib.Core.Logic.{inl, inr}
use Rattle.canon_code.specs.Listed.{written_by, twin_by}
use Rattle.canon_code.specs.Tries.{tried_serial}
use Rattle.plane.specs.Vectors.{Vector}
use Rattle.tri_core.specs.Triangulation.{IsTriangulation}
use Rattle.canon_code.specs.Canonical.{PairFits, ThirdVectorsFit}
use Rattle.canon_code.proofs.Canonical.{as_many, vector_is}
use Rattle.canon_code.proofs.Listed.{serial_is}
use Rattle.canon_code.proofs.serial.serial_of.Goals as goal

pub loop-t-preserved : goal.loop-t-preserved
loop-t-preserved c =
    let halves = c.args.tri.now.halves in
    let places : List ℕ = c.args.tried.now.numbering.places.items in
    let numbers : List ℕ = c.args.tried.now.numbering.numbers.items in
    let list : List Quad = c.as_slice-list.result.now in
    let t : ℕ = c.loop-t.t in
    let start : List ℤ = c.in_ok-serial.serial.items in
    let one : suc t ≡ t + 1 = omega arith in
    record {
      numbers_are =
          c.in_ok-push_row.ensures
          ∙ ap (λ (l : List ℤ). l ++ row (written_by list places) (twin_by halves places numbers) t) c.loop-t.invariant.numbers_are
          ∙ append_assoc start (rows (written_by list places) (twin_by halves places numbers) t) (row (written_by list places) (twin_by halves places numbers) t)
          ∙ ap (λ n. start ++ rows (written_by list places) (twin_by halves places numbers) n) one;
      thirds = λ s less. elim (cases_eq s t) [
        | inl e ↦ subst (λ n. PairFits (written_by list places (3 * n + 2))) (sym e) c.third_of-third.ensures
        | inr ne ↦ c.loop-t.invariant.thirds s (omega (arith, less, ne))
      ];
    }

pub returns-clause-serial : goal.returns-clause-serial
returns-clause-serial c =
    let halves = c.args.tri.now.halves in
    let places : List ℕ = c.args.tried.now.numbering.places.items in
    let numbers : List ℕ = c.args.tried.now.numbering.numbers.items in
    let list : List Quad = c.args.tried.now.coordinates.list.items in
    let scale : ℤ = c.args.tried.now.coordinates.scale in
    let fits : FitsSigned w128 c.args.tried.now.coordinates.scale = search rules in
    let whole : to_z w128 (of_z w128 c.args.tried.now.coordinates.scale) ≡ pos (unsigned_abs scale) = to_z-of_z w128 c.args.tried.now.coordinates.scale fits ∙ sym c.requires.tried.2.scale in
    let count : c.triangles-count.result ≡ length halves / 3 = omega arith in
    let last : c.loop-t.t ≡ length halves / 3 = omega arith in
    c.loop-t.invariant.numbers_are ∙ ap (λ (l : List ℤ). l ++ rows (written_by c.as_slice-list.result.now places) (twin_by halves places numbers) c.loop-t.t) c.in_ok-serial.ensures
    ∙ ap (λ (l : List Quad). pos c.triangles-count.result ∷ to_z w128 (of_z w128 c.args.tried.now.coordinates.scale) ∷ rows (written_by l places) (twin_by halves places numbers) c.loop-t.t) c.as_slice-list.ensures.value
    ∙ ap (λ z. pos c.triangles-count.result ∷ z ∷ rows (written_by list places) (twin_by halves places numbers) c.loop-t.t) whole
    ∙ ap (λ n. pos n ∷ pos (unsigned_abs scale) ∷ rows (written_by list places) (twin_by halves places numbers) c.loop-t.t) count
    ∙ ap (λ n. pos (length halves / 3) ∷ pos (unsigned_abs scale) ∷ rows (written_by list places) (twin_by halves places numbers) n) last

pub returns-clause-thirds : goal.returns-clause-thirds
returns-clause-thirds c =
    let halves = c.args.tri.now.halves in
    let places : List ℕ = c.args.tried.now.numbering.places.items in
    let numbers : List ℕ = c.args.tried.now.numbering.numbers.items in
    let list : List Quad = c.args.tried.now.coordinates.list.items in
    let scale : ℤ = c.args.tried.now.coordinates.scale in
    let h : ℕ = c.requires.tried.0 in
    let last : c.loop-t.t ≡ length halves / 3 = omega arith in
    let all : c.loop-t.serial.items ≡ tried_serial halves c.args.tried.now = returns-clause-serial c in
    let d : ℕ = c.args.f.now in
    let field = c.number-number.ensures.valid in
    let valid : IsTriangulation d halves = subst (λ n. IsTriangulation n halves) (sym c.requires.field) c.triangles-count.ensures.valid in
    let own = serial_is d halves h (unsigned_abs scale) places numbers list c.requires.tried.2.numbering c.requires.tried.2.coordinates in
    let code : List ℤ = tried_serial halves c.args.tried.now in
    subst (λ (l : List ℤ). ThirdVectorsFit d l) (sym all)
    (λ t inside.
    let many = as_many d field halves h code valid c.requires.tried.1 own in
    let less : 3 * t + 2 < length halves = omega (arith, inside, many) in
    subst (λ (v : Vector Quad). PairFits v) (sym (vector_is d field halves h code valid c.requires.tried.1 own (3 * t + 2) less))
    (subst (λ (l : List Quad). PairFits (written_by l places (3 * t + 2))) c.as_slice-list.ensures.value (c.loop-t.invariant.thirds t (omega (arith, less, last)))))
