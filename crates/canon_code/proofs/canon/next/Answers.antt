use Rattle.std.proofs.Common.{◌≡◌, ◌+◌, ◌<◌, ℕ, List, length, sym, subst, inl, inr, arith}
use mathlib.Core.Path.{subst₂}
use Rattle.std.specs.Prelude.{ℤ}
use Rattle.std.proofs.lemmas.List.{get_or_read}
use Rattle.tri_core.specs.Triangulation.{IsTriangulation}
use Rattle.canon_code.specs.declared.orbits.Orbits.{Orbits}
use Rattle.canon_code.specs.Numbered.{entry}
use Rattle.canon_code.specs.Serials.{IsSerial}
use Rattle.canon_code.specs.Least.{IsBestTo}
use Rattle.canon_code.specs.Orbits.{AreOrbits}
use Rattle.canon_code.proofs.Compared.{tie}
use Rattle.canon_code.proofs.Least.{least_same}
use Rattle.canon_code.proofs.canon.next.Goals as goal

pub returns-clause-best : goal.returns-clause-best
returns-clause-best c =
    let halves = c.args.tri.now.halves in
    let d : ℕ = c.args.f.now in
    let valid : IsTriangulation d halves = subst (λ n. IsTriangulation n halves) (sym c.requires.field) c.triangles-count.ensures.valid in
    let field = c.number-number.ensures.valid in
    let h : ℕ = c.args.h in
    let best : List ℤ = c.args.best.serial.items in
    let starts : List ℕ = c.args.best.starts.items in
    let links : List ℕ = c.args.best.orbits.links.items in
    let orbits : AreOrbits d halves best c.args.best.orbits.places.items links = c.requires.best.orbits in
    let inside : h < length links = omega (arith, c.requires.half, orbits.linked.as_many) in
    let read : c.index.result.now ≡ entry links h = get_or_read links h c.index.result.now inside c.index.ensures 0 in
    let own : IsSerial d halves h best = elim c.requires.other [
      | inl alone ↦ absurd (c.if-index-h.false (omega (arith, read, alone)))
      | inr own ↦ own
    ] in
    record {
      least = subst₂ (λ (s : List ℤ) (l : List ℕ). IsBestTo d halves (h + 1) s l) (sym c.in_ok-best.ensures.serial) (sym c.in_ok-best.ensures.starts)
          (record {
            best = least_same d field halves valid h best best starts c.requires.half c.requires.best.least.best own (tie best);
            thirds = c.requires.best.least.thirds;
          });
      orbits = subst₂ (λ (s : List ℤ) (o : Orbits). AreOrbits d halves s o.places.items o.links.items) (sym c.in_ok-best.ensures.serial) (sym c.in_ok-best.ensures.orbits) orbits;
    }
