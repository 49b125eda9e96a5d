use Rattle.std.proofs.Common.{◌≡◌, ◌<◌, ℕ, List, length, Ok, Err, sym, subst, inl, inr, arith}
use Rattle.std.specs.Prelude.{ℤ}
use Rattle.std.specs.Ordering.{nat_cmp}
use Rattle.std.specs.List.Sorted.{IsBinarySearchResult}
use Rattle.std.proofs.lemmas.List.{get_or_read}
use Rattle.tri_core.specs.Triangulation.{IsTriangulation}
use Rattle.canon_code.specs.Numbered.{entry}
use Rattle.canon_code.specs.Least.{IsLeastTo}
use Rattle.canon_code.specs.Orbits.{HaveSameSerials, AreOrbits}
use Rattle.canon_code.proofs.Least.{least_kept}
use Rattle.canon_code.proofs.SameSerials.{start_found, start_missing, after_unless_start}
use Rattle.canon_code.proofs.canon.is_passed.Goals as goal

pub returns-in-Err-clause-passed : goal.returns-in-Err-clause-passed
returns-in-Err-clause-passed c = λ _.
    let halves = c.args.tri.now.halves in
    let d : ℕ = c.args.f.now in
    let valid : IsTriangulation d halves = subst (λ n. IsTriangulation n halves) (sym c.requires.field) c.triangles-count.ensures.valid in
    let field = c.number-number.ensures.valid in
    let h : ℕ = c.args.h in
    let best : List ℤ = c.args.best.now.serial.items in
    let starts : List ℕ = c.args.best.now.starts.items in
    let links : List ℕ = c.args.best.now.orbits.links.items in
    let orbits : AreOrbits d halves best c.args.best.now.orbits.places.items links = c.requires.best.orbits in
    let least : IsLeastTo d halves h best starts = c.requires.best.least.best in
    let inside : h < length links = omega (arith, c.requires.half, orbits.linked.as_many) in
    let first : ℕ = c.index.result.now in
    let read : first ≡ entry links h = get_or_read links h first inside c.index.ensures 0 in
    let alike : HaveSameSerials d halves h first = subst (HaveSameSerials d halves h) (sym read) (orbits.linked.same h inside) in
    let before : first < h = omega (arith, read, orbits.linked.back h inside, c.if-first-h.false) in
    let found : IsBinarySearchResult (λ y. nat_cmp y first) starts (Err c.in-Err._place) =
    subst (λ (l : List ℕ). IsBinarySearchResult (λ y. nat_cmp y first) l (Err c.in-Err._place)) c.as_slice.ensures.value c.in-Err.ensures.position in
    record {
      least = record {
        best = least_kept d field halves valid h best starts least
            (λ other s.
            after_unless_start d field halves valid best h starts first other least before (start_missing d field halves valid best h starts first least c.in-Err._place found) (alike.forth other s));
        thirds = c.requires.best.least.thirds;
      };
      orbits = orbits;
    }

pub returns-in-Ok-clause-other : goal.returns-in-Ok-clause-other
returns-in-Ok-clause-other c = λ _.
    let halves = c.args.tri.now.halves in
    let d : ℕ = c.args.f.now in
    let valid : IsTriangulation d halves = subst (λ n. IsTriangulation n halves) (sym c.requires.field) c.triangles-count.ensures.valid in
    let field = c.number-number.ensures.valid in
    let h : ℕ = c.args.h in
    let best : List ℤ = c.args.best.now.serial.items in
    let starts : List ℕ = c.args.best.now.starts.items in
    let links : List ℕ = c.args.best.now.orbits.links.items in
    let orbits : AreOrbits d halves best c.args.best.now.orbits.places.items links = c.requires.best.orbits in
    let least : IsLeastTo d halves h best starts = c.requires.best.least.best in
    let inside : h < length links = omega (arith, c.requires.half, orbits.linked.as_many) in
    let first : ℕ = c.index.result.now in
    let read : first ≡ entry links h = get_or_read links h first inside c.index.ensures 0 in
    let alike : HaveSameSerials d halves h first = subst (HaveSameSerials d halves h) (sym read) (orbits.linked.same h inside) in
    let found : IsBinarySearchResult (λ y. nat_cmp y first) starts (Ok c.in-Ok._place) =
    subst (λ (l : List ℕ). IsBinarySearchResult (λ y. nat_cmp y first) l (Ok c.in-Ok._place)) c.as_slice.ensures.value c.in-Ok.ensures.position in
    inr (alike.back best (start_found d field halves valid best h starts first least c.in-Ok._place found))

pub returns-then-first-h-clause-other : goal.returns-then-first-h-clause-other
returns-then-first-h-clause-other c = λ _.
    let links : List ℕ = c.args.best.now.orbits.links.items in
    let inside : c.args.h < length links = omega (arith, c.requires.half, c.requires.best.orbits.linked.as_many) in
    let read : c.index.result.now ≡ entry links c.args.h = get_or_read links c.args.h c.index.result.now inside c.index.ensures 0 in
    inl (omega (arith, read, c.if-first-h.true))
