use Rattle.std.proofs.Common.{◌≡◌, ◌+◌, ◌*◌, ◌/◌, ℕ, List, length, sym, subst}
use Rattle.std.specs.Prelude.{ℤ, pos, ◌<ℤ◌}
use Rattle.tri_core.specs.Triangulation.{IsTriangulation}
use Rattle.canon_code.specs.declared.whole.Told.{Told}
use Rattle.canon_code.specs.Canonical.{number_at}
use Rattle.canon_code.specs.Codes.{IsBefore}
use Rattle.canon_code.specs.Serials.{IsSerial}
use Rattle.canon_code.specs.WholeFrames.{IsTold}
use Rattle.canon_code.proofs.Least.{best_long, best_first, best_scale, least_kept}
use Rattle.canon_code.proofs.canon.compared.Goals as goal

pub told_of-requires-clause-long : goal.told_of-requires-clause-long
told_of-requires-clause-long c =
    subst (λ (l : List ℤ). length l ≡ 2 + 11 * (length c.args.tri.now.halves / 3)) (sym c.as_slice.ensures.value)
    (best_long c.args.f.now c.args.tri.now.halves c.args.h c.args.best.serial.items c.args.best.starts.items c.requires.best.least.best)

pub told_of-requires-clause-first : goal.told_of-requires-clause-first
told_of-requires-clause-first c =
    subst (λ (l : List ℤ). number_at l 0 ≡ pos (length c.args.tri.now.halves / 3)) (sym c.as_slice.ensures.value)
    (best_first c.args.f.now c.args.tri.now.halves c.args.h c.args.best.serial.items c.args.best.starts.items c.requires.best.least.best)

pub told_of-requires-clause-scale : goal.told_of-requires-clause-scale
told_of-requires-clause-scale c =
    subst (λ (l : List ℤ). pos 0 <ℤ number_at l 1) (sym c.as_slice.ensures.value)
    (best_scale c.args.f.now c.args.tri.now.halves c.args.h c.args.best.serial.items c.args.best.starts.items c.requires.best.least.best)

pub returns-in-After-clause-best : goal.returns-in-After-clause-best
returns-in-After-clause-best c =
    let halves = c.args.tri.now.halves in
    let d : ℕ = c.args.f.now in
    let valid : IsTriangulation d halves = subst (λ n. IsTriangulation n halves) (sym c.requires.field) c.triangles-count.ensures.valid in
    let told : (other : List ℤ) → IsSerial d halves c.args.h other → IsBefore c.as_slice.result.now other = subst (λ (a : Told). IsTold d halves c.args.h c.as_slice.result.now a) c.in-After.is c.in_ok-tried.ensures.told in
    record {
      least = record {
        best = least_kept d c.number-number.ensures.valid halves valid c.args.h c.args.best.serial.items c.args.best.starts.items c.requires.best.least.best
            (λ other s. subst (λ (l : List ℤ). IsBefore l other) c.as_slice.ensures.value (told other s));
        thirds = c.requires.best.least.thirds;
      };
      orbits = c.requires.best.orbits;
    }

pub with_image-requires-clause-serial : goal.with_image-requires-clause-serial
with_image-requires-clause-serial c =
    let halves = c.args.tri.now.halves in
    let d : ℕ = c.args.f.now in
    let own : IsSerial d halves c.args.h c.as_slice.result.now = subst (λ (a : Told). IsTold d halves c.args.h c.as_slice.result.now a) c.in-Same.is c.in_ok-tried.ensures.told in
    subst (IsSerial d halves c.args.h) c.as_slice.ensures.value own
