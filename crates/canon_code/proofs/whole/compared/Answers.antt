use Rattle.std.proofs.Common.{◌≡◌, ◌+◌, ◌*◌, ◌/◌, ◌≤◌, ℕ, List, length, sym, ap, ◌∙◌, subst, arith}
use mathlib.Core.Path.{ap₂}
use Rattle.std.specs.Prelude.{ℤ, IfSome, IfNone}
use Rattle.std.specs.Ordering.{int_cmp}
use Rattle.std.specs.Cmp.Lexicographic.{slice_cmp}
use Rattle.tri_core.specs.Triangulation.{IsTriangulation}
use Rattle.canon_code.specs.Numbered.{entry, IsUnderWay}
use Rattle.canon_code.specs.WholeFrames.{IsWholeRow, HasNoWhole}
use Rattle.canon_code.proofs.Compared.{tie, eleven}
use Rattle.canon_code.proofs.NumberLists.{search_all, found_few}
use Rattle.canon_code.proofs.RowsCompared.{BeginsWhole, begins_first, begins_next, after_greater, after_none, same_all}
use Rattle.canon_code.proofs.whole.compared.Goals as goal

pub loop-t-init : goal.loop-t-init
loop-t-init c =
    let halves = c.args.tri.now.halves in
    let d : ℕ = c.args.f.now in
    let best : List ℤ = c.args.best.now in
    let valid : IsTriangulation d halves = subst (λ n. IsTriangulation n halves) (sym c.requires.field) c.triangles-count.ensures.valid in
    record {
      search = c.requires.numbering;
      begins = begins_first d c.number-number.ensures.valid halves valid best c.args.start.now c.requires.start c.requires.long c.requires.first;
    }

pub loop-t-preserved : goal.loop-t-preserved
loop-t-preserved c =
    let halves = c.args.tri.now.halves in
    let d : ℕ = c.args.f.now in
    let best : List ℤ = c.args.best.now in
    let valid : IsTriangulation d halves = subst (λ n. IsTriangulation n halves) (sym c.requires.field) c.triangles-count.ensures.valid in
    let t : ℕ = c.loop-t.t in
    let places : List ℕ = c.look_around.new.numbering.places.items in
    let numbers : List ℕ = c.look_around.new.numbering.numbers.items in
    let search : IsUnderWay halves c.args.start.now.h places numbers (3 * (t + 1)) = c.in_ok-twins.ensures.search c.args.start.now.h c.loop-t.invariant.search in
    let found = subst (λ o. IfSome o (IsWholeRow d halves c.args.start.now (entry places) (entry numbers) t)) c.in-Ok-Some.field-0-is c.in-Ok-Some.ensures.whole in
    record {
      search = search;
      begins = begins_next d c.number-number.ensures.valid halves valid best c.args.start.now c.requires.start c.requires.long c.requires.first
          t (omega arith) c.loop-t.invariant.begins places numbers search c.in-Ok-Some.row found
          (ap₂ (slice_cmp int_cmp) (sym c.as_slice.ensures) (sym c.row_in-own.ensures) ∙ sym c.cmp.ensures ∙ c.in-Equal.is);
    }

pub loop-t-preserved-then-same_row : goal.loop-t-preserved-then-same_row
loop-t-preserved-then-same_row c =
    let halves = c.args.tri.now.halves in
    let d : ℕ = c.args.f.now in
    let best : List ℤ = c.args.best.now in
    let valid : IsTriangulation d halves = subst (λ n. IsTriangulation n halves) (sym c.requires.field) c.triangles-count.ensures.valid in
    let t : ℕ = c.loop-t.t in
    let places : List ℕ = c.look_around.new.numbering.places.items in
    let numbers : List ℕ = c.look_around.new.numbering.numbers.items in
    let search : IsUnderWay halves c.args.start.now.h places numbers (3 * (t + 1)) = c.in_ok-twins.ensures.search c.args.start.now.h c.loop-t.invariant.search in
    let own : List ℤ = c.row_in-own.result.now in
    record {
      search = search;
      begins = begins_next d c.number-number.ensures.valid halves valid best c.args.start.now c.requires.start c.requires.long c.requires.first
          t (omega arith) c.loop-t.invariant.begins places numbers search own (c.same_row.ensures c.if-same_row.true d c.args.start.now c.requires.listed)
          (ap (slice_cmp int_cmp own) (sym c.row_in-own.ensures) ∙ tie own);
    }

pub returns-in-Greater-clause-told : goal.returns-in-Greater-clause-told
returns-in-Greater-clause-told c =
    let halves = c.args.tri.now.halves in
    let d : ℕ = c.args.f.now in
    let best : List ℤ = c.args.best.now in
    let valid : IsTriangulation d halves = subst (λ n. IsTriangulation n halves) (sym c.requires.field) c.triangles-count.ensures.valid in
    let t : ℕ = c.loop-t.t in
    let places : List ℕ = c.look_around.new.numbering.places.items in
    let numbers : List ℕ = c.look_around.new.numbering.numbers.items in
    let search : IsUnderWay halves c.args.start.now.h places numbers (3 * (t + 1)) = c.in_ok-twins.ensures.search c.args.start.now.h c.loop-t.invariant.search in
    let found = subst (λ o. IfSome o (IsWholeRow d halves c.args.start.now (entry places) (entry numbers) t)) c.in-Ok-Some.field-0-is c.in-Ok-Some.ensures.whole in
    after_greater d c.number-number.ensures.valid halves valid best c.args.start.now c.requires.start c.requires.long c.requires.first
    t (omega arith) c.loop-t.invariant.begins places numbers search c.in-Ok-Some.row found
    (ap₂ (slice_cmp int_cmp) (sym c.as_slice.ensures) (sym c.row_in-own.ensures) ∙ sym c.cmp.ensures ∙ c.in-Greater.is)

pub returns-clause-told : goal.returns-clause-told
returns-clause-told c =
    let halves = c.args.tri.now.halves in
    let d : ℕ = c.args.f.now in
    let best : List ℤ = c.args.best.now in
    let valid : IsTriangulation d halves = subst (λ n. IsTriangulation n halves) (sym c.requires.field) c.triangles-count.ensures.valid in
    let all : c.loop-t.t ≡ length halves / 3 = omega (arith, valid.count.1) in
    same_all d c.number-number.ensures.valid halves valid best c.args.start.now c.requires.start c.requires.long c.requires.first (subst (BeginsWhole d halves c.args.start.now best) all c.loop-t.invariant.begins)

pub returns-then-is_broken-clause-told : goal.returns-then-is_broken-clause-told
returns-then-is_broken-clause-told c =
    let halves = c.args.tri.now.halves in
    let d : ℕ = c.args.f.now in
    let best : List ℤ = c.args.best.now in
    let valid : IsTriangulation d halves = subst (λ n. IsTriangulation n halves) (sym c.requires.field) c.triangles-count.ensures.valid in
    after_none d c.number-number.ensures.valid halves valid best c.args.start.now c.requires.start c.requires.long c.requires.first (c.is_broken.ensures c.if-is_broken.true)

pub returns-in-Ok-None-clause-told : goal.returns-in-Ok-None-clause-told
returns-in-Ok-None-clause-told c =
    let halves = c.args.tri.now.halves in
    let d : ℕ = c.args.f.now in
    let best : List ℤ = c.args.best.now in
    let valid : IsTriangulation d halves = subst (λ n. IsTriangulation n halves) (sym c.requires.field) c.triangles-count.ensures.valid in
    after_none d c.number-number.ensures.valid halves valid best c.args.start.now c.requires.start c.requires.long c.requires.first
    (subst (λ o. IfNone o (HasNoWhole d halves c.args.start.now)) c.in-Ok-None.field-0-is c.in-Ok-None.ensures.none)

pub same_row-requires-clause-long : goal.same_row-requires-clause-long
same_row-requires-clause-long c =
    let halves = c.args.tri.now.halves in
    ap length c.row_in-own.ensures ∙ eleven (length halves / 3) c.loop-t.t c.args.best.now c.requires.long (omega arith)

pub same_row-requires-clause-numbering : goal.same_row-requires-clause-numbering
same_row-requires-clause-numbering c = (3 * (c.loop-t.t + 1), (c.in_ok-twins.ensures.search c.args.start.now.h c.loop-t.invariant.search).search)

pub same_row-requires-clause-reached : goal.same_row-requires-clause-reached
same_row-requires-clause-reached c =
    let t : ℕ = c.loop-t.t in
    let enough : 3 * (t + 1) ≤ length c.look_around.new.numbering.places.items = (c.in_ok-twins.ensures.search c.args.start.now.h c.loop-t.invariant.search).search.search.enough in
    omega (arith, enough)

pub whole_row-requires-clause-numbering : goal.whole_row-requires-clause-numbering
whole_row-requires-clause-numbering c = (3 * (c.loop-t.t + 1), (c.in_ok-twins.ensures.search c.args.start.now.h c.loop-t.invariant.search).search)

pub whole_row-requires-clause-reached : goal.whole_row-requires-clause-reached
whole_row-requires-clause-reached c =
    let t : ℕ = c.loop-t.t in
    let enough : 3 * (t + 1) ≤ length c.look_around.new.numbering.places.items = (c.in_ok-twins.ensures.search c.args.start.now.h c.loop-t.invariant.search).search.search.enough in
    omega (arith, enough)

pub returns-clause-numbered : goal.returns-clause-numbered
returns-clause-numbered c = λ same.
    let halves = c.args.tri.now.halves in
    let valid : IsTriangulation c.args.tri.now.field halves = c.triangles-count.ensures.valid in
    let places : List ℕ = c.loop-t.numbering.places.items in
    let numbers : List ℕ = c.loop-t.numbering.numbers.items in
    let way : IsUnderWay halves c.args.start.now.h places numbers (3 * c.loop-t.t) = c.loop-t.invariant.search in
    let few : length places ≤ length halves = found_few halves places numbers (3 * c.loop-t.t) way.search in
    search_all c.args.tri.now.field halves c.args.start.now.h (3 * c.loop-t.t) places numbers valid way.start way.some (omega (arith, few, valid.count.0, valid.count.1)) way.search
