use Rattle.std.proofs.Common.{◌≡◌, map, sym, ◌∙◌, ap, subst, arith}
use Rattle.std.proofs.lemmas.Result.{err_from_is_err_and}
use Rattle.surface_text.specs.Spelling.{Line, content, lines_before_end}
use Rattle.surface_text.specs.declared.file.Polygon.{Polygon}
use Rattle.surface_text.specs.declared.lines.Kind.{Kind}
use Rattle.surface_text.specs.declared.lines.Kind.TheVariants as kinds
use Rattle.surface_text.specs.Faults.{word_of_kind, IsOpen}
use Rattle.surface_text.proofs.Least.{kind_bad}
use Rattle.surface_text.proofs.Bodies.{line_joined, base_bad, glue_bad, end_bad}
use Rattle.surface_text.proofs.Behind.{tells, polygon_refused, file_bases, file_polygons, file_count, file_order, file_stands, file_closed, none_from, some_bytes}
use Rattle.surface_text.proofs.lines.body_line.Goals as goal

pub kind_of-requires : goal.kind_of-requires
kind_of-requires c =
    let file = c.args.file.now in
    file_order file c.is_empty.result c.is_empty-2.result c.requires.so_far
    (tells file.polygons.items _ c.is_empty.result c.is_empty.ensures file.polygons.ok.0) (tells file.glues.items _ c.is_empty-2.result c.is_empty-2.ensures file.glues.ok.0)

pub returns-in-None : goal.returns-in-None
returns-in-None c =
    let file = c.args.file.now in
    let b = tells file.polygons.items _ c.is_empty.result c.is_empty.ensures file.polygons.ok.0 in
    let g = tells file.glues.items _ c.is_empty-2.result c.is_empty-2.ensures file.glues.ok.0 in
    kind_bad (lines_before_end (content file)) c.args.line.now (λ e. absurd cc) c.requires.printed c.front.ensures
    (file_closed file c.is_empty.result c.is_empty-2.result c.front.result.0.now c.requires.so_far b g c.in-None.ensures)

pub returns-in-Some-End-2 : goal.returns-in-Some-End-2
returns-in-Some-End-2 c =
    let file = c.args.file.now in
    let word = c.front.result.0.now in
    let tail = c.front.result.1.now in
    let bare = c.is_empty.result in
    let glueless = c.is_empty-2.result in
    let b = tells file.polygons.items _ bare c.is_empty.ensures file.polygons.ok.0 in
    let g = tells file.glues.items _ glueless c.is_empty-2.ensures file.glues.ok.0 in
    let is = subst (λ (k : Kind). (word ≡ word_of_kind k) × IsOpen bare glueless k) c.in-Some-End.field-0-is c.in-Some-End.ensures in
    let s = file_stands file bare glueless kinds.End c.requires.so_far b g c.requires.printed c.front.ensures is.0 is.1 in
    end_bad (lines_before_end (content file)) c.args.line.now word tail s (some_bytes tail c.if-is_empty.ensures)

pub returns-in_err-base_of-in-Some-Base : goal.returns-in_err-base_of-in-Some-Base
returns-in_err-base_of-in-Some-Base c =
    let p = err_from_is_err_and c.from_residual.result c.from_residual.ensures.1 in
    let file = c.args.file.now in
    let word = c.front.result.0.now in
    let tail = c.front.result.1.now in
    let bare = c.is_empty.result in
    let glueless = c.is_empty-2.result in
    let b = tells file.polygons.items _ bare c.is_empty.ensures file.polygons.ok.0 in
    let g = tells file.glues.items _ glueless c.is_empty-2.ensures file.glues.ok.0 in
    let is = subst (λ (k : Kind). (word ≡ word_of_kind k) × IsOpen bare glueless k) c.in-Some-Base.field-0-is c.in-Some-Base.ensures in
    let s = file_stands file bare glueless kinds.Base c.requires.so_far b g c.requires.printed c.front.ensures is.0 is.1 in
    rw (p.1, p.2) (base_bad (lines_before_end (content file)) c.args.line.now word tail _ s (file_bases file ∙ sym (c.len.ensures ∙ file.bases.ok.0)) _ c.in_err-base_of-in-Some-Base.ensures)

pub returns-in_err-polygon_of-in-Some-Polygon : goal.returns-in_err-polygon_of-in-Some-Polygon
returns-in_err-polygon_of-in-Some-Polygon c =
    let p = err_from_is_err_and c.from_residual-in_err-polygon_of-in-Some-Polygon.result c.from_residual-in_err-polygon_of-in-Some-Polygon.ensures.1 in
    let file = c.args.file.now in
    let word = c.front.result.0.now in
    let tail = c.front.result.1.now in
    let bare = c.is_empty.result in
    let glueless = c.is_empty-2.result in
    let b = tells file.polygons.items _ bare c.is_empty.ensures file.polygons.ok.0 in
    let g = tells file.glues.items _ glueless c.is_empty-2.ensures file.glues.ok.0 in
    let is = subst (λ (k : Kind). (word ≡ word_of_kind k) × IsOpen bare glueless k) c.in-Some-Polygon.field-0-is c.in-Some-Polygon.ensures in
    let s = file_stands file bare glueless kinds.Polygon c.requires.so_far b g c.requires.printed c.front.ensures is.0 is.1 in
    rw (p.1, p.2) (polygon_refused (lines_before_end (content file)) c.args.line.now word tail _ s (file_count file ∙ sym (c.len-in-Some-Polygon.ensures ∙ file.polygons.ok.0)) _ c.in_err-polygon_of-in-Some-Polygon.ensures)

pub returns-in_err-glue_of-in-Some-Glue : goal.returns-in_err-glue_of-in-Some-Glue
returns-in_err-glue_of-in-Some-Glue c =
    let p = err_from_is_err_and c.from_residual-in_err-glue_of-in-Some-Glue.result c.from_residual-in_err-glue_of-in-Some-Glue.ensures.1 in
    let file = c.args.file.now in
    let word = c.front.result.0.now in
    let tail = c.front.result.1.now in
    let bare = c.is_empty.result in
    let glueless = c.is_empty-2.result in
    let b = tells file.polygons.items _ bare c.is_empty.ensures file.polygons.ok.0 in
    let g = tells file.glues.items _ glueless c.is_empty-2.ensures file.glues.ok.0 in
    let is = subst (λ (k : Kind). (word ≡ word_of_kind k) × IsOpen bare glueless k) c.in-Some-Glue.field-0-is c.in-Some-Glue.ensures in
    let s = file_stands file bare glueless kinds.Glue c.requires.so_far b g c.requires.printed c.front.ensures is.0 is.1 in
    rw (p.1, p.2) (glue_bad (lines_before_end (content file)) c.args.line.now word tail _ s
    (file_polygons file ∙ ap (map (λ (polygon : Polygon). polygon.sides.items)) (sym c.deref.ensures.value)) _ c.in_err-glue_of-in-Some-Glue.ensures)

pub returns-in_ok-base_of-in-Some-Base : goal.returns-in_ok-base_of-in-Some-Base
returns-in_ok-base_of-in-Some-Base c =
    let file = c.args.file.now in
    let word = c.front.result.0.now in
    let bare = c.is_empty.result in
    let glueless = c.is_empty-2.result in
    let b = tells file.polygons.items _ bare c.is_empty.ensures file.polygons.ok.0 in
    let g = tells file.glues.items _ glueless c.is_empty-2.ensures file.glues.ok.0 in
    let is = subst (λ (k : Kind). (word ≡ word_of_kind k) × IsOpen bare glueless k) c.in-Some-Base.field-0-is c.in-Some-Base.ensures in
    let at = c.in_ok-base_of-in-Some-Base.field-0 in
    let taken = c.in_ok-base_of-in-Some-Base.ensures in
    let one = taken.0 in
    let few = taken.2 in
    let count = c.len.ensures ∙ file.bases.ok.0 in (
      line_joined c.front.ensures (Line.base at) is.0 one.found.0,
      (
        ap (map (λ (polygon : Polygon). polygon.sides.items)) (none_from file.polygons.items bare b is.1),
        none_from file.glues.items glueless g (file_order file bare glueless c.requires.so_far b g is.1),
        omega arith,
        record { form = one.found.1; bounded = one.fits; above = taken.1 },
      ),
    )
