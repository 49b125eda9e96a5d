use Rattle.std.proofs.Common.{true, false, codes}
use Rattle.std.proofs.lemmas.Bool.{true≢false, false≢true}
use Rattle.surface_text.proofs.Openings.{closed, not_word}
use Rattle.surface_text.proofs.lines.kind_of.Goals as goal

pub returns : goal.returns
returns c =
    let word = c.args.word.now in
    closed c.args.before_polygons c.args.before_glues word c.requires
    (not_word c.eq.result c.args.before_polygons true false word _ (codes "base") true≢false c.else-eq.either c.eq.ensures c.as_slice.ensures)
    (not_word c.eq-2.result c.args.before_glues true false word _ (codes "polygon") true≢false c.else-eq-2.either c.eq-2.ensures c.as_slice-2.ensures)
    (not_word c.eq-3.result c.args.before_polygons false true word _ (codes "glue") false≢true c.else-eq-3.either c.eq-3.ensures c.as_slice-3.ensures)
    (not_word c.eq-4.result c.args.before_polygons false true word _ (codes "end") false≢true c.else-eq-4.either c.eq-4.ensures c.as_slice-4.ensures)
