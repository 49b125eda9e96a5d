use Rattle.std.proofs.Common.{◌≡◌, ◌++◌, codes, rules}
use Rattle.plane.specs.Spelling.{natural_text}
use Rattle.surface_text.proofs.Written.{file_written}
use Rattle.surface_text.proofs.writer.write.Goals as goal

pub returns : goal.returns
returns c =
    let start : c.put_natural.new.out.items ≡ (codes "flat 1\nfield " ++ natural_text c.args.file.now.field) = search rules in
    file_written c.args.file.now c.put_natural.new.out.items c.push.new.self.items c.put_bases.new.out.items c.put_polygons.new.out.items
    c.put_glues.new.out.items c.extend_from_slice-2.new.self.items start
    c.in_ok-push.ensures.items (search rules) (search rules) (search rules) c.in_ok-extend_from_slice-2.ensures.items
