use Rattle.std.proofs.Common.{◌≡◌, ◌++◌, rules}
use Rattle.surface_text.specs.Spelling.{fraction_text}
use Rattle.surface_text.proofs.Written.{coordinates}
use Rattle.surface_text.proofs.writer.put_coordinates.Goals as goal

pub returns : goal.returns
returns c =
    let x : c.put_fraction.new.out.items ≡ c.args.out.now.items ++ fraction_text c.args.at.now.xn c.args.at.now.xd = search rules in
    let y : c.put_fraction-2.new.out.items ≡ c.push.new.self.items ++ fraction_text c.args.at.now.yn c.args.at.now.yd = search rules in
    coordinates c.args.out.now.items c.put_fraction.new.out.items c.push.new.self.items c.put_fraction-2.new.out.items
    (fraction_text c.args.at.now.xn c.args.at.now.xd) (fraction_text c.args.at.now.yn c.args.at.now.yd) x c.in_ok-push.ensures.items y
