-- The points that are tried where a file has none.
use Rattle.std.specs.Prelude.{ℤ, pos, neg_ℤ, List, [], ◌∷◌}
use Rattle.surface_text.specs.declared.file.Point.{Point}

-- the point X = xn/xd, Y = yn/yd
abbrev pub point : ℤ → ℤ → ℤ → ℤ → Point
point xn xd yn yd = record { xn = xn; xd = xd; yn = yn; yd = yd }

-- 0 1, 1/10 11/10, 1/7 3/2, 3/11 2, -2/13 5/4, 5/17 7/5, -7/19 9/5, 11/23 13/5
abbrev pub standard_points : List Point
standard_points =
    point (pos 0) (pos 1) (pos 1) (pos 1) ∷ point (pos 1) (pos 10) (pos 11) (pos 10) ∷ point (pos 1) (pos 7) (pos 3) (pos 2)
    ∷ point (pos 3) (pos 11) (pos 2) (pos 1) ∷ point (neg_ℤ (pos 2)) (pos 13) (pos 5) (pos 4) ∷ point (pos 5) (pos 17) (pos 7) (pos 5)
    ∷ point (neg_ℤ (pos 7)) (pos 19) (pos 9) (pos 5) ∷ point (pos 11) (pos 23) (pos 13) (pos 5) ∷ []
