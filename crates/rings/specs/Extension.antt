-- For proofs alone, no contract cites it: the numbers a + b·√D over a commutative ring, as pairs (a, b).
use Rattle.std.specs.Prelude.{pos}
use Rattle.rings.specs.Ring.{Ops}

-- (a, b)·(c, d) = (ac + D·bd, ad + bc), and the rest by components
abbrev pub extended : {R : Type 0} → Ops R → R → Ops (R × R)
extended O D = record {
  add = λ x y. (O.add x.0 y.0, O.add x.1 y.1);
  sub = λ x y. (O.sub x.0 y.0, O.sub x.1 y.1);
  mul = λ x y. (O.add (O.mul x.0 y.0) (O.mul D (O.mul x.1 y.1)), O.add (O.mul x.0 y.1) (O.mul x.1 y.0));
  neg = λ x. (O.neg x.0, O.neg x.1);
  int = λ n. (O.int n, O.int (pos 0));
}

-- the norm a² - D·b²
abbrev pub norm : {R : Type 0} → Ops R → R → R × R → R
norm O D x = O.sub (O.mul x.0 x.0) (O.mul D (O.mul x.1 x.1))
