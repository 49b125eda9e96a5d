use Rattle.quad_field.proofs.KIntegers.{quad_ring}
use Rattle.quad_field.proofs.laws.commutative_ring.Goals as goal

pub returns : goal.returns
returns c = record {
  add_assoc = λ d. (quad_ring d).add_assoc;
  add_comm = λ d. (quad_ring d).add_comm;
  zero_add = λ d. (quad_ring d).zero-add;
  add_neg = λ d. (quad_ring d).add-neg;
  sub_is = λ d. (quad_ring d).sub_is;
  mul_assoc = λ d. (quad_ring d).mul_assoc;
  mul_comm = λ d. (quad_ring d).mul_comm;
  one_mul = λ d. (quad_ring d).one-mul;
  add_mul = λ d. (quad_ring d).add-mul;
  int_add = λ d. (quad_ring d).int-add;
  int_mul = λ d. (quad_ring d).int-mul;
}
