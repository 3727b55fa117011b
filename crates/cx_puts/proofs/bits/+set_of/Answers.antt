use Rattle.std.proofs.Common.{◌≤◌, suc, length, arith}
use Rattle.cx_puts.proofs.Numbers.{bytes_fit}
use Rattle.cx_puts.proofs.bits.+set_of.Goals as goal

pub overflow_mul-result : goal.overflow_mul-result
overflow_mul-result t c =
    let few : suc (length c.in-Some.others.now) ≤ 8 = grind (arith, c.in-Some.ensures.cases) in
    omega (arith, bytes_fit (length c.in-Some.others.now) 0 c.set_of.result few (omega arith) c.set_of.ensures.small)

pub overflow_add-result : goal.overflow_add-result
overflow_add-result t c =
    let few : suc (length c.in-Some.others.now) ≤ 8 = grind (arith, c.in-Some.ensures.cases) in
    omega (arith, bytes_fit (length c.in-Some.others.now) c.from.result c.set_of.result few (omega arith) c.set_of.ensures.small)
