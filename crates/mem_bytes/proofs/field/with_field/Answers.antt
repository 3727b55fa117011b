use Rattle.std.proofs.Common.{◌+◌, ◌^◌, arith}
use Rattle.std.proofs.Math.Nat.{div-mul-le_self, mod-le}
use Rattle.mem_bytes.proofs.Fields.{field_below}
use Rattle.mem_bytes.proofs.field.with_field.Goals as goal

pub overflow_add-result : goal.overflow_add-result
overflow_add-result c =
    let a = c.args in
    let place = c.requires.place in
    omega (arith, div-mul-le_self a.number (2 ^ (a.bit + a.width)), field_below a.bit a.width a.field place.bit_in_byte place.not_too_wide c.requires.field)

pub overflow_add-result-2 : goal.overflow_add-result-2
overflow_add-result-2 c =
    let a = c.args in
    let place = c.requires.place in
    omega (arith, mod-le, div-mul-le_self a.number (2 ^ (a.bit + a.width)), field_below a.bit a.width a.field place.bit_in_byte place.not_too_wide c.requires.field)
