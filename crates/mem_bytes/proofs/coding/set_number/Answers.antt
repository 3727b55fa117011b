use Rattle.std.proofs.Common.{◌+◌, ◌*◌, ◌^◌, ◌<◌, drop, ap, ◌∙◌, rules, arith}
use Rattle.mem_bytes.specs.Coding.{bits_of}
use Rattle.mem_bytes.specs.Memory.{unset_cell}
use Rattle.mem_bytes.proofs.Decoding.{read_more, placed, read_below, read_fits, read_sum}
use Rattle.mem_bytes.proofs.coding.set_number.Goals as goal

pub overflow_add-number : goal.overflow_add-number
overflow_add-number c =
    let index = c.loop-index.index in
    let number = c.loop-index.number in
    let few : index < 8 = omega arith in
    let small : c.from.result < 256 = search rules in
    rw (placed index c.from.result few small) (omega (arith, read_fits index number c.from.result few small c.loop-index.invariant.small))

pub loop-index-preserved : goal.loop-index-preserved
loop-index-preserved c =
    let index = c.loop-index.index in
    let number = c.loop-index.number in
    let kept = c.loop-index.invariant in
    let cells = c.args.cells.now in
    let few : index < 8 = omega arith in
    let small : c.from.result < 256 = search rules in
    let more = read_more cells index c.from.result unset_cell (search rules) (search rules) in
    rw (placed index c.from.result few small) record {
      tested = kept.tested ∙ more.0;
      bits = kept.bits ∙ ap (λ rest. number + 2 ^ (8 * index) * rest) more.1 ∙ read_sum index number c.from.result (bits_of (drop (index + 1) cells));
      small = read_below index number c.from.result small kept.small;
    }
