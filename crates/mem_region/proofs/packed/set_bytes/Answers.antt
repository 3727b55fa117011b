use Rattle.std.proofs.Common.{◌-◌, ◌+◌, map, ◌≡◌, length, replicate, refl, ◌∙◌, arith, rules, ap}
use Rattle.std.proofs.lemmas.List.{length-replicate}
use Rattle.mem_bytes.specs.Memory.{byte_cell}
use Rattle.mem_region.specs.Packed.{cell_of}
use Rattle.mem_region.proofs.Written.{written, replicated, length-part}
use Rattle.mem_region.proofs.packed.set_bytes.Goals as goal

pub returns : goal.returns
returns c =
    let held = c.args.held.now in
    let start = c.args.start in
    let count = c.args.count in
    let many : length (replicate count (byte_cell c.args.byte)) ≡ count = length-replicate count (byte_cell c.args.byte) in
    let filled : map cell_of c.fill.new.self ≡ replicate count (byte_cell c.args.byte) = replicated count c.of-cell.result (byte_cell c.args.byte) c.fill.new.self c.of-cell.ensures (c.fill.ensures.after (search rules) ∙ ap (λ n. replicate n c.of-cell.result) (length-part held.items c.as_mut_slice.result.now start count c.as_mut_slice.ensures.value c.requires)) in
    record {
      cells = written held.items c.as_mut_slice.result.now c.fill.new.self (replicate count (byte_cell c.args.byte)) held.len start (length (replicate count (byte_cell c.args.byte))) (start + count - start) c.as_mut_slice.ensures.value held.ok.0 filled refl (omega arith) (omega arith);
      room = search rules;
    }
