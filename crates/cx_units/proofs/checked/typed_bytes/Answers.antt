use Rattle.std.proofs.Common.{◌<◌, arith}
use Rattle.std.proofs.lemmas.List.Elements.{All-from_get_or}
use Rattle.cx_units.proofs.Steps.{whenever}
use Rattle.cx_units.proofs.checked.typed_bytes.Goals as goal

pub returns-clause-got : goal.returns-clause-got
returns-clause-got c =
    whenever _ c.typed.result (All-from_get_or (λ byte. byte < 256) c.args.bytes.now 0 (λ i within. omega (arith, c.type_inv.bytes i)))
