use Rattle.std.proofs.Common.{refl, arith}
use Rattle.cx_parse.proofs.Parsed.{read_derives, read_only, none_derived}
use Rattle.cx_tree.specs.Views.{unit_view}
use Rattle.cx_parse.proofs.parser.parse.Goals as goal

pub returns-in-Ok-clause-found : goal.returns-in-Ok-clause-found
returns-in-Ok-clause-found c = read_derives _ _ c.args.tokens.now (unit_view c.in-Ok.read) c.read_unit.new.cursor c.new-cursor.ensures c.in-Ok.ensures (omega arith)

pub returns-in-Ok-clause-only : goal.returns-in-Ok-clause-only
returns-in-Ok-clause-only c = read_only _ _ c.args.tokens.now (unit_view c.in-Ok.read) c.read_unit.new.cursor c.new-cursor.ensures c.in-Ok.ensures (omega arith)

pub returns-in-Err-NoTree-clause-refused : goal.returns-in-Err-NoTree-clause-refused
returns-in-Err-NoTree-clause-refused c = (refl, refl, none_derived _ _ c.args.tokens.now c.new-cursor.ensures (c.in-Err-NoTree.ensures (λ e. cc)) (omega arith))

pub returns-in-Err-NoTree-clause-only : goal.returns-in-Err-NoTree-clause-only
returns-in-Err-NoTree-clause-only c = none_derived _ _ c.args.tokens.now c.new-cursor.ensures (c.in-Err-NoTree.ensures (λ e. cc)) (omega arith)
