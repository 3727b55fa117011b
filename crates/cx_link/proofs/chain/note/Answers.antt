use Rattle.std.proofs.Common.{rules, ◌≡◌, Some, true}
use Rattle.cx_core.specs.Views.{view_mention}
use Rattle.cx_link.specs.Chains.{indexed, kind_of}
use Rattle.cx_link.proofs.Chains.{noted, puts}
use Rattle.cx_link.proofs.chain.note.Goals as goal

pub returns-in_ok-insert : goal.returns-in_ok-insert
returns-in_ok-insert c = λ name.
    noted (kind_of c.args.kind) (view_mention c.args.one.now) name c.in_ok-key.key.items _ (indexed c.args.index.now name) (Some c.args.at)
    (search rules) (search rules) (puts c.args.index.now c.insert.new.self c.in_ok-key.key c.args.at c.in_ok-insert.ensures.updates name)
