use Rattle.rs_items_sets.specs.Sets.{set_of}
use Rattle.rs_items_sets.proofs.Found.{suffixed_ok}
use Rattle.rs_items_sets.proofs.scopes.Scopes.first_free.Goals as goal

pub returns-in-None-clause-name : goal.returns-in-None-clause-name
returns-in-None-clause-name c = suffixed_ok (set_of c.args.self.now c.args.scope) c.args.scope c.args.name.now c.suffixed.result (rw c.in-None.is at c.in_ok-bytes.ensures) c.suffixed.ensures
