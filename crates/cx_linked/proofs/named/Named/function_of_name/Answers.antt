use Rattle.std.specs.Option.{option_copied}
use Rattle.cx_linked.specs.Named.{units_of}
use Rattle.cx_linked.proofs.FirstPlaces.{function_is}
use Rattle.cx_linked.proofs.named.Named.function_of_name.Goals as goal

pub returns : goal.returns
returns c = function_is c.args.self.now (units_of c.args.self.now) c.requires.known c.args.name.now (option_copied c.found_by.result) c.found_by.ensures
