use Rattle.std.proofs.Common.{◌≡◌, None, Some, ap, sym, ◌∙◌}
use Rattle.std.specs.Option.{option_copied}
use Rattle.cx_core.specs.Views.{view_function}
use Rattle.whole_keys.proofs.Found.{none_there, one_there}
use Rattle.whole_keys.specs.Places.{has_function, placed}
use Rattle.whole_keys.proofs.places.Places.function.Goals as goal

pub returns-in-None : goal.returns-in-None
returns-in-None c =
    let is : placed c.args.self.now.functions c.args.number ≡ None = sym c.get.ensures.value ∙ ap option_copied c.in-None.is in
    none_there view_function (has_function c.args.number) c.args.parts.now.functions (placed c.args.self.now.functions c.args.number) (c.requires.of_functions c.args.number) is

pub returns-in-Some : goal.returns-in-Some
returns-in-Some c =
    let is : placed c.args.self.now.functions c.args.number ≡ Some c.in-Some.place.now = sym c.get.ensures.value ∙ ap option_copied c.in-Some.is in
    one_there view_function (has_function c.args.number) c.args.parts.now.functions (placed c.args.self.now.functions c.args.number) c.in-Some.place.now c.get-in-Some.result
    (c.requires.of_functions c.args.number) is c.get-in-Some.ensures.value
