use Rattle.std.proofs.Common.{◌≡◌, None, Some, ap, sym, ◌∙◌}
use Rattle.std.specs.Option.{option_copied}
use Rattle.cx_core.specs.Views.{view_object}
use Rattle.whole_keys.proofs.Found.{none_there, one_there}
use Rattle.whole_keys.specs.Places.{has_object, placed}
use Rattle.whole_keys.proofs.places.Places.object.Goals as goal

pub returns-in-None : goal.returns-in-None
returns-in-None c =
    let is : placed c.args.self.now.objects c.args.number ≡ None = sym c.get.ensures.value ∙ ap option_copied c.in-None.is in
    none_there view_object (has_object c.args.number) c.args.parts.now.objects (placed c.args.self.now.objects c.args.number) (c.requires.of_objects c.args.number) is

pub returns-in-Some : goal.returns-in-Some
returns-in-Some c =
    let is : placed c.args.self.now.objects c.args.number ≡ Some c.in-Some.place.now = sym c.get.ensures.value ∙ ap option_copied c.in-Some.is in
    one_there view_object (has_object c.args.number) c.args.parts.now.objects (placed c.args.self.now.objects c.args.number) c.in-Some.place.now c.get-in-Some.result
    (c.requires.of_objects c.args.number) is c.get-in-Some.ensures.value
