use Rattle.std.proofs.Common.{◌≡◌, None, Some, Option, Bor, ap, sym, ◌∙◌, map, option_map, slice_get}
use Rattle.std.proofs.lemmas.Option.{slice_get-map}
use Rattle.std.specs.Option.{option_copied}
use Rattle.cx_rules.specs.Scope.{CThing}
use Rattle.cx_scope.specs.Places.{get_found}
use Rattle.cx_scope.specs.Views.{view_thing}
use Rattle.cx_scope.specs.declared.thing.Thing.{Thing}
use Rattle.cx_unit_ends.proofs.Numbering.{found_thing, viewed}
use Rattle.cx_unit_ends.specs.Numbered.{placed}
use Rattle.cx_unit_ends.proofs.objects.object_thing.Goals as goal

pub returns-in-None : goal.returns-in-None
returns-in-None c =
    let is : placed c.args.places.now c.args.number ≡ None = sym c.get.ensures.value ∙ ap option_copied c.in-None.is in
    sym (found_thing c.args.number c.args.things.now (placed c.args.places.now c.args.number) (c.requires c.args.number)
    ∙ ap (λ found. get_found found (map view_thing c.args.things.now)) is)

pub returns-in-Some : goal.returns-in-Some
returns-in-Some c =
    let is : placed c.args.places.now c.args.number ≡ Some c.in-Some.place.now = sym c.get.ensures.value ∙ ap option_copied c.in-Some.is in
    viewed c.get-in-Some.result ∙ ap (option_map view_thing) c.get-in-Some.ensures.value ∙ sym (slice_get-map view_thing c.args.things.now c.in-Some.place.now)
    ∙ sym (found_thing c.args.number c.args.things.now (placed c.args.places.now c.args.number) (c.requires c.args.number)
    ∙ ap (λ found. get_found found (map view_thing c.args.things.now)) is)
