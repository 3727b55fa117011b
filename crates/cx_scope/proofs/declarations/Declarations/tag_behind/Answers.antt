use Rattle.std.proofs.Common.{rules, arith, ap, sym, ◌∙◌, false, slice_get}
use Rattle.std.specs.Option.{option_copied}
use Rattle.cx_scope.proofs.Found.{tag_nowhere, tag_outside, tag_inside, stands}
use Rattle.cx_scope.specs.Names.{declares}
use Rattle.cx_scope.proofs.declarations.Declarations.tag_behind.Goals as goal

pub returns-in_default : goal.returns-in_default
returns-in_default c = sym (tag_nowhere c.args.name.now c.args.self.now c.args.count (sym c.tag_place.ensures ∙ c.in_default.is))

pub returns-then-place-count : goal.returns-then-place-count
returns-then-place-count c =
    sym (tag_outside c.args.name.now c.args.self.now c.args.count c.in-Some.place (sym c.tag_place.ensures ∙ c.in-Some.is) (omega arith))

pub returns-in-Some-get : goal.returns-in-Some-get
returns-in-Some-get c =
    c.tag_of.ensures ∙ sym (tag_inside c.args.name.now c.args.self.now c.args.count c.in-Some.place c.in-Some-get.one.now (sym c.tag_place.ensures ∙ c.in-Some.is) (omega arith)
    (ap (λ list. slice_get list c.in-Some.place) (sym c.self.view_is) ∙ sym c.get.ensures.value ∙ ap option_copied c.in-Some-get.is))

pub returns-in-None : goal.returns-in-None
returns-in-None c =
    stands (declares false c.args.name.now) c.args.self.now c.in-Some.place (sym c.tag_place.ensures ∙ c.in-Some.is)
    (ap (λ list. slice_get list c.in-Some.place) (sym c.self.view_is) ∙ sym c.get.ensures.value ∙ ap option_copied c.in-None.is)
