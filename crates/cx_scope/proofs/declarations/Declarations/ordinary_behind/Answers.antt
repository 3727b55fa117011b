use Rattle.std.proofs.Common.{rules, arith, ap, sym, ◌∙◌, true, slice_get}
use Rattle.std.specs.Option.{option_copied}
use Rattle.cx_scope.proofs.Found.{ordinary_nowhere, ordinary_outside, ordinary_inside, stands}
use Rattle.cx_scope.specs.Names.{declares}
use Rattle.cx_scope.proofs.declarations.Declarations.ordinary_behind.Goals as goal

pub returns-in_default : goal.returns-in_default
returns-in_default c = sym (ordinary_nowhere c.args.name.now c.args.self.now c.args.count (sym c.place_of.ensures ∙ c.in_default.is))

pub returns-then-place-count : goal.returns-then-place-count
returns-then-place-count c =
    sym (ordinary_outside c.args.name.now c.args.self.now c.args.count c.in-Some.place (sym c.place_of.ensures ∙ c.in-Some.is) (omega arith))

pub returns-in-Some-get : goal.returns-in-Some-get
returns-in-Some-get c =
    sym (ordinary_inside c.args.name.now c.args.self.now c.args.count c.in-Some.place c.in-Some-get.one.now (sym c.place_of.ensures ∙ c.in-Some.is) (omega arith)
    (ap (λ list. slice_get list c.in-Some.place) (sym c.self.view_is) ∙ sym c.get.ensures.value ∙ ap option_copied c.in-Some-get.is))

pub returns-in-None : goal.returns-in-None
returns-in-None c =
    stands (declares true c.args.name.now) c.args.self.now c.in-Some.place (sym c.place_of.ensures ∙ c.in-Some.is)
    (ap (λ list. slice_get list c.in-Some.place) (sym c.self.view_is) ∙ sym c.get.ensures.value ∙ ap option_copied c.in-None.is)
