use Rattle.std.proofs.Common.{List, ◌++◌, ◌∷◌, [], length, ap, subst, sym, ◌∙◌, arith}
use Rattle.std.proofs.lemmas.List.{length-append}
use Rattle.cx_core.specs.Views.{view_program}
use Rattle.whole_given.proofs.Units.{given_more}
use Rattle.whole_given.specs.Whole.{AreGiven}
use Rattle.whole_given.specs.declared.given.ModuleNames.{ModuleNames}
use Rattle.whole_given.proofs.whole.names_of_units.Goals as goal

pub loop-unit-preserved : goal.loop-unit-preserved
loop-unit-preserved c =
    let pushed = c.in_ok-push.ensures.ok in
    let count = c.loop-unit.invariant.count in
    record {
      given = subst (λ (given : List ModuleNames). AreGiven (view_program c.args.parts.now) given) (sym pushed)
          (given_more (view_program c.args.parts.now) c.loop-unit.unit c.loop-unit.given c.in_ok-names.names c.loop-unit.invariant.given count c.in_ok-names.ensures);
      count = ap (λ (given : List ModuleNames). length given) pushed ∙ (let longer = length-append c.loop-unit.given (c.in_ok-names.names ∷ []) in omega (arith, longer, count));
    }
