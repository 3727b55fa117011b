use Rattle.std.proofs.Common.{◌≡◌, map, drop}
use Rattle.rs_mean.specs.Typing.{first_ill_from}
use Rattle.rs_tree.specs.Views.{module_view}
use Rattle.rs_types.proofs.checked.first_ill.Given as goal

-- what is left answers for all
abbrev pub invariant-loop-unit : goal.invariant-loop-unit
invariant-loop-unit l =
    first_ill_from (map module_view l.modules) l.unit (map module_view (drop l.unit l.modules)) ≡ first_ill_from (map module_view l.modules) 0 (map module_view l.modules)
