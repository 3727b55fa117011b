use Rattle.std.proofs.Common.{◌≡◌, ◌++◌, drop, map}
use Rattle.lift_exprs.specs.Names.{type_in}
use Rattle.rs_tree.specs.Views.{ty_view}
use Rattle.whole_temporaries.specs.Types.{names_of, type_among}
use Rattle.whole_temporaries.proofs.temporaries.push_types.Given as goal

abbrev pub invariant-loop-number : goal.invariant-loop-number
invariant-loop-number l =
    map ty_view l.types ++ map (λ number. type_in (names_of l.names) (type_among l.objects number)) (drop l.number-index l.numbers)
    ≡ map ty_view l.fn.types ++ map (λ number. type_in (names_of l.names) (type_among l.objects number)) l.numbers
