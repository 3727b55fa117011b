use Rattle.std.proofs.Common.{◌≡◌, ◌++◌, drop, filter}
use Rattle.build_flow_nodes.specs.Parts.{is_copied}
use Rattle.whole_temporaries.specs.Types.{names_of, type_among}
use Rattle.whole_temporaries.proofs.zeroed.push_copied.Given as goal

abbrev pub invariant-loop-number : goal.invariant-loop-number
invariant-loop-number l =
    l.zeroed ++ filter (λ number. is_copied (names_of l.of.names.now) (type_among l.of.objects.now number)) (drop l.number-index l.numbers)
    ≡ l.fn.zeroed ++ filter (λ number. is_copied (names_of l.of.names.now) (type_among l.of.objects.now number)) l.numbers
