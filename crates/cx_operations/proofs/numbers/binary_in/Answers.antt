use Rattle.std.proofs.Common.{rules, ◌≡◌, Ok, subst, sym}
use Rattle.cx_access.specs.Finds.{Finds}
use Rattle.cx_numbers.specs.Numbers.{number_of_binary, number_of_truth}
use Rattle.cx_operations.proofs.numbers.binary_in.Goals as goal

pub returns-in-Some : goal.returns-in-Some
returns-in-Some c =
    let told = c.in-Some.ensures c.args.kind in
    let same : number_of_binary c.args.op c.args.kind c.args.left c.args.right ≡ Ok (number_of_truth c.in-Some.holds) = search (rules, told) in
    subst (λ found. Finds (λ one. one) c.truth.result found) (sym same) c.truth.ensures
