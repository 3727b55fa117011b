use Rattle.std.proofs.Common.{◌≡◌, ◌==◌, false, arith, rules}
use Rattle.std.proofs.lemmas.Bool.Decides.{nat_tests}
use Rattle.std_host.specs.declared.begun.Begun.TheVariants.{Nothing}
use Rattle.std_host.proofs.PrintingLemmas.{read_byte}
use Rattle.std_host.proofs.printing.Printing.read_plain.Goals as goal

pub returns-in_ok-push : goal.returns-in_ok-push
returns-in_ok-push c =
    let none : c.self.inside.begun ≡ Nothing = rw (← c.self.view_is) at c.requires in
    let other : (c.args.byte == 37) ≡ false = grind (arith, nat_tests) in
    rw (← c.self.view_is) (read_byte c.self.inside.text.items c.push.new.self.items c.self.inside.args.now c.self.inside.begun c.args.byte none other (search rules))
