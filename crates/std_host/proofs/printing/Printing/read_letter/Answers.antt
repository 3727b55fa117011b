use Rattle.std.proofs.Common.{◌≡◌, rules}
use Rattle.std_host.specs.declared.begun.Begun.TheVariants.{Percent}
use Rattle.std_host.proofs.PrintingLemmas.{read_percent}
use Rattle.std_host.proofs.printing.Printing.read_letter.Goals as goal

pub returns-in_ok-push-in-37 : goal.returns-in_ok-push-in-37
returns-in_ok-push-in-37 c =
    let behind : c.self.inside.begun ≡ Percent = rw (← c.self.view_is) at c.requires in
    rw (← c.self.view_is) (read_percent c.self.inside.text.items c.push.new.self.items c.self.inside.args.now c.self.inside.begun c.args.letter behind (search rules) (search rules))
