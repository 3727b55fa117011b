use Rattle.std.proofs.Common.{◌≡◌, false, rules}
use Rattle.rs_text.specs.Names.{is_among}
use Rattle.rs_items_modules.proofs.Firsts.{suffixed_first}
use Rattle.rs_items_modules.proofs.modules.first_suffixed.Goals as goal

pub returns-then-not-is_taken : goal.returns-then-not-is_taken
returns-then-not-is_taken c =
    let free : is_among c.args.taken.now c.in_ok-name.name.items ≡ false = search rules in
    suffixed_first c.args.taken.now c.args.word.now c.in_ok-name.name.items c.loop-number.number c.loop-number.invariant c.in_ok-name.ensures free
