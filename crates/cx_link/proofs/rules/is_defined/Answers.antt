use Rattle.std.proofs.Common.{rules, ◌≡◌, map, ap, sym, ◌∙◌}
use Rattle.std.specs.Prelude.{is_some}
use Rattle.cx_core.specs.Views.{view_mention}
use Rattle.cx_link.specs.Chains.{indexed}
use Rattle.cx_links.specs.Rules.{defines_external, is_kind_of}
use Rattle.cx_link.proofs.Chains.{any_is_some}
use Rattle.cx_link.proofs.rules.is_defined.Goals as goal

pub returns : goal.returns
returns c =
    let last : c.last_of.result ≡ indexed c.args.chains.now.definitions.last c.args.one.now.name = search rules in
    let some : c.is_some.result ≡ is_some c.last_of.result = search rules in
    some ∙ ap is_some (last ∙ c.requires.definitions.last c.args.one.now.name)
    ∙ sym (any_is_some (is_kind_of defines_external c.args.one.now.name) (map view_mention c.args.all.now))
