use Rattle.std.proofs.Common.{◌≡◌, ◌&&◌, sym, ◌∙◌, ap}
use Rattle.straight_items.specs.declared.scope.NameScope.TheVariants.{Module}
use Rattle.straight_items.specs.Modules.{is_name}
use Rattle.straight_items.specs.Names.{keeps_name}
use Rattle.straight_items.proofs.ModuleLaws.{named_same, named_only}
use Rattle.straight_items.proofs.modules.is_plain.Goals as goal

pub returns : goal.returns
returns c =
    let stem = c.args.stem.now in
    let is : c.is_free.result ≡ (is_name stem && keeps_name Module stem) =
    c.is_free.ensures ∙ ap (λ s. is_name s && keeps_name Module s) c.as_bytes.ensures.value in
    (λ t. named_same stem (sym is ∙ t), λ e. is ∙ named_only stem e)
