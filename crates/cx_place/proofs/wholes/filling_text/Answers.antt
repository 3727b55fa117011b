use Rattle.std.proofs.Common.{rules, ◌≡◌, ◌∷◌, [], List, Option, map, ap, ◌∙◌}
use Rattle.cr_base.specs.declared.rule.Rule.{Rule}
use Rattle.cx_init.specs.Views.{view_stored, view_target}
use Rattle.cx_kinds.specs.Known.{types_in}
use Rattle.cx_place.specs.Placing.{CWhole, text_rule}
use Rattle.cx_rules.specs.Initial.{CStored}
use Rattle.cx_rules.specs.Pieces.{text_stored_at, whole_at}
use Rattle.cx_place.proofs.wholes.filling_text.Goals as goal

pub returns : goal.returns
returns c =
    let whole : List CStored → List (Option Rule) → CWhole = λ stored broken. record { stored = stored; rules = broken } in
    let stored_is : map view_stored c.in_ok-stored.stored ≡ text_stored_at (types_in c.args.known) c.args.place (view_target c.args.target.now) c.args.bytes.now (whole_at (view_target c.args.target.now)) = search rules in
    let rules_are : c.in_ok-rules.rules ≡ text_rule c.args.bytes.now (whole_at (view_target c.args.target.now)) ∷ [] =
    c.in_ok-rules.ensures ∙ ap (λ rule. rule ∷ []) (c.text_rule.ensures ∙ ap (text_rule c.args.bytes.now) (search rules)) in
    ap (λ stored. whole stored c.in_ok-rules.rules) stored_is
    ∙ ap (whole (text_stored_at (types_in c.args.known) c.args.place (view_target c.args.target.now) c.args.bytes.now (whole_at (view_target c.args.target.now)))) rules_are
