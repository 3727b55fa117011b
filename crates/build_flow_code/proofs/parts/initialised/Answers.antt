use Rattle.std.proofs.Common.{◌≡◌, ◌∙◌, ap, sym, subst, IfOk, List, map, option_map}
use Rattle.std.specs.Prelude.{option_copied}
use Rattle.build_flow_code.proofs.parts.initialised.Goals as goal
use Rattle.build_flow_code.specs.Bodies.{body_of, type_of_found}
use Rattle.build_flow_code.specs.Parts as text
use Rattle.cx_core.specs.Trees.{CTy}
use Rattle.cx_core.specs.Views.{puts_of, view_object, view_put}
use Rattle.rs_text.specs.Tree.{Stmt}
use Rattle.rs_tree.specs.Views.{stmt_view}

-- src/parts.rt:245:1
pub returns-in-Some : goal.returns-in-Some
unfolding body_of
returns-in-Some c =
    subst (λ (ss : List Stmt). IfOk c.declared_as.result (λ made. map stmt_view made ≡ ss))
    (ap (λ (type : CTy). text.declared_as (body_of c.args.of.now) type c.args.number (puts_of (map view_put c.args.puts.now)) c.args.next)
    (sym (ap type_of_found (sym c.object_numbered.ensures ∙ ap (λ found. option_map view_object (option_copied found)) c.in-Some.is)))) c.declared_as.ensures
