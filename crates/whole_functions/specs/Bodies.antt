-- What bodies give to their functions.
use Rattle.std.specs.Prelude.{map}
use Rattle.rs_text.specs.Tree.{stmts}
use Rattle.rs_tree.specs.Views.{stmt_view, ty_view}
use Rattle.whole_functions.specs.declared.functions.WrittenBody.{WrittenBody}
use Rattle.whole_items.specs.Items as items

abbrev pub view_body : WrittenBody → items.WrittenBody
view_body body = record { temporaries = map ty_view body.temporaries; has_dispatch = body.has_dispatch; statements = stmts (map stmt_view body.statements) }
