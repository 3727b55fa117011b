use Rattle.std.proofs.Common.{◌++◌, List, ℕ, flat_map, map, option_map, ap, sym, ◌∙◌}
use Rattle.std.proofs.lemmas.List.{length-map}
use Rattle.cx_core.specs.Views.{view_function}
use Rattle.rs_tree.specs.Views.{local_view, ty_view}
use Rattle.rs_tree.specs.declared.ty.RTy.{RTy}
use Rattle.whole_functions.proofs.Listed.{tree_is}
use Rattle.whole_functions.specs.Bodies.{view_body}
use Rattle.whole_functions.specs.Locals.{local_with}
use Rattle.whole_given.specs.Whole.{named}
use Rattle.whole_items.specs.Items.{dispatch_local}
use Rattle.whole_locals.specs.Names.{view_local}
use Rattle.whole_names.specs.FunctionNames.{local_names}
use Rattle.whole_functions.proofs.functions.function_item.Goals as goal

pub returns : goal.returns
returns c =
    let whole = named c.args.whole.now in
    let fun = view_function c.args.fun.now in
    let keys = map view_local c.args.keys.now in
    tree_is whole fun (view_body c.args.body) keys c.in_ok-attribute.attribute c.in_ok-name.name (map local_view c.in_ok-params.params) (map local_view c.in_ok-locals.locals)
    (option_map ty_view c.in_ok-result.result) c.in_ok-name.ensures c.in_ok-attribute.ensures
    (c.requires.keys ∙ ap (λ (n : ℕ). local_names whole.program fun n) (sym (length-map c.args.body.temporaries ty_view)))
    c.in_ok-params.ensures c.in_ok-result.ensures
    (c.in_ok-locals.ensures ∙ ap (λ (types : List RTy). flat_map (local_with whole fun (map ty_view types)) keys ++ dispatch_local c.args.body.has_dispatch) c.as_slice.ensures)
