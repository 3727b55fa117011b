use Rattle.std.proofs.Common.{map}
use Rattle.rs_tree.specs.Views.{module_view}
use Rattle.rs_value.specs.Views.{typed_view}
use Rattle.rs_machine.proofs.Pieces.{then_does, stops_first}
use Rattle.rs_scene.specs.Scenes.{held_local}
use Rattle.rs_scene.proofs.Begun.{params_begin, locals_begin}
use Rattle.rs_scene.proofs.frames.begin_frame.Goals as goal

pub returns-in-Err : goal.returns-in-Err
returns-in-Err g c = λ kept host.
    stops_first _ (params_begin (map module_view c.args.modules.now) c.args.fun.now.params c.as_slice.result.now (map typed_view c.args.list.now) c.new-begun.result
    c.as_slice.ensures c.new-begun.ensures (c.in-Err.ensures kept host))

pub returns-in-Err-begin_locals : goal.returns-in-Err-begin_locals
returns-in-Err-begin_locals g c = λ kept host.
    then_does _ (params_begin (map module_view c.args.modules.now) c.args.fun.now.params c.as_slice.result.now (map typed_view c.args.list.now) c.new-begun.result
    c.as_slice.ensures c.new-begun.ensures (c.in_default.ensures kept host))
    (locals_begin (map module_view c.args.modules.now) c.args.fun.now.locals c.as_slice-2.result.now (map held_local c.begin_params.new.begun) c.as_slice-2.ensures (c.in-Err-begin_locals.ensures kept host))

pub returns : goal.returns
returns g c = λ kept host.
    then_does _ (params_begin (map module_view c.args.modules.now) c.args.fun.now.params c.as_slice.result.now (map typed_view c.args.list.now) c.new-begun.result
    c.as_slice.ensures c.new-begun.ensures (c.in_default.ensures kept host))
    (locals_begin (map module_view c.args.modules.now) c.args.fun.now.locals c.as_slice-2.result.now (map held_local c.begin_params.new.begun) c.as_slice-2.ensures (c.in_default-begin_locals.ensures kept host))
