use Rattle.std.proofs.Common.{map}
use Rattle.whole_keys.specs.Views.{view_call}
use Rattle.whole_keys.proofs.Behinds.{calls_made}
use Rattle.whole_keys.proofs.body_calls.calls_of.Goals as goal

pub returns : goal.returns
returns c =
    calls_made c.args.parts.now c.args.unit c.as_slice.result.now c.as_slice-2.result.now c.new-calls.result (map view_call c.objects_behind.new.calls) (map view_call c.functions_behind.new.calls)
    c.as_slice.ensures c.as_slice-2.ensures c.new-calls.ensures c.in_ok-objects_behind.ensures c.in_ok-functions_behind.ensures
