use Rattle.std.proofs.Common.{[]}
use Rattle.shelf.specs.declared.file.Got.{Got}
use Rattle.front.proofs.SourceLaws.{got_next, got_failed, on_failed}
use Rattle.front.proofs.sources.got_all.Goals as goal

pub returns-in-Err-Failed : goal.returns-in-Err-Failed
returns-in-Err-Failed g c =
    got_failed c.args.names.now c.loop-name.sources c.loop-name.name-index (record { ref_ptr = (0, 0); now = [] }) _ _ _ c.loop-name-test.true c.loop-name.invariant
    c.get.ensures.kept (on_failed Got _ c.in-Err-Failed.field-0 c.in-Err-Failed.field-0-is c.in-Err-Failed.ensures.cause.rose)
    (on_failed Got _ c.in-Err-Failed.field-0 c.in-Err-Failed.field-0-is c.in-Err-Failed.ensures.cause.named)

pub loop-name-preserved : goal.loop-name-preserved
loop-name-preserved g c =
    got_next c.args.names.now c.loop-name.sources c.push.new.self c.loop-name.name-index (record { ref_ptr = (0, 0); now = [] }) c.source_of.result c.in-Ok.got _ _ _ c.loop-name-test.true
    c.loop-name.invariant c.in-Ok.ensures.bytes c.get.ensures.kept c.get.ensures.cause.later c.in-Ok.ensures.cause.kept c.source_of.ensures c.in_ok-push-in-Ok.ensures.ok
