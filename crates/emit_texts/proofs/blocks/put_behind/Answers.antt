use Rattle.emit_texts.proofs.Chains.{put_more}
use Rattle.emit_texts.proofs.blocks.put_behind.Goals as goal

pub returns : goal.returns
returns c = put_more c.append.result c.args.made.now c.append.new.self c.in_ok-text.text _ c.append.ensures.ok c.in_ok-text.ensures
