use Rattle.std.proofs.Common.{◌≡◌, ◌+◌, ◌++◌, length, map, drop}
use Rattle.emit_rules.specs.Jumps.{goes_to}
use Rattle.emit_texts.specs.Scopes.{jumps_of}
use Rattle.emit_texts.specs.Texts.{text_view}
use Rattle.emit_texts.proofs.nests.put_ways.Given as goal

abbrev pub invariant-loop-target : goal.invariant-loop-target
invariant-loop-target l = record {
  texts : map text_view l.texts ++ map (goes_to (jumps_of l.scopes)) (drop l.target-index l.targets) ≡ map text_view l.initial.texts ++ map (goes_to (jumps_of l.scopes)) l.targets;
  count : length l.texts ≡ length l.initial.texts + l.target-index;
}
