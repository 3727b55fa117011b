use Rattle.std.proofs.Common.{map, drop}
use Rattle.rs_text.specs.declared.integer.IntegerTy.TheVariants.{I8}
use Rattle.rs_text.specs.Lines.{behind_commas, literal_text}
use Rattle.rs_text.specs.Printing.{Appends, grown}
use Rattle.rs_tree.proofs.item_lines.put_literals.Given as goal

-- what is printed, and what is left to print, are all that is printed
abbrev pub invariant-loop-value : goal.invariant-loop-value
invariant-loop-value l = Appends l.initial.draft (grown l.draft (behind_commas (map (λ value. literal_text value I8) (drop l.value-index l.others)))) (behind_commas (map (λ value. literal_text value I8) l.others))
