use Rattle.std.proofs.Common.{◌≡◌, suc, ◌+◌, ◌-◌, ◌++◌, map}
use Rattle.lift_forms.specs.BitFields.{more_bytes, more_writes}
use Rattle.rs_text.specs.Tree as tree
use Rattle.rs_text.specs.declared.integer.IntegerTy.TheVariants.{U64}
use Rattle.rs_tree.specs.Views.{expr_view, stmt_view}
use Rattle.lift_forms_bits.proofs.writes.more_writes.Given as goal

-- what is written and what is left to write are all, and so are their bits
abbrev pub invariant-loop-behind : goal.invariant-loop-behind
invariant-loop-behind l = record {
  all :
      map stmt_view l.made ++ more_writes (expr_view l.base) (tree.Cast (expr_view l.value) (tree.Integer U64)) (suc (l.spot.byte + l.behind)) l.from l.left (more_bytes l.spot - l.behind)
      ≡ map stmt_view l.initial.made ++ more_writes (expr_view l.base) (tree.Cast (expr_view l.value) (tree.Integer U64)) (suc l.spot.byte) l.first (l.spot.width - l.first) (more_bytes l.spot);
  bits : l.from + l.left ≡ l.spot.width;
}
