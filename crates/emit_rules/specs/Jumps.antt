-- How control goes to a node in the text that is written: the text's end comes to it, or a label is left or begun anew.
use Rattle.std.specs.Prelude.{ℕ, ◌^◌, nat_lt, replicate, Bool, true, false, pos, List, ◌++◌, Option, Some, None, codes, if◌then◌else◌}
use Rattle.std.specs.Fmt.{decimal}
use Rattle.rs_text.specs.declared.integer.IntegerTy.TheVariants.{U32}
use Rattle.rs_text.specs.Tree.{Place, Local, Literal, Stmt, Assign, Break, Continue, Stmts, no_stmts, more_stmts}
use Rattle.reloop.specs.Graphs.{is_in}
use Rattle.emit_rules.specs.Nests.{Nest, nest_entries, nest_is_told}

-- a number in decimal; one that no machine counts to has as many low lines, so that the names of different numbers differ
abbrev pub numeral : ℕ → List ℕ
numeral number = if nat_lt number (2 ^ 64) then decimal number else replicate number 95

-- the label of a number
abbrev pub label_of : ℕ → List ℕ
label_of number = codes "l" ++ numeral number

-- the local that says at which head a dispatch is entered
abbrev pub current_block : Place
current_block = Local (codes "current_block")

-- it says so from here on
abbrev pub tells : ℕ → Stmt
tells node = Assign current_block (Literal (pos node) U32)

-- a jump by a label: whether `current_block` has to say to which node, whether the label begins anew or is left, and the label's number
pub record Jump : Type 0 where
  pub is_told : Bool
  pub turns : Bool
  pub label : ℕ

-- the jump to each node, if there is one, and the nodes to which the text's end comes
pub record Jumps : Type 0 where
  pub jump : ℕ → Option Jump
  pub next : ℕ → Bool

abbrev pub no_jumps : Jumps
no_jumps = record { jump = λ node. None; next = λ node. false }

-- the node is told first
abbrev pub told : Bool → ℕ → Stmts → Stmts
told true node ss = more_stmts (tells node) ss
told false node ss = ss

abbrev pub by_label : Jump → Stmt
by_label jump = if jump.turns then Continue (label_of jump.label) else Break (label_of jump.label)

abbrev pub leaves : (is_next : Bool) → Jump → Stmts
leaves true jump = no_stmts
leaves false jump = more_stmts (by_label jump) no_stmts

abbrev pub jump_stmts : (is_next : Bool) → ℕ → Option Jump → Stmts
jump_stmts is_next node None = no_stmts
jump_stmts is_next node (Some jump) = told jump.is_told node (leaves is_next jump)

-- control goes to a node
abbrev pub goes_to : Jumps → ℕ → Stmts
goes_to jumps node = jump_stmts (jumps.next node) node (jumps.jump node)

-- jumps in the block of a label that ends in front of a nest
abbrev pub jumps_before : ℕ → Nest → Jumps → Jumps
jumps_before label second jumps = record {
  jump = λ node. if is_in node (nest_entries second) then Some (record { is_told = nest_is_told second; turns = false; label = label }) else jumps.jump node;
  next = λ node. is_in node (nest_entries second);
}

-- a loop is left by its own label for what its end comes to
abbrev pub by_own_label : ℕ → (is_next : Bool) → Option Jump → Option Jump
by_own_label label true (Some jump) = Some (record { is_told = jump.is_told; turns = false; label = label })
by_own_label label true None = None
by_own_label label false jump = jump

-- jumps in the body of a loop of a label with these heads
abbrev pub jumps_within : ℕ → (heads : List ℕ) → (is_told : Bool) → Jumps → Jumps
jumps_within label heads is_told jumps = record {
  jump = λ node. if is_in node heads then Some (record { is_told = is_told; turns = true; label = label }) else by_own_label label (jumps.next node) (jumps.jump node);
  next = λ node. is_in node heads;
}
