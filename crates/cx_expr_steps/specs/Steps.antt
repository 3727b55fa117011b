-- The steps of the walk that stops at the first broken node, each a node with what its children mean.
use Rattle.std.specs.Prelude.{ℕ, ℤ, Bool, List, Option}
use Rattle.cx_core.specs.declared.expr.Op2.{Op2}
use Rattle.cx_core.specs.Trees.{CTy, type_of}
use Rattle.cx_lex.specs.declared.token.Ty0.{Ty0}
use Rattle.cx_rules.specs.Initial.{text_type}
use Rattle.cx_rules.specs.Meanings.{size_meaning}
use Rattle.cx_rules.specs.Nodes.{literal_node, sizeof_expr_node}
use Rattle.cx_rules.specs.Operands.{COperand}
use Rattle.cx_rules.specs.Pieces.{CUnary, CBinary, at_line, with_text, text_meaning}
use Rattle.cx_rules.specs.Readings.{Check, check_gives, check_chain, check_here, check_becomes, check_look}
use Rattle.cx_rules.specs.Scope.{CScope}
use Rattle.cx_scope.specs.Changes.{cut_back}
use Rattle.cx_rules.specs.Walk as walk

abbrev pub name_seen : List ℕ → ℕ → Check COperand
name_seen = walk.name_seen Check check_gives check_chain check_here check_becomes check_look

abbrev pub number_seen : ℕ → Ty0 → ℕ → Check COperand
number_seen = walk.number_seen Check check_gives check_chain check_here check_becomes check_look

abbrev pub letter_seen : ℤ → ℕ → Check COperand
letter_seen = walk.letter_seen Check check_gives check_chain check_here check_becomes check_look

abbrev pub text_seen : List (List ℕ) → ℕ → Check COperand
text_seen = walk.text_seen Check check_gives check_chain check_here check_becomes check_look

abbrev pub index_seen : ℕ → COperand → COperand → Check COperand
index_seen = walk.index_seen Check check_gives check_chain check_here check_becomes check_look

abbrev pub call_seen : ℕ → Bool → ℕ → COperand → List COperand → Check COperand
call_seen = walk.call_seen Check check_gives check_chain check_here check_becomes check_look

abbrev pub dot_seen : ℕ → COperand → List ℕ → Check COperand
dot_seen = walk.dot_seen Check check_gives check_chain check_here check_becomes check_look

abbrev pub arrow_seen : ℕ → COperand → List ℕ → Check COperand
arrow_seen = walk.arrow_seen Check check_gives check_chain check_here check_becomes check_look

abbrev pub step_seen : ℕ → Bool → Bool → COperand → Check COperand
step_seen = walk.step_seen Check check_gives check_chain check_here check_becomes check_look

abbrev pub unary_seen : ℕ → CUnary → COperand → Check COperand
unary_seen = walk.unary_seen Check check_gives check_chain check_here check_becomes check_look

abbrev pub sizeof_seen : ℕ → CScope → COperand → Check COperand
sizeof_seen = walk.sizeof_seen Check check_gives check_chain check_here check_becomes check_look

abbrev pub sizeof_type_seen : ℕ → CTy → Check COperand
sizeof_type_seen = walk.sizeof_type_seen Check check_gives check_chain check_here check_becomes check_look

abbrev pub cast_seen : ℕ → CTy → COperand → Check COperand
cast_seen = walk.cast_seen Check check_gives check_chain check_here check_becomes check_look

abbrev pub binary_seen : ℕ → CBinary → COperand → COperand → Check COperand
binary_seen = walk.binary_seen Check check_gives check_chain check_here check_becomes check_look

abbrev pub cond_seen : ℕ → COperand → COperand → COperand → Check COperand
cond_seen = walk.cond_seen Check check_gives check_chain check_here check_becomes check_look

abbrev pub assign_seen : ℕ → Option Op2 → COperand → COperand → Check COperand
assign_seen = walk.assign_seen Check check_gives check_chain check_here check_becomes check_look

abbrev pub comma_seen : ℕ → COperand → COperand → Check COperand
comma_seen = walk.comma_seen Check check_gives check_chain check_here check_becomes check_look

-- ---- steps whose earlier scope is known by what the code keeps of it

-- the operand of `sizeof`, before which there were so many literals and mentions
abbrev pub sized : ℕ → (literals mentions : ℕ) → COperand → Check COperand
sized line literals mentions of = check_chain _ _ check_here (λ scope.
    walk.changed Check check_gives check_chain check_here check_becomes check_look scope line (sizeof_expr_node of) (cut_back literals mentions scope)
    (size_meaning (at_line scope line) scope.types (type_of of.core)))

-- a string literal of these bytes
abbrev pub bytes_seen : List ℕ → ℕ → Check COperand
bytes_seen bytes line = check_chain _ _ check_here (λ scope.
    walk.changed Check check_gives check_chain check_here check_becomes check_look scope line (literal_node (text_type bytes)) (with_text line bytes scope) (text_meaning scope line bytes))
