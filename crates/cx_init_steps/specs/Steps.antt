-- The steps of the walk that stops at the first broken node, each a part of an initialiser with what its children mean.
use Rattle.std.specs.Prelude.{ℕ, Bool, List, Option, None}
use Rattle.cx_core.specs.Trees.{CTy}
use Rattle.cx_rules.specs.Initial.{CAt, CStored}
use Rattle.cx_rules.specs.Nodes.{given_node, literal_node}
use Rattle.cx_rules.specs.Operands.{COperand}
use Rattle.cx_rules.specs.Pieces.{CFilling, CTarget, at_line, filled_object, CFilled, literal_made, literal_meaning, value_facts, value_stored}
use Rattle.cx_rules.specs.Readings.{Check, check_gives, check_chain, check_here, check_becomes, check_look}
use Rattle.cx_rules.specs.Scope.{CScope, with_made_at}
use Rattle.cx_rules.specs.Walk as walk
use Rattle.cx_tree.specs.Trees.{EntryTrees}

abbrev pub value_given_at : ℕ → CTarget → CFilling → COperand → CScope → Option CAt → Check CFilling
value_given_at = walk.value_given_at Check check_gives check_chain check_here check_becomes check_look

abbrev pub value_given : ℕ → CTarget → Option CAt → CFilling → COperand → Check CFilling
value_given = walk.value_given Check check_gives check_chain check_here check_becomes check_look

abbrev pub text_given_at : ℕ → CTarget → CFilling → List ℕ → CScope → Option CAt → Check CFilling
text_given_at = walk.text_given_at Check check_gives check_chain check_here check_becomes check_look

abbrev pub text_given : ℕ → CTarget → Option CAt → CFilling → List (List ℕ) → Check CFilling
text_given = walk.text_given Check check_gives check_chain check_here check_becomes check_look

-- a string literal that is a value like another
abbrev pub text_as_value : ℕ → CTarget → Option CAt → CFilling → List (List ℕ) → Check CFilling
text_as_value line target at filling parts =
    check_chain _ _ (walk.text_seen Check check_gives check_chain check_here check_becomes check_look parts line) (λ value. value_given line target at filling value)

abbrev pub whole_value : ℕ → CTarget → COperand → CScope → Check CFilling
whole_value = walk.whole_value Check check_gives check_chain check_here check_becomes check_look

-- the same, where the whole object is this part
abbrev pub whole_value_at : ℕ → CTarget → COperand → Option CAt → CScope → Check CFilling
whole_value_at line target value at scope =
    walk.settled Check check_gives check_chain check_here check_becomes check_look scope line (given_node (value_facts scope target value at))
    (record { stored = value_stored scope.types target value at; next = None })

abbrev pub whole_given : ℕ → CTarget → COperand → Check CFilling
whole_given = walk.whole_given Check check_gives check_chain check_here check_becomes check_look

abbrev pub whole_text_at : ℕ → CTarget → List ℕ → CScope → Option CAt → Check CFilling
whole_text_at = walk.whole_text_at Check check_gives check_chain check_here check_becomes check_look

abbrev pub whole_text : ℕ → CTarget → List (List ℕ) → Check CFilling
whole_text = walk.whole_text Check check_gives check_chain check_here check_becomes check_look

abbrev pub whole_text_as_value : ℕ → CTarget → List (List ℕ) → Check CFilling
whole_text_as_value line target parts =
    check_chain _ _ (walk.text_seen Check check_gives check_chain check_here check_becomes check_look parts line) (λ value. whole_given line target value)

abbrev pub list_begins : CTarget → EntryTrees → List CStored → Check CFilling
list_begins = walk.list_begins Check check_gives check_chain check_here check_becomes check_look

abbrev pub list_given : CTarget → Option CAt → CFilling → List CStored → Check CFilling
list_given = walk.list_given Check check_gives check_chain check_here check_becomes check_look

abbrev pub element_as : ℕ → COperand → CScope → Option CAt → Check (Option CAt)
element_as = walk.element_as Check check_gives check_chain check_here check_becomes check_look

abbrev pub element_seen : ℕ → Option CAt → COperand → Check (Option CAt)
element_seen = walk.element_seen Check check_gives check_chain check_here check_becomes check_look

abbrev pub member_as : ℕ → CScope → Option CAt → Check (Option CAt)
member_as = walk.member_as Check check_gives check_chain check_here check_becomes check_look

abbrev pub member_designated : ℕ → Option CAt → List ℕ → Check (Option CAt)
member_designated = walk.member_designated Check check_gives check_chain check_here check_becomes check_look

-- ---- steps whose earlier scope is known by what the code keeps of it

abbrev pub literal_ended_as : (literals object : ℕ) → ℕ → CScope → CFilled → Check COperand
literal_ended_as literals object line scope filled =
    walk.changed Check check_gives check_chain check_here check_becomes check_look scope line (literal_node filled.type)
    (with_made_at literals (literal_made scope.in_function object filled.type filled.puts) scope)
    (literal_meaning scope.in_function (at_line scope line) object filled.type filled.puts)

-- a compound literal, before which there were so many literals, and whose object has a number
abbrev pub literal_ended : (literals object : ℕ) → ℕ → CTy → List CStored → Check COperand
literal_ended literals object line type stored = check_chain _ _ check_here (λ scope.
    literal_ended_as literals object line scope (filled_object scope.types type stored))
