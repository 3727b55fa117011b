-- A value chooses in the innermost open statement (ISO C99, 6.8.4, 6.8.5).
use Rattle.std.proofs.Common.{◌≡◌, refl, sym, ◌∙◌, subst, ℕ, ℤ, List, [], ◌∷◌, Bool, true, false, Option, Some, None, IsSome, Result, Ok, Err}
use Rattle.cr_base.specs.declared.scalar.Scalar.{Scalar}
use Rattle.cr_base.specs.declared.scalar.Scalar.TheVariants.{Whole}
use Rattle.cr_world.specs.Held.{Held}
use Rattle.cx_core.specs.Conversions.{IsPromoted, IsScalarType}
use Rattle.cx_core.specs.Statements.{CBody, within_switch, IsTypedStmt}
use Rattle.cx_core.specs.Trees.{CTy, CExpr, type_of, CStmt, CStmtForm, if_then, switch, while, do_while, for_loop, no_else, else_do, CFun, CProgram}
use Rattle.cx_core.specs.Typing.{CHome, IsTyped}
use Rattle.cx_mean.specs.Moves.{CStand, stand, reaches, next_in, following, choosing, switching}
use Rattle.cx_mean.specs.Nodes.{truth_of_value}
use Rattle.cx_mean.specs.Operands.{CWhy, breaks, stuck, COperand, Frame, scalar_value}
use Rattle.cx_mean.specs.Paths.{CRest, nothing_left, turn_left, CLevel, CBottom, CSite, site_at, with_rest, case_of, default_case, CWay, way_to}
use Rattle.cx_mean.specs.State.{choice_at}
use Rattle.cx_mean.specs.Values.{number_in}
use Rattle.mem_bytes.specs.Access.{and_then}
use Rattle.mem_bytes.specs.Coding.{IsValueOf}
use Rattle.mem_bytes.specs.declared.value.Value.{Value}
use Rattle.mem_bytes.specs.declared.value.Value.TheVariants.{Whole as Number, Null, Object as Pointer, Code as Function}
use Rattle.mem_bytes.specs.Memory.{Blocks}
use Rattle.cx_typed_values.proofs.ScalarKinds.{promoted_kind}
use Rattle.cx_typed_values.proofs.UnaryValues as unary_proofs
use Rattle.cx_typed_values.specs.Outcomes.{Comes}
use Rattle.cx_typed_work.proofs.Given.{value_given}
use Rattle.cx_typed_work.proofs.Nodes.{scalar_comes}
use Rattle.cx_typed_work.proofs.Outcomes.{comes_and}
use Rattle.cx_typed_work.specs.Operands.{IsScalarIn, IsOperandOf}
use Rattle.cx_typed_runs.proofs.MovesHere.{here_with}
use Rattle.cx_typed_runs.proofs.MovesJumps.{following_stands, ended}
use Rattle.cx_typed_runs.proofs.MovesNext.{home_program, block_of, level_of, part_next}
use Rattle.cx_typed_runs.proofs.MovesWays.{way_typed}
use Rattle.cx_typed_runs.proofs.Standing.{IsHere, IsStandOf}
use Rattle.cx_typed_runs.specs.Sites.{objects_of, inside_by, IsLeftOf, IsTypedWay, home_at}
use Rattle.cx_typed_runs.specs.States.{ChoosesIn, Chooses}

-- ---- controlling values

-- whether a value of a scalar type is true
truth_comes : (home : CHome) (node : CExpr) (blocks : Blocks) (operand : COperand) → IsTyped home node → IsScalarType home.program.types (type_of node) → IsOperandOf home node operand
    → Comes (λ (_ : Bool). Unit {0}) (truth_of_value blocks operand.value)
truth_comes home node blocks operand is scalar_is given =
    comes_and (IsScalarIn home.program (type_of node)) (λ (_ : Bool). Unit {0}) (scalar_value operand.value) _ (scalar_comes home.program node operand.value scalar_is (value_given home node operand.value is given.given))
    (λ value good. unary_proofs.truth_of_value blocks value)

-- a value of a promoted type is a number
number_of_kind : (width : ℕ) (signed : Bool) (value : Value) → IsValueOf (Whole width signed) value → Comes (λ (_ : ℤ). Unit {0}) (number_in value)
number_of_kind width signed (Number number) is = tt
number_of_kind width signed Null is = is
number_of_kind width signed (Pointer at) is = is
number_of_kind width signed (Function number) is = is

number_comes : (home : CHome) (node : CExpr) (operand : COperand) → IsTyped home node → IsPromoted (type_of node) → IsOperandOf home node operand
    → Comes (λ (_ : ℤ). Unit {0}) (and_then (scalar_value operand.value) number_in)
number_comes home node operand is promoted given =
    let kind = promoted_kind home.program.types (type_of node) promoted in
    comes_and (IsScalarIn home.program (type_of node)) (λ (_ : ℤ). Unit {0}) (scalar_value operand.value) number_in
    (scalar_comes home.program node operand.value (subst IsSome (sym kind.kind_is) refl) (value_given home node operand.value is given.given)) (λ value good.
    let same : good.kind ≡ Whole kind.width kind.signed = cc (good.kind_is, kind.kind_is) in
    number_of_kind kind.width kind.signed value (subst (λ (own : Scalar). IsValueOf own value) same good.of_kind))

-- ---- the words in which a `switch` chooses

abbrev way_of_switch : ℤ → CStmt → Option CWay → Option CWay
way_of_switch value body (Some way) = Some way
way_of_switch value body None = way_to default_case body

-- where its way leads, or what follows behind it
abbrev switched : Option CWay → CLevel → List CLevel → CBottom → Blocks → CStand
switched None level outer bottom blocks = next_in (with_rest nothing_left level ∷ outer) bottom blocks
switched (Some way) level outer bottom blocks =
    stand (following way (site_at (with_rest nothing_left level ∷ outer) bottom)) blocks

module _ (program : CProgram) (one : CFun) (result : CTy) (held : Held) (rest : Frame) where
  -- ---- where a choice leads

  -- a part of an open statement is next, with this left of it
  chosen_part : (level : CLevel) (outer : List CLevel) (bottom : CBottom) (left : CRest) (part : CStmt) → IsHere program one result held rest (site_at (level ∷ outer) bottom)
      → IsLeftOf (block_of program one result level outer) (objects_of level.slots) level.form left → IsTypedStmt (inside_by left level.form (block_of program one result level outer)) [] part
      → IsStandOf program one result held rest (stand (reaches part (site_at (with_rest left level ∷ outer) bottom)) held.blocks)
  chosen_part level outer bottom left part here is typed = part_next program one result held rest (with_rest left level) outer bottom part (here_with program one result held rest level outer bottom left here is) typed

  -- an `if` or a loop
  choosing_stands : (slots : Frame) (form : CStmtForm) (left : CRest) (outer : List CLevel) (bottom : CBottom) (holds : Bool) → IsHere program one result held rest (site_at (level_of slots form left ∷ outer) bottom)
      → IsStandOf program one result held rest (choosing form holds (level_of slots form left) outer bottom held.blocks)
  choosing_stands slots (if_then test inner otherwise) left outer bottom true here = chosen_part (level_of slots (if_then test inner otherwise) left) outer bottom nothing_left inner here tt here.at.levels.0.form.1
  choosing_stands slots (if_then test inner no_else) left outer bottom false here = ended program one result held rest (level_of slots (if_then test inner no_else) left) outer bottom here
  choosing_stands slots (if_then test inner (else_do other)) left outer bottom false here =
      chosen_part (level_of slots (if_then test inner (else_do other)) left) outer bottom nothing_left other here tt here.at.levels.0.form.2
  choosing_stands slots (while test inner) left outer bottom true here = chosen_part (level_of slots (while test inner) left) outer bottom turn_left inner here refl here.at.levels.0.form.1
  choosing_stands slots (do_while inner test) left outer bottom true here = chosen_part (level_of slots (do_while inner test) left) outer bottom turn_left inner here refl here.at.levels.0.form.0
  choosing_stands slots (for_loop first test next inner) left outer bottom true here = chosen_part (level_of slots (for_loop first test next inner) left) outer bottom turn_left inner here refl here.at.levels.0.form.4
  choosing_stands slots form left outer bottom holds here = ended program one result held rest (level_of slots form left) outer bottom here

  -- the way that a `switch` takes
  switched_stands : (level : CLevel) (outer : List CLevel) (bottom : CBottom) (found : Option CWay) → IsHere program one result held rest (site_at (level ∷ outer) bottom)
      → ((way : CWay) → found ≡ Some way → IsTypedWay (inside_by nothing_left level.form (block_of program one result level outer)) way) → IsStandOf program one result held rest (switched found level outer bottom held.blocks)
  switched_stands level outer bottom None here typed = ended program one result held rest level outer bottom here
  switched_stands level outer bottom (Some way) here typed =
      following_stands program one result held rest way (with_rest nothing_left level) outer bottom (here_with program one result held rest level outer bottom nothing_left here tt) (typed way refl)

  -- to the `case` of a value, or else to `default`
  case_typed : (body : CBody) (inner : CStmt) (value : ℤ) (found : Option CWay) (way : CWay) → way_to (case_of value) inner ≡ found → way_of_switch value inner found ≡ Some way → IsTypedStmt body [] inner → IsTypedWay body way
  case_typed body inner value None way e is typed = way_typed default_case body [] inner way is typed
  case_typed body inner value (Some other) way e is typed = way_typed (case_of value) body [] inner way (e ∙ is) typed

  switching_stands : (slots : Frame) (form : CStmtForm) (left : CRest) (outer : List CLevel) (bottom : CBottom) (value : ℤ) → IsHere program one result held rest (site_at (level_of slots form left ∷ outer) bottom)
      → IsStandOf program one result held rest (switching form value (level_of slots form left) outer bottom held.blocks)
  switching_stands slots (switch test inner) left outer bottom value here =
      let level = level_of slots (switch test inner) left in
      switched_stands level outer bottom (way_of_switch value inner (way_to (case_of value) inner)) here
      (λ way e. case_typed (within_switch (type_of test) (block_of program one result level outer)) inner value (way_to (case_of value) inner) way refl e here.at.levels.0.form.2)
  switching_stands slots form left outer bottom value here = ended program one result held rest (level_of slots form left) outer bottom here

  -- ---- choices

  -- the value of a `switch`
  number_chooses : (home : CHome) (node : CExpr) (operand : COperand) (slots : Frame) (form : CStmtForm) (left : CRest) (outer : List CLevel) (bottom : CBottom) → IsHere program one result held rest (site_at (level_of slots form left ∷ outer) bottom)
      → IsTyped home node → IsPromoted (type_of node) → IsOperandOf home node operand
      → Comes (IsStandOf program one result held rest) (and_then (scalar_value operand.value) (λ value. and_then (number_in value) (λ number. Ok (switching form number (level_of slots form left) outer bottom held.blocks))))
  number_chooses home node operand slots form left outer bottom here is promoted given =
      value_chooses (scalar_value operand.value) (number_comes home node operand is promoted given)
    where
      value_chooses : (found : Result Value CWhy) → Comes (λ (_ : ℤ). Unit {0}) (and_then found number_in)
          → Comes (IsStandOf program one result held rest) (and_then found (λ value. and_then (number_in value) (λ number. Ok (switching form number (level_of slots form left) outer bottom held.blocks))))
      value_chooses (Ok value) comes = comes_and (λ (_ : ℤ). Unit {0}) (IsStandOf program one result held rest) (number_in value) _ comes (λ number _. switching_stands slots form left outer bottom number here)
      value_chooses (Err (breaks rule)) comes = tt
      value_chooses (Err stuck) comes = comes

  -- the truth of a condition
  truth_chooses : (home : CHome) (node : CExpr) (operand : COperand) (slots : Frame) (form : CStmtForm) (left : CRest) (outer : List CLevel) (bottom : CBottom) → IsHere program one result held rest (site_at (level_of slots form left ∷ outer) bottom)
      → IsTyped home node → IsScalarType home.program.types (type_of node) → IsOperandOf home node operand
      → Comes (IsStandOf program one result held rest) (and_then (truth_of_value held.blocks operand.value) (λ holds. Ok (choosing form holds (level_of slots form left) outer bottom held.blocks)))
  truth_chooses home node operand slots form left outer bottom here is scalar_is given =
      comes_and (λ (_ : Bool). Unit {0}) (IsStandOf program one result held rest) (truth_of_value held.blocks operand.value) _ (truth_comes home node held.blocks operand is scalar_is given)
      (λ holds _. choosing_stands slots form left outer bottom holds here)

  -- by the form of the innermost open statement
  chosen_at : (home : CHome) (node : CExpr) (operand : COperand) (slots : Frame) (form : CStmtForm) (left : CRest) (outer : List CLevel) (bottom : CBottom) → IsHere program one result held rest (site_at (level_of slots form left ∷ outer) bottom)
      → home.program ≡ program → IsTyped home node → IsOperandOf home node operand → ChoosesIn program.types (type_of node) form
      → Comes (IsStandOf program one result held rest) (choice_at held.blocks operand.value (level_of slots form left ∷ outer) bottom)
  chosen_at home node operand slots (switch value inner) left outer bottom here same is given chooses = number_chooses home node operand slots (switch value inner) left outer bottom here is chooses given
  chosen_at home node operand slots (if_then test inner otherwise) left outer bottom here same is given chooses =
      truth_chooses home node operand slots (if_then test inner otherwise) left outer bottom here is (subst (λ (p : CProgram). IsScalarType p.types (type_of node)) (sym same) chooses) given
  chosen_at home node operand slots (while test inner) left outer bottom here same is given chooses =
      truth_chooses home node operand slots (while test inner) left outer bottom here is (subst (λ (p : CProgram). IsScalarType p.types (type_of node)) (sym same) chooses) given
  chosen_at home node operand slots (do_while inner test) left outer bottom here same is given chooses =
      truth_chooses home node operand slots (do_while inner test) left outer bottom here is (subst (λ (p : CProgram). IsScalarType p.types (type_of node)) (sym same) chooses) given
  chosen_at home node operand slots (for_loop first test next inner) left outer bottom here same is given chooses =
      truth_chooses home node operand slots (for_loop first test next inner) left outer bottom here is (subst (λ (p : CProgram). IsScalarType p.types (type_of node)) (sym same) chooses) given
  chosen_at home node operand slots _ left outer bottom here same is given chooses = absurd chooses

  -- a value chooses in the innermost open statement
  pub chosen_stands : (site : CSite) (node : CExpr) (operand : COperand) → IsHere program one result held rest site → IsTyped (home_at program one result site.levels) node → IsOperandOf (home_at program one result site.levels) node operand
      → Chooses program.types (type_of node) site.levels → Comes (IsStandOf program one result held rest) (choice_at held.blocks operand.value site.levels site.bottom)
  chosen_stands site node operand here is given chooses = by site.levels here chooses
    where
      home : CHome
      home = home_at program one result site.levels

      by : (levels : List CLevel) → IsHere program one result held rest (site_at levels site.bottom) → Chooses program.types (type_of node) levels → Comes (IsStandOf program one result held rest) (choice_at held.blocks operand.value levels site.bottom)
      by [] here chooses = absurd chooses
      by (level ∷ outer) here chooses = chosen_at home node operand level.slots level.form level.rest outer site.bottom here (home_program program one result site.levels) is given chooses
