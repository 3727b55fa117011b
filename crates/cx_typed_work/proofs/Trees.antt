-- The step at any ready node of a typed tree, by the steps of its nodes (ISO C99, 6.5 and 5.1.2.3).
use Rattle.std.proofs.Common.{◌≡◌, inl, inr, ℕ, ◌<◌, Bool, true, false, true≢false, Option, Some, None, refl, sym, subst, arith}
use Rattle.cr_base.specs.declared.refusal.Place.{Place}
use Rattle.cx_core.specs.Trees.{CTy, CExpr, expr, whole, null, object, code, load, deref, member, address, convert, unary, binary, and, or, cond, assign, assign_by, step, call, call_by, comma, literal, CExprs, CPut, CPuts}
use Rattle.cx_core.specs.Typing.{CHome, IsTyped, IsLvalue}
use Rattle.cx_mean.specs.Marks.{Marks}
use Rattle.cx_mean.specs.Operands.{COperand, Frame}
use Rattle.cx_mean.specs.Settings.{setting_of}
use Rattle.cx_mean.specs.Steps.{CStepped, at_node, needs_step, chooses_step, tests_step, stage_step, put_step, place_of_put, inside, nowhere, step_at, step_among, at_first_operand}
use Rattle.cx_mean.specs.Work.{CUpdate, CStage, CWork, finished, needs, chooses, tests, carries, updates, fills, waits, CWorks, no_works, more_works, is_finished, are_finished, operands_in, one_or, ready, ready_among, carried}
use Rattle.mem_bytes.specs.Memory.{Blocks}
use Rattle.cx_typed_work.proofs.Choices.{IsPartOf, part_carried, first_part_of, second_part_of, at_node_leaves, and_leaves, or_leaves, cond_leaves, comma_leaves, tests_leave}
use Rattle.cx_typed_work.proofs.Induction.{OperandsTyped, operands_typed, inside_leaves, PartSteps, EachSteps, among_leaves}
use Rattle.cx_typed_work.proofs.Updating.{stage_leaves}
use Rattle.cx_typed_work.specs.Operands.{IsOperandOf}
use Rattle.cx_typed_work.specs.Scenes.{IsScene}
use Rattle.cx_typed_work.specs.Steps.{StepLeaves}
use Rattle.cx_typed_work.specs.Works.{operands_of, first_part, second_part, chosen_parts, IfOperands, IfPart, AnyPart, IsFilling, IsUpdateOf, value_of_put, IsWorkOf, AreWorksOf, IsTypedNode, IsTypedWork}

-- ---- a node with one operand: its own step, or one inside

at_first : (home : CHome) (node : CExpr) (blocks : Blocks) (work : CWork) (own : COperand → CStepped) (within : CStepped) → ((operand : COperand) → work ≡ finished operand → StepLeaves home node blocks (own operand))
    → (is_finished work ≡ false → StepLeaves home node blocks within) → StepLeaves home node blocks (at_first_operand own within work)
at_first home node blocks (finished operand) own within mine others = mine operand refl
at_first home node blocks (needs other operands) own within mine others = others refl
at_first home node blocks (chooses other first) own within mine others = others refl
at_first home node blocks (tests other marks second) own within mine others = others refl
at_first home node blocks (carries other marks part) own within mine others = others refl
at_first home node blocks (updates other update stage marks) own within mine others = others refl
at_first home node blocks (fills other marks one more value) own within mine others = others refl
at_first home node blocks (waits other marks) own within mine others = others refl

below_open : (test : Bool) (pick count : ℕ) → pick < one_or test count → test ≡ false → pick < count
below_open true pick count below open_is = absurd (true≢false open_is)
below_open false pick count below open_is = below

-- ---- `&&`, `||`, `?:` and the comma before their first operand is finished

chooses_by : (home : CHome) (frame : Frame) (blocks : Blocks) (node part : CExpr) (first : CWork) (pick : ℕ) → IsTypedNode home part → IsWorkOf home part first → PartSteps home frame blocks first → pick < one_or (is_finished first) (ready first)
    → ((work : CWork) → IsWorkOf home part work → IsTypedWork home node (chooses node work)) → ((operand : COperand) → IsOperandOf home part operand → StepLeaves home node blocks (chooses_step blocks node operand))
    → StepLeaves home node blocks (step_at (setting_of home.program) frame blocks pick (chooses node first))
chooses_by home frame blocks node part first pick typed is steps below around own =
    at_first home node blocks first (chooses_step blocks node) (inside (chooses node) (step_at (setting_of home.program) frame blocks pick first))
    (λ operand e. own operand (subst (IsWorkOf home part) e is))
    (λ open_is. inside_leaves home node part blocks (chooses node) (step_at (setting_of home.program) frame blocks pick first)
    (steps part pick typed is (below_open (is_finished first) pick (ready first) below open_is)) (λ work one. around work one.left))

chooses_leaves : (home : CHome) (frame : Frame) (blocks : Blocks) (node : CExpr) (first : CWork) (pick : ℕ) → IsScene home frame blocks → IsTypedNode home node → IfPart (first_part node) (λ part. IsWorkOf home part first)
    → PartSteps home frame blocks first → pick < one_or (is_finished first) (ready first) → StepLeaves home node blocks (step_at (setting_of home.program) frame blocks pick (chooses node first))
chooses_leaves home frame blocks (expr type place (and left right)) first pick scene (inl is) work steps below =
    chooses_by home frame blocks (expr type place (and left right)) left first pick (inl is.1.0) work steps below (λ one left_is. record { typed = inl is; left = (refl, left_is) })
    (λ operand given. and_leaves home type place left right blocks operand scene.whole scene.memory is given)
chooses_leaves home frame blocks (expr type place (or left right)) first pick scene (inl is) work steps below =
    chooses_by home frame blocks (expr type place (or left right)) left first pick (inl is.1.0) work steps below (λ one left_is. record { typed = inl is; left = (refl, left_is) })
    (λ operand given. or_leaves home type place left right blocks operand scene.whole scene.memory is given)
chooses_leaves home frame blocks (expr type place (cond test one other)) first pick scene (inl is) work steps below =
    chooses_by home frame blocks (expr type place (cond test one other)) test first pick (inl is.1.0) work steps below (λ tree left_is. record { typed = inl is; left = (refl, left_is) })
    (λ operand given. cond_leaves home type place test one other blocks operand scene.whole scene.memory is given)
chooses_leaves home frame blocks (expr type place (comma one other)) first pick scene (inl is) work steps below =
    chooses_by home frame blocks (expr type place (comma one other)) one first pick (inl is.1.0) work steps below (λ tree left_is. record { typed = inl is; left = (refl, left_is) })
    (λ operand given. comma_leaves home type place one other blocks operand scene.whole scene.memory is)
chooses_leaves home frame blocks (expr type place (and left right)) first pick scene (inr is) work steps below = absurd is.2
chooses_leaves home frame blocks (expr type place (or left right)) first pick scene (inr is) work steps below = absurd is.2
chooses_leaves home frame blocks (expr type place (cond test one other)) first pick scene (inr is) work steps below = absurd is.2
chooses_leaves home frame blocks (expr type place (comma one other)) first pick scene (inr is) work steps below = absurd is.2
chooses_leaves home frame blocks (expr type place (whole value)) first pick scene is work steps below = absurd work
chooses_leaves home frame blocks (expr type place null) first pick scene is work steps below = absurd work
chooses_leaves home frame blocks (expr type place (object number)) first pick scene is work steps below = absurd work
chooses_leaves home frame blocks (expr type place (code number)) first pick scene is work steps below = absurd work
chooses_leaves home frame blocks (expr type place (load from)) first pick scene is work steps below = absurd work
chooses_leaves home frame blocks (expr type place (deref from)) first pick scene is work steps below = absurd work
chooses_leaves home frame blocks (expr type place (member of spot)) first pick scene is work steps below = absurd work
chooses_leaves home frame blocks (expr type place (address of)) first pick scene is work steps below = absurd work
chooses_leaves home frame blocks (expr type place (convert value)) first pick scene is work steps below = absurd work
chooses_leaves home frame blocks (expr type place (unary op value)) first pick scene is work steps below = absurd work
chooses_leaves home frame blocks (expr type place (binary op left right)) first pick scene is work steps below = absurd work
chooses_leaves home frame blocks (expr type place (assign target value)) first pick scene is work steps below = absurd work
chooses_leaves home frame blocks (expr type place (assign_by op computes target value)) first pick scene is work steps below = absurd work
chooses_leaves home frame blocks (expr type place (step up post on)) first pick scene is work steps below = absurd work
chooses_leaves home frame blocks (expr type place (call callee args)) first pick scene is work steps below = absurd work
chooses_leaves home frame blocks (expr type place (call_by callee args)) first pick scene is work steps below = absurd work
chooses_leaves home frame blocks (expr type place (literal number puts)) first pick scene is work steps below = absurd work

-- ---- the second operand of `&&` and `||`

tests_by : (home : CHome) (frame : Frame) (blocks : Blocks) (node part : CExpr) (marks : Marks) (second : CWork) (pick : ℕ) → IsTypedNode home part → IsWorkOf home part second → PartSteps home frame blocks second
    → pick < one_or (is_finished second) (ready second) → ((work : CWork) → IsWorkOf home part work → IsTypedWork home node (tests node marks work))
    → ((operand : COperand) → IsOperandOf home part operand → StepLeaves home node blocks (tests_step blocks node marks operand))
    → StepLeaves home node blocks (step_at (setting_of home.program) frame blocks pick (tests node marks second))
tests_by home frame blocks node part marks second pick typed is steps below around own =
    at_first home node blocks second (tests_step blocks node marks) (inside (tests node marks) (step_at (setting_of home.program) frame blocks pick second))
    (λ operand e. own operand (subst (IsWorkOf home part) e is))
    (λ open_is. inside_leaves home node part blocks (tests node marks) (step_at (setting_of home.program) frame blocks pick second)
    (steps part pick typed is (below_open (is_finished second) pick (ready second) below open_is)) (λ work one. around work one.left))

tests_leaves : (home : CHome) (frame : Frame) (blocks : Blocks) (node : CExpr) (marks : Marks) (second : CWork) (pick : ℕ) → IsScene home frame blocks → IsTypedNode home node → IfPart (second_part node) (λ part. IsWorkOf home part second)
    → PartSteps home frame blocks second → pick < one_or (is_finished second) (ready second) → StepLeaves home node blocks (step_at (setting_of home.program) frame blocks pick (tests node marks second))
tests_leaves home frame blocks (expr type place (and left right)) marks second pick scene (inl is) work steps below =
    tests_by home frame blocks (expr type place (and left right)) right marks second pick (inl is.1.1) work steps below (λ one left_is. record { typed = inl is; left = (refl, left_is) })
    (λ operand given. tests_leave home (expr type place (and left right)) right blocks marks operand scene.memory is is.1.2.type_is is.1.1 is.1.2.right_scalar given)
tests_leaves home frame blocks (expr type place (or left right)) marks second pick scene (inl is) work steps below =
    tests_by home frame blocks (expr type place (or left right)) right marks second pick (inl is.1.1) work steps below (λ one left_is. record { typed = inl is; left = (refl, left_is) })
    (λ operand given. tests_leave home (expr type place (or left right)) right blocks marks operand scene.memory is is.1.2.type_is is.1.1 is.1.2.right_scalar given)
tests_leaves home frame blocks (expr type place (and left right)) marks second pick scene (inr is) work steps below = absurd is.2
tests_leaves home frame blocks (expr type place (or left right)) marks second pick scene (inr is) work steps below = absurd is.2
tests_leaves home frame blocks (expr type place (cond test one other)) marks second pick scene is work steps below = absurd work
tests_leaves home frame blocks (expr type place (comma one other)) marks second pick scene is work steps below = absurd work
tests_leaves home frame blocks (expr type place (whole value)) marks second pick scene is work steps below = absurd work
tests_leaves home frame blocks (expr type place null) marks second pick scene is work steps below = absurd work
tests_leaves home frame blocks (expr type place (object number)) marks second pick scene is work steps below = absurd work
tests_leaves home frame blocks (expr type place (code number)) marks second pick scene is work steps below = absurd work
tests_leaves home frame blocks (expr type place (load from)) marks second pick scene is work steps below = absurd work
tests_leaves home frame blocks (expr type place (deref from)) marks second pick scene is work steps below = absurd work
tests_leaves home frame blocks (expr type place (member of spot)) marks second pick scene is work steps below = absurd work
tests_leaves home frame blocks (expr type place (address of)) marks second pick scene is work steps below = absurd work
tests_leaves home frame blocks (expr type place (convert value)) marks second pick scene is work steps below = absurd work
tests_leaves home frame blocks (expr type place (unary op value)) marks second pick scene is work steps below = absurd work
tests_leaves home frame blocks (expr type place (binary op left right)) marks second pick scene is work steps below = absurd work
tests_leaves home frame blocks (expr type place (assign target value)) marks second pick scene is work steps below = absurd work
tests_leaves home frame blocks (expr type place (assign_by op computes target value)) marks second pick scene is work steps below = absurd work
tests_leaves home frame blocks (expr type place (step up post on)) marks second pick scene is work steps below = absurd work
tests_leaves home frame blocks (expr type place (call callee args)) marks second pick scene is work steps below = absurd work
tests_leaves home frame blocks (expr type place (call_by callee args)) marks second pick scene is work steps below = absurd work
tests_leaves home frame blocks (expr type place (literal number puts)) marks second pick scene is work steps below = absurd work

-- ---- operands of a node that needs them all

needs_leaves : (home : CHome) (frame : Frame) (blocks : Blocks) (node : CExpr) (operands : CWorks) (pick : ℕ) (found : Option CExprs) → operands_of node ≡ found → IsTypedNode home node
    → IfOperands found (λ parts. AreWorksOf home parts operands) → EachSteps home frame blocks operands → pick < ready (needs node operands)
    → (are_finished operands ≡ true → StepLeaves home node blocks (needs_step (setting_of home.program) frame blocks node (operands_in operands)))
    → StepLeaves home node blocks (step_at (setting_of home.program) frame blocks pick (needs node operands))
needs_leaves home frame blocks node operands pick None e typed are steps below own = absurd are
needs_leaves home frame blocks node operands pick (Some parts) e typed are steps below own = by (are_finished operands) refl
  where
    by : (test : Bool) → are_finished operands ≡ test
        → StepLeaves home node blocks (elim test as (λ _. CStepped) [
          | true ↦ needs_step (setting_of home.program) frame blocks node (operands_in operands)
          | false ↦ step_among (setting_of home.program) frame blocks pick operands (nowhere node) (needs node)
        ])
    by true all = own all
    by false some =
        among_leaves home frame blocks node parts operands pick (nowhere node) (needs node) (subst (OperandsTyped home) e (operands_typed home node typed)) are steps
        (below_open (are_finished operands) pick (ready_among operands) below some)
        (λ after is. record { typed = typed; left = (refl, subst (λ f. IfOperands f (λ those. AreWorksOf home those after)) (sym e) is) })

-- ---- the part that gives the value of `?:` or a comma

carries_by : (home : CHome) (frame : Frame) (blocks : Blocks) (node part : CExpr) (marks : Marks) (chosen : CWork) (pick : ℕ) → IsTyped home node → IsPartOf home node part → IsWorkOf home part chosen → PartSteps home frame blocks chosen
    → pick < ready chosen → StepLeaves home node blocks (step_at (setting_of home.program) frame blocks pick (carries node marks chosen))
carries_by home frame blocks node part marks chosen pick is one work steps below =
    inside_leaves home node part blocks (carried node marks) (step_at (setting_of home.program) frame blocks pick chosen) (steps part pick (inl one.part_typed) work below)
    (λ after left_is. record { typed = inl is; left = part_carried home node part marks after is one left_is.left })

pub comma_part : (home : CHome) (type : CTy) (place : Place) (one other : CExpr) → IsTyped home (expr type place (comma one other)) → IsPartOf home (expr type place (comma one other)) other
comma_part home type place one other is = record { part_typed = is.1.1; type_is = sym is.1.2; lacks = λ lacks. lacks; among = λ work left. inl left }

carries_leaves : (home : CHome) (frame : Frame) (blocks : Blocks) (node : CExpr) (marks : Marks) (chosen : CWork) (pick : ℕ) → IsTypedNode home node → AnyPart (chosen_parts node) (λ part. IsWorkOf home part chosen)
    → PartSteps home frame blocks chosen → pick < ready chosen → StepLeaves home node blocks (step_at (setting_of home.program) frame blocks pick (carries node marks chosen))
carries_leaves home frame blocks (expr type place (cond test one other)) marks chosen pick (inl is) (inl work) steps below =
    carries_by home frame blocks (expr type place (cond test one other)) one marks chosen pick is (first_part_of home type place test one other is) work steps below
carries_leaves home frame blocks (expr type place (cond test one other)) marks chosen pick (inl is) (inr (inl work)) steps below =
    carries_by home frame blocks (expr type place (cond test one other)) other marks chosen pick is (second_part_of home type place test one other is) work steps below
carries_leaves home frame blocks (expr type place (cond test one other)) marks chosen pick (inl is) (inr (inr work)) steps below = absurd work
carries_leaves home frame blocks (expr type place (cond test one other)) marks chosen pick (inr is) work steps below = absurd is.2
carries_leaves home frame blocks (expr type place (comma one other)) marks chosen pick (inl is) (inl work) steps below =
    carries_by home frame blocks (expr type place (comma one other)) other marks chosen pick is (comma_part home type place one other is) work steps below
carries_leaves home frame blocks (expr type place (comma one other)) marks chosen pick (inl is) (inr work) steps below = absurd work
carries_leaves home frame blocks (expr type place (comma one other)) marks chosen pick (inr is) work steps below = absurd is.2
carries_leaves home frame blocks (expr type place (whole value)) marks chosen pick is work steps below = absurd work
carries_leaves home frame blocks (expr type place null) marks chosen pick is work steps below = absurd work
carries_leaves home frame blocks (expr type place (object number)) marks chosen pick is work steps below = absurd work
carries_leaves home frame blocks (expr type place (code number)) marks chosen pick is work steps below = absurd work
carries_leaves home frame blocks (expr type place (load from)) marks chosen pick is work steps below = absurd work
carries_leaves home frame blocks (expr type place (deref from)) marks chosen pick is work steps below = absurd work
carries_leaves home frame blocks (expr type place (member of spot)) marks chosen pick is work steps below = absurd work
carries_leaves home frame blocks (expr type place (address of)) marks chosen pick is work steps below = absurd work
carries_leaves home frame blocks (expr type place (convert value)) marks chosen pick is work steps below = absurd work
carries_leaves home frame blocks (expr type place (unary op value)) marks chosen pick is work steps below = absurd work
carries_leaves home frame blocks (expr type place (binary op left right)) marks chosen pick is work steps below = absurd work
carries_leaves home frame blocks (expr type place (and left right)) marks chosen pick is work steps below = absurd work
carries_leaves home frame blocks (expr type place (or left right)) marks chosen pick is work steps below = absurd work
carries_leaves home frame blocks (expr type place (assign target value)) marks chosen pick is work steps below = absurd work
carries_leaves home frame blocks (expr type place (assign_by op computes target value)) marks chosen pick is work steps below = absurd work
carries_leaves home frame blocks (expr type place (step up post on)) marks chosen pick is work steps below = absurd work
carries_leaves home frame blocks (expr type place (call callee args)) marks chosen pick is work steps below = absurd work
carries_leaves home frame blocks (expr type place (call_by callee args)) marks chosen pick is work steps below = absurd work
carries_leaves home frame blocks (expr type place (literal number puts)) marks chosen pick is work steps below = absurd work

-- ---- stages of `op=`, `++` and `--`

-- no lvalue is one of these
no_change : (home : CHome) (node : CExpr) (update : CUpdate) (stage : CStage) → IsLvalue home node → IsUpdateOf home node update stage → ⊥
no_change home (expr type place (whole value)) update stage is kept = cc (kept.change_is)
no_change home (expr type place null) update stage is kept = cc (kept.change_is)
no_change home (expr type place (object number)) update stage is kept = cc (kept.change_is)
no_change home (expr type place (code number)) update stage is kept = cc (kept.change_is)
no_change home (expr type place (load from)) update stage is kept = cc (kept.change_is)
no_change home (expr type place (deref from)) update stage is kept = cc (kept.change_is)
no_change home (expr type place (member of spot)) update stage is kept = cc (kept.change_is)
no_change home (expr type place (address of)) update stage is kept = cc (kept.change_is)
no_change home (expr type place (convert value)) update stage is kept = cc (kept.change_is)
no_change home (expr type place (unary op value)) update stage is kept = cc (kept.change_is)
no_change home (expr type place (binary op left right)) update stage is kept = cc (kept.change_is)
no_change home (expr type place (and left right)) update stage is kept = cc (kept.change_is)
no_change home (expr type place (or left right)) update stage is kept = cc (kept.change_is)
no_change home (expr type place (cond test one other)) update stage is kept = cc (kept.change_is)
no_change home (expr type place (assign target value)) update stage is kept = cc (kept.change_is)
no_change home (expr type place (assign_by op computes target value)) update stage is kept = is.2
no_change home (expr type place (step up post on)) update stage is kept = is.2
no_change home (expr type place (call callee args)) update stage is kept = cc (kept.change_is)
no_change home (expr type place (call_by callee args)) update stage is kept = cc (kept.change_is)
no_change home (expr type place (comma one other)) update stage is kept = cc (kept.change_is)
no_change home (expr type place (literal number puts)) update stage is kept = cc (kept.change_is)

updates_leaves : (home : CHome) (frame : Frame) (blocks : Blocks) (node : CExpr) (update : CUpdate) (stage : CStage) (marks : Marks) (pick : ℕ) → IsScene home frame blocks → IsTypedNode home node → IsUpdateOf home node update stage
    → StepLeaves home node blocks (step_at (setting_of home.program) frame blocks pick (updates node update stage marks))
updates_leaves home frame blocks (expr type place form) update stage marks pick scene (inl is) one =
    at_node_leaves home (expr type place form) blocks place (stage_step (setting_of home.program) frame blocks (expr type place form) update marks stage)
    (stage_leaves home frame blocks type place form update marks stage scene is one)
updates_leaves home frame blocks node update stage marks pick scene (inr is) one = absurd (no_change home node update stage is one)

-- ---- a tree

-- the steps of nodes whose operands are finished, and of the puts of compound literals
pub record NodesStep (home : CHome) (frame : Frame) (blocks : Blocks) : Type 0 where
  pub of_needs : (node : CExpr) (operands : CWorks) → IsTypedNode home node → IfOperands (operands_of node) (λ parts. AreWorksOf home parts operands) → are_finished operands ≡ true
      → StepLeaves home node blocks (needs_step (setting_of home.program) frame blocks node (operands_in operands))
  pub of_put : (node : CExpr) (marks : Marks) (one : CPut) (others : CPuts) (operand : COperand) → IsTypedNode home node → IsFilling node one others → IsOperandOf home (value_of_put one) operand
      → StepLeaves home node blocks (at_node (place_of_put one) (put_step (setting_of home.program) frame blocks node marks one others operand))
  pub put_typed : (node : CExpr) (one : CPut) (others : CPuts) → IsTypedNode home node → IsFilling node one others → IsTypedNode home (value_of_put one)

fills_leaves : (home : CHome) (frame : Frame) (blocks : Blocks) (node : CExpr) (marks : Marks) (one : CPut) (others : CPuts) (value : CWork) (pick : ℕ) → NodesStep home frame blocks → IsTypedNode home node → IsFilling node one others
    → IsWorkOf home (value_of_put one) value → PartSteps home frame blocks value → pick < one_or (is_finished value) (ready value)
    → StepLeaves home node blocks (step_at (setting_of home.program) frame blocks pick (fills node marks one others value))
fills_leaves home frame blocks node marks one others value pick nodes typed filling is steps below =
    at_first home node blocks value (λ operand. at_node (place_of_put one) (put_step (setting_of home.program) frame blocks node marks one others operand))
    (inside (fills node marks one others) (step_at (setting_of home.program) frame blocks pick value))
    (λ operand e. nodes.of_put node marks one others operand typed filling (subst (IsWorkOf home (value_of_put one)) e is))
    (λ open_is. inside_leaves home node (value_of_put one) blocks (fills node marks one others) (step_at (setting_of home.program) frame blocks pick value)
    (steps (value_of_put one) pick (nodes.put_typed node one others typed filling) is (below_open (is_finished value) pick (ready value) below open_is))
    (λ work left_is. record { typed = typed; left = (refl, filling, left_is.left) }))

mutual
  -- a step at each ready node of a tree, where the steps of nodes leave typed trees
  pub tree_steps : (home : CHome) (frame : Frame) (blocks : Blocks) → IsScene home frame blocks → NodesStep home frame blocks → (work : CWork) → PartSteps home frame blocks work
  tree_steps home frame blocks scene nodes (finished operand) = λ node pick typed is below. absurd (omega (arith, below))
  tree_steps home frame blocks scene nodes (needs own operands) = λ node pick typed is below.
      subst (λ n. StepLeaves home node blocks (step_at (setting_of home.program) frame blocks pick (needs n operands))) (sym is.0)
      (needs_leaves home frame blocks node operands pick (operands_of node) refl typed is.1 (each_steps home frame blocks scene nodes operands) below
      (nodes.of_needs node operands typed is.1))
  tree_steps home frame blocks scene nodes (chooses own first) = λ node pick typed is below.
      subst (λ n. StepLeaves home node blocks (step_at (setting_of home.program) frame blocks pick (chooses n first))) (sym is.0)
      (chooses_leaves home frame blocks node first pick scene typed is.1 (tree_steps home frame blocks scene nodes first) below)
  tree_steps home frame blocks scene nodes (tests own marks second) = λ node pick typed is below.
      subst (λ n. StepLeaves home node blocks (step_at (setting_of home.program) frame blocks pick (tests n marks second))) (sym is.0)
      (tests_leaves home frame blocks node marks second pick scene typed is.1 (tree_steps home frame blocks scene nodes second) below)
  tree_steps home frame blocks scene nodes (carries own marks chosen) = λ node pick typed is below.
      subst (λ n. StepLeaves home node blocks (step_at (setting_of home.program) frame blocks pick (carries n marks chosen))) (sym is.0)
      (carries_leaves home frame blocks node marks chosen pick typed is.2 (tree_steps home frame blocks scene nodes chosen) below)
  tree_steps home frame blocks scene nodes (updates own update stage marks) = λ node pick typed is below.
      subst (λ n. StepLeaves home node blocks (step_at (setting_of home.program) frame blocks pick (updates n update stage marks))) (sym is.0)
      (updates_leaves home frame blocks node update stage marks pick scene typed is.1)
  tree_steps home frame blocks scene nodes (fills own marks one others value) = λ node pick typed is below.
      subst (λ n. StepLeaves home node blocks (step_at (setting_of home.program) frame blocks pick (fills n marks one others value))) (sym is.0)
      (fills_leaves home frame blocks node marks one others value pick nodes typed is.1 is.2 (tree_steps home frame blocks scene nodes value) below)
  tree_steps home frame blocks scene nodes (waits own marks) = λ node pick typed is below. absurd (omega (arith, below))

  each_steps : (home : CHome) (frame : Frame) (blocks : Blocks) → IsScene home frame blocks → NodesStep home frame blocks → (works : CWorks) → EachSteps home frame blocks works
  each_steps home frame blocks scene nodes no_works = tt
  each_steps home frame blocks scene nodes (more_works first others) = (tree_steps home frame blocks scene nodes first, each_steps home frame blocks scene nodes others)
