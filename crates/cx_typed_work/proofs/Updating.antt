-- `op=`, `++` and `--` as nodes: their load once the operands are finished, and a step of each stage (ISO C99, 6.5.2.4, 6.5.3.1, 6.5.16.2).
use Rattle.std.proofs.Common.{◌≡◌, inl, Bool, true, false, [], ◌∷◌, Some, None, pos, refl, sym, ap, subst}
use Rattle.cr_base.specs.declared.refusal.Place.{Place}
use Rattle.cx_core.specs.Conversions.{promoted}
use Rattle.cx_core.specs.declared.expr.Op2.{Op2}
use Rattle.cx_core.specs.declared.expr.Op2.TheVariants.{Add, Subtract}
use Rattle.cx_core.specs.Trees.{CTy, unqualified, CExpr, expr, CForm, whole, null, object, code, load, deref, member, address, convert, unary, binary, and, or, cond, assign, assign_by, step, call, call_by, comma, literal, type_of}
use Rattle.cx_core.specs.Typing.{CHome, IsTyped, width_of}
use Rattle.cx_mean.specs.Accesses.{loaded}
use Rattle.cx_mean.specs.Marks.{Marks}
use Rattle.cx_mean.specs.Nodes.{CUpdating, CChange, updating, update_loaded, changes, node_updating, update_computed, update_converted, update_stored, typed_value}
use Rattle.cx_mean.specs.Operands.{COperand, Frame, scalar_value, united_operands}
use Rattle.cx_mean.specs.Settings.{setting_of}
use Rattle.cx_mean.specs.Steps.{stage_step}
use Rattle.cx_mean.specs.Values.{CTyped}
use Rattle.cx_mean.specs.Work.{CUpdate, CStage, was_loaded, was_computed, was_converted, updates}
use Rattle.mem_bytes.specs.Access.{and_then}
use Rattle.mem_bytes.specs.declared.value.Value.TheVariants.{Whole as Number}
use Rattle.mem_bytes.specs.Memory.{Blocks}
use Rattle.cx_typed_values.specs.Outcomes.{Comes}
use Rattle.cx_typed_work.proofs.Accesses.{IsLoadedOf}
use Rattle.cx_typed_work.proofs.Choices.{DidLeaves, did_here}
use Rattle.cx_typed_work.proofs.Computing.{assigned_binary, target_scalar}
use Rattle.cx_typed_work.proofs.Given.{place_given}
use Rattle.cx_typed_work.proofs.Nodes.{IsDoneOf, operands_united, scalar_comes}
use Rattle.cx_typed_work.proofs.Outcomes.{comes_and}
use Rattle.cx_typed_work.proofs.Twos.{both_scalar, typed_comes}
use Rattle.cx_typed_work.proofs.Updates.{IsChanging, assign_changing, step_changing, computed_comes, converted_back, load_comes, stored_back}
use Rattle.cx_typed_work.specs.Operands.{IsScalarIn, IsPlaceOf, IsOperandOf}
use Rattle.cx_typed_work.specs.Scenes.{IsScene}
use Rattle.cx_typed_work.specs.Works.{CChanges, changes_of, IsRightOf, IsStageOf, IsUpdateOf}

-- ---- the load

-- what is computed is what the node says
record IsChangeOf (home : CHome) (change : CChanges) (own : CChange) : Type 0 where
  op_is : own.op ≡ change.op
  computes_is : own.computes ≡ change.computes
  right : IsRightOf home.program change.right own.right
  target_type_is : own.target.type ≡ type_of change.target
  target : IsPlaceOf change.target own.target.value
  postfix_is : own.is_postfix ≡ change.is_postfix

-- what is kept behind the load
abbrev IsLoadedUpdate : CHome → CExpr → CUpdating → Type 0
IsLoadedUpdate home node one = IsUpdateOf home node one.update was_loaded

update_begins : (home : CHome) (frame : Frame) (blocks : Blocks) (type : CTy) (place : Place) (form : CForm) (marks : Marks) (change : CChanges) (own : CChange) → IsScene home frame blocks → IsChanging home type change
    → changes_of home (expr type place form) ≡ Some change → IsChangeOf home change own
    → Comes (IsLoadedUpdate home (expr type place form)) (update_loaded (setting_of home.program) frame blocks marks own)
update_begins home frame blocks type place form marks change own scene changing change_is is =
    let plain = unqualified (type_of change.target) in
    let Goal = IsLoadedUpdate home (expr type place form) in
    subst (λ t. Comes Goal (and_then (loaded (setting_of home.program) frame blocks (unqualified t) own.target.value marks) (updating own))) (sym is.target_type_is)
    (comes_and (IsLoadedOf home.program plain) Goal (loaded (setting_of home.program) frame blocks plain own.target.value marks) (updating own)
    (load_comes home frame blocks change.target own.target.value marks scene changing.target_is is.target changing.modifiable) (λ one good.
    comes_and (IsScalarIn home.program plain) Goal (scalar_value one.value) _
    (scalar_comes home.program (expr plain place null) one.value (target_scalar home.program.types (type_of change.target) change.computes changing.run) (inl good)) (λ old fits.
    record {
      change = change;
      change_is = change_is;
      op_is = is.op_is;
      computes_is = is.computes_is;
      right = is.right;
      target_type_is = ap unqualified is.target_type_is;
      target = is.target;
      postfix_is = is.postfix_is;
      old = fits;
      stage_is = tt;
    })))

pub assign_by_begins : (home : CHome) (frame : Frame) (blocks : Blocks) (type : CTy) (place : Place) (op : Op2) (computes : CTy) (target value : CExpr) (one other : COperand) → IsScene home frame blocks
    → IsTyped home (expr type place (assign_by op computes target value)) → IsOperandOf home target one → IsOperandOf home value other
    → Comes (IsLoadedUpdate home (expr type place (assign_by op computes target value))) (node_updating (setting_of home.program) (assign_by op computes target value) frame blocks (one ∷ other ∷ []))
assign_by_begins home frame blocks type place op computes target value one other scene is first second =
    let change : CChanges = record { target = target; op = op; computes = computes; right = Some (type_of value); is_postfix = false } in
    let Goal = IsLoadedUpdate home (expr type place (assign_by op computes target value)) in
    let binary_is = assigned_binary home.program.types op computes (promoted home.program.types (type_of target) (width_of target)) (type_of value) is.1.2.computed in
    comes_and (λ (_ : Marks). Unit {0}) Goal (united_operands (one ∷ other ∷ [])) _ (operands_united (one ∷ other ∷ [])) (λ marks _.
    comes_and (IsChangeOf home change) Goal (changes (setting_of home.program) (assign_by op computes target value) (one ∷ other ∷ [])) _
    (comes_and (λ (t : CTyped). (t.type ≡ type_of value) × IsScalarIn home.program (type_of value) t.value) (IsChangeOf home change) (typed_value other) _
    (typed_comes home value other is.1.1 (both_scalar home.program.types op computes computes (type_of value) binary_is).right_is second) (λ right fits.
    record { op_is = refl; computes_is = refl; right = fits; target_type_is = first.type_is; target = place_given home target one.value is.1.0 first.given; postfix_is = refl })) (λ own fits.
    update_begins home frame blocks type place (assign_by op computes target value) marks change own scene (assign_changing home type place op computes target value is) refl fits))

pub step_begins : (home : CHome) (frame : Frame) (blocks : Blocks) (type : CTy) (place : Place) (up post : Bool) (on : CExpr) (one : COperand) → IsScene home frame blocks
    → IsTyped home (expr type place (step up post on)) → IsOperandOf home on one
    → Comes (IsLoadedUpdate home (expr type place (step up post on))) (node_updating (setting_of home.program) (step up post on) frame blocks (one ∷ []))
step_begins home frame blocks type place up post on one scene is given =
    let Goal = IsLoadedUpdate home (expr type place (step up post on)) in
    comes_and (λ (_ : Marks). Unit {0}) Goal (united_operands (one ∷ [])) _ (operands_united (one ∷ [])) (λ marks _.
    by up marks is)
  where
    change_by : Op2 → CChanges
    change_by op = record { target = on; op = op; computes = promoted home.program.types (type_of on) (width_of on); right = None; is_postfix = post }

    own_by : Op2 → CChange
    own_by op =
        let computes = promoted home.program.types (type_of on) (width_of on) in
        record { op = op; computes = computes; right = record { type = computes; value = Number (pos 1) }; target = one; is_postfix = post }

    by : (way : Bool) (marks : Marks) → IsTyped home (expr type place (step way post on))
        → Comes (IsLoadedUpdate home (expr type place (step way post on))) (and_then (changes (setting_of home.program) (step way post on) (one ∷ [])) (update_loaded (setting_of home.program) frame blocks marks))
    by true marks typed =
        update_begins home frame blocks type place (step true post on) marks (change_by Add) (own_by Add) scene (step_changing home type place true post on typed (change_by Add) refl) refl
        (record { op_is = refl; computes_is = refl; right = refl; target_type_is = given.type_is; target = place_given home on one.value typed.1.0 given.given; postfix_is = refl })
    by false marks typed =
        update_begins home frame blocks type place (step false post on) marks (change_by Subtract) (own_by Subtract) scene (step_changing home type place false post on typed (change_by Subtract) refl) refl
        (record { op_is = refl; computes_is = refl; right = refl; target_type_is = given.type_is; target = place_given home on one.value typed.1.0 given.given; postfix_is = refl })

-- ---- the steps

-- a node of one of these forms changes what it says
changing_of : (home : CHome) (type : CTy) (place : Place) (form : CForm) → IsTyped home (expr type place form) → (change : CChanges) → changes_of home (expr type place form) ≡ Some change → IsChanging home type change
changing_of home type place (assign_by op computes target value) is change e =
    let same : record { target = target; op = op; computes = computes; right = Some (type_of value); is_postfix = false } ≡ change = cc (e) in
    subst (IsChanging home type) same (assign_changing home type place op computes target value is)
changing_of home type place (step up post on) is change e = step_changing home type place up post on is change e
changing_of home type place (whole value) is change e = cc (e)
changing_of home type place null is change e = cc (e)
changing_of home type place (object number) is change e = cc (e)
changing_of home type place (code number) is change e = cc (e)
changing_of home type place (load from) is change e = cc (e)
changing_of home type place (deref from) is change e = cc (e)
changing_of home type place (member of spot) is change e = cc (e)
changing_of home type place (address of) is change e = cc (e)
changing_of home type place (convert value) is change e = cc (e)
changing_of home type place (unary op value) is change e = cc (e)
changing_of home type place (binary op left right) is change e = cc (e)
changing_of home type place (and left right) is change e = cc (e)
changing_of home type place (or left right) is change e = cc (e)
changing_of home type place (cond test first second) is change e = cc (e)
changing_of home type place (assign target value) is change e = cc (e)
changing_of home type place (call callee args) is change e = cc (e)
changing_of home type place (call_by callee args) is change e = cc (e)
changing_of home type place (comma first second) is change e = cc (e)
changing_of home type place (literal number puts) is change e = cc (e)

-- the same update at its next stage
at_stage : (home : CHome) (node : CExpr) (update : CUpdate) (stage after : CStage) (is : IsUpdateOf home node update stage) → IsStageOf home is.change after → IsUpdateOf home node update after
at_stage home node update stage after is there = record {
  change = is.change;
  change_is = is.change_is;
  op_is = is.op_is;
  computes_is = is.computes_is;
  right = is.right;
  target_type_is = is.target_type_is;
  target = is.target;
  postfix_is = is.postfix_is;
  old = is.old;
  stage_is = there;
}

-- a stage leaves a typed tree in a typed memory, or breaks a rule
pub stage_leaves : (home : CHome) (frame : Frame) (blocks : Blocks) (type : CTy) (place : Place) (form : CForm) (update : CUpdate) (marks : Marks) (stage : CStage) → IsScene home frame blocks
    → IsTyped home (expr type place form) → IsUpdateOf home (expr type place form) update stage
    → Comes (DidLeaves home (expr type place form) blocks) (stage_step (setting_of home.program) frame blocks (expr type place form) update marks stage)
stage_leaves home frame blocks type place form update marks was_loaded scene typed is =
    let node = expr type place form in
    let changing = changing_of home type place form typed is.change is.change_is in
    comes_and (IsScalarIn home.program is.change.computes) (DidLeaves home node blocks) (update_computed (setting_of home.program) blocks update) _
    (computed_comes home node type place blocks update was_loaded is scene.linked.types scene.memory.objects changing) (λ new fits.
    did_here home node blocks (updates node update (was_computed new) marks) scene.memory typed (refl, at_stage home node update was_loaded (was_computed new) is fits))
stage_leaves home frame blocks type place form update marks (was_computed new) scene typed is =
    let node = expr type place form in
    let changing = changing_of home type place form typed is.change is.change_is in
    comes_and (IsScalarIn home.program (unqualified (type_of is.change.target))) (DidLeaves home node blocks) (update_converted (setting_of home.program) blocks update new) _
    (converted_back home node type place blocks update (was_computed new) new is scene.linked.types changing is.stage_is) (λ value fits.
    did_here home node blocks (updates node update (was_converted value) marks) scene.memory typed (refl, at_stage home node update (was_computed new) (was_converted value) is fits))
stage_leaves home frame blocks type place form update marks (was_converted new) scene typed is =
    let node = expr type place form in
    let changing = changing_of home type place form typed is.change is.change_is in
    comes_and (IsDoneOf home node blocks) (DidLeaves home node blocks) (update_stored (setting_of home.program) frame blocks update marks new) _
    (stored_back home frame blocks type place form update (was_converted new) marks new is scene typed changing is.stage_is) (λ one good.
    (record { typed = inl typed; left = record { type_is = refl; given = good.given } }, good.shapes, good.memory))
