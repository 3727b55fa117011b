-- Typed expressions are sound, by induction on the expression.
use Rattle.std.proofs.Common.{◌≡◌, ℕ, zero, suc, ℤ, Option, Some, None, Result, Ok, Err, refl, ap, ◌∙◌, rules}
use Rattle.std.specs.Prelude.{IfSome, IsSome}
use Rattle.cr_base.specs.declared.refusal.Place.{Place}
use Rattle.cr_base.specs.declared.rule.URule.{URule}
use Rattle.cr_runs.specs.Runs.{came, halted, bad, out, bind}
use Rattle.straight_core.specs.Linked.{IsLinked}
use Rattle.straight_core.specs.Trees.{CTy, ty, void, int, function, form_of_type, expr, CForm, whole, object, load, convert, unary, binary, assign, call, CExprs, no_exprs, more_exprs, CObject, CProgram}
use Rattle.straight_core.specs.Typing.{IsTypedForm, AreTyped, IsLvalueForm, IsConstantOf, IsConversion, IsObjectOf, object_with, outer_with}
use Rattle.straight_mean.specs.Leftmost.{CRan, c_form, c_values, c_node, from_done}
use Rattle.straight_mean.specs.Nodes.{Done, load_step, assign_step, unary_step, binary_step, convert_step, call_step}
use Rattle.straight_mean.specs.Operands.{designates, COperand, Frame, CWorld, constant, lvalue}
use Rattle.straight_mean.specs.Sound.{IsOperandOf, IsSound, AreInScope, TypedIsSound}
use Rattle.straight_mean.proofs.Sound.{Outcome, int_given, load_sound, assign_sound, unary_sound, binary_sound, convert_sound}
use Rattle.straight_mean.proofs.SoundCalls.{by_type, promoted_int, scalar_int, unqualified_form, operand_int, AreOperands, call_sound}
use Rattle.mem_bytes.specs.declared.value.Ptr.{Ptr}

-- ---- pieces

sound_bind : {A B : Type 0} (P : A → Type 0) (Q : B → Type 0) (piece : CRan A) (go : A → CWorld → ℕ → CRan B) → IsSound P piece →
    ((value : A) (world : CWorld) (left : ℕ) → P value → IsSound Q (go value world left)) → IsSound Q (bind piece go)
sound_bind P Q (came value world left) go one all = all value world left one
sound_bind P Q (halted status world) go one all = tt
sound_bind P Q (bad fault world) go one all = one
sound_bind P Q (out world) go one all = tt

sound_done : (type : CTy) (place : Place) (world : CWorld) (left : ℕ) (outcome : Result Done URule) → Outcome type outcome →
    IsSound (IsOperandOf type) (from_done place world left outcome)
sound_done type place world left (Ok one) is = is
sound_done type place world left (Err rule) is = is

sound_node : (type : CTy) (place : Place) (world : CWorld) (outcome : Result Done URule) → Outcome type outcome → (steps : ℕ) →
    IsSound (IsOperandOf type) (c_node place world outcome steps)
sound_node type place world outcome is zero = tt
sound_node type place world outcome is (suc left) = sound_done type place world left outcome is

-- ---- leaves

constant_sound : (type : CTy) (value : ℤ) → IsConstantOf type value → IsOperandOf type (constant type value)
constant_sound (ty int is_const) value is = record { type_is = refl; gives = int_given value is.in_range }
constant_sound (ty void is_const) value is = absurd (let none = is.scalar in search rules)
constant_sound (ty (function result params variadic) is_const) value is = absurd (let none = is.scalar in search rules)

-- an operand that designates an object
abbrev pub Designates : COperand → Type 0
Designates operand = (at : Ptr) × (operand.value ≡ designates at)

object_sound : (program : CProgram) (frame : Frame) → AreInScope program frame → (type : CTy) (number : ℕ) (found : Option CObject) →
    object_with number program.objects ≡ found → IsSome found → IfSome found (IsObjectOf type) → Designates (lvalue frame type number)
object_sound program frame scope type number None same some is = absurd (search rules)
object_sound program frame scope type number (Some one) same some is = scope number one same is.defined

pub lvalue_sound : (program : CProgram) (frame : Frame) → AreInScope program frame → (type : CTy) (place : Place) (form : CForm) (world : CWorld) (steps : ℕ) →
    IsLvalueForm program type form → IsSound Designates (c_form program frame type place form world steps)
lvalue_sound program frame scope type place (object number) world steps is =
    object_sound program frame scope type number (object_with number program.objects) refl is.0 is.1
lvalue_sound program frame scope type place (whole value) world steps is = absurd is
lvalue_sound program frame scope type place (load from) world steps is = absurd is
lvalue_sound program frame scope type place (convert value) world steps is = absurd is
lvalue_sound program frame scope type place (unary op value) world steps is = absurd is
lvalue_sound program frame scope type place (binary op left right) world steps is = absurd is
lvalue_sound program frame scope type place (assign target value) world steps is = absurd is
lvalue_sound program frame scope type place (call callee args) world steps is = absurd is

-- ---- conversions

conversion_sound : (from type : CTy) (operand : COperand) (world : CWorld) → IsConversion from type → IsOperandOf from operand →
    Outcome type (convert_step type operand world)
conversion_sound from (ty void is_const) operand world is of = record { type_is = refl; gives = refl }
conversion_sound from (ty int is_const) operand world is of =
    convert_sound is_const operand world (operand_int from operand (scalar_int from is.1) of)
conversion_sound from (ty (function result params variadic) is_const) operand world is of = absurd is

-- ---- expressions

mutual
  pub value_sound : (program : CProgram) (frame : Frame) → IsLinked program → AreInScope program frame →
      (type : CTy) (place : Place) (form : CForm) (world : CWorld) (steps : ℕ) → IsTypedForm program type form →
      IsSound (IsOperandOf type) (c_form program frame type place form world steps)
  value_sound program frame linked scope type place (whole value) world steps is = constant_sound type value is
  value_sound program frame linked scope type place (object number) world steps is = absurd is
  value_sound program frame linked scope type place (load (expr t p form)) world steps is =
      sound_bind Designates (IsOperandOf type) (c_form program frame t p form world steps) _
      (lvalue_sound program frame scope t p form world steps is.0)
      (λ one next left designated. sound_node type place next (load_step type one next)
      (by_type (λ (kind : CTy). Outcome kind (load_step kind one next)) (λ is_const. load_sound is_const one designated.0 next designated.1) type
      (ap (λ (kind : CTy). form_of_type kind) is.1.type_is ∙ (unqualified_form t ∙ scalar_int t is.1.scalar)))
      left)
  value_sound program frame linked scope type place (convert (expr t p form)) world steps is =
      sound_bind (IsOperandOf t) (IsOperandOf type) (c_form program frame t p form world steps) _
      (value_sound program frame linked scope t p form world steps is.0)
      (λ one next left of. sound_node type place next (convert_step type one next) (conversion_sound t type one next is.1 of) left)
  value_sound program frame linked scope type place (unary op (expr t p form)) world steps is =
      sound_bind (IsOperandOf t) (IsOperandOf type) (c_form program frame t p form world steps) _
      (value_sound program frame linked scope t p form world steps is.0)
      (λ one next left of. sound_node type place next (unary_step op type one next)
      (by_type (λ (kind : CTy). Outcome kind (unary_step op kind one next))
      (λ is_const. unary_sound is_const op one next (operand_int t one (ap (λ (kind : CTy). form_of_type kind) is.1.value_is ∙ promoted_int type is.1.promoted) of)) type
      (promoted_int type is.1.promoted))
      left)
  value_sound program frame linked scope type place (binary op (expr t p first) (expr u q second)) world steps is =
      sound_bind (IsOperandOf t) (IsOperandOf type) (c_form program frame t p first world steps) _
      (value_sound program frame linked scope t p first world steps is.0)
      (λ one next left of. sound_bind (IsOperandOf u) (IsOperandOf type) (c_form program frame u q second next left) _
      (value_sound program frame linked scope u q second next left is.1)
      (λ other after rest too. sound_node type place after (binary_step op type one other after)
      (by_type (λ (kind : CTy). Outcome kind (binary_step op kind one other after))
      (λ is_const. binary_sound is_const op one other after
      (operand_int t one (ap (λ (kind : CTy). form_of_type kind) is.2.left_is ∙ promoted_int type is.2.promoted) of)
      (operand_int u other (ap (λ (kind : CTy). form_of_type kind) is.2.right_is ∙ promoted_int type is.2.promoted) too)) type
      (promoted_int type is.2.promoted))
      rest))
  value_sound program frame linked scope type place (assign (expr t p target) (expr u q value)) world steps is =
      sound_bind Designates (IsOperandOf type) (c_form program frame t p target world steps) _
      (lvalue_sound program frame scope t p target world steps is.0)
      (λ one next left designated. sound_bind (IsOperandOf u) (IsOperandOf type) (c_form program frame u q value next left) _
      (value_sound program frame linked scope u q value next left is.1)
      (λ other after rest too. sound_node type place after (assign_step type one other after)
      (by_type (λ (kind : CTy). Outcome kind (assign_step kind one other after))
      (λ is_const. assign_sound is_const one other designated.0 after designated.1
      (operand_int u other (ap (λ (kind : CTy). form_of_type kind) is.2.value_is ∙ scalar_int t is.2.scalar) too)) type
      (ap (λ (kind : CTy). form_of_type kind) is.2.type_is ∙ scalar_int t is.2.scalar))
      rest))
  value_sound program frame linked scope type place (call callee args) world steps is =
      sound_bind (AreOperands args) (IsOperandOf type) (c_values program frame args world steps) _
      (values_sound program frame linked scope args world steps is.0)
      (λ operands next left are. sound_node type place next (call_step program callee type operands next)
      (call_sound program callee type args operands next (outer_with callee program.externals) linked.externals refl is.1.0 is.1.1 are)
      left)

  values_sound : (program : CProgram) (frame : Frame) → IsLinked program → AreInScope program frame →
      (args : CExprs) (world : CWorld) (steps : ℕ) → AreTyped program args →
      IsSound (AreOperands args) (c_values program frame args world steps)
  values_sound program frame linked scope no_exprs world steps are = tt
  values_sound program frame linked scope (more_exprs (expr t p form) others) world steps are =
      sound_bind (IsOperandOf t) (AreOperands (more_exprs (expr t p form) others)) (c_form program frame t p form world steps) _
      (value_sound program frame linked scope t p form world steps are.0)
      (λ one next left of. sound_bind (AreOperands others) (AreOperands (more_exprs (expr t p form) others)) (c_values program frame others next left) _
      (values_sound program frame linked scope others next left are.1)
      (λ more after rest all. (of, all)))

pub typed_is_sound : TypedIsSound
typed_is_sound program frame (expr type place form) world steps linked scope is =
    value_sound program frame linked scope type place form world steps is
