-- What a typed expression's marks don't say that it wrote is what it was, by induction on the expression.
use Rattle.std.proofs.Common.{◌≡◌, ℕ, zero, suc, Bool, true, false, if◌then◌else◌, List, [], ◌∷◌, ◌++◌, map, Option, Some, None, Result, Ok, Err, refl, sym, ap, subst, ◌∙◌, rules}
use Rattle.cr_base.specs.declared.refusal.Place.{Place}
use Rattle.cr_base.specs.declared.rule.URule.{URule}
use Rattle.cr_base.specs.declared.scalar.Scalar.TheVariants.{Whole}
use Rattle.cr_runs.specs.Owes.{AtEnd}
use Rattle.cr_runs.specs.Runs.{came, halted, bad, out, bind}
use Rattle.straight_core.specs.Linked.{IsLinked}
use Rattle.straight_core.specs.Trees.{CTy, ty, int, form_of_type, expr, CForm, whole, object, load, convert, unary, binary, assign, call, CExprs, no_exprs, more_exprs, COuter, CProgram}
use Rattle.straight_core.specs.Typing.{IsTypedForm, AreTyped, IsLvalueForm, outer_with}
use Rattle.straight_mean.proofs.Kept.{keeps_same, keeps_after, keeps_store}
use Rattle.straight_mean.proofs.SoundCalls.{by_type, scalar_int, operand_int}
use Rattle.straight_mean.proofs.SoundValues.{value_sound}
use Rattle.straight_mean.specs.Leftmost.{CRan, c_form, c_values, c_node, from_done}
use Rattle.straight_mean.specs.Marks.{Marks, Range, any_overlap, bits_at, conflict, united, sequenced_after}
use Rattle.straight_mean.specs.Nodes.{Done, accessed, arguments, called, converted_to, in_type, number_in, number_of_unary, number_of_binary, place_in, scalar_in, scalar_type, load_step, assign_step, unary_step, binary_step, convert_step, call_step}
use Rattle.straight_mean.specs.Operands.{COperand, Frame, CWorld}
use Rattle.straight_mean.specs.Sound.{GivesInt, IsInt, IsOperandOf, IsSound, AreInScope}
use Rattle.straight_mean.specs.Unwritten.{KeepsBeside, UnwrittenStays}
use Rattle.mem_bytes.specs.Access.{and_then, value_at, after_put}
use Rattle.mem_bytes.specs.Memory.{Blocks}
use Rattle.mem_bytes.specs.declared.fault.Fault.{Fault}
use Rattle.mem_bytes.specs.declared.value.Ptr.{Ptr}
use Rattle.mem_bytes.specs.declared.value.Value.{Value}

-- ---- outcomes of parts of a step

-- what a part of a step gives has a property
abbrev pub IfGiven : {A E : Type 0} → (A → Type 0) → Result A E → Type 0
IfGiven P (Ok value) = P value
IfGiven P (Err rule) = Unit {0}

given_and : {A B E : Type 0} (P : A → Type 0) (Q : B → Type 0) (first : Result A E) (next : A → Result B E) →
    IfGiven P first → ((value : A) → P value → IfGiven Q (next value)) → IfGiven Q (and_then first next)
given_and P Q (Ok value) next one all = all value one
given_and P Q (Err rule) next one all = tt

-- a part of which nothing has to be known
given_then : {A B E : Type 0} (Q : B → Type 0) (first : Result A E) (next : A → Result B E) →
    ((value : A) → IfGiven Q (next value)) → IfGiven Q (and_then first next)
given_then Q (Ok value) next all = all value
given_then Q (Err rule) next all = tt

given_if : {A E : Type 0} (P : A → Type 0) (test : Bool) (rule : E) (value : A) → P value → IfGiven P (if test then Err rule else Ok value)
given_if P true rule value is = tt
given_if P false rule value is = is

-- ---- what operands wrote

abbrev pub writes_in : List Marks → List Range
writes_in [] = []
writes_in (first ∷ others) = first.writes ++ writes_in others

united_writes : (marks : List Marks) → IfGiven (λ (all : Marks). all.writes ≡ writes_in marks) (united marks)
united_writes [] = refl
united_writes (first ∷ others) =
    given_and (λ (rest : Marks). rest.writes ≡ writes_in others) (λ (all : Marks). all.writes ≡ first.writes ++ writes_in others) (united others) _ (united_writes others)
    (λ rest same. given_if (λ (all : Marks). all.writes ≡ first.writes ++ writes_in others) (conflict first rest) _ _ (ap (λ (ranges : List Range). first.writes ++ ranges) same))

-- ---- steps of nodes

-- behind a step, what isn't among its operand's writes is what it was in an earlier memory
abbrev KeptSince : Blocks → Done → Type 0
KeptSince before one = KeepsBeside one.operand.marks.writes before one.world.memory

abbrev pub Kept : Blocks → Result Done URule → Type 0
Kept before outcome = IfGiven (KeptSince before) outcome

load_kept : (type : CTy) (from : COperand) (before : Blocks) (world : CWorld) → KeepsBeside from.marks.writes before world.memory → Kept before (load_step type from world)
load_kept type from before world keeps =
    given_then (KeptSince before) (scalar_type type) _ (λ kind.
    given_then (KeptSince before) (place_in from) _ (λ at.
    given_then (KeptSince before) (sequenced_after from.marks (bits_at at kind)) _ (λ range.
    given_then (KeptSince before) (accessed (value_at world.memory at kind)) _ (λ value. keeps))))

unary_kept : (op : _) (type : CTy) (operand : COperand) (before : Blocks) (world : CWorld) → KeepsBeside operand.marks.writes before world.memory → Kept before (unary_step op type operand world)
unary_kept op type operand before world keeps =
    given_then (KeptSince before) (scalar_type type) _ (λ kind.
    given_then (KeptSince before) (number_in operand) _ (λ value.
    given_then (KeptSince before) (in_type kind (number_of_unary op value)) _ (λ result. keeps)))

convert_kept : (type : CTy) (operand : COperand) (before : Blocks) (world : CWorld) → KeepsBeside operand.marks.writes before world.memory → Kept before (convert_step type operand world)
convert_kept type operand before world keeps =
    given_then (KeptSince before) (converted_to (form_of_type type) operand) _ (λ value. keeps)

-- two operands, one evaluated after the other
both_kept : (one other : COperand) (before middle after : Blocks) → KeepsBeside one.marks.writes before middle → KeepsBeside other.marks.writes middle after →
    KeepsBeside (writes_in (one.marks ∷ other.marks ∷ [])) before after
both_kept one other before middle after first second =
    keeps_after one.marks.writes (other.marks.writes ++ []) before middle after first
    (keeps_after other.marks.writes [] middle after after second (keeps_same after))

by_writes : (marks : Marks) (ranges : List Range) (before after : Blocks) → marks.writes ≡ ranges → KeepsBeside ranges before after → KeepsBeside marks.writes before after
by_writes marks ranges before after same keeps = subst (λ (list : List Range). KeepsBeside list before after) (sym same) keeps

binary_kept : (op : _) (type : CTy) (one other : COperand) (before middle : Blocks) (world : CWorld) →
    KeepsBeside one.marks.writes before middle → KeepsBeside other.marks.writes middle world.memory → Kept before (binary_step op type one other world)
binary_kept op type one other before middle world first second =
    given_and (λ (marks : Marks). marks.writes ≡ writes_in (one.marks ∷ other.marks ∷ [])) (KeptSince before) (united (one.marks ∷ other.marks ∷ [])) _ (united_writes (one.marks ∷ other.marks ∷ [])) (λ marks same.
    given_then (KeptSince before) (scalar_type type) _ (λ kind.
    given_then (KeptSince before) (number_in one) _ (λ left.
    given_then (KeptSince before) (number_in other) _ (λ right.
    given_then (KeptSince before) (in_type kind (number_of_binary op left right)) _ (λ result.
    by_writes marks (writes_in (one.marks ∷ other.marks ∷ [])) before world.memory same (both_kept one other before middle world.memory first second))))))

-- a value of type `int` is stored
stored_given : {A : Type 0} (outcome : Result A Fault) → IfGiven (λ (value : A). outcome ≡ Ok value) (accessed outcome)
stored_given (Ok value) = refl
stored_given (Err fault) = tt

scalar_given : (operand : COperand) → GivesInt operand.value → IfGiven IsInt (scalar_in operand)
scalar_given operand gives = rw gives.is gives.is_int

sequenced_given : (marks : Marks) (range : Range) → IfGiven (λ (found : Range). found ≡ range) (sequenced_after marks range)
sequenced_given marks range = given_if (λ (found : Range). found ≡ range) (any_overlap marks.still (range ∷ [])) _ _ refl

put_keeps : (memory after : Blocks) (at : Ptr) (value : Value) → IsInt value → after_put memory at (Whole 32 true) value ≡ Ok after →
    KeepsBeside (bits_at at (Whole 32 true) ∷ []) memory after
put_keeps memory after at value is stored =
    keeps_store memory after at (Whole 32 true) value (search rules) (rw is.is is.in_range) stored

assign_kept : (is_const : Bool) (target value : COperand) (before middle : Blocks) (world : CWorld) → GivesInt value.value →
    KeepsBeside target.marks.writes before middle → KeepsBeside value.marks.writes middle world.memory → Kept before (assign_step (ty int is_const) target value world)
assign_kept is_const target value before middle world gives first second =
    given_and (λ (marks : Marks). marks.writes ≡ writes_in (target.marks ∷ value.marks ∷ [])) (KeptSince before) (united (target.marks ∷ value.marks ∷ [])) _ (united_writes (target.marks ∷ value.marks ∷ [])) (λ marks same.
    given_then (KeptSince before) (place_in target) _ (λ at.
    given_and IsInt (KeptSince before) (scalar_in value) _ (scalar_given value gives) (λ new is_int.
    given_and (λ (range : Range). range ≡ bits_at at (Whole 32 true)) (KeptSince before) (sequenced_after marks (bits_at at (Whole 32 true))) _ (sequenced_given marks (bits_at at (Whole 32 true))) (λ range here.
    given_and (λ (memory : Blocks). after_put world.memory at (Whole 32 true) new ≡ Ok memory) (KeptSince before) (accessed (after_put world.memory at (Whole 32 true) new)) _
    (stored_given (after_put world.memory at (Whole 32 true) new)) (λ memory stored.
    keeps_after marks.writes (range ∷ []) before world.memory memory
    (by_writes marks (writes_in (target.marks ∷ value.marks ∷ [])) before world.memory same (both_kept target value before middle world.memory first second))
    (subst (λ (bits : Range). KeepsBeside (bits ∷ []) world.memory memory) (sym here) (put_keeps world.memory memory at new is_int stored)))))))

abbrev marks_in : List COperand → List Marks
marks_in operands = map (λ one. one.marks) operands

call_kept : (program : CProgram) (callee : ℕ) (type : CTy) (operands : List COperand) (before : Blocks) (world : CWorld) →
    KeepsBeside (writes_in (marks_in operands)) before world.memory → Kept before (call_step program callee type operands world)
call_kept program callee type operands before world keeps =
    given_and (λ (marks : Marks). marks.writes ≡ writes_in (marks_in operands)) (KeptSince before) (united (marks_in operands)) _ (united_writes (marks_in operands)) (λ marks same.
    found_kept type operands marks before world (outer_with callee program.externals)
    (by_writes marks (writes_in (marks_in operands)) before world.memory same keeps))
  where
    found_kept : (type : CTy) (operands : List COperand) (marks : Marks) (before : Blocks) (world : CWorld) (found : Option COuter) →
        KeepsBeside marks.writes before world.memory → Kept before (called type operands marks world found)
    found_kept type operands marks before world None keeps = tt
    found_kept type operands marks before world (Some callee) keeps = given_then (KeptSince before) (arguments operands) _ (λ args. keeps)

-- ---- pieces

end_bind : {A B : Type 0} (P : A → CWorld → Type 0) (Q : B → CWorld → Type 0) (piece : CRan A) (go : A → CWorld → ℕ → CRan B) → AtEnd P piece →
    ((value : A) (world : CWorld) (left : ℕ) → P value world → AtEnd Q (go value world left)) → AtEnd Q (bind piece go)
end_bind P Q (came value world left) go one all = all value world left one
end_bind P Q (halted status world) go one all = tt
end_bind P Q (bad fault world) go one all = tt
end_bind P Q (out world) go one all = tt

-- the same of a piece of which it is known what it gives
end_sound : {A B : Type 0} (R : A → Type 0) (P : A → CWorld → Type 0) (Q : B → CWorld → Type 0) (piece : CRan A) (go : A → CWorld → ℕ → CRan B) → IsSound R piece → AtEnd P piece →
    ((value : A) (world : CWorld) (left : ℕ) → R value → P value world → AtEnd Q (go value world left)) → AtEnd Q (bind piece go)
end_sound R P Q (came value world left) go is one all = all value world left is one
end_sound R P Q (halted status world) go is one all = tt
end_sound R P Q (bad fault world) go is one all = tt
end_sound R P Q (out world) go is one all = tt

-- what holds behind an expression
abbrev pub Since : Blocks → COperand → CWorld → Type 0
Since before operand world = KeepsBeside operand.marks.writes before world.memory

-- and behind arguments
abbrev pub AllSince : Blocks → List COperand → CWorld → Type 0
AllSince before operands world = KeepsBeside (writes_in (marks_in operands)) before world.memory

kept_done : (before : Blocks) (place : Place) (world : CWorld) (left : ℕ) (outcome : Result Done URule) → Kept before outcome →
    AtEnd (Since before) (from_done place world left outcome)
kept_done before place world left (Ok one) is = is
kept_done before place world left (Err rule) is = tt

kept_node : (before : Blocks) (place : Place) (world : CWorld) (outcome : Result Done URule) → Kept before outcome → (steps : ℕ) →
    AtEnd (Since before) (c_node place world outcome steps)
kept_node before place world outcome is zero = tt
kept_node before place world outcome is (suc left) = kept_done before place world left outcome is

-- ---- expressions

lvalue_kept : (program : CProgram) (frame : Frame) (type : CTy) (place : Place) (form : CForm) (world : CWorld) (steps : ℕ) →
    IsLvalueForm program type form → AtEnd (Since world.memory) (c_form program frame type place form world steps)
lvalue_kept program frame type place (object number) world steps is = keeps_same world.memory
lvalue_kept program frame type place (whole value) world steps is = absurd is
lvalue_kept program frame type place (load from) world steps is = absurd is
lvalue_kept program frame type place (convert value) world steps is = absurd is
lvalue_kept program frame type place (unary op value) world steps is = absurd is
lvalue_kept program frame type place (binary op left right) world steps is = absurd is
lvalue_kept program frame type place (assign target value) world steps is = absurd is
lvalue_kept program frame type place (call callee args) world steps is = absurd is

module _ (program : CProgram) (frame : Frame) (linked : IsLinked program) (scope : AreInScope program frame) where
  mutual
    pub value_kept : (type : CTy) (place : Place) (form : CForm) (world : CWorld) (steps : ℕ) → IsTypedForm program type form →
        AtEnd (Since world.memory) (c_form program frame type place form world steps)
    value_kept type place (whole value) world steps is = keeps_same world.memory
    value_kept type place (object number) world steps is = absurd is
    value_kept type place (load (expr t p form)) world steps is =
        end_bind (Since world.memory) (Since world.memory) (c_form program frame t p form world steps) _
        (lvalue_kept program frame t p form world steps is.0)
        (λ one next left keeps. kept_node world.memory place next (load_step type one next) (load_kept type one world.memory next keeps) left)
    value_kept type place (convert (expr t p form)) world steps is =
        end_bind (Since world.memory) (Since world.memory) (c_form program frame t p form world steps) _
        (value_kept t p form world steps is.0)
        (λ one next left keeps. kept_node world.memory place next (convert_step type one next) (convert_kept type one world.memory next keeps) left)
    value_kept type place (unary op (expr t p form)) world steps is =
        end_bind (Since world.memory) (Since world.memory) (c_form program frame t p form world steps) _
        (value_kept t p form world steps is.0)
        (λ one next left keeps. kept_node world.memory place next (unary_step op type one next) (unary_kept op type one world.memory next keeps) left)
    value_kept type place (binary op (expr t p first) (expr u q second)) world steps is =
        end_bind (Since world.memory) (Since world.memory) (c_form program frame t p first world steps) _
        (value_kept t p first world steps is.0)
        (λ one next left keeps. end_bind (Since next.memory) (Since world.memory) (c_form program frame u q second next left) _
        (value_kept u q second next left is.1)
        (λ other after rest too. kept_node world.memory place after (binary_step op type one other after)
        (binary_kept op type one other world.memory next.memory after keeps too) rest))
    value_kept type place (assign (expr t p target) (expr u q value)) world steps is =
        end_bind (Since world.memory) (Since world.memory) (c_form program frame t p target world steps) _
        (lvalue_kept program frame t p target world steps is.0)
        (λ one next left keeps. end_sound (IsOperandOf u) (Since next.memory) (Since world.memory) (c_form program frame u q value next left) _
        (value_sound program frame linked scope u q value next left is.1)
        (value_kept u q value next left is.1)
        (λ other after rest of too. kept_node world.memory place after (assign_step type one other after)
        (by_type (λ (kind : CTy). Kept world.memory (assign_step kind one other after))
        (λ is_const. assign_kept is_const one other world.memory next.memory after
        (operand_int u other (ap (λ (kind : CTy). form_of_type kind) is.2.value_is ∙ scalar_int t is.2.scalar) of) keeps too) type
        (ap (λ (kind : CTy). form_of_type kind) is.2.type_is ∙ scalar_int t is.2.scalar))
        rest))
    value_kept type place (call callee args) world steps is =
        end_bind (AllSince world.memory) (Since world.memory) (c_values program frame args world steps) _
        (values_kept args world steps is.0)
        (λ operands next left keeps. kept_node world.memory place next (call_step program callee type operands next)
        (call_kept program callee type operands world.memory next keeps) left)

    values_kept : (args : CExprs) (world : CWorld) (steps : ℕ) → AreTyped program args →
        AtEnd (AllSince world.memory) (c_values program frame args world steps)
    values_kept no_exprs world steps are = keeps_same world.memory
    values_kept (more_exprs (expr t p form) others) world steps are =
        end_bind (Since world.memory) (AllSince world.memory) (c_form program frame t p form world steps) _
        (value_kept t p form world steps are.0)
        (λ one next left keeps. end_bind (AllSince next.memory) (AllSince world.memory) (c_values program frame others next left) _
        (values_kept others next left are.1)
        (λ more after rest too. keeps_after one.marks.writes (writes_in (marks_in more)) world.memory next.memory after.memory keeps too))

pub unwritten_stays : UnwrittenStays
unwritten_stays program frame (expr type place form) world after operand steps left linked scope is same =
    subst (λ (piece : CRan COperand). AtEnd (Since world.memory) piece) same (value_kept program frame linked scope type place form world steps is)
