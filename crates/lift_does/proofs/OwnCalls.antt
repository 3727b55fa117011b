-- A call of a function that the program defines: C's step and its run beside the call of the crate's function (ISO C99, 6.5.2.2; the Rust Reference, "Call expressions").
use Rattle.std.proofs.Common.{◌≡◌, ℕ, zero, suc, Bool, true, false, if◌then◌else◌, ◌==◌, List, [], ◌∷◌, length, Option, Some, None, Result, Ok, Err, refl, sym, ap, subst, ◌∙◌, arith}
use Rattle.std.proofs.lemmas.Bool.Decides.{nat_tests}
use Rattle.std.specs.List.{Contains}
use Rattle.cr_base.specs.declared.refusal.Place.{Place}
use Rattle.cr_base.specs.declared.rule.URule.TheVariants.{U13, U14}
use Rattle.cr_runs.proofs.Rules.{pieces, values, renamed, known, bind_came, bind_tick}
use Rattle.cr_runs.specs.Owes.{Owes, AtEnd}
use Rattle.cr_runs.specs.Runs.{Ran, came, bind, tick}
use Rattle.cr_world.specs.World.{World, Stop, blocks_of, events_of}
use Rattle.cx_core.specs.Compatible.{AreCompatible}
use Rattle.cx_core.specs.Linked.{IsLinked, home_of}
use Rattle.cx_core.specs.Trees.{CProgram, CTy, CFun, function, unqualified, form_of_type}
use Rattle.cx_core.specs.Typing.{function_with}
use Rattle.cx_mean.specs.Calls.{CCallee, defined, external, CCalling, is_missing, all_given, counted, called_with, type_of_callee}
use Rattle.cx_mean.specs.Leftmost.{CRan, gives_operand, c_callee}
use Rattle.cx_mean.specs.Marks.{Marks}
use Rattle.cx_mean.specs.Operands.{breaks, CWhy, CValue, scalar, cells, names, designates, designates_bits, missing, COperand}
use Rattle.cx_mean.specs.State.{values_of_args}
use Rattle.cx_typed_leftmost.proofs.Worlds.{typed_kept}
use Rattle.cx_typed_leftmost.specs.Laws.{CallIsTyped}
use Rattle.cx_typed_runs.proofs.Calling.{running_of, for_params}
use Rattle.cx_typed_runs.proofs.Owned.{owned_back}
use Rattle.cx_typed_runs.proofs.Taking.{definition_of}
use Rattle.cx_typed_runs.specs.Sites.{IsRunning, AreOwned}
use Rattle.cx_typed_runs.specs.States.{AreForParams}
use Rattle.cx_typed_work.proofs.AlikeCalls.{call_alike, call_taken}
use Rattle.cx_typed_work.specs.Calls.{IsCalleeIn, IsTypedCall, IsReturned}
use Rattle.cx_typed_work.specs.Scenes.{IsTypedMemory}
use Rattle.lift_calls.proofs.Nodes.{call_node_owes}
use Rattle.lift_calls.specs.Calls.{is_place, GivesBack, AreHanded, ResultHanded, CallMeets, CallStands, result_laid}
use Rattle.lift_calls.specs.Programs.{setting_in, c_calls}
use Rattle.lift_does.proofs.Around.{Around, scope, At}
use Rattle.lift_does.proofs.CallEnds.{Came}
use Rattle.lift_does.proofs.Nodes.{and_then_is}
use Rattle.lift_does.proofs.Reaching.{at_after}
use Rattle.lift_does.specs.Agree.{FunctionMeans}
use Rattle.lift_exprs.specs.Names.{KeptFunction}
use Rattle.lift_stands.specs.Stands.{Images}
use Rattle.lift_stands_values.specs.Given.{align_or, align_in}
use Rattle.mem_bytes.specs.Memory.{Blocks}
use Rattle.mem_bytes.specs.declared.value.Ptr.{Ptr}
use Rattle.rs_mean.specs.Calls.{accepts}
use Rattle.rs_mean.specs.Lookups.{own, own_signature, callee_at}
use Rattle.rs_mean.specs.Run.{Bodies, call_found}
use Rattle.rs_mean.specs.Values.{Typed}
use Rattle.rs_mean.specs.declared.cause.Cause.{Cause}

number_is : (one other : ℕ) → (one == other) ≡ true → one ≡ other
number_is one other is = grind (arith, nat_tests, is)

-- ---- the step of a call

-- what is called, once C's step has a meaning: the arguments are all given, and as many as it has parameters
pub record CallsAs (type : CTy) (operands : List COperand) (callee : CCallee) (calling : CCalling) : Type 0 where
  pub args_are : calling.called.args ≡ operands
  pub all_is : all_given operands ≡ Ok operands
  pub callee_is : calling.called.callee ≡ callee
  pub counted_is : counted callee (length operands) ≡ Ok callee
  pub type_is : calling.called.type ≡ type

all_same : (operands all : List COperand) → all_given operands ≡ Ok all → all ≡ operands
all_same [] all e = let same : [] ≡ all = cc (e) in sym same
all_same (one ∷ others) all e =
    let parts = and_then_is (all_given others) _ all e in
    by (is_missing one.value) parts.2 (all_same others parts.0 parts.1)
  where
    by : (test : Bool) → {rest : List COperand} → (if test then Err (breaks U14) else Ok (one ∷ rest)) ≡ Ok all → rest ≡ others → all ≡ one ∷ others
    by true found same = cc (found)
    by false {rest = rest} found same = let is : one ∷ rest ≡ all = cc (found) in sym is ∙ ap (λ (list : List COperand). one ∷ list) same

counted_same : (callee found : CCallee) (count : ℕ) → counted callee count ≡ Ok found → found ≡ callee
counted_same (external one) found count e = let same : external one ≡ found = cc (e) in sym same
counted_same (defined one) found count e = by (length one.params == count) e
  where
    by : (test : Bool) → (if test then Ok (defined one) else Err (breaks U13)) ≡ Ok found → found ≡ defined one
    by true is = let same : defined one ≡ found = cc (is) in sym same
    by false is = cc (is)

pub params_count : (one : CFun) (count : ℕ) → counted (defined one) count ≡ Ok (defined one) → length one.params ≡ count
params_count one count e = by (length one.params == count) refl e
  where
    by : (test : Bool) → (length one.params == count) ≡ test → (if test then Ok (defined one) else Err (breaks U13)) ≡ Ok (defined one) → length one.params ≡ count
    by true is found = number_is (length one.params) count is
    by false is found = cc (found)

pub with_parts : (type : CTy) (place : Place) (marks : Marks) (operands : List COperand) (callee : CCallee) (calling : CCalling) → called_with type place marks operands callee ≡ Ok calling →
    CallsAs type operands callee calling
with_parts type place marks operands callee calling e =
    let first = and_then_is (counted callee (length operands)) _ calling e in
    let second = and_then_is (all_given operands) _ calling first.2 in
    let same = all_same operands second.0 second.1 in
    let one = counted_same callee first.0 (length operands) first.1 in
    let is = ok_is _ calling second.2 in
    let args_are : second.0 ≡ calling.called.args = ap (λ (one : CCalling). one.called.args) is in
    let callee_is : first.0 ≡ calling.called.callee = ap (λ (one : CCalling). one.called.callee) is in
    record {
      args_are = sym args_are ∙ same;
      all_is = second.1 ∙ ap (λ (list : List COperand). ok_list list) same;
      callee_is = sym callee_is ∙ one;
      counted_is = first.1 ∙ ap (λ (c : CCallee). ok_callee c) one;
      type_is = sym (ap (λ (c : CCalling). c.called.type) is);
    }
  where
    ok_calling : CCalling → Result CCalling CWhy
    ok_calling one = Ok one

    ok_is : (one other : CCalling) → ok_calling one ≡ ok_calling other → one ≡ other
    ok_is one other e = cc (e)

    ok_list : List COperand → Result (List COperand) CWhy
    ok_list list = Ok list

    ok_callee : CCallee → Result CCallee CWhy
    ok_callee c = Ok c

-- ---- its run, and that of the crate's function

pub any_align : (images : Images) (others : Blocks) (one other : ℕ) (value : CValue) (given : Option Typed) → GivesBack images others one None value given → GivesBack images others other None value given
any_align images others one other missing given gives = tt
any_align images others one other (scalar value) (Some given) gives = gives
any_align images others one other (scalar value) None gives = absurd gives
any_align images others one other (cells list from) given gives = absurd gives
any_align images others one other (names number) given gives = absurd gives
any_align images others one other (designates value) given gives = absurd gives
any_align images others one other (designates_bits at bit width) given gives = absurd gives

module _ (x : Around) (type : CTy) (operands : List COperand) (last : Images) (c w : World) (here : At x last c w) (number : ℕ) (one : CFun) (defined_is : function_with number x.s.program.functions ≡ Some one) (kept : KeptFunction) (means : FunctionMeans x.s number kept)
    (calling : CCalling) (calls : CallsAs type operands (defined one) calling) (typed : IsTypedCall x.home.program calling.called) where
  abbrev linked : IsLinked x.home.program
  linked = here.typed.scene.linked

  abbrev there : Contains x.home.program.functions one
  there = subst (IsCalleeIn x.home.program) calls.callee_is typed.callee_in

  abbrev pub gives_result : CTy
  gives_result = (running_of x.home.program one linked there).0

  abbrev pub runs_function : IsRunning x.home.program one gives_result
  runs_function = (running_of x.home.program one linked there).1

  callee_form : form_of_type (type_of_callee calling.called.callee) ≡ function gives_result runs_function.params runs_function.variadic
  callee_form = ap (λ (it : CCallee). form_of_type (type_of_callee it)) calls.callee_is ∙ runs_function.type_is

  pub result_alike : AreCompatible x.home.program.types type (unqualified gives_result)
  result_alike = subst (λ (t : CTy). AreCompatible x.home.program.types t (unqualified gives_result)) calls.type_is (call_alike x.home.program calling.called gives_result runs_function.params runs_function.variadic typed callee_form).compatible

  all_taken : AreForParams x.s.program one.params (values_of_args operands)
  all_taken =
      subst (λ (program : CProgram). AreForParams program one.params (values_of_args operands)) x.means.program
      (subst (λ (list : List COperand). AreForParams x.home.program one.params (values_of_args list)) calls.args_are
      (for_params x.home.program one.params (values_of_args calling.called.args)
      (call_taken (home_of x.home.program None one.unit) calling.called one gives_result runs_function.params runs_function.variadic linked.types typed calls.callee_is runs_function.type_is
      (definition_of x.home.program one gives_result linked runs_function))))

  pub stands : (place : Option Ptr) (given rest : List Typed) → ResultHanded last (blocks_of w) (result_laid x.s one) place given rest → AreHanded last (blocks_of w) (values_of_args operands) rest →
      CallStands x.s last place one means.tree (values_of_args operands) given c w
  stands place given rest result handed = record {
    written = record {
      number = number;
      defined = defined_is;
      path = means.path;
      path_is = means.path_is;
      tree_is = ap (λ (m : List ℕ). callee_at x.s.modules m means.path.name) (sym means.home_is) ∙ (ap (λ (f : List ℕ). callee_at x.s.modules kept.home f) (sym means.name_is) ∙ means.tree_is);
    };
    program = here.program;
    worlds = here.worlds;
    handed = record { rest = rest; result = result; arguments = handed };
    taken = all_taken;
    scope = record {
      memory = subst (λ (program : CProgram). IsTypedMemory program (blocks_of c)) x.means.program here.typed.scene.memory;
      owned = subst (λ (program : CProgram). AreOwned program c.held x.s.statics) x.means.program (owned_back x.home.program c.held x.c_frame x.s.statics here.typed.owned);
    };
  }

  abbrev c_run : ℕ → CRan CValue
  c_run = tick c (c_calls x.s one (values_of_args operands) c)

  -- what C's function leaves
  call_ends : (bound : ℕ) → AtEnd (CallIsTyped x.s.program calling.called c) (c_run bound)
  call_ends zero = tt
  call_ends (suc left) =
      subst (λ (list : List COperand). AtEnd (CallIsTyped x.s.program calling.called c) (c_calls x.s one (values_of_args list) c left)) calls.args_are
      (x.typed_calls calling.called one c left (subst (λ (program : CProgram). IsTypedCall program calling.called) x.means.program typed) calls.callee_is
      (subst (λ (program : CProgram). IsTypedMemory program (blocks_of c)) x.means.program here.typed.scene.memory) here.typed.allocated
      (subst (λ (program : CProgram). AreOwned program c.held x.s.statics) x.means.program (owned_back x.home.program c.held x.c_frame x.s.statics here.typed.owned)))

  module _ (place : Option Ptr) (given : List Typed) (call_stands : CallStands x.s last place one means.tree (values_of_args operands) given c w) (fits : accepts (own_signature means.tree).params false given ≡ true)
      (aligned : (later : Images) (others : Blocks) (value : CValue) (back : Option Typed) → GivesBack later others (align_or (result_laid x.s one)) place value back → GivesBack later others (align_in (setting_in x.s) type) place value back) where
    abbrev Meets : CValue → World → Option Typed → World → Type 0
    Meets value c1 back w1 = CallMeets last place (align_or (result_laid x.s one)) means.tree.result c w value c1 back w1 × CallIsTyped x.s.program calling.called c value c1

    abbrev pub crate_run : ℕ → Ran (Stop Cause) World (Option Typed)
    crate_run k = call_found x.frame.bodies given (Some (own means.tree)) w k

    both_run : Owes events_of events_of Meets x.units x.steps c_run crate_run
    both_run =
        known events_of events_of (CallMeets last place (align_or (result_laid x.s one)) means.tree.result c w) (CallIsTyped x.s.program calling.called c) x.units x.steps c_run crate_run call_ends
        (subst (λ (bodies : Bodies). Owes events_of events_of (CallMeets last place (align_or (result_laid x.s one)) means.tree.result c w) x.units x.steps c_run (λ k. call_found bodies given (Some (own means.tree)) w k)) (sym here.frames.bodies)
        (call_node_owes x.s x.units x.steps last place one means.tree (values_of_args operands) given c w x.promise call_stands fits))

    came_so : (value : CValue) (c1 : World) (back : Option Typed) (w1 : World) → Meets value c1 back w1 → Came x place means.tree.result type last c w (record { type = type; value = value; marks = calling.marks }) c1 back w1
    came_so value c1 back w1 (meets, end) =
        let memory = subst (λ (program : CProgram). IsTypedMemory program (blocks_of c1)) (sym x.means.program) end.memory in
        record {
          later = meets.later;
          keeps = meets.stays;
          at = at_after x last meets.later (is_place place) c w c1 w1 here meets.stays meets.worlds (typed_kept x.home (scope x) c c1 end.keeps memory end.allocated here.typed);
          typed = meets.typed;
          of_type = meets.of_type;
          gives = aligned meets.later (blocks_of w1) value back meets.gives;
          returned = subst (λ (t : CTy). IsReturned x.home.program t value) calls.type_is (subst (λ (program : CProgram). IsReturned program calling.called.type value) (sym x.means.program) end.returned);
        }

    abbrev pub node_run : ℕ → CRan COperand
    node_run = tick c (λ left. c_callee (setting_in x.s) (c_calls x.s) type calling calling.called.callee c left)

    abbrev gives_back : CValue → World → ℕ → CRan COperand
    gives_back value after = gives_operand type value calling.marks after

    abbrev node_of : CCallee → List COperand → ℕ → CRan COperand
    node_of callee list = tick c (λ left. c_callee (setting_in x.s) (c_calls x.s) type (record calling { called = record calling.called { args = list } }) callee c left)

    node_is : (k : ℕ) → bind (c_run k) gives_back ≡ node_run k
    node_is k =
        bind_tick c (c_calls x.s one (values_of_args operands) c) gives_back k
        ∙ ap (λ (callee : CCallee). node_of callee operands k) (sym calls.callee_is)
        ∙ ap (λ (list : List COperand). node_of calling.called.callee list k) (sym calls.args_are)

    -- the node, beside the call of the crate
    pub node_owes : Owes events_of events_of (Came x place means.tree.result type last c w) x.units x.steps node_run crate_run
    node_owes =
        renamed events_of events_of (Came x place means.tree.result type last c w) x.units x.steps (λ k. bind (c_run k) gives_back) node_run (λ k. bind (crate_run k) (λ back w1 left. came back w1 left)) crate_run node_is (λ k. bind_came (crate_run k))
        (pieces events_of events_of Meets (Came x place means.tree.result type last c w) c_run crate_run gives_back (λ back w1 left. came back w1 left) x.units x.steps both_run (λ back w1. (refl, refl)) (λ value c1 back w1 it.
        values events_of events_of (Came x place means.tree.result type last c w) x.units x.steps (record { type = type; value = value; marks = calling.marks }) c1 back w1 (came_so value c1 back w1 it)))
