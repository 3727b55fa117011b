-- Calls by name, as nodes of an expression (ISO C99, 6.5.2.2; the Rust Reference, "Call expressions").
use Rattle.std.proofs.Common.{◌≡◌, ℕ, ◌≤◌, Bool, true, false, not, if◌then◌else◌, ◌&&◌, ◌||◌, List, [], ◌∷◌, ◌++◌, Option, Some, None, Result, Ok, Err, refl, sym, subst, ◌∙◌, arith}
use Rattle.std.specs.Option.{option_and_then}
use Rattle.std.specs.Prelude.{nat_le, IsTrue}
use Rattle.cr_base.specs.declared.layout.Laid.{Laid}
use Rattle.cr_base.specs.declared.refusal.Place.{Place}
use Rattle.cr_runs.specs.Runs.{tick}
use Rattle.cr_world.specs.World.{World, blocks_of}
use Rattle.cr_base.specs.Layout.{most_bytes}
use Rattle.cx_core.specs.Layouts.{extent, whole_extent, within_most, layouts_of}
use Rattle.cx_core.specs.Trees.{CProgram, CTy, CExpr, expr, call, CExprs, CFun, type_of}
use Rattle.cx_core.specs.Typing.{function_with, IsTyped}
use Rattle.cx_mean.specs.Calls.{CCalling, node_calling}
use Rattle.cx_mean.specs.Leftmost.{CRan, c_callee, c_call}
use Rattle.cx_mean.specs.Operands.{CWhy, COperand, united_operands}
use Rattle.cx_mean.specs.Settings.{extent_in}
use Rattle.cx_typed_work.specs.Operands.{may_lack}
use Rattle.lift_calls.specs.Calls.{ResultPlace}
use Rattle.lift_calls.specs.Programs.{setting_in, c_calls}
use Rattle.lift_does.proofs.Alignments.{extent_align}
use Rattle.lift_does.proofs.Arguments.{EachOwes, ArgsGiven, ArgsDid, args_owe}
use Rattle.lift_does.proofs.Around.{Around, At, DidOf, OweAs, Reached, value_in}
use Rattle.lift_does.proofs.CallEnds.{Served, NodeCame, alone_owes, stored_owes, placed_owes, room_in, room_ready, room_address}
use Rattle.lift_does.proofs.NamedCalls.{own_serves, own_serves_at}
use Rattle.lift_does.proofs.Nodes.{and_then_is, PartOwes}
use Rattle.lift_does.proofs.Reaching.{reached_then}
use Rattle.lift_does.proofs.RecordTypes.{lack_complete, extent_there}
use Rattle.lift_does.proofs.Runs.{step_owes, same_events, weaker_owes}
use Rattle.lift_does.proofs.Unary.{ExprOwes}
use Rattle.lift_does.specs.Does.{is_fixed, IsAsked}
use Rattle.lift_exprs.specs.Calls.{Argument, Called, Arguments, result_type, result_argument, called_by_name, called_for_record, called_for_value, called_alone, called_with}
use Rattle.lift_exprs.specs.Lifted.{lifted_args}
use Rattle.lift_exprs.specs.Names.{Names, type_in}
use Rattle.lift_exprs.specs.Written.{Written, a_value, value_kind, then_held, held_where, temporary_place}
use Rattle.lift_forms.specs.Operators.{as_type}
use Rattle.lift_forms_laws.specs.Gives.{GivesAt}
use Rattle.lift_held.specs.Held.{is_void, is_record}
use Rattle.lift_held.specs.declared.asked.Asked.{Asked}
use Rattle.lift_stands.specs.Stands.{Images}
use Rattle.mem_bytes.specs.declared.value.Ptr.{Ptr}
use Rattle.mem_bytes.specs.declared.value.Value.TheVariants.{Object}
use Rattle.rs_text.specs.Tree.{Ty, Pointer, Expr, AddressOf, Stmt, Assign, Eval}

-- the size and alignment of a type that isn't too large
whole_is : (found : Option Laid) (laid : Laid) → option_and_then within_most found ≡ Some laid → found ≡ Some laid
whole_is None laid e = cc (e)
whole_is (Some one) laid e = by (nat_le one.size most_bytes) e
  where
    by : (test : Bool) → (if test then Some one else None) ≡ Some laid → Some one ≡ Some laid
    by true is = is
    by false is = cc (is)

-- ---- what is written

-- whether a call is held, and what is written for one that is
abbrev pub held_call : Names → Asked → CTy → Written → Written
held_call names asked type one = held_where ((is_record type || ((asked.used && true) || (asked.is_base && false))) && not (is_record type)) names (value_kind names type) one

record_written : (names : Names) (asked : Asked) (type : CTy) (called : Called) (args : Arguments) → is_record type ≡ true → held_call names asked type (called_with names asked.used type called args) ≡ called_for_record names type called args
record_written names asked type called args of_it = rw (of_it) refl

value_written : (names : Names) (asked : Asked) (type : CTy) (called : Called) (args : Arguments) → is_record type ≡ false → asked.used ≡ true → is_void type ≡ false →
    held_call names asked type (called_with names asked.used type called args) ≡ then_held names (a_value (type_in names type)) (called_for_value names type called args)
value_written names asked type called args plain used some = rw (plain, used, some) refl

alone_written : (names : Names) (asked : Asked) (type : CTy) (called : Called) (args : Arguments) → is_record type ≡ false → asked.used ≡ false → asked.is_base ≡ false →
    held_call names asked type (called_with names asked.used type called args) ≡ called_alone called args
alone_written names asked type called args plain unused no_base = rw (plain, unused, no_base) refl

module _ (x : Around) where
  -- ---- behind the arguments

  pub node_did : (used more : Bool) (e : CExpr) (written : Written) (from mid : ℕ) (images last : Images) (c0 w0 c2 w2 : World) (source : ℕ → CRan COperand) (list : List Stmt) → At x images c0 w0 → Reached x from mid images last c0 w0 c2 w2 → from ≤ mid → mid ≤ written.next →
      OweAs x (NodeCame x used e written.given mid written.next last c2 w2) source list w2 → OweAs x (DidOf x used more e written from images c0 w0) source list w2
  node_did used more e written from mid images last c0 w0 c2 w2 source list here reached p q owes =
      weaker_owes x (NodeCame x used e written.given mid written.next last c2 w2) (DidOf x used more e written from images c0 w0) source list w2 (λ operand c3 flow w3 came.
      let both = reached_then x from mid written.next images last came.later c0 w0 c2 w2 c3 w3 p q here reached came.reached in
      record {
        flow_is = came.flow_is;
        later = came.later;
        own = both.own;
        are_own = both.are_own;
        keeps = both.keeps;
        worlds = both.at.worlds;
        gives = λ final c_later after later. came.gives final after later.extends later.temporaries;
      }) owes

  -- where a call is reached, it is written for what C does there
  pub record Serving (type : CTy) (called : Called) (list : List Argument) (source : ℕ → CRan COperand) (images : Images) (c w : World) : Type 0 where
    pub at : At x images c w
    pub plain : is_record type ≡ false → Served x None type called.result (called.call list) source images c w
    -- with a place for a structure or union, whose address is passed first
    pub placed : (place : Ptr) (address : Expr) (laid : Laid) → is_record type ≡ true → extent_in (setting_in x.s) type ≡ Some laid → ResultPlace images (blocks_of w) laid place → GivesAt x.frame w address (Pointer (type_in x.names type)) (Object place) →
        Served x (Some place) type called.result (called.call (result_argument (type_in x.names type) address ∷ list)) source images c w

  -- what is written behind the arguments owes what C does where the call is reached
  abbrev pub Reaches : (asked : Asked) → CExpr → Called → Arguments → (from : ℕ) → Images → (c w : World) → Type 0
  Reaches asked e called args from images c w =
      (more : Bool) (written : Written) (list : List Stmt) → written.body ≡ args.written.body ++ list → args.written.next ≤ written.next →
      ((last : Images) (c2 w2 : World) (source : ℕ → CRan COperand) → Serving (type_of e) called args.list source last c2 w2 → OweAs x (NodeCame x asked.used e written.given args.written.next written.next last c2 w2) source list w2) →
      PartOwes x asked.used more e written from images c w

  module _ (asked : Asked) (e : CExpr) (called : Called) (args : Arguments) (from : ℕ) (images : Images) (c w : World) (here : At x images c w) (typed : IsTyped x.home e) (reaches : Reaches asked e called args from images c w) where
    abbrev end : ℕ
    end = args.written.next

    abbrev type : CTy
    type = type_of e

    abbrev T : Ty
    T = type_in x.names (type_of e)

    abbrev IsKeptAt : Type 0
    IsKeptAt = x.kept.temporaries end ≡ Some (record { name = x.names.temporary end; ty = T })

    call_placed : (more : Bool) → is_record type ≡ true → IsTrue (may_lack e) → IsKeptAt → PartOwes x asked.used more e (called_for_record x.names type called args) from images c w
    call_placed more of_it lacks kept_is =
        let address = AddressOf (temporary_place x.names end) in
        let laid = extent_there x type (lack_complete x.home e typed lacks of_it) in
        let types = x.home.program.types in
        let sized : whole_extent (layouts_of types) type ≡ Some laid.0 =
        whole_is (whole_extent (layouts_of types) type) laid.0 (subst (λ (program : CProgram). extent (layouts_of program.types) type ≡ Some laid.0) (sym x.means.program) laid.1) in
        reaches more (called_for_record x.names type called args) (Eval (called.call (result_argument T address ∷ args.list)) ∷ []) refl (omega arith) (λ last c2 w2 source serves.
        placed_owes x asked.used e end laid.0 laid.1 of_it kept_is (called.call (result_argument T address ∷ args.list)) called.result source last c2 w2 serves.at
        (serves.placed (room_in x end type kept_is last c2 w2 serves.at) address laid.0 of_it laid.1
        (room_ready x end type kept_is last c2 w2 serves.at laid.0 laid.1 (extent_align types type laid.0 here.typed.scene.linked.types sized)) (room_address x end type kept_is last c2 w2 serves.at)))

    call_stored : (more : Bool) → is_record type ≡ false → is_void type ≡ false → IsKeptAt → PartOwes x asked.used more e (then_held x.names (a_value T) (called_for_value x.names type called args)) from images c w
    call_stored more plain some kept_is =
        reaches more (then_held x.names (a_value T) (called_for_value x.names type called args)) (Assign (temporary_place x.names end) (as_type (result_type called.result) T (called.call args.list)) ∷ []) refl (omega arith)
        (λ last c2 w2 source serves.
        stored_owes x asked.used e (called.call args.list) end source last c2 w2 serves.at kept_is called.result some plain (serves.plain plain))

    call_alone : (more : Bool) → is_record type ≡ false → asked.used ≡ false → PartOwes x asked.used more e (called_alone called args) from images c w
    call_alone more plain unused =
        reaches more (called_alone called args) (Eval (called.call args.list) ∷ []) refl (omega arith) (λ last c2 w2 source serves.
        alone_owes x asked.used e (called.call args.list) called.result end source last c2 w2 (λ used. let clash : true ≡ false = sym used ∙ unused in cc (clash)) (serves.plain plain))

    -- the three ways to write a call
    pub call_owes : IsAsked asked e → IsTrue (may_lack e) → ((is_record type || asked.used) ≡ true → IsKeptAt) → PartOwes x asked.used (is_fixed asked e) e (held_call x.names asked type (called_with x.names asked.used type called args)) from images c w
    call_owes asked_is lacks kept_is = by (is_record type) asked.used refl refl
      where
        more : Bool
        more = is_fixed asked e

        no_base : asked.used ≡ false → (test : Bool) → asked.is_base ≡ test → test ≡ false
        no_base unused true is = let clash : true ≡ false = sym (asked_is.base is) ∙ unused in cc (clash)
        no_base unused false is = refl

        by : (of_it used : Bool) → is_record type ≡ of_it → asked.used ≡ used → PartOwes x asked.used (is_fixed asked e) e (held_call x.names asked type (called_with x.names asked.used type called args)) from images c w
        by true used of_it is =
            subst (λ (written : Written). PartOwes x asked.used (is_fixed asked e) e written from images c w) (sym (record_written x.names asked type called args of_it))
            (call_placed (is_fixed asked e) of_it lacks (kept_is (rw (of_it) refl)))
        by false true plain is =
            subst (λ (written : Written). PartOwes x asked.used (is_fixed asked e) e written from images c w) (sym (value_written x.names asked type called args plain is (asked_is.used is)))
            (call_stored (is_fixed asked e) plain (asked_is.used is) (kept_is (rw (plain, is) refl)))
        by false false plain is =
            subst (λ (written : Written). PartOwes x asked.used (is_fixed asked e) e written from images c w) (sym (alone_written x.names asked type called args plain is (no_base is asked.is_base refl)))
            (call_alone (is_fixed asked e) plain is)

  -- ---- by name

  module _ (asked : Asked) (type : CTy) (at : Place) (number : ℕ) (args : CExprs) (from : ℕ) (images : Images) (c w : World) (here : At x images c w) (typed : IsTyped x.home (expr type at (call number args))) (owes : EachOwes x args from) where
    abbrev named : CExpr
    named = expr type at (call number args)

    abbrev given_args : Arguments
    given_args = lifted_args x.names args from

    abbrev run_of : World → CCalling → ℕ → CRan COperand
    run_of c2 calling = tick c2 (λ left. c_callee (setting_in x.s) (c_calls x.s) type calling calling.called.callee c2 left)

    -- the function serves wherever C's step has a meaning
    abbrev pub Serves : Type 0
    Serves =
        (operands : List COperand) (last : Images) (c2 w2 : World) → At x last c2 w2 → ArgsGiven x last w2 args from operands → (calling : CCalling) → node_calling (setting_in x.s) type at (call number args) operands ≡ Ok calling →
        Serving type (called_by_name x.names number) given_args.list (run_of c2 calling) last c2 w2

    pub named_reaches : from ≤ given_args.written.next → Serves → Reaches asked named (called_by_name x.names number) given_args from images c w
    named_reaches p serves more written list body_is q behind =
        subst (λ (body : List Stmt). OweAs x (DidOf x asked.used more named written from images c w) (value_in x named c) body w) (sym body_is)
        (args_owe x (DidOf x asked.used more named written from images c w) (λ operands after. c_call (setting_in x.s) (c_calls x.s) at type after (node_calling (setting_in x.s) type at (call number args) operands)) list args from images c w here typed.1.0 owes
        (λ operands last c2 w2 did.
        by operands last c2 w2 did (node_calling (setting_in x.s) type at (call number args) operands) refl))
      where
        by : (operands : List COperand) (last : Images) (c2 w2 : World) → ArgsDid x args from images c w operands last c2 w2 → (outcome : Result CCalling CWhy) → node_calling (setting_in x.s) type at (call number args) operands ≡ outcome →
            OweAs x (DidOf x asked.used more named written from images c w) (c_call (setting_in x.s) (c_calls x.s) at type c2 outcome) list w2
        by operands last c2 w2 did (Err why) is =
            step_owes x (DidOf x asked.used more named written from images c w) at (Err why) (λ one. c_callee (setting_in x.s) (c_calls x.s) type one one.called.callee) list c2 w2 (same_events last c2 w2 did.reached.at.worlds) (λ one found. cc (found))
        by operands last c2 w2 did (Ok calling) is =
            let united = and_then_is (united_operands operands) _ calling is in
            node_did asked.used more named written from given_args.written.next images last c w c2 w2 (run_of c2 calling) list here did.reached p q
            (behind last c2 w2 (run_of c2 calling) (serves operands last c2 w2 did.reached.at (did.gives united.0 united.1) calling is))

    -- one that the program defines
    pub defined_serves : (one : CFun) → function_with number x.s.program.functions ≡ Some one → Serves
    defined_serves one defined_is operands last c2 w2 there given calling is = record {
      at = there;
      plain = λ plain. own_serves x type at number args from typed operands last c2 w2 there given calling is one defined_is plain;
      placed = λ place address laid of_it laid_is ready gives. own_serves_at x type at number args from typed operands last c2 w2 there given calling is one defined_is place address laid of_it laid_is ready gives;
    }

    pub named_owes : Serves → IsAsked asked named → from ≤ given_args.written.next →
        ((is_record type || asked.used) ≡ true → x.kept.temporaries given_args.written.next ≡ Some (record { name = x.names.temporary given_args.written.next; ty = type_in x.names type })) → ExprOwes x asked named from images c w
    named_owes serves asked_is p kept_is = call_owes asked named (called_by_name x.names number) given_args from images c w here typed (named_reaches p serves) asked_is refl kept_is
