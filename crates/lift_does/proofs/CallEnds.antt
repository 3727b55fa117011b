-- Where the result of a call goes: to a temporary, to a place to which a first argument points, or nowhere (ISO C99, 6.5.2.2 and 6.9.1p12; the Rust Reference, "Call expressions").
use Rattle.std.proofs.Common.{◌≡◌, ℕ, suc, ◌<◌, Bool, true, false, List, [], ◌∷◌, length, Option, Some, None, Ok, refl, sym, ap, subst, ◌∙◌, arith}
use Rattle.std.proofs.lemmas.Bool.Decides.{nat_tests}
use Rattle.std.specs.Prelude.{◌==◌}
use Rattle.cr_base.specs.declared.layout.Laid.{Laid}
use Rattle.cr_base.specs.declared.scalar.Scalar.{Scalar}
use Rattle.cr_runs.proofs.Rules.{pieces, values, renamed, bind_came}
use Rattle.cr_runs.specs.Owes.{Owes}
use Rattle.cr_runs.specs.Runs.{Ran, came, bind}
use Rattle.cr_world.specs.World.{World, Stop, blocks_of, events_of}
use Rattle.cx_core.specs.Trees.{CTy, CExpr, type_of}
use Rattle.cx_mean.specs.Leftmost.{CRan}
use Rattle.cx_mean.specs.Operands.{CValue, scalar, cells, names, designates, designates_bits, missing, COperand}
use Rattle.cx_mean.specs.Settings.{extent_in}
use Rattle.cx_typed_work.specs.Calls.{IsReturned}
use Rattle.lift_calls.specs.Calls.{ResultPlace, is_place, type_in as type_of_given, IsOfItsType, GivesBack}
use Rattle.lift_calls.specs.Frames.{KeptTemporary, IsLocal}
use Rattle.lift_calls.specs.Programs.{setting_in}
use Rattle.lift_does.proofs.Around.{Around, At, OweAs, Reached, runs}
use Rattle.lift_does.proofs.CallRuns.{passes, goes_on_behind, stored_behind, stored_behaves}
use Rattle.lift_does.proofs.Copies.{TemporaryKeeps, keeps_staying, kept_place, keeps_address, keeps_part, keeps_based, temporary_address}
use Rattle.lift_does.proofs.Held.{to_missing}
use Rattle.lift_does.proofs.Nodes.{GivesUsed}
use Rattle.lift_does.proofs.Operands.{other_based, where_used}
use Rattle.lift_does.proofs.Passed.{value_passes}
use Rattle.lift_does.proofs.Reaching.{same_local, reached_then}
use Rattle.lift_does.proofs.Records.{to_room}
use Rattle.lift_does.proofs.Temporaries.{seq_comes, TemporaryHolds, stores_value, reads_staying}
use Rattle.lift_does.specs.Gives.{GivesOperand}
use Rattle.lift_does.specs.Later.{TemporariesStay}
use Rattle.lift_exprs.specs.Calls.{result_type}
use Rattle.lift_exprs.specs.Names.{type_in}
use Rattle.lift_exprs.specs.Written.{temporary_place}
use Rattle.lift_forms.specs.Given.{Given}
use Rattle.lift_forms.specs.Given as given_form
use Rattle.lift_forms.specs.Operators.{as_type}
use Rattle.lift_forms_laws.proofs.Runs.{pure_is}
use Rattle.lift_forms_laws.specs.Gives.{GivesAt}
use Rattle.lift_held.specs.Held.{is_void, is_record}
use Rattle.lift_stands.proofs.Images.{cells_stay, value_stays}
use Rattle.lift_stands.specs.Keeps.{KeepsOthers}
use Rattle.lift_stands.specs.Stands.{Images, Extends, PlaceHolds}
use Rattle.lift_stands_values.specs.Given.{align_in}
use Rattle.mem_bytes.proofs.Reached.{part_inside}
use Rattle.mem_bytes.specs.Access.{live_read, record_part_of, part_at}
use Rattle.mem_bytes.specs.Coding.{IsValueOf}
use Rattle.mem_bytes.specs.Memory.{Block, Blocks, live_block, size_of}
use Rattle.mem_bytes.specs.declared.cell.Cell.{Cell}
use Rattle.mem_bytes.specs.declared.value.Ptr.{Ptr}
use Rattle.mem_bytes.specs.declared.value.Value.TheVariants.{Object}
use Rattle.rs_mean.specs.Layout.{laid_of}
use Rattle.rs_mean.specs.Lookups.{LocalBlock}
use Rattle.rs_mean.specs.Run.{Flow, normal, run_place, the_value, goes_on, then_on}
use Rattle.rs_mean.specs.Calls.{store}
use Rattle.rs_mean.specs.Scalars.{scalar_of}
use Rattle.rs_mean.specs.Values.{Typed, typed}
use Rattle.rs_mean.specs.World.{Run, pure, seq}
use Rattle.rs_mean.specs.declared.cause.Cause.{Cause}
use Rattle.rs_text.specs.Tree.{Ty, Pointer, OptionTy, option_ty, Place, Expr, Read, AddressOf, Assign, Eval}

-- what is given has the type that is wanted
given_some : (given : Option Typed) (from : Ty) → type_of_given given ≡ Some from → (one : Typed) × (given ≡ Some one) × (one.ty ≡ from)
given_some None from e = cc (e)
given_some (Some one) from e = (one, refl, cc (e))

number_equal : (n m : ℕ) → (n == m) ≡ true → n ≡ m
number_equal n m is = grind (arith, nat_tests, is)

-- the result of a call is a scalar that a temporary of a type takes
pub record IsPassed (own : Option Ty) (ty : Ty) : Type 0 where
  pub from : Ty
  pub own_is : own ≡ Some from
  pub kind : Scalar
  pub from_kind : scalar_of from ≡ Some kind
  pub kind_is : scalar_of ty ≡ Some kind

module _ (x : Around) where
  -- where a call has come to its end, on both sides
  pub record Came (place : Option Ptr) (own : Option Ty) (type : CTy) (images : Images) (c0 w0 : World) (operand : COperand) (c1 : World) (given : Option Typed) (w1 : World) : Type 0 where
    pub later : Images
    pub keeps : KeepsOthers (length (blocks_of w0)) (is_place place) images later c0.held c1.held w0.held w1.held
    pub at : At x later c1 w1
    pub typed : type_of_given given ≡ own
    pub of_type : IsOfItsType given
    pub gives : GivesBack later (blocks_of w1) (align_in (setting_in x.s) type) place operand.value given
    pub returned : IsReturned x.home.program type operand.value

  -- a call is written for what C does at a node behind its operands
  pub record Served (place : Option Ptr) (type : CTy) (result : OptionTy) (call : Expr) (source : ℕ → CRan COperand) (images : Images) (c0 w0 : World) : Type 0 where
    pub target : ℕ → Ran (Stop Cause) World (Option Typed)
    pub own : Option Ty
    pub result_is : result ≡ option_ty own
    pub kinds : is_void type ≡ false → is_record type ≡ false → IsPassed own (type_in x.names type)
    pub owes : Owes events_of events_of (Came place own type images c0 w0) x.units x.steps source target
    pub dropped : (k : ℕ) → runs x (Eval call ∷ []) w0 k ≡ bind (target k) (goes_on_behind x)
    pub stored : (from to : Ty) (p : Place) (k : ℕ) → runs x (Assign p (as_type from to call) ∷ []) w0 k ≡ bind (target k) (stored_behind x from to p)

  -- and so the node has come to its end, with what was written behind the call
  pub record NodeCame (used : Bool) (e : CExpr) (given : Given) (number next : ℕ) (images : Images) (c0 w0 : World) (operand : COperand) (c1 : World) (flow : Flow) (w1 : World) : Type 0 where
    pub flow_is : flow ≡ normal
    pub later : Images
    pub reached : Reached x number next images later c0 w0 c1 w1
    pub gives : (last : Images) (world : World) → Extends later last → TemporariesStay x.kept x.frame next w1 world → GivesUsed x used last world e given operand.value

  abbrev temporary_of : ℕ → CTy → KeptTemporary
  temporary_of number type = record { name = x.names.temporary number; ty = type_in x.names type }

  came_reached : (number : ℕ) (own : Option Ty) (type : CTy) (images : Images) (c0 w0 : World) (operand : COperand) (c1 : World) (given : Option Typed) (w1 : World) → (it : Came None own type images c0 w0 operand c1 given w1) →
      Reached x number number images it.later c0 w0 c1 w1
  came_reached number own type images c0 w0 operand c1 given w1 it = record { own = is_place None; are_own = λ block is. cc (is); keeps = it.keeps; at = it.at }

  -- ---- its value isn't used

  pub alone_owes : (used : Bool) (e : CExpr) (call : Expr) (result : OptionTy) (number : ℕ) (source : ℕ → CRan COperand) (images : Images) (c0 w0 : World) → (used ≡ true → ⊥) → Served None (type_of e) result call source images c0 w0 →
      OweAs x (NodeCame used e given_form.nothing number number images c0 w0) source (Eval call ∷ []) w0
  alone_owes used e call result number source images c0 w0 unused served =
      let Good = NodeCame used e given_form.nothing number number images c0 w0 in
      renamed events_of events_of Good x.units x.steps (λ k. bind (source k) (λ a s left. came a s left)) source (λ k. bind (served.target k) (goes_on_behind x)) (runs x (Eval call ∷ []) w0)
      (λ k. bind_came (source k)) (λ k. sym (served.dropped k))
      (pieces events_of events_of (Came None served.own (type_of e) images c0 w0) Good source served.target (λ a s left. came a s left) (goes_on_behind x) x.units x.steps served.owes (λ given w. (refl, refl))
      (λ operand c1 given w1 it.
      values events_of events_of Good x.units x.steps operand c1 normal w1 (record {
        flow_is = refl;
        later = it.later;
        reached = came_reached number served.own (type_of e) images c0 w0 operand c1 given w1 it;
        gives = λ last world extends stay. where_used used x last world e given_form.nothing operand.value (λ is. absurd (unused is));
      })))

  -- ---- a scalar is stored in a temporary

  abbrev pub read_of : ℕ → Given
  read_of number = given_form.value (Read (temporary_place x.names number))

  one_passes : (from to : Ty) (kind : Scalar) (one : Typed) (world : World) (units : ℕ) → one.ty ≡ from → scalar_of from ≡ Some kind → scalar_of to ≡ Some kind → IsValueOf kind one.value → passes from to one world units ≡ came (typed to one.value) world units
  one_passes from to kind one world units ty_is from_kind to_kind is =
      ap (λ (t : Ty). passes from to (typed t one.value) world units) ty_is ∙ value_passes from to kind one.value world units from_kind to_kind is

  stored_comes : (from to : Ty) (number : ℕ) (kind : Scalar) (given : Option Typed) (one : Typed) (world after : World) (units : ℕ) → given ≡ Some one → one.ty ≡ from → scalar_of from ≡ Some kind → scalar_of to ≡ Some kind → IsValueOf kind one.value →
      seq (run_place x.frame (temporary_place x.names number)) (λ place. seq (store place one.value) goes_on) world units ≡ came normal after units →
      stored_behind x from to (temporary_place x.names number) given world units ≡ came normal after units
  stored_comes from to number kind given one world after units given_is ty_is from_kind to_kind is comes =
      let p = temporary_place x.names number in
      let stores : Typed → Run Flow = λ stored. seq (seq (run_place x.frame p) (λ place. seq (store place stored.value) goes_on)) (then_on (pure normal)) in
      ap (λ (found : Option Typed). stored_behind x from to p found world units) given_is
      ∙ seq_comes (seq (the_value (Some one)) (passes from to)) stores world world units (typed to one.value)
      (seq_comes (the_value (Some one)) (passes from to) world world units one (pure_is one world units) ∙ one_passes from to kind one world units ty_is from_kind to_kind is)
      ∙ seq_comes (seq (run_place x.frame p) (λ place. seq (store place one.value) goes_on)) (then_on (pure normal)) world after units normal comes
      ∙ pure_is normal after units

  -- what it holds stands for what was given back
  read_gives : (e : CExpr) (number : ℕ) (kind : Scalar) (of_c : CValue) (one : Typed) (align : ℕ) (later last : Images) (others : Blocks) (after world : World) → is_void (type_of e) ≡ false → is_record (type_of e) ≡ false →
      scalar_of (type_in x.names (type_of e)) ≡ Some kind → IsValueOf kind one.value → TemporaryHolds x number (type_in x.names (type_of e)) kind one.value after → Extends later last → TemporariesStay x.kept x.frame (suc number) after world →
      GivesBack later others align None of_c (Some one) → GivesOperand x.s x.names last x.c_frame x.frame world e (read_of number) of_c
  read_gives e number kind (scalar value) one align later last others after world some plain kind_is is holds extends stay gave = record {
    stands = record {
      other = one.value;
      gives = reads_staying x number (suc number) (type_in x.names (type_of e)) kind one.value after world (omega arith) holds stay;
      below = value_stays later last value one.value extends gave;
    };
    based = other_based x world (read_of number) (λ p same. cc (same));
  }
  read_gives e number kind missing one align later last others after world some plain kind_is is holds extends stay gave =
      to_missing x world (type_of e) (read_of number) some plain (record {
        kind = kind;
        kind_is = kind_is;
        other = one.value;
        gives = reads_staying x number (suc number) (type_in x.names (type_of e)) kind one.value after world (omega arith) holds stay;
        of_kind = is;
      })
  read_gives e number kind (cells list from) one align later last others after world some plain kind_is is holds extends stay gave = absurd gave
  read_gives e number kind (names other) one align later last others after world some plain kind_is is holds extends stay gave = absurd gave
  read_gives e number kind (designates to) one align later last others after world some plain kind_is is holds extends stay gave = absurd gave
  read_gives e number kind (designates_bits to bit width) one align later last others after world some plain kind_is is holds extends stay gave = absurd gave

  module _ (used : Bool) (e : CExpr) (call : Expr) (number : ℕ) (source : ℕ → CRan COperand) (images : Images) (c0 w0 : World) (here : At x images c0 w0) (kept_is : x.kept.temporaries number ≡ Some (temporary_of number (type_of e))) where
    abbrev T : Ty
    T = type_in x.names (type_of e)

    -- the store behind the call
    stored_ends : (passed_from : Ty) (kind : Scalar) (own : Option Ty) (operand : COperand) (c1 : World) (given : Option Typed) (w1 : World) → is_void (type_of e) ≡ false → is_record (type_of e) ≡ false → own ≡ Some passed_from →
        scalar_of passed_from ≡ Some kind → scalar_of T ≡ Some kind → Came None own (type_of e) images c0 w0 operand c1 given w1 →
        (after : World) × ((units : ℕ) → stored_behind x passed_from T (temporary_place x.names number) given w1 units ≡ came normal after units)
        × NodeCame used e (read_of number) number (suc number) images c0 w0 operand c1 normal after
    stored_ends passed_from kind own operand c1 given w1 some plain own_is from_kind to_kind it =
        let one = given_some given passed_from (it.typed ∙ own_is) in
        let is : IsValueOf kind one.0.value = subst IsOfItsType one.1 it.of_type kind (ap scalar_of one.2 ∙ from_kind) in
        let stored = stores_value x number T kind one.0.value it.later c1 w1 it.at kept_is to_kind is in (
          stored.after,
          λ units. stored_comes passed_from T number kind given one.0 w1 stored.after units one.1 one.2 from_kind to_kind is (stored.comes units),
          record {
            flow_is = refl;
            later = it.later;
            reached =
                reached_then x number number (suc number) images it.later it.later c0 w0 c1 w1 c1 stored.after (omega arith) (omega arith) here (came_reached number own (type_of e) images c0 w0 operand c1 given w1 it) stored.reached;
            gives = λ last world extends stay. where_used used x last world e (read_of number) operand.value (λ _.
                read_gives e number kind operand.value one.0 (align_in (setting_in x.s) (type_of e)) it.later last (blocks_of w1) stored.after world some plain to_kind is stored.holds extends stay
                (subst (GivesBack it.later (blocks_of w1) (align_in (setting_in x.s) (type_of e)) None operand.value) one.1 it.gives));
          },
        )

    stored_by : (from : Ty) (result : OptionTy) (served : Served None (type_of e) result call source images c0 w0) (passed : IsPassed served.own T) → from ≡ passed.from → is_void (type_of e) ≡ false → is_record (type_of e) ≡ false →
        OweAs x (NodeCame used e (read_of number) number (suc number) images c0 w0) source (Assign (temporary_place x.names number) (as_type from T call) ∷ []) w0
    stored_by from result served passed from_is some plain =
        let Good = NodeCame used e (read_of number) number (suc number) images c0 w0 in
        let p = temporary_place x.names number in
        subst (λ (t : Ty). OweAs x Good source (Assign p (as_type t T call) ∷ []) w0) (sym from_is)
        (renamed events_of events_of Good x.units x.steps (λ k. bind (source k) (λ a s left. came a s left)) source (λ k. bind (served.target k) (stored_behind x passed.from T p)) (runs x (Assign p (as_type passed.from T call) ∷ []) w0)
        (λ k. bind_came (source k)) (λ k. sym (served.stored passed.from T p k))
        (pieces events_of events_of (Came None served.own (type_of e) images c0 w0) Good source served.target (λ a s left. came a s left) (stored_behind x passed.from T p) x.units x.steps served.owes
        (λ given w. (stored_behaves x passed.from T p given).rests w)
        (λ operand c1 given w1 it.
        let ends = stored_ends passed.from passed.kind served.own operand c1 given w1 some plain passed.own_is passed.from_kind passed.kind_is it in
        renamed events_of events_of Good x.units x.steps (came operand c1) (came operand c1) (came normal ends.0) (stored_behind x passed.from T p given w1) (λ k. refl) (λ k. sym (ends.1 k))
        (values events_of events_of Good x.units x.steps operand c1 normal ends.0 ends.2))))

    pub stored_owes : (result : OptionTy) → is_void (type_of e) ≡ false → is_record (type_of e) ≡ false → Served None (type_of e) result call source images c0 w0 →
        OweAs x (NodeCame used e (read_of number) number (suc number) images c0 w0) source (Assign (temporary_place x.names number) (as_type (result_type result) T call) ∷ []) w0
    stored_owes result some plain served =
        let passed = served.kinds some plain in
        stored_by (result_type result) result served passed (ap result_type (served.result_is ∙ ap option_ty passed.own_is)) some plain

  -- ---- a structure or union is given back in a temporary

  abbrev pub place_of : ℕ → Given
  place_of number = given_form.value (AddressOf (temporary_place x.names number))

  module _ (number : ℕ) (type : CTy) (kept_is : x.kept.temporaries number ≡ Some (temporary_of number type)) where
    -- the block of the temporary, in some pair of worlds
    local_in : (images : Images) (c w : World) → At x images c w → LocalBlock
    local_in images c w here = (here.frames.temporaries number (temporary_of number type) kept_is).local

    abbrev pub room_in : (images : Images) (c w : World) → At x images c w → Ptr
    room_in images c w here = record { block = (here.frames.temporaries number (temporary_of number type) kept_is).local.block; offset = 0 }

    -- it lives, with the layout of the type
    record HasRoom (images : Images) (c w : World) (here : At x images c w) (laid : Laid) : Type 0 where
      block : Block
      live : live_block (blocks_of w) (here.frames.temporaries number (temporary_of number type) kept_is).local.block ≡ Some block
      size : size_of block ≡ laid.size
      align : block.align ≡ laid.align

    has_room : (images : Images) (c w : World) (here : At x images c w) (laid : Laid) → extent_in (setting_in x.s) type ≡ Some laid → HasRoom images c w here laid
    has_room images c w here laid laid_is =
        let agrees = here.frames.temporaries number (temporary_of number type) kept_is in
        let lives = here.frames.lives agrees.local agrees.is_local.among in
        let same : lives.laid ≡ laid = same_laid lives.laid laid (laid_of x.s.modules (type_in x.names type)) (ap (laid_of x.s.modules) (sym agrees.ty_is) ∙ lives.laid_is) (x.means.laid type laid laid_is) in
        record { block = lives.block; live = lives.live; size = lives.size ∙ ap (λ (l : Laid). l.size) same; align = lives.align ∙ ap (λ (l : Laid). l.align) same }
      where
        same_laid : (one other : Laid) (found : Option Laid) → found ≡ Some one → found ≡ Some other → one ≡ other
        same_laid one other found e f = let same : Some one ≡ Some other = sym e ∙ f in cc (same)

    -- so it is a place for what a function gives back
    pub room_ready : (images : Images) (c w : World) (here : At x images c w) (laid : Laid) → extent_in (setting_in x.s) type ≡ Some laid → 0 < laid.align → ResultPlace images (blocks_of w) laid (room_in images c w here)
    room_ready images c w here laid laid_is some =
        let room = has_room images c w here laid laid_is in
        let align = room.align in
        record { begins = refl; block = room.block; live = room.live; size = room.size; align = omega (arith, align); aligned = omega (arith, align, some); no_image = (here.frames.temporaries number (temporary_of number type) kept_is).no_image }

    pub room_address : (images : Images) (c w : World) (here : At x images c w) → GivesAt x.frame w (AddressOf (temporary_place x.names number)) (Pointer (type_in x.names type)) (Object (room_in images c w here))
    room_address images c w here =
        let agrees = here.frames.temporaries number (temporary_of number type) kept_is in
        temporary_address x (x.names.temporary number) agrees.local (type_in x.names type) w agrees.is_local agrees.ty_is

    kept_room : (images : Images) (c w : World) (here : At x images c w) (laid : Laid) → extent_in (setting_in x.s) type ≡ Some laid → (list : List Cell) × TemporaryKeeps x number (type_in x.names type) laid.size laid.align list w
    kept_room images c w here laid laid_is =
        let agrees = here.frames.temporaries number (temporary_of number type) kept_is in
        let room = has_room images c w here laid laid_is in
        let size = room.size in
        let align = room.align in (
          _,
          record {
            one = temporary_of number type;
            kept_is = kept_is;
            name_is = refl;
            local = agrees.local;
            is_local = agrees.is_local;
            ty_is = agrees.ty_is;
            block = room.block;
            live = room.live;
            part = part_inside room.block 0 laid.size (omega (arith, size));
            aligned = omega (arith, align);
          },
        )

  -- what a place holds where its block is what it was
  place_later : (later last : Images) (others beyond : Blocks) (align : ℕ) (at : Ptr) (list : List Cell) → Extends later last → live_block beyond at.block ≡ live_block others at.block → PlaceHolds later others align (Object at) list →
      PlaceHolds last beyond align (Object at) list
  place_later later last others beyond align at list extends same holds =
      let is : at ≡ holds.at = cc (holds.value_is) in
      let there : live_block beyond holds.at.block ≡ live_block others holds.at.block = subst (λ (p : Ptr). live_block beyond p.block ≡ live_block others p.block) is same in
      record {
        at = holds.at;
        value_is = holds.value_is;
        cells = holds.cells;
        found = ap (λ (slot : Option Block). live_read slot (λ block. record_part_of block holds.at.offset (length list) align)) there ∙ holds.found;
        held = holds.held;
        below = cells_stay later last list holds.cells extends holds.below;
      }

  module _ (used : Bool) (e : CExpr) (number : ℕ) (laid : Laid) (laid_is : extent_in (setting_in x.s) (type_of e) ≡ Some laid) (of_record : is_record (type_of e) ≡ true) (kept_is : x.kept.temporaries number ≡ Some (temporary_of number (type_of e))) where
    same_place : (list : List Cell) (after world : World) (keeps : TemporaryKeeps x number (type_in x.names (type_of e)) laid.size laid.align list after) (now : TemporaryKeeps x number (type_in x.names (type_of e)) laid.size laid.align list world) →
        kept_place x keeps ≡ kept_place x now
    same_place list after world keeps now =
        ap (λ (n : ℕ). record { block = n; offset = 0 })
        (same_local x.frame (x.names.temporary number) keeps.local now.local (subst (λ (name : List ℕ). IsLocal x.frame name keeps.local) keeps.name_is keeps.is_local) (subst (λ (name : List ℕ). IsLocal x.frame name now.local) now.name_is now.is_local))

    placed_gives : (of_c : CValue) (given : Option Typed) (later last : Images) (after world : World) (list : List Cell) → (keeps : TemporaryKeeps x number (type_in x.names (type_of e)) laid.size laid.align list after) → Extends later last →
        (stay : TemporariesStay x.kept x.frame (suc number) after world) → GivesBack later (blocks_of after) (align_in (setting_in x.s) (type_of e)) (Some (kept_place x keeps)) of_c given →
        GivesOperand x.s x.names last x.c_frame x.frame world e (place_of number) of_c
    placed_gives (cells held from) given later last after world list keeps extends stay gave =
        let T = type_in x.names (type_of e) in
        let keeps_now = keeps_staying x number (suc number) T laid.size laid.align list after world (omega arith) keeps stay in
        record {
          at = Object (kept_place x keeps_now);
          gives = keeps_address x number T laid.size laid.align list world keeps_now;
          holds = subst (λ (p : Ptr). PlaceHolds last (blocks_of world) (align_in (setting_in x.s) (type_of e)) (Object p) held) (same_place list after world keeps keeps_now)
              (place_later later last (blocks_of after) (blocks_of world) (align_in (setting_in x.s) (type_of e)) (kept_place x keeps) held extends (stay number keeps.one keeps.local (omega arith) keeps.kept_is keeps.is_local) gave);
          based = keeps_based x number T laid.size laid.align list world keeps_now;
          form = (_, refl);
        }
    placed_gives missing given later last after world list keeps extends stay gave =
        let T = type_in x.names (type_of e) in
        let keeps_now = keeps_staying x number (suc number) T laid.size laid.align list after world (omega arith) keeps stay in
        to_room x world (type_of e) (place_of number) of_record (record {
          at = kept_place x keeps_now;
          gives = keeps_address x number T laid.size laid.align list world keeps_now;
          list = list;
          there = subst (λ (n : ℕ). part_at (blocks_of world) (kept_place x keeps_now) n ≡ Ok list) (sym (x.means.sizes (type_of e) laid laid_is)) (keeps_part x number T laid.size laid.align list world keeps_now);
        })
    placed_gives (scalar value) given later last after world list keeps extends stay gave = absurd gave
    placed_gives (names other) given later last after world list keeps extends stay gave = absurd gave
    placed_gives (designates to) given later last after world list keeps extends stay gave = absurd gave
    placed_gives (designates_bits to bit width) given later last after world list keeps extends stay gave = absurd gave

    -- no two locals have one name
    same_room : (images later : Images) (c0 w0 c1 w1 : World) (before : At x images c0 w0) (after : At x later c1 w1) → room_in number (type_of e) kept_is images c0 w0 before ≡ room_in number (type_of e) kept_is later c1 w1 after
    same_room images later c0 w0 c1 w1 before after =
        let one = before.frames.temporaries number (temporary_of number (type_of e)) kept_is in
        let other = after.frames.temporaries number (temporary_of number (type_of e)) kept_is in
        ap (λ (n : ℕ). record { block = n; offset = 0 }) (same_local x.frame (x.names.temporary number) one.local other.local one.is_local other.is_local)

    pub placed_owes : (call : Expr) (result : OptionTy) (source : ℕ → CRan COperand) (images : Images) (c0 w0 : World) (here : At x images c0 w0) → Served (Some (room_in number (type_of e) kept_is images c0 w0 here)) (type_of e) result call source images c0 w0 →
        OweAs x (NodeCame used e (place_of number) number (suc number) images c0 w0) source (Eval call ∷ []) w0
    unfolding kept_room
    placed_owes call result source images c0 w0 here served =
        let Good = NodeCame used e (place_of number) number (suc number) images c0 w0 in
        let room = room_in number (type_of e) kept_is images c0 w0 here in
        let agrees = here.frames.temporaries number (temporary_of number (type_of e)) kept_is in
        renamed events_of events_of Good x.units x.steps (λ k. bind (source k) (λ a s left. came a s left)) source (λ k. bind (served.target k) (goes_on_behind x)) (runs x (Eval call ∷ []) w0)
        (λ k. bind_came (source k)) (λ k. sym (served.dropped k))
        (pieces events_of events_of (Came (Some room) served.own (type_of e) images c0 w0) Good source served.target (λ a s left. came a s left) (goes_on_behind x) x.units x.steps served.owes (λ given w. (refl, refl))
        (λ operand c1 given w1 it.
        let keeps = kept_room number (type_of e) kept_is it.later c1 w1 it.at laid laid_is in
        values events_of events_of Good x.units x.steps operand c1 normal w1 (record {
          flow_is = refl;
          later = it.later;
          reached = record {
            own = is_place (Some room);
            are_own = λ block is. record {
              number = number;
              from_is = omega arith;
              below = omega arith;
              one = temporary_of number (type_of e);
              kept_is = kept_is;
              local = agrees.local;
              is_local = agrees.is_local;
              block_is = number_equal agrees.local.block block is;
            };
            keeps = it.keeps;
            at = it.at;
          };
          gives = λ last world extends stay. where_used used x last world e (place_of number) operand.value (λ _.
              placed_gives operand.value given it.later last w1 world keeps.0 keeps.1 extends stay
              (subst (λ (p : Ptr). GivesBack it.later (blocks_of w1) (align_in (setting_in x.s) (type_of e)) (Some p) operand.value given) (same_room images it.later c0 w0 c1 w1 here it.at) it.gives));
        })))
