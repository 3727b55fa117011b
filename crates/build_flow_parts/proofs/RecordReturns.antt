-- Returns of structures and unions: what is given is copied to the place that the caller made for it (ISO C99, 6.8.6.4; `core::ptr::copy`).
use Rattle.std.proofs.Common.{◌≡◌, ◌∙◌, inl, inr, ℕ, ◌≤◌, Bool, true, false, not, List, [], ◌∷◌, ◌++◌, map, length, ◌==◌, Option, Some, None, Ok, if◌then◌else◌, refl, sym, ap, subst, arith}
use Rattle.cr_base.specs.declared.layout.Laid.{Laid}
use Rattle.cr_base.specs.declared.refusal.Place.{Place}
use Rattle.cr_runs.specs.Runs.{came}
use Rattle.cr_world.specs.World.{World, blocks_of, with_held}
use Rattle.cx_core.specs.Trees.{CExpr, type_of}
use Rattle.cx_core.specs.Typing.{CHome}
use Rattle.cx_mean.specs.Leftmost.{one_step}
use Rattle.cx_mean.specs.Operands.{CValue, scalar, cells, names, designates, designates_bits, missing, COperand, Slot, Frame as CFrame}
use Rattle.cx_mean.specs.State.{value_given}
use Rattle.cx_typed_work.specs.Operands.{IsRecordOf, IsGivenBy}
use Rattle.build_flow_lives.proofs.Dying.{all_vacant, keeps_without, worlds_without}
use Rattle.build_flow_lives.specs.Standing.{Calling, own_slots, Standing, HasReturned, stage_of}
use Rattle.build_flow_moves.specs.Parts.{Stage, objects_in, all_dead, value_in, return_piece, PieceOwes, GivenBack, ReturnDone}
use Rattle.build_flow_moves.specs.Runs.{run_given}
use Rattle.build_flow_nodes.specs.Parts.{Return, gives_record, gives_value, given_in, given}
use Rattle.lift_calls.specs.Bodies.{HoldsResult, ResultAgrees}
use Rattle.lift_calls.specs.Calls.{result_laid, is_place, type_in as type_of_given, GivesBack}
use Rattle.lift_calls.specs.Programs.{setting_in}
use Rattle.lift_does.proofs.Around.{Around, OweAs, runs}
use Rattle.lift_does.proofs.Copies.{record_part, CopiesRoom, copies_room}
use Rattle.lift_does.proofs.RecordTypes.{scalar_no_record}
use Rattle.lift_does.proofs.Records.{part_held, void_record}
use Rattle.lift_does.proofs.Runs.{join_owes, step_owes, end_owes, same_events}
use Rattle.lift_does.proofs.Temporaries.{read_comes}
use Rattle.lift_does.specs.Gives.{GivesOperand, GivesRecord}
use Rattle.lift_exprs.specs.Lifted.{lifted}
use Rattle.lift_exprs.specs.Names.{type_in}
use Rattle.lift_exprs.specs.Written.{Written, address_of_given, copied}
use Rattle.lift_forms_laws.specs.Gives.{GivesAt}
use Rattle.lift_held.specs.Held.{is_record, operand, full, part_of}
use Rattle.lift_held.specs.declared.asked.Asked.{Asked}
use Rattle.lift_stands.proofs.Kept.{both_keep, fewer_keep}
use Rattle.lift_stands.specs.Keeps.{KeepsOthers}
use Rattle.lift_stands.specs.Stands.{Images, PlaceHolds}
use Rattle.lift_stands.specs.Worlds.{WorldsStand}
use Rattle.lift_stands_values.specs.Given.{align_or, align_in}
use Rattle.mem_bytes.specs.Access.{record_part_of, live_read, part_at, record_at}
use Rattle.mem_bytes.specs.Memory.{Block, Blocks}
use Rattle.mem_bytes.specs.declared.cell.Cell.{Cell}
use Rattle.mem_bytes.specs.declared.value.Ptr.{Ptr}
use Rattle.mem_bytes.specs.declared.value.Value.TheVariants.{Object}
use Rattle.rs_mean.specs.Run.{Flow, normal, returned, given_by}
use Rattle.rs_mean.specs.Scalars.{scalar_of}
use Rattle.rs_mean.specs.World.{pure}
use Rattle.rs_text.specs.Tree.{Ty, Pointer, Local, Read, Stmt}
use Rattle.build_flow_parts.specs.Bodies.{RecordGiven}
use Rattle.build_flow_parts.specs.Means.{home_in, PartsMean}
use Rattle.build_flow_parts.proofs.Conditions.{gives_here, standing}
use Rattle.build_flow_parts.proofs.Returns.{nothing_of_type}
use Rattle.build_flow_parts.proofs.Values.{around_of, Evaluated, operand_asked, evaluates}

-- ---- what C gives

-- what is given back of a structure or union are its cells
record IsCellsGiven (home : CHome) (e : CExpr) (value result : CValue) : Type 0 where
  list : List Cell
  from : Option Ptr
  was : value ≡ cells list from
  is : result ≡ cells list from
  of_type : IsRecordOf home.program (type_of e) list

cells_given : (home : CHome) (e : CExpr) → is_record (type_of e) ≡ true → (value result : CValue) → value_given value ≡ Ok result → IsGivenBy home e value → IsCellsGiven home e value result
cells_given home e of_record (cells list from) result is (inl place) = elim place.1 [ ]
cells_given home e of_record (cells list from) result is (inr (typed_so, inl records)) = let same : cells list from ≡ result = cc in record { list = list; from = from; was = refl; is = sym same; of_type = records }
cells_given home e of_record (cells list from) result is (inr (typed_so, inr none)) = elim none.1 [ ]
cells_given home e of_record (scalar one) result is (inl place) = elim place.1 [ ]
cells_given home e of_record (scalar one) result is (inr (typed_so, inl of_kind)) =
    let none = scalar_no_record home.program.types (type_of e) of_kind.kind of_kind.kind_is in
    let clash : true ≡ false = sym of_record ∙ none in absurd cc
cells_given home e of_record (scalar one) result is (inr (typed_so, inr none)) = elim none.1 [ ]
cells_given home e of_record missing result is typed_so = absurd cc
cells_given home e of_record (names number) result is typed_so = absurd cc
cells_given home e of_record (designates to) result is typed_so = absurd cc
cells_given home e of_record (designates_bits at bit width) result is typed_so = absurd cc

-- ---- the place of the result

-- there is one, and a parameter points to it
record HasPlace (base : ℕ) (images : Images) (world : World) (frame : _) (laid : Laid) (name : List ℕ) (place : Option Ptr) : Type 0 where
  at : Ptr
  at_is : place ≡ Some at
  holds : HoldsResult base images world frame laid name at

has_place : (base : ℕ) (images : Images) (world : World) (frame : _) (laid : Laid) (name : List ℕ) (found : Option Laid) (named : Option (List ℕ)) (place : Option Ptr) → found ≡ Some laid → named ≡ Some name →
    ResultAgrees base images world frame found named place → HasPlace base images world frame laid name place
has_place base images world frame laid name (Some own) (Some other) (Some at) found_is named_is agrees =
    let same : own ≡ laid = cc (found_is) in
    let also : other ≡ name = cc (named_is) in
    record { at = at; at_is = refl; holds = subst (λ (l : Laid). HoldsResult base images world frame l name at) same (subst (λ (n : List ℕ). HoldsResult base images world frame own n at) also agrees) }
has_place base images world frame laid name (Some own) (Some other) None found_is named_is agrees = elim agrees [ ]
has_place base images world frame laid name (Some own) None place found_is named_is agrees = absurd cc
has_place base images world frame laid name None named place found_is named_is agrees = absurd cc

begins_there : (at : Ptr) → at.offset ≡ 0 → at ≡ record { block = at.block; offset = 0 }
begins_there at begins = ap (λ (offset : ℕ). record { block = at.block; offset = offset }) begins

nothing_typed : (result : Option Ty) → result ≡ None → type_of_given (given_by result (returned None)) ≡ result
nothing_typed None is = refl
nothing_typed (Some type) is = absurd cc

cells_back : (images : Images) (others : Blocks) (align : ℕ) (place : Option Ptr) (result : Option Ty) (at : Ptr) (list : List Cell) → place ≡ Some at → result ≡ None → PlaceHolds images others align (Object at) list →
    GivesBack images others align place (cells list None) (given_by result (returned None))
cells_back images others align (Some own) None at list place_is result_is holds = let same : at ≡ own = cc (place_is) in subst (λ (p : Ptr). PlaceHolds images others align (Object p) list) same holds
cells_back images others align None result at list place_is result_is holds = absurd cc
cells_back images others align (Some own) (Some type) at list place_is result_is holds = absurd cc

module _ (a : Calling) (units steps : ℕ) (mean : PartsMean a.s a.names a.of units steps) (started : WorldsStand a.images a.c_before a.before) (params_are : map (λ (slot : Slot). slot.object) a.params ≡ a.one.params)
    (e : CExpr) (number : ℕ) (scope : List ℕ) (means : RecordGiven a units steps scope e number) where
  abbrev stage : Stage
  stage = stage_of a units steps

  abbrev home : CHome
  home = home_in a.s a.one (scope ++ a.one.params)

  abbrev written : Written
  written = lifted a.of.names operand e number

  abbrev copy : Stmt
  copy = copied (address_of_given written.given) (Read (Local a.of.result)) (a.of.names.size_of (type_of e))

  nothing_runs : (world : World) (k : ℕ) → run_given a.frame None world k ≡ came None world k
  unfolding pure
  nothing_runs world k = refl

  module _ (slots : CFrame) (c_world world : World) (n m : ℕ) (few : n ≤ units) (little : m ≤ steps) (here : Standing a slots c_world world) where
    abbrev around : Around
    around = around_of a units steps mean started params_are scope slots c_world world n m few little here

    abbrev Good : CValue → World → Flow → World → Type 0
    Good value c_after flow after = (flow ≡ normal) × GivenBack stage slots None value c_after after

    module _ (one : COperand) (c_end : World) (end : World) (is : Evaluated a units steps mean started params_are operand e number scope slots c_world world here one c_end normal end) where
      abbrev stands : Standing a slots c_end end
      stands = standing a units steps mean started params_are e number scope slots c_world world here one c_end normal end is

      abbrev base : ℕ
      base = length (blocks_of a.before)

      there : HasPlace base is.did.later end a.frame means.laid a.of.result a.place
      there = has_place base is.did.later end a.frame means.laid a.of.result (result_laid a.s a.one) a.names.result a.place means.place_is means.name_is stands.inside.result

      points : GivesAt a.frame end (Read (Local a.of.result)) (Pointer there.holds.to) (Object (record { block = there.at.block; offset = 0 }))
      points =
          subst (λ (p : Ptr). GivesAt a.frame end (Read (Local a.of.result)) (Pointer there.holds.to) (Object p)) (begins_there there.at there.holds.place.begins)
          (subst (λ (t : Ty). GivesAt a.frame end (Read (Local a.of.result)) t (Object there.at)) there.holds.ty_is
          (read_comes a.frame a.of.result there.holds.local _ (Object there.at) end there.holds.is_local (ap scalar_of there.holds.ty_is) there.holds.holds))

      module _ (list : List Cell) (from : Option Ptr) (was : one.value ≡ cells list from) (of_type : IsRecordOf home.program (type_of e) list) where
        abbrev align : ℕ
        align = align_in (setting_in a.s) (type_of e)

        gave : GivesRecord is.did.later a.frame end (type_in a.of.names (type_of e)) align written.given list
        gave =
            subst (λ (v : CValue). GivesOperand a.s a.of.names is.did.later (own_slots a slots) a.frame end e written.given v) was
            (gives_here a units steps mean started params_are e number scope slots c_world world here one c_end normal end is)

        size_is : length list ≡ means.laid.size
        size_is = let same : of_type.laid ≡ means.laid = some_same of_type.laid means.laid (sym of_type.laid_is ∙ means.laid_is) in of_type.all ∙ ap (λ (l : Laid). l.size) same
          where
            some_same : (x y : Laid) → Some x ≡ Some y → x ≡ y
            some_same x y f = cc (f)

        align_is : align ≡ means.laid.align
        align_is = ap align_or means.laid_is

        part : part_at (blocks_of end) gave.holds.at means.laid.size ≡ Ok gave.holds.cells
        part = subst (λ (k : ℕ). part_at (blocks_of end) gave.holds.at k ≡ Ok gave.holds.cells) size_is (part_held (blocks_of end) gave.holds.at (length list) align gave.holds.cells gave.holds.found)

        copies : CopiesRoom around there.at.block means.laid.size means.laid.align (address_of_given written.given) (Read (Local a.of.result)) gave.holds.cells is.did.later c_end end
        copies =
            copies_room around there.at.block means.laid.size means.laid.align there.holds.place.block (address_of_given written.given) (Read (Local a.of.result)) (type_in a.of.names (type_of e)) there.holds.to gave.holds.at gave.holds.cells
            is.did.later c_end end is.did.worlds there.holds.place.live (let size = there.holds.place.size in omega (arith, size)) there.holds.place.align (λ number living image. there.holds.place.no_image number image)
            (subst (GivesAt a.frame end (address_of_given written.given) (Pointer (type_in a.of.names (type_of e)))) gave.holds.value_is gave.gives) points part

        abbrev after : World
        after = with_held copies.beyond end

        -- the place holds what was given
        place_holds : PlaceHolds is.did.later (blocks_of after) (align_or (result_laid a.s a.one)) (Object there.at) list
        place_holds = record {
          at = there.at;
          value_is = refl;
          cells = gave.holds.cells;
          found =
              ap (λ (k : ℕ). record_at (blocks_of after) there.at (length list) k) (ap align_or means.place_is)
              ∙ ap (λ (p : Ptr). record_at (blocks_of after) p (length list) means.laid.align) (begins_there there.at there.holds.place.begins)
              ∙ ap (λ (k : ℕ). record_at (blocks_of after) (record { block = there.at.block; offset = 0 }) k means.laid.align) size_is
              ∙ ap (λ (slot : Option Block). live_read slot (λ block. record_part_of block 0 means.laid.size means.laid.align)) copies.live
              ∙ record_part copies.block means.laid.size means.laid.align gave.holds.cells copies.part copies.aligned;
          held = gave.holds.held;
          below = gave.holds.below;
        }

        -- the copy writes the place alone, which the caller knows to be written
        stays : KeepsOthers base (is_place a.place) a.images is.did.later a.c_before.held c_end.held a.before.held after.held
        stays =
            both_keep base (is_place a.place) a.images is.did.later is.did.later a.c_before.held c_end.held c_end.held a.before.held end.held after.held started.held.memories.mapped is.did.worlds.held.memories.mapped stands.inside.stays
            (subst (λ (own : ℕ → Bool). KeepsOthers base own is.did.later is.did.later c_end.held c_end.held end.held after.held) (sym (ap is_place there.at_is))
            (fewer_keep (length (blocks_of end)) base (λ k. there.at.block == k) (λ k. there.at.block == k) is.did.later is.did.later c_end.held c_end.held end.held after.held stands.inside.stays.others_grow (λ k owns. owns) copies.keeps))

        back : HasReturned a (cells list None) (all_dead stage slots c_end) None after
        back = record {
          later = is.did.later;
          stays = keeps_without a started (own_slots a slots) a.s.statics is.did.later c_end after copies.stands stands.inside.scope.owned stays;
          worlds = worlds_without a started (own_slots a slots) a.s.statics is.did.later c_end after copies.stands stands.inside.scope.owned;
          vacant = all_vacant a started slots c_end end stands;
          typed = nothing_typed a.tree.result means.result_is;
          of_type = nothing_of_type a.tree.result means.result_is;
          gives = cells_back is.did.later (blocks_of after) (align_or (result_laid a.s a.one)) a.place a.tree.result there.at list there.at_is means.result_is place_holds;
        }

        copy_runs : (k : ℕ) → runs around (copy ∷ []) end k ≡ came normal after k
        copy_runs k = subst (λ (size : ℕ). runs around (copied (address_of_given written.given) (Read (Local a.of.result)) size ∷ []) end k ≡ came normal after k) (sym (around.means.sizes (type_of e) means.laid means.laid_is)) (copies.comes k)

        cells_end : OweAs around Good (came (cells list from) c_end) (copy ∷ []) end
        cells_end = end_owes around Good (cells list from) (copy ∷ []) c_end end after copy_runs (refl, record { given = None; runs = nothing_runs after; back = back })

      given_ends : (result : CValue) → value_given one.value ≡ Ok result → OweAs around Good (came result c_end) (copy ∷ []) end
      given_ends result read_is =
          let it = cells_given home e means.of_record one.value result read_is is.typed.operand_is.given in
          subst (λ (v : CValue). OweAs around Good (came v c_end) (copy ∷ []) end) (sym it.is) (cells_end it.list it.from it.was it.of_type)

    return_owes : objects_in slots ≡ scope → (place : Place) → OweAs around Good (return_piece stage place e slots c_world) (written.body ++ copy ∷ []) world
    return_owes known_are place =
        join_owes around (Evaluated a units steps mean started params_are operand e number scope slots c_world world here) Good (value_in stage slots e c_world)
        (λ one c_end. one_step place (value_given one.value) came c_end) written.body (copy ∷ []) world (λ one c_end flow end is. is.did.flow_is)
        (evaluates a units steps mean started params_are operand e number scope (operand_asked e (void_record (type_of e) means.of_record)) means.value slots c_world world n m few little known_are here)
        (λ one c_end end is.
        step_owes around Good place (value_given one.value) came (copy ∷ []) c_end end (same_events is.did.later c_end end is.did.worlds) (λ result read_is. given_ends one c_end end is result read_is))

  abbrev record_return : Return
  record_return = gives_record a.of e written

  asked_is : full e ≡ operand
  asked_is = ap (λ (none : Bool). part_of (not none)) (void_record (type_of e) means.of_record)

  return_is : given a.of (Some e) number ≡ record_return
  return_is = ap (λ (asked : Asked). given_in a.of e (lifted a.of.names asked e number)) asked_is ∙ ap (λ (records : Bool). if records then record_return else gives_value written) means.of_record

  pub record_return_done : ReturnDone stage scope e number
  record_return_done place =
      subst (λ (one : Return). PieceOwes stage scope (return_piece stage place e) one.body (λ slots value c_after after. GivenBack stage slots one.value value c_after after)) (sym return_is)
      (λ slots c_world world n m few little known_are here. return_owes slots c_world world n m few little here known_are place)
