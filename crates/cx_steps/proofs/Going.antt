-- Steps in a body, and of full expressions that go on.
use Rattle.std.proofs.Common.{◌≡◌, ◌∙◌, refl, sym, ap, subst, ℕ, Bool, true, false, List, [], ◌∷◌, ◌++◌, map, reverse, Option, Some, None, option_map, Result, Ok, Err}
use Rattle.std.proofs.lemmas.List.{map-append, reverse-append}
use Rattle.cr_world.specs.World.{World, Got, blocks_of, with_memory}
use Rattle.cx_core.specs.Trees.{CFun, CPut, put, CPuts, place_of}
use Rattle.cx_core.specs.Views.{puts_of, view_put}
use Rattle.cx_machine.specs.Answers.{held_work}
use Rattle.cx_machine.specs.declared.machine.Machine.{Machine}
use Rattle.cx_machine.specs.declared.stop.Stop.{Stop}
use Rattle.cx_machine.specs.Machines.{CNext, GoesTo, IsAt, going_next, next_at, values_in, view_control, view_machine, work_next}
use Rattle.cx_machine.specs.Steps.{StoreAdvances}
use Rattle.cx_machine.proofs.Landing.{going_on_is}
use Rattle.cx_mean.specs.Moves.{CGoal, CPutting, putting, CMove, values, reaches, begins, leaves, calls_main, goes_nowhere, CPurpose, puts_it, drops_it, turns_on, gives_it, chooses_by, CStand, stand, next_of, turning_on}
use Rattle.cx_mean.specs.Operands.{CWhy, CStop, CValue, COperand, Frame}
use Rattle.cx_mean.specs.Paths.{CLevel, CSite, with_level}
use Rattle.cx_mean.specs.Settings.{CSetting}
use Rattle.cr_base.specs.declared.refusal.Place.{Place}
use Rattle.cx_mean.specs.State.{CState, CControl, evaluating, after_begin, after_choice, after_param, after_store, at_stand, choice_at, control_of, param_begins, place_of_body, take_step, after_give, expression_step, going_on, move_step, no_place, object_begins, returning, step_of, use_step, value_given}
use Rattle.cx_mean.specs.Work.{CWork, finished, needs, chooses, tests, carries, updates, fills, waits, is_finished}
use Rattle.cx_moves.specs.declared.moves.Purpose.{Purpose}
use Rattle.cx_moves.specs.declared.moves.Purpose.TheVariants as purpose
use Rattle.cx_moves.specs.declared.moves.Putting.{Putting}
use Rattle.cx_moves.specs.declared.sites.Site.{Site}
use Rattle.cx_moves.specs.Sites.{begins_in, stores_put, view_behind, view_purpose, view_site}
use Rattle.cx_steps.specs.Choices.{dropped_next, dropped_state, is_in_body, scope_frame, used}
use Rattle.cx_steps.specs.Moved.{MovesOn}
use Rattle.cx_steps.specs.Picks.{GivesValue, IsHeld, IsValueOf}
use Rattle.cx_steps.proofs.Advancing.{goes_on_at, store_by}
use Rattle.cx_steps.proofs.Alike.{begin_alike, use_alike, stands_at}
use Rattle.cx_mean.specs.Accesses.{CStored}
use Rattle.cx_mean.specs.Initialisers.{put_stored}
use Rattle.cx_mean.specs.Marks.{no_marks}
use Rattle.cx_moves.specs.declared.moves.Behind.{Behind}
use Rattle.cx_puts.specs.Storing.{value_put}
use Rattle.cx_steps.specs.Given.{IsStored}
use Rattle.cx_steps.proofs.Evaluated.{put_frame_is}
use Rattle.cx_work.specs.declared.operand.Finished.{Finished}
use Rattle.cx_work.specs.declared.work.Work.{Work}
use Rattle.cx_work.specs.Values.{value_in}
use Rattle.cx_work.specs.Views.{view_finished, view_work}
use Rattle.mem_bytes.specs.declared.value.Ptr.{Ptr}
use Rattle.mem_bytes.specs.Counted.{Limit}
use Rattle.mem_bytes.specs.Memory.{Blocks}

-- a full expression that is held goes on
held_next : (work : Option Work) (purpose : CPurpose) (blocks : Blocks) → IsHeld work → work_next work purpose blocks ≡ going_next (held_work work) purpose blocks
held_next None purpose blocks held = elim held [ ]
held_next (Some work) purpose blocks held = refl

pub further : (old new : Machine) (purpose : CPurpose) (before after : Blocks) (limit later : Option Limit) → later ≡ limit → IsHeld old.work → GoesTo old new (work_next old.work purpose before) after →
    StoreAdvances (λ world. going_on (view_machine old world) world (held_work old.work) purpose) (Ok tt) (view_machine new) before after limit later
further old new purpose before after limit later same held goes =
    goes_on_at (λ (world : World). going_on (view_machine old world) world (held_work old.work) purpose) old new (going_next (held_work old.work) purpose before) before after limit later same
    (subst (λ (next : CNext). GoesTo old new next after) (held_next old.work purpose before held) goes)
    (λ world. going_on_is (view_machine old (with_memory before world)) (held_work old.work) purpose before world)

-- its value is dropped
pub dropped : (turns : Bool) (old new : Machine) (before after : Blocks) (limit later : Option Limit) → later ≡ limit → GoesTo old new (dropped_next turns (view_site old.site) before) after →
    StoreAdvances (λ world. dropped_state turns (view_machine old world) (view_site old.site)) (Ok tt) (view_machine new) before after limit later
dropped true old new before after limit later same goes =
    goes_on_at (λ (world : World). dropped_state true (view_machine old world) (view_site old.site)) old new (next_at (turning_on (view_site old.site) before)) before after limit later same goes (λ world. refl)
dropped false old new before after limit later same goes =
    goes_on_at (λ (world : World). dropped_state false (view_machine old world) (view_site old.site)) old new (next_at (next_of (view_site old.site) before)) before after limit later same goes (λ world. refl)

-- its value is given back
pub gives_by : (old : Machine) (place : Place) (site : CSite) (value : CValue) (result : Result (Unit {0}) Stop) (next : World → CState) (before after : Blocks) (limit later : Option Limit) → value_given value ≡ Ok value →
    StoreAdvances (λ world. returning (view_machine old world) value site) result next before after limit later →
    StoreAdvances (λ world. after_give (view_machine old world) place site (value_given value)) result next before after limit later
gives_by old place site value result next before after limit later is one =
    store_by (λ (world : World). after_give (view_machine old world) place site (value_given value)) (λ (world : World). returning (view_machine old world) value site)
    (λ world. ap (λ (found : Result CValue CWhy). after_give (view_machine old world) place site found) is) result next before after limit later one

-- a move in which nothing begins
pub moves_by : (setting : CSetting) (move : CMove) (old new : Machine) (before after : Blocks) (limit later : Option Limit) → later ≡ limit → MovesOn setting move old new before after →
    StoreAdvances (λ world. move_step setting (view_machine old world) move) (Ok tt) (view_machine new) before after limit later
moves_by setting (values value purpose) old new before after limit later same goes = goes_on_at _ old new _ before after limit later same goes (λ world. refl)
moves_by setting (reaches one site) old new before after limit later same goes = goes_on_at _ old new _ before after limit later same goes (λ world. refl)
moves_by setting calls_main old new before after limit later same goes = goes_on_at _ old new _ before after limit later same goes (λ world. refl)
moves_by setting (begins one) old new before after limit later same goes = elim goes [ ]
moves_by setting (leaves value site) old new before after limit later same goes = elim goes [ ]
moves_by setting (goes_nowhere place) old new before after limit later same goes = elim goes [ ]

-- an object of the innermost open statement begins
begins_at : (setting : CSetting) (state : CState) (object : ℕ) (others : List ℕ) (goal : CGoal) (site outer : CSite) (level : CLevel) → site ≡ with_level level outer →
    move_step setting state (begins_in object others goal site)
    ≡ after_begin setting state (record { object = object; others = others; level = level; outer = outer; goal = goal }) (object_begins setting no_place object state.world)
begins_at setting state object others goal site outer level is = ap (λ (one : CSite). move_step setting state (begins_in object others goal one)) is

pub begins_from : (setting : CSetting) (old : Machine) (site : Site) (level : CLevel) (object : ℕ) (others : List ℕ) (goal inner : CGoal) (result : Result (Unit {0}) Stop) (next : World → CState)
    (before after : Blocks) (limit later : Option Limit) → view_site old.site ≡ with_level level (view_site site) → inner ≡ goal →
    StoreAdvances (λ world. after_begin setting (view_machine (record old { site = site }) world)
    (record { object = object; others = others; level = level; outer = view_site site; goal = inner }) (object_begins setting no_place object world)) result next before after limit later →
    StoreAdvances (λ world. move_step setting (view_machine old world) (begins_in object others goal (view_site old.site))) result next before after limit later
begins_from setting old site level object others goal inner result next before after limit later is goal_is one =
    store_by (λ (world : World). move_step setting (view_machine old world) (begins_in object others goal (view_site old.site)))
    (λ (world : World). after_begin setting (view_machine (record old { site = site }) world)
    (record { object = object; others = others; level = level; outer = view_site site; goal = inner }) (object_begins setting no_place object world))
    (λ world.
    begins_at setting (view_machine old world) object others goal (view_site old.site) (view_site site) level is
    ∙ ap (λ (what : CGoal). after_begin setting (view_machine old world) (record { object = object; others = others; level = level; outer = view_site site; goal = what }) (object_begins setting no_place object world)) (sym goal_is)
    ∙ sym (begin_alike setting (view_machine old world) (view_control (record old { site = site })) (record { object = object; others = others; level = level; outer = view_site site; goal = inner })
    (object_begins setting no_place object world)))
    result next before after limit later one

-- ---- a full expression that is held, by whether it is finished

pub value_is : (work : CWork) (value : CValue) → value_in work ≡ Some value → IsValueOf work value
value_is (finished operand) value is = cc
value_is (needs node operands) value is = cc
value_is (chooses node first) value is = cc
value_is (tests node marks second) value is = cc
value_is (carries node marks part) value is = cc
value_is (updates node update stage marks) value is = cc
value_is (fills node marks one others held) value is = cc
value_is (waits node marks) value is = cc

-- of an operand only its value is used
same_use : (setting : CSetting) (state : CState) (operand : COperand) (purpose : CPurpose) → use_step setting state operand purpose ≡ use_step setting state (used operand.value) purpose
same_use setting state operand (puts_it place one) = refl
same_use setting state operand (drops_it site) = refl
same_use setting state operand (turns_on site) = refl
same_use setting state operand (gives_it place site) = refl
same_use setting state operand (chooses_by place site) = refl

used_work : (setting : CSetting) (state : CState) (work : CWork) (value : CValue) (purpose : CPurpose) → IsValueOf work value → step_of setting state (evaluating work purpose) ≡ use_step setting state (used value) purpose
used_work setting state (finished operand) value purpose is =
    same_use setting state operand purpose ∙ ap (λ (one : CValue). use_step setting state (used one) purpose) is
used_work setting state (needs node operands) value purpose is = elim is [ ]
used_work setting state (chooses node first) value purpose is = elim is [ ]
used_work setting state (tests node marks second) value purpose is = elim is [ ]
used_work setting state (carries node marks part) value purpose is = elim is [ ]
used_work setting state (updates node update stage marks) value purpose is = elim is [ ]
used_work setting state (fills node marks one others held) value purpose is = elim is [ ]
used_work setting state (waits node marks) value purpose is = elim is [ ]

used_is : (setting : CSetting) (state : CState) (work : Option Work) (value : CValue) (purpose : CPurpose) → GivesValue work value → step_of setting state (values_in work purpose) ≡ use_step setting state (used value) purpose
used_is setting state None value purpose is = elim is [ ]
used_is setting state (Some work) value purpose is = used_work setting state (view_work work) value purpose is

pub uses_by : (setting : CSetting) (old mid : Machine) (value : CValue) (one : Purpose) (result : Result (Unit {0}) Stop) (next : World → CState) (before after : Blocks) (limit later : Option Limit) →
    mid ≡ record old { work = None } → GivesValue old.work value →
    StoreAdvances (λ world. use_step setting (view_machine mid world) (used value) (view_purpose (view_site mid.site) one)) result next before after limit later →
    StoreAdvances (λ world. step_of setting (view_machine old world) (values_in old.work (view_purpose (view_site old.site) one))) result next before after limit later
uses_by setting old mid value one result next before after limit later mid_is held goes =
    store_by (λ (world : World). step_of setting (view_machine old world) (values_in old.work (view_purpose (view_site old.site) one)))
    (λ (world : World). use_step setting (view_machine mid world) (used value) (view_purpose (view_site mid.site) one))
    (λ world.
    used_is setting (view_machine old world) old.work value (view_purpose (view_site old.site) one) held
    ∙ sym (use_alike (view_machine old world) (view_control (record old { work = None })) setting (used value) (view_purpose (view_site old.site) one))
    ∙ ap (λ (machine : Machine). use_step setting (view_machine machine world) (used value) (view_purpose (view_site machine.site) one)) (sym mid_is))
    result next before after limit later goes

some_is : (one other : Bool) → Some one ≡ Some other → one ≡ other
some_is one other same = cc

unfinished_is : (setting : CSetting) (state : CState) (work : CWork) (purpose : CPurpose) → false ≡ is_finished work → step_of setting state (evaluating work purpose) ≡ expression_step setting state work purpose
unfinished_is setting state (finished operand) purpose is = absurd cc
unfinished_is setting state (needs node operands) purpose is = refl
unfinished_is setting state (chooses node first) purpose is = refl
unfinished_is setting state (tests node marks second) purpose is = refl
unfinished_is setting state (carries node marks part) purpose is = refl
unfinished_is setting state (updates node update stage marks) purpose is = refl
unfinished_is setting state (fills node marks one others value) purpose is = refl
unfinished_is setting state (waits node marks) purpose is = refl

pub evaluates_by : (setting : CSetting) (state : CState) (work : Option Work) (purpose : CPurpose) → Some false ≡ option_map (λ one. is_finished (view_work one)) work →
    step_of setting state (values_in work purpose) ≡ expression_step setting state (held_work work) purpose
evaluates_by setting state None purpose is = absurd cc
evaluates_by setting state (Some work) purpose is = unfinished_is setting state (view_work work) purpose (some_is false (is_finished (view_work work)) is)

-- ---- choices

pub choice_by : (old new : Machine) (place : Place) (value : CValue) (site : Site) (move : CMove) (before mid : Blocks) (limit later : Option Limit) → later ≡ limit →
    choice_at before value (view_site old.site).levels (view_site old.site).bottom ≡ Ok (stand move mid) → IsAt (record old { site = site }) new (control_of move) →
    StoreAdvances (λ world. after_choice (view_machine old world) place (choice_at (blocks_of world) value (view_site old.site).levels (view_site old.site).bottom)) (Ok tt) (view_machine new) before mid limit later
choice_by old new place value site move before mid limit later same is at =
    goes_on_at (λ (world : World). after_choice (view_machine old world) place (choice_at (blocks_of world) value (view_site old.site).levels (view_site old.site).bottom))
    (record old { site = site }) new (next_at (stand move mid)) before mid limit later same (record { at = at; memory = refl })
    (λ world. ap (λ (found : Result CStand CWhy). after_choice (view_machine old (with_memory before world)) place found) is)

-- ---- values that are stored

stored_on : (state : CState) (place : Place) (one : CPutting) (found : Result CStored CWhy) (mid : Blocks) → IsStored found mid →
    after_store state place one found ≡ at_stand state state.world (putting one.object one.others one.behind mid)
stored_on state place one (Ok done) mid is = ap (λ (blocks : Blocks). at_stand state state.world (putting one.object one.others one.behind blocks)) is
stored_on state place one (Err why) mid is = elim is [ ]

put_on : (setting : CSetting) (old : Machine) (object : ℕ) (one : CPut) (others : CPuts) (where_next : Behind) (value : CValue) (before mid : Blocks) (world : World) →
    IsStored (value_put setting (scope_frame old (is_in_body where_next)) before object one value no_marks) mid →
    use_step setting (view_machine old (with_memory before world)) (used value) (stores_put object one others (view_behind (view_site old.site) where_next))
    ≡ at_stand (view_machine old (with_memory before world)) (with_memory before world) (putting object others (view_behind (view_site old.site) where_next) mid)
put_on setting old object (put spot type held) others where_next value before mid world stores =
    stored_on (view_machine old (with_memory before world)) (place_of held)
    (record { object = object; spot = spot; type = type; others = others; behind = view_behind (view_site old.site) where_next }) _ mid
    (subst (λ (frame : Frame). IsStored (put_stored setting frame before object spot type (used value)) mid)
    (sym (put_frame_is old object (put spot type held) others where_next (view_machine old (with_memory before world)) refl)) stores)

pub puts_by : (setting : CSetting) (old new : Machine) (one : Putting) (value : CValue) (before mid after : Blocks) (limit mid_limit later : Option Limit) → mid_limit ≡ limit → later ≡ mid_limit →
    IsStored (value_put setting (scope_frame old (is_in_body one.behind)) before one.object (view_put one.put.now) value no_marks) mid →
    GoesTo old new (next_at (putting one.object (puts_of (map view_put one.others.now)) (view_behind (view_site old.site) one.behind) mid)) after →
    StoreAdvances (λ world. use_step setting (view_machine old world) (used value) (view_purpose (view_site old.site) (purpose.Puts one))) (Ok tt) (view_machine new) before after limit later
puts_by setting old new one value before mid after limit mid_limit later mid_same same stores goes =
    goes_on_at (λ (world : World). use_step setting (view_machine old world) (used value) (view_purpose (view_site old.site) (purpose.Puts one))) old new
    (next_at (putting one.object (puts_of (map view_put one.others.now)) (view_behind (view_site old.site) one.behind) mid)) before after limit later (same ∙ mid_same) goes
    (λ world. put_on setting old one.object (view_put one.put.now) (puts_of (map view_put one.others.now)) one.behind value before mid world stores)

-- ---- parameters

param_alike : (state : CState) (control : CControl) (callee : CFun) (number : ℕ) (params : List ℕ) (args : List CValue) (frame : Frame) (found : Result (Got Ptr) CStop) →
    after_param (stands_at control state) callee number params args frame found ≡ after_param state callee number params args frame found
param_alike state control callee number params args frame (Ok got) = refl
param_alike state control callee number params args frame (Err stop) = refl

args_are : (args rest : List Finished) (value : Finished) → args ≡ rest ++ value ∷ [] → reverse (map view_finished args) ≡ view_finished value ∷ reverse (map view_finished rest)
args_are args rest value is =
    ap (λ (list : List Finished). reverse (map view_finished list)) is
    ∙ ap (λ (list : List CValue). reverse list) (map-append view_finished rest (value ∷ []))
    ∙ reverse-append (map view_finished rest) (view_finished value ∷ [])

pub takes_by : (setting : CSetting) (old : Machine) (callee : CFun) (params : List ℕ) (number : ℕ) (others : List ℕ) (rest : List Finished) (value : Finished) (result : Result (Unit {0}) Stop) (next : World → CState)
    (before after : Blocks) (limit later : Option Limit) → params ≡ number ∷ others → old.args ≡ rest ++ value ∷ [] →
    StoreAdvances (λ world. after_param (view_machine (record old { args = rest }) world) callee number others (reverse (map view_finished rest)) old.site.params
    (param_begins setting (place_of_body callee.body) number (view_finished value) world)) result next before after limit later →
    StoreAdvances (λ world. take_step setting (view_machine old world) callee params (reverse (map view_finished old.args)) old.site.params) result next before after limit later
takes_by setting old callee params number others rest value result next before after limit later params_are held goes =
    store_by (λ (world : World). take_step setting (view_machine old world) callee params (reverse (map view_finished old.args)) old.site.params)
    (λ (world : World). after_param (view_machine (record old { args = rest }) world) callee number others (reverse (map view_finished rest)) old.site.params
    (param_begins setting (place_of_body callee.body) number (view_finished value) world))
    (λ world.
    ap (λ (list : List ℕ). take_step setting (view_machine old world) callee list (reverse (map view_finished old.args)) old.site.params) params_are
    ∙ ap (λ (list : List CValue). take_step setting (view_machine old world) callee (number ∷ others) list old.site.params) (args_are old.args rest value held)
    ∙ sym (param_alike (view_machine old world) (view_control (record old { args = rest })) callee number others (reverse (map view_finished rest)) old.site.params
    (param_begins setting (place_of_body callee.body) number (view_finished value) world)))
    result next before after limit later goes
