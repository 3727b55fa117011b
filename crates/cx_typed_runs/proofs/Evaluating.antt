-- Full expressions of typed states (ISO C99, 6.8p4): where they are evaluated, and what is begun and finished of them.
use Rattle.std.proofs.Common.{◌≡◌, inl, inr, refl, sym, ap, ◌∙◌, subst, ℕ, zero, suc, ◌<◌, ◌%◌, Bool, true, false, List, [], ◌∷◌, ◌++◌, Option, Some, None, All, arith, append_assoc}
use Rattle.std.specs.List.{Contains}
use Rattle.cr_world.specs.Held.{Held}
use Rattle.cr_world.specs.Laws.{HeapLives}
use Rattle.cr_world.specs.World.{World, blocks_of}
use Rattle.cx_core.specs.Linked.{IsLinked, home_of}
use Rattle.cr_base.specs.declared.layout.Spot.{Spot}
use Rattle.cr_base.specs.declared.refusal.Place.{Place}
use Rattle.cx_core.specs.Trees.{CTy, CExpr, type_of, CPuts, CFun, CProgram}
use Rattle.cx_core.specs.Typing.{CHome, IsTyped}
use Rattle.cx_mean.specs.Moves.{CBehind, in_body, of_statics, CPurpose, puts_it, drops_it, turns_on, gives_it, chooses_by, slots_in, slots_of_site}
use Rattle.cx_mean.specs.Operands.{COperand, Frame}
use Rattle.cx_mean.specs.Paths.{CSite}
use Rattle.cx_mean.specs.State.{CControl, evaluates, uses, CCaller, CState, evaluating, own_frame}
use Rattle.cx_mean.specs.Steps.{CPick, picked}
use Rattle.cx_mean.specs.Work.{CWork, finished, needs, chooses, tests, carries, updates, fills, waits, begun, is_finished, is_waiting}
use Rattle.cx_typed_work.proofs.AskingOnce.{begun_free}
use Rattle.cx_typed_work.proofs.Begun.{typed_work_begun}
use Rattle.cx_typed_work.specs.Operands.{IsOperandOf}
use Rattle.cx_typed_work.specs.Scenes.{IsTypedMemory, IsScene}
use Rattle.cx_typed_work.specs.Works.{IsWorkOf, IsTypedWork}
use Rattle.cx_typed_runs.proofs.Owned.{owned_around}
use Rattle.cx_typed_runs.proofs.Scenes.{home_at_is, scene_at, scene_before}
use Rattle.cx_typed_runs.specs.Sites.{objects_of, IsSite, home_at, AreOwned}
use Rattle.cx_typed_runs.specs.States.{CRunning, in_function, before_main, levels_for, home_in, IsPurposeIn, IsFirstPurpose, IsPurposeOf, IsConstantAt, IsNext, IsControl, AreWaiting, AreBegun, slots_of_control, slots_of_callers}

-- ---- which node goes next

pub picked_below : (order : List ℕ) (count : ℕ) → 0 < count → (picked order count).pick < count
picked_below order zero some = absurd (omega (arith, some))
picked_below order (suc zero) some = omega arith
picked_below [] (suc (suc n)) some = omega arith
picked_below (next ∷ order) (suc (suc n)) some = omega arith

-- ---- where a full expression stands

-- the site of a purpose in a function
pub record IsSiteOf (program : CProgram) (one : CFun) (result : CTy) (purpose : CPurpose) : Type 0 where
  pub site : CSite
  pub at : IsSite program one result site
  pub frame_is : own_frame purpose ≡ slots_of_site site
  pub levels_are : levels_for purpose ≡ site.levels

put_site : (program : CProgram) (one : CFun) (result type : CTy) (place : Place) (object : ℕ) (spot : Spot) (part : CTy) (others : CPuts) (behind : CBehind)
    → IsPurposeIn program one result type (puts_it place (record { object = object; spot = spot; type = part; others = others; behind = behind }))
    → IsSiteOf program one result (puts_it place (record { object = object; spot = spot; type = part; others = others; behind = behind }))
put_site program one result type place object spot part others (in_body site) fits = record { site = site; at = fits.0; frame_is = refl; levels_are = refl }
put_site program one result type place object spot part others (of_statics statics) fits = absurd fits

pub site_of : (program : CProgram) (one : CFun) (result type : CTy) (purpose : CPurpose) → IsPurposeIn program one result type purpose → IsSiteOf program one result purpose
site_of program one result type (puts_it place putting) fits = put_site program one result type place putting.object putting.spot putting.type putting.others putting.behind fits
site_of program one result type (drops_it site) fits = record { site = site; at = fits; frame_is = refl; levels_are = refl }
site_of program one result type (turns_on site) fits = record { site = site; at = fits.0; frame_is = refl; levels_are = refl }
site_of program one result type (gives_it place site) fits = record { site = site; at = fits.0; frame_is = refl; levels_are = refl }
site_of program one result type (chooses_by place site) fits = record { site = site; at = fits.0; frame_is = refl; levels_are = refl }

-- before `main` no function has objects
put_alone : (program : CProgram) (unit : ℕ) (type : CTy) (place : Place) (object : ℕ) (spot : Spot) (part : CTy) (others : CPuts) (behind : CBehind)
    → IsFirstPurpose program unit type (puts_it place (record { object = object; spot = spot; type = part; others = others; behind = behind }))
    → own_frame (puts_it place (record { object = object; spot = spot; type = part; others = others; behind = behind })) ≡ []
put_alone program unit type place object spot part others (in_body site) fits = absurd fits
put_alone program unit type place object spot part others (of_statics statics) fits = refl

pub no_frame : (program : CProgram) (unit : ℕ) (type : CTy) (purpose : CPurpose) → IsFirstPurpose program unit type purpose → own_frame purpose ≡ []
no_frame program unit type (puts_it place putting) fits = put_alone program unit type place putting.object putting.spot putting.type putting.others putting.behind fits
no_frame program unit type (drops_it site) fits = absurd fits
no_frame program unit type (turns_on site) fits = absurd fits
no_frame program unit type (gives_it place site) fits = absurd fits
no_frame program unit type (chooses_by place site) fits = absurd fits

-- what a state has where a full expression is evaluated, in a world
pub record IsReady (program : CProgram) (running : CRunning) (state : CState) (world : World) (purpose : CPurpose) : Type 0 where
  pub linked : IsLinked program
  pub memory : IsTypedMemory program (blocks_of world)
  pub held : HeapLives world.held
  pub owned : AreOwned program world.held (own_frame purpose ++ (slots_of_callers state.callers ++ state.statics))
  pub callers : AreWaiting program running state.callers
  pub begun : AreBegun program [] state.statics

pub scene_for : (program : CProgram) (running : CRunning) (state : CState) (world : World) (type : CTy) (purpose : CPurpose) → IsReady program running state world purpose → IsPurposeOf program running type purpose
    → IsScene (home_in program running purpose) (own_frame purpose ++ state.statics) (blocks_of world)
scene_for program (in_function one result) state world type purpose ready fits =
    let of = site_of program one result type purpose fits in
    subst (λ levels. IsScene (home_at program one result levels) (own_frame purpose ++ state.statics) (blocks_of world)) (sym of.levels_are)
    (subst (λ frame. AreOwned program world.held (frame ++ state.statics) → IsScene (home_at program one result of.site.levels) (frame ++ state.statics) (blocks_of world)) (sym of.frame_is)
    (λ owned. scene_at program world.held one result of.site.levels of.site.bottom.params state.statics ready.linked of.at.params_are ready.memory owned ready.begun)
    (owned_around program world.held (own_frame purpose) (slots_of_callers state.callers) state.statics ready.owned))
scene_for program (before_main unit) state world type purpose ready fits =
    subst (λ frame. AreOwned program world.held (frame ++ state.statics) → IsScene (home_of program None unit) (frame ++ state.statics) (blocks_of world)) (sym (no_frame program unit type purpose fits))
    (λ owned. scene_before program world.held unit state.statics ready.linked ready.memory owned ready.begun)
    (owned_around program world.held (own_frame purpose) (slots_of_callers state.callers) state.statics ready.owned)

-- all units are there
pub home_whole : (program : CProgram) (running : CRunning) (type : CTy) (purpose : CPurpose) → IsPurposeOf program running type purpose → (home_in program running purpose).mentions ≡ None
home_whole program (in_function one result) type purpose fits =
    let of = site_of program one result type purpose fits in
    ap (λ levels. (home_at program one result levels).mentions) of.levels_are
    ∙ ap (λ (home : CHome). home.mentions) (home_at_is program one result of.site.levels of.site.bottom.params of.at.params_are)
home_whole program (before_main unit) type purpose fits = refl

pub home_program : (program : CProgram) (running : CRunning) (type : CTy) (purpose : CPurpose) → IsPurposeOf program running type purpose → (home_in program running purpose).program ≡ program
home_program program (in_function one result) type purpose fits =
    let of = site_of program one result type purpose fits in
    ap (λ levels. (home_at program one result levels).program) of.levels_are
    ∙ ap (λ (home : CHome). home.program) (home_at_is program one result of.site.levels of.site.bottom.params of.at.params_are)
home_program program (before_main unit) type purpose fits = refl

-- ---- a full expression begins

-- where a typed tree stands next: it is evaluated, or its value is used
pub control_next : (program : CProgram) (running : CRunning) (statics : Frame) (callers : List CCaller) (node : CExpr) (work : CWork) (purpose : CPurpose) → IsTyped (home_in program running purpose) node
    → IsConstantAt program running node → IsWorkOf (home_in program running purpose) node work → is_waiting work ≡ false → IsPurposeOf program running (type_of node) purpose → AreWaiting program running callers → AreBegun program [] statics
    → IsControl program statics callers (evaluating work purpose)
control_next program running statics callers node (finished operand) purpose typed constant left free fits waiting begun_is =
    (running, record { node = node; typed = typed; operand_is = left; fits = fits }, waiting, begun_is)
control_next program running statics callers node (needs own operands) purpose typed constant left free fits waiting begun_is =
    (running, record { node = node; typed = typed; constant = constant; left = left; unfinished = refl; waits_not = free; fits = fits }, waiting, begun_is)
control_next program running statics callers node (chooses own first) purpose typed constant left free fits waiting begun_is =
    (running, record { node = node; typed = typed; constant = constant; left = left; unfinished = refl; waits_not = free; fits = fits }, waiting, begun_is)
control_next program running statics callers node (tests own marks second) purpose typed constant left free fits waiting begun_is =
    (running, record { node = node; typed = typed; constant = constant; left = left; unfinished = refl; waits_not = free; fits = fits }, waiting, begun_is)
control_next program running statics callers node (carries own marks part) purpose typed constant left free fits waiting begun_is =
    (running, record { node = node; typed = typed; constant = constant; left = left; unfinished = refl; waits_not = free; fits = fits }, waiting, begun_is)
control_next program running statics callers node (updates own update stage marks) purpose typed constant left free fits waiting begun_is =
    (running, record { node = node; typed = typed; constant = constant; left = left; unfinished = refl; waits_not = free; fits = fits }, waiting, begun_is)
control_next program running statics callers node (fills own marks one others value) purpose typed constant left free fits waiting begun_is =
    (running, record { node = node; typed = typed; constant = constant; left = left; unfinished = refl; waits_not = free; fits = fits }, waiting, begun_is)
control_next program running statics callers node (waits own marks) purpose typed constant left free fits waiting begun_is =
    (running, record { node = node; typed = typed; constant = constant; left = left; unfinished = refl; waits_not = free; fits = fits }, waiting, begun_is)

pub next_begins : (program : CProgram) (running : CRunning) (statics : Frame) (callers : List CCaller) (node : CExpr) (purpose : CPurpose) → IsNext program running node purpose → AreWaiting program running callers → AreBegun program [] statics
    → IsControl program statics callers (evaluating (begun node) purpose)
next_begins program running statics callers node purpose next waiting begun_is =
    control_next program running statics callers node (begun node) purpose next.typed next.constant
    (typed_work_begun (home_in program running purpose) node (home_whole program running (type_of node) purpose next.fits) (inl next.typed)).left (begun_free node) next.fits waiting begun_is

evaluating_slots : (work : CWork) (purpose : CPurpose) → slots_of_control (evaluating work purpose) ≡ own_frame purpose
evaluating_slots (finished operand) purpose = refl
evaluating_slots (needs own operands) purpose = refl
evaluating_slots (chooses own first) purpose = refl
evaluating_slots (tests own marks second) purpose = refl
evaluating_slots (carries own marks part) purpose = refl
evaluating_slots (updates own update stage marks) purpose = refl
evaluating_slots (fills own marks one others value) purpose = refl
evaluating_slots (waits own marks) purpose = refl

pub begun_slots : (node : CExpr) (purpose : CPurpose) → slots_of_control (evaluating (begun node) purpose) ≡ own_frame purpose
begun_slots node purpose = evaluating_slots (begun node) purpose
