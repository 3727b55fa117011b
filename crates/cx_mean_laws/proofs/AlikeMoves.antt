-- A move under two ways to go on that agree below its steps.
use Rattle.std.proofs.Common.{ℕ, ◌+◌, ◌<◌, ◌≤◌, Bool, true, false, List, [], ◌∷◌, ◌++◌, Option, Some, None, refl, arith}
use Rattle.cr_world.specs.World.{World, blocks_of, with_memory}
use Rattle.cx_core.specs.Linked.{main_of}
use Rattle.cx_core.specs.Trees.{CFun}
use Rattle.cx_mean.specs.Initialisers.{put_stored}
use Rattle.cx_mean.specs.Leftmost.{CGoes, c_stand, c_dropped, c_use, c_params, c_called, c_main, c_move}
use Rattle.cx_mean.specs.Marks.{no_marks}
use Rattle.cx_mean.specs.Moves.{CPurpose, puts_it, drops_it, turns_on, gives_it, chooses_by, CMove, values, reaches, begins, leaves, calls_main, goes_nowhere, CStand, next_of, putting, beginning, reached, turning_on}
use Rattle.cx_mean.specs.Operands.{CValue, COperand, with_marks, Frame}
use Rattle.cx_mean.specs.Settings.{CSetting}
use Rattle.cx_mean.specs.State.{given_back, after_return, own_frame, value_given, choice_at, slot, with_slot, object_begins, param_begins, no_place, place_of_body}
use Rattle.cx_mean.specs.Work.{is_finished, begun}
use Rattle.cx_mean_laws.proofs.AlikePieces.{Alike, alike_any, alike_bind, alike_tick, alike_came, alike_step, alike_stop}
use Rattle.cx_mean_laws.proofs.AlikeValues.{CallsAlike, least_of, value_alike}

-- two ways to go on from a move, within less than so many steps
abbrev pub GoesAlike : ℕ → CGoes → CGoes → Type 0
GoesAlike most goes other = (move : CMove) (world : World) (left : ℕ) → left < most → Alike 0 left (goes move world left) (other move world left)

module _ (setting : CSetting) (statics : Frame) (goes other : CGoes) (most : ℕ) (agree : GoesAlike most goes other) where
  stand_alike : (one : CStand) (world : World) (left : ℕ) → left < most → Alike 0 left (c_stand goes one world left) (c_stand other one world left)
  stand_alike one world left less = agree one.move (with_memory one.blocks world) left less

  -- ---- calls

  pub params_alike : (callee : CFun) (params : List ℕ) (args : List CValue) (frame : Frame) (world : World) (left : ℕ) → left < most
      → Alike 0 left (c_params setting goes callee params args frame world left) (c_params setting other callee params args frame world left)
  params_alike callee [] args frame world left less = agree _ world left less
  params_alike callee (number ∷ params) [] frame world left less =
      alike_any 1 left _ _ (alike_tick left world _ _ (λ more fits. record { same = refl; takes = tt }))
  params_alike callee (number ∷ params) (value ∷ args) frame world left less =
      alike_any 1 left _ _ (alike_tick left world _ _ (λ more fits.
      alike_stop 0 more (param_begins setting (place_of_body callee.body) number value world) _ _ world (λ got.
      params_alike callee params args (frame ++ slot number got.value ∷ []) got.world more (omega (arith, fits, less)))))

  pub called_alike : CallsAlike most (c_called setting goes) (c_called setting other)
  called_alike callee args world left less = params_alike callee callee.params args [] world left less

  main_alike : (found : Option CFun) (world : World) (left : ℕ) → left < most → Alike 0 left (c_main setting goes found world left) (c_main setting other found world left)
  main_alike None world left less = record { same = refl; takes = tt }
  main_alike (Some one) world left less = params_alike one one.params [] [] world left less

  -- ---- uses of values

  -- what isn't finished took a step
  dropped_alike : (at_once : Bool) (one : CStand) (world : World) (left : ℕ) → left + least_of at_once ≤ most → Alike 0 left (c_dropped goes at_once one world left) (c_dropped other at_once one world left)
  dropped_alike true one world left fits = alike_any 1 left _ _ (alike_tick left world _ _ (λ more less. stand_alike one world more (omega (arith, less, fits))))
  dropped_alike false one world left fits = stand_alike one world left (omega (arith, fits))

  use_alike : (at_once : Bool) (purpose : CPurpose) (operand : COperand) (world : World) (left : ℕ) → left + least_of at_once ≤ most
      → Alike 0 left (c_use setting statics goes at_once purpose operand world left) (c_use setting statics other at_once purpose operand world left)
  use_alike at_once (puts_it place one) operand world left fits =
      alike_any 1 left _ _ (alike_step left place (put_stored setting (own_frame (puts_it place one) ++ statics) (blocks_of world) one.object one.spot one.type (with_marks no_marks operand)) _ _ world (λ done more less.
      stand_alike (putting one.object one.others one.behind done.blocks) world more (omega (arith, less, fits))))
  use_alike at_once (drops_it site) operand world left fits = dropped_alike at_once (next_of site (blocks_of world)) world left fits
  use_alike at_once (turns_on site) operand world left fits = dropped_alike at_once (turning_on site (blocks_of world)) world left fits
  use_alike at_once (gives_it place site) operand world left fits =
      alike_any 1 left _ _ (alike_step left place (value_given operand.value) _ _ world (λ value more less. alike_came more (given_back value) (after_return site world)))
  use_alike at_once (chooses_by place site) operand world left fits =
      alike_any 1 left _ _ (alike_step left place (choice_at (blocks_of world) operand.value site.levels site.bottom) _ _ world (λ one more less.
      stand_alike one world more (omega (arith, less, fits))))

  -- ---- moves

  pub move_alike : (move : CMove) (world : World) (steps : ℕ) → steps ≤ most → Alike 0 steps (c_move setting statics goes move world steps) (c_move setting statics other move world steps)
  move_alike (values value purpose) world steps within =
      alike_bind (least_of (is_finished (begun value))) 0 steps _ _ _ _
      (value_alike setting (c_called setting goes) (c_called setting other) (own_frame purpose ++ statics) most called_alike value world steps within) (λ operand after left fits.
      use_alike (is_finished (begun value)) purpose operand after left (omega (arith, fits, within)))
  move_alike (reaches one site) world steps within =
      alike_any 1 steps _ _ (alike_tick steps world _ _ (λ left less. stand_alike (reached setting one site (blocks_of world)) world left (omega (arith, less, within))))
  move_alike (begins one) world steps within =
      alike_any 1 steps _ _ (alike_tick steps world _ _ (λ left less.
      alike_stop 0 left (object_begins setting no_place one.object world) _ _ world (λ got.
      stand_alike (beginning setting one.others one.goal (with_slot (slot one.object got.value) one.level) one.outer (blocks_of got.world)) got.world left (omega (arith, less, within)))))
  move_alike (leaves value site) world steps within =
      alike_any 1 steps _ _ (alike_tick steps world _ _ (λ left less. alike_came left (given_back value) (after_return site world)))
  move_alike calls_main world steps within =
      alike_any 1 steps _ _ (alike_tick steps world _ _ (λ left less. main_alike (main_of setting.program) world left (omega (arith, less, within))))
  move_alike (goes_nowhere place) world steps within = record { same = refl; takes = tt }
