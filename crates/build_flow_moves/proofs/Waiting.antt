-- Without a step a run of C stands where it is: an expression that is finished gives its value, and any other waits.
use Rattle.std.proofs.Common.{◌≡◌, ◌∙◌, ℕ, ◌++◌, Bool, true, false, arith, refl, ap, subst, sym}
use Rattle.cr_base.specs.declared.refusal.Place.{Place}
use Rattle.cr_runs.specs.Owes.{GoesOn}
use Rattle.cr_runs.specs.Runs.{Ran, came, halted, bad, out, bind, tick}
use Rattle.cr_runs_rules.proofs.Rules.{goes_at_a_step}
use Rattle.cr_runs_rules.specs.Steps.{StepsTo, Waits}
use Rattle.cr_world.specs.World.{World, blocks_of, events_of}
use Rattle.cx_core.specs.Trees.{CTy, CExpr, expr, CForm, whole, null, object, code, load, deref, member, address, convert, unary, binary, and, or, cond, assign, assign_by, step, call, call_by, comma, literal, CExprs, no_exprs, more_exprs}
use Rattle.cx_mean.specs.Leftmost.{CRan, CPiece, CCalls, CGoes, c_value, c_form, c_values, c_use, c_called, c_move}
use Rattle.cx_mean.specs.Moves.{chooses_by, turns_on, CPurpose, CMove, values, CStand, turning_on}
use Rattle.cx_mean.specs.Operands.{COperand, Frame}
use Rattle.cx_mean.specs.Paths.{CSite}
use Rattle.cx_mean.specs.Settings.{CSetting}
use Rattle.cx_mean.specs.State.{own_frame}
use Rattle.cx_mean.specs.Work.{is_finished, begun}
use Rattle.cx_mean_laws.proofs.Unfolded.{unfinished_takes}
use Rattle.cx_mean_laws.specs.Laws.{Takes, AreBounded}

-- a piece without a step is at its end, or waits, in the same world
abbrev Stands : {A : Type 0} → World → CRan A → Type 0
Stands world (came value after left) = (after ≡ world) × (left ≡ 0)
Stands world (halted status after) = ⊥
Stands world (bad stop after) = ⊥
Stands world (out after) = after ≡ world

stands_then : {A B : Type 0} (world : World) (first : CRan A) (go : A → CPiece B) → Stands world first → ((value : A) → Stands world (go value world 0)) → Stands world (bind first go)
stands_then world (came value after left) go is then_is =
    subst (λ (w : World). Stands world (go value w left)) (sym is.0) (subst (λ (k : ℕ). Stands world (go value world k)) (sym is.1) (then_is value))
stands_then world (halted status after) go is then_is = is
stands_then world (bad stop after) go is then_is = is
stands_then world (out after) go is then_is = is

module _ (setting : CSetting) (calls : CCalls) (frame : Frame) (world : World) where
  mutual
    value_stands : (e : CExpr) → Stands world (c_value setting calls frame e world 0)
    value_stands (expr type place form) = form_stands type place form

    form_stands : (type : CTy) (place : Place) (form : CForm) → Stands world (c_form setting calls frame type place form world 0)
    form_stands type place (whole value) = (refl, refl)
    form_stands type place null = (refl, refl)
    form_stands type place (object number) = (refl, refl)
    form_stands type place (code number) = (refl, refl)
    form_stands type place (load from) = stands_then world (c_value setting calls frame from world 0) _ (value_stands from) (λ one. refl)
    form_stands type place (deref from) = stands_then world (c_value setting calls frame from world 0) _ (value_stands from) (λ one. refl)
    form_stands type place (member of spot) = stands_then world (c_value setting calls frame of world 0) _ (value_stands of) (λ one. refl)
    form_stands type place (address of) = stands_then world (c_value setting calls frame of world 0) _ (value_stands of) (λ one. refl)
    form_stands type place (convert value) = stands_then world (c_value setting calls frame value world 0) _ (value_stands value) (λ one. refl)
    form_stands type place (unary op value) = stands_then world (c_value setting calls frame value world 0) _ (value_stands value) (λ one. refl)
    form_stands type place (binary op first second) =
        stands_then world (c_value setting calls frame first world 0) _ (value_stands first)
        (λ one. stands_then world (c_value setting calls frame second world 0) _ (value_stands second) (λ other. refl))
    form_stands type place (and first second) = stands_then world (c_value setting calls frame first world 0) _ (value_stands first) (λ one. refl)
    form_stands type place (or first second) = stands_then world (c_value setting calls frame first world 0) _ (value_stands first) (λ one. refl)
    form_stands type place (cond test first second) = stands_then world (c_value setting calls frame test world 0) _ (value_stands test) (λ one. refl)
    form_stands type place (assign target value) =
        stands_then world (c_value setting calls frame target world 0) _ (value_stands target)
        (λ one. stands_then world (c_value setting calls frame value world 0) _ (value_stands value) (λ other. refl))
    form_stands type place (assign_by op computes target value) =
        stands_then world (c_value setting calls frame target world 0) _ (value_stands target)
        (λ one. stands_then world (c_value setting calls frame value world 0) _ (value_stands value) (λ other. refl))
    form_stands type place (step up post on) = stands_then world (c_value setting calls frame on world 0) _ (value_stands on) (λ one. refl)
    form_stands type place (call number args) = stands_then world (c_values setting calls frame args world 0) _ (values_stand args) (λ operands. refl)
    form_stands type place (call_by callee args) =
        stands_then world (c_value setting calls frame callee world 0) _ (value_stands callee)
        (λ one. stands_then world (c_values setting calls frame args world 0) _ (values_stand args) (λ operands. refl))
    form_stands type place (comma first second) = stands_then world (c_value setting calls frame first world 0) _ (value_stands first) (λ one. refl)
    form_stands type place (literal number puts) = refl

    values_stand : (all : CExprs) → Stands world (c_values setting calls frame all world 0)
    values_stand no_exprs = (refl, refl)
    values_stand (more_exprs first others) =
        stands_then world (c_value setting calls frame first world 0) _ (value_stands first)
        (λ one. stands_then world (c_values setting calls frame others world 0) _ (values_stand others) (λ rest. (refl, refl)))

-- ---- what follows waits

-- a piece that stands, and then waits
waits_then : {A B : Type 0} (world : World) (first : CRan A) (go : A → CPiece B) → Stands world first → ((value : A) → go value world 0 ≡ out world) → bind first go ≡ out world
waits_then world (came value after left) go is then_is = ap (λ (w : World). go value w left) is.0 ∙ ap (λ (k : ℕ). go value world k) is.1 ∙ then_is value
waits_then world (halted status after) go is then_is = elim is [ ]
waits_then world (bad stop after) go is then_is = elim is [ ]
waits_then world (out after) go is then_is = ap out is

-- one that isn't at its end
unfinished_waits : {A B : Type 0} (world : World) (first : CRan A) (go : A → CPiece B) → Stands world first → Takes 1 0 first → bind first go ≡ out world
unfinished_waits world (came value after left) go is takes = absurd (omega (arith, takes))
unfinished_waits world (halted status after) go is takes = elim is [ ]
unfinished_waits world (bad stop after) go is takes = elim is [ ]
unfinished_waits world (out after) go is takes = ap out is

module _ (setting : CSetting) (statics : Frame) (goes : CGoes) (unfolds : (move : CMove) (world : World) (left : ℕ) → goes move world left ≡ c_move setting statics goes move world left)
    (bounded : AreBounded (c_called setting goes)) (world : World) where
  abbrev waits_at_once : CMove → Type 0
  waits_at_once move = goes move world 0 ≡ out world

  goes_on : (move : CMove) → waits_at_once move → GoesOn (goes move world) events_of (events_of world)
  goes_on move is = record { taken = 0; state = world; goes = is; same = refl }

  abbrev value_of : CExpr → CPurpose → CRan COperand
  value_of e purpose = c_value setting (c_called setting goes) (own_frame purpose ++ statics) e world 0

  -- a condition that is to be chosen by
  pub choice_waits : (e : CExpr) (place : Place) (site : CSite) → GoesOn (goes (values e (chooses_by place site)) world) events_of (events_of world)
  choice_waits e place site =
      goes_on (values e (chooses_by place site))
      (unfolds (values e (chooses_by place site)) world 0
      ∙ waits_then world (value_of e (chooses_by place site)) (c_use setting statics goes (is_finished (begun e)) (chooses_by place site))
      (value_stands setting (c_called setting goes) (own_frame (chooses_by place site) ++ statics) world e) (λ operand. refl))

  -- the third expression of a `for`
  pub turn_waits : (e : CExpr) (site : CSite) → GoesOn (goes (values e (turns_on site)) world) events_of (events_of world)
  turn_waits e site = goes_on (values e (turns_on site)) (unfolds (values e (turns_on site)) world 0 ∙ by_end (is_finished (begun e)) refl)
    where
      by_end : (finished : Bool) → is_finished (begun e) ≡ finished → bind (value_of e (turns_on site)) (c_use setting statics goes finished (turns_on site)) ≡ out world
      by_end true is =
          waits_then world (value_of e (turns_on site)) (c_use setting statics goes true (turns_on site))
          (value_stands setting (c_called setting goes) (own_frame (turns_on site) ++ statics) world e) (λ operand. refl)
      by_end false is =
          unfinished_waits world (value_of e (turns_on site)) (c_use setting statics goes false (turns_on site))
          (value_stands setting (c_called setting goes) (own_frame (turns_on site) ++ statics) world e)
          (unfinished_takes setting (c_called setting goes) (own_frame (turns_on site) ++ statics) e world 0 (bounded) is)
