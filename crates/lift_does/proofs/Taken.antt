-- The value of a part goes to a temporary that is taken behind other parts.
use Rattle.std.proofs.Common.{◌≡◌, inl, ℕ, suc, ◌≤◌, Bool, true, false, [], ◌∷◌, Some, refl, subst, arith}
use Rattle.cr_runs.specs.Runs.{came}
use Rattle.cr_world.specs.World.{World}
use Rattle.cx_core.specs.Trees.{CExpr, type_of}
use Rattle.cx_core.specs.Typing.{IsTyped}
use Rattle.cx_mean.specs.Operands.{CValue}
use Rattle.cx_typed_work.proofs.Given.{value_given}
use Rattle.cx_typed_work.specs.Operands.{IsGiven}
use Rattle.lift_does.proofs.Around.{Around, At, DidOf, value_in, Reached, runs}
use Rattle.lift_does.proofs.Held.{storable}
use Rattle.lift_does.proofs.Nodes.{PartOwes}
use Rattle.lift_does.proofs.Operands.{where_used}
use Rattle.lift_does.proofs.Reaching.{Knows, knows, reached_by, reached_then, later_itself}
use Rattle.lift_does.proofs.Runs.{behind_owes, end_owes, known_owes}
use Rattle.lift_does.proofs.Temporaries.{stores_temporary, reads_staying}
use Rattle.lift_does.specs.Gives.{GivesOperand, GivesWhere}
use Rattle.lift_does.specs.Later.{TemporariesStay}
use Rattle.lift_exprs.specs.Names.{type_in}
use Rattle.lift_exprs.specs.Written.{Written, temporary_place, then_takes}
use Rattle.lift_forms.specs.Given.{Given}
use Rattle.lift_forms.specs.Given as given_form
use Rattle.lift_forms.specs.Operators.{given_value}
use Rattle.lift_held.specs.Held.{is_void, is_record}
use Rattle.lift_stands.specs.Stands.{Images, Extends}
use Rattle.rs_mean.specs.Run.{normal}
use Rattle.rs_text.specs.Tree.{Ty, Read, Stmt, Assign}

-- a statement takes what was given for a part to a temporary
pub record IsTaken (x : Around) (part : CExpr) (of_c : CValue) (statement : Stmt) (given : Given) (number : ℕ) (images : Images) (c_world world : World) : Type 0 where
  pub after : World
  pub comes : (units : ℕ) → runs x (statement ∷ []) world units ≡ came normal after units
  pub reached : Reached x number (suc number) images images c_world world c_world after
  pub gives : (last : Images) (later : World) → Extends images last → TemporariesStay x.kept x.frame (suc number) after later → GivesOperand x.s x.names last x.c_frame x.frame later part given of_c

module _ (x : Around) where
  -- a scalar is assigned
  pub scalar_taken : (part : CExpr) (of_c : CValue) (given : Given) (number : ℕ) (images : Images) (c_world world : World) → At x images c_world world → IsTyped x.home part → is_void (type_of part) ≡ false →
      is_record (type_of part) ≡ false → IsGiven x.home.program part of_c → x.kept.temporaries number ≡ Some (record { name = x.names.temporary number; ty = type_in x.names (type_of part) }) →
      GivesOperand x.s x.names images x.c_frame x.frame world part given of_c →
      IsTaken x part of_c (Assign (temporary_place x.names number) (given_value given)) (given_form.value (Read (temporary_place x.names number))) number images c_world world
  scalar_taken part of_c given number images c_world world at typed not_void not_record is kept_is gave =
      let may = storable x part of_c given images world typed not_void not_record is gave in
      let stored = stores_temporary x number (type_in x.names (type_of part)) may.kind (given_value given) (type_in x.names (type_of part)) may.other images c_world world at kept_is may.kind_is may.of_kind may.gives in
      record {
        after = stored.after;
        comes = stored.comes;
        reached = stored.reached;
        gives = λ last later extends stay.
            may.back last later (Read (temporary_place x.names number)) (λ p same. cc (same)) extends
            (reads_staying x number (suc number) (type_in x.names (type_of part)) may.kind may.other stored.after later (omega arith) stored.holds stay);
      }

  -- a node whose value is held
  pub taken_held : (used fixed more : Bool) (e : CExpr) (written : Written) (one : Ty) (statement : Stmt) (given : Given) (from : ℕ) (images : Images) (c0 w0 : World) → At x images c0 w0 → IsTyped x.home e → used ≡ true → from ≤ written.next →
      ((of_c : CValue) (last : Images) (c1 w1 : World) → At x last c1 w1 → IsGiven x.home.program e of_c → GivesOperand x.s x.names last x.c_frame x.frame w1 e written.given of_c → IsTaken x e of_c statement given written.next last c1 w1) →
      PartOwes x used fixed e written from images c0 w0 → PartOwes x used more e (then_takes one (statement ∷ []) given written) from images c0 w0
  taken_held used fixed more e written one statement given from images c0 w0 at typed is_used rises takes owes =
      let Good = DidOf x used more e (then_takes one (statement ∷ []) given written) from images c0 w0 in
      behind_owes x (λ operand c1 flow w1. DidOf x used fixed e written from images c0 w0 operand c1 flow w1 × Knows x e c0 operand c1) Good (value_in x e c0) written.body (statement ∷ []) w0
      (λ operand c1 flow w1 good. good.0.flow_is)
      (known_owes x (DidOf x used fixed e written from images c0 w0) (Knows x e c0) (value_in x e c0) written.body w0 (knows x e images c0 w0 (inl typed) at) owes)
      (λ operand c1 w1 good.
      let did = good.0 in
      let reached = reached_by x used fixed e written from images c0 w0 operand c1 normal w1 at did good.1.0.at in
      let gave = subst (λ (u : Bool). GivesWhere u x.s x.names did.later x.c_frame x.frame w1 e written.given operand.value) is_used
      (did.gives did.later c1 w1 (later_itself x did.later written.next fixed operand.marks.reads c1 w1 reached.at)) in
      let taken = takes operand.value did.later c1 w1 reached.at (value_given x.home e operand.value typed good.1.0.operand_is.given) gave in
      let both = reached_then x from written.next (suc written.next) images did.later did.later c0 w0 c1 w1 c1 taken.after rises (omega arith) at reached taken.reached in
      end_owes x Good operand (statement ∷ []) c1 w1 taken.after taken.comes (record {
        flow_is = refl;
        later = did.later;
        own = both.own;
        are_own = both.are_own;
        keeps = both.keeps;
        worlds = both.at.worlds;
        gives = λ last c_later after later. where_used used x last after e given operand.value (λ _. taken.gives last after later.extends later.temporaries);
      }))
