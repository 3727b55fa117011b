-- The arguments of a call are evaluated from the left, and are given together where the last one has come (ISO C99, 6.5.2.2p4 and p10).
use Rattle.std.proofs.Common.{◌≡◌, inl, ℕ, Bool, true, false, not, List, [], ◌∷◌, ◌++◌, map, Ok, refl, sym, ap, subst, ◌∙◌, append_assoc}
use Rattle.std.proofs.Math.Path.{fun_ext}
use Rattle.std.specs.List.{list_any}
use Rattle.cr_runs.proofs.Rules.{renamed, bind_bind}
use Rattle.cr_runs.specs.Runs.{came, bind}
use Rattle.cr_world.specs.World.{World, events_of}
use Rattle.cx_core.specs.Trees.{CExpr, CExprs, no_exprs, more_exprs}
use Rattle.cx_core.specs.Typing.{AreTyped}
use Rattle.cx_mean.specs.Leftmost.{CRan, CPiece, c_values}
use Rattle.cx_mean.specs.Marks.{Marks, Range, overlap, any_overlap}
use Rattle.cx_mean.specs.Operands.{COperand, united_operands}
use Rattle.cx_mean.specs.Quiet.{calls_nothing}
use Rattle.cx_typed_work.specs.Operands.{IsOperandOf}
use Rattle.lift_calls.specs.Programs.{c_calls, setting_in}
use Rattle.lift_does.proofs.Around.{Around, scope, At, OweAs, Reached, runs, value_in}
use Rattle.lift_does.proofs.Lasting.{no_either, no_conflict, lasts_then, lasts_once}
use Rattle.lift_does.proofs.Nodes.{OneDid, GivesUsed, one_owes, two_last, united_more}
use Rattle.lift_does.proofs.Numbers.{rises, numbered, args_numbered}
use Rattle.lift_does.proofs.Reaching.{reached_none, reached_then, temporaries_stay}
use Rattle.lift_does.proofs.Unary.{ExprOwes}
use Rattle.lift_does.specs.Does.{is_fixed}
use Rattle.lift_does.specs.Later.{Lasts}
use Rattle.lift_exprs.specs.Lifted.{lifted, lifted_args}
use Rattle.lift_held.specs.Held.{operand_before, some_holds_call, holds_call}
use Rattle.lift_stands.specs.Stands.{Images}
use Rattle.rs_mean.specs.Run.{Flow}
use Rattle.rs_text.specs.Tree.{Stmt}

-- ---- ranges

any_apart : (one : Range) (writes more : List Range) → list_any (overlap one) (writes ++ more) ≡ false → (list_any (overlap one) writes ≡ false) × (list_any (overlap one) more ≡ false)
any_apart one [] more none = (refl, none)
any_apart one (write ∷ writes) more none =
    let parts = no_either (overlap one write) (list_any (overlap one) (writes ++ more)) none in
    let rest = any_apart one writes more parts.1 in
    (rw (parts.0, rest.0) refl, rest.1)

apart_both : (reads writes more : List Range) → any_overlap reads (writes ++ more) ≡ false → (any_overlap reads writes ≡ false) × (any_overlap reads more ≡ false)
apart_both [] writes more none = (refl, refl)
apart_both (one ∷ reads) writes more none =
    let parts = no_either (list_any (overlap one) (writes ++ more)) (any_overlap reads (writes ++ more)) none in
    let first = any_apart one writes more parts.0 in
    let rest = apart_both reads writes more parts.1 in
    (rw (first.0, rest.0) refl, rw (first.1, rest.1) refl)

no_call : (e : CExpr) → holds_call e ≡ false → calls_nothing e ≡ true
no_call e is = by (calls_nothing e) is
  where
    by : (test : Bool) → not test ≡ false → test ≡ true
    by true same = refl
    by false same = cc (same)

module _ (x : Around) where
  abbrev pub values_in : CExprs → World → ℕ → CRan (List COperand)
  values_in args world = c_values (setting_in x.s) (c_calls x.s) (scope x) args world

  -- ---- what each argument owes, and what is given for them

  abbrev pub EachOwes : CExprs → ℕ → Type 0
  EachOwes no_exprs next = Unit {0}
  EachOwes (more_exprs first others) next =
      ((images : Images) (c w : World) → At x images c w → ExprOwes x (operand_before (some_holds_call others)) first next images c w)
      × EachOwes others (lifted x.names (operand_before (some_holds_call others)) first next).next

  abbrev pub ArgsGiven : Images → World → CExprs → ℕ → List COperand → Type 0
  ArgsGiven last later no_exprs next [] = Unit {0}
  ArgsGiven last later no_exprs next (one ∷ rest) = ⊥
  ArgsGiven last later (more_exprs first others) next [] = ⊥
  ArgsGiven last later (more_exprs first others) next (one ∷ rest) =
      IsOperandOf x.home first one × GivesUsed x true last later first (lifted x.names (operand_before (some_holds_call others)) first next).given one.value
      × ArgsGiven last later others (lifted x.names (operand_before (some_holds_call others)) first next).next rest

  -- what was read in front of them lasts, where they don't write to it
  abbrev pub LastsOver : CExprs → List COperand → World → World → Type 0
  LastsOver args operands before after =
      (fixed : Bool) (reads : List Range) (marks : Marks) → (fixed ≡ false → some_holds_call args ≡ false) → united_operands operands ≡ Ok marks → any_overlap reads marks.writes ≡ false → Lasts fixed reads before after

  pub record ArgsDid (args : CExprs) (next : ℕ) (images : Images) (c0 w0 : World) (operands : List COperand) (last : Images) (c2 w2 : World) : Type 0 where
    pub reached : Reached x next (lifted_args x.names args next).written.next images last c0 w0 c2 w2
    pub over : LastsOver args operands c0 c2
    pub gives : (marks : Marks) → united_operands operands ≡ Ok marks → ArgsGiven last w2 args next operands

  args_more : (first : CExpr) (others : CExprs) (next : ℕ) (images mid last : Images) (c0 w0 c1 w1 c2 w2 : World) (one : COperand) (rest : List COperand) → At x images c0 w0 →
      OneDid x true (is_fixed (operand_before (some_holds_call others)) first) first (lifted x.names (operand_before (some_holds_call others)) first next) next images mid c0 w0 one c1 w1 →
      ArgsDid others (lifted x.names (operand_before (some_holds_call others)) first next).next mid c1 w1 rest last c2 w2 → ArgsDid (more_exprs first others) next images c0 w0 (one ∷ rest) last c2 w2
  args_more first others next images mid last c0 w0 c1 w1 c2 w2 one rest here did more =
      let asked = operand_before (some_holds_call others) in
      let written = lifted x.names asked first next in
      let end = (lifted_args x.names others written.next).written in
      record {
        reached = reached_then x next written.next end.next images mid last c0 w0 c1 w1 c2 w2 (rises written next (numbered x.names asked first next)) (rises end written.next (args_numbered x.names others written.next)) here did.reached more.reached;
        over = λ fixed reads marks quiet united apart.
            let parts = united_more one.marks (map (λ (o : COperand). o.marks) rest) marks united in
            let split = apart_both reads one.marks.writes parts.0.writes (subst (λ (m : Marks). any_overlap reads m.writes ≡ false) parts.2.marks_are apart) in
            lasts_then fixed reads c0 c1 c2
            (two_last x fixed first reads c0 c1 one did.knows_is (λ loose. no_call first (no_either (holds_call first) (some_holds_call others) (quiet loose)).0) split.0)
            (more.over fixed reads parts.0 (λ loose. (no_either (holds_call first) (some_holds_call others) (quiet loose)).1) parts.1 split.1);
        gives = λ marks united.
            let parts = united_more one.marks (map (λ (o : COperand). o.marks) rest) marks united in (
              did.knows_is.0.operand_is,
              did.gives last c2 w2 (record {
                extends = more.reached.keeps.extends;
                here = more.reached.at;
                temporaries = temporaries_stay x written.next end.next mid last c1 w1 c2 w2 did.reached.at more.reached;
                lasts = more.over (is_fixed asked first) one.marks.reads parts.0 (λ loose. (no_either (some_holds_call others) _ loose).0) parts.1 (no_conflict one.marks parts.0 parts.2.apart);
              }),
              more.gives parts.0 parts.1,
            );
      }

  -- ---- the arguments, and what comes behind them

  pub args_owe : {A : Type 0} (Good : A → World → Flow → World → Type 0) (go : List COperand → CPiece A) (rest : List Stmt) (args : CExprs) (next : ℕ) (images : Images) (c0 w0 : World) → At x images c0 w0 → AreTyped x.home args → EachOwes args next →
      ((operands : List COperand) (last : Images) (c2 w2 : World) → ArgsDid args next images c0 w0 operands last c2 w2 → OweAs x Good (go operands c2) rest w2) →
      OweAs x Good (λ k. bind (values_in args c0 k) (λ operands after. go operands after)) ((lifted_args x.names args next).written.body ++ rest) w0
  args_owe Good go rest no_exprs next images c0 w0 here typed owes all =
      all [] images c0 w0 (record { reached = reached_none x next images c0 w0 here; over = λ fixed reads marks quiet united apart. lasts_once fixed reads c0; gives = λ marks united. tt })
  args_owe Good go rest (more_exprs first others) next images c0 w0 here typed owes all =
      let asked = operand_before (some_holds_call others) in
      let written = lifted x.names asked first next in
      let end = (lifted_args x.names others written.next).written in
      let then_all : COperand → List COperand → _ = λ one more. go (one ∷ more) in
      subst (λ (list : List Stmt). OweAs x Good (λ k. bind (values_in (more_exprs first others) c0 k) (λ operands after. go operands after)) list w0) (sym (append_assoc written.body end.body rest))
      (renamed events_of events_of Good x.units x.steps
      (λ k. bind (value_in x first c0 k) (λ one after left. bind (values_in others after left) (λ more later. go (one ∷ more) later)))
      (λ k. bind (values_in (more_exprs first others) c0 k) (λ operands after. go operands after))
      (runs x (written.body ++ (end.body ++ rest)) w0) (runs x (written.body ++ (end.body ++ rest)) w0)
      (λ k. sym (bind_bind (value_in x first c0 k) (λ one after left. bind (values_in others after left) (λ more. came (one ∷ more))) (λ operands after. go operands after)
      ∙ again (value_in x first c0 k)))
      (λ k. refl)
      (one_owes x Good (λ one after left. bind (values_in others after left) (λ more later. go (one ∷ more) later)) (end.body ++ rest) true (is_fixed asked first) first written next images c0 w0 here (inl typed.0) (owes.0 images c0 w0 here) (λ one mid c1 w1 did.
      args_owe Good (λ more later. go (one ∷ more) later) rest others written.next mid c1 w1 did.reached.at typed.1 owes.1 (λ more last c2 w2 did_more.
      all (one ∷ more) last c2 w2 (args_more first others next images mid last c0 w0 c1 w1 c2 w2 one more here did did_more)))))
    where
      again : (r : CRan COperand) → bind r (λ one after left. bind (bind (values_in others after left) (λ more. came (one ∷ more))) (λ operands later. go operands later))
          ≡ bind r (λ one after left. bind (values_in others after left) (λ more later. go (one ∷ more) later))
      again r = ap (bind r) (fun_ext (λ one. fun_ext (λ after. fun_ext (λ left. bind_bind (values_in others after left) (λ more. came (one ∷ more)) (λ operands later. go operands later)))))
