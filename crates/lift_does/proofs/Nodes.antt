-- A node behind its operands: what they gave they give where the node takes it.
use Rattle.std.proofs.Common.{◌≡◌, ℕ, ◌≤◌, Bool, true, false, if◌then◌else◌, List, [], ◌∷◌, ◌++◌, Result, Ok, Err, refl, sym, ap, subst, ◌∙◌, append_assoc}
use Rattle.std.proofs.lemmas.List.{append-nil}
use Rattle.cr_base.specs.declared.refusal.Place.{Place}
use Rattle.cr_base.specs.declared.rule.URule.TheVariants.{U1}
use Rattle.cr_runs.specs.Runs.{came, bind}
use Rattle.cr_world.specs.World.{World, blocks_of, with_memory}
use Rattle.cx_core.specs.Trees.{CTy, CExpr, CForm}
use Rattle.cx_mean.specs.Leftmost.{CPiece, gives_operand, c_done}
use Rattle.cx_mean.specs.Marks.{Range, Marks, no_marks, any_overlap, conflict, both}
use Rattle.cx_mean.specs.Nodes.{CDone, node_done}
use Rattle.cx_mean.specs.Operands.{breaks, CValue, COperand, united, united_operands}
use Rattle.cx_mean.specs.Quiet.{calls_nothing}
use Rattle.cx_typed_work.specs.Works.{IsTypedNode}
use Rattle.lift_calls.specs.Programs.{setting_in}
use Rattle.lift_does.proofs.Around.{Around, scope, At, LaterAt, DidOf, OweAs, runs, value_in, Reached}
use Rattle.lift_does.proofs.Lasting.{all_front, all_back, reads_stay, no_conflict, lasts_less}
use Rattle.lift_does.proofs.Reaching.{Knows, knows, reached_by}
use Rattle.lift_does.proofs.Runs.{join_owes, step_owes, end_owes, known_owes, same_events}
use Rattle.lift_does.specs.Gives.{GivesWhere}
use Rattle.lift_does.specs.Later.{AllOf, IsSameAt, Lasts}
use Rattle.lift_exprs.specs.Written.{Written, then_gives}
use Rattle.lift_forms.specs.Given.{Given}
use Rattle.lift_forms_laws.proofs.Runs.{pure_is}
use Rattle.lift_stands.specs.Stands.{Images}
use Rattle.mem_bytes.specs.Access.{and_then}
use Rattle.mem_bytes.specs.Memory.{Blocks}
use Rattle.rs_mean.specs.Run.{Flow, normal}
use Rattle.rs_text.specs.Tree.{Stmt}

-- ---- marks of operands

pub record IsUnited (one rest marks : Marks) : Type 0 where
  pub apart : conflict one rest ≡ false
  pub marks_are : marks ≡ both one rest

united_by : (one rest marks : Marks) (test : Bool) → conflict one rest ≡ test → (if test then Err (breaks U1) else Ok (both one rest)) ≡ Ok marks → IsUnited one rest marks
united_by one rest marks true is e = cc (e)
united_by one rest marks false is e = record { apart = is; marks_are = cc (e) }

pub and_then_is : {A B E : Type 0} (first : Result A E) (next : A → Result B E) (given : B) → and_then first next ≡ Ok given → (a : A) × (first ≡ Ok a) × (next a ≡ Ok given)
and_then_is (Ok a) next given e = (a, refl, e)
and_then_is (Err why) next given e = cc (e)

pub united_more : (one : Marks) (others : List Marks) (marks : Marks) → united (one ∷ others) ≡ Ok marks → (rest : Marks) × (united others ≡ Ok rest) × IsUnited one rest marks
united_more one others marks e =
    let parts = and_then_is (united others) _ marks e in
    (parts.0, parts.1, united_by one parts.0 marks (conflict one parts.0) refl parts.2)

pub united_one : (one : COperand) (marks : Marks) → united_operands (one ∷ []) ≡ Ok marks → marks ≡ both one.marks no_marks
united_one one marks e =
    let parts = united_more one.marks [] marks e in
    let none : no_marks ≡ parts.0 = cc (parts.1) in
    parts.2.marks_are ∙ ap (both one.marks) (sym none)

pub record AreUnited (one other : COperand) (marks : Marks) : Type 0 where
  pub apart : any_overlap one.marks.reads other.marks.writes ≡ false
  pub marks_are : marks ≡ both one.marks (both other.marks no_marks)

pub united_two : (one other : COperand) (marks : Marks) → united_operands (one ∷ other ∷ []) ≡ Ok marks → AreUnited one other marks
united_two one other marks e =
    let parts = united_more one.marks (other.marks ∷ []) marks e in
    let rest = united_one other parts.0 parts.1 in
    let apart : any_overlap one.marks.reads (other.marks.writes ++ []) ≡ false = no_conflict one.marks (both other.marks no_marks) (subst (λ (m : Marks). conflict one.marks m ≡ false) rest parts.2.apart) in
    record {
      apart = subst (λ (list : List Range). any_overlap one.marks.reads list ≡ false) (append-nil other.marks.writes) apart;
      marks_are = parts.2.marks_are ∙ ap (both one.marks) rest;
    }

-- what was read by one is among what was read by both
pub reads_one : (one : Marks) (P : Range → Type 0) → AllOf P (both one no_marks).reads → AllOf P one.reads
reads_one one P all = all_front P one.reads [] all

pub reads_first : (one other : Marks) (P : Range → Type 0) → AllOf P (both one (both other no_marks)).reads → AllOf P one.reads
reads_first one other P all = all_front P one.reads (other.reads ++ []) all

pub reads_second : (one other : Marks) (P : Range → Type 0) → AllOf P (both one (both other no_marks)).reads → AllOf P other.reads
reads_second one other P all = all_front P other.reads [] (all_back P one.reads (other.reads ++ []) all)

module _ (x : Around) where
  abbrev pub GivesUsed : Bool → Images → World → CExpr → Given → CValue → Type 0
  GivesUsed used last later e given of_c = GivesWhere used x.s x.names last x.c_frame x.frame later e given of_c

  -- ---- one operand

  -- where the statements of an operand have come to their end
  pub record OneDid (used fixed : Bool) (part : CExpr) (written : Written) (from : ℕ) (images later : Images) (c0 w0 : World) (operand : COperand) (c1 w1 : World) : Type 0 where
    pub reached : Reached x from written.next images later c0 w0 c1 w1
    pub knows_is : Knows x part c0 operand c1
    pub gives : (last : Images) (c_later after : World) → LaterAt x later last written.next fixed operand.marks.reads c1 w1 c_later after → GivesUsed used last after part written.given operand.value

  abbrev pub PartOwes : (used fixed : Bool) → CExpr → Written → (from : ℕ) → Images → (c0 w0 : World) → Type 0
  PartOwes used fixed part written from images c0 w0 = OweAs x (DidOf x used fixed part written from images c0 w0) (value_in x part c0) written.body w0

  pub did_one : (used fixed : Bool) (part : CExpr) (written : Written) (from : ℕ) (images : Images) (c0 w0 : World) (operand : COperand) (c1 : World) (flow : Flow) (w1 : World) → At x images c0 w0 →
      (did : DidOf x used fixed part written from images c0 w0 operand c1 flow w1) → Knows x part c0 operand c1 → OneDid used fixed part written from images did.later c0 w0 operand c1 w1
  did_one used fixed part written from images c0 w0 operand c1 flow w1 at did knows_part = record {
    reached = reached_by x used fixed part written from images c0 w0 operand c1 flow w1 at did knows_part.0.at;
    knows_is = knows_part;
    gives = did.gives;
  }

  -- an operand, and what comes behind it
  pub one_owes : {A : Type 0} (Good : A → World → Flow → World → Type 0) (go : COperand → CPiece A) (rest : List Stmt) (used fixed : Bool) (part : CExpr) (written : Written) (from : ℕ) (images : Images) (c0 w0 : World) →
      At x images c0 w0 → IsTypedNode x.home part → PartOwes used fixed part written from images c0 w0 →
      ((operand : COperand) (later : Images) (c1 w1 : World) → OneDid used fixed part written from images later c0 w0 operand c1 w1 → OweAs x Good (go operand c1) rest w1) →
      OweAs x Good (λ k. bind (value_in x part c0 k) (λ one after. go one after)) (written.body ++ rest) w0
  one_owes Good go rest used fixed part written from images c0 w0 at typed owes all =
      join_owes x (λ operand c1 flow w1. DidOf x used fixed part written from images c0 w0 operand c1 flow w1 × Knows x part c0 operand c1) Good (value_in x part c0) (λ one after. go one after) written.body rest w0
      (λ operand c1 flow w1 good. good.0.flow_is)
      (known_owes x (DidOf x used fixed part written from images c0 w0) (Knows x part c0) (value_in x part c0) written.body w0 (knows x part images c0 w0 typed at) owes)
      (λ operand c1 w1 good. all operand good.0.later c1 w1 (did_one used fixed part written from images c0 w0 operand c1 normal w1 at good.0 good.1))

  -- nothing is written behind the operand
  pub one_owes_alone : {A : Type 0} (Good : A → World → Flow → World → Type 0) (go : COperand → CPiece A) (used fixed : Bool) (part : CExpr) (written : Written) (from : ℕ) (images : Images) (c0 w0 : World) →
      At x images c0 w0 → IsTypedNode x.home part → PartOwes used fixed part written from images c0 w0 →
      ((operand : COperand) (later : Images) (c1 w1 : World) → OneDid used fixed part written from images later c0 w0 operand c1 w1 → OweAs x Good (go operand c1) [] w1) →
      OweAs x Good (λ k. bind (value_in x part c0 k) (λ one after. go one after)) written.body w0
  one_owes_alone Good go used fixed part written from images c0 w0 at typed owes all =
      subst (λ (list : List Stmt). OweAs x Good (λ k. bind (value_in x part c0 k) (λ one after. go one after)) list w0) (append-nil written.body)
      (one_owes Good go [] used fixed part written from images c0 w0 at typed owes all)

  -- what a node makes of an operand, without a store
  pub record MakesOne (used fixed : Bool) (e : CExpr) (given : Given) (used_part : Bool) (part : CExpr) (of_part : Given) (operand : COperand) (c1 : World) (one : CDone) : Type 0 where
    pub blocks_are : one.blocks ≡ blocks_of c1
    pub reads : (before after : Blocks) → AllOf (IsSameAt before after) one.marks.reads → AllOf (IsSameAt before after) operand.marks.reads
    pub gives : (last : Images) (c_later later : World) → At x last c_later later → Lasts fixed one.marks.reads c1 c_later → GivesUsed used_part last later part of_part operand.value → GivesUsed used last later e given one.value

  pub pure_one : (used fixed : Bool) (e : CExpr) (given : Given) (type : CTy) (place : Place) (form : CForm) (used_part fixed_part : Bool) (part : CExpr) (written : Written) (from : ℕ) (images : Images) (c0 w0 : World) →
      At x images c0 w0 → IsTypedNode x.home part → (fixed ≡ true → fixed_part ≡ true) → from ≤ written.next → PartOwes used_part fixed_part part written from images c0 w0 →
      ((operand : COperand) (c1 : World) (one : CDone) → Knows x part c0 operand c1 → node_done (setting_in x.s) type form (scope x) (blocks_of c1) (operand ∷ []) ≡ Ok one →
      MakesOne used fixed e given used_part part written.given operand c1 one) →
      OweAs x (DidOf x used fixed e (then_gives given written) from images c0 w0)
      (λ k. bind (value_in x part c0 k) (λ one after. c_done place type after (node_done (setting_in x.s) type form (scope x) (blocks_of after) (one ∷ [])))) written.body w0
  pure_one used fixed e given type place form used_part fixed_part part written from images c0 w0 at typed less rises owes makes =
      let Good = DidOf x used fixed e (then_gives given written) from images c0 w0 in
      one_owes_alone Good (λ one after. c_done place type after (node_done (setting_in x.s) type form (scope x) (blocks_of after) (one ∷ []))) used_part fixed_part part written from images c0 w0 at typed owes
      (λ operand later c1 w1 did.
      step_owes x Good place (node_done (setting_in x.s) type form (scope x) (blocks_of c1) (operand ∷ [])) (λ one after. gives_operand type one.value one.marks (with_memory one.blocks after)) [] c1 w1
      (same_events later c1 w1 did.reached.at.worlds) (λ one is.
      let made = makes operand c1 one did.knows_is is in
      subst (λ (blocks : Blocks). OweAs x Good (came (record { type = type; value = one.value; marks = one.marks }) (with_memory blocks c1)) [] w1) (sym made.blocks_are)
      (end_owes x Good (record { type = type; value = one.value; marks = one.marks }) [] c1 w1 w1 (λ units. nothing_comes w1 units)
      (record {
        flow_is = refl;
        later = later;
        own = did.reached.own;
        are_own = did.reached.are_own;
        keeps = did.reached.keeps;
        worlds = did.reached.at.worlds;
        gives = λ last c_later after is_later.
            made.gives last c_later after is_later.here is_later.lasts
            (did.gives last c_later after
            (record {
              extends = is_later.extends;
              here = is_later.here;
              temporaries = is_later.temporaries;
              lasts = lasts_less fixed fixed_part one.marks.reads operand.marks.reads c1 c_later less (made.reads (blocks_of c1) (blocks_of c_later)) is_later.lasts;
            }));
      }))))
    where
      nothing_comes : (w : World) (units : ℕ) → runs x [] w units ≡ came normal w units
      nothing_comes w units = pure_is normal w units

  -- ---- two operands

  pub record TwoDid (used fixed : Bool) (first : CExpr) (one_written : Written) (used_other fixed_other : Bool) (second : CExpr) (two_written : Written) (from : ℕ) (images : Images) (c0 w0 : World)
      (one other : COperand) (later last : Images) (c1 w1 c2 w2 : World) : Type 0 where
    pub at_first : At x images c0 w0
    pub first_did : OneDid used fixed first one_written from images later c0 w0 one c1 w1
    pub second_did : OneDid used_other fixed_other second two_written one_written.next later last c1 w1 other c2 w2

  pub two_owes : {A : Type 0} (Good : A → World → Flow → World → Type 0) (go : COperand → COperand → CPiece A) (rest : List Stmt) (used fixed : Bool) (first : CExpr) (one_written : Written)
      (used_other fixed_other : Bool) (second : CExpr) (two_written : Written) (from : ℕ) (images : Images) (c0 w0 : World) →
      At x images c0 w0 → IsTypedNode x.home first → IsTypedNode x.home second → PartOwes used fixed first one_written from images c0 w0 →
      ((later : Images) (c1 w1 : World) → At x later c1 w1 → PartOwes used_other fixed_other second two_written one_written.next later c1 w1) →
      ((one other : COperand) (later last : Images) (c1 w1 c2 w2 : World) → TwoDid used fixed first one_written used_other fixed_other second two_written from images c0 w0 one other later last c1 w1 c2 w2 → OweAs x Good (go one other c2) rest w2) →
      OweAs x Good (λ k. bind (value_in x first c0 k) (λ one after more. bind (value_in x second after more) (λ other last. go one other last))) ((one_written.body ++ two_written.body) ++ rest) w0
  two_owes Good go rest used fixed first one_written used_other fixed_other second two_written from images c0 w0 at typed also owes others all =
      subst (λ (list : List Stmt). OweAs x Good (λ k. bind (value_in x first c0 k) (λ one after more. bind (value_in x second after more) (λ other last. go one other last))) list w0)
      (sym (append_assoc one_written.body two_written.body rest))
      (one_owes Good (λ one after more. bind (value_in x second after more) (λ other last. go one other last)) (two_written.body ++ rest) used fixed first one_written from images c0 w0 at typed owes (λ one later c1 w1 did.
      one_owes Good (λ other last. go one other last) rest used_other fixed_other second two_written one_written.next later c1 w1 did.reached.at also (others later c1 w1 did.reached.at) (λ other last c2 w2 too.
      all one other later last c1 w1 c2 w2 (record { at_first = at; first_did = did; second_did = too }))))

  -- what was read by the first operand lasts over the second
  pub two_last : (fixed : Bool) (second : CExpr) (reads : List Range) (c1 c2 : World) (other : COperand) → Knows x second c1 other c2 → (fixed ≡ false → calls_nothing second ≡ true) → any_overlap reads other.marks.writes ≡ false → Lasts fixed reads c1 c2
  two_last true second reads c1 c2 other is quiet apart = is.0.keeps
  two_last false second reads c1 c2 other is quiet apart =
      (is.0.keeps, record { each = reads_stay reads other.marks.writes (blocks_of c1) (blocks_of c2) (is.1 (quiet refl)).stays apart; shapes = is.0.shapes (quiet refl) })
