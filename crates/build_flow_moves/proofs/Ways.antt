-- The way to a label in C is that on which its objects begin: what is around the labelled statement, and its place, are those of the first label that is found.
use Rattle.std.proofs.Common.{◌≡◌, ◌∙◌, ℕ, suc, not, bytes_eq, ◌+◌, Bool, true, false, List, [], ◌∷◌, ◌++◌, Option, Some, None, if◌then◌else◌, refl, sym, ap, subst, append_assoc}
use Rattle.std.proofs.lemmas.List.{append-nil}
use Rattle.std.specs.Ordering.{int_eq}
use Rattle.build_flow_nodes.specs.Builder.{Context, inside, apart, before, in_switch, in_loop, first_place, list_point}
use Rattle.build_flow_nodes.specs.Labels.{Label, label_at, is_labelled, own_label, labels_from, labels_in, labels_in_else, labels_among, label_where, unless}
use Rattle.build_flow_nodes.specs.Parts.{count_in_stmt}
use Rattle.build_flow_nodes.specs.Points.{FlowPlace, at_part, Point, jump}
use Rattle.cr_base.specs.declared.refusal.Place.{Place}
use Rattle.cx_core.specs.Trees.{CExpr, CStmt, stmt, CStmtForm, label, case, default, block, expression, if_then, switch, while, do_while, for_loop, goto, continue, break, returns, begin, COtherwise, no_else, else_do, CStmts, no_stmts, more_stmts}
use Rattle.cx_mean.specs.BodyGraph.{CPath, at_test, body_path}
use Rattle.cx_mean.specs.Paths.{CRest, nothing_left, statements_left, turn_left, CTarget, named, case_of, default_case, CWay, arrives, opens, CInside, is_target, passes_switch, if_passing, with_rest_of, first_of_two, arrives_or, opened, way_to, way_in, way_in_else, way_among}
use Rattle.build_flow_moves.specs.Coded.{StmtThere, FormThere, StmtsThere, RestCoded, WayCoded}
use Rattle.build_flow_moves.specs.Parts.{Stage, BeginsDone}
use Rattle.build_flow_moves.proofs.There.{form_there, begins_done, stmts_first, stmts_others, label_body, case_body, default_body, block_stmts, if_body, else_body, switch_body, while_body, do_body, in_do, for_body, in_for, body_number}

-- ---- the first label

abbrev pub either_label : Option Label → Option Label → Option Label
either_label (Some one) other = Some one
either_label None other = other

-- a label is the target
abbrev pub hits : CTarget → CTarget → Bool
hits (named name) (named own) = bytes_eq name own
hits (case_of value) (case_of own) = int_eq value own
hits default_case default_case = true
hits target own = false

pub where_both : (test : CTarget → Bool) (first others : List Label) → label_where test (first ++ others) ≡ either_label (label_where test first) (label_where test others)
where_both test [] others = refl
where_both test (one ∷ first) others = by_test (test one.target) (where_both test first others)
  where
    by_test : (here : Bool) → label_where test (first ++ others) ≡ either_label (label_where test first) (label_where test others) →
        (if here then Some one else label_where test (first ++ others)) ≡ either_label (if here then Some one else label_where test first) (label_where test others)
    by_test true same = refl
    by_test false same = same

pub where_same : (test other : CTarget → Bool) → ((target : CTarget) → test target ≡ other target) → (labels : List Label) → label_where test labels ≡ label_where other labels
where_same test other same [] = refl
where_same test other same (one ∷ labels) =
    ap (λ (here : Bool). if here then Some one else label_where test labels) (same one.target) ∙ ap (λ (found : Option Label). if other one.target then Some one else found) (where_same test other same labels)

own_target : CStmtForm → CTarget
own_target (label name body) = named name
own_target (case value body) = case_of value
own_target form = default_case

own_where : (target : CTarget) (form : CStmtForm) (path : CPath) (entered : List ℕ) →
    label_where (hits target) (own_label form path entered) ≡ (if is_target target form then Some (label_at (own_target form) path entered) else None)
unfolding own_target
own_where (named name) (label own body) path entered = refl
own_where (named name) (case own body) path entered = refl
own_where (named name) (default body) path entered = refl
own_where (named name) form path entered = refl
own_where (case_of value) (label own body) path entered = refl
own_where (case_of value) (case own body) path entered = refl
own_where (case_of value) (default body) path entered = refl
own_where (case_of value) form path entered = refl
own_where default_case (label own body) path entered = refl
own_where default_case (case own body) path entered = refl
own_where default_case (default body) path entered = refl
own_where default_case form path entered = refl

module _ (a : Stage) (at : FlowPlace → Option Point) where
  -- ---- what is found

  -- the way to a label, behind objects that begin
  pub record FoundAt (ctx : Context) (scope entered : List ℕ) (way : CWay) (one : Label) : Type 0 where
    pub objects : List ℕ
    pub coded : WayCoded a at way ctx scope one.path objects
    pub are : one.objects ≡ entered ++ objects

  abbrev pub FoundSame : Context → (scope entered : List ℕ) → Option CWay → Option Label → Type 0
  FoundSame ctx scope entered None None = Unit {0}
  FoundSame ctx scope entered (Some way) (Some one) = FoundAt ctx scope entered way one
  FoundSame ctx scope entered None (Some one) = ⊥
  FoundSame ctx scope entered (Some way) None = ⊥

  -- inside of an open statement
  pub record FoundIn (around : Context) (path : CPath) (number : ℕ) (scope : List ℕ) (form : CStmtForm) (entered : List ℕ) (inside_it : CInside) (one : Label) : Type 0 where
    pub inner : Context
    pub rest : RestCoded a at around path number scope form inside_it.rest inner
    pub found : FoundAt inner scope entered inside_it.way one

  module _ (around : Context) (path : CPath) (number : ℕ) (scope : List ℕ) (form : CStmtForm) (entered : List ℕ) where
    abbrev pub SameIn : Option CInside → Option Label → Type 0
    SameIn None None = Unit {0}
    SameIn (Some one) (Some found) = FoundIn around path number scope form entered one found
    SameIn None (Some found) = ⊥
    SameIn (Some one) None = ⊥

    rest_in : (rest : CRest) (inner : Context) → RestCoded a at around path number scope form rest inner → (way : Option CWay) (found : Option Label) → FoundSame inner scope entered way found →
        SameIn (with_rest_of rest way) found
    rest_in rest inner coded None None same = tt
    rest_in rest inner coded (Some way) (Some one) same = record { inner = inner; rest = coded; found = same }
    rest_in rest inner coded None (Some one) same = elim same [ ]
    rest_in rest inner coded (Some way) None same = elim same [ ]

    two_in : (one other : Option CInside) (first second : Option Label) → SameIn one first → SameIn other second → SameIn (first_of_two one other) (either_label first second)
    two_in None other None second same more = more
    two_in (Some one) other (Some first) second same more = same
    two_in None other (Some first) second same more = elim same [ ]
    two_in (Some one) other None second same more = elim same [ ]

  -- ---- statements

  own_same : (ctx : Context) (path : CPath) (number : ℕ) (scope entered : List ℕ) (place : Place) (objects : List ℕ) (form : CStmtForm) (own : CTarget) →
      StmtThere a at ctx path number scope (stmt place objects form) → (here : Bool) (inside_it : Option CInside) (found : Option Label) →
      SameIn (inside form path ctx) path number (objects ++ scope) form (entered ++ objects) inside_it found →
      FoundSame ctx scope entered (arrives_or (stmt place objects form) here (opened objects form inside_it)) (either_label (if here then Some (label_at own path entered) else None) found)
  own_same ctx path number scope entered place objects form own there true inside_it found same =
      record { objects = []; coded = (number, there, refl); are = sym (append-nil entered) }
  own_same ctx path number scope entered place objects form own there false None None same = tt
  own_same ctx path number scope entered place objects form own there false (Some one) (Some found) same = record {
    objects = objects ++ same.found.objects;
    coded = (
      path,
      number,
      same.inner,
      same.found.objects,
      begins_done a at ctx path number scope place objects form there,
      form_there a at ctx path number scope place objects form there,
      same.rest,
      same.found.coded,
      refl,
    );
    are = same.found.are ∙ append_assoc entered objects same.found.objects;
  }
  own_same ctx path number scope entered place objects form own there false None (Some found) same = elim same [ ]
  own_same ctx path number scope entered place objects form own there false (Some one) None same = elim same [ ]

  module _ (target : CTarget) (own : Bool) (passes : passes_switch target ≡ not own) where
    abbrev first_hit : List Label → Option Label
    first_hit labels = label_where (hits target) labels

    by_passing : (around : Context) (path : CPath) (number : ℕ) (scope : List ℕ) (value : CExpr) (body : CStmt) (entered : List ℕ) (outer passing : Bool) → passing ≡ not outer → (way : Option CWay) (labels : List Label) →
        FoundSame (in_switch around) scope entered way (first_hit labels) →
        SameIn around path number scope (switch value body) entered (if_passing passing (with_rest_of nothing_left way)) (first_hit (unless outer labels))
    by_passing around path number scope value body entered true true is way labels same = absurd cc
    by_passing around path number scope value body entered true false is way labels same = tt
    by_passing around path number scope value body entered false true is way labels same =
        rest_in around path number scope (switch value body) entered nothing_left (in_switch around) refl way (first_hit labels) same
    by_passing around path number scope value body entered false false is way labels same = absurd cc

    mutual
      pub stmt_way : (s : CStmt) (ctx : Context) (path : CPath) (number : ℕ) (scope entered : List ℕ) → StmtThere a at ctx path number scope s →
          FoundSame ctx scope entered (way_to target s) (first_hit (labels_from own s path entered))
      stmt_way (stmt place objects form) ctx path number scope entered there =
          subst (λ (found : Option Label). FoundSame ctx scope entered (arrives_or (stmt place objects form) (is_target target form) (opened objects form (way_in target form))) found)
          (sym (where_both (hits target) (own_label form path entered) (labels_in own form path (entered ++ objects))
          ∙ ap (λ (found : Option Label). either_label found (first_hit (labels_in own form path (entered ++ objects)))) (own_where target form path entered)))
          (own_same ctx path number scope entered place objects form (own_target form) there (is_target target form) (way_in target form) (first_hit (labels_in own form path (entered ++ objects)))
          (form_way form (inside form path ctx) path number (objects ++ scope) (entered ++ objects) (form_there a at ctx path number scope place objects form there)))

      pub form_way : (form : CStmtForm) (around : Context) (path : CPath) (number : ℕ) (scope entered : List ℕ) → FormThere a at around path number scope form →
          SameIn around path number scope form entered (way_in target form) (first_hit (labels_in own form path entered))
      form_way (label name body) around path number scope entered there =
          rest_in around path number scope (label name body) entered nothing_left around refl (way_to target body) (first_hit (labels_from own body (0 ∷ path) entered))
          (stmt_way body around (0 ∷ path) number scope entered (label_body a at around path number scope name body there))
      form_way (case value body) around path number scope entered there =
          rest_in around path number scope (case value body) entered nothing_left around refl (way_to target body) (first_hit (labels_from own body (0 ∷ path) entered))
          (stmt_way body around (0 ∷ path) number scope entered (case_body a at around path number scope value body there))
      form_way (default body) around path number scope entered there =
          rest_in around path number scope (default body) entered nothing_left around refl (way_to target body) (first_hit (labels_from own body (0 ∷ path) entered))
          (stmt_way body around (0 ∷ path) number scope entered (default_body a at around path number scope body there))
      form_way (block ss) around path number scope entered there = list_way ss ss around path number 0 number scope entered (block_stmts a at around path number scope ss there)
      form_way (if_then test body otherwise) around path number scope entered there =
          subst (λ (found : Option Label). SameIn around path number scope (if_then test body otherwise) entered (way_in target (if_then test body otherwise)) found)
          (sym (where_both (hits target) (labels_from own body (0 ∷ path) entered) (labels_in_else own otherwise path entered)))
          (two_in around path number scope (if_then test body otherwise) entered (with_rest_of nothing_left (way_to target body)) (with_rest_of nothing_left (way_in_else target otherwise))
          (first_hit (labels_from own body (0 ∷ path) entered)) (first_hit (labels_in_else own otherwise path entered))
          (rest_in around path number scope (if_then test body otherwise) entered nothing_left (apart around) refl (way_to target body) (first_hit (labels_from own body (0 ∷ path) entered))
          (stmt_way body (apart around) (0 ∷ path) _ scope entered (if_body a at around path number scope test body otherwise there)))
          (rest_in around path number scope (if_then test body otherwise) entered nothing_left (apart around) refl (way_in_else target otherwise) (first_hit (labels_in_else own otherwise path entered))
          (else_way otherwise test body around path number scope entered there)))
      form_way (switch value body) around path number scope entered there =
          by_passing around path number scope value body entered own (passes_switch target) passes (way_to target body) (labels_from own body (0 ∷ path) entered)
          (stmt_way body (in_switch around) (0 ∷ path) _ scope entered (switch_body a at around path number scope value body there))
      form_way (while test body) around path number scope entered there =
          rest_in around path number scope (while test body) entered turn_left (in_loop (jump (at_part (at_test path))) (at_part (at_test path)) around) refl (way_to target body)
          (first_hit (labels_from own body (0 ∷ path) entered)) (stmt_way body _ (0 ∷ path) _ scope entered (while_body a at around path number scope test body there))
      form_way (do_while body test) around path number scope entered there =
          rest_in around path number scope (do_while body test) entered turn_left (in_do a at around path number scope body test) refl (way_to target body)
          (first_hit (labels_from own body (0 ∷ path) entered)) (stmt_way body _ (0 ∷ path) number scope entered (do_body a at around path number scope body test there))
      form_way (for_loop first test next body) around path number scope entered there =
          rest_in around path number scope (for_loop first test next body) entered turn_left (in_for a at around path number scope first test next body) refl (way_to target body)
          (first_hit (labels_from own body (body_path first path) entered)) (stmt_way body _ (body_path first path) _ scope entered (for_body a at around path number scope first test next body there))
      form_way (expression value) around path number scope entered there = tt
      form_way (goto name) around path number scope entered there = tt
      form_way continue around path number scope entered there = tt
      form_way break around path number scope entered there = tt
      form_way (returns value) around path number scope entered there = tt
      form_way (begin object puts) around path number scope entered there = tt

      else_way : (otherwise : COtherwise) (test : CExpr) (body : CStmt) (around : Context) (path : CPath) (number : ℕ) (scope entered : List ℕ) →
          FormThere a at around path number scope (if_then test body otherwise) →
          FoundSame (apart around) scope entered (way_in_else target otherwise) (first_hit (labels_in_else own otherwise path entered))
      else_way no_else test body around path number scope entered there = tt
      else_way (else_do other) test body around path number scope entered there =
          stmt_way other (apart around) (1 ∷ path) _ scope entered (else_body a at around path number scope test body other there)

      list_way : (ss all : CStmts) (around : Context) (path : CPath) (from index number : ℕ) (scope entered : List ℕ) → StmtsThere a at around path index number scope ss →
          SameIn around path from scope (block all) entered (way_among target ss) (first_hit (labels_among own ss index path entered))
      list_way no_stmts all around path from index number scope entered there = tt
      list_way (more_stmts first others) all around path from index number scope entered there =
          subst (λ (found : Option Label). SameIn around path from scope (block all) entered (way_among target (more_stmts first others)) found)
          (sym (where_both (hits target) (labels_from own first (index ∷ path) entered) (labels_among own others (suc index) path entered)))
          (two_in around path from scope (block all) entered (with_rest_of (statements_left others) (way_to target first)) (way_among target others)
          (first_hit (labels_from own first (index ∷ path) entered)) (first_hit (labels_among own others (suc index) path entered))
          (rest_in around path from scope (block all) entered (statements_left others)
          (before (list_point a.of around path (suc index) (number + count_in_stmt a.of.names first) others) (first_place others (suc index) path around.place) around)
          (record { index = suc index; number = number + count_in_stmt a.of.names first; there = stmts_others a at around path number scope index first others there; is = refl })
          (way_to target first) (first_hit (labels_from own first (index ∷ path) entered))
          (stmt_way first _ (index ∷ path) number scope entered (stmts_first a at around path number scope index first others there)))
          (list_way others all around path from (suc index) (number + count_in_stmt a.of.names first) scope entered (stmts_others a at around path number scope index first others there)))
