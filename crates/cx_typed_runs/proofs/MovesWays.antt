-- Ways into typed statements: a label of a function is found, and the way to it goes over typed statements (ISO C99, 6.8.1, 6.8.4.2p5, 6.8.6.1).
use Rattle.std.proofs.Common.{◌≡◌, ◌⊎◌, inl, inr, refl, sym, subst, ℕ, zero, suc, ◌<◌, Bool, true, false, List, [], ◌∷◌, Option, Some, None, IsSome, option_map, bytes_eq, arith}
use Rattle.std.proofs.lemmas.Slice.Eq.{bytes_eq-Decides}
use Rattle.std.specs.List.{Contains}
use Rattle.std.specs.Ordering.{int_eq}
use Rattle.cr_base.specs.declared.refusal.Place.{Place}
use Rattle.cx_core.specs.Statements.{CBody, with_objects, within_loop, within_switch, labels_in, labels_in_form, labels_in_else, labels_in_list, IsTypedStmt, IsTypedStmtForm, AreTypedStmts}
use Rattle.cx_core.specs.Trees.{type_of, CStmt, stmt, CStmtForm, label, case, default, block, expression, if_then, switch, while, do_while, for_loop, begin, COtherwise, no_else, else_do, CStmts, no_stmts, more_stmts}
use Rattle.cx_mean.specs.Paths.{CRest, nothing_left, statements_left, turn_left, CTarget, named, case_of, default_case, CWay, arrives, opens, CInside, way_to, way_in}
use Rattle.cx_typed_runs.proofs.Scenes.{contains_either}
use Rattle.cx_typed_runs.specs.Sites.{inside_by, IsLeftOf, IsTypedWay}

-- ---- the words in which ways are found

-- a statement is the target
abbrev is_target : CTarget → CStmtForm → Bool
is_target (named name) (label own body) = bytes_eq name own
is_target (case_of value) (case own body) = int_eq value own
is_target default_case (default body) = true
is_target target form = false

abbrev passes_switch : CTarget → Bool
passes_switch (named name) = true
passes_switch (case_of value) = false
passes_switch default_case = false

abbrev if_passing : Bool → Option CInside → Option CInside
if_passing true inside = inside
if_passing false inside = None

abbrev with_rest_of : CRest → Option CWay → Option CInside
with_rest_of rest found = option_map (λ way. record { rest = rest; way = way }) found

abbrev first_of_two : {A : Type 0} → Option A → Option A → Option A
first_of_two (Some one) other = Some one
first_of_two None other = other

abbrev arrives_or : CStmt → Bool → Option CWay → Option CWay
arrives_or here true inside = Some (arrives here)
arrives_or here false inside = inside

abbrev opened : List ℕ → CStmtForm → Option CInside → Option CWay
opened objects form inside = option_map (λ one. opens objects form one.rest one.way) inside

abbrev way_in_else : CTarget → COtherwise → Option CWay
way_in_else target no_else = None
way_in_else target (else_do body) = way_to target body

-- ---- labels are found

some_map : {A B : Type 0} (f : A → B) (found : Option A) → IsSome found → IsSome (option_map f found)
some_map f None is = cc
some_map f (Some one) is = refl

some_first : {A : Type 0} (one other : Option A) → IsSome one ⊎ IsSome other → IsSome (first_of_two one other)
some_first (Some one) other is = refl
some_first None other (inl is) = cc
some_first None other (inr is) = is

arrives_some : (here : CStmt) (test : Bool) (inside : Option CWay) → (test ≡ true) ⊎ IsSome inside → IsSome (arrives_or here test inside)
arrives_some here true inside is = refl
arrives_some here false inside (inl e) = cc (e)
arrives_some here false inside (inr is) = is

-- the statement has the label, or a way leads to it inside
abbrev IsFoundBy : List ℕ → CStmtForm → Type 0
IsFoundBy name form = (is_target (named name) form ≡ true) ⊎ IsSome (way_in (named name) form)

opened_found : (name : List ℕ) (objects : List ℕ) (form : CStmtForm) → IsFoundBy name form → (is_target (named name) form ≡ true) ⊎ IsSome (opened objects form (way_in (named name) form))
opened_found name objects form (inl is) = inl is
opened_found name objects form (inr is) = inr (some_map (λ (one : CInside). opens objects form one.rest one.way) (way_in (named name) form) is)

here_or : (name own : List ℕ) (others : List (List ℕ)) → Contains (own ∷ others) name → (bytes_eq name own ≡ true) ⊎ Contains others name
here_or name own others (zero, within, e) = inl ((bytes_eq-Decides name own).1 (sym e))
here_or name own others (suc k, within, e) = inr (k, omega (arith, within), e)

rested : (left : CRest) (found : Option CWay) → IsSome found → IsSome (with_rest_of left found)
rested left found is = some_map (λ (way : CWay). record { rest = left; way = way }) found is

label_or : (name own : List ℕ) (inner : CStmt) → (Contains (labels_in inner) name → IsSome (way_to (named name) inner)) → (bytes_eq name own ≡ true) ⊎ Contains (labels_in inner) name → IsFoundBy name (label own inner)
label_or name own inner found (inl is) = inl is
label_or name own inner found (inr there) = inr (rested nothing_left (way_to (named name) inner) (found there))

label_either : (name : List ℕ) (inner : CStmt) (otherwise : COtherwise) → (Contains (labels_in inner) name → IsSome (way_to (named name) inner))
    → (Contains (labels_in_else otherwise) name → IsSome (way_in_else (named name) otherwise)) → Contains (labels_in inner) name ⊎ Contains (labels_in_else otherwise) name
    → IsSome (with_rest_of nothing_left (way_to (named name) inner)) ⊎ IsSome (with_rest_of nothing_left (way_in_else (named name) otherwise))
label_either name inner otherwise found other (inl there) = inl (rested nothing_left (way_to (named name) inner) (found there))
label_either name inner otherwise found other (inr there) = inr (rested nothing_left (way_in_else (named name) otherwise) (other there))

label_listed : (name : List ℕ) (first : CStmt) (others : CStmts) → (Contains (labels_in first) name → IsSome (way_to (named name) first))
    → (Contains (labels_in_list others) name → IsSome (way_in (named name) (block others))) → Contains (labels_in first) name ⊎ Contains (labels_in_list others) name
    → IsSome (with_rest_of (statements_left others) (way_to (named name) first)) ⊎ IsSome (way_in (named name) (block others))
label_listed name first others found rest (inl there) = inl (rested (statements_left others) (way_to (named name) first) (found there))
label_listed name first others found rest (inr there) = inr (rest there)

mutual
  label_found : (name : List ℕ) (one : CStmt) → Contains (labels_in one) name → IsSome (way_to (named name) one)
  label_found name (stmt place objects form) there =
      arrives_some (stmt place objects form) (is_target (named name) form) (opened objects form (way_in (named name) form)) (opened_found name objects form (label_inside name form there))

  pub label_inside : (name : List ℕ) (form : CStmtForm) → Contains (labels_in_form form) name → IsFoundBy name form
  label_inside name (label own inner) there = label_or name own inner (λ behind. label_found name inner behind) (here_or name own (labels_in inner) there)
  label_inside name (case value inner) there = inr (rested nothing_left (way_to (named name) inner) (label_found name inner there))
  label_inside name (default inner) there = inr (rested nothing_left (way_to (named name) inner) (label_found name inner there))
  label_inside name (block stmts) there = inr (label_among name stmts there)
  label_inside name (if_then test inner no_else) there =
      inr (some_first (with_rest_of nothing_left (way_to (named name) inner)) None
      (label_either name inner no_else (λ first. label_found name inner first) (λ second. label_else name no_else second) (contains_either (labels_in inner) [] name there)))
  label_inside name (if_then test inner (else_do other)) there =
      inr (some_first (with_rest_of nothing_left (way_to (named name) inner)) (with_rest_of nothing_left (way_to (named name) other))
      (label_either name inner (else_do other) (λ first. label_found name inner first) (λ second. label_else name (else_do other) second) (contains_either (labels_in inner) (labels_in other) name there)))
  label_inside name (switch value inner) there = inr (rested nothing_left (way_to (named name) inner) (label_found name inner there))
  label_inside name (while test inner) there = inr (rested turn_left (way_to (named name) inner) (label_found name inner there))
  label_inside name (do_while inner test) there = inr (rested turn_left (way_to (named name) inner) (label_found name inner there))
  label_inside name (for_loop first test next inner) there = inr (rested turn_left (way_to (named name) inner) (label_found name inner there))
  label_inside name _ (k, within, e) = absurd (omega (arith, within))

  label_else : (name : List ℕ) (otherwise : COtherwise) → Contains (labels_in_else otherwise) name → IsSome (way_in_else (named name) otherwise)
  label_else name no_else (k, within, e) = absurd (omega (arith, within))
  label_else name (else_do inner) there = label_found name inner there

  label_among : (name : List ℕ) (stmts : CStmts) → Contains (labels_in_list stmts) name → IsSome (way_in (named name) (block stmts))
  label_among name no_stmts (k, within, e) = absurd (omega (arith, within))
  label_among name (more_stmts first others) there =
      some_first (with_rest_of (statements_left others) (way_to (named name) first)) (way_in (named name) (block others))
      (label_listed name first others (λ one. label_found name first one) (λ rest. label_among name others rest) (contains_either (labels_in first) (labels_in_list others) name there))

-- ---- ways that are found are typed

-- only a declaration asks what may be declared right there, and it is no target and no way leads into it
reached_plain : (target : CTarget) (body : CBody) (declares objects : List ℕ) (form : CStmtForm) → (is_target target form ≡ true) ⊎ IsSome (way_in target form) → IsTypedStmtForm body declares objects form
    → IsTypedStmtForm body [] objects form
reached_plain (named name) body declares objects (begin number puts) (inl e) is = cc (e)
reached_plain (case_of value) body declares objects (begin number puts) (inl e) is = cc (e)
reached_plain default_case body declares objects (begin number puts) (inl e) is = cc (e)
reached_plain target body declares objects (begin number puts) (inr e) is = cc (e)
reached_plain target body declares objects (expression None) found is = is
reached_plain target body declares objects (expression (Some value)) found is = is
reached_plain target body declares objects form found is = is

-- a way inside an open statement is typed, and so is what is then left of it
abbrev pub IsTypedInside : CBody → List ℕ → CStmtForm → CInside → Type 0
IsTypedInside body objects form inside = IsLeftOf body objects form inside.rest × IsTypedWay (inside_by inside.rest form body) inside.way

part_typed : (body : CBody) (objects : List ℕ) (form : CStmtForm) (left : CRest) (found : Option CWay) (inside : CInside) → with_rest_of left found ≡ Some inside → IsLeftOf body objects form left
    → ((way : CWay) → found ≡ Some way → IsTypedWay (inside_by left form body) way) → IsTypedInside body objects form inside
part_typed body objects form left None inside e is all = cc (e)
part_typed body objects form left (Some way) inside e is all =
    let same : record { rest = left; way = way } ≡ inside = cc (e) in
    subst (IsTypedInside body objects form) same (is, all way refl)

-- one of two parts is the first in which the target is
either_typed : (body : CBody) (objects : List ℕ) (form : CStmtForm) (one other : Option CInside) (inside : CInside) → first_of_two one other ≡ Some inside → (one ≡ Some inside → IsTypedInside body objects form inside)
    → (other ≡ Some inside → IsTypedInside body objects form inside) → IsTypedInside body objects form inside
either_typed body objects form (Some one) other inside e first second = first e
either_typed body objects form None other inside e first second = second e

passing_typed : (body : CBody) (objects : List ℕ) (form : CStmtForm) (passes : Bool) (found : Option CInside) (inside : CInside) → if_passing passes found ≡ Some inside → (found ≡ Some inside → IsTypedInside body objects form inside)
    → IsTypedInside body objects form inside
passing_typed body objects form true found inside e all = all e
passing_typed body objects form false found inside e all = cc (e)

-- the way to a statement that is the target, or over it
way_by : (target : CTarget) (body : CBody) (declares : List ℕ) (place : Place) (objects : List ℕ) (form : CStmtForm) (test : Bool) (found : Option CInside) (way : CWay) → is_target target form ≡ test → way_in target form ≡ found
    → arrives_or (stmt place objects form) test (opened objects form found) ≡ Some way → IsTypedStmt body declares (stmt place objects form)
    → ((inside : CInside) → found ≡ Some inside → IsTypedInside (with_objects objects body) objects form inside) → IsTypedWay body way
way_by target body declares place objects form true found way e f same is all =
    let arrived : arrives (stmt place objects form) ≡ way = cc (same) in
    subst (IsTypedWay body) arrived (is.0, reached_plain target (with_objects objects body) declares objects form (inl e) is.1)
way_by target body declares place objects form false None way e f same is all = cc (same)
way_by target body declares place objects form false (Some inside) way e f same is all =
    let over : opens objects form inside.rest inside.way ≡ way = cc (same) in
    let parts = all inside refl in
    subst (IsTypedWay body) over (is.0, reached_plain target (with_objects objects body) declares objects form (inr (subst IsSome (sym f) refl)) is.1, parts.0, parts.1)

mutual
  -- a way to a target in a typed statement
  pub way_typed : (target : CTarget) (body : CBody) (declares : List ℕ) (one : CStmt) (way : CWay) → way_to target one ≡ Some way → IsTypedStmt body declares one → IsTypedWay body way
  way_typed target body declares (stmt place objects form) way e is =
      way_by target body declares place objects form (is_target target form) (way_in target form) way refl refl e is (λ inside f. inside_typed target (with_objects objects body) declares objects form inside f is.1)

  -- a way to a target inside an open statement
  pub inside_typed : (target : CTarget) (body : CBody) (declares objects : List ℕ) (form : CStmtForm) (inside : CInside) → way_in target form ≡ Some inside → IsTypedStmtForm body declares objects form → IsTypedInside body objects form inside
  inside_typed target body declares objects (label name inner) inside e is =
      part_typed body objects (label name inner) nothing_left (way_to target inner) inside e tt (λ way f. way_typed target body [] inner way f is)
  inside_typed target body declares objects (case value inner) inside e is =
      part_typed body objects (case value inner) nothing_left (way_to target inner) inside e tt (λ way f. way_typed target body [] inner way f is.1)
  inside_typed target body declares objects (default inner) inside e is =
      part_typed body objects (default inner) nothing_left (way_to target inner) inside e tt (λ way f. way_typed target body [] inner way f is.1)
  inside_typed target body declares objects (block stmts) inside e is = among_typed target body objects stmts stmts inside e is
  inside_typed target body declares objects (if_then test inner no_else) inside e is =
      either_typed body objects (if_then test inner no_else) (with_rest_of nothing_left (way_to target inner)) None inside e
      (λ f. part_typed body objects (if_then test inner no_else) nothing_left (way_to target inner) inside f tt (λ way g. way_typed target body [] inner way g is.1)) (λ f. cc (f))
  inside_typed target body declares objects (if_then test inner (else_do other)) inside e is =
      either_typed body objects (if_then test inner (else_do other)) (with_rest_of nothing_left (way_to target inner)) (with_rest_of nothing_left (way_to target other)) inside e
      (λ f. part_typed body objects (if_then test inner (else_do other)) nothing_left (way_to target inner) inside f tt (λ way g. way_typed target body [] inner way g is.1))
      (λ f. part_typed body objects (if_then test inner (else_do other)) nothing_left (way_to target other) inside f tt (λ way g. way_typed target body [] other way g is.2))
  inside_typed target body declares objects (switch value inner) inside e is =
      passing_typed body objects (switch value inner) (passes_switch target) (with_rest_of nothing_left (way_to target inner)) inside e
      (λ f. part_typed body objects (switch value inner) nothing_left (way_to target inner) inside f tt (λ way g. way_typed target (within_switch (type_of value) body) [] inner way g is.2))
  inside_typed target body declares objects (while test inner) inside e is =
      part_typed body objects (while test inner) turn_left (way_to target inner) inside e refl (λ way f. way_typed target (within_loop body) [] inner way f is.1)
  inside_typed target body declares objects (do_while inner test) inside e is =
      part_typed body objects (do_while inner test) turn_left (way_to target inner) inside e refl (λ way f. way_typed target (within_loop body) [] inner way f is.0)
  inside_typed target body declares objects (for_loop first test next inner) inside e is =
      part_typed body objects (for_loop first test next inner) turn_left (way_to target inner) inside e refl (λ way f. way_typed target (within_loop body) [] inner way f is.4)
  inside_typed target body declares objects _ inside e is = cc (e)

  among_typed : (target : CTarget) (body : CBody) (objects : List ℕ) (all stmts : CStmts) (inside : CInside) → way_in target (block stmts) ≡ Some inside → AreTypedStmts body objects stmts → IsTypedInside body objects (block all) inside
  among_typed target body objects all no_stmts inside e are = cc (e)
  among_typed target body objects all (more_stmts first others) inside e are =
      either_typed body objects (block all) (with_rest_of (statements_left others) (way_to target first)) (way_in target (block others)) inside e
      (λ f. part_typed body objects (block all) (statements_left others) (way_to target first) inside f (refl, are.1) (λ way g. way_typed target body objects first way g are.0))
      (λ f. among_typed target body objects all others inside f are.1)
