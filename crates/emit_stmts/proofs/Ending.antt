-- In which ways lists of statements and of arms end, as far as they were gone through.
use Rattle.std.proofs.Common.{◌≡◌, ◌∙◌, ℕ, ◌+◌, ◌<◌, Bool, true, false, not, ◌||◌, ◌&&◌, List, [], ◌∷◌, ◌++◌, map, length, drop, get_or, bytes_eq, refl, ap, sym}
use Rattle.std.proofs.lemmas.List.Folds.{list_any-append}
use Rattle.std.specs.Prelude.{Result, Ok, Err, OnOk}
use Rattle.std.specs.Cmp.Lexicographic.{same_text}
use Rattle.rs_mean_ends.specs.Ways.{Way, goes, by_break, stmt_ends, stmts_end, arms_end}
use Rattle.rs_text.specs.Names.{is_among}
use Rattle.rs_text.specs.Tree.{more_arms, stmts, arms}
use Rattle.rs_tree.specs.declared.stmt.Arm.{Arm}
use Rattle.rs_tree.specs.declared.stmt.RStmt.{RStmt}
use Rattle.rs_tree.specs.Views.{stmt_view, arm_view}
use Rattle.emit_stmts.specs.Ends.{EndsBy}
use Rattle.emit_stmts.specs.declared.ends.Ends.{Ends}
use Rattle.emit_stmts.proofs.Lists.{next_of}
use Rattle.emit_stmts.proofs.Opened.{arm_is}

-- ---- labels but one

not_both : (label one other : List ℕ) (test : Bool) → bytes_eq one label ≡ false → bytes_eq one other ≡ test → test ≡ (not (bytes_eq label other) && test)
not_both label one other false apart is = by_side (bytes_eq label other)
  where
    by_side : (side : Bool) → false ≡ (not side && false)
    by_side true = refl
    by_side false = refl
not_both label one other true apart is = by_side (bytes_eq label other) refl
  where
    same : one ≡ other
    same = same_text one other (sym is)

    by_side : (side : Bool) → bytes_eq label other ≡ side → true ≡ (not side && true)
    by_side false so = refl
    by_side true so = absurd (let equal : label ≡ other = same_text label other (sym so) in let both : one ≡ label = cc in let yes : bytes_eq one label ≡ true = ap (λ x. bytes_eq x label) both ∙ ap (λ x. bytes_eq x label) (sym both) ∙ ap (λ x. bytes_eq x label) same ∙ ap (λ x. bytes_eq other x) equal ∙ ap (λ x. bytes_eq x other) (sym same) ∙ is in cc)

or_none : (a : Bool) → (a || false) ≡ a
or_none true = refl
or_none false = refl

or_or : (a b c : Bool) → ((a || b) || c) ≡ (a || (b || c))
or_or true b c = refl
or_or false b c = refl

pub among_more : (made grown : List (List ℕ)) (label one copy : List ℕ) → grown ≡ made ++ copy ∷ [] → copy ≡ one → bytes_eq one label ≡ false →
    (other : List ℕ) → is_among grown other ≡ (is_among made other || (not (bytes_eq label other) && bytes_eq one other))
among_more made grown label one copy more same apart other =
    ap (λ list. is_among list other) (more ∙ ap (λ x. made ++ x ∷ []) same) ∙ list_any-append (λ word. bytes_eq word other) made (one ∷ [])
    ∙ ap (λ test. is_among made other || test) (or_none (bytes_eq one other) ∙ not_both label one other (bytes_eq one other) apart refl)

not_false : (test : Bool) → not test ≡ false → test ≡ true
not_false true is = refl
not_false false is = absurd cc

not_true : (test : Bool) → not test ≡ true → test ≡ false
not_true true is = absurd cc
not_true false is = refl

-- ---- arms

arms_step : (way : Way) (one : Arm) (rest : List Arm) → arms_end (arms (map arm_view (one ∷ rest))) way ≡ (stmts_end (stmts (map stmt_view one.body)) way || arms_end (arms (map arm_view rest)) way)
arms_step way one rest = ap (λ arm. arms_end (more_arms arm (arms (map arm_view rest))) way) (arm_is one)

-- what was found of arms as far as they were gone through
pub record ArmsFound (cases : List Arm) (k : ℕ) (ends : Ends) : Type 0 where
  pub goes_on : (ends.goes || arms_end (arms (map arm_view (drop k cases))) goes) ≡ arms_end (arms (map arm_view cases)) goes
  pub breaks : (label : List ℕ) → (is_among ends.breaks label || arms_end (arms (map arm_view (drop k cases))) (by_break label)) ≡ arms_end (arms (map arm_view cases)) (by_break label)

module _ (ends found grown : Ends) (cases items : List Arm) (k : ℕ) (one : Arm) where
  pub arm_found : items ≡ cases → one ≡ get_or items k one → k < length items → grown.goes ≡ (ends.goes || found.goes) → grown.breaks ≡ ends.breaks ++ found.breaks →
      EndsBy (stmts_end (stmts (map stmt_view one.body))) found → ArmsFound cases k ends → ArmsFound cases (k + 1) grown
  arm_found same is within going breaking ways was = record {
    goes_on = ap (λ test. test || arms_end (arms (map arm_view rest)) goes) (going ∙ ap (λ test. ends.goes || test) ways.goes_on)
        ∙ or_or ends.goes (stmts_end (stmts (map stmt_view one.body)) goes) (arms_end (arms (map arm_view rest)) goes)
        ∙ ap (λ test. ends.goes || test) (in_front goes) ∙ was.goes_on;
    breaks = λ label. ap (λ test. test || arms_end (arms (map arm_view rest)) (by_break label))
        (ap (λ list. is_among list label) breaking ∙ list_any-append (λ word. bytes_eq word label) ends.breaks found.breaks ∙ ap (λ test. is_among ends.breaks label || test) (ways.breaks label))
        ∙ or_or (is_among ends.breaks label) (stmts_end (stmts (map stmt_view one.body)) (by_break label)) (arms_end (arms (map arm_view rest)) (by_break label))
        ∙ ap (λ test. is_among ends.breaks label || test) (in_front (by_break label)) ∙ was.breaks label;
  }
    where
      rest : List Arm
      rest = drop (k + 1) cases

      left : drop k cases ≡ one ∷ drop (k + 1) cases
      left = ap (drop k) (sym same) ∙ next_of items k one is within ∙ ap (λ list. one ∷ drop (k + 1) list) same

      in_front : (way : Way) → (stmts_end (stmts (map stmt_view one.body)) way || arms_end (arms (map arm_view (drop (k + 1) cases))) way) ≡ arms_end (arms (map arm_view (drop k cases))) way
      in_front way = sym (arms_step way one (drop (k + 1) cases)) ∙ ap (λ list. arms_end (arms (map arm_view list)) way) (sym left)

-- ---- statements

-- what was found of statements as far as they were gone through
pub record StmtsFound (ss : List RStmt) (k : ℕ) (found : List (List ℕ)) : Type 0 where
  pub goes_on : stmts_end (stmts (map stmt_view (drop k ss))) goes ≡ stmts_end (stmts (map stmt_view ss)) goes
  pub breaks : (label : List ℕ) → (is_among found label || stmts_end (stmts (map stmt_view (drop k ss))) (by_break label)) ≡ stmts_end (stmts (map stmt_view ss)) (by_break label)

going_on : (one rest others : Bool) (test : Bool) → test ≡ true → (one || (test && rest)) ≡ (one || rest)
going_on one rest others test is = ap (λ test. one || (test && rest)) is

module _ (breaks grown : List (List ℕ)) (found : Ends) (ss items : List RStmt) (k : ℕ) (s : RStmt) (same : items ≡ ss) (is : s ≡ get_or items k s) (within : k < length items)
    (breaking : grown ≡ breaks ++ found.breaks) (ways : EndsBy (stmt_ends (stmt_view s)) found) (was : StmtsFound ss k breaks) where
  left : drop k ss ≡ s ∷ drop (k + 1) ss
  left = ap (drop k) (sym same) ∙ next_of items k s is within ∙ ap (λ list. s ∷ drop (k + 1) list) same

  rest : Way → Bool
  rest way = stmts_end (stmts (map stmt_view (drop (k + 1) ss))) way

  in_front : (way : Way) → stmts_end (stmts (map stmt_view (s ∷ drop (k + 1) ss))) way ≡ stmts_end (stmts (map stmt_view (drop k ss))) way
  in_front way = ap (λ list. stmts_end (stmts (map stmt_view list)) way) (sym left)

  all_breaks : (label : List ℕ) → is_among grown label ≡ (is_among breaks label || stmt_ends (stmt_view s) (by_break label))
  all_breaks label = ap (λ list. is_among list label) breaking ∙ list_any-append (λ word. bytes_eq word label) breaks found.breaks ∙ ap (λ test. is_among breaks label || test) (ways.breaks label)

  pub stmt_found : not found.goes ≡ false → StmtsFound ss (k + 1) grown
  unfolding rest
  stmt_found so = let going : found.goes ≡ true = not_false found.goes so in record {
    goes_on = ap (λ test. test && rest goes) (sym going ∙ ways.goes_on) ∙ in_front goes ∙ was.goes_on;
    breaks = λ label. ap (λ test. test || rest (by_break label)) (all_breaks label) ∙ or_or (is_among breaks label) (stmt_ends (stmt_view s) (by_break label)) (rest (by_break label))
        ∙ ap (λ test. is_among breaks label || (stmt_ends (stmt_view s) (by_break label) || (test && rest (by_break label)))) (sym going ∙ ways.goes_on)
        ∙ ap (λ test. is_among breaks label || test) (in_front (by_break label)) ∙ was.breaks label;
  }

  pub last_found : (ends : Ends) → not found.goes ≡ true → ends.goes ≡ false → ends.breaks ≡ grown → EndsBy (stmts_end (stmts (map stmt_view ss))) ends
  unfolding rest
  last_found ends turned so all = let going : found.goes ≡ false = not_true found.goes turned in record {
    goes_on = so ∙ ap (λ test. test && rest goes) (sym going ∙ ways.goes_on) ∙ in_front goes ∙ was.goes_on;
    breaks = λ label. ap (λ list. is_among list label) all ∙ all_breaks label ∙ ap (λ test. is_among breaks label || test) (sym (or_none (stmt_ends (stmt_view s) (by_break label))))
        ∙ ap (λ test. is_among breaks label || (stmt_ends (stmt_view s) (by_break label) || (test && rest (by_break label)))) (sym going ∙ ways.goes_on)
        ∙ ap (λ test. is_among breaks label || test) (in_front (by_break label)) ∙ was.breaks label;
  }

-- what is put behind labels
pub put_more : {T E : Type 0} (result : Result T E) (made grown : List (List ℕ)) (label one copy : List ℕ) → OnOk result (grown ≡ made ++ copy ∷ []) → copy ≡ one → bytes_eq one label ≡ false →
    OnOk result ((other : List ℕ) → is_among grown other ≡ (is_among made other || (not (bytes_eq label other) && bytes_eq one other)))
put_more (Ok x) made grown label one copy more same apart = among_more made grown label one copy more same apart
put_more (Err x) made grown label one copy more same apart = tt
