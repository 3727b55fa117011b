-- Arms of a `match` from the statements that stand in them.
use Rattle.std.proofs.Common.{◌≡◌, ◌∙◌, ℕ, suc, ◌+◌, ◌<◌, Bool, true, false, ◌==◌, ◌||◌, List, [], ◌∷◌, ◌++◌, length, map, drop, get_or, refl, ap, sym, arith, if◌then◌else◌}
use Rattle.std.specs.Prelude.{pos}
use Rattle.std.proofs.lemmas.List.{length-append, drop_more, drop_all}
use Rattle.emit_rules.specs.Texts.{case_arms, other_text, head_arms, one_stmt}
use Rattle.emit_stmts.proofs.Lists.{behind_arms, arms_none, arms_more}
use Rattle.emit_texts.specs.Texts.{text_view}
use Rattle.emit_texts.specs.declared.branches.Text.{Text}
use Rattle.flow.specs.Flows.{CaseTree}
use Rattle.flow.specs.Views.{case_view}
use Rattle.flow.specs.declared.flows.Case.{Case}
use Rattle.reloop.specs.Graphs.{is_in}
use Rattle.rs_text.specs.Tree.{Expr, Match, Stmts, ArmTree, LiteralArm, Arms, no_arms, more_arms, arms}
use Rattle.rs_text.specs.declared.integer.IntegerTy.TheVariants.{U32}
use Rattle.rs_text.specs.declared.integer.IntegerTy.{IntegerTy}

-- ---- cases, with one text more

arms_of_front : (by : IntegerTy) (cases : List CaseTree) (texts : List Text) (other : Text) → length texts ≡ length cases → case_arms by cases (map text_view (texts ++ other ∷ [])) ≡ case_arms by cases (map text_view texts)
arms_of_front by [] texts other same = refl
arms_of_front by (one ∷ cases) [] other same = absurd (omega (arith, same))
arms_of_front by (one ∷ cases) (text ∷ texts) other same = ap (more_arms (LiteralArm one.value by (text_view text))) (arms_of_front by cases texts other (omega (arith, same)))

last_is_other : (cases : List CaseTree) (texts : List Text) (other : Text) → length texts ≡ length cases → other_text cases (map text_view (texts ++ other ∷ [])) ≡ text_view other
last_is_other [] [] other same = refl
last_is_other [] (text ∷ texts) other same = absurd (omega (arith, same))
last_is_other (one ∷ cases) [] other same = absurd (omega (arith, same))
last_is_other (one ∷ cases) (text ∷ texts) other same = last_is_other cases texts other (omega (arith, same))

counted : {A B : Type 0} (f : A → B) (list : List A) → length (map f list) ≡ length list
counted f [] = refl
counted f (x ∷ list) = ap suc (counted f list)

pub switch_is : (on : Expr) (by : IntegerTy) (cases : List Case) (all front : List Text) (other : Text) (made : Arms) → all ≡ front ++ other ∷ [] → length all ≡ length cases + 1 →
    made ≡ case_arms by (map case_view cases) (map text_view front) →
    one_stmt (Match on made (text_view other)) ≡ one_stmt (Match on (case_arms by (map case_view cases) (map text_view all)) (other_text (map case_view cases) (map text_view all)))
switch_is on by cases all front other made ends many is =
    ap (λ arms. one_stmt (Match on arms (text_view other))) (is ∙ sym (arms_of_front by (map case_view cases) front other same) ∙ ap (λ list. case_arms by (map case_view cases) (map text_view list)) (sym ends))
    ∙ ap (λ text. one_stmt (Match on (case_arms by (map case_view cases) (map text_view all)) text)) (sym (last_is_other (map case_view cases) front other same) ∙ ap (λ list. other_text (map case_view cases) (map text_view list)) (sym ends))
  where
    same : length front ≡ length (map case_view cases)
    same =
        let one : length all ≡ length (front ++ other ∷ []) = ap length ends in
        let two : length (front ++ other ∷ []) ≡ length front + 1 = length-append front (other ∷ []) in
        let three : length (map case_view cases) ≡ length cases = counted case_view cases in omega (arith, one, two, three, many)

-- ---- heads

-- heads that were earlier count as a set
pub same_heads : (earlier others heads : List ℕ) (texts : List Stmts) → ((head : ℕ) → is_in head earlier ≡ is_in head others) → head_arms earlier heads texts ≡ head_arms others heads texts
same_heads earlier others [] texts same = refl
same_heads earlier others (head ∷ heads) [] same = refl
same_heads earlier others (head ∷ heads) (text ∷ texts) same =
    by_test (is_in head earlier) (is_in head others) (same head) (same_heads earlier others heads texts same)
    (same_heads (head ∷ earlier) (head ∷ others) heads texts (λ node. ap (λ test. node == head || test) (same node)))
  where
    by_test : (one other : Bool) → one ≡ other → head_arms earlier heads texts ≡ head_arms others heads texts → head_arms (head ∷ earlier) heads texts ≡ head_arms (head ∷ others) heads texts →
        (if one then head_arms earlier heads texts else more_arms (LiteralArm (pos head) U32 text) (head_arms (head ∷ earlier) heads texts))
        ≡ (if other then head_arms others heads texts else more_arms (LiteralArm (pos head) U32 text) (head_arms (head ∷ others) heads texts))
    by_test true true both skipped kept = skipped
    by_test false false both skipped kept = ap (more_arms (LiteralArm (pos head) U32 text)) kept
    by_test true false both skipped kept = absurd cc
    by_test false true both skipped kept = absurd cc

or_swap : (a b : Bool) → (a || b) ≡ (b || a)
or_swap true true = refl
or_swap true false = refl
or_swap false true = refl
or_swap false false = refl

or_or : (a b c : Bool) → (a || (b || c)) ≡ ((a || b) || c)
or_or true b c = refl
or_or false b c = refl

or_none : (a : Bool) → (a || false) ≡ a
or_none true = refl
or_none false = refl

pub in_grown : (node head : ℕ) (earlier : List ℕ) → is_in node (earlier ++ head ∷ []) ≡ (node == head || is_in node earlier)
in_grown node head [] = refl
in_grown node head (one ∷ earlier) = ap (λ test. node == one || test) (in_grown node head earlier) ∙ or_or (node == one) (node == head) (is_in node earlier)
    ∙ ap (λ test. test || is_in node earlier) (or_swap (node == one) (node == head)) ∙ sym (or_or (node == head) (node == one) (is_in node earlier))

-- ---- one step of each loop

module _ {B : Type 0} (f : B → ArmTree) (made : List B) (texts whole : Arms) where
  -- all were made
  pub arms_made : texts ≡ no_arms → behind_arms (arms (map f made)) texts ≡ whole → arms (map f made) ≡ whole
  arms_made none was = sym (arms_none (arms (map f made))) ∙ ap (behind_arms (arms (map f made))) (sym none) ∙ was

  -- one arm more was made
  pub arm_more : (grown : List B) (y : B) (rest : Arms) → grown ≡ made ++ y ∷ [] → texts ≡ more_arms (f y) rest → behind_arms (arms (map f made)) texts ≡ whole → behind_arms (arms (map f grown)) rest ≡ whole
  arm_more grown y rest more step was = ap (λ list. behind_arms (arms (map f list)) rest) more ∙ arms_more f made y rest ∙ ap (behind_arms (arms (map f made))) (sym step) ∙ was

-- a case and its text
pub case_step : (by : IntegerTy) (cases : List Case) (index : ℕ) (other : Case) (text : Text) (items rest : List Text) → index < length cases → items ≡ text ∷ rest →
    case_arms by (map case_view (drop index cases)) (map text_view items) ≡ more_arms (LiteralArm (get_or cases index other).value by (text_view text)) (case_arms by (map case_view (drop (index + 1) cases)) (map text_view rest))
case_step by cases index other text items rest within split =
    ap (λ list. case_arms by (map case_view list) (map text_view items)) (drop_more cases index other within) ∙ ap (λ list. case_arms by (map case_view (get_or cases index other ∷ drop (index + 1) cases)) (map text_view list)) split

pub no_cases_left : (by : IntegerTy) (cases : List Case) (index : ℕ) (items : List Text) → length items ≡ 0 → index + length items ≡ length cases → case_arms by (map case_view (drop index cases)) (map text_view items) ≡ no_arms
no_cases_left by cases index items none counted = ap (λ list. case_arms by (map case_view list) (map text_view items)) (drop_all index cases (omega (arith, none, counted)))

pub no_heads_left : (earlier heads : List ℕ) (index : ℕ) (items : List Text) → length items ≡ 0 → index + length items ≡ length heads → head_arms earlier (drop index heads) (map text_view items) ≡ no_arms
no_heads_left earlier heads index items none counted = ap (λ list. head_arms earlier list (map text_view items)) (drop_all index heads (omega (arith, none, counted)))

-- a head and its text
pub head_step : (earlier heads : List ℕ) (index head other : ℕ) (text : Text) (items rest : List Text) → index < length heads → head ≡ get_or heads index other → items ≡ text ∷ rest →
    head_arms earlier (drop index heads) (map text_view items) ≡ (if is_in head earlier then head_arms earlier (drop (index + 1) heads) (map text_view rest)
    else more_arms (LiteralArm (pos head) U32 (text_view text)) (head_arms (head ∷ earlier) (drop (index + 1) heads) (map text_view rest)))
head_step earlier heads index head other text items rest within is split =
    ap (λ list. head_arms earlier list (map text_view items)) (drop_more heads index other within ∙ ap (λ one. one ∷ drop (index + 1) heads) (sym is)) ∙ ap (λ list. head_arms earlier (head ∷ drop (index + 1) heads) (map text_view list)) split

-- a head that is new gets an arm
pub head_kept : (earlier grown heads : List ℕ) (index head other : ℕ) (text : Text) (items rest : List Text) (arm : ArmTree) → index < length heads → head ≡ get_or heads index other → items ≡ text ∷ rest →
    is_in head earlier ≡ false → grown ≡ earlier ++ head ∷ [] → arm ≡ LiteralArm (pos head) U32 (text_view text) →
    head_arms earlier (drop index heads) (map text_view items) ≡ more_arms arm (head_arms grown (drop (index + 1) heads) (map text_view rest))
head_kept earlier grown heads index head other text items rest arm within is split new more so =
    head_step earlier heads index head other text items rest within is split
    ∙ ap (λ test. if test then head_arms earlier (drop (index + 1) heads) (map text_view rest)
    else more_arms (LiteralArm (pos head) U32 (text_view text)) (head_arms (head ∷ earlier) (drop (index + 1) heads) (map text_view rest))) new
    ∙ ap (λ one. more_arms one (head_arms (head ∷ earlier) (drop (index + 1) heads) (map text_view rest))) (sym so)
    ∙ ap (more_arms arm) (same_heads (head ∷ earlier) grown (drop (index + 1) heads) (map text_view rest) (λ node. sym (ap (is_in node) more ∙ in_grown node head earlier)))
