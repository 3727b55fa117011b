-- The readers at one depth, by those below, and one turn of the loop behind a left operand.
use Rattle.std.proofs.Common.{◌≡◌, ℕ, zero, suc, ◌-◌, ◌<◌, max, true, false, List, Some, None, refl, ap, ◌∙◌, arith}
use Rattle.std.proofs.lemmas.Bool.{cond-true, cond-false}
use Rattle.cx_cursor.specs.Reading.{State, bind}
use Rattle.cx_cursor.specs.Sights.{sight}
use Rattle.cx_expr.specs.Below.{Below}
use Rattle.cx_words.specs.Continuations.{continuation_of, goes_on}
use Rattle.cx_expr.specs.Declarators.{declarator_from, param_from}
use Rattle.cx_expr.specs.Exprs.{operation, climb, expr_from, literal_from, type_name_from}
use Rattle.cx_expr.specs.Initialisers.{list_from, entry_from, designator_from}
use Rattle.cx_expr.specs.Knot.{readers}
use Rattle.cx_expr.specs.Specifiers.{spec_from, member_from, member_declarator_from, enumerator_from}
use Rattle.cx_expr.specs.Tails.{TailTree, indexed, called, dotted, pointed, up, down, operated, chosen, assigned, sequenced, join, tail_depth}
use Rattle.cx_words.specs.declared.form.Form.{Form}
use Rattle.cx_tree.specs.Depth.{expr_depth}
use Rattle.cx_tree.specs.Levels.{level}
use Rattle.cx_tree.specs.Trees.{ExprTree, TypeNameTree}

-- ---- behind a left operand

pub join_depth : (left : ExprTree) (t : TailTree) → expr_depth (join left t) ≡ suc (max (expr_depth left) (tail_depth t))
join_depth left (indexed index lines) = refl
join_depth left (called args lines) = refl
join_depth left (dotted member lines) = omega arith
join_depth left (pointed member lines) = omega arith
join_depth left (up lines) = omega arith
join_depth left (down lines) = omega arith
join_depth left (operated op right lines) = refl
join_depth left (chosen if_true if_false lines) = refl
join_depth left (assigned op right lines) = refl
join_depth left (sequenced right lines) = refl

module _ (below : Below) (depth least : ℕ) where
  pub climb_out : (turns : ℕ) (left : ExprTree) (state : State) → turns ≡ 0 → climb below depth least turns left state ≡ None
  unfolding climb
  climb_out zero left state out = refl
  climb_out (suc turns) left state out = absurd (omega arith)

  pub climb_stop : (turns : ℕ) (left : ExprTree) (state : State) → 0 < turns → goes_on least (continuation_of (sight state)) (level left) ≡ false
      → climb below depth least turns left state ≡ Some (left, state)
  unfolding climb
  climb_stop zero left state some stop = absurd (omega arith)
  climb_stop (suc turns) left state some stop = cond-false (goes_on least (continuation_of (sight state)) (level left)) _ _ stop

  pub climb_goes : (turns : ℕ) (left : ExprTree) (state : State) → 0 < turns → goes_on least (continuation_of (sight state)) (level left) ≡ true
      → climb below depth least turns left state
      ≡ bind (operation below depth (continuation_of (sight state)) left) (λ next. climb below depth least (turns - 1) next) state
  unfolding climb
  climb_goes zero left state some go = absurd (omega arith)
  climb_goes (suc turns) left state some go =
      let e : turns ≡ suc turns - 1 = omega arith in
      cond-true (goes_on least (continuation_of (sight state)) (level left)) _ _ go
      ∙ ap (λ (n : ℕ). bind (operation below depth (continuation_of (sight state)) left) (λ next. climb below depth least n next) state) e

-- ---- the readers at one depth

pub expr_none : (depth least : ℕ) (state : State) → depth ≡ 0 → (readers depth).expr least state ≡ None
unfolding readers
expr_none zero least state none = refl
expr_none (suc depth) least state none = absurd (omega arith)

pub expr_some : (depth least : ℕ) (state : State) → 0 < depth → (readers depth).expr least state ≡ expr_from (readers (depth - 1)) (depth - 1) least state
unfolding readers
expr_some zero least state some = absurd (omega arith)
expr_some (suc depth) least state some =
    let e : depth ≡ suc depth - 1 = omega arith in
    ap (λ (n : ℕ). expr_from (readers n) n least state) e

pub literal_none : (depth : ℕ) (type : TypeNameTree) (lines : List ℕ) (state : State) → depth ≡ 0 → (readers depth).literal type lines state ≡ None
unfolding readers
literal_none zero type lines state none = refl
literal_none (suc depth) type lines state none = absurd (omega arith)

pub literal_some : (depth : ℕ) (type : TypeNameTree) (lines : List ℕ) (state : State) → 0 < depth
    → (readers depth).literal type lines state ≡ literal_from (readers (depth - 1)) (depth - 1) type lines state
unfolding readers
literal_some zero type lines state some = absurd (omega arith)
literal_some (suc depth) type lines state some =
    let e : depth ≡ suc depth - 1 = omega arith in
    ap (λ (n : ℕ). literal_from (readers n) n type lines state) e

pub declarator_none : (depth : ℕ) (form : Form) (state : State) → depth ≡ 0 → (readers depth).declarator form state ≡ None
unfolding readers
declarator_none zero form state none = refl
declarator_none (suc depth) form state none = absurd (omega arith)

pub declarator_some : (depth : ℕ) (form : Form) (state : State) → 0 < depth → (readers depth).declarator form state ≡ declarator_from (readers (depth - 1)) (depth - 1) form state
unfolding readers
declarator_some zero form state some = absurd (omega arith)
declarator_some (suc depth) form state some =
    let e : depth ≡ suc depth - 1 = omega arith in
    ap (λ (n : ℕ). declarator_from (readers n) n form state) e

pub type_name_none : (depth : ℕ) (state : State) → depth ≡ 0 → (readers depth).type_name state ≡ None
unfolding readers
type_name_none zero state none = refl
type_name_none (suc depth) state none = absurd (omega arith)

pub type_name_some : (depth : ℕ) (state : State) → 0 < depth → (readers depth).type_name state ≡ type_name_from (readers (depth - 1)) state
unfolding readers
type_name_some zero state some = absurd (omega arith)
type_name_some (suc depth) state some =
    let e : depth ≡ suc depth - 1 = omega arith in
    ap (λ (n : ℕ). type_name_from (readers n) state) e

pub spec_none : (depth : ℕ) (state : State) → depth ≡ 0 → (readers depth).spec state ≡ None
unfolding readers
spec_none zero state none = refl
spec_none (suc depth) state none = absurd (omega arith)

pub spec_some : (depth : ℕ) (state : State) → 0 < depth → (readers depth).spec state ≡ spec_from (readers (depth - 1)) state
unfolding readers
spec_some zero state some = absurd (omega arith)
spec_some (suc depth) state some =
    let e : depth ≡ suc depth - 1 = omega arith in
    ap (λ (n : ℕ). spec_from (readers n) state) e

pub member_none : (depth : ℕ) (state : State) → depth ≡ 0 → (readers depth).member state ≡ None
unfolding readers
member_none zero state none = refl
member_none (suc depth) state none = absurd (omega arith)

pub member_some : (depth : ℕ) (state : State) → 0 < depth → (readers depth).member state ≡ member_from (readers (depth - 1)) state
unfolding readers
member_some zero state some = absurd (omega arith)
member_some (suc depth) state some =
    let e : depth ≡ suc depth - 1 = omega arith in
    ap (λ (n : ℕ). member_from (readers n) state) e

pub member_declarator_none : (depth : ℕ) (state : State) → depth ≡ 0 → (readers depth).member_declarator state ≡ None
unfolding readers
member_declarator_none zero state none = refl
member_declarator_none (suc depth) state none = absurd (omega arith)

pub member_declarator_some : (depth : ℕ) (state : State) → 0 < depth → (readers depth).member_declarator state ≡ member_declarator_from (readers (depth - 1)) state
unfolding readers
member_declarator_some zero state some = absurd (omega arith)
member_declarator_some (suc depth) state some =
    let e : depth ≡ suc depth - 1 = omega arith in
    ap (λ (n : ℕ). member_declarator_from (readers n) state) e

pub enumerator_none : (depth : ℕ) (state : State) → depth ≡ 0 → (readers depth).enumerator state ≡ None
unfolding readers
enumerator_none zero state none = refl
enumerator_none (suc depth) state none = absurd (omega arith)

pub enumerator_some : (depth : ℕ) (state : State) → 0 < depth → (readers depth).enumerator state ≡ enumerator_from (readers (depth - 1)) state
unfolding readers
enumerator_some zero state some = absurd (omega arith)
enumerator_some (suc depth) state some =
    let e : depth ≡ suc depth - 1 = omega arith in
    ap (λ (n : ℕ). enumerator_from (readers n) state) e

pub param_none : (depth : ℕ) (state : State) → depth ≡ 0 → (readers depth).param state ≡ None
unfolding readers
param_none zero state none = refl
param_none (suc depth) state none = absurd (omega arith)

pub param_some : (depth : ℕ) (state : State) → 0 < depth → (readers depth).param state ≡ param_from (readers (depth - 1)) state
unfolding readers
param_some zero state some = absurd (omega arith)
param_some (suc depth) state some =
    let e : depth ≡ suc depth - 1 = omega arith in
    ap (λ (n : ℕ). param_from (readers n) state) e

pub list_none : (depth : ℕ) (state : State) → depth ≡ 0 → (readers depth).list state ≡ None
unfolding readers
list_none zero state none = refl
list_none (suc depth) state none = absurd (omega arith)

pub list_some : (depth : ℕ) (state : State) → 0 < depth → (readers depth).list state ≡ list_from (readers (depth - 1)) state
unfolding readers
list_some zero state some = absurd (omega arith)
list_some (suc depth) state some =
    let e : depth ≡ suc depth - 1 = omega arith in
    ap (λ (n : ℕ). list_from (readers n) state) e

pub entry_none : (depth : ℕ) (state : State) → depth ≡ 0 → (readers depth).entry state ≡ None
unfolding readers
entry_none zero state none = refl
entry_none (suc depth) state none = absurd (omega arith)

pub entry_some : (depth : ℕ) (state : State) → 0 < depth → (readers depth).entry state ≡ entry_from (readers (depth - 1)) state
unfolding readers
entry_some zero state some = absurd (omega arith)
entry_some (suc depth) state some =
    let e : depth ≡ suc depth - 1 = omega arith in
    ap (λ (n : ℕ). entry_from (readers n) state) e

pub designator_none : (depth : ℕ) (state : State) → depth ≡ 0 → (readers depth).designator state ≡ None
unfolding readers
designator_none zero state none = refl
designator_none (suc depth) state none = absurd (omega arith)

pub designator_some : (depth : ℕ) (state : State) → 0 < depth → (readers depth).designator state ≡ designator_from (readers (depth - 1)) state
unfolding readers
designator_some zero state some = absurd (omega arith)
designator_some (suc depth) state some =
    let e : depth ≡ suc depth - 1 = omega arith in
    ap (λ (n : ℕ). designator_from (readers n) state) e
