-- The statements of nests in order, one nest at a time.
use Rattle.std.proofs.Common.{◌≡◌, ◌∙◌, ℕ, ◌+◌, ◌-◌, ◌<◌, ◌≤◌, nat_lt, Bool, true, false, List, [], ◌∷◌, ◌++◌, length, drop, get_or, map, refl, ap, sym, arith, if◌then◌else◌}
use Rattle.std.proofs.lemmas.Bool.Decides.{nat_tests}
use Rattle.std.proofs.lemmas.List.{length-drop, length-map, drop_all}
use Rattle.emit_nests.specs.Views.{nest_view}
use Rattle.emit_nests.specs.declared.nests.Nest.{Nest}
use Rattle.emit_rules.specs.Bodies.{nest_stmts, chain_stmts}
use Rattle.emit_rules.specs.Jumps.{label_of}
use Rattle.emit_rules.specs.Nests as tree
use Rattle.emit_rules.specs.Nests.{chain}
use Rattle.emit_rules.specs.Texts.{block_then}
use Rattle.emit_stmts.proofs.Lists.{behind_none, next_of}
use Rattle.emit_texts.proofs.Texts.{behind_behind, stmts_append}
use Rattle.emit_texts.specs.Blocks.{block_of, in_front}
use Rattle.emit_texts.specs.Scopes.{jumps_of, scopes_before}
use Rattle.emit_texts.specs.declared.scopes.Scope.{Scope}
use Rattle.flow.specs.Flows.{FlowTree}
use Rattle.rs_mean.specs.Laws.{behind}
use Rattle.rs_mean_ends.specs.Ways.{stmts_name}
use Rattle.rs_text.specs.Tree.{Block, Stmts, no_stmts, more_stmts, stmts}
use Rattle.rs_tree.specs.Views.{stmt_view}
use Rattle.rs_tree.specs.declared.stmt.RStmt.{RStmt}
use Rattle.std.specs.Prelude.{Result, Ok, Err, OnOk}

pub put_more : {T E : Type 0} (result : Result T E) (made grown text : List RStmt) (front : Stmts) → OnOk result (grown ≡ made ++ text) → stmts (map stmt_view text) ≡ front →
    OnOk result ((rest : Stmts) → behind (stmts (map stmt_view grown)) rest ≡ behind (stmts (map stmt_view made)) (behind front rest))
put_more (Ok x) made grown text front more is = λ rest.
    ap (λ list. behind (stmts (map stmt_view list)) rest) more ∙ ap (λ ss. behind ss rest) (stmts_append stmt_view made text ∙ ap (behind (stmts (map stmt_view made))) is)
    ∙ behind_behind (stmts (map stmt_view made)) front rest
put_more (Err x) made grown text front more is = tt

-- a block in front of others is a block, and the others behind it
block_in_front : (label : ℕ) (body rest : Stmts) → block_then label body rest ≡ behind (block_of label body) rest
block_in_front label body rest = by_test (stmts_name (label_of label) body)
  where
    by_test : (named : Bool) → (if named then more_stmts (Block (label_of label) body) rest else behind body rest) ≡ behind (if named then more_stmts (Block (label_of label) body) no_stmts else body) rest
    by_test true = refl
    by_test false = refl

has_any : {A : Type 0} → List A → Bool
has_any [] = false
has_any (x ∷ list) = true

any_there : {A : Type 0} (list : List A) → nat_lt 0 (length list) ≡ has_any list
unfolding has_any
any_there [] = refl
any_there (x ∷ list) = grind (arith, nat_tests)

less_left : (k n left : ℕ) → left ≡ n - k → nat_lt k n ≡ nat_lt 0 left
less_left k n left is = grind (arith, nat_tests)

-- whether there are others behind
behind_it : {A B : Type 0} (k : ℕ) (list : List A) (f : A → B) → nat_lt k (length list) ≡ has_any (map f (drop k list))
behind_it k list f = less_left k (length list) (length (map f (drop k list))) (length-map (drop k list) f ∙ length-drop k list) ∙ any_there (map f (drop k list))

module _ (flow : FlowTree) (scopes : List Scope) where
  -- the statements of nests
  texts : List tree.Nest → Stmts
  texts nests = chain_stmts flow (chain nests) (length scopes) (jumps_of scopes)

  -- those of one, with others behind it
  first_text : tree.Nest → List tree.Nest → Stmts
  first_text nest others = nest_stmts flow nest (length (scopes_before others scopes)) (jumps_of (scopes_before others scopes))

  chain_step : (nest : tree.Nest) (others : List tree.Nest) → texts (nest ∷ others) ≡ behind (in_front (has_any others) (length scopes) (first_text nest others)) (texts others)
  unfolding texts first_text has_any
  chain_step nest [] = sym (behind_none _)
  chain_step nest (second ∷ others) = block_in_front (length scopes) (first_text nest (second ∷ others)) (texts (second ∷ others))

module _ (flow : FlowTree) (scopes inner : List Scope) (made grown text : List RStmt) (members items : List Nest) (k : ℕ) (nest : Nest) (has_others : Bool) (whole : Stmts) where
  pub chain_more : items ≡ members → nest ≡ get_or items k nest → k < length items → inner ≡ scopes_before (map nest_view (drop (k + 1) members)) scopes →
      stmts (map stmt_view text) ≡ nest_stmts flow (nest_view nest) (length inner) (jumps_of inner) → has_others ≡ nat_lt (k + 1) (length members) →
      ((rest : Stmts) → behind (stmts (map stmt_view grown)) rest ≡ behind (stmts (map stmt_view made)) (behind (in_front has_others (length scopes) (stmts (map stmt_view text))) rest)) →
      behind (stmts (map stmt_view made)) (chain_stmts flow (chain (map nest_view (drop k members))) (length scopes) (jumps_of scopes)) ≡ whole →
      behind (stmts (map stmt_view grown)) (chain_stmts flow (chain (map nest_view (drop (k + 1) members))) (length scopes) (jumps_of scopes)) ≡ whole
  unfolding texts first_text
  chain_more same is within around text_is has more was =
      more (texts flow scopes others)
      ∙ ap (behind (stmts (map stmt_view made))) (ap (λ ss. behind ss (texts flow scopes others)) (ap (λ others. in_front others (length scopes) (stmts (map stmt_view text))) (has ∙ few)
      ∙ ap (in_front (has_any others) (length scopes)) (text_is ∙ ap (λ list. nest_stmts flow (nest_view nest) (length list) (jumps_of list)) around)) ∙ sym (chain_step flow scopes (nest_view nest) others) ∙ ap (λ list. texts flow scopes (map nest_view list)) (sym left))
      ∙ was
    where
      others : List tree.Nest
      others = map nest_view (drop (k + 1) members)

      left : drop k members ≡ nest ∷ drop (k + 1) members
      left = ap (drop k) (sym same) ∙ next_of items k nest is within ∙ ap (λ list. nest ∷ drop (k + 1) list) same

      few : nat_lt (k + 1) (length members) ≡ has_any (map nest_view (drop (k + 1) members))
      few = behind_it (k + 1) members nest_view

module _ (flow : FlowTree) (scopes : List Scope) (made : List RStmt) (members items : List Nest) (k : ℕ) (whole : Stmts) where
  pub chain_ended : items ≡ members → length items ≤ k → behind (stmts (map stmt_view made)) (chain_stmts flow (chain (map nest_view (drop k members))) (length scopes) (jumps_of scopes)) ≡ whole →
      stmts (map stmt_view made) ≡ whole
  chain_ended same past was =
      sym (behind_none (stmts (map stmt_view made)))
      ∙ ap (λ list. behind (stmts (map stmt_view made)) (chain_stmts flow (chain (map nest_view list)) (length scopes) (jumps_of scopes))) (sym (drop_all k members (let e = ap length same in omega (arith, past, e)))) ∙ was
