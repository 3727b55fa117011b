-- What is put in front of what stands behind.
use Rattle.std.proofs.Common.{◌≡◌, ◌∙◌, ℕ, Bool, List, [], ◌∷◌, ◌++◌, map, refl, sym, ap, append_assoc}
use Rattle.build_flow_instrs.specs.Views.{instr_view}
use Rattle.build_flow_instrs.specs.declared.instrs.Instr.{Instr}
use Rattle.build_flow_linear.specs.Linear as line
use Rattle.build_flow_nodes.specs.Points.{FlowPlace}
use Rattle.build_flow_reached.specs.Behind.{BehindTree, in_front, all_in_front}
use Rattle.build_flow_reached.specs.Views.{joined}
use Rattle.rs_text.specs.Tree.{Stmt}
use Rattle.rs_tree.specs.Views.{stmt_view}
use Rattle.rs_tree.specs.declared.stmt.RStmt.{RStmt}

-- the last body stands in front of all others
pub joined_last : (bodies : List (List RStmt)) (body : List RStmt) (rest : List Stmt) → joined (bodies ++ body ∷ []) rest ≡ map stmt_view body ++ joined bodies rest
joined_last [] body rest = refl
joined_last (one ∷ bodies) body rest = joined_last bodies body (map stmt_view one ++ rest)

viewed_both : (first others : List RStmt) → map stmt_view (first ++ others) ≡ map stmt_view first ++ map stmt_view others
viewed_both [] others = refl
viewed_both (one ∷ first) others = ap (λ (rest : List Stmt). stmt_view one ∷ rest) (viewed_both first others)

-- the last body of those that are left was joined
pub join_last : (bodies left : List (List RStmt)) (body made now : List RStmt) (rest whole : List Stmt) → bodies ≡ left ++ body ∷ [] → now ≡ made ++ body →
    map stmt_view made ++ joined bodies rest ≡ whole → map stmt_view now ++ joined left rest ≡ whole
join_last bodies left body made now rest whole same is was =
    ap (λ (list : List RStmt). map stmt_view list ++ joined left rest) is
    ∙ ap (λ (list : List Stmt). list ++ joined left rest) (viewed_both made body)
    ∙ append_assoc (map stmt_view made) (map stmt_view body) (joined left rest)
    ∙ sym (ap (λ (list : List (List RStmt)). map stmt_view made ++ joined list rest) same ∙ ap (λ (list : List Stmt). map stmt_view made ++ list) (joined_last left body rest))
    ∙ was

module _ (number : FlowPlace → ℕ) (is_reached : FlowPlace → Bool) where
  front_last : (code : List line.Instr) (one : line.Instr) (behind : BehindTree) →
      all_in_front number is_reached (code ++ one ∷ []) behind ≡ all_in_front number is_reached code (in_front number is_reached one behind)
  front_last [] one behind = refl
  front_last (first ∷ code) one behind = ap (in_front number is_reached first) (front_last code one behind)

  viewed_last : (code : List Instr) (one : Instr) → map instr_view (code ++ one ∷ []) ≡ map instr_view code ++ instr_view one ∷ []
  viewed_last [] one = refl
  viewed_last (first ∷ code) one = ap (λ (rest : List line.Instr). instr_view first ∷ rest) (viewed_last code one)

  -- the last piece of what is left was put in front
  pub put_last : (left code : List Instr) (one : Instr) (before after whole : BehindTree) → left ≡ code ++ one ∷ [] → after ≡ in_front number is_reached (instr_view one) before →
      all_in_front number is_reached (map instr_view left) before ≡ whole → all_in_front number is_reached (map instr_view code) after ≡ whole
  put_last left code one before after whole same is was =
      ap (all_in_front number is_reached (map instr_view code)) is
      ∙ sym (ap (λ (xs : List Instr). all_in_front number is_reached (map instr_view xs) before) same
      ∙ ap (λ (xs : List line.Instr). all_in_front number is_reached xs before) (viewed_last code one) ∙ front_last (map instr_view code) (instr_view one) before)
      ∙ was
