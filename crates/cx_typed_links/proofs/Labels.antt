-- Labels, `case` labels and `default` labels of a statement are those of the renumbered one, and declarations stay declarations (ISO C99, 6.8).
use Rattle.std.proofs.Common.{◌≡◌, ◌+◌, Bool, true, false, ◌||◌, ◌&&◌, ◌∷◌, ◌++◌, None, Some, refl, ap, ◌∙◌}
use Rattle.cx_core.specs.Statements.{labels_in, labels_in_form, labels_in_else, labels_in_list, cases_in, cases_in_form, cases_in_else, cases_in_list, defaults_in, defaults_in_form, defaults_in_else, defaults_in_list, IsForFirst, IsBlock}
use Rattle.cx_core.specs.Trees.{CStmt, stmt, CStmtForm, label, case, default, block, expression, if_then, switch, while, do_while, for_loop, goto, continue, break, returns, begin, COtherwise, no_else, else_do, CStmts, no_stmts, more_stmts}
use Rattle.cx_renumber.specs.Numbers.{CNumbers, stmt_there, action_there, else_there, stmts_there}

module _ (numbers : CNumbers) where
  mutual
    pub labels_go : (of : CStmt) → labels_in (stmt_there numbers of) ≡ labels_in of
    labels_go (stmt place objects form) = labels_go_form form

    labels_go_form : (form : CStmtForm) → labels_in_form (action_there numbers form) ≡ labels_in_form form
    labels_go_form (label name body) = ap (λ found. name ∷ found) (labels_go body)
    labels_go_form (case value body) = labels_go body
    labels_go_form (default body) = labels_go body
    labels_go_form (block stmts) = labels_go_list stmts
    labels_go_form (if_then test body otherwise) =
        ap (λ found. found ++ labels_in_else (else_there numbers otherwise)) (labels_go body) ∙ ap (λ found. labels_in body ++ found) (labels_go_else otherwise)
    labels_go_form (switch value body) = labels_go body
    labels_go_form (while test body) = labels_go body
    labels_go_form (do_while body test) = labels_go body
    labels_go_form (for_loop first test next body) = labels_go body
    labels_go_form (expression value) = refl
    labels_go_form (goto name) = refl
    labels_go_form continue = refl
    labels_go_form break = refl
    labels_go_form (returns value) = refl
    labels_go_form (begin number puts) = refl

    labels_go_else : (otherwise : COtherwise) → labels_in_else (else_there numbers otherwise) ≡ labels_in_else otherwise
    labels_go_else no_else = refl
    labels_go_else (else_do body) = labels_go body

    labels_go_list : (stmts : CStmts) → labels_in_list (stmts_there numbers stmts) ≡ labels_in_list stmts
    labels_go_list no_stmts = refl
    labels_go_list (more_stmts first others) =
        ap (λ found. found ++ labels_in_list (stmts_there numbers others)) (labels_go first) ∙ ap (λ found. labels_in first ++ found) (labels_go_list others)

  mutual
    pub cases_go : (of : CStmt) → cases_in (stmt_there numbers of) ≡ cases_in of
    cases_go (stmt place objects form) = cases_go_form form

    cases_go_form : (form : CStmtForm) → cases_in_form (action_there numbers form) ≡ cases_in_form form
    cases_go_form (label name body) = cases_go body
    cases_go_form (case value body) = ap (λ found. value ∷ found) (cases_go body)
    cases_go_form (default body) = cases_go body
    cases_go_form (block stmts) = cases_go_list stmts
    cases_go_form (if_then test body otherwise) =
        ap (λ found. found ++ cases_in_else (else_there numbers otherwise)) (cases_go body) ∙ ap (λ found. cases_in body ++ found) (cases_go_else otherwise)
    cases_go_form (switch value body) = refl
    cases_go_form (while test body) = cases_go body
    cases_go_form (do_while body test) = cases_go body
    cases_go_form (for_loop first test next body) = cases_go body
    cases_go_form (expression value) = refl
    cases_go_form (goto name) = refl
    cases_go_form continue = refl
    cases_go_form break = refl
    cases_go_form (returns value) = refl
    cases_go_form (begin number puts) = refl

    cases_go_else : (otherwise : COtherwise) → cases_in_else (else_there numbers otherwise) ≡ cases_in_else otherwise
    cases_go_else no_else = refl
    cases_go_else (else_do body) = cases_go body

    cases_go_list : (stmts : CStmts) → cases_in_list (stmts_there numbers stmts) ≡ cases_in_list stmts
    cases_go_list no_stmts = refl
    cases_go_list (more_stmts first others) =
        ap (λ found. found ++ cases_in_list (stmts_there numbers others)) (cases_go first) ∙ ap (λ found. cases_in first ++ found) (cases_go_list others)

  mutual
    pub defaults_go : (of : CStmt) → defaults_in (stmt_there numbers of) ≡ defaults_in of
    defaults_go (stmt place objects form) = defaults_go_form form

    defaults_go_form : (form : CStmtForm) → defaults_in_form (action_there numbers form) ≡ defaults_in_form form
    defaults_go_form (label name body) = defaults_go body
    defaults_go_form (case value body) = defaults_go body
    defaults_go_form (default body) = ap (λ found. 1 + found) (defaults_go body)
    defaults_go_form (block stmts) = defaults_go_list stmts
    defaults_go_form (if_then test body otherwise) =
        ap (λ found. found + defaults_in_else (else_there numbers otherwise)) (defaults_go body) ∙ ap (λ found. defaults_in body + found) (defaults_go_else otherwise)
    defaults_go_form (switch value body) = refl
    defaults_go_form (while test body) = defaults_go body
    defaults_go_form (do_while body test) = defaults_go body
    defaults_go_form (for_loop first test next body) = defaults_go body
    defaults_go_form (expression value) = refl
    defaults_go_form (goto name) = refl
    defaults_go_form continue = refl
    defaults_go_form break = refl
    defaults_go_form (returns value) = refl
    defaults_go_form (begin number puts) = refl

    defaults_go_else : (otherwise : COtherwise) → defaults_in_else (else_there numbers otherwise) ≡ defaults_in_else otherwise
    defaults_go_else no_else = refl
    defaults_go_else (else_do body) = defaults_go body

    defaults_go_list : (stmts : CStmts) → defaults_in_list (stmts_there numbers stmts) ≡ defaults_in_list stmts
    defaults_go_list no_stmts = refl
    defaults_go_list (more_stmts first others) =
        ap (λ found. found + defaults_in_list (stmts_there numbers others)) (defaults_go first) ∙ ap (λ found. defaults_in first + found) (defaults_go_list others)

  -- ---- the first part of a `for`

  abbrev is_declaring : CStmt → Bool
  is_declaring (stmt place objects (begin number puts)) = true
  is_declaring (stmt place objects _) = false

  abbrev are_declaring : CStmts → Bool
  are_declaring no_stmts = true
  are_declaring (more_stmts first others) = is_declaring first && are_declaring others

  abbrev is_valued : CStmt → Bool
  is_valued (stmt place objects (expression (Some value))) = true
  is_valued (stmt place objects _) = false

  abbrev is_one_valued : CStmts → Bool
  is_one_valued (more_stmts first no_stmts) = is_valued first
  is_one_valued _ = false

  declaring_goes : (of : CStmt) → is_declaring (stmt_there numbers of) ≡ is_declaring of
  declaring_goes (stmt place objects (label name body)) = refl
  declaring_goes (stmt place objects (case value body)) = refl
  declaring_goes (stmt place objects (default body)) = refl
  declaring_goes (stmt place objects (block stmts)) = refl
  declaring_goes (stmt place objects (if_then test body otherwise)) = refl
  declaring_goes (stmt place objects (switch value body)) = refl
  declaring_goes (stmt place objects (while test body)) = refl
  declaring_goes (stmt place objects (do_while body test)) = refl
  declaring_goes (stmt place objects (for_loop first test next body)) = refl
  declaring_goes (stmt place objects (expression None)) = refl
  declaring_goes (stmt place objects (expression (Some value))) = refl
  declaring_goes (stmt place objects (goto name)) = refl
  declaring_goes (stmt place objects continue) = refl
  declaring_goes (stmt place objects break) = refl
  declaring_goes (stmt place objects (returns value)) = refl
  declaring_goes (stmt place objects (begin number puts)) = refl

  all_declaring_go : (stmts : CStmts) → are_declaring (stmts_there numbers stmts) ≡ are_declaring stmts
  all_declaring_go no_stmts = refl
  all_declaring_go (more_stmts first others) =
      ap (λ found. found && are_declaring (stmts_there numbers others)) (declaring_goes first) ∙ ap (λ found. is_declaring first && found) (all_declaring_go others)

  valued_goes : (of : CStmt) → is_valued (stmt_there numbers of) ≡ is_valued of
  valued_goes (stmt place objects (label name body)) = refl
  valued_goes (stmt place objects (case value body)) = refl
  valued_goes (stmt place objects (default body)) = refl
  valued_goes (stmt place objects (block stmts)) = refl
  valued_goes (stmt place objects (if_then test body otherwise)) = refl
  valued_goes (stmt place objects (switch value body)) = refl
  valued_goes (stmt place objects (while test body)) = refl
  valued_goes (stmt place objects (do_while body test)) = refl
  valued_goes (stmt place objects (for_loop first test next body)) = refl
  valued_goes (stmt place objects (expression None)) = refl
  valued_goes (stmt place objects (expression (Some value))) = refl
  valued_goes (stmt place objects (goto name)) = refl
  valued_goes (stmt place objects continue) = refl
  valued_goes (stmt place objects break) = refl
  valued_goes (stmt place objects (returns value)) = refl
  valued_goes (stmt place objects (begin number puts)) = refl

  one_valued_goes : (stmts : CStmts) → is_one_valued (stmts_there numbers stmts) ≡ is_one_valued stmts
  one_valued_goes no_stmts = refl
  one_valued_goes (more_stmts first no_stmts) = valued_goes first
  one_valued_goes (more_stmts first (more_stmts second others)) = refl

  pub for_first_goes : (stmts : CStmts) → IsForFirst stmts → IsForFirst (stmts_there numbers stmts)
  for_first_goes stmts held =
      ap (λ found. found || is_one_valued (stmts_there numbers stmts)) (all_declaring_go stmts)
      ∙ ap (λ found. are_declaring stmts || found) (one_valued_goes stmts) ∙ held

  pub is_block_goes : (of : CStmt) → IsBlock of → IsBlock (stmt_there numbers of)
  is_block_goes (stmt place objects (block stmts)) held = tt
  is_block_goes (stmt place objects form) held = absurd held
