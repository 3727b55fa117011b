-- Statements are sound: what is read of them stood in front.
use Rattle.std.proofs.Common.{◌≡◌, ℕ, suc, true, false, Some, List, [], ◌∷◌, ◌++◌, length, take, refl, sym, ap, ◌∙◌, subst, arith}
use Rattle.std.proofs.lemmas.Bool.{true≢false}
use Rattle.std.proofs.lemmas.List.{append-nil}
use Rattle.std.proofs.Math.Seq.{take-append_seam}
use Rattle.cx_cursor.specs.Reading.{State, at, Reader, bind, scoped}
use Rattle.cx_cursor.specs.Sights.{sees_mark, mark, key, word}
use Rattle.cx_cursor.proofs.Readers.{Gives, gives_bind, gives_pure, gives_if, Took, nothing_taken, took_both, took_one, one_then, then_one, token, mark_gives, key_gives, word_gives}
use Rattle.cx_expr.specs.Knot.{readers}
use Rattle.cx_lex.specs.declared.token.Keyword.{Keyword}
use Rattle.cx_lex.specs.declared.token.Keyword.TheVariants as keywords
use Rattle.cx_lex.specs.declared.token.Punct.{Punct}
use Rattle.cx_lex.specs.declared.token.Punct.TheVariants.{LeftParenthesis, RightParenthesis, Colon, Semicolon}
use Rattle.cx_lex.specs.declared.token.Token.{Token}
use Rattle.cx_lex.specs.declared.token.TokenKind.TheVariants as kind
use Rattle.cx_parse.proofs.Stood.{AllSound, ExprFits}
use Rattle.cx_parse.proofs.StoodStmts.{OptionStood, StmtStood}
use Rattle.cx_stmt.specs.Stmts.{option_expr, expr_stmt, goto, continue_stmt, break_stmt, return_stmt, HeadRead, head_read, head, label, case_stmt, default_stmt, part}
use Rattle.cx_tree.specs.Levels.{expression_level, conditional_level}
use Rattle.cx_tree.specs.Names.{Binding, new_expr, new_option, new_stmt, ExprStands, OptionStands, StmtStands}
use Rattle.cx_tree.specs.Tokens.{expr_tokens, option_tokens, stmt_tokens}
use Rattle.cx_tree.specs.Trees.{no_expr, some_expr, StmtTree, Label, Case, Default, ExprStmt, Goto, Continue, Break, Return}

-- a statement that no `else` belongs to
pub never_open : {C : Type 0} → false ≡ true → C
never_open e = absurd (true≢false (sym e))

-- ---- what is read in a scope of its own

-- what was read, and the names in scope before it
pub record Left {A : Type 0} (P : A → State → Type 0) (state : State) (a : A) (after : State) : Type 0 where
  pub mid : State
  pub held : P a mid
  pub is : after ≡ at mid.tokens (take (length state.names) mid.names)

pub scoped_gives : {A : Type 0} (read : Reader A) (P : A → State → Type 0) (state : State) → Gives read P state → Gives (scoped read) (Left P state) state
unfolding scoped
scoped_gives read P state gives =
    gives_bind read _ P (Left P state) state gives (λ a mid held.
    gives_pure a (Left P state) (at mid.tokens (take (length state.names) mid.names)) (record { mid = mid; held = held; is = refl }))

-- behind it the names are as they were
pub left_names : (front : List Token) (new : List Binding) (state mid after : State) → Took front new state mid → after ≡ at mid.tokens (take (length state.names) mid.names)
    → Took front [] state after
left_names front new state mid after took is =
    record {
      spelled = took.spelled ∙ ap (λ (s : State). front ++ s.tokens) (sym is);
      scope = ap (λ (s : State). s.names) is ∙ ap (λ (bs : List Binding). take (length state.names) bs) took.scope ∙ take-append_seam state.names new ∙ sym (append-nil state.names);
    }

-- ---- statements without others in them

module _ (depth : ℕ) (sound : AllSound (readers depth) depth) where
  pub option_sound : (closing : Punct) (state : State) → Gives (option_expr depth closing) (OptionStood depth expression_level state) state
  unfolding option_expr
  option_sound closing state =
      gives_if (sees_mark closing) (λ s. Some (no_expr, s)) (bind ((readers depth).expr expression_level) (λ e. λ s. Some (some_expr e, s))) (OptionStood depth expression_level state) state
      (λ _. gives_pure no_expr (OptionStood depth expression_level state) state
      (record { took = nothing_taken state; fits = record { valid = tt; stands = tt; deep = omega arith } }))
      (λ _. gives_bind ((readers depth).expr expression_level) _ _ _ state (sound.expr expression_level state (omega arith)) (λ e mid one.
      gives_pure (some_expr e) (OptionStood depth expression_level state) mid (record { took = one.took; fits = record { valid = one.fits.valid; stands = one.fits.stands; deep = one.fits.deep } })))

  pub expr_stmt_sound : (state : State) → Gives (expr_stmt depth) (StmtStood (suc depth) state) state
  unfolding expr_stmt
  expr_stmt_sound state =
      gives_bind (option_expr depth Semicolon) _ _ _ state (option_sound Semicolon state) (λ e s1 one.
      gives_bind (mark Semicolon) _ _ _ s1 (mark_gives Semicolon s1) (λ line s2 two.
      gives_pure (ExprStmt e (line ∷ [])) (StmtStood (suc depth) state) s2 (record {
        stood = record {
          took = then_one (token (kind.Mark Semicolon) line) (option_tokens e) (new_option e) state s1 s2 one.took two;
          fits = record { valid = record { part = one.fits.valid; own = refl }; stands = one.fits.stands; deep = let a = one.fits.deep in omega (arith, a) };
        };
        closed = never_open;
      })))

  pub return_sound : (state : State) → Gives (return_stmt depth) (StmtStood (suc depth) state) state
  unfolding return_stmt
  return_sound state =
      gives_bind (key keywords.Return) _ _ _ state (key_gives keywords.Return state) (λ first s1 one.
      gives_bind (option_expr depth Semicolon) _ _ _ s1 (option_sound Semicolon s1) (λ e s2 two.
      gives_bind (mark Semicolon) _ _ _ s2 (mark_gives Semicolon s2) (λ last s3 three.
      gives_pure (Return e (first ∷ last ∷ [])) (StmtStood (suc depth) state) s3 (record {
        stood = record {
          took = one_then (token (kind.Key keywords.Return) first) (option_tokens e ++ token (kind.Mark Semicolon) last ∷ []) (new_option e) state s1 s3 one
              (then_one (token (kind.Mark Semicolon) last) (option_tokens e) (new_option e) s1 s2 s3 two.took three);
          fits = record {
            valid = record { part = two.fits.valid; own = refl };
            stands = subst (λ (names : List Binding). OptionStands names e) one.same two.fits.stands;
            deep = let a = two.fits.deep in omega (arith, a);
          };
        };
        closed = never_open;
      }))))

pub goto_sound : (most : ℕ) (state : State) → Gives goto (StmtStood (suc most) state) state
unfolding goto
goto_sound most state =
    gives_bind (key keywords.Goto) _ _ _ state (key_gives keywords.Goto state) (λ first s1 one.
    gives_bind word _ _ _ s1 (word_gives s1) (λ name s2 two.
    gives_bind (mark Semicolon) _ _ _ s2 (mark_gives Semicolon s2) (λ last s3 three.
    gives_pure (Goto name.0 (first ∷ name.1 ∷ last ∷ [])) (StmtStood (suc most) state) s3 (record {
      stood = record {
        took = one_then (token (kind.Key keywords.Goto) first) (token (kind.Word name.0) name.1 ∷ token (kind.Mark Semicolon) last ∷ []) [] state s1 s3 one
            (one_then (token (kind.Word name.0) name.1) (token (kind.Mark Semicolon) last ∷ []) [] s1 s2 s3 two (took_one (token (kind.Mark Semicolon) last) s2 s3 three));
        fits = record { valid = refl; stands = tt; deep = omega arith };
      };
      closed = never_open;
    }))))

pub continue_sound : (most : ℕ) (state : State) → Gives continue_stmt (StmtStood (suc most) state) state
unfolding continue_stmt
continue_sound most state =
    gives_bind (key keywords.Continue) _ _ _ state (key_gives keywords.Continue state) (λ first s1 one.
    gives_bind (mark Semicolon) _ _ _ s1 (mark_gives Semicolon s1) (λ last s2 two.
    gives_pure (Continue (first ∷ last ∷ [])) (StmtStood (suc most) state) s2 (record {
      stood = record {
        took = one_then (token (kind.Key keywords.Continue) first) (token (kind.Mark Semicolon) last ∷ []) [] state s1 s2 one (took_one (token (kind.Mark Semicolon) last) s1 s2 two);
        fits = record { valid = refl; stands = tt; deep = omega arith };
      };
      closed = never_open;
    })))

pub break_sound : (most : ℕ) (state : State) → Gives break_stmt (StmtStood (suc most) state) state
unfolding break_stmt
break_sound most state =
    gives_bind (key keywords.Break) _ _ _ state (key_gives keywords.Break state) (λ first s1 one.
    gives_bind (mark Semicolon) _ _ _ s1 (mark_gives Semicolon s1) (λ last s2 two.
    gives_pure (Break (first ∷ last ∷ [])) (StmtStood (suc most) state) s2 (record {
      stood = record {
        took = one_then (token (kind.Key keywords.Break) first) (token (kind.Mark Semicolon) last ∷ []) [] state s1 s2 one (took_one (token (kind.Mark Semicolon) last) s1 s2 two);
        fits = record { valid = refl; stands = tt; deep = omega arith };
      };
      closed = never_open;
    })))

-- ---- statements that hold others

-- an expression in parentheses behind a keyword
pub record HeadStood (depth : ℕ) (keyword : Keyword) (state : State) (read : HeadRead) (after : State) : Type 0 where
  pub first : ℕ
  pub second : ℕ
  pub third : ℕ
  pub lines : read.lines ≡ first ∷ second ∷ third ∷ []
  pub took : Took (token (kind.Key keyword) first ∷ token (kind.Mark LeftParenthesis) second ∷ (expr_tokens read.expr ++ token (kind.Mark RightParenthesis) third ∷ []))
      (new_expr read.expr) state after
  pub fits : ExprFits depth expression_level state.names read.expr

module _ (stmt : Reader StmtTree) (depth : ℕ) (sound : AllSound (readers depth) depth) (stmt_sound : (state : State) → Gives stmt (StmtStood depth state) state) where
  pub head_sound : (keyword : Keyword) (state : State) → Gives (head depth keyword) (HeadStood depth keyword state) state
  unfolding head
  head_sound keyword state =
      gives_bind (key keyword) _ _ _ state (key_gives keyword state) (λ first s1 one.
      gives_bind (mark LeftParenthesis) _ _ _ s1 (mark_gives LeftParenthesis s1) (λ second s2 two.
      gives_bind ((readers depth).expr expression_level) _ _ _ s2 (sound.expr expression_level s2 (omega arith)) (λ e s3 three.
      gives_bind (mark RightParenthesis) _ _ _ s3 (mark_gives RightParenthesis s3) (λ third s4 four.
      gives_pure (head_read e (first ∷ second ∷ third ∷ [])) (HeadStood depth keyword state) s4 (record {
        first = first;
        second = second;
        third = third;
        lines = refl;
        took = one_then (token (kind.Key keyword) first) (token (kind.Mark LeftParenthesis) second ∷ (expr_tokens e ++ token (kind.Mark RightParenthesis) third ∷ [])) (new_expr e) state s1 s4 one
            (one_then (token (kind.Mark LeftParenthesis) second) (expr_tokens e ++ token (kind.Mark RightParenthesis) third ∷ []) (new_expr e) s1 s2 s4 two
            (then_one (token (kind.Mark RightParenthesis) third) (expr_tokens e) (new_expr e) s2 s3 s4 three.took four));
        fits = subst (λ (names : List Binding). ExprFits depth expression_level names e) (two.same ∙ one.same) three.fits;
      })))))

  -- a branch or a body
  part_sound : (state : State) → Gives (part stmt depth) (Left (StmtStood depth state) state) state
  unfolding part
  part_sound state = scoped_gives stmt (StmtStood depth state) state (stmt_sound state)

  pub label_sound : (state : State) → Gives (label stmt depth) (StmtStood (suc depth) state) state
  unfolding label
  label_sound state =
      gives_bind word _ _ _ state (word_gives state) (λ name s1 one.
      gives_bind (mark Colon) _ _ _ s1 (mark_gives Colon s1) (λ last s2 two.
      gives_bind stmt _ _ _ s2 (stmt_sound s2) (λ s s3 three.
      gives_pure (Label name.0 s (name.1 ∷ last ∷ [])) (StmtStood (suc depth) state) s3 (record {
        stood = record {
          took = one_then (token (kind.Word name.0) name.1) (token (kind.Mark Colon) last ∷ stmt_tokens s) (new_stmt s) state s1 s3 one
              (one_then (token (kind.Mark Colon) last) (stmt_tokens s) (new_stmt s) s1 s2 s3 two three.stood.took);
          fits = record {
            valid = record { part = three.stood.fits.valid; own = refl };
            stands = subst (λ (names : List Binding). StmtStands names s) (two.same ∙ one.same) three.stood.fits.stands;
            deep = let a = three.stood.fits.deep in omega (arith, a);
          };
        };
        closed = three.closed;
      }))))

  pub default_sound : (state : State) → Gives (default_stmt stmt depth) (StmtStood (suc depth) state) state
  unfolding default_stmt
  default_sound state =
      gives_bind (key keywords.Default) _ _ _ state (key_gives keywords.Default state) (λ first s1 one.
      gives_bind (mark Colon) _ _ _ s1 (mark_gives Colon s1) (λ last s2 two.
      gives_bind stmt _ _ _ s2 (stmt_sound s2) (λ s s3 three.
      gives_pure (Default s (first ∷ last ∷ [])) (StmtStood (suc depth) state) s3 (record {
        stood = record {
          took = one_then (token (kind.Key keywords.Default) first) (token (kind.Mark Colon) last ∷ stmt_tokens s) (new_stmt s) state s1 s3 one
              (one_then (token (kind.Mark Colon) last) (stmt_tokens s) (new_stmt s) s1 s2 s3 two three.stood.took);
          fits = record {
            valid = record { part = three.stood.fits.valid; own = refl };
            stands = subst (λ (names : List Binding). StmtStands names s) (two.same ∙ one.same) three.stood.fits.stands;
            deep = let a = three.stood.fits.deep in omega (arith, a);
          };
        };
        closed = three.closed;
      }))))

  pub case_sound : (state : State) → Gives (case_stmt stmt depth) (StmtStood (suc depth) state) state
  unfolding case_stmt
  case_sound state =
      gives_bind (key keywords.Case) _ _ _ state (key_gives keywords.Case state) (λ first s1 one.
      gives_bind ((readers depth).expr conditional_level) _ _ _ s1 (sound.expr conditional_level s1 (omega arith)) (λ value s2 two.
      gives_bind (mark Colon) _ _ _ s2 (mark_gives Colon s2) (λ last s3 three.
      gives_bind stmt _ _ _ s3 (stmt_sound s3) (λ s s4 four.
      gives_pure (Case value s (first ∷ last ∷ [])) (StmtStood (suc depth) state) s4 (record {
        stood = record {
          took = one_then (token (kind.Key keywords.Case) first) (expr_tokens value ++ (token (kind.Mark Colon) last ∷ stmt_tokens s)) (new_expr value ++ new_stmt s) state s1 s4 one
              (took_both (expr_tokens value) (token (kind.Mark Colon) last ∷ stmt_tokens s) (new_expr value) (new_stmt s) s1 s2 s4 two.took
              (one_then (token (kind.Mark Colon) last) (stmt_tokens s) (new_stmt s) s2 s3 s4 three four.stood.took));
          fits = record {
            valid = record { first = two.fits.valid; second = four.stood.fits.valid; own = refl };
            stands = (
              subst (λ (names : List Binding). ExprStands names value) one.same two.fits.stands,
              subst (λ (names : List Binding). StmtStands names s) (three.same ∙ two.took.scope ∙ ap (λ (bs : List Binding). bs ++ new_expr value) one.same) four.stood.fits.stands,
            );
            deep = let a = two.fits.deep in let b = four.stood.fits.deep in omega (arith, a, b);
          };
        };
        closed = four.closed;
      })))))
