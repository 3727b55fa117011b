-- What the readers of initialisers give stood in front.
use Rattle.std.proofs.Common.{◌≡◌, ℕ, suc, ◌<◌, List, [], ◌∷◌, ◌++◌, length, refl, sym, ap, ◌∙◌, subst, arith, append_assoc}
use Rattle.std.proofs.lemmas.List.{append-nil}
use Rattle.std.specs.Prelude.{drop}
use Rattle.cx_cursor.specs.Reading.{State, at}
use Rattle.cx_cursor.specs.Sights.{sees_mark}
use Rattle.cx_cursor.proofs.Readers.{Gives, gives_bind, token}
use Rattle.cx_expr.specs.Below.{Below}
use Rattle.cx_expr.specs.Initialisers.{no_designator, member, initialiser, list_from, designated, entry_from, element, designator_from}
use Rattle.cx_words.specs.Beginnings.{sees_designator}
use Rattle.cx_expr.specs.Specifiers.{braced}
use Rattle.cx_lex.specs.declared.token.Punct.TheVariants as punct
use Rattle.cx_lex.specs.declared.token.Token.{Token}
use Rattle.cx_lex.specs.declared.token.TokenKind.TheVariants as kind
use Rattle.cx_parse.proofs.Lists.{each_of}
use Rattle.cx_parse.proofs.SoundLists.{Braced, braced_sound, on_several}
use Rattle.cx_parse.proofs.SoundParts.{entries_tokens_are, entries_new, entries_many, entries_valid, entries_stand, entries_deep, designators_tokens_are, designators_new, designators_valid, designators_stand, designators_deep}
use Rattle.cx_parse.proofs.SoundRules.{on_mark, on_word, on_part, on_test, given, stood, first, both}
use Rattle.cx_parse.proofs.Stood.{ExprFits, ListFits, InitialiserFits, EntryFits, DesignatorFits, InitialiserStood, ListStood, EntryStood, DesignatorStood, AllSound}
use Rattle.cx_tree.specs.Levels.{assignment_level, conditional_level}
use Rattle.cx_tree.specs.Names.{Binding, new_expr, new_initialiser, new_initialiser_list, new_entry, new_designator, new_designators, InitialiserStands}
use Rattle.cx_tree.specs.Tokens as tree
use Rattle.cx_tree.specs.Tokens.{expr_tokens, initialiser_tokens, initialiser_list_tokens, entry_tokens, entries_tokens, designator_tokens, designation_tokens, listed, brace}
use Rattle.cx_tree.specs.Trees.{InitialiserList, DesignatorTree}
use Rattle.cx_tree.specs.Valid.{designation_own}
use Rattle.cx_tree.specs.Views.{entries, designators}

-- the text of some designators
designation_is : (items : List DesignatorTree) (lines : List ℕ) → 0 < length items
    → each_of designator_tokens items ++ tree.mark lines 0 punct.Equal ∷ [] ≡ designation_tokens (designators items) lines
designation_is [] lines some = absurd (omega arith)
designation_is (d ∷ ds) lines some =
    append_assoc (designator_tokens d) (each_of designator_tokens ds) (tree.mark lines 0 punct.Equal ∷ [])
    ∙ ap (λ (ts : List Token). designator_tokens d ++ (ts ++ tree.mark lines 0 punct.Equal ∷ [])) (sym (designators_tokens_are ds))

designation_owns : (items : List DesignatorTree) → 0 < length items → 1 ≡ designation_own (designators items)
designation_owns [] some = absurd (omega arith)
designation_owns (d ∷ ds) some = refl

member_sound : (most : ℕ) (tokens : List Token) (names : List Binding) → Gives member (DesignatorStood (suc most) (at tokens names)) (at tokens names)
unfolding member
member_sound most tokens names =
    on_mark punct.Dot _ _ (λ line r1 e1. on_word _ _ (λ w r2 e2.
    given _ (stood (first e1 e2) (sym (append-nil names)) (record { valid = refl; stands = tt; deep = omega arith }))))

module _ (below : Below) (most : ℕ) (sound : AllSound below most) where
  pub initialiser_stood : (tokens : List Token) (names : List Binding) → Gives (initialiser below) (InitialiserStood most (at tokens names)) (at tokens names)
  unfolding initialiser
  initialiser_stood tokens names =
      on_test (sees_mark punct.LeftBrace (at tokens names)) _
      (λ _. on_part below.list _ _ initialiser_list_tokens new_initialiser_list (ListFits most names) (sound.list (at tokens names)) (λ list r e fit.
      given _ (stood e refl (record { valid = fit.valid; stands = fit.stands; deep = fit.deep }))))
      (λ _. on_part (below.expr assignment_level) _ _ expr_tokens new_expr (ExprFits most assignment_level names) (sound.expr assignment_level (at tokens names) (omega arith)) (λ e r is fit.
      given _ (stood is refl (record { valid = fit.valid; stands = fit.stands; deep = fit.deep }))))

  pub list_from_sound : (state : State) → Gives (list_from below) (ListStood (suc most) state) state
  unfolding list_from
  list_from_sound state =
      gives_bind (braced below.entry []) _ (Braced entry_tokens new_entry (EntryFits most) [] state) _ state
      (braced_sound below.entry entry_tokens new_entry (EntryFits most) sound.entry [] state.tokens state.names) (λ read after b.
      let P : List ℕ → Type 0 = λ lines. ListStood (suc most) state (InitialiserList (entries read.items) read.last_comma lines) after in
      given _ (subst P (sym b.lines_are) (stood
      (b.took.spelled ∙ ap (λ (ps : List (List Token)). (tree.mark b.own 0 punct.LeftBrace ∷ listed (brace read.last_comma) ps (drop 1 b.own)) ++ after.tokens) (sym (entries_tokens_are read.items)))
      (b.took.scope ∙ ap (λ (bs : List Binding). state.names ++ bs) (sym (entries_new read.items)))
      (record {
        valid = record {
          part = record { present = let a = entries_many read.items in let b = b.some in omega (arith, a, b); each = entries_valid most state.names read.items b.fine };
          own = let a = entries_many read.items in let b = b.count in omega (arith, a, b);
        };
        stands = entries_stand most state.names read.items b.fine;
        deep = let d = entries_deep most state.names read.items b.fine in omega (arith, d);
      }))))

  designated_sound : (tokens : List Token) (names : List Binding) → Gives (designated below) (EntryStood (suc most) (at tokens names)) (at tokens names)
  unfolding designated
  designated_sound tokens names =
      on_several below.designator designator_tokens new_designator (DesignatorFits most) sound.designator no_designator _ _ (λ items r1 fine some e1 stop.
      let mid : List Binding = names ++ each_of new_designator items in
      let news : each_of new_designator items ≡ new_designators (designators items) = sym (designators_new items) in
      on_mark punct.Equal _ _ (λ line r2 e2.
      on_part (initialiser below) _ _ initialiser_tokens new_initialiser (InitialiserFits most mid) (initialiser_stood r2 mid) (λ init r3 e3 fit.
      given _ (stood
      (both (each_of designator_tokens items ++ token (kind.Mark punct.Equal) line ∷ []) (initialiser_tokens init) r3 (both (each_of designator_tokens items) _ _ e1 e2) e3
      ∙ ap (λ (ts : List Token). (ts ++ initialiser_tokens init) ++ r3) (designation_is items (line ∷ []) some))
      (append_assoc names (each_of new_designator items) (new_initialiser init) ∙ ap (λ (bs : List Binding). names ++ (bs ++ new_initialiser init)) news)
      (record {
        valid = record { first = designators_valid most names items fine; second = fit.valid; own = designation_owns items some };
        stands = (designators_stand most names items fine, subst (λ (bs : List Binding). InitialiserStands (names ++ bs) init) news fit.stands);
        deep = let d = designators_deep most names items fine in let e = fit.deep in omega (arith, d, e);
      })))))

  pub entry_from_sound : (state : State) → Gives (entry_from below) (EntryStood (suc most) state) state
  unfolding entry_from
  entry_from_sound state =
      let names : List Binding = state.names in
      on_test (sees_designator state) _
      (λ _. designated_sound state.tokens names)
      (λ _. on_part (initialiser below) _ _ initialiser_tokens new_initialiser (InitialiserFits most names) (initialiser_stood state.tokens names) (λ init r e fit.
      given _ (stood e refl
      (record {
        valid = record { first = tt; second = fit.valid; own = refl };
        stands = (tt, subst (λ (bs : List Binding). InitialiserStands bs init) (sym (append-nil names)) fit.stands);
        deep = let d = fit.deep in omega (arith, d);
      }))))

  element_sound : (tokens : List Token) (names : List Binding) → Gives (element below) (DesignatorStood (suc most) (at tokens names)) (at tokens names)
  unfolding element
  element_sound tokens names =
      on_mark punct.LeftBracket _ _ (λ first_line r1 e1.
      on_part (below.expr conditional_level) _ _ expr_tokens new_expr (ExprFits most conditional_level names) (sound.expr conditional_level (at r1 names) (omega arith)) (λ index r2 e2 fit.
      on_mark punct.RightBracket _ _ (λ last r3 e3.
      given _ (stood (first e1 (both _ _ _ e2 e3)) refl
      (record { valid = record { part = fit.valid; own = refl }; stands = fit.stands; deep = let d = fit.deep in omega arith })))))

  pub designator_from_sound : (state : State) → Gives (designator_from below) (DesignatorStood (suc most) state) state
  unfolding designator_from
  designator_from_sound state =
      on_test (sees_mark punct.LeftBracket state) _ (λ _. element_sound state.tokens state.names) (λ _. member_sound most state.tokens state.names)
