-- What the readers of declarators, of parameters and of type names give stood in front.
use Rattle.std.proofs.Common.{◌≡◌, ℕ, suc, Bool, true, false, not, ◌||◌, List, [], ◌∷◌, ◌++◌, refl, sym, ap, ◌∙◌, subst, arith, append_assoc}
use Rattle.std.proofs.lemmas.List.{append-nil}
use Rattle.cx_cursor.specs.Reading.{State, at}
use Rattle.cx_cursor.specs.Sights.{sight, shows_mark, shows_word, sees_mark}
use Rattle.cx_cursor.specs.declared.sight.Sight.{Sight}
use Rattle.cx_cursor.proofs.Readers.{Gives, gives_bind}
use Rattle.cx_expr.specs.Below.{Below, DeclaratorRead}
use Rattle.cx_expr.specs.Declarators.{no_tail, tail, tails, declarator_or_missing, pointer, head, declarator_from, param_from}
use Rattle.cx_words.specs.Beginnings.{begins_abstract, begins_declarator}
use Rattle.cx_expr.specs.Exprs.{type_name_from}
use Rattle.cx_words.specs.declared.form.Form.{Form}
use Rattle.cx_words.specs.declared.form.Form.TheVariants.{Named, Abstract, Parameter}
use Rattle.cx_lex.specs.declared.token.Keyword.{Keyword}
use Rattle.cx_lex.specs.declared.token.Punct.TheVariants as punct
use Rattle.cx_lex.specs.declared.token.Token.{Token}
use Rattle.cx_parse.proofs.SoundBrackets.{on_qualifiers}
use Rattle.cx_parse.proofs.SoundDeclarators.{Kept, many_ahead_keeps, or_none, both_true, not_true, named_present, missing_named, LacksName, Direct, head_sound, tail_sound}
use Rattle.cx_parse.proofs.SoundRules.{on_mark, on_test, given, stood, first, both}
use Rattle.cx_parse.proofs.SoundSpecs.{on_specs, behind_specs}
use Rattle.cx_parse.proofs.Stood.{IsNamed, DeclaratorStood, ParamStood, TypeNameStood, AllSound}
use Rattle.cx_tree.specs.Names.{Binding, bound, new_declarator, new_specs, StandsBehind}
use Rattle.cx_tree.specs.Tokens.{declarator_tokens, specs_tokens, owns, keys}
use Rattle.cx_tree.specs.Trees.{DeclaratorTree, Pointer}
use Rattle.cx_tree.specs.Valid.{has_name, is_present, are_qualifying}
use Rattle.cx_tree.specs.Views.{specs}

or_parts : (a b c : Bool) → a ≡ false → b ≡ false → c ≡ false → (a || (b || c)) ≡ false
or_parts true b c e f g = cc
or_parts false true c e f g = cc
or_parts false false c e f g = g

-- no declarator begins where nothing was read of one
begins_none : (s t : Sight) → shows_mark punct.Star s ≡ false → t ≡ s → not (shows_mark punct.LeftBracket t || shows_mark punct.LeftParenthesis t) ≡ true → begins_abstract s ≡ false
begins_none s t star same stop =
    let none = or_none (shows_mark punct.LeftBracket t) (shows_mark punct.LeftParenthesis t) (not_true (shows_mark punct.LeftBracket t || shows_mark punct.LeftParenthesis t) stop) in
    or_parts (shows_mark punct.Star s) (shows_mark punct.LeftParenthesis s) (shows_mark punct.LeftBracket s) star
    (ap (λ (s : Sight). shows_mark punct.LeftParenthesis s) (sym same) ∙ none.1) (ap (λ (s : Sight). shows_mark punct.LeftBracket s) (sym same) ∙ none.0)

or_false : (a b : Bool) → a ≡ false → b ≡ false → (a || b) ≡ false
or_false true b e f = cc
or_false false b e f = f

none_begins : (form : Form) (start : State) (t : Sight) (d : DeclaratorTree) → IsNamed form d → is_present d ≡ false → shows_mark punct.Star (sight start) ≡ false → t ≡ sight start → LacksName form start
    → not (shows_mark punct.LeftBracket t || shows_mark punct.LeftParenthesis t) ≡ true → begins_declarator form (sight start) ≡ false
none_begins Named start t d named absent star same lacks stop = let there = named_present d named in cc
none_begins Abstract start t d named absent star same lacks stop = begins_none (sight start) t star same stop
none_begins Parameter start t d named absent star same lacks stop =
    or_false (shows_word (sight start)) (begins_abstract (sight start)) lacks (begins_none (sight start) t star same stop)

true_false : (b : Bool) (C : Type 0) → b ≡ true → b ≡ false → C
true_false true C e f = cc
true_false false C e f = cc

module _ (below : Below) (most : ℕ) (sound : AllSound below most) where
  declarator_or_missing_sound : (form : Form) (state : State) → Gives (declarator_or_missing below form) (DeclaratorStood most form state) state
  unfolding declarator_or_missing
  declarator_or_missing_sound form state =
      on_test (begins_declarator form (sight state)) (DeclaratorStood most form state)
      (λ _. sound.declarator form state)
      (λ none. given (DeclaratorStood most form state) (record {
        stood = record { took = record { spelled = refl; scope = sym (append-nil state.names) }; fits = record { valid = tt; stands = tt; deep = omega arith } };
        named = missing_named form (sight state) none;
        present = λ begins. true_false (begins_declarator form (sight state)) _ begins none;
        own = refl;
      }))

  named_pointer : (form : Form) (qualifiers : List Keyword) (of : DeclaratorTree) (lines : List ℕ) → IsNamed form of → IsNamed form (Pointer qualifiers of lines)
  named_pointer Named qualifiers of lines named = named
  named_pointer Abstract qualifiers of lines named = named
  named_pointer Parameter qualifiers of lines named = tt

  pointer_sound : (form : Form) (tokens : List Token) (names : List Binding) → Gives (pointer below form) (DeclaratorStood (suc most) form (at tokens names)) (at tokens names)
  unfolding pointer
  pointer_sound form tokens names =
      on_mark punct.Star _ _ (λ line r1 e1.
      on_qualifiers (line ∷ []) _ _ (λ words own r2 count qualify e2.
      gives_bind (declarator_or_missing below form) _ (DeclaratorStood most form (at r2 names)) _ (at r2 names) (declarator_or_missing_sound form (at r2 names)) (λ of after s.
      let fit = s.stood.fits in
      given (DeclaratorStood (suc most) form (at tokens names)) (record {
        stood = record {
          took = record { spelled = first e1 (both (owns (keys words) own) (declarator_tokens of.tree) after.tokens e2 s.stood.took.spelled); scope = s.stood.took.scope };
          fits = record { valid = record { first = qualify; second = fit.valid; own = omega (arith, count) }; stands = fit.stands; deep = let d = fit.deep in omega (arith, d) };
        };
        named = named_pointer form words of.tree (line ∷ own) s.named;
        present = λ _. refl;
        own = s.own;
      }))))

  pub declarator_from_sound : (form : Form) (state : State) → Gives (declarator_from below most form) (DeclaratorStood (suc most) form state) state
  unfolding declarator_from tails
  declarator_from_sound form state =
      on_test (sees_mark punct.Star state) (DeclaratorStood (suc most) form state)
      (λ _. pointer_sound form state.tokens state.names)
      (λ star. gives_bind (head below form) (λ of. tails below most of) (Direct (suc most) form state) (DeclaratorStood (suc most) form state) state (head_sound below most sound form state) (λ of mid d. λ made after e.
      let k : Kept (Direct (suc most) form state) no_tail (tail below most) _ made after =
      many_ahead_keeps (Direct (suc most) form state) no_tail (tail below most) (λ all s p. tail_sound below most sound form state all s p) of mid d made after e in
      let so = k.so in
      record {
        stood = record { took = so.took; fits = record { valid = so.valid; stands = so.stands; deep = so.deep } };
        named = so.named;
        present = λ begins. present_by star made after so k.stopped begins (is_present made.tree) refl;
        own = so.own;
      })) where
        present_by : sees_mark punct.Star state ≡ false → (made : DeclaratorRead) (after : State) → Direct (suc most) form state made after → no_tail made after ≡ true
            → begins_declarator form (sight state) ≡ true → (b : Bool) → is_present made.tree ≡ b → is_present made.tree ≡ true
        present_by star made after so stop begins true e = e
        present_by star made after so stop begins false e =
            let lacks = so.lacking e in
            true_false (begins_declarator form (sight state)) _ begins (none_begins form state (sight after) made.tree so.named e star lacks.0 lacks.1 stop)

  -- ---- type names and parameters

  pub type_name_from_sound : (state : State) → Gives (type_name_from below) (TypeNameStood (suc most) state) state
  unfolding type_name_from
  type_name_from_sound state =
      on_specs below most sound false _ _ (λ s r1 f.
      let so = f.read_so in
      let ss = specs s.list in
      let names : List Binding = state.names ++ new_specs ss in
      gives_bind (declarator_or_missing below Abstract) _ (DeclaratorStood most Abstract (at r1 names)) _ (at r1 names) (declarator_or_missing_sound Abstract (at r1 names)) (λ d after t.
      let fit = t.stood.fits in
      given (TypeNameStood (suc most) state) (stood
      (both (specs_tokens ss) (declarator_tokens d.tree) after.tokens so.stood.took.spelled t.stood.took.spelled)
      (t.stood.took.scope ∙ append_assoc state.names (new_specs ss) (new_declarator d.tree))
      (record {
        valid = record { specs = so.stood.fits.valid; declarator = fit.valid; fits = both_true (are_qualifying ss) (has_name d.tree) (f.qualifies refl) t.named; own = refl };
        stands = record {
          specs = so.stood.fits.stands;
          behind = subst (λ (b : Bool). StandsBehind b names d.tree) so.typed (behind_specs false s.typed d.tree r1 after.tokens names so.stopped t.stood.took.spelled);
          declared = fit.stands;
        };
        deep = let a = so.stood.fits.deep in let b = fit.deep in omega (arith, a, b);
      }))))

  pub param_from_sound : (state : State) → Gives (param_from below) (ParamStood (suc most) state) state
  unfolding param_from
  param_from_sound state =
      on_specs below most sound true _ _ (λ s r1 f.
      let so = f.read_so in
      let ss = specs s.list in
      let names : List Binding = state.names ++ new_specs ss in
      gives_bind (declarator_or_missing below Parameter) _ (DeclaratorStood most Parameter (at r1 names)) _ (at r1 names) (declarator_or_missing_sound Parameter (at r1 names)) (λ d after t.
      let fit = t.stood.fits in
      given (ParamStood (suc most) state) (stood
      (both (specs_tokens ss) (declarator_tokens d.tree) after.tokens so.stood.took.spelled t.stood.took.spelled)
      (ap (λ (ns : List Binding). ns ++ bound ss d.tree) (t.stood.took.scope ∙ append_assoc state.names (new_specs ss) (new_declarator d.tree))
      ∙ append_assoc state.names (new_specs ss ++ new_declarator d.tree) (bound ss d.tree)
      ∙ ap (λ (ns : List Binding). state.names ++ ns) (append_assoc (new_specs ss) (new_declarator d.tree) (bound ss d.tree)))
      (record {
        valid = record { specs = so.stood.fits.valid; declarator = fit.valid; fits = tt; own = refl };
        stands = record {
          specs = so.stood.fits.stands;
          behind = subst (λ (b : Bool). StandsBehind b names d.tree) so.typed (behind_specs true s.typed d.tree r1 after.tokens names so.stopped t.stood.took.spelled);
          declared = fit.stands;
        };
        deep = let a = so.stood.fits.deep in let b = fit.deep in omega (arith, a, b);
      }))))
