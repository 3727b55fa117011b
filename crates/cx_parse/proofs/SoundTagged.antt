-- What the readers of one specifier, of members and of enumerators give stood in front.
use Rattle.std.proofs.Common.{◌≡◌, ℕ, suc, ◌<◌, Bool, true, false, cond, Some, None, List, [], ◌∷◌, ◌++◌, length, drop, refl, sym, ap, ◌∙◌, subst, arith}
use Rattle.std.proofs.lemmas.List.{append-nil}
use Rattle.cx_cursor.specs.Lists.{ListRead}
use Rattle.cx_cursor.specs.Reading.{State, at}
use Rattle.cx_cursor.specs.Sights.{sight, sight_in, word_sight, shows_word, sees_mark}
use Rattle.cx_cursor.specs.declared.sight.Sight.{Sight}
use Rattle.cx_cursor.specs.declared.sight.Sight.TheVariants as sights
use Rattle.cx_cursor.proofs.Readers.{Gives, gives_bind, token}
use Rattle.cx_expr.specs.Below.{Below}
use Rattle.cx_expr.specs.Specifiers.{no_brace, BracedRead, braced, typedef_spec, members, record_tagged, record_untagged, record_behind, enum_tagged, enum_untagged, enum_behind, spec_behind, key_spec, spec_by, spec_from}
use Rattle.cx_words.specs.Beginnings.{begins_tagged, begins_member_spec, begins_spec}
use Rattle.cx_lex.specs.declared.token.Keyword.{Keyword}
use Rattle.cx_lex.specs.declared.token.Keyword.TheVariants as keywords
use Rattle.cx_lex.specs.declared.token.Punct.TheVariants as punct
use Rattle.cx_lex.specs.declared.token.Token.{Token}
use Rattle.cx_lex.specs.declared.token.TokenKind.TheVariants as kind
use Rattle.cx_parse.proofs.Lists.{each_of}
use Rattle.cx_parse.proofs.SoundLists.{Fine, Braced, braced_sound, on_several}
use Rattle.cx_parse.proofs.SoundParts.{member_decls_tokens_are, member_decls_new, member_decls_many, member_decls_valid, member_decls_stand, member_decls_deep, enumerators_tokens_are, enumerators_new, enumerators_many, enumerators_valid, enumerators_stand, enumerators_deep}
use Rattle.cx_parse.proofs.SoundRules.{on_mark, on_word, on_keyword, on_test, on_choice, given, refused, stood, first, both}
use Rattle.cx_parse.proofs.Stood.{MemberDeclFits, EnumeratorFits, SpecStood, AllSound}
use Rattle.cx_tree.specs.Names.{Binding, is_type, new_member_decl, new_member_decls, new_enumerator}
use Rattle.cx_tree.specs.Tokens as tree
use Rattle.cx_tree.specs.Tokens.{expr_tokens, spec_tokens, specs_tokens, record_keyword, members_tokens, member_decl_tokens, member_decls_tokens, member_declarator_tokens, member_declarators_tokens, enumerator_tokens, enumerators_tokens, declarator_tokens, listed, ended, brace}
use Rattle.cx_tree.specs.Trees.{Key, Record, Enum, some_members, MemberDeclTree, EnumeratorTree, some_enumerator_list}
use Rattle.cx_tree.specs.Views.{member_decls, enumerators}
use Rattle.cx_tree.specs.Words.{is_type_word, is_qualifier, is_storage_class, is_function_specifier, is_specifier_word}

-- ---- one word

type_word_ahead : (b : Bool) → word_sight b ≡ sights.TypeWord → b ≡ true
type_word_ahead true e = refl
type_word_ahead false e = cc

typedef_sound : (most : ℕ) (tokens : List Token) (names : List Binding) → sight_in names tokens ≡ sights.TypeWord
    → Gives typedef_spec (SpecStood (suc most) (at tokens names)) (at tokens names)
unfolding typedef_spec
typedef_sound most tokens names is =
    on_word _ _ (λ w r1 e1.
    given _ (stood e1 (sym (append-nil names))
    (record { valid = refl; stands = (type_word_ahead (is_type names w.0) (sym (ap (λ (ts : List Token). sight_in names ts) e1) ∙ is), refl); deep = omega arith })))

-- a keyword that begins a specifier, and none with a tag, is one
specifier_word : (w : Keyword) → begins_spec true w ≡ true → begins_tagged w ≡ false → is_specifier_word w ≡ true
unfolding begins_spec begins_member_spec begins_tagged is_type_word is_qualifier is_storage_class is_function_specifier
specifier_word keywords.Struct h t = cc
specifier_word _ h t = cc

word_found : (most : ℕ) (w : Keyword) (line : ℕ) (tokens rest : List Token) (names : List Binding) → begins_tagged w ≡ false → tokens ≡ token (kind.Key w) line ∷ rest
    → Gives (cond (begins_spec true w) (λ s. Some (Key w (line ∷ []), s)) (λ s. None)) (SpecStood (suc most) (at tokens names)) (at rest names)
word_found most w line tokens rest names plain e =
    on_choice (begins_spec true w) _ _ _ (at rest names)
    (λ begins. given (SpecStood (suc most) (at tokens names)) (stood e (sym (append-nil names))
    (record { valid = record { part = specifier_word w begins plain; own = refl }; stands = tt; deep = omega arith })))
    (λ _. refused _)

-- ---- members in braces

-- what was read of members in braces, with the lines of the braces behind those given
record MembersFound (most : ℕ) (lines : List ℕ) (ts : List Token) (names : List Binding) (read : ListRead MemberDeclTree) (after : State) : Type 0 where
  one : ℕ
  two : ℕ
  lines_are : read.lines ≡ lines ++ one ∷ two ∷ []
  some : 0 < length read.list
  fine : Fine new_member_decl (MemberDeclFits most) names read.list
  spelled : ts ≡ (token (kind.Mark punct.LeftBrace) one ∷ (member_decls_tokens (member_decls read.list) ++ token (kind.Mark punct.RightBrace) two ∷ [])) ++ after.tokens
  scope : after.names ≡ names ++ new_member_decls (member_decls read.list)

module _ (below : Below) (most : ℕ) (sound : AllSound below most) where
  members_sound : (lines : List ℕ) (ts : List Token) (names : List Binding) → Gives (members below lines) (MembersFound most lines ts names) (at ts names)
  unfolding members
  members_sound lines ts names =
      on_mark punct.LeftBrace _ _ (λ one r1 e1.
      on_several below.member member_decl_tokens new_member_decl (MemberDeclFits most) sound.member no_brace _ _ (λ items r2 fine some e2 stop.
      on_mark punct.RightBrace _ _ (λ two r3 e3.
      given (MembersFound most lines ts names) (record {
        one = one;
        two = two;
        lines_are = refl;
        some = some;
        fine = fine;
        spelled = first e1 (both (each_of member_decl_tokens items) _ r3 e2 e3
            ∙ ap (λ (ms : List Token). (ms ++ token (kind.Mark punct.RightBrace) two ∷ []) ++ r3) (sym (member_decls_tokens_are items)));
        scope = ap (λ (bs : List Binding). names ++ bs) (sym (member_decls_new items));
      }))))

  record_tagged_sound : (is_union : Bool) (line : ℕ) (tokens r1 : List Token) (names : List Binding) → tokens ≡ token (kind.Key (record_keyword is_union)) line ∷ r1
      → Gives (record_tagged below is_union line) (SpecStood (suc most) (at tokens names)) (at r1 names)
  unfolding record_tagged
  record_tagged_sound is_union line tokens r1 names e1 =
      on_word _ _ (λ tag r2 e2.
      on_test (sees_mark punct.LeftBrace (at r2 names)) _
      (λ _. gives_bind (members below (line ∷ tag.1 ∷ [])) _ (MembersFound most (line ∷ tag.1 ∷ []) r2 names) _ (at r2 names) (members_sound (line ∷ tag.1 ∷ []) r2 names) (λ read after m.
      let P : List ℕ → Type 0 = λ lines. SpecStood (suc most) (at tokens names) (Record is_union (Some tag.0) (some_members (member_decls read.list)) lines) after in
      given (SpecStood (suc most) (at tokens names)) (subst P (sym m.lines_are) (stood (first e1 (first e2 m.spelled)) m.scope
      (record {
        valid = record {
          tagged = refl;
          listed = record { present = let a = member_decls_many read.list in let b = m.some in omega (arith, a, b); each = member_decls_valid most names read.list m.fine };
          own = refl;
        };
        stands = member_decls_stand most names read.list m.fine;
        deep = let d = member_decls_deep most names read.list m.fine in omega (arith, d);
      })))))
      (λ _. given (SpecStood (suc most) (at tokens names)) (stood (first e1 e2) (sym (append-nil names))
      (record { valid = record { tagged = refl; listed = tt; own = refl }; stands = tt; deep = omega arith }))))

  record_untagged_sound : (is_union : Bool) (line : ℕ) (tokens r1 : List Token) (names : List Binding) → tokens ≡ token (kind.Key (record_keyword is_union)) line ∷ r1
      → Gives (record_untagged below is_union line) (SpecStood (suc most) (at tokens names)) (at r1 names)
  unfolding record_untagged
  record_untagged_sound is_union line tokens r1 names e1 =
      gives_bind (members below (line ∷ [])) _ (MembersFound most (line ∷ []) r1 names) _ (at r1 names) (members_sound (line ∷ []) r1 names) (λ read after m.
      let P : List ℕ → Type 0 = λ lines. SpecStood (suc most) (at tokens names) (Record is_union None (some_members (member_decls read.list)) lines) after in
      given (SpecStood (suc most) (at tokens names)) (subst P (sym m.lines_are) (stood (first e1 m.spelled) m.scope
      (record {
        valid = record {
          tagged = refl;
          listed = record { present = let a = member_decls_many read.list in let b = m.some in omega (arith, a, b); each = member_decls_valid most names read.list m.fine };
          own = refl;
        };
        stands = member_decls_stand most names read.list m.fine;
        deep = let d = member_decls_deep most names read.list m.fine in omega (arith, d);
      }))))

  record_sound : (is_union : Bool) (line : ℕ) (tokens r1 : List Token) (names : List Binding) → tokens ≡ token (kind.Key (record_keyword is_union)) line ∷ r1
      → Gives (record_behind below is_union line) (SpecStood (suc most) (at tokens names)) (at r1 names)
  unfolding record_behind
  record_sound is_union line tokens r1 names e1 =
      on_test (shows_word (sight (at r1 names))) _ (λ _. record_tagged_sound is_union line tokens r1 names e1) (λ _. record_untagged_sound is_union line tokens r1 names e1)

  -- ---- enumerations

  -- the enumerators' tokens
  braced_tokens : (ts : List Token) (names : List Binding) (lines : List ℕ) (read : BracedRead EnumeratorTree) (after : State)
      → (b : Braced enumerator_tokens new_enumerator (EnumeratorFits most) lines (at ts names) read after)
      → ts ≡ (tree.mark b.own 0 punct.LeftBrace ∷ listed (brace read.last_comma) (enumerators_tokens (enumerators read.items)) (drop 1 b.own)) ++ after.tokens
  braced_tokens ts names lines read after b =
      b.took.spelled
      ∙ ap (λ (ps : List (List Token)). (tree.mark b.own 0 punct.LeftBrace ∷ listed (brace read.last_comma) ps (drop 1 b.own)) ++ after.tokens) (sym (enumerators_tokens_are read.items))

  enum_tagged_sound : (line : ℕ) (tokens r1 : List Token) (names : List Binding) → tokens ≡ token (kind.Key keywords.Enum) line ∷ r1
      → Gives (enum_tagged below line) (SpecStood (suc most) (at tokens names)) (at r1 names)
  unfolding enum_tagged
  enum_tagged_sound line tokens r1 names e1 =
      on_word _ _ (λ tag r2 e2.
      on_test (sees_mark punct.LeftBrace (at r2 names)) _
      (λ _. gives_bind (braced below.enumerator (line ∷ tag.1 ∷ [])) _ (Braced enumerator_tokens new_enumerator (EnumeratorFits most) (line ∷ tag.1 ∷ []) (at r2 names)) _ (at r2 names)
      (braced_sound below.enumerator enumerator_tokens new_enumerator (EnumeratorFits most) sound.enumerator (line ∷ tag.1 ∷ []) r2 names) (λ read after b.
      let P : List ℕ → Type 0 = λ lines. SpecStood (suc most) (at tokens names) (Enum (Some tag.0) (some_enumerator_list (enumerators read.items)) read.last_comma lines) after in
      given (SpecStood (suc most) (at tokens names)) (subst P (sym b.lines_are) (stood (first e1 (first e2 (braced_tokens r2 names (line ∷ tag.1 ∷ []) read after b)))
      (b.took.scope ∙ ap (λ (bs : List Binding). names ++ bs) (sym (enumerators_new read.items)))
      (record {
        valid = record {
          tagged = refl;
          listed = record { present = let a = enumerators_many read.items in let b = b.some in omega (arith, a, b); each = enumerators_valid most names read.items b.fine };
          own = let a = enumerators_many read.items in let b = b.count in omega (arith, a, b);
        };
        stands = enumerators_stand most names read.items b.fine;
        deep = let d = enumerators_deep most names read.items b.fine in omega (arith, d);
      })))))
      (λ _. given (SpecStood (suc most) (at tokens names)) (stood (first e1 e2) (sym (append-nil names))
      (record { valid = record { tagged = refl; listed = refl; own = refl }; stands = tt; deep = omega arith }))))

  enum_untagged_sound : (line : ℕ) (tokens r1 : List Token) (names : List Binding) → tokens ≡ token (kind.Key keywords.Enum) line ∷ r1
      → Gives (enum_untagged below line) (SpecStood (suc most) (at tokens names)) (at r1 names)
  unfolding enum_untagged
  enum_untagged_sound line tokens r1 names e1 =
      gives_bind (braced below.enumerator (line ∷ [])) _ (Braced enumerator_tokens new_enumerator (EnumeratorFits most) (line ∷ []) (at r1 names)) _ (at r1 names)
      (braced_sound below.enumerator enumerator_tokens new_enumerator (EnumeratorFits most) sound.enumerator (line ∷ []) r1 names) (λ read after b.
      let P : List ℕ → Type 0 = λ lines. SpecStood (suc most) (at tokens names) (Enum None (some_enumerator_list (enumerators read.items)) read.last_comma lines) after in
      given (SpecStood (suc most) (at tokens names)) (subst P (sym b.lines_are) (stood (first e1 (braced_tokens r1 names (line ∷ []) read after b))
      (b.took.scope ∙ ap (λ (bs : List Binding). names ++ bs) (sym (enumerators_new read.items)))
      (record {
        valid = record {
          tagged = refl;
          listed = record { present = let a = enumerators_many read.items in let b = b.some in omega (arith, a, b); each = enumerators_valid most names read.items b.fine };
          own = let a = enumerators_many read.items in let b = b.count in omega (arith, a, b);
        };
        stands = enumerators_stand most names read.items b.fine;
        deep = let d = enumerators_deep most names read.items b.fine in omega (arith, d);
      }))))

  enum_sound : (line : ℕ) (tokens r1 : List Token) (names : List Binding) → tokens ≡ token (kind.Key keywords.Enum) line ∷ r1
      → Gives (enum_behind below line) (SpecStood (suc most) (at tokens names)) (at r1 names)
  unfolding enum_behind
  enum_sound line tokens r1 names e1 =
      on_test (shows_word (sight (at r1 names))) _ (λ _. enum_tagged_sound line tokens r1 names e1) (λ _. enum_untagged_sound line tokens r1 names e1)

  -- ---- specifiers

  spec_behind_sound : (w : Keyword) (line : ℕ) (tokens r1 : List Token) (names : List Binding) → tokens ≡ token (kind.Key w) line ∷ r1
      → Gives (spec_behind below w line) (SpecStood (suc most) (at tokens names)) (at r1 names)
  unfolding begins_tagged
  spec_behind_sound keywords.Struct line tokens r1 names e1 = record_sound false line tokens r1 names e1
  spec_behind_sound keywords.Union line tokens r1 names e1 = record_sound true line tokens r1 names e1
  spec_behind_sound keywords.Enum line tokens r1 names e1 = enum_sound line tokens r1 names e1
  spec_behind_sound w line tokens r1 names e1 = word_found most w line tokens r1 names refl e1

  key_spec_sound : (tokens : List Token) (names : List Binding) → Gives (key_spec below) (SpecStood (suc most) (at tokens names)) (at tokens names)
  unfolding key_spec
  key_spec_sound tokens names = on_keyword _ _ (λ k r1 e1. spec_behind_sound k.0 k.1 tokens r1 names e1)

  spec_by_sound : (s : Sight) (tokens : List Token) (names : List Binding) → sight_in names tokens ≡ s → Gives (spec_by below s) (SpecStood (suc most) (at tokens names)) (at tokens names)
  spec_by_sound sights.TypeWord tokens names is = typedef_sound most tokens names is
  spec_by_sound (sights.Key k) tokens names is = key_spec_sound tokens names
  spec_by_sound _ tokens names is = refused _

  pub spec_from_sound : (state : State) → Gives (spec_from below) (SpecStood (suc most) state) state
  unfolding spec_from
  spec_from_sound state = spec_by_sound (sight state) state.tokens state.names refl
