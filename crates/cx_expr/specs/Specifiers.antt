-- The readers of specifiers, members and enumerators (ISO C99, 6.7 to 6.7.3).
use Rattle.std.specs.Prelude.{ℕ, Bool, true, false, not, ◌||◌, ◌&&◌, if◌then◌else◌, List, [], ◌∷◌, ◌++◌, Option, Some, None}
use Rattle.cx_cursor.specs.Lists.{ListRead, list_read, many_ahead, taking, next_item, behind_commas}
use Rattle.cx_cursor.specs.Reading.{State, Reader, bind, ◌>>=◌, pure, refuse, declaring}
use Rattle.cx_cursor.specs.Scopes.{binding}
use Rattle.cx_cursor.specs.Sights.{sight, sight_behind, shows_mark, shows_word, sees_mark, mark, word, keyword}
use Rattle.cx_cursor.specs.declared.sight.Sight.{Sight}
use Rattle.cx_cursor.specs.declared.sight.Sight.TheVariants as sights
use Rattle.cx_expr.specs.Below.{Below}
use Rattle.cx_words.specs.declared.form.Form.TheVariants.{Named}
use Rattle.cx_lex.specs.declared.token.Keyword.{Keyword}
use Rattle.cx_lex.specs.declared.token.Keyword.TheVariants as keywords
use Rattle.cx_lex.specs.declared.token.Punct.TheVariants.{LeftBrace, RightBrace, Comma, Semicolon, Colon, Equal}
use Rattle.cx_tree.specs.Levels.{conditional_level}
use Rattle.cx_tree.specs.Names.{is_type_specifier}
use Rattle.cx_tree.specs.Trees.{no_expr, some_expr, SpecTree, Key, Typedef, Record, Enum, no_members, some_members, MemberDeclTree, MemberDecl, DeclaratorTree, Missing, MemberDeclaratorTree, MemberDeclarator, EnumeratorTree, Enumerator, no_enumerator_list, some_enumerator_list}
use Rattle.cx_tree.specs.Views.{specs, member_decls, member_declarators, enumerators}
use Rattle.cx_tree.specs.Words.{is_type_word, is_qualifier, is_storage_class, is_function_specifier}
use Rattle.cx_words.specs.Beginnings.{begins_spec, shows_spec}

-- the specifiers so far, and whether a type specifier is among them
pub record SpecsRead : Type 0 where
  pub list : List SpecTree
  pub typed : Bool

abbrev pub specs_read : List SpecTree → Bool → SpecsRead
specs_read list typed = record { list = list; typed = typed }

abbrev pub with_spec : SpecsRead → SpecTree → SpecsRead
with_spec all next = record { list = all.list ++ next ∷ []; typed = all.typed || is_type_specifier next }

abbrev pub stops_specs : Bool → SpecsRead → State → Bool
stops_specs all read state = not (shows_spec all read.typed (sight state))

-- the name of an enumerator
abbrev pub name_of : EnumeratorTree → List ℕ
name_of (Enumerator name value lines) = name

-- ---- lists in braces

abbrev pub no_brace : {A : Type 0} → A → State → Bool
no_brace all state = sees_mark RightBrace state

abbrev pub with_member : List MemberDeclTree → MemberDeclTree → List MemberDeclTree
with_member all next = all ++ next ∷ []

-- no further enumerator: no comma stands ahead, or a brace behind it
abbrev pub no_further : {A : Type 0} → A → State → Bool
no_further all state = not (sees_mark Comma state) || shows_mark RightBrace (sight_behind state)

-- What was read of a list in braces: the items, whether a comma stands behind the last one, and the lines
pub record BracedRead (A : Type 0) : Type 0 where
  pub items : List A
  pub last_comma : Bool
  pub marks : List ℕ

abbrev pub braced_read : {A : Type 0} → List A → Bool → List ℕ → BracedRead A
braced_read items last_comma marks = record { items = items; last_comma = last_comma; marks = marks }

-- the end of a list in braces, behind its items
unfoldable pub closing_brace : {A : Type 0} → ListRead A → Reader (BracedRead A)
closing_brace all state =
    if sees_mark Comma state
    then bind (mark Comma) (λ comma. mark RightBrace >>= (λ last. pure (braced_read all.list true (all.lines ++ comma ∷ last ∷ [])))) state
    else bind (mark RightBrace) (λ last. pure (braced_read all.list false (all.lines ++ last ∷ []))) state

-- a brace, and one item or more with commas between them; with the lines behind those given
unfoldable pub items_in : {A : Type 0} → Reader A → List ℕ → Reader (ListRead A)
items_in item lines = mark LeftBrace >>= (λ first. item >>= (λ one.
    many_ahead no_further (next_item item) (list_read (one ∷ []) (lines ++ first ∷ []))))

-- one item or more in braces, with commas between them, and perhaps one behind the last; with the lines behind those given
unfoldable pub braced : {A : Type 0} → Reader A → List ℕ → Reader (BracedRead A)
braced item lines = items_in item lines >>= (λ all. closing_brace all)

abbrev pub record_with : Bool → Option (List ℕ) → ListRead MemberDeclTree → SpecTree
record_with is_union tag list = Record is_union tag (some_members (member_decls list.list)) list.lines

abbrev pub enum_with : Option (List ℕ) → BracedRead EnumeratorTree → SpecTree
enum_with tag read = Enum tag (some_enumerator_list (enumerators read.items)) read.last_comma read.marks

unfoldable pub typedef_spec : Reader SpecTree
typedef_spec = word >>= (λ w. pure (Typedef w.0 (w.1 ∷ [])))

module _ (below : Below) where
  -- One specifier or more, each at most so deep as `below` reads; `all`: of any declaration, with storage classes and `inline`.
  unfoldable pub specs_from : Bool → Reader SpecsRead
  specs_from all state =
      if stops_specs all (specs_read [] false) state then None
      else many_ahead (stops_specs all) (taking below.spec with_spec) (specs_read [] false) state

  -- ---- records (6.7.2.1)

  -- one member or more in braces: the members, and the lines of the braces behind those given
  unfoldable pub members : List ℕ → Reader (ListRead MemberDeclTree)
  members lines = mark LeftBrace >>= (λ first. taking below.member with_member [] >>= (λ one.
      many_ahead no_brace (taking below.member with_member) one >>= (λ list. mark RightBrace >>= (λ last.
      pure (list_read list (lines ++ first ∷ last ∷ []))))))

  -- what stands behind `struct` or `union` and a tag, where members may be missing
  unfoldable pub record_tagged : Bool → ℕ → Reader SpecTree
  record_tagged is_union line = word >>= (λ tag. λ state.
      if sees_mark LeftBrace state
      then bind (members (line ∷ tag.1 ∷ [])) (λ list. pure (record_with is_union (Some tag.0) list)) state
      else Some (Record is_union (Some tag.0) no_members (line ∷ tag.1 ∷ []), state))

  unfoldable pub record_untagged : Bool → ℕ → Reader SpecTree
  record_untagged is_union line = members (line ∷ []) >>= (λ list. pure (record_with is_union None list))

  unfoldable pub record_behind : Bool → ℕ → Reader SpecTree
  record_behind is_union line state = if shows_word (sight state) then record_tagged is_union line state else record_untagged is_union line state

  -- ---- enumerations (6.7.2.2)

  unfoldable pub enum_tagged : ℕ → Reader SpecTree
  enum_tagged line = word >>= (λ tag. λ state.
      if sees_mark LeftBrace state
      then bind (braced below.enumerator (line ∷ tag.1 ∷ [])) (λ read. pure (enum_with (Some tag.0) read)) state
      else Some (Enum (Some tag.0) no_enumerator_list false (line ∷ tag.1 ∷ []), state))

  unfoldable pub enum_untagged : ℕ → Reader SpecTree
  enum_untagged line = braced below.enumerator (line ∷ []) >>= (λ read. pure (enum_with None read))

  unfoldable pub enum_behind : ℕ → Reader SpecTree
  enum_behind line state = if shows_word (sight state) then enum_tagged line state else enum_untagged line state

  -- ---- specifiers

  -- what stands behind a keyword that begins a specifier
  abbrev pub spec_behind : Keyword → ℕ → Reader SpecTree
  spec_behind keywords.Struct line = record_behind false line
  spec_behind keywords.Union line = record_behind true line
  spec_behind keywords.Enum line = enum_behind line
  spec_behind word line = if begins_spec true word then pure (Key word (line ∷ [])) else refuse

  unfoldable pub key_spec : Reader SpecTree
  key_spec = keyword >>= (λ k. spec_behind k.0 k.1)

  abbrev pub spec_by : Sight → Reader SpecTree
  spec_by sights.TypeWord = typedef_spec
  spec_by (sights.Key _) = key_spec
  spec_by _ = refuse

  -- a specifier
  unfoldable pub spec_from : Reader SpecTree
  spec_from state = spec_by (sight state) state

  -- ---- members and enumerators

  -- one declarator of a member or more, with commas between them
  unfoldable pub declarators : Reader (ListRead MemberDeclaratorTree)
  declarators = below.member_declarator >>= (λ one. behind_commas below.member_declarator (list_read (one ∷ []) []))

  -- a declaration of members
  unfoldable pub member_from : Reader MemberDeclTree
  member_from = specs_from false >>= (λ s. declarators >>= (λ all. mark Semicolon >>= (λ last.
      pure (MemberDecl (specs s.list) (member_declarators all.list) (all.lines ++ last ∷ [])))))

  -- the width of a bit-field
  unfoldable pub width_of : DeclaratorTree → Reader MemberDeclaratorTree
  width_of declarator = mark Colon >>= (λ line. below.expr conditional_level >>= (λ width. pure (MemberDeclarator declarator (some_expr width) (line ∷ []))))

  unfoldable pub behind_member : DeclaratorTree → Reader MemberDeclaratorTree
  behind_member declarator state = if sees_mark Colon state then width_of declarator state else Some (MemberDeclarator declarator no_expr [], state)

  unfoldable pub member_declarator_from : Reader MemberDeclaratorTree
  member_declarator_from state =
      if sees_mark Colon state then width_of Missing state
      else bind (below.declarator Named) (λ d. behind_member d.tree) state

  -- an enumerator, which is in scope behind itself (6.2.1p7)
  unfoldable pub enumerator_value : List ℕ → ℕ → Reader EnumeratorTree
  enumerator_value name line = mark Equal >>= (λ equal. below.expr conditional_level >>= (λ value.
      declaring (binding name false ∷ []) (Enumerator name (some_expr value) (line ∷ equal ∷ []))))

  unfoldable pub enumerator_from : Reader EnumeratorTree
  enumerator_from = word >>= (λ name. λ state.
      if sees_mark Equal state then enumerator_value name.0 name.1 state
      else declaring (binding name.0 false ∷ []) (Enumerator name.0 no_expr (name.1 ∷ [])) state)
