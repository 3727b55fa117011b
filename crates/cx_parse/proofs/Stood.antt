-- What it means that the readers of a record are exact: what they give stood in front (soundness), and what stands in front is
-- given (completeness).
use Rattle.std.proofs.Common.{◌≡◌, ℕ, ◌≤◌, ◌<◌, Bool, true, false, List, [], ◌∷◌, ◌++◌, Some}
use Rattle.std.specs.Prelude.{⊤, ◌⊎◌, IsTrue}
use Rattle.cx_cursor.specs.Reading.{State, at, Reader}
use Rattle.cx_cursor.proofs.Readers.{Gives, Took, token}
use Rattle.cx_cursor.specs.Sights.{sight, same_mark}
use Rattle.cx_expr.specs.Below.{Below, DeclaratorRead, declarator_read}
use Rattle.cx_words.specs.Continuations.{continuation_of_mark, strength}
use Rattle.cx_words.specs.Beginnings.{begins_declarator}
use Rattle.cx_words.specs.declared.form.Form.{Form}
use Rattle.cx_words.specs.declared.form.Form.TheVariants.{Named, Abstract, Parameter}
use Rattle.cx_lex.specs.declared.token.Punct.{Punct}
use Rattle.cx_lex.specs.declared.token.Punct.TheVariants as punct
use Rattle.cx_lex.specs.declared.token.Token.{Token}
use Rattle.cx_lex.specs.declared.token.TokenKind.TheVariants as kind
use Rattle.cx_tree.specs.Depth.{expr_depth, type_name_depth, spec_depth, member_decl_depth, member_declarator_depth, enumerator_depth, declarator_depth, param_depth, initialiser_depth, initialiser_list_depth, entry_depth, designator_depth}
use Rattle.cx_tree.specs.Levels.{unary_level, level}
use Rattle.cx_tree.specs.Names.{Binding, own_params, new_expr, new_type_name, new_spec, new_member_decl, new_member_declarator, new_enumerator, new_declarator, new_param, new_params, new_initialiser, new_initialiser_list, new_entry, new_designator, ExprStands, TypeNameStands, SpecStands, MemberDeclStands, MemberDeclaratorStands, EnumeratorStands, DeclaratorStands, ParamStands, InitialiserStands, InitialiserListStands, EntryStands, DesignatorStands}
use Rattle.cx_tree.specs.Tokens.{mark, expr_tokens, type_name_tokens, spec_tokens, member_decl_tokens, member_declarator_tokens, enumerator_tokens, declarator_tokens, param_tokens, initialiser_tokens, initialiser_list_tokens, entry_tokens, designator_tokens}
use Rattle.cx_tree.specs.Trees.{ExprTree, Literal, TypeNameTree, SpecTree, MemberDeclTree, MemberDeclaratorTree, EnumeratorTree, DeclaratorTree, ParamTree, InitialiserTree, InitialiserListTree, EntryTree, DesignatorTree, Name, Number, Letter, Text, Paren, Index, Call, Dot, Arrow, PostUp, PostDown, PreUp, PreDown, Unary, SizeofExpr, SizeofType, Cast, Binary, Cond, Assign, Comma}
use Rattle.cx_tree.specs.Valid.{At, Lines, has_name, is_present, IsValidExpr, IsValidTypeName, IsValidSpec, IsValidMemberDecl, IsValidMemberDeclarator, IsValidEnumerator, IsValidDeclarator, IsValidParam, IsValidInitialiser, IsValidInitialiserList, IsValidEntry, IsValidDesignator}

-- ---- trees that fit

-- a tree that is valid at its place, stands where these names are in scope, and is at most `most` nodes deep
pub record Fits (Valid Stands : Type 0) (depth most : ℕ) : Type 0 where
  pub valid : Valid
  pub stands : Stands
  pub deep : depth ≤ most

abbrev pub ExprFits : ℕ → ℕ → List Binding → ExprTree → Type 0
ExprFits most least names e = Fits (At (IsValidExpr e) (level e) least) (ExprStands names e) (expr_depth e) most

abbrev pub TypeNameFits : ℕ → List Binding → TypeNameTree → Type 0
TypeNameFits most names t = Fits (IsValidTypeName t) (TypeNameStands names t) (type_name_depth t) most

-- a specifier with no type specifier before it
abbrev pub SpecFits : ℕ → List Binding → SpecTree → Type 0
SpecFits most names s = Fits (IsValidSpec s) (SpecStands names false s) (spec_depth s) most

abbrev pub MemberDeclFits : ℕ → List Binding → MemberDeclTree → Type 0
MemberDeclFits most names m = Fits (IsValidMemberDecl m) (MemberDeclStands names m) (member_decl_depth m) most

abbrev pub MemberDeclaratorFits : ℕ → List Binding → MemberDeclaratorTree → Type 0
MemberDeclaratorFits most names m = Fits (IsValidMemberDeclarator m) (MemberDeclaratorStands names m) (member_declarator_depth m) most

abbrev pub EnumeratorFits : ℕ → List Binding → EnumeratorTree → Type 0
EnumeratorFits most names e = Fits (IsValidEnumerator e) (EnumeratorStands names e) (enumerator_depth e) most

abbrev pub ParamFits : ℕ → List Binding → ParamTree → Type 0
ParamFits most names p = Fits (IsValidParam p) (ParamStands names p) (param_depth p) most

abbrev pub InitialiserFits : ℕ → List Binding → InitialiserTree → Type 0
InitialiserFits most names i = Fits (IsValidInitialiser i) (InitialiserStands names i) (initialiser_depth i) most

abbrev pub ListFits : ℕ → List Binding → InitialiserListTree → Type 0
ListFits most names l = Fits (IsValidInitialiserList l) (InitialiserListStands names l) (initialiser_list_depth l) most

abbrev pub EntryFits : ℕ → List Binding → EntryTree → Type 0
EntryFits most names e = Fits (IsValidEntry e) (EntryStands names e) (entry_depth e) most

abbrev pub DesignatorFits : ℕ → List Binding → DesignatorTree → Type 0
DesignatorFits most names d = Fits (IsValidDesignator d) (DesignatorStands names d) (designator_depth d) most

abbrev pub is_parameter : Form → Bool
is_parameter Named = false
is_parameter Abstract = false
is_parameter Parameter = true

-- a declarator's name is there or not, as the place asks
abbrev pub IsNamed : Form → DeclaratorTree → Type 0
IsNamed Named d = has_name d ≡ true
IsNamed Abstract d = has_name d ≡ false
IsNamed Parameter d = ⊤

-- a valid declarator that isn't missing
pub record IsDeclarator (form : Form) (d : DeclaratorTree) : Type 0 where
  pub valid : IsValidDeclarator d
  pub present : IsTrue (is_present d)
  pub named : IsNamed form d

abbrev pub DeclaratorFits : ℕ → Form → List Binding → DeclaratorTree → Type 0
DeclaratorFits most form names d = Fits (IsDeclarator form d) (DeclaratorStands (is_parameter form) names d) (declarator_depth d) most

-- ---- soundness

-- What was read stood in front, its names came into scope, and it fits.
pub record Stood (tokens : List Token) (new : List Binding) (Fit : Type 0) (state after : State) : Type 0 where
  pub took : Took tokens new state after
  pub fits : Fit

abbrev pub ExprStood : ℕ → ℕ → State → ExprTree → State → Type 0
ExprStood most least state e after = Stood (expr_tokens e) (new_expr e) (ExprFits most least state.names e) state after

abbrev pub TypeNameStood : ℕ → State → TypeNameTree → State → Type 0
TypeNameStood most state t after = Stood (type_name_tokens t) (new_type_name t) (TypeNameFits most state.names t) state after

abbrev pub SpecStood : ℕ → State → SpecTree → State → Type 0
SpecStood most state s after = Stood (spec_tokens s) (new_spec s) (SpecFits most state.names s) state after

abbrev pub MemberDeclStood : ℕ → State → MemberDeclTree → State → Type 0
MemberDeclStood most state m after = Stood (member_decl_tokens m) (new_member_decl m) (MemberDeclFits most state.names m) state after

abbrev pub MemberDeclaratorStood : ℕ → State → MemberDeclaratorTree → State → Type 0
MemberDeclaratorStood most state m after = Stood (member_declarator_tokens m) (new_member_declarator m) (MemberDeclaratorFits most state.names m) state after

abbrev pub EnumeratorStood : ℕ → State → EnumeratorTree → State → Type 0
EnumeratorStood most state e after = Stood (enumerator_tokens e) (new_enumerator e) (EnumeratorFits most state.names e) state after

abbrev pub ParamStood : ℕ → State → ParamTree → State → Type 0
ParamStood most state p after = Stood (param_tokens p) (new_param p) (ParamFits most state.names p) state after

abbrev pub InitialiserStood : ℕ → State → InitialiserTree → State → Type 0
InitialiserStood most state i after = Stood (initialiser_tokens i) (new_initialiser i) (InitialiserFits most state.names i) state after

abbrev pub ListStood : ℕ → State → InitialiserListTree → State → Type 0
ListStood most state l after = Stood (initialiser_list_tokens l) (new_initialiser_list l) (ListFits most state.names l) state after

abbrev pub EntryStood : ℕ → State → EntryTree → State → Type 0
EntryStood most state e after = Stood (entry_tokens e) (new_entry e) (EntryFits most state.names e) state after

abbrev pub DesignatorStood : ℕ → State → DesignatorTree → State → Type 0
DesignatorStood most state d after = Stood (designator_tokens d) (new_designator d) (DesignatorFits most state.names d) state after

-- A declarator, and what the parameters of its own function leave in scope. In a form without a name it may be missing where none
-- begins.
pub record DeclaratorStood (most : ℕ) (form : Form) (state : State) (d : DeclaratorRead) (after : State) : Type 0 where
  pub stood : Stood (declarator_tokens d.tree) (new_declarator d.tree)
      (Fits (IsValidDeclarator d.tree) (DeclaratorStands (is_parameter form) state.names d.tree) (declarator_depth d.tree) most) state after
  pub named : IsNamed form d.tree
  pub present : begins_declarator form (sight state) ≡ true → IsTrue (is_present d.tree)
  pub own : d.own ≡ new_params (own_params d.tree)

-- a type name in parentheses, of any depth, with the lines of these
pub record TypeStood (type : TypeNameTree) (lines : List ℕ) (state after : State) : Type 0 where
  pub took : Took (mark lines 0 punct.LeftParenthesis ∷ (type_name_tokens type ++ mark lines 1 punct.RightParenthesis ∷ [])) (new_type_name type) state after
  pub valid : IsValidTypeName type
  pub stands : TypeNameStands state.names type
  pub own : Lines lines 2

-- Each reader of `below` is sound: what it gives stood in front, and is at most `most` nodes deep.
pub record AllSound (below : Below) (most : ℕ) : Type 0 where
  pub expr : (least : ℕ) (state : State) → least ≤ unary_level → Gives (below.expr least) (ExprStood most least state) state
  pub literal : (type : TypeNameTree) (lines : List ℕ) (start state : State) → TypeStood type lines start state
      → Gives (below.literal type lines) (ExprStood most unary_level start) state
  pub type_name : (state : State) → Gives below.type_name (TypeNameStood most state) state
  pub spec : (state : State) → Gives below.spec (SpecStood most state) state
  pub member : (state : State) → Gives below.member (MemberDeclStood most state) state
  pub member_declarator : (state : State) → Gives below.member_declarator (MemberDeclaratorStood most state) state
  pub enumerator : (state : State) → Gives below.enumerator (EnumeratorStood most state) state
  pub declarator : (form : Form) (state : State) → Gives (below.declarator form) (DeclaratorStood most form state) state
  pub param : (state : State) → Gives below.param (ParamStood most state) state
  pub list : (state : State) → Gives below.list (ListStood most state) state
  pub entry : (state : State) → Gives below.entry (EntryStood most state) state
  pub designator : (state : State) → Gives below.designator (DesignatorStood most state) state

-- ---- completeness

-- a mark stands in front
pub record BeginsMark (rest : List Token) : Type 0 where
  pub punct : Punct
  pub line : ℕ
  pub more : List Token
  pub is : rest ≡ token (kind.Mark punct) line ∷ more

-- What stands behind an expression that was asked for at this level: a mark that doesn't continue it at that level, and no `{`.
pub record EndsExpr (least : ℕ) (rest : List Token) : Type 0 where
  pub front : BeginsMark rest
  pub weak : strength (continuation_of_mark front.punct) < least
  pub no_brace : same_mark front.punct punct.LeftBrace ≡ false

-- What stands behind a declarator: a mark that neither goes on with it nor begins one.
pub record EndsDeclarator (rest : List Token) : Type 0 where
  pub front : BeginsMark rest
  pub no_star : same_mark front.punct punct.Star ≡ false
  pub no_parenthesis : same_mark front.punct punct.LeftParenthesis ≡ false
  pub no_bracket : same_mark front.punct punct.LeftBracket ≡ false

-- one of two marks stands in front
pub record EndsAt (one other : Punct) (rest : List Token) : Type 0 where
  pub front : BeginsMark rest
  pub among : (front.punct ≡ one) ⊎ (front.punct ≡ other)

-- no `{` stands in front
abbrev pub NoBrace : List Token → Type 0
NoBrace [] = ⊤
NoBrace (t ∷ rest) = (line : ℕ) → t ≡ token (kind.Mark punct.LeftBrace) line → ⊥

-- the reader takes these tokens, brings these names into scope, and gives this
abbrev pub Reads : {A : Type 0} → Reader A → List Token → List Binding → A → List Binding → List Token → Type 0
Reads {A} read front new a names rest = read (at (front ++ rest) names) ≡ Some (a, at rest (names ++ new))

-- what an expression begins with, before anything continues it
abbrev pub left_edge : ExprTree → ExprTree
left_edge (Index of index lines) = left_edge of
left_edge (Call of args lines) = left_edge of
left_edge (Dot of member lines) = left_edge of
left_edge (Arrow of member lines) = left_edge of
left_edge (PostUp of lines) = left_edge of
left_edge (PostDown of lines) = left_edge of
left_edge (Binary left op right lines) = left_edge left
left_edge (Cond condition if_true if_false lines) = left_edge condition
left_edge (Assign left op right lines) = left_edge left
left_edge (Comma left right lines) = left_edge left
left_edge (Name name lines) = Name name lines
left_edge (Number value ty lines) = Number value ty lines
left_edge (Letter value lines) = Letter value lines
left_edge (Text parts lines) = Text parts lines
left_edge (Paren inner lines) = Paren inner lines
left_edge (Literal of list lines) = Literal of list lines
left_edge (PreUp on lines) = PreUp on lines
left_edge (PreDown on lines) = PreDown on lines
left_edge (Unary op on lines) = Unary op on lines
left_edge (SizeofExpr on lines) = SizeofExpr on lines
left_edge (SizeofType of lines) = SizeofType of lines
left_edge (Cast to on lines) = Cast to on lines

-- an expression that begins with a compound literal, and its tokens and names from behind the type name in parentheses on
pub record BeginsLiteral (e : ExprTree) (type : TypeNameTree) (lines : List ℕ) (behind : List Token) (new : List Binding) : Type 0 where
  pub list : InitialiserListTree
  pub edge : left_edge e ≡ Literal type list lines
  pub tokens : expr_tokens e ≡ mark lines 0 punct.LeftParenthesis ∷ (type_name_tokens type ++ (mark lines 1 punct.RightParenthesis ∷ behind))
  pub names : new_expr e ≡ new_type_name type ++ new

-- Each reader of `below` is complete: what fits, at most `most` nodes deep, is read where what stands behind it doesn't continue it.
pub record AllRead (below : Below) (most : ℕ) : Type 0 where
  pub expr : (e : ExprTree) (least : ℕ) (names : List Binding) (rest : List Token) → 1 ≤ least → least ≤ unary_level → ExprFits most least names e → EndsExpr least rest
      → Reads (below.expr least) (expr_tokens e) (new_expr e) e names rest
  pub literal : (e : ExprTree) (type : TypeNameTree) (lines : List ℕ) (behind : List Token) (new names : List Binding) (rest : List Token)
      → BeginsLiteral e type lines behind new → ExprFits most unary_level names e → EndsExpr unary_level rest
      → Reads (below.literal type lines) behind new e (names ++ new_type_name type) rest
  pub type_name : (t : TypeNameTree) (names : List Binding) (rest : List Token) → TypeNameFits most names t → EndsDeclarator rest → NoBrace rest
      → Reads below.type_name (type_name_tokens t) (new_type_name t) t names rest
  pub spec : (s : SpecTree) (names : List Binding) (rest : List Token) → SpecFits most names s → NoBrace rest
      → Reads below.spec (spec_tokens s) (new_spec s) s names rest
  pub member : (m : MemberDeclTree) (names : List Binding) (rest : List Token) → MemberDeclFits most names m
      → Reads below.member (member_decl_tokens m) (new_member_decl m) m names rest
  pub member_declarator : (m : MemberDeclaratorTree) (names : List Binding) (rest : List Token) → MemberDeclaratorFits most names m → EndsAt punct.Comma punct.Semicolon rest
      → Reads below.member_declarator (member_declarator_tokens m) (new_member_declarator m) m names rest
  pub enumerator : (e : EnumeratorTree) (names : List Binding) (rest : List Token) → EnumeratorFits most names e → EndsAt punct.Comma punct.RightBrace rest
      → Reads below.enumerator (enumerator_tokens e) (new_enumerator e) e names rest
  pub declarator : (form : Form) (d : DeclaratorTree) (names : List Binding) (rest : List Token) → DeclaratorFits most form names d → EndsDeclarator rest
      → Reads (below.declarator form) (declarator_tokens d) (new_declarator d) (declarator_read d (new_params (own_params d))) names rest
  pub param : (p : ParamTree) (names : List Binding) (rest : List Token) → ParamFits most names p → EndsAt punct.Comma punct.RightParenthesis rest
      → Reads below.param (param_tokens p) (new_param p) p names rest
  pub list : (l : InitialiserListTree) (names : List Binding) (rest : List Token) → ListFits most names l
      → Reads below.list (initialiser_list_tokens l) (new_initialiser_list l) l names rest
  pub entry : (e : EntryTree) (names : List Binding) (rest : List Token) → EntryFits most names e → EndsAt punct.Comma punct.RightBrace rest
      → Reads below.entry (entry_tokens e) (new_entry e) e names rest
  pub designator : (d : DesignatorTree) (names : List Binding) (rest : List Token) → DesignatorFits most names d
      → Reads below.designator (designator_tokens d) (new_designator d) d names rest
