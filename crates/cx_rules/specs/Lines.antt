-- The line of the first token of a part of a unit.
use Rattle.std.specs.Prelude.{ℕ, List, get_or}
use Rattle.cx_tree.specs.Trees.{ExprTree, Name, Number, Letter, Text, Paren, Index, Call, Dot, Arrow, PostUp, PostDown, Literal, PreUp, PreDown, Unary, SizeofExpr, SizeofType, Cast, Binary, Cond, Assign, Comma, TypeNameTree, TypeName, SpecTree, Key, Typedef, Record, Enum, SpecTrees, no_specs, more_specs, DeclaratorTree, Missing, Identifier, Group, Pointer, Array, Function, Identifiers, InitialiserTree, Single, Braced, InitialiserListTree, InitialiserList, DesignatorTree, Element, Member}

-- the line of a node's own token, of which there is at least one
abbrev pub own_line : List ℕ → ℕ
own_line lines = get_or lines 0 0

abbrev pub expr_line : ExprTree → ℕ
expr_line (Name name lines) = own_line lines
expr_line (Number value ty lines) = own_line lines
expr_line (Letter value lines) = own_line lines
expr_line (Text parts lines) = own_line lines
expr_line (Paren inner lines) = own_line lines
expr_line (Index of index lines) = expr_line of
expr_line (Call of args lines) = expr_line of
expr_line (Dot of member lines) = expr_line of
expr_line (Arrow of member lines) = expr_line of
expr_line (PostUp of lines) = expr_line of
expr_line (PostDown of lines) = expr_line of
expr_line (Literal of list lines) = own_line lines
expr_line (PreUp on lines) = own_line lines
expr_line (PreDown on lines) = own_line lines
expr_line (Unary op on lines) = own_line lines
expr_line (SizeofExpr on lines) = own_line lines
expr_line (SizeofType of lines) = own_line lines
expr_line (Cast to on lines) = own_line lines
expr_line (Binary left op right lines) = expr_line left
expr_line (Cond condition if_true if_false lines) = expr_line condition
expr_line (Assign left op right lines) = expr_line left
expr_line (Comma left right lines) = expr_line left

abbrev pub spec_line : SpecTree → ℕ
spec_line (Key word lines) = own_line lines
spec_line (Typedef name lines) = own_line lines
spec_line (Record is_union tag _ lines) = own_line lines
spec_line (Enum tag list last_comma lines) = own_line lines

-- specifiers, of which there is at least one
abbrev pub specs_line : SpecTrees → ℕ
specs_line no_specs = 0
specs_line (more_specs first others) = spec_line first

abbrev pub type_name_line : TypeNameTree → ℕ
type_name_line (TypeName specs declarator lines) = specs_line specs

-- a declarator, or where it is missing what follows it or stands before it
abbrev pub declarator_line : (missing : ℕ) → DeclaratorTree → ℕ
declarator_line missing Missing = missing
declarator_line missing (Identifier name lines) = own_line lines
declarator_line missing (Group inner lines) = own_line lines
declarator_line missing (Pointer qualifiers of lines) = own_line lines
declarator_line missing (Array of brackets lines) = declarator_line (own_line lines) of
declarator_line missing (Function of _ variadic lines) = declarator_line (own_line lines) of
declarator_line missing (Identifiers of names lines) = declarator_line (own_line lines) of

abbrev pub list_line : InitialiserListTree → ℕ
list_line (InitialiserList _ last_comma lines) = own_line lines

abbrev pub initialiser_line : InitialiserTree → ℕ
initialiser_line (Single value) = expr_line value
initialiser_line (Braced list) = list_line list

abbrev pub designator_line : DesignatorTree → ℕ
designator_line (Element at lines) = own_line lines
designator_line (Member name lines) = own_line lines
