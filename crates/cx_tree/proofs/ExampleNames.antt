-- Worked examples that compute: names in scope, and which tree tokens derive by them.
use Rattle.std.proofs.Common.{◌≡◌, ℕ, List, [], ◌∷◌, ◌++◌, true, false, Some, None, codes, refl, lit≤, bytes_eq, arith}
use Rattle.cx_lex.specs.declared.token.Keyword.{Keyword}
use Rattle.cx_lex.specs.declared.token.Keyword.TheVariants as keyword
use Rattle.cx_lex.specs.declared.token.Punct.{Punct}
use Rattle.cx_lex.specs.declared.token.Punct.TheVariants as punct
use Rattle.cx_lex.specs.declared.token.Token.{Token}
use Rattle.cx_lex.specs.declared.token.TokenKind.{TokenKind}
use Rattle.cx_lex.specs.declared.token.TokenKind.TheVariants as kind
use Rattle.cx_lex.specs.declared.token.Ty0.TheVariants as ty
use Rattle.cx_tree.specs.Depth.{unit_depth}
use Rattle.cx_tree.specs.Derives.{Derives}
use Rattle.cx_tree.specs.Levels.{binary_level, is_unary_operator}
use Rattle.cx_tree.specs.Names.{Binding, is_type, new_expr, ExprStands, StmtStands, ParamStands, DeclStands, DefinitionStands, UnitStands}
use Rattle.cx_tree.specs.Tokens.{unit_tokens, stmt_tokens}
use Rattle.cx_tree.specs.Trees.{ExprTree, Name, Number, Paren, SizeofType, Unary, Cast, Binary, Comma, some_expr, no_expr, TypeNameTree, TypeName, SpecTrees, Key, Typedef, Enum, no_specs, more_specs, Enumerator, no_enumerators, more_enumerators, some_enumerator_list, DeclaratorTree, Missing, Identifier, Group, Pointer, Function, ParamTree, Param, no_params, more_params, DeclTree, StmtTree, Block, ExprStmt, If, Return, no_stmt, some_stmt, Statement, no_items, more_items, DefinitionTree, Defined, Declaration, UnitTree}
use Rattle.cx_tree.specs.Valid.{OneOrMore, AreValidSpecs, IsValidDeclarator, IsValidExpr, IsValidStmt}
use Rattle.cx_tree.specs.Words.{is_storage_class, is_type_word, is_qualifier, is_function_specifier, is_typedef_word}

-- every token of these examples stands on line 1
abbrev one : List ℕ
one = 1 ∷ []

abbrev two : List ℕ
two = 1 ∷ one

abbrev three : List ℕ
three = 1 ∷ two

abbrev on_one : TokenKind → Token
on_one k = record { kind = k; line = 1 }

abbrev number : ExprTree
number = Number 1 ty.Int one

abbrev t : List ℕ
t = codes "T"

abbrev int : SpecTrees
int = more_specs (Key keyword.Int one) no_specs

-- `T` as a typedef name
abbrev type_t : SpecTrees
type_t = more_specs (Typedef t one) no_specs

abbrev key : Keyword → Token
key word = on_one (kind.Key word)

abbrev mark : Punct → Token
mark punct = on_one (kind.Mark punct)

abbrev word : List ℕ → Token
word name = on_one (kind.Word name)

-- ---- `( T ) - 1`, as a subtraction and as a cast

abbrev subtraction : ExprTree
subtraction = Binary (Paren (Name t one) two) punct.Minus number one

abbrev cast : ExprTree
cast = Cast (TypeName type_t Missing []) (Unary punct.Minus number one) two

-- ---- `typedef int T ; int f ( int T ) { return ( T ) - 1 ; } int g ( int x ) { return ( T ) - 1 ; }`

abbrev typedef_t : DeclTree
typedef_t = record {
  specs = more_specs (Key keyword.Typedef one) int;
  list = record { declarator = Identifier t one; init = None; lines = [] } ∷ [];
  lines = one;
}

abbrev function : List ℕ → List ℕ → DeclaratorTree
function name param = Function (Identifier name one) (more_params (Param int (Identifier param one) []) no_params) false two

-- a function of one parameter, which returns this
abbrev returning : List ℕ → List ℕ → ExprTree → DefinitionTree
returning name param value = record {
  specs = int;
  declarator = function name param;
  body = Block (more_items (Statement (Return (some_expr value) two)) no_items) two;
  lines = [];
}

abbrev hidden : UnitTree
hidden = record {
  parts = Declaration typedef_t ∷ Defined (returning (codes "f") t subtraction) ∷ Defined (returning (codes "g") (codes "x") cast) ∷ [];
  lines = [];
}

-- `return ( T ) - 1 ; }`
abbrev tail : List Token
tail = key keyword.Return ∷ mark punct.LeftParenthesis ∷ word t ∷ mark punct.RightParenthesis ∷ mark punct.Minus ∷ on_one (kind.Number 1 ty.Int)
    ∷ mark punct.Semicolon ∷ mark punct.RightBrace ∷ []

-- `int NAME ( int PARAM ) { return ( T ) - 1 ; }`
abbrev text_of : List ℕ → List ℕ → List Token
text_of name param =
    key keyword.Int ∷ word name ∷ mark punct.LeftParenthesis ∷ key keyword.Int ∷ word param ∷ mark punct.RightParenthesis ∷ mark punct.LeftBrace ∷ tail

abbrev text : List Token
text = key keyword.Typedef ∷ key keyword.Int ∷ word t ∷ mark punct.Semicolon ∷ (text_of (codes "f") t ++ text_of (codes "g") (codes "x"))

-- ---- which is derived

abbrev int_valid : OneOrMore 1 (AreValidSpecs int)
unfolding is_storage_class is_type_word is_qualifier is_function_specifier
int_valid = record { present = lit≤ tt; each = (record { part = refl; own = refl }, tt) }

abbrev subtraction_valid : IsValidExpr subtraction
unfolding binary_level
subtraction_valid = record {
  operator = lit≤ tt;
  left = record { valid = record { part = record { valid = refl; level = lit≤ tt }; own = refl }; level = lit≤ tt };
  right = record { valid = refl; level = lit≤ tt };
  own = refl;
}

abbrev cast_valid : IsValidExpr cast
unfolding is_unary_operator
cast_valid = record {
  first = record { specs = record { present = lit≤ tt; each = (refl, tt) }; declarator = tt; fits = refl; own = refl };
  second = record { valid = record { operator = refl; operand = record { valid = refl; level = lit≤ tt }; own = refl }; level = lit≤ tt };
  own = refl;
}

abbrev f_valid : (name param : List ℕ) → IsValidDeclarator (function name param)
f_valid name param = record {
  of = refl;
  direct = refl;
  behind = record { present = lit≤ tt; each = (record { specs = int_valid; declarator = refl; fits = tt; own = refl }, tt) };
  own = refl;
}

-- a typedef name that a parameter hides is an object in the body: a subtraction there, and a cast in the next function
pub hidden_derived : Derives text hidden
unfolding binary_level is_unary_operator is_storage_class is_type_word is_qualifier is_function_specifier is_typedef_word
hidden_derived = record {
  valid = record {
    part = record {
      present = lit≤ tt;
      each = (
        record {
          first = record { present = lit≤ tt; each = (record { part = refl; own = refl }, (record { part = refl; own = refl }, tt)) };
          second = (record { declarator = refl; fits = refl; behind = tt; own = refl }, tt);
          own = refl;
        },
        (
          record {
            specs = int_valid;
            declarator = f_valid (codes "f") t;
            named = refl;
            body = record { part = (record { part = record { valid = subtraction_valid; level = lit≤ tt }; own = refl }, tt); own = refl };
            block = refl;
            own = refl;
          },
          (
            record {
              specs = int_valid;
              declarator = f_valid (codes "g") (codes "x");
              named = refl;
              body = record { part = (record { part = record { valid = cast_valid; level = lit≤ tt }; own = refl }, tt); own = refl };
              block = refl;
              own = refl;
            },
            tt,
          ),
        ),
      );
    };
    own = refl;
  };
  depth = lit≤ tt;
  stands = (
    record { specs = (tt, (tt, tt)); behind = tt; declared = ((tt, tt), tt) },
    (
      record { specs = (tt, tt); behind = tt; declarator = (tt, (record { specs = (tt, tt); behind = tt; declared = tt }, tt)); body = ((refl, tt), tt) },
      (
        record {
          specs = (tt, tt);
          behind = tt;
          declarator = (tt, (record { specs = (tt, tt); behind = tt; declared = tt }, tt));
          body = ((record { specs = ((refl, refl), tt); behind = tt; declared = tt }, tt), tt);
        },
        tt,
      ),
    ),
  );
  spelled = refl;
}

-- ---- the other readings don't stand

abbrev a_type : List Binding
a_type = record { name = t; is_type = true } ∷ []

-- `T` where an object hides the typedef name
abbrev hidden_type : List Binding
hidden_type = record { name = t; is_type = true } ∷ record { name = t; is_type = false } ∷ []

pub no_subtraction : ExprStands a_type subtraction → ⊥
no_subtraction v = let e : true ≡ false = v.0 in cc

pub no_cast : ExprStands hidden_type cast → ⊥
no_cast v = let e : false ≡ true = v.0.specs.0.0 in cc

-- `const T ;` declares no `T`: a typedef name behind specifiers without a type specifier is one of them
abbrev const : SpecTrees
const = more_specs (Key keyword.Const one) no_specs

abbrev const_t : DeclTree
const_t = record { specs = const; list = record { declarator = Identifier t one; init = None; lines = [] } ∷ []; lines = one }

pub no_const_t : DeclStands a_type const_t → ⊥
unfolding is_type_word
no_const_t v = let e : true ≡ false = v.behind in cc

-- and `const T` as two specifiers stands
pub const_type_t : DeclStands a_type (record { specs = more_specs (Key keyword.Const one) type_t; list = []; lines = one })
unfolding is_type_word
const_type_t = record { specs = (tt, ((refl, refl), tt)); behind = tt; declared = tt }

-- in a parameter `int ( T )` is a function of a `T` (6.7.5.3p11), in a declaration it declares `T`
pub no_group : ParamStands a_type (Param int (Group (Identifier t one) two) []) → ⊥
no_group v = let e : true ≡ false = v.declared.0 in cc

pub function_of_t : ParamStands a_type (Param int (Function Missing (more_params (Param type_t Missing []) no_params) false two) [])
unfolding is_type_word
function_of_t = record { specs = (tt, tt); behind = tt; declared = (tt, (record { specs = ((refl, refl), tt); behind = tt; declared = tt }, tt)) }

pub group_declared : DeclStands a_type (record { specs = int; list = record { declarator = Group (Identifier t one) two; init = None; lines = [] } ∷ []; lines = one })
unfolding is_type_word
group_declared = record { specs = (tt, tt); behind = tt; declared = (((tt, tt), tt), tt) }

-- ---- scopes

-- `sizeof ( enum { T } )`
abbrev enumerated : ExprTree
enumerated = SizeofType
    (TypeName (more_specs (Enum None (some_enumerator_list (more_enumerators (Enumerator t no_expr one) no_enumerators)) false three) no_specs) Missing []) three

-- an enumerator hides the typedef name from its own end on, in the same expression too
pub enumerator_hides : ExprStands a_type (Comma enumerated subtraction one)
enumerator_hides = (record { specs = ((tt, tt), tt); behind = tt; declared = tt }, (refl, tt))

-- its own value doesn't see it: `enum { T = ( T ) - 1 }` has a cast
pub value_before : ExprStands a_type
    (SizeofType (TypeName (more_specs (Enum None (some_enumerator_list (more_enumerators (Enumerator t (some_expr cast) two) no_enumerators)) false three) no_specs) Missing []) three)
value_before = record { specs = (((record { specs = ((refl, refl), tt); behind = tt; declared = tt }, tt), tt), tt); behind = tt; declared = tt }

-- `{ if ( sizeof ( enum { T } ) ) ( T ) - 1 ; ( T ) - 1 ; }`: a subtraction in the branch, and a cast behind the statement
pub if_is_a_scope : StmtStands a_type
    (Block
    (more_items (Statement (If enumerated (ExprStmt (some_expr subtraction) one) no_stmt three)) (more_items (Statement (ExprStmt (some_expr cast) one)) no_items))
    two)
if_is_a_scope = (
  record { first = record { specs = ((tt, tt), tt); behind = tt; declared = tt }; second = (refl, tt); third = tt },
  ((record { specs = ((refl, refl), tt); behind = tt; declared = tt }, tt), tt),
)

-- `int ( * f ( int T ) ) ( int x ) { return ( T ) - 1 ; }`: the parameters of `f` are those behind its name
pub own_parameters : DefinitionStands a_type (record {
  specs = int;
  declarator = Function (Group (Pointer [] (function (codes "f") t) one) two) (more_params (Param int (Identifier (codes "x") one) []) no_params) false two;
  body = Block (more_items (Statement (Return (some_expr subtraction) two)) no_items) two;
  lines = [];
})
unfolding is_type_word is_typedef_word
own_parameters = record {
  specs = (tt, tt);
  behind = tt;
  declarator = ((tt, (tt, (record { specs = (tt, tt); behind = tt; declared = tt }, tt))), (record { specs = (tt, tt); behind = tt; declared = tt }, tt));
  body = ((refl, tt), tt);
}
