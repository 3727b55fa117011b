-- The readers of each depth are complete.
use Rattle.std.proofs.Common.{◌≡◌, ℕ, zero, suc, ◌≤◌, true, List, ◌++◌, sym, arith}
use Rattle.std.proofs.lemmas.Bool.{true≢false}
use Rattle.cx_expr.specs.Below.{Below}
use Rattle.cx_expr.specs.Exprs.{expr_from, literal_from}
use Rattle.cx_expr.specs.Initialisers.{list_from, entry_from, designator_from}
use Rattle.cx_expr.specs.Knot.{nothing, above, readers}
use Rattle.cx_lex.specs.declared.token.Punct.TheVariants as punct
use Rattle.cx_lex.specs.declared.token.Token.{Token}
use Rattle.cx_tree.specs.Depth.{expr_depth, type_name_depth, spec_depth, member_decl_depth, member_declarator_depth, enumerator_depth, declarator_depth, param_depth, initialiser_list_depth, entry_depth, designator_depth}
use Rattle.cx_tree.specs.Levels.{unary_level}
use Rattle.cx_tree.specs.Names.{Binding, new_expr, new_type_name, new_initialiser_list, new_entry, new_designator}
use Rattle.cx_tree.specs.Tokens.{expr_tokens, initialiser_list_tokens, entry_tokens, designator_tokens}
use Rattle.cx_tree.specs.Trees.{ExprTree, Name, Number, Letter, Text, Paren, Index, Call, Dot, Arrow, PostUp, PostDown, Literal, PreUp, PreDown, Unary, SizeofExpr, SizeofType, Cast, Binary, Cond, Assign, Comma, TypeNameTree, TypeName, SpecTree, Key, Typedef, Record, Enum, MemberDeclTree, MemberDecl, MemberDeclaratorTree, MemberDeclarator, EnumeratorTree, Enumerator, DeclaratorTree, Missing, Identifier, Group, Pointer, Array, Function, Identifiers, ParamTree, Param, InitialiserListTree, InitialiserList, EntryTree, Entry, DesignatorTree, Element, Member}
use Rattle.cx_tree.specs.Valid.{is_present}
use Rattle.cx_parse.proofs.ReadsDeclarators.{declarator_from_reads}
use Rattle.cx_parse.proofs.ReadsMembers.{enumerator_from_reads, member_declarator_from_reads, member_from_reads}
use Rattle.cx_parse.proofs.ReadsRecords.{spec_from_reads}
use Rattle.cx_parse.proofs.ReadsTypes.{type_name_from_reads, param_from_reads}
use Rattle.cx_parse.proofs.Stood.{ExprFits, ListFits, EntryFits, DesignatorFits, BeginsLiteral, EndsExpr, EndsAt, Reads, AllRead}

-- ---- each node has a depth

some_expr_depth : (e : ExprTree) → 1 ≤ expr_depth e
some_expr_depth (Name name lines) = omega arith
some_expr_depth (Number value ty lines) = omega arith
some_expr_depth (Letter value lines) = omega arith
some_expr_depth (Text parts lines) = omega arith
some_expr_depth (Paren inner lines) = omega arith
some_expr_depth (Index of index lines) = omega arith
some_expr_depth (Call of args lines) = omega arith
some_expr_depth (Dot of member lines) = omega arith
some_expr_depth (Arrow of member lines) = omega arith
some_expr_depth (PostUp of lines) = omega arith
some_expr_depth (PostDown of lines) = omega arith
some_expr_depth (Literal of list lines) = omega arith
some_expr_depth (PreUp on lines) = omega arith
some_expr_depth (PreDown on lines) = omega arith
some_expr_depth (Unary op on lines) = omega arith
some_expr_depth (SizeofExpr on lines) = omega arith
some_expr_depth (SizeofType of lines) = omega arith
some_expr_depth (Cast to on lines) = omega arith
some_expr_depth (Binary left op right lines) = omega arith
some_expr_depth (Cond condition if_true if_false lines) = omega arith
some_expr_depth (Assign left op right lines) = omega arith
some_expr_depth (Comma left right lines) = omega arith

some_type_depth : (t : TypeNameTree) → 1 ≤ type_name_depth t
some_type_depth (TypeName ss d lines) = omega arith

some_spec_depth : (s : SpecTree) → 1 ≤ spec_depth s
some_spec_depth (Key word lines) = omega arith
some_spec_depth (Typedef name lines) = omega arith
some_spec_depth (Record is_union tag list lines) = omega arith
some_spec_depth (Enum tag list last_comma lines) = omega arith

some_decl_depth : (m : MemberDeclTree) → 1 ≤ member_decl_depth m
some_decl_depth (MemberDecl ss list lines) = omega arith

some_member_depth : (m : MemberDeclaratorTree) → 1 ≤ member_declarator_depth m
some_member_depth (MemberDeclarator d width lines) = omega arith

some_enumerator_depth : (e : EnumeratorTree) → 1 ≤ enumerator_depth e
some_enumerator_depth (Enumerator name value lines) = omega arith

some_declarator_depth : (d : DeclaratorTree) → is_present d ≡ true → 1 ≤ declarator_depth d
some_declarator_depth Missing present = absurd (true≢false (sym present))
some_declarator_depth (Identifier name lines) present = omega arith
some_declarator_depth (Group inner lines) present = omega arith
some_declarator_depth (Pointer qualifiers of lines) present = omega arith
some_declarator_depth (Array of brackets lines) present = omega arith
some_declarator_depth (Function of ps variadic lines) present = omega arith
some_declarator_depth (Identifiers of listed lines) present = omega arith

some_param_depth : (p : ParamTree) → 1 ≤ param_depth p
some_param_depth (Param ss d lines) = omega arith

some_list_depth : (l : InitialiserListTree) → 1 ≤ initialiser_list_depth l
some_list_depth (InitialiserList _ last_comma lines) = omega arith

some_entry_depth : (e : EntryTree) → 1 ≤ entry_depth e
some_entry_depth (Entry _ init lines) = omega arith

some_designator_depth : (d : DesignatorTree) → 1 ≤ designator_depth d
some_designator_depth (Element index lines) = omega arith
some_designator_depth (Member name lines) = omega arith

too_deep : (depth : ℕ) → 1 ≤ depth → depth ≤ 0 → ⊥
too_deep depth some deep = omega arith

-- ---- one node more

-- expressions and initialisers one node deeper than `below` reads are read
pub record ExprsRead (below : Below) (most : ℕ) : Type 0 where
  pub expr : (e : ExprTree) (least : ℕ) (names : List Binding) (rest : List Token) → 1 ≤ least → least ≤ unary_level → ExprFits (suc most) least names e → EndsExpr least rest
      → Reads (expr_from below most least) (expr_tokens e) (new_expr e) e names rest
  pub literal : (e : ExprTree) (type : TypeNameTree) (lines : List ℕ) (behind : List Token) (new names : List Binding) (rest : List Token)
      → BeginsLiteral e type lines behind new → ExprFits (suc most) unary_level names e → EndsExpr unary_level rest
      → Reads (literal_from below most type lines) behind new e (names ++ new_type_name type) rest
  pub list : (l : InitialiserListTree) (names : List Binding) (rest : List Token) → ListFits (suc most) names l
      → Reads (list_from below) (initialiser_list_tokens l) (new_initialiser_list l) l names rest
  pub entry : (e : EntryTree) (names : List Binding) (rest : List Token) → EntryFits (suc most) names e → EndsAt punct.Comma punct.RightBrace rest
      → Reads (entry_from below) (entry_tokens e) (new_entry e) e names rest
  pub designator : (d : DesignatorTree) (names : List Binding) (rest : List Token) → DesignatorFits (suc most) names d
      → Reads (designator_from below) (designator_tokens d) (new_designator d) d names rest

pub above_read : (below : Below) (most : ℕ) → AllRead below most → ExprsRead below most → AllRead (above below most) (suc most)
above_read below most reads more = record {
  expr = more.expr;
  literal = more.literal;
  type_name = type_name_from_reads below most reads;
  spec = spec_from_reads below most reads;
  member = member_from_reads below most reads;
  member_declarator = member_declarator_from_reads below most reads;
  enumerator = enumerator_from_reads below most reads;
  declarator = declarator_from_reads below most reads;
  param = param_from_reads below most reads;
  list = more.list;
  entry = more.entry;
  designator = more.designator;
}

-- nothing is at most 0 nodes deep
nothing_read : AllRead nothing 0
nothing_read = record {
  expr = λ e least names rest some low fits ends. absurd (too_deep (expr_depth e) (some_expr_depth e) fits.deep);
  literal = λ e type lines behind new names rest begins fits ends. absurd (too_deep (expr_depth e) (some_expr_depth e) fits.deep);
  type_name = λ t names rest fits ends free. absurd (too_deep (type_name_depth t) (some_type_depth t) fits.deep);
  spec = λ s names rest fits free. absurd (too_deep (spec_depth s) (some_spec_depth s) fits.deep);
  member = λ m names rest fits. absurd (too_deep (member_decl_depth m) (some_decl_depth m) fits.deep);
  member_declarator = λ m names rest fits ends. absurd (too_deep (member_declarator_depth m) (some_member_depth m) fits.deep);
  enumerator = λ e names rest fits ends. absurd (too_deep (enumerator_depth e) (some_enumerator_depth e) fits.deep);
  declarator = λ form d names rest fits ends. absurd (too_deep (declarator_depth d) (some_declarator_depth d fits.valid.present) fits.deep);
  param = λ p names rest fits ends. absurd (too_deep (param_depth p) (some_param_depth p) fits.deep);
  list = λ l names rest fits. absurd (too_deep (initialiser_list_depth l) (some_list_depth l) fits.deep);
  entry = λ e names rest fits ends. absurd (too_deep (entry_depth e) (some_entry_depth e) fits.deep);
  designator = λ d names rest fits. absurd (too_deep (designator_depth d) (some_designator_depth d) fits.deep);
}

-- the readers of each depth are complete, where those of expressions and initialisers are one node above what is read
pub readers_read : ((below : Below) (most : ℕ) → AllRead below most → ExprsRead below most) → (depth : ℕ) → AllRead (readers depth) depth
unfolding readers
readers_read more zero = nothing_read
readers_read more (suc depth) = let reads = readers_read more depth in above_read (readers depth) depth reads (more (readers depth) depth reads)
